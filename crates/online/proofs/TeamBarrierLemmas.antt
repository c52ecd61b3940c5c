-- What is kept of teams where a task begins a barrier.
use Rattle.std.proofs.Common.{◌≡◌, ◌∙◌, ℕ, ◌<◌, ◌≤◌, ◌+◌, Bool, List, [], ◌∷◌, ◌++◌}
use Rattle.std.proofs.Common.{length, Option, Some, None, refl, sym, ap, subst, arith, inl, inr, ◌⊎◌}
use Rattle.std.specs.Prelude.{Contains}
use Rattle.std.specs.Option.{option_map_or}
use Rattle.std.proofs.lemmas.Bool.{cases_eq, cases_lt}
use Rattle.std.proofs.lemmas.Option.{none-some, same_Some}
use Rattle.ompt_events.specs.declared.records.Record.{Record}
use Rattle.ompt_events.specs.declared.records.Body.{Body}
use Rattle.ompt_events.specs.declared.records.Body.TheVariants.{SyncRegion}
use Rattle.ompt_events.specs.declared.names.SyncKind.{SyncKind}
use Rattle.ompt_events.specs.declared.names.SyncKind.TheVariants.{Taskgroup}
use Rattle.ompt_events.specs.declared.names.Endpoint.{Endpoint}
use Rattle.ompt_events.specs.declared.names.Endpoint.TheVariants.{Begin, End, BeginEnd}
use Rattle.ompt_events.specs.Records.{made, joined, creation, region}
use Rattle.ompt_events.specs.Tree.{IsCreatedAt}
use Rattle.ompt_events.specs.Teams.{members}
use Rattle.ompt_events.specs.Regions.{barrier_begun}
use Rattle.ompt_events.proofs.ListLemmas.{contains_get}
use Rattle.online.specs.declared.kin.Kin.{Kin}
use Rattle.online.specs.declared.team.Team.{Team}
use Rattle.online.specs.Waits.{ChangesAt, is_kept, IsScopeOf, IsSettled, MayFollow}
use Rattle.online.specs.declared.scope.Scope.{Scope}
use Rattle.online.specs.declared.phase.Phase.{Phase}
use Rattle.online.specs.Teams.{CountsBarrier, CountsBegin, phase_at, ahead, IsMemberOf, IsInTeams}
use Rattle.online.specs.Teams.{no_phase, phase_of, phase_in, with_begin, AreSettledUpTo, IsInPhase, IsTeamOf}
use Rattle.online.specs.Teams.{AreTeamsBefore, AreTeamsOf, ChangesTeamOf}
use Rattle.online.proofs.OpenGroupLemmas.{grouped as grouped'}
use Rattle.online.proofs.GrowLemmas.{said_before}
use Rattle.online.proofs.ViewLemmas.{IsFrom, changed_from, kept_same}
use Rattle.online.proofs.StayLemmas.{by_none, made_none}
use Rattle.online.proofs.PhaseLemmas.{phase_few, phase_more, phase_stays, members_stay}
use Rattle.online.proofs.RosterLemmas.{Grows, grows_one, ahead_more, team_moves, team_same, AreBack, AreKept}
use Rattle.online.proofs.RosterLemmas.{tells_moves, told_same, phase_back}
use Rattle.online.proofs.EndedLemmas.{ends_grow}
use Rattle.online.proofs.GoneLemmas.{team_over_moves}
use Rattle.online.proofs.TeamStepLemmas.{TeamFrom, team_of_from, team_none, changes_rise}

-- ---- a barrier begins

pub barrier_made : (task : ℕ) (b : Body) → barrier_begun (region b) ≡ Some task
    → (made b ≡ None) × (joined b ≡ None)
barrier_made task (SyncRegion kind endpoint parallel own) begins = (refl, refl)
barrier_made task _ begins = cc

-- it begins no taskgroup
barrier_kind : (task own : ℕ) (kind : SyncKind) (endpoint : Endpoint)
    → barrier_begun (Some (own, kind, endpoint)) ≡ Some task → grouped' (Some (own, kind, endpoint)) ≡ None
barrier_kind task own Taskgroup Begin begins = cc
barrier_kind task own Taskgroup End begins = cc
barrier_kind task own Taskgroup BeginEnd begins = refl
barrier_kind task own _ endpoint begins = refl

pub barrier_grouped : (task : ℕ) (b : Body) → barrier_begun (region b) ≡ Some task
    → grouped' (region b) ≡ None
barrier_grouped task (SyncRegion kind endpoint parallel own) begins =
    barrier_kind task own kind endpoint begins
barrier_grouped task _ begins = cc

-- the begin of one member more is counted, where one member more has begun the barrier
with_begin_is : (rs : List Record) (kept : ℕ → Bool) (parallel number : ℕ) (team after : Team)
    → IsTeamOf rs kept parallel team → CountsBegin number team after
    → ((p : Phase) → phase_of team number ≡ Some p → p.begun + 1 ≤ ahead rs (members rs parallel) number)
    → 1 ≤ ahead rs (members rs parallel) number → IsTeamOf rs kept parallel after
with_begin_is rs kept parallel number team after is changed more one = record {
  actual = λ m has.
      let e = changed.keeps.actual in
      let h = is.actual m has in
      omega (arith, e, h);
  ended =
      let e = changed.keeps.ended in
      let h = is.ended in
      omega (arith, e, h);
  joined = changed.keeps.joined ∙ is.joined;
  begun = λ other p there. begun_of other p (was_of other p there);
  going = λ other late.
      let e = changed.keeps.over in
      let P : Scope → Type 0 =
      λ s. IsScopeOf (length rs) (IsInPhase rs parallel (λ k. k ≡ other)) kept (IsSettled rs) s in
      subst P (scope_of other (omega (arith, e, late))) (is.going other (omega (arith, e, late)));
  over = λ child has.
      let P : ℕ → Type 0 = λ n. IsSettled rs n child in
      let Q : ℕ → Type 0 = λ n. IsInPhase rs parallel (λ k. k < n) child in
      subst P (sym changed.keeps.greatest) (is.over child (subst Q changed.keeps.over has));
  each = λ other p low there child has.
      let e = changed.keeps.over in each_of other p (omega (arith, e, low)) (was_of other p there) child has;
}
  where
    -- what a phase that is kept was
    Was : ℕ → Phase → Type 0
    Was other p =
        ((q : Phase) × (phase_of team other ≡ Some q) × (p.scope ≡ q.scope)
        × ((p.begun ≤ q.begun) ⊎ ((other ≡ number) × (p.begun ≤ q.begun + 1))))
        ⊎ ((other ≡ number) × (team.over ≤ other) × (p.begun ≤ 1))

    begin_few : (q : Phase) → (with_begin q).begun ≤ q.begun + 1
    begin_few q = omega arith

    was_here : (p : Phase) → phase_of after number ≡ Some p → (it : Option Phase) → phase_of team number ≡ it
        → Was number p
    was_here p there (Some q) e =
        let same : with_begin q ≡ p = same_Some (with_begin q) p (sym (changed.known q e) ∙ there) in
        let few = begin_few q in
        let b = ap (λ (x : Phase). x.begun) same in
        inl (q, e, ap (λ (x : Phase). x.scope) (sym same), inr (refl, omega (arith, few, b)))
    was_here p there None e = elim (cases_lt number team.over) [
      | inl low ↦ absurd (none-some p (sym (changed.gone e low) ∙ there))
      | inr late ↦
          let same : with_begin no_phase ≡ p = same_Some (with_begin no_phase) p (sym (changed.fresh e late) ∙
          there) in
          let few = begin_few no_phase in
          let b = ap (λ (x : Phase). x.begun) same in
          inr (refl, late, omega (arith, few, b))
    ]

    was_of : (other : ℕ) (p : Phase) → phase_of after other ≡ Some p → Was other p
    was_of other p there = elim (cases_eq other number) [
      | inl same ↦
          let P : ℕ → Type 0 = λ n. Was n p in
          subst P (sym same)
          (was_here p (ap (phase_of after) (sym same) ∙ there) (phase_of team number) refl)
      | inr apart ↦
          inl (p, sym (changed.others other apart) ∙ there, refl, inl (omega arith))
    ]

    begun_of : (other : ℕ) (p : Phase) → Was other p → p.begun ≤ ahead rs (members rs parallel) other
    begun_of other p (inl (q, found, scope, inl few)) =
        let h = is.begun other q found in omega (arith, h, few)
    begun_of other p (inl (q, found, scope, inr (same, few))) =
        let h = more q (ap (phase_of team) (sym same) ∙ found) in
        let e = ap (ahead rs (members rs parallel)) same in
        omega (arith, h, few, e)
    begun_of other p (inr (same, late, few)) =
        let e = ap (ahead rs (members rs parallel)) same in omega (arith, one, few, e)

    each_of : (other : ℕ) (p : Phase) → other < team.over → Was other p
        → AreSettledUpTo rs parallel other p.scope.greatest
    each_of other p low (inl (q, found, scope, how)) child has =
        let P : Scope → Type 0 = λ s. IsSettled rs s.greatest child in
        subst P (sym scope) (is.each other q low found child has)
    each_of other p low (inr (same, late, few)) child has = absurd (omega (arith, low, late))

    scope_here : (late : team.over ≤ number) (it : Option Phase) → phase_of team number ≡ it
        → (phase_in team number).scope ≡ (phase_in after number).scope
    scope_here late (Some q) e =
        ap (λ (o : Option Phase). (option_map_or (λ (p : Phase). p) o no_phase).scope) e
        ∙ sym (ap (λ (o : Option Phase). (option_map_or (λ (p : Phase). p) o no_phase).scope) (changed.known q
        e))
    scope_here late None e =
        ap (λ (o : Option Phase). (option_map_or (λ (p : Phase). p) o no_phase).scope) e
        ∙ sym (ap (λ (o : Option Phase). (option_map_or (λ (p : Phase). p) o no_phase).scope) (changed.fresh e
        late))

    scope_of : (other : ℕ) → team.over ≤ other → (phase_in team other).scope ≡ (phase_in after other).scope
    scope_of other late = elim (cases_eq other number) [
      | inl same ↦
          let P : ℕ → Type 0 = λ n. (phase_in team n).scope ≡ (phase_in after n).scope in
          let Q : ℕ → Type 0 = λ n. team.over ≤ n in
          subst P (sym same) (scope_here (subst Q same late) (phase_of team number) refl)
      | inr apart ↦
          ap (λ (o : Option Phase). (option_map_or (λ (p : Phase). p) o no_phase).scope)
          (sym (changed.others other apart))
    ]

module _ (rs : List Record) (r : Record) (task : ℕ) (old new : ℕ → Option Kin) (was : Kin)
    (teams after_teams : ℕ → Option Team) (begins : barrier_begun (region r.body) ≡ Some task)
    (follows : MayFollow rs r) (found : old task ≡ Some was) (counts : ChangesAt CountsBarrier task old new)
    (changes : ChangesTeamOf (CountsBegin was.barriers) was.team teams after_teams)
    (is : AreTeamsOf rs old teams) where
  none : creation r.body ≡ None
  none = made_none r.body (barrier_made task r.body begins).0

  grows : Grows rs (rs ++ r ∷ [])
  grows = grows_one rs r (by_none rs r none)

  same_members : (parallel : ℕ) → members (rs ++ r ∷ []) parallel ≡ members rs parallel
  same_members parallel =
      members_stay rs r parallel
      (λ m joins. absurd (none-some m (sym (barrier_made task r.body begins).1 ∙ joins)))

  member_back : (parallel other : ℕ) → IsMemberOf (rs ++ r ∷ []) parallel other → IsMemberOf rs parallel other
  member_back parallel other (m, has, e) = (m, subst (λ ms. Contains ms m) (same_members parallel) has, e)

  member_forth : (parallel other : ℕ) → IsMemberOf rs parallel other
      → IsMemberOf (rs ++ r ∷ []) parallel other
  member_forth parallel other (m, has, e) =
      (m, subst (λ ms. Contains ms m) (sym (same_members parallel)) has, e)

  back : (i parent child : ℕ) → IsCreatedAt (rs ++ r ∷ []) i parent child → IsCreatedAt rs i parent child
  back i parent child = said_before creation rs r none i (parent, child)

  place : IsInTeams rs task was
  place = is.places task was found

  -- the number of the barrier that begins
  number_is : phase_at rs task (length rs) ≡ was.barriers
  number_is = sym place.barriers

  own_place : (after : Kin) → CountsBarrier was after → IsInTeams (rs ++ r ∷ []) task after
  own_place after changed = record {
    barriers =
        let e = changed.barriers in
        let f = place.barriers in
        let g = phase_more rs r task begins in
        let h = phase_few rs task (length rs) in
        let k = follows.few in
        omega (arith, e, f, g, h, k);
    team = λ parallel member. changed.team ∙ place.team parallel (member_back parallel task member);
    member = λ parallel e. member_forth parallel task (place.member parallel (sym changed.team ∙ e));
    initial = λ free single.
        grows.initial task
        (place.initial (sym changed.rest.place.parent ∙ free) (sym changed.team ∙ single));
    phase = λ i parent creates.
        let here = back i parent task creates in
        changed.phase ∙ place.phase i parent here
        ∙ sym (phase_back rs (rs ++ r ∷ []) grows i parent task here);
    parent_team = λ i parent parallel creates member.
        changed.parent_team
        ∙ place.parent_team i parent parallel (back i parent task creates) (member_back parallel parent
        member);
    parent_member = λ parallel e.
        let (i, parent, creates, member) = place.parent_member parallel (sym changed.parent_team ∙ e) in
        (i, parent, grows.moves.creates i parent task creates, member_forth parallel parent member);
  }

  back_here : (parallel : ℕ) → AreBack rs (rs ++ r ∷ []) parallel
  back_here parallel i parent child member creates = record {
    member = member_back parallel parent member;
    creates = back i parent child creates;
  }

  kept_here : (parallel : ℕ) → AreKept rs parallel (is_kept old) (is_kept new)
  kept_here parallel i parent child member creates = kept_same CountsBarrier task old new counts child

  moved : (parallel : ℕ) (team : Team) → teams parallel ≡ Some team
      → IsTeamOf (rs ++ r ∷ []) (is_kept new) parallel team
  moved parallel team kept =
      team_moves rs (rs ++ r ∷ []) parallel (is_kept old) (is_kept new) team team grows
      (same_members parallel)
      (back_here parallel) (kept_here parallel) (team_same team) (is.each parallel team kept)

  -- one member more has begun the barrier
  counted : (parallel : ℕ) → was.team ≡ Some parallel
      → ahead rs (members rs parallel) was.barriers + 1
      ≤ ahead (rs ++ r ∷ []) (members (rs ++ r ∷ []) parallel) was.barriers
  counted parallel own =
      let (m, has, same_task) = place.member parallel own in
      let (k, at_k) = contains_get (members rs parallel) m has in
      let before = ap (λ t. phase_at rs t (length rs)) same_task in
      let behind = ap (λ t. phase_at (rs ++ r ∷ []) t (length (rs ++ r ∷ []))) same_task in
      let more = phase_more rs r task begins in
      let number = number_is in
      let same = ap (λ ms. ahead (rs ++ r ∷ []) ms was.barriers) (same_members parallel) in
      let h =
      ahead_more rs (rs ++ r ∷ []) grows (members rs parallel) m was.barriers k at_k
      (omega (arith, before, number)) (omega (arith, behind, more, number)) in
      omega (arith, same, h)

  begun_team : (parallel : ℕ) (team after : Team) → was.team ≡ Some parallel → teams parallel ≡ Some team
      → CountsBegin was.barriers team after → IsTeamOf (rs ++ r ∷ []) (is_kept new) parallel after
  begun_team parallel team after own kept changed =
      with_begin_is (rs ++ r ∷ []) (is_kept new) parallel was.barriers team after
      (moved parallel team kept) changed
      (λ p there.
      let few = (is.each parallel team kept).begun was.barriers p there in
      let more = counted parallel own in
      omega (arith, few, more))
      (let more = counted parallel own in omega (arith, more))

  pub begin_teams : AreTeamsBefore (rs ++ r ∷ []) (length rs) new after_teams
  begin_teams = record {
    places = λ other after there.
        place_of other after (changed_from CountsBarrier task old new counts other after there);
    each = λ parallel after there. team_is parallel after (from parallel after there);
    absent = λ parallel none'.
        team_over_moves rs (rs ++ r ∷ []) parallel grows.gone (same_members parallel)
        (is.absent parallel
        (team_none (CountsBegin was.barriers) was.team teams after_teams changes parallel none'));
    ends =
        ends_grow rs r old teams after_teams follows
        (λ parent child parallel team creates. absurd (none-some (parent, child) (sym none ∙ creates)))
        (changes_rise (CountsBegin was.barriers) was.team rs r teams after_teams changes
        (λ before after changed. let e = changed.keeps.over in omega (arith, e)) same_members) is;
  }
    where
      place_of : (other : ℕ) (after : Kin) → IsFrom CountsBarrier (other ≡ task) old other after
          → IsInTeams (rs ++ r ∷ []) other after
      place_of other after it = by it.how
        where
          by : ((other ≡ task) × CountsBarrier it.was after) ⊎ ((other ≡ task → ⊥) × (it.was ≡ after))
              → IsInTeams (rs ++ r ∷ []) other after
          by (inl (same, changed)) =
              let P : ℕ → Type 0 = λ t. IsInTeams (rs ++ r ∷ []) t after in
              let e : it.was ≡ was = same_Some it.was was (sym it.kept ∙ ap old same ∙ found) in
              let Q : Kin → Type 0 = λ k. CountsBarrier k after in
              subst P (sym same) (own_place after (subst Q e changed))
          by (inr (apart, same)) =
              let P : Kin → Type 0 = λ k. IsInTeams (rs ++ r ∷ []) other k in
              subst P same
              (tells_moves rs (rs ++ r ∷ []) other it.was it.was grows
              (record {
                own = λ i parent creates. back i parent other creates;
                barriers =
                    phase_stays rs r other (λ e. apart (sym (same_Some task other (sym begins ∙ e))));
                back = λ parallel member. member_back parallel other member;
                forth = λ parallel mate member. member_forth parallel mate member;
                above = λ i parent parallel creates member. member_back parallel parent member;
              })
              refl (told_same it.was) (is.places other it.was it.kept))

      from : (parallel : ℕ) (after : Team) → after_teams parallel ≡ Some after
          → TeamFrom (CountsBegin was.barriers) (was.team ≡ Some parallel) teams parallel after
      from = team_of_from (CountsBegin was.barriers) was.team teams after_teams changes

      team_is : (parallel : ℕ) (after : Team)
          → TeamFrom (CountsBegin was.barriers) (was.team ≡ Some parallel) teams parallel after
          → IsTeamOf (rs ++ r ∷ []) (is_kept new) parallel after
      team_is parallel after it = by it.how
        where
          by : ((was.team ≡ Some parallel) × CountsBegin was.barriers it.was after)
              ⊎ ((was.team ≡ Some parallel → ⊥) × (it.was ≡ after))
              → IsTeamOf (rs ++ r ∷ []) (is_kept new) parallel after
          by (inl (own, changed)) = begun_team parallel it.was after own it.kept changed
          by (inr (apart, same)) =
              subst (λ t. IsTeamOf (rs ++ r ∷ []) (is_kept new) parallel t) same
              (moved parallel it.was it.kept)
