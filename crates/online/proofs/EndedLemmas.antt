-- What is kept of the ends of barriers where one more record follows.
use Rattle.std.proofs.Common.{◌≡◌, ◌∙◌, ℕ, zero, suc, ◌<◌, ◌≤◌, true, List, [], ◌∷◌, ◌++◌, length, Option}
use Rattle.std.proofs.Common.{Some, None, refl, sym, ap, subst, arith, inl, inr, ◌⊎◌}
use Rattle.std.specs.Prelude.{Contains}
use Rattle.std.proofs.lemmas.Bool.{cases_eq, cases_lt}
use Rattle.std.proofs.lemmas.Option.{none-some, same_Some}
use Rattle.std.proofs.lemmas.List.{length_push}
use Rattle.std.proofs.lemmas.List.Elements.{Contains-append_cases}
use Rattle.ompt_events.specs.declared.records.Record.{Record}
use Rattle.ompt_events.specs.declared.records.Membership.{Membership}
use Rattle.ompt_events.specs.declared.names.SyncKind.{SyncKind}
use Rattle.ompt_events.specs.declared.names.Endpoint.{Endpoint}
use Rattle.ompt_events.specs.declared.names.Endpoint.TheVariants.{Begin, End, BeginEnd}
use Rattle.ompt_events.specs.Records.{made, joined, creation, region, running}
use Rattle.ompt_events.specs.Places.{at, seen_at}
use Rattle.ompt_events.specs.Teams.{members}
use Rattle.ompt_events.specs.Regions.{is_barrier, IsRegion, ended, at_once, IsBarrierBegin}
use Rattle.ompt_events.specs.Causes.{IsMade}
use Rattle.ompt_events.proofs.PlaceLemmas.{at_within}
use Rattle.ompt_events.proofs.RecordLemmas.{member_made}
use Rattle.online.specs.declared.kin.Kin.{Kin}
use Rattle.online.specs.declared.team.Team.{Team}
use Rattle.online.specs.Waits.{IsSettled, IsLive, IsOver, MayFollow}
use Rattle.online.specs.Teams.{phase_at, IsMemberOf, EndsBarrierAt, AreSettledUpTo, AreEndsOver}
use Rattle.online.specs.Teams.{AreTeamsBefore, AreTeamsOf}
use Rattle.online.proofs.ReadLemmas.{IsSameTo, same_append, at_same, seen_same}
use Rattle.online.proofs.OpenGroupLemmas.{at_last}
use Rattle.online.proofs.BarrierLemmas.{region_same, region_begin, barrier_begin_back, barrier_runs}
use Rattle.online.proofs.GrowLemmas.{IsByLive, said_cases, said_grows, settled_grows, created_fresh}
use Rattle.online.proofs.StayLemmas.{creator_made, runner_made}
use Rattle.online.proofs.PhaseLemmas.{phase_same, phase_rises, members_stay, members_join}
use Rattle.online.proofs.GoneLemmas.{gone_over}

-- ---- members that were made before

-- who was made before is a member only if it was one before
pub member_made_before : (rs : List Record) (r : Record) → MayFollow rs r → (parallel task : ℕ)
    → IsMade rs task → IsMemberOf (rs ++ r ∷ []) parallel task → IsMemberOf rs parallel task
member_made_before rs r follows parallel task found (m, has, is) = of (joined r.body) refl
  where
    stays : ((x : Membership) → joined r.body ≡ Some x → x.parallel ≡ parallel → ⊥)
        → IsMemberOf rs parallel task
    stays apart = (m, subst (λ ms. Contains ms m) (members_stay rs r parallel apart) has, is)

    joins : (x : Membership) → joined r.body ≡ Some x → x.parallel ≡ parallel → IsMemberOf rs parallel task
    joins x e same =
        let P : ℕ → Type 0 = λ p. members (rs ++ r ∷ []) p ≡ members rs p ++ x ∷ [] in
        let more : members (rs ++ r ∷ []) parallel ≡ members rs parallel ++ x ∷ [] =
        subst P same (members_join rs r x e) in
        elim
        (Contains-append_cases (members rs parallel) (x ∷ []) m (subst (λ ms. Contains ms m) more has)) [
          | inl old ↦ (m, old, is)
          | inr last ↦ absurd (created_fresh rs r follows.once task (new last) found)
        ]
      where
        new : Contains (x ∷ []) m → made r.body ≡ Some task
        new (zero, low, here) =
            member_made x r.body e ∙ ap Some (ap (λ (y : Membership). y.member) here ∙ is)
        new (suc k, low, here) = absurd (omega (arith, low))

    of : (o : Option Membership) → joined r.body ≡ o → IsMemberOf rs parallel task
    of None e = stays (λ x e' same. none-some x (sym e ∙ e'))
    of (Some x) e = elim (cases_eq x.parallel parallel) [
      | inl same ↦ joins x e same
      | inr apart ↦ stays (λ y e' same.
          let there : x ≡ y = same_Some x y (sym e ∙ e') in
          apart (ap (λ (z : Membership). z.parallel) there ∙ same))
    ]

-- ---- the end of a barrier that was read before

end_before : (rs : List Record) (r : Record) → MayFollow rs r → (i parallel number : ℕ) → i < length rs
    → EndsBarrierAt (rs ++ r ∷ []) parallel number i → EndsBarrierAt rs parallel number i
end_before rs r follows i parallel number below is = record {
  own = is.own;
  begin = is.begin;
  kind = is.kind;
  ends = region_same (length rs) (rs ++ r ∷ []) rs same i is.own is.kind is.begin below is.ends;
  barrier = is.barrier;
  begins = begins;
  member = member_made_before rs r follows parallel is.own runs is.member;
}
  where
    same : IsSameTo (length rs) (rs ++ r ∷ []) rs
    same = same_append rs (r ∷ [])

    begins : IsBarrierBegin rs is.own number is.begin
    begins =
        let longer = length_push rs r in
        let early = region_begin (rs ++ r ∷ []) i is.own is.kind is.begin is.ends in
        barrier_begin_back (length rs) (rs ++ r ∷ []) rs same (omega (arith, longer)) refl is.own number
        is.begin (omega (arith, early, below)) is.begins

    runs : IsMade rs is.own
    runs = made_before (barrier_runs rs is.own number is.begin begins)
      where
        made_before : at running rs is.begin ≡ Some is.own → IsMade rs is.own
        made_before runs' =
            let inside = at_within running rs is.begin is.own runs' in
            let (k, low, says) =
            runner_made (rs ++ r ∷ []) follows.watchable is.begin is.own
            (said_grows running rs r is.begin is.own runs') in
            (k, sym (at_same made (length rs) (rs ++ r ∷ []) rs same k (omega (arith, inside, low))) ∙ says)

-- ---- one more record

-- of a team something was kept before, where no more phases were over, or it had no member; where nothing is
-- kept of it, nothing was, and its members are the same
pub record TeamsRise (rs : List Record) (r : Record) (teams after : ℕ → Option Team) : Type 0 where
  pub kept : (parallel : ℕ) (team : Team) → after parallel ≡ Some team
      → ((was : Team) × (teams parallel ≡ Some was) × (was.over ≤ team.over)) ⊎ (members rs parallel ≡ [])
  pub none : (parallel : ℕ) → after parallel ≡ None
      → (teams parallel ≡ None) × (members (rs ++ r ∷ []) parallel ≡ members rs parallel)

-- so where the teams stay
pub teams_stay : (rs : List Record) (r : Record) (teams : ℕ → Option Team)
    → ((parallel : ℕ) → members (rs ++ r ∷ []) parallel ≡ members rs parallel) → TeamsRise rs r teams teams
teams_stay rs r teams same = record {
  kept = λ parallel team found. inl (team, found, omega arith);
  none = λ parallel none. (none, same parallel);
}

pub ends_grow : (rs : List Record) (r : Record) (old : ℕ → Option Kin) (teams after : ℕ → Option Team)
    → MayFollow rs r
    → ((parent child parallel : ℕ) (team : Team) → creation r.body ≡ Some (parent, child)
    → IsMemberOf rs parallel parent → teams parallel ≡ Some team
    → team.over ≤ phase_at rs parent (length rs))
    → TeamsRise rs r teams after → AreTeamsOf rs old teams → AreEndsOver (rs ++ r ∷ []) (length rs) after
ends_grow rs r old teams after follows going rises is = record {
  settled = λ i parallel number below ends child has.
      settled i parallel number below (end_before rs r follows i parallel number below ends) child has;
  over = λ i parallel number team below ends kept.
      let there = end_before rs r follows i parallel number below ends in
      elim (rises.kept parallel team kept) [
        | inl (was, found, more) ↦
            let less = is.ends.over i parallel number was below there found in omega (arith, less, more)
        | inr empty ↦
            let (m, (k, low, at_k), e) = there.member in
            let none = ap length empty in
            absurd (omega (arith, none, low))
      ];
  gone = λ i parallel number m below ends none has.
      let (absent, same) = rises.none parallel none in
      let there = end_before rs r follows i parallel number below ends in
      let h =
      is.ends.gone i parallel number m below there absent (subst (λ ms. Contains ms m) same has) in
      let e = ap (phase_at (rs ++ r ∷ []) m.member) (length_push rs r) in
      let f = phase_rises (rs ++ r ∷ []) m.member (length rs) 1 in
      let g = phase_same rs r m.member (length rs) (omega arith) in
      omega (arith, e, f, g, h);
}
  where
    live : IsByLive rs r
    live parent task creates over = (follows.creates parent task creates).1 over

    -- something is kept of the team of a member that is live
    team_of : (parallel task : ℕ) → IsMemberOf rs parallel task → IsLive rs task
        → (team : Team) × (teams parallel ≡ Some team)
    team_of parallel task (m, has, e) lives = of (teams parallel) refl
      where
        of : (o : Option Team) → teams parallel ≡ o → (team : Team) × (teams parallel ≡ Some team)
        of None none =
            let P : ℕ → Type 0 = λ t. IsOver rs t in
            absurd (lives.1 (subst P e (gone_over rs m.member ((is.absent parallel none).ended m has))))
        of (Some team) found = (team, found)

    settled : (i parallel number : ℕ) → i < length rs → EndsBarrierAt rs parallel number i
        → AreSettledUpTo (rs ++ r ∷ []) parallel number (seen_at (rs ++ r ∷ []) i)
    settled i parallel number below ends child (j, parent, member, creates, phase) =
        elim (said_cases creation rs r j (parent, child) creates) [
          | inl old' ↦
              let mate =
              member_made_before rs r follows parallel parent
              (creator_made rs r follows.watchable j parent child old') member in
              let inside = at_within creation rs j (parent, child) old' in
              let same = phase_same rs r parent j (omega (arith, inside)) in
              let seen = seen_same (length rs) (rs ++ r ∷ []) rs (same_append rs (r ∷ [])) i below in
              let was =
              is.ends.settled i parallel number below ends child
              (j, parent, mate, old', omega (arith, same, phase)) in
              let P : ℕ → Type 0 = λ n. IsSettled (rs ++ r ∷ []) n child in
              subst P (sym seen) (settled_grows rs r live child (seen_at rs i) was)
          | inr (last, new) ↦
              let mate =
              member_made_before rs r follows parallel parent (follows.creates parent child new).0 member in
              let (team, found) = team_of parallel parent mate (follows.creates parent child new) in
              let over = is.ends.over i parallel number team below ends found in
              let late = going parent child parallel team new mate found in
              let here = ap (phase_at (rs ++ r ∷ []) parent) last in
              let same = phase_same rs r parent (length rs) (omega arith) in
              absurd (omega (arith, over, late, here, same, phase))
        ]

pub ends_last : (rs : List Record) (r : Record) (table : ℕ → Option Kin) (teams : ℕ → Option Team)
    → ((own : ℕ) (kind : SyncKind) (endpoint : Endpoint) → region r.body ≡ Some (own, kind, endpoint)
    → is_barrier kind ≡ true → endpoint ≡ Begin)
    → AreTeamsBefore (rs ++ r ∷ []) (length rs) table teams → AreTeamsOf (rs ++ r ∷ []) table teams
ends_last rs r table teams begins is = record {
  places = is.places;
  each = is.each;
  absent = is.absent;
  ends = record {
    settled = λ i parallel number inside ends.
        is.ends.settled i parallel number (before i parallel number inside ends) ends;
    over = λ i parallel number team inside ends kept.
        is.ends.over i parallel number team (before i parallel number inside ends) ends kept;
    gone = λ i parallel number m inside ends none has.
        is.ends.gone i parallel number m (before i parallel number inside ends) ends none has;
  };
}
  where
    none : (own : ℕ) (kind : SyncKind) (begin : ℕ) → is_barrier kind ≡ true
        → IsRegion (rs ++ r ∷ []) (length rs) own kind begin → ⊥
    none own kind begin barrier (ended it) =
        absurd (end_begin (begins own kind End (sym (at_last region rs r) ∙ it.ends) barrier))
      where
        end_begin : End ≡ Begin → ⊥
        end_begin e = cc
    none own kind _ barrier (at_once says) =
        absurd (end_begin (begins own kind BeginEnd (sym (at_last region rs r) ∙ says) barrier))
      where
        end_begin : BeginEnd ≡ Begin → ⊥
        end_begin e = cc

    before : (i parallel number : ℕ) → i < length (rs ++ r ∷ [])
        → EndsBarrierAt (rs ++ r ∷ []) parallel number i → i < length rs
    before i parallel number inside ends = elim (cases_lt i (length rs)) [
      | inl below ↦ below
      | inr past ↦
          let longer = length_push rs r in
          let last : i ≡ length rs = omega (arith, past, inside, longer) in
          let P : ℕ → Type 0 = λ j. IsRegion (rs ++ r ∷ []) j ends.own ends.kind ends.begin in
          absurd (none ends.own ends.kind ends.begin ends.barrier (subst P last ends.ends))
    ]
