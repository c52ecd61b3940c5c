-- What is kept of teams where a task creates a child.
use Rattle.std.proofs.Common.{◌≡◌, ◌≢◌, ◌∙◌, ℕ, ◌<◌, ◌≤◌, List, []}
use Rattle.std.proofs.Common.{◌∷◌, ◌++◌, length, Option, Some, None, refl, sym, ap, subst, arith, inl, inr}
use Rattle.std.proofs.Common.{◌⊎◌}
use Rattle.std.specs.Prelude.{Contains}
use Rattle.std.specs.Option.{option_map_or}
use Rattle.std.proofs.lemmas.Bool.{cases_eq}
use Rattle.std.proofs.lemmas.Option.{none-some, same_Some}
use Rattle.ompt_events.specs.declared.records.Record.{Record}
use Rattle.ompt_events.specs.declared.records.Body.{Body}
use Rattle.ompt_events.specs.declared.records.Body.TheVariants.{TaskCreate}
use Rattle.ompt_events.specs.Records.{joined, creation}
use Rattle.ompt_events.specs.Tree.{IsCreatedAt}
use Rattle.ompt_events.specs.Teams.{members}
use Rattle.ompt_events.specs.Regions.{barrier_begun}
use Rattle.ompt_events.specs.Causes.{IsMade}
use Rattle.online.specs.declared.scope.Scope.{Scope}
use Rattle.online.specs.declared.kin.Kin.{Kin}
use Rattle.online.specs.declared.phase.Phase.{Phase}
use Rattle.online.specs.declared.team.Team.{Team}
use Rattle.online.specs.Waits.{with_task, IsScopeOf, IsSettled, is_kept}
use Rattle.online.specs.Teams.{IsTold, IsCreatedIn, phase_at, IsMemberOf, IsInTeams, IsInPhase, ahead}
use Rattle.online.specs.Teams.{no_phase, phase_of, phase_in, with_child, IsTeamOf, AreTeamsBefore, AreTeamsOf}
use Rattle.online.specs.Teams.{ChangesTeamOf, gone_of}
use Rattle.online.proofs.ScopeLemmas.{scope_same, scope_enter}
use Rattle.online.proofs.StayLemmas.{child_made}
use Rattle.online.proofs.CreateLemmas.{Creates, unmade, parent_apart, live, kept_here, kept_other, own_back}
use Rattle.online.proofs.CreateLemmas.{kids_back, kids_cases, child_by, no_region, longer, small, Whose}
use Rattle.online.proofs.CreateLemmas.{parents}
use Rattle.online.proofs.CreateLemmas.{childs, others, whose}
use Rattle.online.proofs.PhaseLemmas.{phase_same, phase_stays, members_stay, member_is_made}
use Rattle.online.proofs.RosterLemmas.{Grows, grows_one, team_moves, team_same, TellsSame, tells_moves}
use Rattle.online.proofs.RosterLemmas.{told_same, phase_back, IsBack, ahead_rises}
use Rattle.online.proofs.EndedLemmas.{ends_grow}
use Rattle.online.proofs.GoneLemmas.{gone_rises, team_over_moves}
use Rattle.online.proofs.OpenGroupLemmas.{at_last}
use Rattle.online.proofs.TeamStepLemmas.{TeamFrom, team_of_from, team_none, changes_rise}
use Rattle.online.proofs.UnmadeLemmas.{unmade_phase}

creation_joined : (parent child : ℕ) (b : Body) → creation b ≡ Some (parent, child) → joined b ≡ None
creation_joined parent child (TaskCreate deps flags task other) creates = refl
creation_joined parent child _ creates = cc

module _ (rs : List Record) (r : Record) (parent child : ℕ) (old with_child' new : ℕ → Option Kin)
    (above kin : Kin) (c : Creates rs r parent child old with_child' new above kin)
    (told : IsTold None above.team above.barriers kin) (teams after_teams : ℕ → Option Team)
    (changes : ChangesTeamOf (IsCreatedIn above.barriers) above.team teams after_teams)
    (is : AreTeamsOf rs old teams) where
  grows : Grows rs (rs ++ r ∷ [])
  grows = grows_one rs r (live rs r parent child old with_child' new above kin c)

  same_members : (parallel : ℕ) → members (rs ++ r ∷ []) parallel ≡ members rs parallel
  same_members parallel =
      members_stay rs r parallel
      (λ m joins. absurd (none-some m (sym (creation_joined parent child r.body c.says) ∙ joins)))

  member_back : (parallel task : ℕ) → IsMemberOf (rs ++ r ∷ []) parallel task → IsMemberOf rs parallel task
  member_back parallel task (m, has, e) = (m, subst (λ ms. Contains ms m) (same_members parallel) has, e)

  member_forth : (parallel task : ℕ) → IsMemberOf rs parallel task → IsMemberOf (rs ++ r ∷ []) parallel task
  member_forth parallel task (m, has, e) =
      (m, subst (λ ms. Contains ms m) (sym (same_members parallel)) has, e)

  same_barriers : (task : ℕ)
      → phase_at (rs ++ r ∷ []) task (length (rs ++ r ∷ [])) ≡ phase_at rs task (length rs)
  same_barriers task =
      phase_stays rs r task
      (λ e.
      none-some task (sym (ap barrier_begun (no_region rs r parent child old with_child' new above kin c))
      ∙ e))

  parent_place : IsInTeams rs parent above
  parent_place = is.places parent above c.found

  -- the phase in which the child is created
  phase_now : (i by : ℕ) → IsCreatedAt (rs ++ r ∷ []) i by child
      → phase_at (rs ++ r ∷ []) by i ≡ above.barriers
  phase_now i by creates =
      let (here, same) = child_by rs r parent child old with_child' new above kin c i by creates in
      ap (λ t. phase_at (rs ++ r ∷ []) t i) same ∙ ap (phase_at (rs ++ r ∷ []) parent) here
      ∙ phase_same rs r parent (length rs) (omega arith) ∙ sym parent_place.barriers

  -- ---- what is told to tasks

  tells : (task : ℕ) → task ≢ child → TellsSame rs (rs ++ r ∷ []) task
  tells task apart = record {
    own = own_back rs r parent child old with_child' new above kin c task apart;
    barriers = same_barriers task;
    back = λ parallel member. member_back parallel task member;
    forth = λ parallel other member. member_forth parallel other member;
    above = λ i by parallel creates member. member_back parallel by member;
  }

  child_place : IsInTeams (rs ++ r ∷ []) child kin
  child_place = record {
    barriers =
        told.none
        ∙ sym
        (same_barriers child
        ∙ unmade_phase rs r c.follows.watchable child
        (unmade rs r parent child old with_child' new above kin c));
    team = λ parallel member. absurd (no_member parallel (member_back parallel child member));
    member = λ parallel e. absurd (none-some parallel (sym told.team_is ∙ e));
    initial = λ none alone. absurd (none-some parent (sym none ∙ c.fresh.parent_is));
    phase = λ i by creates. told.phase_is ∙ sym (phase_now i by creates);
    parent_team = λ i by parallel creates member.
        let (here, same) = child_by rs r parent child old with_child' new above kin c i by creates in
        told.parent_team_is
        ∙ parent_place.team parallel
        (subst (λ t. IsMemberOf rs parallel t) same (member_back parallel by member));
    parent_member = λ parallel e.
        let member = parent_place.member parallel (sym told.parent_team_is ∙ e) in
        (length rs, parent, at_last creation rs r ∙ c.says, member_forth parallel parent member);
  }
    where
      no_member : (parallel : ℕ) → IsMemberOf rs parallel child → ⊥
      no_member parallel (m, has, e) =
          let P : ℕ → Type 0 = λ t. IsMade rs t in
          unmade rs r parent child old with_child' new above kin c
          (subst P e (member_is_made rs parallel m has))

  -- ---- the team of the parent

  -- a child in a phase was there before, or is the new one
  in_phase : (parallel : ℕ) (is_phase : ℕ → Type 0) (task : ℕ)
      → IsInPhase (rs ++ r ∷ []) parallel is_phase task
      → IsInPhase rs parallel is_phase task ⊎ ((task ≡ child) × is_phase above.barriers)
  in_phase parallel is_phase task (i, by, member, creates, phase) = elim (cases_eq by parent) [
    | inl same ↦
        let Q : ℕ → Type 0 = λ t. IsCreatedAt (rs ++ r ∷ []) i t task in
        elim (kids_cases rs r parent child old with_child' new above kin c i task (subst Q same creates)) [
          | inl early ↦
              let R : ℕ → Type 0 = λ t. IsCreatedAt rs i t task in
              inl (before (subst R (sym same) early))
          | inr late ↦
              let S : ℕ → Type 0 = λ t. IsCreatedAt (rs ++ r ∷ []) i by t in
              inr (late.1, subst is_phase (phase_now i by (subst S late.1 creates)) phase)
        ]
    | inr apart ↦
        inl (before (kids_back rs r parent child old with_child' new above kin c by apart i task creates))
  ]
    where
      before : IsCreatedAt rs i by task → IsInPhase rs parallel is_phase task
      before early = (
        i,
        by,
        member_back parallel by member,
        early,
        subst is_phase (phase_back rs (rs ++ r ∷ []) grows i by task early) phase,
      )

  kept_in : (parallel : ℕ) (is_phase : ℕ → Type 0) (task : ℕ) → IsInPhase rs parallel is_phase task
      → is_kept new task ≡ is_kept old task
  kept_in parallel is_phase task (i, by, member, creates, phase) =
      kept_other rs r parent child old with_child' new above kin c task (child_made rs i by task creates)

  enters : (parallel : ℕ) (is_phase : ℕ → Type 0) (s : Scope)
      → IsScopeOf (length rs) (IsInPhase rs parallel is_phase) (is_kept old) (IsSettled rs) s
      → IsScopeOf (length (rs ++ r ∷ [])) (IsInPhase (rs ++ r ∷ []) parallel is_phase) (is_kept new)
      (IsSettled (rs ++ r ∷ [])) (with_task s)
  enters parallel is_phase s scope =
      scope_enter (length rs) (length (rs ++ r ∷ [])) (IsInPhase rs parallel is_phase)
      (IsInPhase (rs ++ r ∷ []) parallel is_phase) (is_kept old) (is_kept new) (IsSettled rs)
      (IsSettled (rs ++ r ∷ [])) s child scope (longer rs r parent child old with_child' new above kin c)
      (small rs r parent child old with_child' new above kin c)
      (kept_here rs r parent child old with_child' new above kin c)
      (λ task has. either task (in_phase parallel is_phase task has))
      (λ task has. kept_in parallel is_phase task has) (λ task n has. grows.moves.settled task n)
    where
      either : (task : ℕ)
          → IsInPhase rs parallel is_phase task ⊎ ((task ≡ child) × is_phase above.barriers)
          → IsInPhase rs parallel is_phase task ⊎ (task ≡ child)
      either task (inl has) = inl has
      either task (inr new') = inr new'.0

  stays : (parallel : ℕ) (is_phase : ℕ → Type 0) (s : Scope) → (is_phase above.barriers → ⊥)
      → IsScopeOf (length rs) (IsInPhase rs parallel is_phase) (is_kept old) (IsSettled rs) s
      → IsScopeOf (length (rs ++ r ∷ [])) (IsInPhase (rs ++ r ∷ []) parallel is_phase) (is_kept new)
      (IsSettled (rs ++ r ∷ [])) s
  stays parallel is_phase s apart scope =
      scope_same (length rs) (length (rs ++ r ∷ [])) (IsInPhase rs parallel is_phase)
      (IsInPhase (rs ++ r ∷ []) parallel is_phase) (is_kept old) (is_kept new) (IsSettled rs)
      (IsSettled (rs ++ r ∷ [])) s scope grows.moves.longer
      (λ task has. only task (in_phase parallel is_phase task has))
      (λ task has. kept_in parallel is_phase task (only task (in_phase parallel is_phase task has)))
      (λ task n has. grows.moves.settled task n)
    where
      only : (task : ℕ)
          → IsInPhase rs parallel is_phase task ⊎ ((task ≡ child) × is_phase above.barriers)
          → IsInPhase rs parallel is_phase task
      only task (inl has) = has
      only task (inr new') = absurd (apart new'.1)

  -- what is said of the begins stays
  begun_most : (parallel number : ℕ) → ahead rs (members rs parallel) number
      ≤ ahead (rs ++ r ∷ []) (members (rs ++ r ∷ []) parallel) number
  begun_most parallel number =
      let h = ahead_rises rs (rs ++ r ∷ []) grows (members rs parallel) number in
      let e = ap (λ ms. ahead (rs ++ r ∷ []) ms number) (same_members parallel) in
      omega (arith, h, e)

  team_created : (parallel : ℕ) (team after : Team) → teams parallel ≡ Some team
      → IsCreatedIn above.barriers team after → IsTeamOf (rs ++ r ∷ []) (is_kept new) parallel after
  team_created parallel team after kept changed = record {
    actual = λ m has.
        let e = changed.counted.keeps.actual in
        let h = was.actual m (subst (λ ms. Contains ms m) (same_members parallel) has) in
        omega (arith, e, h);
    ended =
        let e = changed.counted.keeps.ended in
        let f = ap (gone_of (rs ++ r ∷ [])) (same_members parallel) in
        let h = was.ended in
        let k = gone_rises rs (rs ++ r ∷ []) grows.gone (members rs parallel) in
        omega (arith, e, f, h, k);
    joined = changed.counted.keeps.joined ∙ was.joined ∙ ap length (sym (same_members parallel));
    begun = λ number p there. elim (cases_eq number above.barriers) [
      | inl same ↦
          let h = begun_in number in
          let e = ap (λ (q : Phase). q.begun) (here number p same there) in
          omega (arith, h, e)
      | inr apart ↦
          let h = was.begun number p (sym (changed.counted.others number apart) ∙ there) in
          let l = begun_most parallel number in
          omega (arith, h, l)
    ];
    going = λ number late. elim (cases_eq number above.barriers) [
      | inl same ↦ new_scope number (late_of number late) same
      | inr apart ↦
          subst (λ s. P number s) (phase_apart number apart)
          (stays parallel (λ k. k ≡ number) (phase_in team number).scope (λ e. apart (sym e))
          (was.going number (late_of number late)))
    ];
    over = λ task has.
        let Q : ℕ → Type 0 = λ n. IsInPhase (rs ++ r ∷ []) parallel (λ k. k < n) task in
        let R : ℕ → Type 0 = λ n. IsSettled (rs ++ r ∷ []) n task in
        subst R (sym changed.counted.keeps.greatest)
        (over_of task (in_phase parallel (λ k. k < team.over) task (subst Q changed.counted.keeps.over has)));
    each = λ number p low there task has.
        let e = changed.counted.keeps.over in
        each_of number p (omega (arith, e, low)) there task (in_phase parallel (λ k. k ≤ number) task has);
  }
    where
      P : ℕ → Scope → Type 0
      P number s =
          IsScopeOf (length (rs ++ r ∷ [])) (IsInPhase (rs ++ r ∷ []) parallel (λ k. k ≡ number)) (is_kept
          new) (IsSettled (rs ++ r ∷ [])) s

      was : IsTeamOf rs (is_kept old) parallel team
      was = is.each parallel team kept

      late_of : (number : ℕ) → after.over ≤ number → team.over ≤ number
      late_of number late = let e = changed.counted.keeps.over in omega (arith, e, late)

      here : (number : ℕ) (p : Phase) → number ≡ above.barriers → phase_of after number ≡ Some p
          → with_child (phase_in team number) ≡ p
      here number p same there =
          ap (λ n. with_child (phase_in team n)) same
          ∙ same_Some (with_child (phase_in team above.barriers)) p
          (sym changed.counted.here ∙ ap (phase_of after) (sym same) ∙ there)

      begun_in : (number : ℕ)
          → (phase_in team number).begun ≤ ahead (rs ++ r ∷ []) (members (rs ++ r ∷ []) parallel) number
      begun_in number = of (phase_of team number) refl
        where
          of : (it : Option Phase) → phase_of team number ≡ it
              → (option_map_or (λ (q : Phase). q) it no_phase).begun
              ≤ ahead (rs ++ r ∷ []) (members (rs ++ r ∷ []) parallel) number
          of None e = omega arith
          of (Some q) e =
              let h = was.begun number q e in let l = begun_most parallel number in omega (arith, h, l)

      scope_here : (number : ℕ) → number ≡ above.barriers
          → (phase_in after number).scope ≡ with_task (phase_in team number).scope
      scope_here number same =
          ap (λ (o : Option Phase). (option_map_or (λ (q : Phase). q) o no_phase).scope)
          (ap (phase_of after) same ∙ changed.counted.here)
          ∙ ap (λ n. with_task (phase_in team n).scope) (sym same)

      new_scope : (number : ℕ) → team.over ≤ number → number ≡ above.barriers
          → P number (phase_in after number).scope
      new_scope number late same =
          subst (λ s. P number s) (sym (scope_here number same))
          (enters parallel (λ k. k ≡ number) (phase_in team number).scope (was.going number late))

      phase_apart : (number : ℕ) → number ≢ above.barriers
          → (phase_in team number).scope ≡ (phase_in after number).scope
      phase_apart number apart =
          ap (λ (o : Option Phase). (option_map_or (λ (q : Phase). q) o no_phase).scope)
          (sym (changed.counted.others number apart))

      over_of : (task : ℕ)
          → IsInPhase rs parallel (λ k. k < team.over) task ⊎ ((task ≡ child) × (above.barriers < team.over))
          → IsSettled (rs ++ r ∷ []) team.greatest task
      over_of task (inl has) = grows.moves.settled task team.greatest (was.over task has)
      over_of task (inr late) =
          let low = late.1 in let h = changed.going in absurd (omega (arith, low, h))

      each_of : (number : ℕ) (p : Phase) → number < team.over → phase_of after number ≡ Some p → (task : ℕ)
          → IsInPhase rs parallel (λ k. k ≤ number) task ⊎ ((task ≡ child) × (above.barriers ≤ number))
          → IsSettled (rs ++ r ∷ []) p.scope.greatest task
      each_of number p low there task (inl has) =
          let h = changed.going in
          grows.moves.settled task p.scope.greatest
          (was.each number p low
          (sym (changed.counted.others number (λ e. omega (arith, e, low, h))) ∙ there) task has)
      each_of number p low there task (inr late) =
          let most = late.1 in let h = changed.going in absurd (omega (arith, low, most, h))

  -- ---- all teams

  -- the phase in which the child is created is not over
  phase_late : (by task parallel : ℕ) (team : Team) → creation r.body ≡ Some (by, task)
      → IsMemberOf rs parallel by → teams parallel ≡ Some team → team.over ≤ phase_at rs by (length rs)
  phase_late by task parallel team creates member kept =
      let same : (parent, child) ≡ (by, task) = same_Some (parent, child) (by, task) (sym c.says ∙ creates) in
      let by_is : parent ≡ by = ap (λ (x : ℕ × ℕ). x.0) same in
      let P : ℕ → Type 0 = λ t. IsMemberOf rs parallel t in
      let Q : Option ℕ → Type 0 = λ t. ChangesTeamOf (IsCreatedIn above.barriers) t teams after_teams in
      let here = parent_place.team parallel (subst P (sym by_is) member) in
      let (after, there, changed) = (subst Q here changes).present team kept in
      let h = changed.going in
      let e = parent_place.barriers in
      let f = ap (λ t. phase_at rs t (length rs)) by_is in
      omega (arith, h, e, f)

  pub create_teams : AreTeamsBefore (rs ++ r ∷ []) (length rs) new after_teams
  create_teams = record {
    places = λ task after there.
        place_of task after (whose rs r parent child old with_child' new above kin c task after there);
    each = λ parallel after there. team_is parallel after (from parallel after there);
    absent = λ parallel none.
        team_over_moves rs (rs ++ r ∷ []) parallel grows.gone (same_members parallel)
        (is.absent parallel
        (team_none (IsCreatedIn above.barriers) above.team teams after_teams changes parallel none));
    ends =
        ends_grow rs r old teams after_teams c.follows phase_late
        (changes_rise (IsCreatedIn above.barriers) above.team rs r teams after_teams changes
        (λ before after changed. let e = changed.counted.keeps.over in omega (arith, e)) same_members) is;
  }
    where
      place_of : (task : ℕ) (after : Kin)
          → Whose rs r parent child old with_child' new above kin c task after
          → IsInTeams (rs ++ r ∷ []) task after
      place_of task after (parents same changed) =
          let P : ℕ → Type 0 = λ t. IsInTeams (rs ++ r ∷ []) t after in
          subst P (sym same)
          (tells_moves rs (rs ++ r ∷ []) parent above after grows
          (tells parent (parent_apart rs r parent child old with_child' new above kin c))
          (sym changed.place.parent) changed.told parent_place)
      place_of task after (childs same e) =
          let P : ℕ → Type 0 = λ t. IsInTeams (rs ++ r ∷ []) t after in
          let Q : Kin → Type 0 = λ k. IsInTeams (rs ++ r ∷ []) child k in
          subst P (sym same) (subst Q e child_place)
      place_of task after (others apart away' kept) =
          tells_moves rs (rs ++ r ∷ []) task after after grows (tells task away') refl (told_same after)
          (is.places task after kept)

      from : (parallel : ℕ) (after : Team) → after_teams parallel ≡ Some after
          → TeamFrom (IsCreatedIn above.barriers) (above.team ≡ Some parallel) teams parallel after
      from = team_of_from (IsCreatedIn above.barriers) above.team teams after_teams changes

      team_is : (parallel : ℕ) (after : Team)
          → TeamFrom (IsCreatedIn above.barriers) (above.team ≡ Some parallel) teams parallel after
          → IsTeamOf (rs ++ r ∷ []) (is_kept new) parallel after
      team_is parallel after it = by it.how
        where
          by : ((above.team ≡ Some parallel) × IsCreatedIn above.barriers it.was after)
              ⊎ ((above.team ≡ Some parallel → ⊥) × (it.was ≡ after))
              → IsTeamOf (rs ++ r ∷ []) (is_kept new) parallel after
          by (inl (here, changed)) = team_created parallel it.was after it.kept changed
          by (inr (apart, same)) =
              subst (λ t. IsTeamOf (rs ++ r ∷ []) (is_kept new) parallel t) same
              (team_moves rs (rs ++ r ∷ []) parallel (is_kept old) (is_kept new) it.was it.was grows
              (same_members parallel)
              (λ i by task member creates. back i by task (member_back parallel by member) creates)
              (λ i by task member creates.
              kept_other rs r parent child old with_child' new above kin c task
              (child_made rs i by task creates))
              (team_same it.was) (is.each parallel it.was it.kept))
            where
              back : (i by task : ℕ) → IsMemberOf rs parallel by → IsCreatedAt (rs ++ r ∷ []) i by task
                  → IsBack rs (rs ++ r ∷ []) parallel i by task
              back i by' task member creates = record {
                member = member;
                creates =
                    kids_back rs r parent child old with_child' new above kin c by'
                    (λ e.
                    let P : ℕ → Type 0 = λ t. IsMemberOf rs parallel t in
                    apart (parent_place.team parallel (subst P e member)))
                    i task creates;
              }
