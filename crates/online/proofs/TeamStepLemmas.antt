-- What is kept of teams where a task is settled.
use Rattle.std.proofs.Common.{◌≡◌, ◌≢◌, ◌∙◌, ℕ, ◌<◌, ◌≤◌, true, false, List, [], ◌∷◌, ◌++◌, length}
use Rattle.std.proofs.Common.{Option, Some, None, refl, sym, ap, subst, arith, inl, inr, ◌⊎◌}
use Rattle.std.specs.Option.{option_map_or}
use Rattle.std.proofs.lemmas.Bool.{cases_eq, cases_lt}
use Rattle.std.proofs.lemmas.Option.{none-some, same_Some}
use Rattle.ompt_events.specs.declared.records.Record.{Record}
use Rattle.ompt_events.specs.Tree.{IsCreatedAt}
use Rattle.ompt_events.specs.Teams.{members}
use Rattle.ompt_events.proofs.RecordLemmas.{creation_at_created}
use Rattle.online.specs.declared.scope.Scope.{Scope}
use Rattle.online.specs.declared.kin.Kin.{Kin}
use Rattle.online.specs.declared.phase.Phase.{Phase}
use Rattle.online.specs.declared.team.Team.{Team}
use Rattle.online.specs.Waits.{no_tasks, without_task, IsScopeOf, IsSettled, is_kept}
use Rattle.online.specs.Teams.{no_phase, phase_of, phase_in, without_child, IsSettledIn, phase_at, ahead}
use Rattle.online.specs.Teams.{IsMemberOf, IsInTeams, IsInPhase, IsTeamOf, AreTeamsBefore, ChangesTeam}
use Rattle.online.specs.Teams.{ChangesTeamOf}
use Rattle.online.proofs.ScopeLemmas.{scope_same, scope_leave, scope_empty}
use Rattle.online.proofs.EndedLemmas.{TeamsRise}
use Rattle.online.proofs.GrowLemmas.{settled_rises}
use Rattle.online.proofs.SettleLemmas.{Settles, settled, kept_was, kept_here, kept_apart, told_before}
use Rattle.online.proofs.RosterLemmas.{grows_same, team_same, team_moves, TellsSame, tells_moves}

-- ---- back from what is kept of teams behind a change

pub record TeamFrom (change : Team → Team → Type 0) (changed : Type 0) (old : ℕ → Option Team) (parallel : ℕ)
    (after : Team) : Type 0 where
  pub was : Team
  pub kept : old parallel ≡ Some was
  pub how : (changed × change was after) ⊎ ((changed → ⊥) × (was ≡ after))

pub team_from : (change : Team → Team → Type 0) (parallel : ℕ) (old new : ℕ → Option Team)
    → ChangesTeam change parallel old new → (other : ℕ) (after : Team) → new other ≡ Some after
    → TeamFrom change (parallel ≡ other) old other after
team_from change parallel old new changes other after is = elim (cases_eq other parallel) [
  | inl same ↦ of same (old parallel) refl
  | inr apart ↦ record {
    was = after;
    kept = sym (changes.others other apart) ∙ is;
    how = inr (λ e. apart (sym e), refl);
  }
]
  where
    of : other ≡ parallel → (o : Option Team) → old parallel ≡ o
        → TeamFrom change (parallel ≡ other) old other after
    of same None e = absurd (none-some after (sym (changes.absent e) ∙ ap new (sym same) ∙ is))
    of same (Some was) e =
        let (then, there, changed) = changes.present was e in
        let here : then ≡ after = same_Some then after (sym there ∙ ap new (sym same) ∙ is) in
        record {
          was = was;
          kept = ap old same ∙ e;
          how = inl (sym same, subst (λ k. change was k) here changed);
        }

pub team_of_from : (change : Team → Team → Type 0) (parallel : Option ℕ) (old new : ℕ → Option Team)
    → ChangesTeamOf change parallel old new → (other : ℕ) (after : Team) → new other ≡ Some after
    → TeamFrom change (parallel ≡ Some other) old other after
team_of_from change None old new changes other after is = record {
  was = after;
  kept = sym (changes other) ∙ is;
  how = inr (λ e. cc, refl);
}
team_of_from change (Some parallel) old new changes other after is =
    of (team_from change parallel old new changes other after is)
  where
    of : TeamFrom change (parallel ≡ other) old other after
        → TeamFrom change (Some parallel ≡ Some other) old other after
    of from = record { was = from.was; kept = from.kept; how = how from.how }
      where
        how : ((parallel ≡ other) × change from.was after) ⊎ ((parallel ≡ other → ⊥) × (from.was ≡ after))
            → ((Some parallel ≡ Some other) × change from.was after)
            ⊎ ((Some parallel ≡ Some other → ⊥) × (from.was ≡ after))
        how (inl (same, changed)) = inl (ap Some same, changed)
        how (inr (apart, stays)) = inr (λ e. apart (same_Some parallel other e), stays)

pub team_none : (change : Team → Team → Type 0) (parallel : Option ℕ) (old new : ℕ → Option Team)
    → ChangesTeamOf change parallel old new → (other : ℕ) → new other ≡ None → old other ≡ None
team_none change None old new changes other none = sym (changes other) ∙ none
team_none change (Some parallel) old new changes other none = elim (cases_eq other parallel) [
  | inl same ↦ of same (old other) refl
  | inr apart ↦ sym (changes.others other apart) ∙ none
]
  where
    of : other ≡ parallel → (o : Option Team) → old other ≡ o → old other ≡ None
    of same None e = e
    of same (Some was) e =
        let there = changes.present was (ap old (sym same) ∙ e) in
        absurd (none-some there.0 (sym none ∙ ap new same ∙ there.1))

-- behind a change of a team by which no fewer phases are over, where the members stay
pub changes_rise : (change : Team → Team → Type 0) (parallel : Option ℕ) (rs : List Record) (r : Record)
    (old new : ℕ → Option Team) → ChangesTeamOf change parallel old new
    → ((was after : Team) → change was after → was.over ≤ after.over)
    → ((other : ℕ) → members (rs ++ r ∷ []) other ≡ members rs other) → TeamsRise rs r old new
changes_rise change parallel rs r old new changes rises same = record {
  kept = λ other after there.
      let from = team_of_from change parallel old new changes other after there in
      inl (from.was, from.kept, over from.was after from.how);
  none = λ other none. (team_none change parallel old new changes other none, same other);
}
  where
    over : {X : Type 0} (was after : Team) → (X × change was after) ⊎ ((X → ⊥) × (was ≡ after))
        → was.over ≤ after.over
    over was after (inl (here, changed)) = rises was after changed
    over was after (inr (apart, stays)) =
        let e = ap (λ (t : Team). t.over) stays in omega (arith, e)

-- nothing more is said by the same records
pub tells_same : (rs : List Record) (task : ℕ) → TellsSame rs rs task
tells_same rs task = record {
  own = λ i parent creates. creates;
  barriers = refl;
  back = λ parallel member. member;
  forth = λ parallel other member. member;
  above = λ i parent parallel creates member. member;
}

-- ---- a settled task is taken out

module _ (rs : List Record) (n task : ℕ) (old without new : ℕ → Option Kin) (was : Kin)
    (f : Settles rs task old without new was) (teams after_teams : ℕ → Option Team)
    (changes : ChangesTeamOf (IsSettledIn was.phase was.family.greatest) was.parent_team teams after_teams)
    (is : AreTeamsBefore rs n old teams) where
  place : IsInTeams rs task was
  place = is.places task was f.found

  -- in a team of which its parent is no member it is no child
  not_there : (parallel : ℕ) → was.parent_team ≢ Some parallel → (i parent child : ℕ)
      → IsMemberOf rs parallel parent → IsCreatedAt rs i parent child → child ≢ task
  not_there parallel apart i parent child member creates same =
      let P : ℕ → Type 0 = λ t. IsCreatedAt rs i parent t in
      apart (place.parent_team i parent parallel (subst P same creates) member)

  -- its phase is the one in which its parent created it
  phase_is : (i parent : ℕ) → IsCreatedAt rs i parent task → phase_at rs parent i ≡ was.phase
  phase_is i parent creates = sym (place.phase i parent creates)

  leaves : (parallel : ℕ) (is_phase : ℕ → Type 0) (s : Scope) → was.parent_team ≡ Some parallel
      → is_phase was.phase
      → IsScopeOf (length rs) (IsInPhase rs parallel is_phase) (is_kept old) (IsSettled rs) s
      → IsScopeOf (length rs) (IsInPhase rs parallel is_phase) (is_kept new) (IsSettled rs)
      (without_task was.family.greatest s)
  leaves parallel is_phase s above phase scope =
      let (i, parent, creates, member) = place.parent_member parallel above in
      scope_leave (length rs) (IsInPhase rs parallel is_phase) (is_kept old) (is_kept new) (IsSettled rs) s
      task was.family.greatest scope (settled_rises rs)
      (i, parent, member, creates, subst is_phase (sym (phase_is i parent creates)) phase)
      (kept_was rs task old without new was f) (kept_here rs task old without new was f)
      (settled rs task old without new was f (i, creation_at_created parent task rs i creates))
      (λ child has away. kept_apart rs task old without new was f child away)

  stays : (parallel : ℕ) (is_phase : ℕ → Type 0) (s : Scope) → (is_phase was.phase → ⊥)
      → IsScopeOf (length rs) (IsInPhase rs parallel is_phase) (is_kept old) (IsSettled rs) s
      → IsScopeOf (length rs) (IsInPhase rs parallel is_phase) (is_kept new) (IsSettled rs) s
  stays parallel is_phase s apart scope =
      scope_same (length rs) (length rs) (IsInPhase rs parallel is_phase) (IsInPhase rs parallel is_phase)
      (is_kept old) (is_kept new) (IsSettled rs) (IsSettled rs) s scope (omega arith) (λ child has. has)
      (λ child has. kept_apart rs task old without new was f child (outside child has))
      (λ child n has late. late)
    where
      outside : (child : ℕ) → IsInPhase rs parallel is_phase child → child ≢ task
      outside child (i, parent, member, creates, phase) same =
          let P : ℕ → Type 0 = λ t. IsCreatedAt rs i parent t in
          apart (subst is_phase (phase_is i parent (subst P same creates)) phase)

  -- in the phase in which the task was created, where that is not over
  scope_settled : (parallel number : ℕ) (team after : Team) → was.parent_team ≡ Some parallel
      → teams parallel ≡ Some team → IsSettledIn was.phase was.family.greatest team after
      → number ≡ was.phase → team.over ≤ number
      → IsScopeOf (length rs) (IsInPhase rs parallel (λ k. k ≡ number)) (is_kept new) (IsSettled rs)
      (phase_in after number).scope
  scope_settled parallel number team after above kept changed same late = of (phase_of team number) refl
    where
      counted : IsScopeOf (length rs) (IsInPhase rs parallel (λ k. k ≡ number)) (is_kept old) (IsSettled rs)
          (phase_in team number).scope
      counted = (is.each parallel team kept).going number late

      there : (o : Option Phase) → phase_of team number ≡ o
          → IsScopeOf (length rs) (IsInPhase rs parallel (λ k. k ≡ number)) (is_kept old) (IsSettled rs)
          (option_map_or (λ (p : Phase). p) o no_phase).scope
      there o e =
          let P : Option Phase → Type 0 =
          λ x.
          IsScopeOf (length rs) (IsInPhase rs parallel (λ k. k ≡ number)) (is_kept old) (IsSettled rs)
          (option_map_or (λ (p : Phase). p) x no_phase).scope in
          subst P e counted

      put : (p : Phase) → phase_of after number ≡ Some p
          → IsScopeOf (length rs) (IsInPhase rs parallel (λ k. k ≡ number)) (is_kept new) (IsSettled rs)
          p.scope
          → IsScopeOf (length rs) (IsInPhase rs parallel (λ k. k ≡ number)) (is_kept new) (IsSettled rs)
          (phase_in after number).scope
      put p e scope =
          let P : Option Phase → Type 0 =
          λ x.
          IsScopeOf (length rs) (IsInPhase rs parallel (λ k. k ≡ number)) (is_kept new) (IsSettled rs)
          (option_map_or (λ (p : Phase). p) x no_phase).scope in
          subst P (sym e) scope

      -- the task is counted there, so something is kept of the phase
      in_it : IsInPhase rs parallel (λ k. k ≡ number) task
      in_it =
          let (i, parent, creates, member) = place.parent_member parallel above in
          (i, parent, member, creates, phase_is i parent creates ∙ sym same)

      of : (o : Option Phase) → phase_of team number ≡ o
          → IsScopeOf (length rs) (IsInPhase rs parallel (λ k. k ≡ number)) (is_kept new) (IsSettled rs)
          (phase_in after number).scope
      of None e =
          let gone =
          scope_empty (length rs) (IsInPhase rs parallel (λ k. k ≡ number)) (is_kept old) (IsSettled rs)
          no_tasks (there None e) refl task in_it in
          absurd (apart (sym (kept_was rs task old without new was f) ∙ gone.0))
        where
          apart : true ≡ false → ⊥
          apart e = cc
      of (Some p) e =
          put (without_child was.family.greatest p)
          (ap (phase_of after) same
          ∙ changed.here (omega (arith, late, same)) p (ap (phase_of team) (sym same) ∙ e))
          (leaves parallel (λ k. k ≡ number) p.scope above (sym same) (there (Some p) e))

  team_settled : (parallel : ℕ) (team after : Team) → was.parent_team ≡ Some parallel
      → teams parallel ≡ Some team → IsSettledIn was.phase was.family.greatest team after
      → IsTeamOf rs (is_kept new) parallel after
  team_settled parallel team after above kept changed = record {
    actual = λ m has.
        let e = changed.keeps.actual in
        let h = it.actual m has in
        omega (arith, e, h);
    ended =
        let e = changed.keeps.ended in
        let h = it.ended in
        omega (arith, e, h);
    joined = changed.keeps.joined ∙ it.joined;
    begun = λ number p e. begun number p e (cases_eq number was.phase);
    going = λ number late. going number (omega (arith, late, same_over)) (cases_eq number was.phase);
    over = λ child has.
        let P : ℕ → Type 0 = λ k. IsSettled rs k child in
        let Q : ℕ → Type 0 = λ k. IsInPhase rs parallel (λ j. j < k) child in
        subst P (sym changed.keeps.greatest) (it.over child (subst Q same_over has));
    each = λ number p low e.
        let early : number < team.over = omega (arith, low, same_over) in
        it.each number p early (sym (stays_over number early (cases_eq number was.phase)) ∙ e);
  }
    where
      it : IsTeamOf rs (is_kept old) parallel team
      it = is.each parallel team kept

      same_over : after.over ≡ team.over
      same_over = changed.keeps.over

      stays_over : (number : ℕ) → number < team.over → (number ≡ was.phase) ⊎ (number ≢ was.phase)
          → phase_of after number ≡ phase_of team number
      stays_over number low (inl same) =
          ap (phase_of after) same ∙ changed.over (omega (arith, low, same)) ∙ ap (phase_of team) (sym same)
      stays_over number low (inr apart) = changed.others number apart

      going : (number : ℕ) → team.over ≤ number → (number ≡ was.phase) ⊎ (number ≢ was.phase)
          → IsScopeOf (length rs) (IsInPhase rs parallel (λ k. k ≡ number)) (is_kept new) (IsSettled rs)
          (phase_in after number).scope
      going number late (inl same) = scope_settled parallel number team after above kept changed same late
      going number late (inr apart) =
          let P : Option Phase → Type 0 =
          λ x.
          IsScopeOf (length rs) (IsInPhase rs parallel (λ k. k ≡ number)) (is_kept new) (IsSettled rs)
          (option_map_or (λ (p : Phase). p) x no_phase).scope in
          subst P (sym (changed.others number apart))
          (stays parallel (λ k. k ≡ number) (phase_in team number).scope (λ e. apart (sym e))
          (it.going number late))

      -- what is begun of a phase stays
      begun_was : (number : ℕ) (p : Phase) → phase_of after number ≡ Some p → number ≡ was.phase
          → team.over ≤ number → (o : Option Phase) → phase_of team number ≡ o
          → p.begun ≤ ahead rs (members rs parallel) number
      begun_was number p e same late None none =
          absurd
          (none-some p
          (sym (changed.absent (ap (phase_of team) (sym same) ∙ none)) ∙ ap (phase_of after) (sym same) ∙ e))
      begun_was number p e same late (Some q) found =
          let put = changed.here (omega (arith, late, same)) q (ap (phase_of team) (sym same) ∙ found) in
          let is_p =
          same_Some p (without_child was.family.greatest q) (sym e ∙ ap (phase_of after) same ∙ put) in
          let begun_is = ap (λ (x : Phase). x.begun) is_p in
          let least = it.begun number q found in
          omega (arith, begun_is, least)

      begun : (number : ℕ) (p : Phase) → phase_of after number ≡ Some p
          → (number ≡ was.phase) ⊎ (number ≢ was.phase) → p.begun ≤ ahead rs (members rs parallel) number
      begun number p e (inr apart) = it.begun number p (sym (changed.others number apart) ∙ e)
      begun number p e (inl same) = elim (cases_lt number team.over) [
        | inl low ↦ it.begun number p (sym (stays_over number low (inl same)) ∙ e)
        | inr late ↦ begun_was number p e same late (phase_of team number) refl
      ]

  pub settle_teams : AreTeamsBefore rs n new after_teams
  settle_teams = record {
    places = λ other after there.
        let (before, found, parents, told) = told_before rs task old without new was f other after there in
        tells_moves rs rs other before after (grows_same rs) (tells_same rs other) parents told
        (is.places other before found);
    each = λ parallel after there. team_is parallel after (from parallel after there);
    absent = λ parallel none.
        is.absent parallel
        (team_none (IsSettledIn was.phase was.family.greatest) was.parent_team teams after_teams changes
        parallel none);
    ends = record {
      settled = is.ends.settled;
      over = λ i parallel number after below ends there.
          let it = from parallel after there in
          let less = is.ends.over i parallel number it.was below ends it.kept in
          let same = over_is parallel after it in
          omega (arith, less, same);
      gone = λ i parallel number m below ends none has.
          is.ends.gone i parallel number m below ends
          (team_none (IsSettledIn was.phase was.family.greatest) was.parent_team teams after_teams changes
          parallel none)
          has;
    };
  }
    where
      from : (parallel : ℕ) (after : Team) → after_teams parallel ≡ Some after
          → TeamFrom (IsSettledIn was.phase was.family.greatest) (was.parent_team ≡ Some parallel) teams
          parallel after
      from = team_of_from (IsSettledIn was.phase was.family.greatest) was.parent_team teams after_teams
          changes

      over_is : (parallel : ℕ) (after : Team)
          → (it : TeamFrom (IsSettledIn was.phase was.family.greatest) (was.parent_team ≡ Some parallel) teams
          parallel after)
          → after.over ≡ it.was.over
      over_is parallel after it = by it.how
        where
          by : ((was.parent_team ≡ Some parallel) × IsSettledIn was.phase was.family.greatest it.was after)
              ⊎ ((was.parent_team ≡ Some parallel → ⊥) × (it.was ≡ after)) → after.over ≡ it.was.over
          by (inl (above, changed)) = changed.keeps.over
          by (inr (apart, same)) = ap (λ (t : Team). t.over) (sym same)

      team_is : (parallel : ℕ) (after : Team)
          → TeamFrom (IsSettledIn was.phase was.family.greatest) (was.parent_team ≡ Some parallel) teams
          parallel after → IsTeamOf rs (is_kept new) parallel after
      team_is parallel after it = by it.how
        where
          by : ((was.parent_team ≡ Some parallel) × IsSettledIn was.phase was.family.greatest it.was after)
              ⊎ ((was.parent_team ≡ Some parallel → ⊥) × (it.was ≡ after))
              → IsTeamOf rs (is_kept new) parallel after
          by (inl (above, changed)) = team_settled parallel it.was after above it.kept changed
          by (inr (apart, same)) =
              subst (λ t. IsTeamOf rs (is_kept new) parallel t) same
              (team_moves rs rs parallel (is_kept old) (is_kept new) it.was it.was (grows_same rs) refl
              (λ i parent child member creates. record { member = member; creates = creates })
              (λ i parent child member creates.
              kept_apart rs task old without new was f child
              (not_there parallel apart i parent child member creates))
              (team_same it.was) (is.each parallel it.was it.kept))
