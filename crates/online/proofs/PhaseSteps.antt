-- What stays of a team where a phase of it is over, or what is kept of one is forgotten.
use Rattle.std.proofs.Common.{◌≡◌, ◌≢◌, ◌∙◌, ℕ, ◌<◌, ◌≤◌, ◌+◌, Bool, List, length, Option, Some, None}
use Rattle.std.proofs.Common.{refl, sym, ap, subst, arith, inl, inr}
use Rattle.std.specs.Prelude.{Contains}
use Rattle.std.specs.Option.{option_map_or}
use Rattle.std.proofs.lemmas.Bool.{cases_lt, cases_eq}
use Rattle.std.proofs.lemmas.Option.{same_Some}
use Rattle.ompt_events.specs.declared.records.Record.{Record}
use Rattle.ompt_events.specs.declared.records.Membership.{Membership}
use Rattle.ompt_events.specs.Tree.{IsCreatedAt}
use Rattle.ompt_events.specs.Teams.{members}
use Rattle.ompt_events.proofs.ListLemmas.{contains_get}
use Rattle.online.specs.declared.phase.Phase.{Phase}
use Rattle.online.specs.declared.scope.Scope.{Scope}
use Rattle.online.specs.declared.team.Team.{Team}
use Rattle.online.specs.Waits.{IsScopeOf, IsSettled}
use Rattle.online.specs.Teams.{no_phase, phase_of, phase_in, over_from, KeepsPhases, EndsPhase, EndsPhases}
use Rattle.online.specs.Teams.{IsSettledAt, HasEnded, phase_at, ahead, IsMemberOf, IsInPhase, AreSettledUpTo}
use Rattle.online.specs.Teams.{IsTeamOf}
use Rattle.online.proofs.ScopeLemmas.{scope_empty}
use Rattle.online.proofs.GrowLemmas.{settled_rises}
use Rattle.online.proofs.RosterLemmas.{ahead_all}

-- what is settled in the phases up to one, is so in fewer, and at each greater length
pub settled_less : (rs : List Record) (parallel number less low high : ℕ) → less ≤ number → low ≤ high
    → AreSettledUpTo rs parallel number low → AreSettledUpTo rs parallel less high
settled_less rs parallel number less low high fewer most settled child (i, parent, member, creates, phase) =
    settled_rises rs child low high most
    (settled child (i, parent, member, creates, omega (arith, phase, fewer)))

-- no more members have begun the barrier behind a phase than are ahead, also where nothing is kept of it
begun_in : (rs : List Record) (is_kept : ℕ → Bool) (parallel : ℕ) (team : Team) (number : ℕ)
    → IsTeamOf rs is_kept parallel team
    → (phase_in team number).begun ≤ ahead rs (members rs parallel) number
begun_in rs is_kept parallel team number is = of (phase_of team number) (λ p e. is.begun number p e)
  where
    of : (o : Option Phase) → ((p : Phase) → o ≡ Some p → p.begun ≤ ahead rs (members rs parallel) number)
        → (option_map_or (λ (p : Phase). p) o no_phase).begun ≤ ahead rs (members rs parallel) number
    of None begun = omega arith
    of (Some p) begun = begun p refl

same_in : (old new : Team) (number : ℕ) → phase_of new number ≡ phase_of old number
    → phase_in old number ≡ phase_in new number
same_in old new number same = ap (λ o. option_map_or (λ (p : Phase). p) o no_phase) (sym same)

-- ---- the next phase is over

pub ends_phase : (rs : List Record) (is_kept : ℕ → Bool) (parallel : ℕ) (old new : Team)
    → EndsPhase old new → IsTeamOf rs is_kept parallel old → IsTeamOf rs is_kept parallel new
ends_phase rs is_kept parallel old new ends is = record {
  actual = λ m has.
      let e = ends.actual in
      let h = is.actual m has in
      omega (arith, e, h);
  ended =
      let e = ends.ended in
      let h = is.ended in
      omega (arith, e, h);
  joined = ends.joined ∙ is.joined;
  begun = begun;
  going = λ number least.
      let low = ends.over in
      let apart : number ≢ old.over = λ e. absurd (omega (arith, e, least, low)) in
      let P : Phase → Type 0 =
      λ p. IsScopeOf (length rs) (IsInPhase rs parallel (λ k. k ≡ number)) is_kept (IsSettled rs) p.scope in
      subst P (same_in old new number (ends.others number apart))
      (is.going number (omega (arith, least, low)));
  over = λ child (i, parent, member, creates, less). over child i parent member creates less;
  each = each;
}
  where
    begun : (number : ℕ) (p : Phase) → phase_of new number ≡ Some p
        → p.begun ≤ ahead rs (members rs parallel) number
    begun number p there = elim (cases_eq number old.over) [
      | inl here ↦
          let found : over_from new.greatest (phase_in old old.over) ≡ p =
          same_Some (over_from new.greatest (phase_in old old.over)) p
          (sym ends.here ∙ ap (phase_of new) (sym here) ∙ there) in
          let e = ap (λ (q : Phase). q.begun) found in
          let f = ap (ahead rs (members rs parallel)) here in
          let g = begun_in rs is_kept parallel old old.over is in
          omega (arith, e, f, g)
      | inr apart ↦ is.begun number p (sym (ends.others number apart) ∙ there)
    ]

    over : (child i parent : ℕ) → IsMemberOf rs parallel parent → IsCreatedAt rs i parent child
        → phase_at rs parent i < new.over → IsSettled rs new.greatest child
    over child i parent member creates less = elim (cases_eq (phase_at rs parent i) old.over) [
      | inl here ↦
          let (gone, settled) =
          scope_empty (length rs) (IsInPhase rs parallel (λ k. k ≡ old.over)) is_kept (IsSettled rs)
          (phase_in old old.over).scope (is.going old.over (omega arith)) ends.none_left child
          (i, parent, member, creates, here) in
          let e = ends.greatest in
          settled_rises rs child (phase_in old old.over).scope.greatest new.greatest (omega (arith, e))
          settled
      | inr apart ↦
          let e = ends.greatest in
          let f = ends.over in
          settled_rises rs child old.greatest new.greatest (omega (arith, e))
          (is.over child (i, parent, member, creates, below f apart))
    ]
      where
        below : new.over ≡ old.over + 1 → phase_at rs parent i ≢ old.over → phase_at rs parent i < old.over
        below f apart = elim (cases_lt (phase_at rs parent i) old.over) [
          | inl before ↦ before
          | inr least ↦ absurd (apart (omega (arith, f, least, less)))
        ]

    each : (number : ℕ) (p : Phase) → number < new.over → phase_of new number ≡ Some p
        → AreSettledUpTo rs parallel number p.scope.greatest
    each number p low there = elim (cases_eq number old.over) [
      | inl here ↦
          let found : over_from new.greatest (phase_in old old.over) ≡ p =
          same_Some (over_from new.greatest (phase_in old old.over)) p
          (sym ends.here ∙ ap (phase_of new) (sym here) ∙ there) in
          let P : Phase → Type 0 = λ q. AreSettledUpTo rs parallel number q.scope.greatest in
          subst P found
          (λ child (i, parent, member, creates, phase).
          over child i parent member creates (omega (arith, phase, low)))
      | inr apart ↦
          let e = ends.over in
          is.each number p (below e apart) (sym (ends.others number apart) ∙ there)
    ]
      where
        below : new.over ≡ old.over + 1 → number ≢ old.over → number < old.over
        below f apart = elim (cases_lt number old.over) [
          | inl before ↦ before
          | inr least ↦ absurd (apart (omega (arith, f, least, low)))
        ]

-- ---- what is kept of phases that are over goes

pub keeps_phases : (rs : List Record) (is_kept : ℕ → Bool) (parallel : ℕ) (old new : Team)
    → KeepsPhases old new → IsTeamOf rs is_kept parallel old → IsTeamOf rs is_kept parallel new
keeps_phases rs is_kept parallel old new keeps is = record {
  actual = λ m has.
      let e = keeps.keeps.actual in
      let h = is.actual m has in
      omega (arith, e, h);
  ended =
      let e = keeps.keeps.ended in
      let h = is.ended in
      omega (arith, e, h);
  joined = keeps.keeps.joined ∙ is.joined;
  begun = λ number p there.
      let (was, found, scope, begun) = keeps.each number p there in
      let h = is.begun number was found in
      omega (arith, h, begun);
  going = λ number least.
      let e = keeps.keeps.over in
      let before : old.over ≤ number = omega (arith, e, least) in
      let P : Scope → Type 0 =
      λ s. IsScopeOf (length rs) (IsInPhase rs parallel (λ k. k ≡ number)) is_kept (IsSettled rs) s in
      subst P (sym (keeps.going number before)) (is.going number before);
  over = λ child (i, parent, member, creates, less).
      let e = keeps.keeps.over in
      let f = keeps.keeps.greatest in
      settled_rises rs child old.greatest new.greatest (omega (arith, f))
      (is.over child (i, parent, member, creates, omega (arith, e, less)));
  each = λ number p low there.
      let (was, found, scope, begun) = keeps.each number p there in
      let e = keeps.keeps.over in
      let f = ap (λ (s : Scope). s.greatest) scope in
      settled_less rs parallel number number was.scope.greatest p.scope.greatest (omega arith)
      (omega (arith, f)) (is.each number was (omega (arith, e, low)) found);
}

pub keeps_all : (team : Team) → KeepsPhases team team
keeps_all team = record {
  keeps = record { actual = refl; joined = refl; ended = refl; over = refl; greatest = refl };
  each = λ number p there. (p, there, refl, refl);
  going = λ number least. refl;
}

-- ---- more phases are over

-- some more phases may be over, and what is kept is still right
pub record GoesOn (old new : Team) : Type 0 where
  pub same : (rs : List Record) (is_kept : ℕ → Bool) (parallel : ℕ) → IsTeamOf rs is_kept parallel old
      → IsTeamOf rs is_kept parallel new
  pub rises : old.over ≤ new.over

-- by one more phase, of which what is kept may go
pub goes_next : (first old next new : Team) → GoesOn first old → EndsPhase old next → KeepsPhases next new
    → GoesOn first new
goes_next first old next new before ends keeps = record {
  same = λ rs is_kept parallel is.
      keeps_phases rs is_kept parallel next new keeps
      (ends_phase rs is_kept parallel old next ends (before.same rs is_kept parallel is));
  rises =
      let h = before.rises in
      let e = ends.over in
      let f = keeps.keeps.over in
      omega (arith, h, e, f);
}

-- ---- a member's barrier ends

pub ended : (number length : ℕ) (old next counted new : Team) → EndsPhases number old next
    → IsSettledAt number length next → KeepsPhases next counted → KeepsPhases counted new
    → HasEnded number length old new
ended number length' old next counted new ends (p, found, most) counts forgets = record {
  ends = record {
    same = λ rs is_kept parallel is.
        keeps_phases rs is_kept parallel counted new forgets
        (keeps_phases rs is_kept parallel next counted counts (ends.same rs is_kept parallel is));
    rises =
        let h = ends.rises in
        let e = counts.keeps.over in
        let f = forgets.keeps.over in
        omega (arith, h, e, f);
    over =
        let h = ends.over in
        let e = counts.keeps.over in
        let f = forgets.keeps.over in
        omega (arith, h, e, f);
  };
  settled = λ rs is_kept parallel is.
      settled_less rs parallel number number p.scope.greatest length' (omega arith) most
      ((ends.same rs is_kept parallel is).each number p ends.over found);
}

-- ---- all members have begun a barrier

pub begun_all : (team : Team) (number : ℕ) (p : Phase) → team.over ≤ number + 1
    → phase_of team number ≡ Some p → team.joined ≤ p.begun → (rs : List Record) (is_kept : ℕ → Bool)
    (parallel : ℕ) → IsTeamOf rs is_kept parallel team → (m : Membership) → Contains (members rs parallel) m
    → team.over ≤ phase_at rs m.member (length rs)
begun_all team number p last found all rs is_kept parallel is m has =
    let (k, there) = contains_get (members rs parallel) m has in
    let e = is.joined in
    let h = is.begun number p found in
    let begun = ahead_all rs (members rs parallel) number (omega (arith, e, h, all)) m k there in
    omega (arith, begun, last)
