-- Records that tell rightly what they tell, each turn begun once and in order on its thread, have no gap.
use Rattle.std.proofs.Common.{◌≡◌, ◌∙◌, ℕ, ◌<◌, ◌+◌, ◌-◌, List, length, Some, refl, ap, subst, arith, inl}
use Rattle.std.proofs.Common.{inr}
use Rattle.std.proofs.lemmas.Option.{slice_get_cases}
use Rattle.std.specs.Prelude.{option_map}
use Rattle.ompt_events.specs.declared.records.Record.{Record}
use Rattle.ompt_events.specs.declared.cause.Cause.TheVariants.{CreatedTwice, TurnGap}
use Rattle.ompt_events.specs.Records.{begun_turn}
use Rattle.ompt_events.specs.Places.{at, thread_at}
use Rattle.ompt_events.specs.Tree.{IsRoot, IsExplicit}
use Rattle.ompt_events.specs.Causes.{HasTurnGap, other_turn, begun_again, falling, of_root, missing}
use Rattle.ompt_events.specs.Causes.{BeginsTurn, runs, is_root, IsFreeOf}
use Rattle.task_tree.specs.TurnTable.{TurnsBeginInOrder}
use Rattle.task_tree.specs.TurnRows.{BeginsAnew}
use Rattle.task_tree.specs.Gaps.{MayBeginThere, TellsRightly}
use Rattle.task_tree.proofs.GapLemmas.{free_of_gap}
use Rattle.task_tree.proofs.SuspendedLemmas.{explicit_not_root}

-- ---- the turn that begins

pub first_of_created : (rs : List Record) (task turn : ℕ) → IsFreeOf rs CreatedTwice → turn ≡ 0
    → IsExplicit rs task → MayBeginThere rs task turn
first_of_created rs task turn once first explicit = record {
  created = λ zero_turn root. explicit_not_root rs task once explicit root;
  before = λ last is. absurd (omega (arith, first, is));
}

pub next_of_root : (rs : List Record) (task turn : ℕ) → turn ≡ 1 → IsRoot rs task → MayBeginThere rs task turn
next_of_root rs task turn second root = record {
  created = λ first. absurd (omega (arith, first, second));
  before =
      λ last is.
      let zero_last : 0 ≡ last = omega (arith, is, second) in
      (root.0, subst (BeginsTurn rs root.0 task) zero_last (is_root root.1));
}

pub next_of_begun : (rs : List Record) (task turn k : ℕ) → 0 < turn
    → at begun_turn rs k ≡ Some (task, turn - 1) → MayBeginThere rs task turn
next_of_begun rs task turn k later begins = record {
  created = λ first. absurd (omega (arith, first, later));
  before =
      λ last is.
      let same : turn - 1 ≡ last = omega (arith, is) in
      (k, subst (BeginsTurn rs k task) same (runs begins));
}

-- ---- all records

pub thread_there : (rs : List Record) (i : ℕ) → i < length rs → (thread : ℕ) × (thread_at rs i ≡ Some thread)
thread_there rs i within = elim (slice_get_cases rs i).1 [
  | inl (r, inside, stands, read) ↦ (r.thread, ap (option_map (λ (q : Record). q.thread)) stands)
  | inr (past, stands) ↦ absurd (omega (arith, past, within))
]

pub gap_free : (rs : List Record) → TurnsBeginInOrder rs → ((i : ℕ) → BeginsAnew rs i)
    → ((i : ℕ) → i < length rs → TellsRightly rs i) → IsFreeOf rs TurnGap
gap_free rs order anew right = free_of_gap rs (length rs) (omega arith) none
  where
    none : (i : ℕ) → i < length rs → HasTurnGap rs i → ⊥
    none i within (other_turn told says other) = other ((right i within).prior told says)
    none i within (begun_again task turn k tells below begins) = anew i k task turn below tells.1 begins
    none i within (falling task turn k later tells below same begins less) =
        let here = thread_there rs i within in
        let low = order i k here.0 task turn later below here.1 (same ∙ here.1) tells.1 begins in
        absurd (omega (arith, low, less))
    none i within (of_root task tells root) = ((right i within).next task 0 tells.1).created refl root
    none i within (missing task turn tells never) =
        let before = ((right i within).next task (turn + 1) tells.1).before turn refl in
        never before.0 before.1
