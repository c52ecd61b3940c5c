-- A share of one task begins with a share of another task, of the same root's credit, only if they are one
-- task.
use Rattle.std.proofs.Common.{◌≡◌, ◌∙◌, ℕ, true, List, ◌++◌, length, replicate, sym, ap, subst, arith}
use Rattle.ompt_events.specs.declared.records.Record.{Record}
use Rattle.ompt_events.specs.Tree.{children, HasPath}
use Rattle.credit_ledger.specs.declared.share.Half.{Half}
use Rattle.credit_ledger.specs.declared.share.Half.TheVariants.{Keep}
use Rattle.credit_ledger.specs.Shares.{begins_with}
use Rattle.credit_ledger.proofs.RegionLemmas.{begins_with-shift}
use Rattle.credit_ledger.proofs.HalfLemmas.{Meets, same, under, over}
use Rattle.credit_ledger.proofs.StandLemmas.{one_task, child_on_way}

-- ..and what follows behind what the task kept begins likewise
pub record IsOneTask (task other : ℕ) (rest halves : List Half) : Type 0 where
  pub task_is : task ≡ other
  pub begun : begins_with rest halves ≡ true

pub one_of_meeting : (rs : List Record) (root task other : ℕ) (path way : List ℕ) (rest halves : List Half)
    → HasPath rs root task path → HasPath rs root other way
    → Meets (length (children rs task)) (length (children rs other)) rest halves path way
    → IsOneTask task other rest halves
one_of_meeting rs root task other path way rest halves stands also (same is begun) =
    let P : List ℕ → Type 0 = λ p. HasPath rs root task p in
    let one = one_task rs root task other way (subst P is stands) also in
    let Q : ℕ → Type 0 =
    λ k.
    begins_with (replicate k Keep ++ rest) (replicate (length (children rs other)) Keep ++ halves)
    ≡ true in
    let alike = subst Q (ap (λ t. length (children rs t)) one) begun in
    record {
      task_is = one;
      begun = sym (begins_with-shift (replicate (length (children rs other)) Keep) rest halves) ∙ alike;
    }
one_of_meeting rs root task other path way rest halves stands also (under number more is few) =
    let up = child_on_way rs root other way path more number also is in
    let count : length (children rs task) ≡ length (children rs up.parent) =
    ap (λ t. length (children rs t)) (one_task rs root task up.parent path stands up.higher) in
    let enough = up.few in
    absurd (omega (arith, enough, count, few))
one_of_meeting rs root task other path way rest halves stands also (over number more is few) =
    let up = child_on_way rs root task path way more number stands is in
    let count : length (children rs other) ≡ length (children rs up.parent) =
    ap (λ t. length (children rs t)) (one_task rs root other up.parent way also up.higher) in
    let enough = up.few in
    absurd (omega (arith, enough, count, few))
