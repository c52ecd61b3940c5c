-- How many children a task had created before a record.
use Rattle.std.proofs.Common.{◌≡◌, ◌≢◌, ◌∙◌, ℕ, ◌+◌, List, length, Some, None, sym, ap, inl, inr}
use Rattle.std.proofs.lemmas.Bool.{cases_eq}
use Rattle.std.proofs.lemmas.Option.{same_Some, slice_get_within}
use Rattle.std.proofs.lemmas.List.{length_push, length-set}
use Rattle.std.proofs.Math.ListN.{set}
use Rattle.std.specs.Prelude.{slice_get}
use Rattle.ompt_events.specs.declared.records.Record.{Record}
use Rattle.ompt_events.specs.Records.{creation}
use Rattle.ompt_events.specs.Places.{at}
use Rattle.ompt_events.specs.Tree.{child_number, children_before}
use Rattle.ompt_events.proofs.TreeLemmas.{children_same, children_more, child_at_none, child_at_other}
use Rattle.index_tables.specs.Numbering.{AreApart}
use Rattle.task_tree.proofs.LinkLemmas.{get_set_same, get_set_other}
use Rattle.wait_coverage.specs.Numbers.{AreCreationCounts}

pub counts_other : (rs : List Record) (n : ℕ) (tasks counts : List ℕ) → AreCreationCounts rs n tasks counts
    → at creation rs n ≡ None → AreCreationCounts rs (n + 1) tasks counts
counts_other rs n tasks counts are none = record {
  all = are.all;
  each =
      λ index task count is_task stands.
      are.each index task count is_task stands
      ∙ ap length (sym (children_same rs task n (child_at_none rs task n none)));
}

pub counts_more : (rs : List Record) (n own parent child old : ℕ) (tasks counts : List ℕ) → AreApart tasks
    → AreCreationCounts rs n tasks counts → slice_get tasks own ≡ Some parent
    → slice_get counts own ≡ Some old
    → at creation rs n ≡ Some (parent, child) → AreCreationCounts rs (n + 1) tasks (set counts own (old + 1))
counts_more rs n own parent child old tasks counts apart are is_own stands_old creates = record {
  all = length-set counts own (old + 1) ∙ are.all;
  each = λ index task count is_task stands. elim (cases_eq index own) [
    | inl same ↦
        let is_parent : task ≡ parent =
        same_Some task parent (sym is_task ∙ ap (slice_get tasks) same ∙ is_own) in
        let is_count : count ≡ old + 1 =
        same_Some count (old + 1)
        (sym stands ∙ ap (slice_get (set counts own (old + 1))) same
        ∙ get_set_same counts own (old + 1) (slice_get_within counts own old stands_old)) in
        let before = are.each own parent old is_own stands_old in
        is_count ∙ ap (λ k. k + 1) before ∙ sym (length_push (children_before rs parent n) child)
        ∙ ap length (sym (children_more rs parent child n creates))
        ∙ ap (λ t. child_number rs t (n + 1)) (sym is_parent)
    | inr different ↦
        let other : parent ≢ task =
        λ same. different (apart index own parent (is_task ∙ ap Some (sym same)) is_own) in
        are.each index task count is_task (sym (get_set_other counts own index (old + 1) different) ∙ stands)
        ∙ ap length (sym (children_same rs task n (child_at_other rs task parent child n creates other)))
  ];
}
