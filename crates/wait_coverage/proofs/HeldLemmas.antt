-- The task's length is the least at which the ledger that the records make holds the task's credit.
use Rattle.std.proofs.Common.{◌≡◌, ℕ, ◌<◌, ◌^◌, List, length, Some, arith, inl, inr, sym, ap, ◌∙◌}
use Rattle.std.proofs.lemmas.Option.{slice_get_within, slice_get-get_or}
use Rattle.std.specs.Prelude.{◌↔◌, slice_get, slice_index}
use Rattle.ompt_events.specs.declared.records.Record.{Record}
use Rattle.ompt_events.specs.Tree.{IsExplicit, HasPath, IsChild, children, child, deeper}
use Rattle.ompt_events.specs.Coverage.{IsFamily}
use Rattle.ompt_events.proofs.ListLemmas.{contains_get}
use Rattle.ompt_events.proofs.PlaceLemmas.{at_within}
use Rattle.ompt_events.proofs.RecordLemmas.{created_at_creation}
use Rattle.ompt_events.proofs.TreeLemmas.{child_before}
use Rattle.ompt_events.specs.Records.{creation}
use Rattle.task_tree.specs.Family.{FamilyView, IsFamilyOf}
use Rattle.task_tree.proofs.PathLemmas.{root_known}
use Rattle.credit_ledger.specs.declared.entry.Entry.{Entry}
use Rattle.credit_ledger.specs.TraceEntries.{IsDone, IsLedgerOf, HasRightEntries}
use Rattle.credit_ledger.specs.TraceCredits.{IsFamilyDone}
use Rattle.credit_ledger.proofs.CreditLaw.{held_in_pool, held_in_tree}
use Rattle.wait_coverage.specs.Done.{DoneView, records_of, tasks_of, IsEarly, IsFamilyEarly, IsDoneView}
use Rattle.wait_coverage.specs.Done.{AreDone, AreChildrenDone}
use Rattle.wait_coverage.specs.Known.{AreHeldFrom}
use Rattle.wait_coverage.proofs.DoneLemmas.{indices_of}
use Rattle.task_states.proofs.HomeLemmas.{explicit_index}

-- ---- the tasks' own lengths

-- a task's own length, where its index is known
own_there : (done : DoneView) (index task : ℕ) → IsDoneView done → slice_get (tasks_of done) index ≡ Some task
    → slice_get done.own index ≡ Some (slice_index done.own index)
own_there done index task is here =
    let inside = slice_get_within (tasks_of done) index task here in
    let all = is.own in
    slice_get-get_or done.own index 0 (omega (arith, inside, all))

pub own_early : (done : DoneView) (index task m : ℕ) → IsDoneView done → AreDone done
    → slice_get (tasks_of done) index ≡ Some task → m < 2 ^ 32
    → IsEarly done m task ↔ IsDone (records_of done) m task
own_early done index task m is are here small = (
  λ early.
      let there = own_there done index task is here in
      (are.each index task (slice_index done.own index) here there m small).0
      (early index (slice_index done.own index) here there),
  λ finished other limit other_here stands. (are.each other task limit other_here stands m small).1 finished,
)

pub own_children_done : (done : DoneView) → IsDoneView done → AreDone done → AreChildrenDone done
own_children_done done is are = λ task m explicit small.
    let found = explicit_index (records_of done) done.teams.run.family task is.teams.run.family explicit in
    own_early done found.0 task m is are found.1 small

-- ---- the lengths of families

-- a task of the family has an index
member_index : (rs : List Record) (family : FamilyView) (index task t : ℕ) → IsFamilyOf rs family
    → slice_get family.tasks index ≡ Some task → IsFamily rs task t
    → (k : ℕ) × (slice_get family.tasks k ≡ Some t)
member_index rs family index task t are here (inl same) = (index, here ∙ ap Some (sym same))
member_index rs family index task t are here (inr (child i creates)) =
    let found = indices_of rs family i task t are creates in (found.index, found.is_task)
member_index rs family index task t are here (inr (deeper i {parent = parent} above creates)) =
    let found = indices_of rs family i parent t are creates in (found.index, found.is_task)

pub family_early : (done : DoneView) (index task m : ℕ) → IsDoneView done → AreDone done
    → slice_get (tasks_of done) index ≡ Some task → m < 2 ^ 32
    → IsFamilyEarly done m task ↔ IsFamilyDone (records_of done) m task
family_early done index task m is are here small = (
  λ early t of.
      let found =
      member_index (records_of done) done.teams.run.family index task t is.teams.run.family here of in
      (own_early done found.0 t m is are found.1 small).0 (early t of),
  λ finished t of.
      let found =
      member_index (records_of done) done.teams.run.family index task t is.teams.run.family here of in
      (own_early done found.0 t m is are found.1 small).1 (finished t of),
)

-- ---- what the ledger holds

pub held_from : (done : DoneView) (entries : List Entry) → IsDoneView done → AreDone done
    → HasRightEntries (records_of done) → IsLedgerOf (records_of done) entries → AreHeldFrom done entries
held_from done entries is are right ledger = record {
  pool = λ index task limit n root parent number path here stands has_path is_child small.
      let from = are.each index task limit here stands n small in
      let held =
      held_in_pool (records_of done) entries n root parent number task path is.teams.run.trace right
      ledger has_path is_child in
      (λ low. held.0 (from.0 low), λ holds. from.1 (held.1 holds));
  tree = λ index task limit n root path here stands has_path small.
      let greatest = is.families.each index task limit n here stands in
      let early = family_early done index task n is are here small in
      let held =
      held_in_tree (records_of done) entries n root task path is.teams.run.trace right ledger has_path in
      (λ low. held.0 (early.0 (greatest.0 low)), λ holds. greatest.1 (early.1 (held.1 holds)));
}

-- a task that another one created stands at a path
pub record HasPlace (rs : List Record) (tasks : List ℕ) (task : ℕ) : Type 0 where
  pub index : ℕ
  pub root : ℕ
  pub parent : ℕ
  pub number : ℕ
  pub path : List ℕ
  pub indexed : slice_get tasks index ≡ Some task
  pub has_path : HasPath rs root parent path
  pub is_child : IsChild rs parent number task

place_known : (rs : List Record) (family : FamilyView) (task : ℕ) → IsFamilyOf rs family → IsExplicit rs task
    → HasPlace rs family.tasks task
place_known rs family task are (i, is) =
    let made = created_at_creation task rs i is in
    let found = indices_of rs family i made.0 task are made.1 in
    let stands = root_known rs family made.0 found.up are found.is_parent in
    let numbered =
    contains_get (children rs made.0) task
    (child_before rs made.0 task (length rs) i (at_within creation rs i (made.0, task) made.1)
    made.1) in
    record {
      index = found.index;
      root = stands.0;
      parent = made.0;
      number = numbered.0;
      path = stands.1;
      indexed = found.is_task;
      has_path = stands.2;
      is_child = numbered.1;
    }

pub held_children_done : (done : DoneView) (entries : List Entry) → IsDoneView done
    → HasRightEntries (records_of done) → IsLedgerOf (records_of done) entries → AreHeldFrom done entries
    → AreChildrenDone done
held_children_done done entries is right ledger from = λ task m explicit small.
    let at = place_known (records_of done) done.teams.run.family task is.teams.run.family explicit in
    let held =
    held_in_pool (records_of done) entries m at.root at.parent at.number task at.path is.teams.run.trace
    right ledger at.has_path at.is_child in (
      λ early.
          let there = own_there done at.index task is at.indexed in
          held.1
          ((from.pool at.index task (slice_index done.own at.index) m at.root at.parent at.number at.path
          at.indexed there at.has_path at.is_child small).0
          (early at.index (slice_index done.own at.index) at.indexed there)),
      λ finished index limit here stands.
          (from.pool index task limit m at.root at.parent at.number at.path here stands at.has_path
          at.is_child small).1
          (held.0 finished),
    )
