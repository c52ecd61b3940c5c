-- The family by the tasks' own order is that of records which say the same as those in that order.
use Rattle.std.proofs.Common.{◌≡◌, ◌∙◌, ℕ, List, Option, Some, refl, sym, ap}
use Rattle.std.specs.Prelude.{◌↔◌, slice_get}
use Rattle.std.specs.Option.{option_map_or}
use Rattle.std.specs.Global.{Vec}
use Rattle.ompt_events.specs.declared.records.Record.{Record}
use Rattle.ompt_events.specs.Tree.{IsParent, IsChild, HasPath, children}
use Rattle.ompt_events.specs.Turns.{in_own_order}
use Rattle.task_tree.specs.Family.{FamilyView, IsFamilyOf}
use Rattle.task_tree.specs.Rising.{TurnsRise}
use Rattle.task_tree.specs.Runs.{RunView}
use Rattle.task_tree.specs.Families.{FamiliesView, AreFamiliesOf, AreArranged, as_in_file, by_turn}
use Rattle.task_tree.specs.Families.{own_family}
use Rattle.task_tree.specs.Paths.{ArePaths, TreeView, IsTreeOf}
use Rattle.task_tree.proofs.RenamedPlaceLemmas.{reordered, reordered_back}
use Rattle.task_tree.proofs.RenamedTreeLemmas.{moved_creation}
use Rattle.task_tree.proofs.RenamingLemmas.{renamed_children, renamed_path}
use Rattle.task_tree.proofs.RisingLemmas.{own_renaming}

-- two lists of records have the same tree
pub record HaveOneTree (rs ss : List Record) : Type 0 where
  pub children : (task : ℕ) → children rs task ≡ children ss task
  pub parents : (parent task : ℕ) → IsParent rs parent task ↔ IsParent ss parent task
  pub paths : (root task : ℕ) (path : List ℕ) → HasPath rs root task path ↔ HasPath ss root task path

pub same_tree : (rs : List Record) → HaveOneTree rs rs
same_tree rs = record {
  children = λ task. refl;
  parents = λ parent task. (λ is. is, λ is. is);
  paths = λ root task path. (λ is. is, λ is. is);
}

-- as the file has the tasks where no task's turns fall
pub rising_tree : (rs : List Record) → TurnsRise rs → HaveOneTree rs (in_own_order rs)
rising_tree rs rise =
    let r = own_renaming rs rise in
    record {
      children = renamed_children r;
      parents = λ parent task. (
        λ (i, says). (_, moved_creation (reordered r) i parent task says),
        λ (i, says). (_, moved_creation (reordered_back (reordered r)) i parent task says),
      );
      paths = renamed_path r;
    }

-- the records that have the family
pub record HasReading (rs : List Record) (tables : FamilyView) : Type 0 where
  pub records : List Record
  pub family : IsFamilyOf records tables
  pub same : HaveOneTree records (in_own_order rs)

pub reading_of : (rs : List Record) (families : FamiliesView) → AreFamiliesOf rs families
    → HasReading rs (own_family families)
reading_of rs families are = by families.arranged families.places are.own
  where
    by : (arranged : Option RunView) (order : List ℕ) → AreArranged rs arranged order
        → HasReading rs (option_map_or (λ (run : RunView). run.family) arranged families.file)
    by _ _ (as_in_file rise) = record { records = rs; family = are.file; same = rising_tree rs rise }
    by _ _ (by_turn {run = run} is records) =
        record {
          records = in_own_order rs;
          family = rw (← records) is.family;
          same = same_tree (in_own_order rs);
        }

-- ---- what is looked up in a tree

both : {A B C : Type 0} → A ↔ B → B ↔ C → A ↔ C
both (there, back) (on, home) = (λ a. on (there a), λ c. back (home c))

pub parent_found : (rs : List Record) (tree : TreeView) (task : ℕ) (found : Option ℕ) → IsTreeOf rs tree
    → ((records : List Record) → IsFamilyOf records (own_family tree.families) → (parent : ℕ)
    → (found ≡ Some parent) ↔ IsParent records parent task)
    → (parent : ℕ) → (found ≡ Some parent) ↔ IsParent (in_own_order rs) parent task
parent_found rs tree task found are known parent =
    let reading = reading_of rs tree.families are.families in
    both (known reading.records reading.family parent) (reading.same.parents parent task)

pub number_found : (rs : List Record) (tree : TreeView) (task : ℕ) (found : Option ℕ) → IsTreeOf rs tree
    → ((records : List Record) → IsFamilyOf records (own_family tree.families) → (number : ℕ)
    → (found ≡ Some number) ↔ ((parent : ℕ) × IsChild records parent number task))
    → (number : ℕ) → (found ≡ Some number) ↔ ((parent : ℕ) × IsChild (in_own_order rs) parent number task)
number_found rs tree task found are known number =
    let reading = reading_of rs tree.families are.families in
    both (known reading.records reading.family number) (
      λ (parent, is). (parent, ap (λ l. slice_get l number) (sym (reading.same.children parent)) ∙ is),
      λ (parent, is). (parent, ap (λ l. slice_get l number) (reading.same.children parent) ∙ is),
    )

pub root_found : (rs : List Record) (tree : TreeView) (task : ℕ) (found : Option ℕ) → IsTreeOf rs tree
    → ((records : List Record) → IsFamilyOf records (own_family tree.families) → (root : ℕ)
    → (found ≡ Some root) ↔ ((path : List ℕ) × HasPath records root task path))
    → (root : ℕ) → (found ≡ Some root) ↔ ((path : List ℕ) × HasPath (in_own_order rs) root task path)
root_found rs tree task found are known root =
    let reading = reading_of rs tree.families are.families in
    both (known reading.records reading.family root) (
      λ (path, is). (path, (reading.same.paths root task path).0 is),
      λ (path, is). (path, (reading.same.paths root task path).1 is),
    )

pub children_found : (rs : List Record) (tree : TreeView) (task : ℕ) (found : List ℕ) → IsTreeOf rs tree
    → ((records : List Record) → IsFamilyOf records (own_family tree.families)
    → found ≡ children records task)
    → found ≡ children (in_own_order rs) task
children_found rs tree task found are known =
    let reading = reading_of rs tree.families are.families in
    known reading.records reading.family ∙ reading.same.children task

-- the paths are those of any records with the same tree
pub paths_alike : (rs ss : List Record) (tasks : List ℕ) (paths : List (Vec ℕ)) → HaveOneTree rs ss
    → ArePaths rs tasks paths → ArePaths ss tasks paths
paths_alike rs ss tasks paths same are = record {
  all = are.all;
  each =
      λ index task root path is stands.
      are.each index task root path is ((same.paths root task path).1 stands);
}

pub same_tree_back : {rs ss : List Record} → HaveOneTree rs ss → HaveOneTree ss rs
same_tree_back same = record {
  children = λ task. sym (same.children task);
  parents = λ parent task. ((same.parents parent task).1, (same.parents parent task).0);
  paths = λ root task path. ((same.paths root task path).1, (same.paths root task path).0);
}

-- a path, and a task that stands at none
pub path_found : (rs : List Record) (tree : TreeView) (task : ℕ) (found : Option (List ℕ)) → IsTreeOf rs tree
    → ((records : List Record) → IsFamilyOf records (own_family tree.families)
    → ArePaths records (own_family tree.families).tasks tree.paths → (path : List ℕ)
    → (found ≡ Some path) ↔ ((root : ℕ) × HasPath records root task path))
    → (path : List ℕ) → (found ≡ Some path) ↔ ((root : ℕ) × HasPath (in_own_order rs) root task path)
path_found rs tree task found are known path =
    let reading = reading_of rs tree.families are.families in
    both
    (known reading.records reading.family
    (paths_alike (in_own_order rs) reading.records (own_family tree.families).tasks tree.paths
    (same_tree_back reading.same) are.paths)
    path) (
      λ (root, is). (root, (reading.same.paths root task path).0 is),
      λ (root, is). (root, (reading.same.paths root task path).1 is),
    )
