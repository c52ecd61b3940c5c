-- What a task without an index depends on.
use Rattle.std.proofs.Common.{◌≡◌, ℕ, List, [], Some, arith}
use Rattle.std.specs.Prelude.{◌↔◌, slice_get, Contains}
use Rattle.ompt_events.specs.declared.records.Record.{Record}
use Rattle.ompt_events.specs.declared.deps.Dep.{Dep}
use Rattle.ompt_events.specs.Records.{dependences}
use Rattle.ompt_events.specs.Dependences.{DependsOn}
use Rattle.task_tree.specs.Family.{FamilyView, IsFamilyOf}
use Rattle.task_tree.proofs.LookupLemmas.{subject_calls}
use Rattle.task_tree.proofs.NamedLemmas.{subject_index, dependences_subject}

contains_nothing : (dep : Dep) → Contains (let l : List Dep = [] in l) dep → ⊥
contains_nothing dep (k, below, is) = absurd (omega arith)

-- a task that depends on something has an index
pub depends_index : (rs : List Record) (family : FamilyView) (task : ℕ) (dep : Dep) → IsFamilyOf rs family
    → DependsOn rs task dep → (index : ℕ) × (slice_get family.tasks index ≡ Some task)
depends_index rs family task dep are depends =
    let found =
    subject_index dependences (task, depends.1) task rs depends.0 family.tasks _
    (dependences_subject task depends.1) (subject_calls rs family depends.0 are) depends.2 in
    (found.0, found.2)

pub unmade_items : (rs : List Record) (family : FamilyView) (task : ℕ) → IsFamilyOf rs family
    → ((index : ℕ) → slice_get family.tasks index ≡ Some task → ⊥) → (dep : Dep)
    → Contains [] dep ↔ DependsOn rs task dep
unmade_items rs family task are none dep = (
  λ has. absurd (contains_nothing dep has),
  λ depends. let found = depends_index rs family task dep are depends in absurd (none found.0 found.1),
)
