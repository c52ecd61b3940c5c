-- What the slots of a record's tasks say, and what is read at an index.
use Rattle.std.proofs.Common.{◌≡◌, ◌∙◌, ℕ, ◌<◌, List, length, get_or, Option, Some, None, sym, ap, arith}
use Rattle.std.proofs.Common.{true, false, refl}
use Rattle.std.proofs.lemmas.Bool.{false≢true}
use Rattle.std.proofs.lemmas.Option.{same_Some, slice_get-get_or, slice_get_within}
use Rattle.std.specs.Prelude.{is_some, slice_get}
use Rattle.task_tree.specs.Subjects.{Calls}
use Rattle.task_tree.proofs.SubjectLemmas.{call_task, call_index}

-- a task that is called stands at the index in its slot
pub call_same : (tasks : List ℕ) (found slot : Option ℕ) (index task : ℕ) → Calls tasks found slot
    → slot ≡ Some index → found ≡ Some task → slice_get tasks index ≡ Some task
call_same tasks found slot index task calls is says =
    let called = call_index tasks found slot task calls says in
    ap (slice_get tasks) (same_Some index called.0 (sym is ∙ called.1)) ∙ called.2

pub index_within : {X : Type 0} (tasks : List ℕ) (table : List X) (found slot : Option ℕ) (index : ℕ)
    → Calls tasks found slot → slot ≡ Some index → length table ≡ length tasks → index < length table
index_within tasks table found slot index calls is all =
    let called = call_task tasks found slot index calls is in
    let inside = slice_get_within tasks index called.0 called.2 in
    omega (arith, inside, all)

-- whether a task is called, by a test of its slot
pub called_there : (tasks : List ℕ) (found slot : Option ℕ) → Calls tasks found slot → is_some slot ≡ true
    → (task : ℕ) × (found ≡ Some task)
called_there tasks None slot none there = absurd (false≢true (sym (ap is_some none) ∙ there))
called_there tasks (Some task) slot calls there = (task, refl)

pub never_called : (tasks : List ℕ) (found slot : Option ℕ) → Calls tasks found slot → is_some slot ≡ false
    → found ≡ None
never_called tasks None slot calls none = refl
never_called tasks (Some task) slot (index, is, here) none = absurd (false≢true (sym none ∙ ap is_some is))

-- what is read at an index
pub read_at : {X : Type 0} (table : List X) (index : ℕ) (x : X) → index < length table
    → x ≡ get_or table index x → slice_get table index ≡ Some x
read_at table index x within is = slice_get-get_or table index x within ∙ ap Some (sym is)
