-- How what is found of the records' tasks grows, and what it says.
use Rattle.std.proofs.Common.{◌≡◌, ◌∙◌, ℕ, ◌<◌, ◌≤◌, ◌^◌, ◌+◌, List, length, Option, Some, None, refl, sym}
use Rattle.std.proofs.Common.{ap, subst, arith, rules, inl, inr, set}
use Rattle.std.proofs.lemmas.Bool.{cases_eq, false≢true}
use Rattle.std.proofs.lemmas.Option.{none-some, same_Some, slice_get_within}
use Rattle.std.proofs.lemmas.List.{length-set, length-replicate}
use Rattle.std.specs.Prelude.{◌↔◌, IfSome, true, is_some, slice_get, replicate, Contains}
use Rattle.ompt_events.specs.declared.records.Record.{Record}
use Rattle.ompt_events.specs.declared.records.Body.{Body}
use Rattle.ompt_events.specs.declared.records.Body.TheVariants.{TaskCreate}
use Rattle.ompt_events.specs.Records.{creation}
use Rattle.ompt_events.specs.Places.{at}
use Rattle.ompt_events.proofs.ListLemmas.{contains_get, get_contains}
use Rattle.task_tree.proofs.LinkLemmas.{get_set_same, get_set_other}
use Rattle.index_tables.specs.Numbering.{AreApart}
use Rattle.task_tree.specs.Links.{IsSlotOf}
use Rattle.index_tables.proofs.NumberingLemmas.{index_is}
use Rattle.task_tree.specs.Subjects.{Finds, Calls, AreFound, AreFoundUpTo}
use Rattle.packed_trace.specs.Named.{subject, object}

pub finds_none : (tasks : List ℕ) (task : ℕ) (index : Option ℕ)
    → ((k : ℕ) → (index ≡ Some k) ↔ (slice_get tasks k ≡ Some task)) → index ≡ None
    → Finds tasks (Some task) None
finds_none tasks task index is none other same has =
    let stands = contains_get tasks other has in
    none-some stands.0 (sym none ∙ (is stands.0).1 (stands.1 ∙ sym same))

-- the index that a look-up gives
pub index_small : (tasks : List ℕ) (task : ℕ) (index : Option ℕ)
    → ((k : ℕ) → (index ≡ Some k) ↔ (slice_get tasks k ≡ Some task)) → length tasks ≤ 2 ^ 22
    → IfSome index (λ k. k < 4294967295)
index_small tasks task None is few = search rules
index_small tasks task (Some k) is few =
    let inside = slice_get_within tasks k task ((is k).0 refl) in omega (arith, inside, few)

pub finds_index : (tasks : List ℕ) (task : ℕ) (index : Option ℕ)
    → ((k : ℕ) → (index ≡ Some k) ↔ (slice_get tasks k ≡ Some task)) → Finds tasks (Some task) index
finds_index tasks task None is = finds_none tasks task None is refl
finds_index tasks task (Some k) is = (task, refl, (is k).0 refl)

pub index_contains : (tasks : List ℕ) (task : ℕ) (index : Option ℕ)
    → ((k : ℕ) → (index ≡ Some k) ↔ (slice_get tasks k ≡ Some task)) → (index ≡ None → ⊥)
    → Contains tasks task
index_contains tasks task None is some = absurd (some refl)
index_contains tasks task (Some k) is some = get_contains tasks task k ((is k).0 refl)

-- where the task is in the list, its index is known
pub finds_calls : (tasks : List ℕ) (found slot : Option ℕ) → Finds tasks found slot
    → ((task : ℕ) → found ≡ Some task → Contains tasks task) → Calls tasks found slot
finds_calls tasks None None finds has = refl
finds_calls tasks None (Some index) (task, is, stands) has = absurd (none-some task is)
finds_calls tasks (Some task) None finds has = absurd (finds task refl (has task refl))
finds_calls tasks (Some task) (Some index) (other, is, stands) has = (index, refl, stands ∙ sym is)

-- ---- what a call says, for the phases on top

pub call_index : (tasks : List ℕ) (found slot : Option ℕ) (task : ℕ) → Calls tasks found slot
    → found ≡ Some task → (index : ℕ) × (slot ≡ Some index) × (slice_get tasks index ≡ Some task)
call_index tasks None slot task calls is = absurd (none-some task is)
call_index tasks (Some other) slot task (index, here, stands) is = (index, here, stands ∙ is)

pub call_task : (tasks : List ℕ) (found slot : Option ℕ) (index : ℕ) → Calls tasks found slot
    → slot ≡ Some index → (task : ℕ) × (found ≡ Some task) × (slice_get tasks index ≡ Some task)
call_task tasks None slot index none is = absurd (none-some index (sym none ∙ is))
call_task tasks (Some task) slot index (other, here, stands) is =
    (task, refl, ap (slice_get tasks) (same_Some index other (sym is ∙ here)) ∙ stands)

pub call_none : (tasks : List ℕ) (found slot : Option ℕ) → Calls tasks found slot → slot ≡ None → found ≡ None
call_none tasks None slot none is = refl
call_none tasks (Some task) slot (index, here, stands) is = absurd (none-some index (sym is ∙ here))

-- ---- a table that is filled record by record

pub up_to_start : (says : Body → Option ℕ) (rs : List Record) (tasks : List ℕ) (slots : List (Option ℕ))
    → slots ≡ replicate (length rs) None → AreFoundUpTo says rs 0 tasks slots
up_to_start says rs tasks slots fresh = record {
  all = ap length fresh ∙ length-replicate (length rs) None;
  each = λ i below. absurd (omega arith);
}

pub up_to_more : (says : Body → Option ℕ) (rs : List Record) (n : ℕ) (tasks : List ℕ)
    (slots : List (Option ℕ)) (slot : Option ℕ)
    → n < length rs → AreFoundUpTo says rs n tasks slots → Finds tasks (at says rs n) slot
    → AreFoundUpTo says rs (n + 1) tasks (set slots n slot)
up_to_more says rs n tasks slots slot within are finds = record {
  all = length-set slots n slot ∙ are.all;
  each = λ i below. elim (cases_eq i n) [
    | inl same ↦ (
      slot,
      ap (slice_get (set slots n slot)) same
          ∙ get_set_same slots n slot (let all = are.all in omega (arith, all, within)),
      let P : ℕ → Type 0 =
          λ k. Finds tasks (at says rs k) slot in subst P (sym same) finds,
    )
    | inr apart ↦
        let old = are.each i (omega arith) in (old.0, get_set_other slots n i slot apart ∙ old.1, old.2)
  ];
}

pub up_to_end : (says : Body → Option ℕ) (rs : List Record) (n : ℕ) (tasks : List ℕ) (slots : List (Option ℕ))
    → n ≡ length rs → AreFoundUpTo says rs n tasks slots → AreFound says rs (length rs) tasks slots
up_to_end says rs n tasks slots at_end are = record {
  all = are.all;
  each = λ i below. are.each i (omega (arith, at_end, below));
}

-- ---- the slots of a record that creates a task

pub created_names : (b : Body) (parent child : ℕ) → creation b ≡ Some (parent, child)
    → (subject b ≡ Some parent) × (object b ≡ Some child)
created_names (TaskCreate deps flags task own) parent child is =
    let same : (task, own) ≡ (parent, child) = same_Some (task, own) (parent, child) is in
    (ap (λ (p : ℕ × ℕ). Some p.0) same, ap (λ (p : ℕ × ℕ). Some p.1) same)
created_names _ parent child is = absurd (none-some (parent, child) is)

pub finds_slot : (tasks : List ℕ) (found slot : Option ℕ) (task : ℕ) → AreApart tasks → Finds tasks found slot
    → found ≡ Some task → IsSlotOf tasks task slot
finds_slot tasks found None task apart finds is =
    λ k. (
      λ holds.
          absurd (none-some k holds),
      λ stands. absurd (finds task is (get_contains tasks task k stands)),
    )
finds_slot tasks found (Some index) task apart (other, names, stands) is =
    index_is tasks task index apart (stands ∙ sym names ∙ is)

-- what is so of each task's index is so of the one in the slot
pub slot_holds : (tasks : List ℕ) (found slot : Option ℕ) (P : ℕ → Type 0) → Finds tasks found slot
    → ((task k : ℕ) → slice_get tasks k ≡ Some task → P k) → IfSome slot P
slot_holds tasks found None P finds all = search rules
slot_holds tasks found (Some k) P (task, is, stands) all = all task k stands

pub some_there : {X : Type 0} (o : Option X) → is_some o ≡ true → (x : X) × (o ≡ Some x)
some_there None is = absurd (false≢true is)
some_there (Some x) is = (x, refl)
