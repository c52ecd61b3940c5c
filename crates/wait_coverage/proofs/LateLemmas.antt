-- All tasks that a wait is for and that are late, one after another by their indices.
use Rattle.std.proofs.Common.{◌≡◌, ◌≢◌, ◌∙◌, ℕ, ◌<◌, ◌≤◌, ◌+◌, List, [], ◌∷◌, ◌++◌, length, get_or, Some, sym}
use Rattle.std.proofs.Common.{ap}
use Rattle.std.proofs.Common.{subst, arith, inl, inr}
use Rattle.std.proofs.lemmas.Bool.{cases_eq}
use Rattle.std.proofs.lemmas.Option.{same_Some, slice_get_within}
use Rattle.std.proofs.lemmas.List.{get_or_default}
use Rattle.std.proofs.lemmas.List.Elements.{Contains-push, Contains-push_cases, Contains-append_left}
use Rattle.std.proofs.lemmas.List.Quantifiers.{all_pairs_push}
use Rattle.std.specs.Prelude.{◌↔◌, Contains, slice_get}
use Rattle.index_tables.specs.Numbering.{AreApart}
use Rattle.ompt_events.specs.declared.records.Record.{Record}
use Rattle.ompt_events.specs.Records.{creation}
use Rattle.ompt_events.specs.Places.{at}
use Rattle.ompt_events.specs.Tree.{child, deeper}
use Rattle.task_tree.specs.Family.{FamilyView, IsFamilyOf}
use Rattle.credit_ledger.specs.declared.entry.Cover.{Cover}
use Rattle.credit_ledger.specs.declared.entry.Cover.TheVariants.{Children, Descendants}
use Rattle.wait_coverage.specs.Done.{DoneView, tasks_of}
use Rattle.wait_coverage.specs.Waits.{AreEach, IsAwaited, IsAwaitedBy, IsAwaitedUnfinished, cover_of}
use Rattle.wait_coverage.proofs.DoneLemmas.{indices_of}
use Rattle.wait_coverage.specs.declared.waits.Wait.{Wait}

-- the task at an index below n is late
pub record IsLateBelow (done : DoneView) (wait : Wait) (seen n task : ℕ) : Type 0 where
  pub index : ℕ
  pub below : index < n
  pub there : slice_get (tasks_of done) index ≡ Some task
  pub late : IsAwaitedUnfinished done wait seen task

-- these are all of them, each once
abbrev pub AreLateBelow : DoneView → Wait → ℕ → ℕ → List ℕ → Type 0
AreLateBelow done wait seen n late = AreEach (IsLateBelow done wait seen n) late

pub late_none : (done : DoneView) (wait : Wait) (seen : ℕ) → AreLateBelow done wait seen 0 []
late_none done wait seen = record {
  exactly = λ task. (
    λ (k, below, is). absurd (omega (arith, below)),
    λ is. let below = is.below in absurd (omega (arith, below)),
  );
  apart = λ i j d less within. absurd (omega (arith, within));
}

below_more : (done : DoneView) (wait : Wait) (seen n task : ℕ) → IsLateBelow done wait seen n task
    → IsLateBelow done wait seen (n + 1) task
below_more done wait seen n task is = record {
  index = is.index;
  below = let below = is.below in omega (arith, below);
  there = is.there;
  late = is.late;
}

-- one that is not late
pub late_not : (done : DoneView) (wait : Wait) (seen n task : ℕ) (late : List ℕ)
    → slice_get (tasks_of done) n ≡ Some task → (IsAwaitedUnfinished done wait seen task → ⊥)
    → AreLateBelow done wait seen n late → AreLateBelow done wait seen (n + 1) late
late_not done wait seen n task late there not_late are = record {
  exactly = λ other. (
    λ has. below_more done wait seen n other ((are.exactly other).0 has),
    λ is. elim (cases_eq is.index n) [
      | inl same ↦
          let P : ℕ → Type 0 = IsAwaitedUnfinished done wait seen in
          absurd
          (not_late
          (subst P
          (same_Some other task (sym is.there ∙ ap (slice_get (tasks_of done)) same ∙ there)) is.late))
      | inr apart ↦
          let below = is.below in
          (are.exactly other).1
          (record { index = is.index; below = omega (arith, below, apart); there = is.there; late = is.late })
    ],
  );
  apart = are.apart;
}

-- one that is
pub late_one : (done : DoneView) (wait : Wait) (seen n task : ℕ) (late : List ℕ) → AreApart (tasks_of done)
    → slice_get (tasks_of done) n ≡ Some task → IsAwaitedUnfinished done wait seen task
    → AreLateBelow done wait seen n late → AreLateBelow done wait seen (n + 1) (late ++ task ∷ [])
late_one done wait seen n task late apart there is_late are = record {
  exactly = λ other. (
    λ has. elim (Contains-push_cases late task other has) [
      | inl before ↦ below_more done wait seen n other ((are.exactly other).0 before)
      | inr same ↦
          let P : ℕ → Type 0 = IsLateBelow done wait seen (n + 1) in
          subst P same (record { index = n; below = omega arith; there = there; late = is_late })
    ],
    λ is. elim (cases_eq is.index n) [
      | inl same ↦
          let P : ℕ → Type 0 = Contains (late ++ task ∷ []) in
          subst P
          (same_Some task other (sym there ∙ ap (slice_get (tasks_of done)) (sym same) ∙ is.there))
          (Contains-push late task)
      | inr other_index ↦
          let below = is.below in
          Contains-append_left late (task ∷ []) other
          ((are.exactly other).1
          (record {
            index = is.index;
            below = omega (arith, below, other_index);
            there = is.there;
            late = is.late;
          }))
    ],
  );
  apart = all_pairs_push (λ x y. x ≢ y) late task are.apart new;
}
  where
    new : (k d : ℕ) → k < length late → get_or late k d ≢ task
    new k d below same =
        let is = (are.exactly task).0 (k, below, get_or_default late k task d below ∙ same) in
        let less = is.below in
        let here = apart is.index n task is.there there in
        absurd (omega (arith, less, here))

-- each task that is waited for has an index
pub awaited_indexed : (rs : List Record) (family : FamilyView) (task : ℕ) (wait : Wait) → IsFamilyOf rs family
    → IsAwaited rs family.tasks wait task → (index : ℕ) × (slice_get family.tasks index ≡ Some task)
awaited_indexed rs family task wait are is = of (cover_of wait) is
  where
    by_creation : (i parent born : ℕ) → at creation rs i ≡ Some (parent, born)
        → (index : ℕ) × (slice_get family.tasks index ≡ Some born)
    by_creation i parent born creates =
        let known = indices_of rs family i parent born are creates in (known.index, known.is_task)

    of : (cover : Cover) → IsAwaitedBy rs family.tasks task wait cover
        → (index : ℕ) × (slice_get family.tasks index ≡ Some task)
    of Children own = by_creation own.made own.parent task own.creates
    of Descendants (first, own, inl same) =
        let P : ℕ → Type 0 = λ t. (index : ℕ) × (slice_get family.tasks index ≡ Some t) in
        subst P (sym same) (by_creation own.made own.parent first own.creates)
    of Descendants (first, own, inr (child i creates)) = by_creation i first task creates
    of Descendants (first, own, inr (deeper i {parent = parent} above creates)) = by_creation i parent task
        creates

-- at the end these are all
pub late_each : (done : DoneView) (wait : Wait) (seen n : ℕ) (late : List ℕ) → length (tasks_of done) ≤ n
    → ((task : ℕ) → IsAwaitedUnfinished done wait seen task
    → (index : ℕ) × (slice_get (tasks_of done) index ≡ Some task))
    → AreLateBelow done wait seen n late → AreEach (IsAwaitedUnfinished done wait seen) late
late_each done wait seen n late all indexed are = record {
  exactly = λ task. (
    λ has. ((are.exactly task).0 has).late,
    λ is.
        let there = indexed task is in
        let within = slice_get_within (tasks_of done) there.0 task there.1 in
        (are.exactly task).1
        (record { index = there.0; below = omega (arith, within, all); there = there.1; late = is }),
  );
  apart = are.apart;
}

-- the same tasks by another word for them
pub each_same : (one other : ℕ → Type 0) (tasks : List ℕ) → ((task : ℕ) → one task ↔ other task)
    → AreEach one tasks → AreEach other tasks
each_same one other tasks same are = record {
  exactly = λ task. (
    λ has. (same task).0 ((are.exactly task).0 has),
    λ is. (are.exactly task).1 ((same task).1 is),
  );
  apart = are.apart;
}

-- where there is none
pub no_task : (is : ℕ → Type 0) → ((task : ℕ) → is task → ⊥) → AreEach is []
no_task is none = record {
  exactly = λ task. (λ (k, below, same). absurd (omega (arith, below)), λ it_is. absurd (none task it_is));
  apart = λ i j d less within. absurd (omega (arith, within));
}
