-- Entries of two records don't overlap.
use Rattle.std.proofs.Common.{◌≡◌, ◌≢◌, ◌∙◌, ℕ, Bool, true, false, List, ◌++◌, length, replicate, Some, refl}
use Rattle.std.proofs.Common.{sym, ap, subst, inl, inr}
use Rattle.std.specs.Prelude.{◌==◌, ◌||◌}
use Rattle.std.proofs.lemmas.Bool.{cases_Bool, and_parts, or_cases, or_left, or_right, eqb-true, false≢true}
use Rattle.std.proofs.lemmas.Bool.{false_from_ne_true}
use Rattle.std.proofs.lemmas.List.{append_assoc}
use Rattle.ompt_events.specs.declared.records.Record.{Record}
use Rattle.ompt_events.specs.declared.records.Part.{Part}
use Rattle.ompt_events.specs.declared.records.Part.TheVariants.{Whole, Body, Event}
use Rattle.ompt_events.specs.Tree.{children, HasPath}
use Rattle.credit_ledger.specs.declared.share.Half.{Half}
use Rattle.credit_ledger.specs.declared.share.Half.TheVariants.{Keep}
use Rattle.credit_ledger.specs.Shares.{begins_with, overlaps, start_share}
use Rattle.credit_ledger.specs.declared.entry.Entry.{Entry}
use Rattle.credit_ledger.specs.Entries.{part_halves, tree_share, parent_and_number, is_same_path}
use Rattle.credit_ledger.specs.Entries.{overlaps_in_pool, is_overlap}
use Rattle.credit_ledger.proofs.CodeLemmas.{same_path-true}
use Rattle.credit_ledger.proofs.OverlapLemmas.{overlaps_in_pool-root, overlaps_in_pool-other}
use Rattle.credit_ledger.proofs.OverlapLemmas.{overlaps_in_pool-same}
use Rattle.credit_ledger.specs.TraceEntries.{IsEntryAt, HasRightEntries}
use Rattle.credit_ledger.proofs.HalfLemmas.{meet}
use Rattle.credit_ledger.proofs.EntryLemmas.{IsRight, entry_says, entry_right}
use Rattle.credit_ledger.proofs.StandLemmas.{one_task}
use Rattle.credit_ledger.proofs.MeetLemmas.{IsOneTask, one_of_meeting}

-- the entries are of one task, and of parts that have a half in common
record AreOfOneHalf (e f : Entry) : Type 0 where
  task_is : e.task ≡ f.task
  parts : overlaps (part_halves e.part) (part_halves f.part) ≡ true

-- ---- shares of the root's credit

tree_share-split : (e : Entry)
    → tree_share e ≡ start_share e.path ++ (replicate e.kept Keep ++ part_halves e.part)
tree_share-split e = append_assoc (start_share e.path) (replicate e.kept Keep) (part_halves e.part)

one_of_begun : (rs : List Record) (e f : Entry) → IsRight rs e → IsRight rs f → e.root ≡ f.root
    → begins_with (tree_share e) (tree_share f) ≡ true
    → IsOneTask e.task f.task (part_halves e.part) (part_halves f.part)
one_of_begun rs e f right also root begun =
    let P : ℕ → Type 0 = λ r. HasPath rs r f.task f.path in
    let alike : begins_with
    (start_share e.path ++ (replicate (length (children rs e.task)) Keep ++ part_halves e.part))
    (start_share f.path ++ (replicate (length (children rs f.task)) Keep ++ part_halves f.part))
    ≡ true =
    ap
    (λ k.
    begins_with (start_share e.path ++ (replicate k Keep ++ part_halves e.part))
    (start_share f.path ++ (replicate (length (children rs f.task)) Keep ++ part_halves f.part)))
    (sym right.kept)
    ∙ ap
    (λ k.
    begins_with (start_share e.path ++ (replicate e.kept Keep ++ part_halves e.part))
    (start_share f.path ++ (replicate k Keep ++ part_halves f.part)))
    (sym also.kept)
    ∙ ap (λ s. begins_with s (start_share f.path ++ (replicate f.kept Keep ++ part_halves f.part)))
    (sym (tree_share-split e))
    ∙ ap (begins_with (tree_share e)) (sym (tree_share-split f)) ∙ begun in
    one_of_meeting rs e.root e.task f.task e.path f.path (part_halves e.part) (part_halves f.part)
    right.stands (subst P (sym root) also.stands)
    (meet (length (children rs e.task)) (length (children rs f.task)) (part_halves e.part)
    (part_halves f.part) e.path f.path alike)

flipped : (e f : Entry) → AreOfOneHalf f e → AreOfOneHalf e f
flipped e f is = record {
  task_is = sym is.task_is;
  parts = either (part_halves f.part) (part_halves e.part) is.parts;
}
  where
    either : (s t : List Half) → overlaps s t ≡ true → overlaps t s ≡ true
    either s t on = elim (or_cases (begins_with s t) (begins_with t s) on) [
      | inl first ↦ or_right (begins_with t s) (begins_with s t) first
      | inr second ↦ or_left (begins_with t s) (begins_with s t) second
    ]

of_begun : (rs : List Record) (e f : Entry) → IsRight rs e → IsRight rs f → e.root ≡ f.root
    → begins_with (tree_share e) (tree_share f) ≡ true → AreOfOneHalf e f
of_begun rs e f right also root begun =
    let one = one_of_begun rs e f right also root begun in
    record {
      task_is = one.task_is;
      parts =
          or_left (begins_with (part_halves e.part) (part_halves f.part))
          (begins_with (part_halves f.part) (part_halves e.part)) one.begun;
    }

in_tree : (rs : List Record) (e f : Entry) → IsRight rs e → IsRight rs f → e.root ≡ f.root
    → overlaps (tree_share e) (tree_share f) ≡ true → AreOfOneHalf e f
in_tree rs e f right also root on =
    elim
    (or_cases (begins_with (tree_share e) (tree_share f))
    (begins_with (tree_share f) (tree_share e)) on) [
      | inl first ↦ of_begun rs e f right also root first
      | inr second ↦ flipped e f (of_begun rs f e also right (sym root) second)
    ]

-- ---- shares of a pool

in_pool : (rs : List Record) (e f : Entry) → IsRight rs e → IsRight rs f → e.root ≡ f.root
    → overlaps_in_pool (parent_and_number e.path) e.part (parent_and_number f.path) f.part ≡ true
    → AreOfOneHalf e f
in_pool rs e f right also root on = elim (cases_Bool (is_same_path e.path f.path)) [
  | inr other ↦ absurd (false≢true (sym (overlaps_in_pool-other e.path f.path e.part f.part other) ∙ on))
  | inl same ↦
      let P : ℕ → List ℕ → Type 0 = λ r p. HasPath rs r f.task p in
      let there : HasPath rs e.root f.task e.path =
      subst (λ p. HasPath rs e.root f.task p) (sym (same_path-true e.path f.path same))
      (subst (λ r. HasPath rs r f.task f.path) (sym root) also.stands) in
      let deep : length e.path ≡ 0 → ⊥ =
      λ top.
      false≢true
      (sym (overlaps_in_pool-root e.path (parent_and_number f.path) e.part f.part top) ∙ on) in
      record {
        task_is = one_task rs e.root e.task f.task e.path right.stands there;
        parts = sym (overlaps_in_pool-same e.path f.path e.part f.part deep same) ∙ on;
      }
]

-- ---- both

of_overlap : (rs : List Record) (e f : Entry) → IsRight rs e → IsRight rs f → is_overlap e f ≡ true
    → AreOfOneHalf e f
of_overlap rs e f right also on =
    let in_one : Bool =
    overlaps_in_pool (parent_and_number e.path) e.part (parent_and_number f.path) f.part in
    let split = and_parts (e.root == f.root) (overlaps (tree_share e) (tree_share f) || in_one) on in
    let root = eqb-true e.root f.root split.0 in
    elim (or_cases (overlaps (tree_share e) (tree_share f)) in_one split.1) [
      | inl tree ↦ in_tree rs e f right also root tree
      | inr pool ↦ in_pool rs e f right also root pool
    ]

-- different parts of a task, neither of them all of it, have no half in common
halves_apart : (p q : Part) → (p ≢ Whole) × (p ≢ q) → (q ≢ Whole) × (q ≢ p)
    → overlaps (part_halves p) (part_halves q) ≡ false
halves_apart Whole q one other = absurd (one.0 refl)
halves_apart p Whole one other = absurd (other.0 refl)
halves_apart Body Body one other = absurd (one.1 refl)
halves_apart Event Event one other = absurd (one.1 refl)
halves_apart Body Event one other = refl
halves_apart Event Body one other = refl

pub entries_apart : (rs : List Record) (i j index other : ℕ) (e f : Entry) → HasRightEntries rs → i ≢ j
    → IsEntryAt rs i index e → IsEntryAt rs j other f → is_overlap e f ≡ false
entries_apart rs i j index other e f entries apart made also =
    let from = entry_says rs i e made.made in
    let from_other = entry_says rs j f also.made in
    false_from_ne_true (is_overlap e f) (λ on.
    entry_right rs i e entries.right from (λ right.
    entry_right rs j f entries.right from_other (λ right_other.
    let one = of_overlap rs e f right right_other on in
    let finishes = from.finishes ∙ ap (λ t. Some (t, e.part)) one.task_is in
    let off =
    halves_apart e.part f.part
    (entries.parts i j f.task e.part f.part apart finishes from_other.finishes)
    (entries.parts j i f.task f.part e.part (λ same. apart (sym same)) from_other.finishes
    finishes) in
    false≢true (sym off ∙ one.parts))))
