-- What a set of regions says of the records that begin them.
use Rattle.std.proofs.Common.{◌≡◌, ◌∙◌, ℕ, ◌≤◌, ◌<◌, Bool, true, false, List, [], ◌∷◌, ◌++◌, Option, Some}
use Rattle.std.proofs.Common.{None, refl, sym, ap, subst, arith, inl, inr, zero, suc}
use Rattle.std.specs.Prelude.{◌==◌, ◌&&◌, ◌||◌, IfSome, slice_get, nat_lt, cond}
use Rattle.std.specs.Option.{option_map_or}
use Rattle.std.specs.BTreeSet.{BTreeSet, contains, Updates, IsKeyRangeOf, IsKeyInRange}
use Rattle.std.specs.BTreeMap.{is_at}
use Rattle.std.specs.BTreeMap.Range.{IsLeBy}
use Rattle.std.specs.Cmp.{tied_then}
use Rattle.std.specs.Ordering.{nat_cmp, is_eq, is_gt}
use Rattle.std.specs.declared.ops.Bound.TheVariants.{Included, Unbounded}
use Rattle.std.proofs.Math.Bool.{or-false}
use Rattle.std.proofs.lemmas.Bool.{false≢true, and_parts, and_from, eq-eqb, ne_eqb, lt-ltb, le-ltb}
use Rattle.std.proofs.lemmas.Bool.{cases_order}
use Rattle.std.proofs.lemmas.List.Folds.{list_any-append}
use Rattle.ompt_events.specs.declared.records.Record.{Record}
use Rattle.ompt_events.specs.Records.{forked}
use Rattle.callbacks.specs.Begun.{begins_it, has_begun, has_begun_one, pair_cmp, AreBegun}

-- ---- one record

-- a record begins any region by a task where it begins some region by it
abbrev is_it : ℕ → ℕ → Option (ℕ × ℕ) → Bool
is_it task parallel found = option_map_or (λ (f : ℕ × ℕ). (f.0 == task) && (f.1 == parallel)) found false

abbrev is_one : ℕ → Option (ℕ × ℕ) → Bool
is_one task found = option_map_or (λ (f : ℕ × ℕ). f.0 == task) found false

one_of : (task parallel : ℕ) (found : Option (ℕ × ℕ)) → is_it task parallel found ≡ true
    → is_one task found ≡ true
one_of task parallel None is = is
one_of task parallel (Some f) is = (and_parts (f.0 == task) (f.1 == parallel) is).0

it_of : (task : ℕ) (found : Option (ℕ × ℕ)) → is_one task found ≡ true
    → (parallel : ℕ) × (is_it task parallel found ≡ true)
it_of task None is = (0, is)
it_of task (Some f) is = (f.1, and_from (f.0 == task) (f.1 == f.1) is (eq-eqb f.1 f.1 refl))

-- ---- some records

or_left : (x y : Bool) → x ≡ true → (x || y) ≡ true
or_left true y is = refl
or_left false y is = absurd (false≢true is)

or_right : (x y : Bool) → y ≡ true → (x || y) ≡ true
or_right true y is = refl
or_right false y is = is

one_begun : (task parallel : ℕ) (own : List Record) → has_begun own (Some task) parallel ≡ true
    → has_begun_one own (Some task) ≡ true
one_begun task parallel [] is = is
one_begun task parallel (r ∷ own) is =
    first (is_it task parallel (forked r.body)) refl is (one_begun task parallel own)
  where
    first : (b : Bool) → is_it task parallel (forked r.body) ≡ b
        → (b || has_begun own (Some task) parallel) ≡ true
        → (has_begun own (Some task) parallel ≡ true → has_begun_one own (Some task) ≡ true)
        → (is_one task (forked r.body) || has_begun_one own (Some task)) ≡ true
    first true here is later =
        or_left (is_one task (forked r.body)) (has_begun_one own (Some task))
        (one_of task parallel (forked r.body) here)
    first false here is later =
        or_right (is_one task (forked r.body)) (has_begun_one own (Some task)) (later is)

begun_some : (task : ℕ) (own : List Record) → has_begun_one own (Some task) ≡ true
    → (parallel : ℕ) × (has_begun own (Some task) parallel ≡ true)
begun_some task [] is = (0, is)
begun_some task (r ∷ own) is = first (is_one task (forked r.body)) refl is (begun_some task own)
  where
    first : (b : Bool) → is_one task (forked r.body) ≡ b → (b || has_begun_one own (Some task)) ≡ true
        → (has_begun_one own (Some task) ≡ true
        → (parallel : ℕ) × (has_begun own (Some task) parallel ≡ true))
        → (parallel : ℕ)
        × ((is_it task parallel (forked r.body) || has_begun own (Some task) parallel) ≡ true)
    first true here is on =
        let (parallel, it) = it_of task (forked r.body) here in
        (parallel, or_left (is_it task parallel (forked r.body)) (has_begun own (Some task) parallel) it)
    first false here is on =
        let (parallel, later) = on is in
        (parallel, or_right (is_it task parallel (forked r.body)) (has_begun own (Some task) parallel) later)

-- ---- the order of the set

ltb_no : (x y : ℕ) → y ≤ x → nat_lt x y ≡ false
ltb_no x y low = le-ltb x y low

equal_numbers : (x y : ℕ) → is_eq (nat_cmp x y) ≡ (x == y)
equal_numbers x y = elim (cases_order x y) [
  | inl same ↦ rw (ltb_no x y (omega (arith, same)), eq-eqb x y same) refl
  | inr (inl less) ↦ rw (lt-ltb x y less, ne_eqb x y (λ same. omega (arith, less, same))) refl
  | inr (inr more) ↦
      rw (ltb_no x y (omega (arith, more)), ne_eqb x y (λ same. omega (arith, more, same))) refl
]

at_pair : (pair : ℕ × ℕ) (task parallel : ℕ)
    → is_at (pair_cmp pair) (task, parallel) ≡ ((pair.0 == task) && (pair.1 == parallel))
at_pair pair task parallel =
    sym (tied_then (nat_cmp pair.0 task) (nat_cmp pair.1 parallel))
    ∙ ap (λ b. b && is_eq (nat_cmp pair.1 parallel)) (equal_numbers pair.0 task)
    ∙ ap (λ b. (pair.0 == task) && b) (equal_numbers pair.1 parallel)

-- a pair that is no greater has no greater task
lesser_task : (x y : ℕ × ℕ) → IsLeBy pair_cmp x y → x.0 ≤ y.0
lesser_task x y le = elim (cases_order x.0 y.0) [
  | inl same ↦ omega (arith, same)
  | inr (inl less) ↦ omega (arith, less)
  | inr (inr more) ↦ absurd (false≢true (sym le ∙ greater more))
]
  where
    greater : y.0 < x.0 → is_gt (pair_cmp x y) ≡ true
    greater more =
        rw (ltb_no x.0 y.0 (omega (arith, more)), ne_eqb x.0 y.0 (λ same. omega (arith, more, same))) refl

-- each region of a task stands no lower than the number 0 with the task
no_lower : (task parallel : ℕ) → IsLeBy pair_cmp (task, 0) (task, parallel)
no_lower task parallel = rw (ltb_no task task (omega arith), eq-eqb task task refl) (by parallel)
  where
    by : (p : ℕ) → is_gt (nat_cmp 0 p) ≡ false
    by zero = refl
    by (suc p) = rw (lt-ltb 0 (suc p) (omega arith)) refl

-- one more record, which begins a region
pub noted : (own : List Record) (r : Record) (pair : ℕ × ℕ) (old new : BTreeSet (ℕ × ℕ))
    → forked r.body ≡ Some pair → Updates pair_cmp old new pair true → AreBegun own old
    → AreBegun (own ++ r ∷ []) new
noted own r pair old new forks updates are task parallel =
    updates.0 (task, parallel)
    ∙ ap (λ b. cond b true (contains pair_cmp old (task, parallel))) (at_pair pair task parallel)
    ∙ ap (cond ((pair.0 == task) && (pair.1 == parallel)) true) (are task parallel)
    ∙ first ((pair.0 == task) && (pair.1 == parallel)) (has_begun own (Some task) parallel)
    ∙ ap (λ b. has_begun own (Some task) parallel || (b || false))
    (sym (ap (is_it task parallel) forks))
    ∙ sym (list_any-append (λ (q : Record). begins_it task parallel q.body) own (r ∷ []))
  where
    first : (b c : Bool) → cond b true c ≡ (c || (b || false))
    first true true = refl
    first true false = refl
    first false true = refl
    first false false = refl

-- one more record, which begins none
pub same : (own : List Record) (r : Record) (pairs : BTreeSet (ℕ × ℕ)) → forked r.body ≡ None
    → AreBegun own pairs → AreBegun (own ++ r ∷ []) pairs
same own r pairs none are task parallel =
    are task parallel
    ∙ sym (or-false (has_begun own (Some task) parallel))
    ∙ ap (λ b. has_begun own (Some task) parallel || (b || false)) (sym (ap (is_it task parallel) none))
    ∙ sym (list_any-append (λ (q : Record). begins_it task parallel q.body) own (r ∷ []))

-- ---- the first pair from a task on

abbrev pub IsRangeFrom : ℕ → BTreeSet (ℕ × ℕ) → List (ℕ × ℕ) → Type 0
IsRangeFrom task pairs range = IsKeyRangeOf pair_cmp (Included (task, 0)) Unbounded pairs range

pub none_first : (task : ℕ) (own : List Record) (pairs : BTreeSet (ℕ × ℕ)) → IsRangeFrom task pairs []
    → AreBegun own pairs → false ≡ has_begun_one own (Some task)
none_first task own pairs range are = by (has_begun_one own (Some task)) refl
  where
    by : (b : Bool) → has_begun_one own (Some task) ≡ b → false ≡ b
    by true is =
        let (parallel, begun) = begun_some task own is in
        sym (range.5 refl (task, parallel) (no_lower task parallel, tt)) ∙ are task parallel ∙ begun
    by false is = refl

pub one_first : (task : ℕ) (own : List Record) (pairs : BTreeSet (ℕ × ℕ)) (range : List (ℕ × ℕ))
    (pair : ℕ × ℕ) → IsRangeFrom task pairs range → slice_get range 0 ≡ Some pair
    → AreBegun own pairs → (pair.0 == task) ≡ has_begun_one own (Some task)
one_first task own pairs range pair is_range first are = by (has_begun_one own (Some task)) refl
  where
    stands : IsKeyInRange pair_cmp (Included (task, 0)) Unbounded pairs pair
    stands =
        subst (λ o. IfSome o (IsKeyInRange pair_cmp (Included (task, 0)) Unbounded pairs)) first is_range.1

    by : (b : Bool) → has_begun_one own (Some task) ≡ b → (pair.0 == task) ≡ b
    by true is =
        let (parallel, begun) = begun_some task own is in
        let least = subst (λ o. IfSome o (λ k. IsLeBy pair_cmp k (task, parallel))) first
        (is_range.2 (task, parallel) (no_lower task parallel, tt) (are task parallel ∙ begun)) in
        eq-eqb pair.0 task (omega (
          arith,
          lesser_task pair (task, parallel) least,
          lesser_task (task, 0) pair stands.0.0,
        ))
    by false is = ne_eqb pair.0 task (λ e.
        false≢true (sym is ∙ one_begun task pair.1 own
        (sym (are task pair.1) ∙ ap (λ t. contains pair_cmp pairs (t, pair.1)) (sym e) ∙ stands.1)))
