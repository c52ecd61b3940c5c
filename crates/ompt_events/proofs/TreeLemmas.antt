-- The children of a task, and the records that create them.
use Rattle.std.proofs.Common.{◌≡◌, ◌≢◌, ◌∙◌, ℕ, zero, suc, ◌<◌, ◌≤◌, ◌+◌, List, [], ◌∷◌, ◌++◌, length, Option}
use Rattle.std.proofs.Common.{Some, None, true, false, Bool, cond, refl, sym, ap, subst, arith, inl, inr, ◌⊎◌}
use Rattle.std.proofs.Common.{add-one}
use Rattle.std.proofs.lemmas.Bool.{eq-eqb, ne_eqb, eqb-true}
use Rattle.std.proofs.lemmas.Option.{none-some, same_Some}
use Rattle.std.proofs.lemmas.List.{append-nil, length_push}
use Rattle.std.proofs.lemmas.List.Elements.{Contains-append_right, filter_map-append}
use Rattle.std.proofs.lemmas.List.FromFn.{length-range_with_len, get_or-range_with_len}
use Rattle.std.specs.Prelude.{if◌then◌else◌, ◌==◌, slice_get, Contains, option_and_then}
use Rattle.std.specs.List.{range_with_len, filter_map, cons_option}
use Rattle.std.specs.Option.{option_map_or}
use Rattle.ompt_events.specs.declared.records.Record.{Record}
use Rattle.ompt_events.specs.Records.{creation}
use Rattle.ompt_events.specs.Places.{at, is_own, own_before}
use Rattle.ompt_events.specs.Tree.{child_at, children_before, child_number}
use Rattle.ompt_events.proofs.RecordLemmas.{creation_at_running}
use Rattle.ompt_events.proofs.PlaceLemmas.{Contains-filter, own_below, own_more}
use Rattle.ompt_events.proofs.ListLemmas.{get_pushed, pushed_cases}

-- a creation is a record of the parent's own
creation_own : (rs : List Record) (parent child c : ℕ) → at creation rs c ≡ Some (parent, child)
    → is_own rs parent c ≡ true
creation_own rs parent child c creates =
    ap (λ (o : Option ℕ). option_map_or (λ t. t == parent) o false)
    (creation_at_running parent child rs c creates)
    ∙ eq-eqb parent parent refl

pub own_creation : (rs : List Record) (parent child n c : ℕ) → c < n → at creation rs c ≡ Some (parent, child)
    → Contains (own_before rs parent n) c
own_creation rs parent child n c below creates =
    Contains-filter (is_own rs parent) (range_with_len 0 n) c
    (c, rw (length-range_with_len 0 n) below, get_or-range_with_len 0 n c c below ∙ omega arith)
    (creation_own rs parent child c creates)

-- what is read of an element is among what is read
Contains-filter_map : {X : Type 0} (h : ℕ → Option X) (xs : List ℕ) (x : ℕ) (y : X) → Contains xs x
    → h x ≡ Some y → Contains (filter_map h xs) y
Contains-filter_map h [] x y (k, below, is) says = absurd (omega arith)
Contains-filter_map h (z ∷ zs) x y (zero, below, is) says = rw (ap h is ∙ says) (0, omega arith, refl)
Contains-filter_map {X} h (z ∷ zs) x y (suc k, below, is) says =
    after (h z) (Contains-filter_map h zs x y (k, omega arith, is) says)
  where
    after : (o : Option X) → Contains (filter_map h zs) y → Contains (cons_option o (filter_map h zs)) y
    after None rest = rest
    after (Some w) rest = Contains-append_right (w ∷ []) (filter_map h zs) y rest

-- and what is read comes from an element
from_filter_map : {X : Type 0} (h : ℕ → Option X) (xs : List ℕ) (y : X) → Contains (filter_map h xs) y
    → (x : ℕ) × Contains xs x × (h x ≡ Some y)
from_filter_map h [] y (k, below, is) = absurd (omega arith)
from_filter_map {X} h (z ∷ zs) y found = after (from_filter_map h zs y) (h z) refl found
  where
    later : (x : ℕ) × Contains zs x × (h x ≡ Some y) → (x : ℕ) × Contains (z ∷ zs) x × (h x ≡ Some y)
    later (x, within, says) = (x, Contains-append_right (z ∷ []) zs x within, says)

    after : (Contains (filter_map h zs) y → (x : ℕ) × Contains zs x × (h x ≡ Some y)) → (o : Option X)
        → h z ≡ o → Contains (cons_option o (filter_map h zs)) y
        → (x : ℕ) × Contains (z ∷ zs) x × (h x ≡ Some y)
    after rest None e more = later (rest more)
    after rest (Some w) e (zero, below, is) = (z, (0, omega arith, refl), e ∙ ap Some is)
    after rest (Some w) e (suc k, below, is) = later (rest (k, omega arith, is))

-- a record creates a child for the task that creates there, and for no other
pub child_at_creation : (rs : List Record) (parent child c : ℕ) → at creation rs c ≡ Some (parent, child)
    → child_at rs parent c ≡ Some child
child_at_creation rs parent child c creates =
    ap (option_and_then (λ (p : ℕ × ℕ). if p.0 == parent then Some p.1 else None)) creates
    ∙ ap (λ b. if b then Some child else None) (eq-eqb parent parent refl)

pub creation_of_child : (rs : List Record) (parent child c : ℕ) → child_at rs parent c ≡ Some child
    → at creation rs c ≡ Some (parent, child)
creation_of_child rs parent child c says = there (at creation rs c) refl says
  where
    of_parent : (own other : ℕ) (b : Bool) → (own == parent) ≡ b → cond b (Some other) None ≡ Some child
        → (own ≡ parent) × (other ≡ child)
    of_parent own other true e is = (eqb-true own parent e, same_Some other child is)
    of_parent own other false e is = absurd (none-some child is)

    there : (o : Option (ℕ × ℕ)) → at creation rs c ≡ o
        → option_and_then (λ (p : ℕ × ℕ). if p.0 == parent then Some p.1 else None) o ≡ Some child
        → at creation rs c ≡ Some (parent, child)
    there None e is = absurd (none-some child is)
    there (Some (own, other)) e is =
        let h = of_parent own other (own == parent) refl is in
        e ∙ ap (λ t. Some (t, other)) h.0 ∙ ap (λ t. Some (parent, t)) h.1

-- a child that is created before a place is one of the children before it
pub child_before : (rs : List Record) (parent child n c : ℕ) → c < n → at creation rs c ≡ Some (parent, child)
    → Contains (children_before rs parent n) child
child_before rs parent child n c below creates =
    Contains-filter_map (child_at rs parent) (own_before rs parent n) c child
    (own_creation rs parent child n c below creates) (child_at_creation rs parent child c creates)

-- and each of them is created before it
pub before_child : (rs : List Record) (parent child n : ℕ) → Contains (children_before rs parent n) child
    → (c : ℕ) × (c < n) × (at creation rs c ≡ Some (parent, child))
before_child rs parent child n found =
    let from = from_filter_map (child_at rs parent) (own_before rs parent n) child found in
    (from.0, own_below rs parent n from.0 from.1, creation_of_child rs parent child from.0 from.2)

-- ---- one record more

children_step : (rs : List Record) (parent n : ℕ)
    → children_before rs parent (n + 1)
    ≡ children_before rs parent n
    ++ filter_map (child_at rs parent) (cond (is_own rs parent n) (n ∷ []) [])
children_step rs parent n =
    ap (filter_map (child_at rs parent)) (own_more rs parent n)
    ∙ filter_map-append (child_at rs parent) (own_before rs parent n)
    (cond (is_own rs parent n) (n ∷ []) [])

-- a record that creates no child of the task leaves its children
pub children_same : (rs : List Record) (parent n : ℕ) → child_at rs parent n ≡ None
    → children_before rs parent (n + 1) ≡ children_before rs parent n
children_same rs parent n none =
    children_step rs parent n ∙ ap (λ l. children_before rs parent n ++ l) (nothing (is_own rs parent n))
    ∙ append-nil (children_before rs parent n)
  where
    nothing : (b : Bool) → filter_map (child_at rs parent) (cond b (n ∷ []) []) ≡ []
    nothing false = refl
    nothing true = ap (λ o. cons_option o []) none

-- one that does adds it behind them
pub children_more : (rs : List Record) (parent child n : ℕ) → at creation rs n ≡ Some (parent, child)
    → children_before rs parent (n + 1) ≡ children_before rs parent n ++ child ∷ []
children_more rs parent child n creates =
    children_step rs parent n
    ∙ ap (λ b. children_before rs parent n ++ filter_map (child_at rs parent) (cond b (n ∷ []) []))
    (creation_own rs parent child n creates)
    ∙ ap (λ o. children_before rs parent n ++ cons_option o []) (child_at_creation rs parent child n creates)

-- a record creates no child for another task, and none without a creation
pub child_at_none : (rs : List Record) (parent n : ℕ) → at creation rs n ≡ None → child_at rs parent n ≡ None
child_at_none rs parent n none =
    ap (option_and_then (λ (p : ℕ × ℕ). if p.0 == parent then Some p.1 else None)) none

pub child_at_other : (rs : List Record) (parent own child n : ℕ) → at creation rs n ≡ Some (own, child)
    → own ≢ parent → child_at rs parent n ≡ None
child_at_other rs parent own child n creates apart =
    ap (option_and_then (λ (p : ℕ × ℕ). if p.0 == parent then Some p.1 else None)) creates
    ∙ ap (λ b. cond b (Some child) None) (ne_eqb own parent apart)

-- what the children become by one record
pub children_cases : (rs : List Record) (parent n : ℕ)
    → (children_before rs parent (n + 1) ≡ children_before rs parent n)
    ⊎ ((child : ℕ) × (at creation rs n ≡ Some (parent, child))
    × (children_before rs parent (n + 1) ≡ children_before rs parent n ++ child ∷ []))
children_cases rs parent n = there (child_at rs parent n) refl
  where
    there : (o : Option ℕ) → child_at rs parent n ≡ o
        → (children_before rs parent (n + 1) ≡ children_before rs parent n)
        ⊎ ((child : ℕ) × (at creation rs n ≡ Some (parent, child))
        × (children_before rs parent (n + 1) ≡ children_before rs parent n ++ child ∷ []))
    there None e = inl (children_same rs parent n e)
    there (Some child) e =
        let creates = creation_of_child rs parent child n e in
        inr (child, creates, children_more rs parent child n creates)

-- a task has no more children than there are records
pub children_few : (rs : List Record) (parent n : ℕ) → length (children_before rs parent n) ≤ n
children_few rs parent zero = omega arith
children_few rs parent (suc n) =
    let P : ℕ → Type 0 = λ m. length (children_before rs parent m) ≤ m in
    subst P (add-one n) (more (children_few rs parent n) (children_cases rs parent n))
  where
    more : length (children_before rs parent n) ≤ n
        → (children_before rs parent (n + 1) ≡ children_before rs parent n)
        ⊎ ((child : ℕ) × (at creation rs n ≡ Some (parent, child))
        × (children_before rs parent (n + 1) ≡ children_before rs parent n ++ child ∷ []))
        → length (children_before rs parent (n + 1)) ≤ n + 1
    more few (inl same) = let is = ap length same in omega arith
    more few (inr (child, creates, is)) =
        let longer = ap length is ∙ length_push (children_before rs parent n) child in omega arith

-- a child keeps its number
pub children_stay : (rs : List Record) (parent n number child : ℕ)
    → slice_get (children_before rs parent n) number ≡ Some child
    → slice_get (children_before rs parent (n + 1)) number ≡ Some child
children_stay rs parent n number child is = elim (children_cases rs parent n) [
  | inl same ↦ ap (λ l. slice_get l number) same ∙ is
  | inr (other, creates, more) ↦
      ap (λ l. slice_get l number) more ∙ get_pushed (children_before rs parent n) other child number is
]

-- a child with a number was created where its parent had so many children
pub child_place : (rs : List Record) (parent n number child : ℕ)
    → slice_get (children_before rs parent n) number ≡ Some child
    → (i : ℕ) × (i < n) × (at creation rs i ≡ Some (parent, child)) × (child_number rs parent i ≡ number)
child_place rs parent zero number child is = absurd (none-some child is)
child_place rs parent (suc n) number child is =
    let P : ℕ → Type 0 = λ m. slice_get (children_before rs parent m) number ≡ Some child in
    from (child_place rs parent n number child) (children_cases rs parent n) (subst P (sym (add-one n)) is)
  where
    from :
        (slice_get (children_before rs parent n) number ≡ Some child
        → (i : ℕ) × (i < n) × (at creation rs i ≡ Some (parent, child))
        × (child_number rs parent i ≡ number))
        → (children_before rs parent (n + 1) ≡ children_before rs parent n)
        ⊎ ((other : ℕ) × (at creation rs n ≡ Some (parent, other))
        × (children_before rs parent (n + 1) ≡ children_before rs parent n ++ other ∷ []))
        → slice_get (children_before rs parent (n + 1)) number ≡ Some child
        → (i : ℕ) × (i < suc n) × (at creation rs i ≡ Some (parent, child))
        × (child_number rs parent i ≡ number)
    from before (inl same) found =
        let old = before (ap (λ l. slice_get l number) (sym same) ∙ found) in
        (old.0, omega (arith, old.1), old.2, old.3)
    from before (inr (other, creates, more)) found =
        elim
        (pushed_cases (children_before rs parent n) other child number
        (ap (λ l. slice_get l number) (sym more) ∙ found)) [
          | inl there ↦ let old = before there in (old.0, omega (arith, old.1), old.2, old.3)
          | inr last ↦ (n, omega arith, creates ∙ ap (λ c. Some (parent, c)) last.1, sym last.0)
        ]
