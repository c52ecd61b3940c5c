-- The children of the tasks among the first records.
use Rattle.std.proofs.Common.{◌≡◌, ◌∙◌, ℕ, zero, suc, ◌<◌, ◌≤◌, ◌+◌, ◌-◌, List, [], ◌∷◌, ◌++◌, length, Option}
use Rattle.std.proofs.Common.{Some, None, refl, sym, ap, arith, inl, inr, ◌⊎◌}
use Rattle.std.specs.Prelude.{if◌then◌else◌, ◌==◌, slice_get, option_and_then}
use Rattle.std.proofs.lemmas.Option.{slice_get_within}
use Rattle.std.proofs.lemmas.List.{length_push}
use Rattle.ompt_events.specs.declared.records.Record.{Record}
use Rattle.ompt_events.specs.Records.{creation}
use Rattle.ompt_events.specs.Places.{at}
use Rattle.ompt_events.specs.Tree.{child_at, children_before, child_number, IsChild, IsDescendant, child}
use Rattle.ompt_events.specs.Tree.{deeper}
use Rattle.ompt_events.proofs.ListLemmas.{get_last, pushed_cases}
use Rattle.ompt_events.proofs.PlaceLemmas.{at_within}
use Rattle.ompt_events.proofs.TreeLemmas.{children_same, children_more, children_cases, children_stay}
use Rattle.ompt_events.proofs.TreeLemmas.{creation_of_child, child_place}
use Rattle.ompt_events.proofs.RecordLemmas.{created_at_made, creation_at_created}
use Rattle.online.proofs.ReadLemmas.{IsSameTo, at_same}
use Rattle.online.proofs.NameLemmas.{IsRead, IsMadeBelow, made_low}

-- ---- the children before a place

child_same : (n : ℕ) (xs ys : List Record) → IsSameTo n xs ys → (parent i : ℕ) → i < n
    → child_at xs parent i ≡ child_at ys parent i
child_same n xs ys same parent i below =
    ap (option_and_then (λ (p : ℕ × ℕ). if p.0 == parent then Some p.1 else None))
    (at_same creation n xs ys same i below)

pub children_read : (n : ℕ) (xs ys : List Record) → IsSameTo n xs ys → (parent i : ℕ) → i ≤ n
    → children_before xs parent i ≡ children_before ys parent i
children_read n xs ys same parent zero most = refl
children_read n xs ys same parent (suc i) most =
    ap (children_before xs parent) next
    ∙ of (child_at xs parent i) refl (children_read n xs ys same parent i (omega (arith, most)))
    ∙ sym (ap (children_before ys parent) next)
  where
    next : suc i ≡ i + 1
    next = omega arith

    is : child_at xs parent i ≡ child_at ys parent i
    is = child_same n xs ys same parent i (omega (arith, most))

    of : (o : Option ℕ) → child_at xs parent i ≡ o → children_before xs parent i ≡ children_before ys parent i
        → children_before xs parent (i + 1) ≡ children_before ys parent (i + 1)
    of None none before =
        children_same xs parent i none ∙ before ∙ sym (children_same ys parent i (sym is ∙ none))
    of (Some task) makes before =
        children_more xs parent task i (creation_of_child xs parent task i makes)
        ∙ ap (λ l. l ++ task ∷ []) before
        ∙ sym (children_more ys parent task i (creation_of_child ys parent task i (sym is ∙ makes)))

-- ---- numbers of children

-- a child keeps its number behind all later records
children_later : (rs : List Record) (parent n more number task : ℕ)
    → slice_get (children_before rs parent n) number ≡ Some task
    → slice_get (children_before rs parent (n + more)) number ≡ Some task
children_later rs parent n zero number task is =
    let same : n ≡ n + zero = omega arith in
    ap (λ m. slice_get (children_before rs parent m) number) (sym same) ∙ is
children_later rs parent n (suc more) number task is =
    let next : n + suc more ≡ n + more + 1 = omega arith in
    ap (λ m. slice_get (children_before rs parent m) number) next
    ∙ children_stay rs parent (n + more) number task (children_later rs parent n more number task is)

-- a task has no fewer children behind later records
pub number_rises : (rs : List Record) (parent n more : ℕ)
    → child_number rs parent n ≤ child_number rs parent (n + more)
number_rises rs parent n zero =
    let same : child_number rs parent (n + zero) ≡ child_number rs parent n =
    ap (child_number rs parent) (omega arith) in
    omega (arith, same)
number_rises rs parent n (suc more) =
    let next : child_number rs parent (n + suc more) ≡ child_number rs parent (n + more + 1) =
    ap (child_number rs parent) (omega arith) in
    let rest = number_rises rs parent n more in
    elim (children_cases rs parent (n + more)) [
      | inl same ↦ let last = ap length same in omega (arith, next, rest, last)
      | inr (task, makes, longer) ↦
          let last = ap length longer ∙ length_push (children_before rs parent (n + more)) task in
          omega (arith, next, rest, last)
    ]

-- a child whose number was given out before n is one of the children before n
children_sooner : (rs : List Record) (parent n more number task : ℕ) → number < child_number rs parent n
    → slice_get (children_before rs parent (n + more)) number ≡ Some task
    → slice_get (children_before rs parent n) number ≡ Some task
children_sooner rs parent n zero number task low is =
    let same : n ≡ n + zero = omega arith in
    ap (λ m. slice_get (children_before rs parent m) number) same ∙ is
children_sooner rs parent n (suc more) number task low is =
    children_sooner rs parent n more number task low
    (of (children_cases rs parent (n + more))
    (sym (ap (λ m. slice_get (children_before rs parent m) number) next) ∙ is))
  where
    next : n + suc more ≡ n + more + 1
    next = omega arith

    of :
        (children_before rs parent (n + more + 1) ≡ children_before rs parent (n + more))
        ⊎ ((other : ℕ) × (at creation rs (n + more) ≡ Some (parent, other))
        × (children_before rs parent (n + more + 1) ≡ children_before rs parent (n + more) ++ other ∷ []))
        → slice_get (children_before rs parent (n + more + 1)) number ≡ Some task
        → slice_get (children_before rs parent (n + more)) number ≡ Some task
    of (inl same) found = ap (λ l. slice_get l number) (sym same) ∙ found
    of (inr (other, makes, longer)) found =
        elim
        (pushed_cases (children_before rs parent (n + more)) other task number
        (ap (λ l. slice_get l number) (sym longer) ∙ found)) [
          | inl there ↦ there
          | inr last ↦
              let rises = number_rises rs parent n more in
              let top = last.0 in
              absurd (omega (arith, low, rises, top))
        ]

-- ---- children, by number, among the first n records

-- a child that one of them creates
pub child_low : (n : ℕ) (rs : List Record) → IsRead n rs → (parent number task : ℕ) → IsMadeBelow n rs task
    → IsChild rs parent number task → slice_get (children_before rs parent n) number ≡ Some task
child_low n rs read parent number task below is =
    let (c, inside, creates, count) = child_place rs parent (length rs) number task is in
    let low : c < n =
    made_low n rs task c read below
    (created_at_made task rs c (creation_at_created parent task rs c creates)) in
    let here : slice_get (children_before rs parent (c + 1)) number ≡ Some task =
    ap (λ l. slice_get l number) (children_more rs parent task c creates)
    ∙ get_last (children_before rs parent c) task number (sym count) in
    let rest : c + 1 + (n - (c + 1)) ≡ n = omega (arith, low) in
    sym (ap (λ m. slice_get (children_before rs parent m) number) rest)
    ∙ children_later rs parent (c + 1) (n - (c + 1)) number task here

-- a child with a smaller number than one of theirs
pub sibling_low : (n : ℕ) (rs : List Record) → n ≤ length rs → (parent number smaller task sibling : ℕ)
    → slice_get (children_before rs parent n) number ≡ Some task → smaller ≤ number
    → IsChild rs parent smaller sibling → slice_get (children_before rs parent n) smaller ≡ Some sibling
sibling_low n rs long parent number smaller task sibling there less is =
    let within = slice_get_within (children_before rs parent n) number task there in
    let rest : n + (length rs - n) ≡ length rs = omega (arith, long) in
    children_sooner rs parent n (length rs - n) smaller sibling (omega (arith, within, less))
    (ap (λ m. slice_get (children_before rs parent m) smaller) rest ∙ is)

-- and such a child is one of all
pub child_high : (n : ℕ) (rs : List Record) → n ≤ length rs → (parent number task : ℕ)
    → slice_get (children_before rs parent n) number ≡ Some task → IsChild rs parent number task
child_high n rs long parent number task is =
    let rest : n + (length rs - n) ≡ length rs = omega (arith, long) in
    sym (ap (λ m. slice_get (children_before rs parent m) number) rest)
    ∙ children_later rs parent n (length rs - n) number task is

-- ---- descendants

-- those of the first records are descendants among more
pub descendant_high : (n : ℕ) (xs ys : List Record) → IsSameTo n xs ys → length xs ≤ n → (ancestor task : ℕ)
    → IsDescendant xs ancestor task → IsDescendant ys ancestor task
descendant_high n xs ys same short ancestor task (child i creates) =
    let inside = at_within creation xs i (ancestor, task) creates in
    child i (sym (at_same creation n xs ys same i (omega (arith, inside, short))) ∙ creates)
descendant_high n xs ys same short ancestor task (deeper i {parent = parent} rest creates) =
    let inside = at_within creation xs i (parent, task) creates in
    deeper i (descendant_high n xs ys same short ancestor parent rest)
    (sym (at_same creation n xs ys same i (omega (arith, inside, short))) ∙ creates)
