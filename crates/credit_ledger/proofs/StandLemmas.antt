-- Where tasks stand below their roots.
use Rattle.std.proofs.Common.{◌≡◌, ◌∙◌, ℕ, zero, suc, ◌<◌, ◌+◌, List, [], ◌∷◌, ◌++◌, length, Some, refl, sym}
use Rattle.std.proofs.Common.{ap, subst, arith, inl, inr, length-append}
use Rattle.std.specs.Prelude.{slice_get}
use Rattle.std.proofs.lemmas.Option.{none-some, same_Some, slice_get_within}
use Rattle.std.proofs.lemmas.List.{append_assoc, append-nil, same_from_push}
use Rattle.ompt_events.specs.declared.records.Record.{Record}
use Rattle.ompt_events.specs.Records.{creation}
use Rattle.ompt_events.specs.Places.{at}
use Rattle.ompt_events.specs.Tree.{IsCreatedAt, IsDescendant, child, deeper, children_before, children}
use Rattle.ompt_events.specs.Tree.{child_number, IsChild, HasPath, top, below}
use Rattle.ompt_events.specs.Coverage.{IsFamily}
use Rattle.ompt_events.proofs.PlaceLemmas.{at_within}
use Rattle.ompt_events.proofs.ListLemmas.{get_last}
use Rattle.ompt_events.proofs.TreeLemmas.{children_more, children_stay, child_place}
use Rattle.credit_ledger.specs.Entries.{parent_and_number}
use Rattle.credit_ledger.proofs.OverlapLemmas.{parent_and_number-push}

-- ---- the last number of a path

pushed_none : (xs : List ℕ) (x : ℕ) → xs ++ x ∷ [] ≡ [] → ⊥
pushed_none xs x e = let len = ap length e ∙ refl in omega (arith, len, length-append xs (x ∷ []))

pub data LastOf (xs : List ℕ) : Type 0 where
  none : xs ≡ [] → LastOf xs
  last : (first : List ℕ) (x : ℕ) → xs ≡ first ++ x ∷ [] → LastOf xs

pub last_of : (xs : List ℕ) → LastOf xs
last_of [] = none refl
last_of (x ∷ xs) = more (last_of xs)
  where
    more : LastOf xs → LastOf (x ∷ xs)
    more (none e) = last [] x (ap (λ l. x ∷ l) e)
    more (last first y e) = last (x ∷ first) y (ap (λ l. x ∷ l) e)

-- ---- one task at a path

-- what stands at a path
pub data StandsOnPath (rs : List Record) (root task : ℕ) (path : List ℕ) : Type 0 where
  at_top : path ≡ [] → task ≡ root → StandsOnPath rs root task path
  at_child : (number parent : ℕ) (up : List ℕ) → path ≡ up ++ number ∷ [] → HasPath rs root parent up
      → IsChild rs parent number task → StandsOnPath rs root task path

pub stands : (rs : List Record) (root task : ℕ) (path : List ℕ) → HasPath rs root task path
    → StandsOnPath rs root task path
stands rs root task path (top is) = at_top refl refl
stands rs root task path (below number {parent = parent} {path = up} higher numbered) =
    at_child number parent up refl higher numbered

pub one_task : (rs : List Record) (root task other : ℕ) (path : List ℕ) → HasPath rs root task path
    → HasPath rs root other path → task ≡ other
one_task rs root task other path (top is) there = of (stands rs root other path there)
  where
    of : StandsOnPath rs root other [] → root ≡ other
    of (at_top e same) = sym same
    of (at_child number parent up e higher numbered) = absurd (pushed_none up number (sym e))
one_task rs root task other path (below number {parent = parent} {path = up} higher numbered) there =
    of (λ parent'. one_task rs root parent parent' up higher) (stands rs root other (up ++ number ∷ []) there)
  where
    of : ((parent' : ℕ) → HasPath rs root parent' up → parent ≡ parent')
        → StandsOnPath rs root other (up ++ number ∷ []) → task ≡ other
    of one (at_top e same) = absurd (pushed_none up number e)
    of one (at_child number' parent' up' e higher' numbered') =
        let parts = same_from_push up up' number number' e in
        let P : List ℕ → Type 0 = λ p. HasPath rs root parent' p in
        let same = one parent' (subst P (sym parts.0) higher') in
        same_Some task other
        (sym numbered ∙ ap (λ p. slice_get (children rs p) number) same
        ∙ ap (slice_get (children rs parent')) parts.1 ∙ numbered')

-- ---- the tasks on the way to one

-- the task at the path has a child with the number
pub record HasChildAt (rs : List Record) (root : ℕ) (path : List ℕ) (number : ℕ) : Type 0 where
  pub parent : ℕ
  pub higher : HasPath rs root parent path
  pub few : number < length (children rs parent)

pub child_on_way : (rs : List Record) (root task : ℕ) (path up more : List ℕ) (number : ℕ)
    → HasPath rs root task path → path ≡ up ++ number ∷ more → HasChildAt rs root up number
child_on_way rs root task path up more number (top is) e =
    absurd (let len = ap length e in omega (arith, len, length-append up (number ∷ more)))
child_on_way rs root task path up more number
    (below number' {parent = parent} {path = rest} higher numbered) e =
    of (λ first. child_on_way rs root parent rest up first number higher) (last_of more)
  where
    of : ((first : List ℕ) → rest ≡ up ++ number ∷ first → HasChildAt rs root up number) → LastOf more
        → HasChildAt rs root up number
    of above (none empty) =
        let parts = same_from_push rest up number' number (e ∙ ap (λ l. up ++ number ∷ l) empty) in
        let P : List ℕ → Type 0 = λ p. HasPath rs root parent p in
        record {
          parent = parent;
          higher = subst P parts.0 higher;
          few =
              let within = slice_get_within (children rs parent) number' task numbered in
              let same = parts.1 in omega (arith, within, same);
        }
    of above (last first x is) =
        let parts =
        same_from_push rest (up ++ number ∷ first) number' x
        (e ∙ ap (λ l. up ++ number ∷ l) is ∙ sym (append_assoc up (number ∷ first) (x ∷ []))) in
        above first parts.0

-- ---- a family stands below its head

-- a created task is the child with its number
pub created_child : (rs : List Record) (i parent task n : ℕ) → at creation rs i ≡ Some (parent, task) → i < n
    → slice_get (children_before rs parent n) (child_number rs parent i) ≡ Some task
created_child rs i parent task zero creates less = absurd (omega arith)
created_child rs i parent task (suc n) creates less =
    let P : ℕ → Type 0 =
    λ m. slice_get (children_before rs parent m) (child_number rs parent i) ≡ Some task in
    let step : n + 1 ≡ suc n = omega arith in
    subst P step (elim (Rattle.std.proofs.lemmas.Bool.cases_lt i n) [
      | inl earlier ↦
          children_stay rs parent n (child_number rs parent i) task
          (created_child rs i parent task n creates earlier)
      | inr here ↦
          let same : n ≡ i = omega (arith, here, less) in
          let Q : ℕ → Type 0 =
          λ m. slice_get (children_before rs parent (m + 1)) (child_number rs parent i) ≡ Some task in
          subst Q (sym same)
          (ap (λ l. slice_get l (child_number rs parent i)) (children_more rs parent task i creates)
          ∙ get_last (children_before rs parent i) task (child_number rs parent i) refl)
    ])

pub created_path : (rs : List Record) (root i parent task : ℕ) (path : List ℕ) → IsCreatedAt rs i parent task
    → HasPath rs root parent path → HasPath rs root task (path ++ child_number rs parent i ∷ [])
created_path rs root i parent task path creates higher =
    below (child_number rs parent i) higher
    (created_child rs i parent task (length rs) creates (at_within creation rs i (parent, task) creates))

-- the path of a task of the family goes on from that of its head
pub record StandsUnder (rs : List Record) (root task : ℕ) (path : List ℕ) : Type 0 where
  pub more : List ℕ
  pub there : HasPath rs root task (path ++ more)

below_by : (rs : List Record) (root i parent task : ℕ) (path : List ℕ) → IsCreatedAt rs i parent task
    → StandsUnder rs root parent path → StandsUnder rs root task path
below_by rs root i parent task path creates higher =
    let P : List ℕ → Type 0 = λ p. HasPath rs root task p in
    record {
      more = higher.more ++ child_number rs parent i ∷ [];
      there =
          subst P (append_assoc path higher.more (child_number rs parent i ∷ []))
          (created_path rs root i parent task (path ++ higher.more) creates higher.there);
    }

descendant_below : (rs : List Record) (root head task : ℕ) (path : List ℕ) → HasPath rs root head path
    → IsDescendant rs head task → StandsUnder rs root task path
descendant_below rs root head task path stand (child i creates) =
    record { more = child_number rs head i ∷ []; there = created_path rs root i head task path creates stand }
descendant_below rs root head task path stand (deeper i {parent = parent} higher creates) =
    below_by rs root i parent task path creates (descendant_below rs root head parent path stand higher)

pub family_below : (rs : List Record) (root head task : ℕ) (path : List ℕ) → HasPath rs root head path
    → IsFamily rs head task → StandsUnder rs root task path
family_below rs root head task path stand (inl same) =
    let P : ℕ → List ℕ → Type 0 = λ t p. HasPath rs root t p in
    record {
      more = [];
      there =
          subst (λ t. HasPath rs root t (path ++ [])) (sym same)
          (subst (λ p. HasPath rs root head p) (sym (append-nil path)) stand);
    }
family_below rs root head task path stand (inr lower) = descendant_below rs root head task path stand lower

-- a child of one of the family is of the family
pub family_child : (rs : List Record) (head task number other : ℕ) → IsFamily rs head task
    → IsChild rs task number other → IsFamily rs head other
family_child rs head task number other of is =
    let place = child_place rs task (length rs) number other is in
    inr (elim of [
      | inl same ↦
          let P : ℕ → Type 0 = λ t. at creation rs place.0 ≡ Some (t, other) in
          child place.0 (subst P same place.2)
      | inr lower ↦ deeper place.0 lower place.2
    ])

-- ---- the parent and the number that a path ends with

pub push_of_parent : (path up : List ℕ) (number : ℕ) → parent_and_number path ≡ Some (up, number)
    → path ≡ up ++ number ∷ []
push_of_parent path up number is = of (last_of path)
  where
    of : LastOf path → path ≡ up ++ number ∷ []
    of (none e) = absurd (none-some (up, number) (sym (ap parent_and_number e) ∙ is))
    of (last first x e) =
        let same =
        same_Some (first, x) (up, number)
        (sym (parent_and_number-push first x) ∙ sym (ap parent_and_number e) ∙ is) in
        e ∙ ap (λ (s : List ℕ × ℕ). s.0 ++ s.1 ∷ []) same
