-- Where a search among the children of a node ends, and what a new link changes.
use Rattle.std.proofs.Common.{◌≡◌, ◌≢◌, ℕ, zero, suc, ◌+◌, ◌-◌, ◌/◌, ◌<◌, ◌≤◌, true, false, List, [], ◌∷◌}
use Rattle.std.proofs.Common.{◌++◌, length, set, get_or, refl, sym, ◌∙◌, ap, subst, arith, length-append}
use Rattle.std.proofs.Common.{⊎_elim, inl, inr, ◌⊎◌}
use Rattle.std.specs.Prelude.{◌==◌}
use Rattle.std.proofs.lemmas.Bool.{cases_Bool, cases_eq, cases_lt, and_from, eqb-true, eq-eqb, cond-true}
use Rattle.std.proofs.lemmas.Bool.{cond-false}
use Rattle.std.proofs.lemmas.Option.{unwrap_or-slice_get}
use Rattle.std.proofs.lemmas.List.{length-set, get_or-set_same, get_or-set_other, get_or_append_left}
use Rattle.std.proofs.lemmas.List.{get_or_push, get_or_past}
use Rattle.credit_ledger.specs.declared.links.Link.{Link}
use Rattle.credit_ledger.specs.declared.links.Side.{Side}
use Rattle.credit_ledger.specs.declared.links.Side.TheVariants.{First, Zero, One, Two, Three}
use Rattle.credit_ledger.specs.declared.links.Spot.{Spot}
use Rattle.credit_ledger.specs.declared.links.Spot.TheVariants.{Found, Missing}
use Rattle.credit_ledger.specs.Links.{leaf_link, link_at, link_behind, with_link, is_link_of, side_of}
use Rattle.credit_ledger.specs.Links.{spot_within}
use Rattle.credit_ledger.specs.Links.{found}
use Rattle.credit_ledger.specs.Links.{AreLinksRising}
use Rattle.credit_ledger.proofs.KnownLemmas.{none_some}

-- a number for each side
abbrev mark : Side → ℕ
mark First = 0
mark Zero = 1
mark One = 2
mark Two = 3
mark Three = 4

abbrev from_mark : ℕ → Side
from_mark zero = First
from_mark (suc zero) = Zero
from_mark (suc (suc zero)) = One
from_mark (suc (suc (suc zero))) = Two
from_mark (suc (suc (suc (suc k)))) = Three

from_mark-mark : (s : Side) → from_mark (mark s) ≡ s
from_mark-mark First = refl
from_mark-mark Zero = refl
from_mark-mark One = refl
from_mark-mark Two = refl
from_mark-mark Three = refl

cases_side : (a b : Side) → (a ≡ b) ⊎ (a ≢ b)
cases_side a b =
    ⊎_elim
    (λ (same : mark a ≡ mark b). inl (sym (from_mark-mark a) ∙ ap from_mark same ∙ from_mark-mark b))
    (λ (other : mark a ≢ mark b). inr (λ e. other (ap mark e)))
    (cases_eq (mark a) (mark b))

-- where a spot is
abbrev node_of : Spot → ℕ
node_of (Found child) = child
node_of (Missing here side) = here

abbrev way_of : Spot → Side
way_of (Found child) = First
way_of (Missing here side) = side

pub found_missing : (k j : ℕ) (s : Side) → Found k ≡ Missing j s → ⊥
found_missing k j s e = none_some k (sym (ap found e))

-- ---- one step of a search

pub step-missing : (links : List Link) (steps parent number digits here : ℕ) (side : Side)
    → link_behind (link_at links here) side ≡ 0
    → spot_within links (suc steps) parent number digits here side ≡ Missing here side
step-missing links steps parent number digits here side e = cond-true _ _ _ (eq-eqb _ 0 e)

step-found : (links : List Link) (steps parent number digits here : ℕ) (side : Side)
    → link_behind (link_at links here) side ≢ 0
    → is_link_of parent number (link_at links (link_behind (link_at links here) side)) ≡ true
    → spot_within links (suc steps) parent number digits here side
    ≡ Found (link_behind (link_at links here) side)
step-found links steps parent number digits here side some is =
    cond-false _ _ _ (other (link_behind (link_at links here) side) some) ∙ cond-true _ _ _ is
  where
    other : (k : ℕ) → k ≢ 0 → (k == 0) ≡ false
    other k more =
        ⊎_elim (λ (e : (k == 0) ≡ true). absurd (more (eqb-true k 0 e))) (λ e. e) (cases_Bool (k == 0))

step-on : (links : List Link) (steps parent number digits here : ℕ) (side : Side)
    → link_behind (link_at links here) side ≢ 0
    → is_link_of parent number (link_at links (link_behind (link_at links here) side)) ≡ false
    → spot_within links (suc steps) parent number digits here side
    ≡ spot_within links steps parent number (digits / 4) (link_behind (link_at links here) side)
    (side_of digits)
step-on links steps parent number digits here side some is =
    cond-false _ _ _ (other (link_behind (link_at links here) side) some) ∙ cond-false _ _ _ is
  where
    other : (k : ℕ) → k ≢ 0 → (k == 0) ≡ false
    other k more =
        ⊎_elim (λ (e : (k == 0) ≡ true). absurd (more (eqb-true k 0 e))) (λ e. e) (cases_Bool (k == 0))

pub search-missing : (links : List Link) (steps parent number digits here next : ℕ) (side : Side) → 0 < steps
    → next ≡ link_behind (link_at links here) side → next ≡ 0
    → spot_within links steps parent number digits here side ≡ Missing here side
search-missing links zero parent number digits here next side more e none = absurd (omega (arith, more))
search-missing links (suc steps) parent number digits here next side more e none =
    step-missing links steps parent number digits here side (sym e ∙ none)

pub search-found : (links : List Link) (steps parent number digits here next : ℕ) (side : Side) → 0 < steps
    → next ≡ link_behind (link_at links here) side → next ≢ 0
    → is_link_of parent number (link_at links next) ≡ true
    → spot_within links steps parent number digits here side ≡ Found next
search-found links zero parent number digits here next side more e some is = absurd (omega (arith, more))
search-found links (suc steps) parent number digits here next side more e some is =
    step-found links steps parent number digits here side (λ f. some (e ∙ f))
    (ap (λ k. is_link_of parent number (link_at links k)) (sym e) ∙ is)
    ∙ ap (λ k. Found k) (sym e)

pub search-on : (links : List Link) (steps parent number digits here next : ℕ) (side : Side) → 0 < steps
    → next ≡ link_behind (link_at links here) side → next ≢ 0
    → is_link_of parent number (link_at links next) ≡ false
    → spot_within links steps parent number digits here side
    ≡ spot_within links (steps - 1) parent number (digits / 4) next (side_of digits)
search-on links zero parent number digits here next side more e some is = absurd (omega (arith, more))
search-on links (suc steps) parent number digits here next side more e some is =
    step-on links steps parent number digits here side (λ f. some (e ∙ f))
    (ap (λ k. is_link_of parent number (link_at links k)) (sym e) ∙ is)
    ∙ ap (λ k. spot_within links steps parent number (digits / 4) k (side_of digits)) (sym e)
    ∙ ap (λ left. spot_within links left parent number (digits / 4) next (side_of digits)) (left_over steps)
  where
    left_over : (k : ℕ) → k ≡ suc k - 1
    left_over k = omega arith

-- ---- where a search ends that finds nothing

pub missing-at : (links : List Link) → AreLinksRising links
    → (steps parent number digits here : ℕ) (side : Side) (j : ℕ) (s : Side) → here < length links
    → length links ≤ steps + here
    → spot_within links steps parent number digits here side ≡ Missing j s
    → (j < length links) × (link_behind (link_at links j) s ≡ 0)
missing-at links rising zero parent number digits here side j s inside enough e =
    absurd (omega (arith, inside, enough))
missing-at links rising (suc steps) parent number digits here side j s inside enough e =
    ⊎_elim
    (λ (none : link_behind (link_at links here) side ≡ 0).
    let is = step-missing links steps parent number digits here side none in
    let at : here ≡ j = ap node_of (sym is ∙ e) in
    let way : side ≡ s = ap way_of (sym is ∙ e) in (
      subst (λ i. i < length links) at inside,
      subst (λ i. link_behind (link_at links i) s ≡ 0)
          at (subst (λ w. link_behind (link_at links here) w ≡ 0) way none),
    ))
    (λ (some : link_behind (link_at links here) side ≢ 0).
    let up = rising here side (omega (arith, some)) in
    ⊎_elim
    (λ (is : is_link_of parent number (link_at links (link_behind (link_at links here) side)) ≡ true).
    absurd
    (found_missing (link_behind (link_at links here) side) j s
    (sym (step-found links steps parent number digits here side some is) ∙ e)))
    (λ (other : is_link_of parent number (link_at links (link_behind (link_at links here) side)) ≡ false).
    missing-at links rising steps parent number (digits / 4) (link_behind (link_at links here) side)
    (side_of digits) j s up.1 (omega (arith, up.0, enough))
    (sym (step-on links steps parent number digits here side some other) ∙ e))
    (cases_Bool (is_link_of parent number (link_at links (link_behind (link_at links here) side)))))
    (cases_eq (link_behind (link_at links here) side) 0)

-- ---- one link more

-- the links after the child of `parent` with this number was added behind a side that led nowhere
pub record IsLinkAdded (old new : List Link) (parent number j : ℕ) (s : Side) : Type 0 where
  pub longer : length new ≡ length old + 1
  pub inside : j < length old
  pub free : link_behind (link_at old j) s ≡ 0
  pub leads : link_behind (link_at new j) s ≡ length old
  pub same : (k : ℕ) → k < length old → (t : Side) → ((k ≡ j) × (t ≡ s) → ⊥)
      → link_behind (link_at new k) t ≡ link_behind (link_at old k) t
  pub keys : (k : ℕ) → k < length old → (p n : ℕ)
      → is_link_of p n (link_at new k) ≡ is_link_of p n (link_at old k)
  pub last : link_at new (length old) ≡ leaf_link parent number

pub leaf_behind : (parent number : ℕ) (t : Side) → link_behind (leaf_link parent number) t ≡ 0
leaf_behind parent number First = refl
leaf_behind parent number Zero = refl
leaf_behind parent number One = refl
leaf_behind parent number Two = refl
leaf_behind parent number Three = refl

pub link_at-get : (links : List Link) (i : ℕ) → link_at links i ≡ get_or links i (leaf_link 0 0)
link_at-get links i = unwrap_or-slice_get links i (leaf_link 0 0)

pub link_at-past : (links : List Link) (i : ℕ) → length links ≤ i → link_at links i ≡ leaf_link 0 0
link_at-past links i far = link_at-get links i ∙ get_or_past links i (leaf_link 0 0) far

behind-same : (l : Link) (s : Side) (k : ℕ) → link_behind (with_link l s k) s ≡ k
behind-same l First k = refl
behind-same l Zero k = refl
behind-same l One k = refl
behind-same l Two k = refl
behind-same l Three k = refl

behind-other : (l : Link) (s t : Side) (k : ℕ) → t ≢ s → link_behind (with_link l s k) t ≡ link_behind l t
behind-other l First First k other = absurd (other refl)
behind-other l Zero Zero k other = absurd (other refl)
behind-other l One One k other = absurd (other refl)
behind-other l Two Two k other = absurd (other refl)
behind-other l Three Three k other = absurd (other refl)
behind-other l _ _ k other = refl

key-same : (l : Link) (s : Side) (k p n : ℕ) → is_link_of p n (with_link l s k) ≡ is_link_of p n l
key-same l First k p n = refl
key-same l Zero k p n = refl
key-same l One k p n = refl
key-same l Two k p n = refl
key-same l Three k p n = refl

pub IsLinkAdded-set : (old new : List Link) (parent number j : ℕ) (s : Side) → j < length old
    → link_behind (link_at old j) s ≡ 0
    → new
    ≡ set (old ++ leaf_link parent number ∷ []) j
    (with_link (link_at (old ++ leaf_link parent number ∷ []) j) s (length old))
    → IsLinkAdded old new parent number j s
IsLinkAdded-set old new parent number j s inside free e = record {
  longer = ap length e ∙ length-set pushed j node ∙ length-append old (leaf_link parent number ∷ []);
  inside = inside;
  free = free;
  leads = ap (λ l. link_behind l s) here ∙ behind-same (link_at pushed j) s (length old);
  same = λ k less t other.
      ⊎_elim
      (λ (is : k ≡ j).
      ap (λ i. link_behind (link_at new i) t) is ∙ ap (λ l. link_behind l t) here
      ∙ behind-other (link_at pushed j) s t (length old) (λ f. other (is, f))
      ∙ ap (λ l. link_behind l t) (before j inside) ∙ ap (λ i. link_behind (link_at old i) t) (sym is))
      (λ (apart : k ≢ j). ap (λ l. link_behind l t) (there k apart ∙ before k less))
      (cases_eq k j);
  keys = λ k less p n.
      ⊎_elim
      (λ (is : k ≡ j).
      ap (λ i. is_link_of p n (link_at new i)) is ∙ ap (is_link_of p n) here
      ∙ key-same (link_at pushed j) s (length old) p n
      ∙ ap (is_link_of p n) (before j inside) ∙ ap (λ i. is_link_of p n (link_at old i)) (sym is))
      (λ (apart : k ≢ j). ap (is_link_of p n) (there k apart ∙ before k less))
      (cases_eq k j);
  last = there (length old) (λ f. omega (arith, f, inside)) ∙ link_at-get pushed (length old)
      ∙ get_or_push old (leaf_link parent number) (leaf_link 0 0) (length old) refl;
}
  where
    pushed : List Link
    pushed = old ++ leaf_link parent number ∷ []

    node : Link
    node = with_link (link_at pushed j) s (length old)

    at : (i : ℕ) → link_at new i ≡ get_or (set pushed j node) i (leaf_link 0 0)
    at i = link_at-get new i ∙ ap (λ xs. get_or xs i (leaf_link 0 0)) e

    here : link_at new j ≡ node
    here =
        at j
        ∙ get_or-set_same pushed j node (leaf_link 0 0)
        (omega (arith, inside, length-append old (leaf_link parent number ∷ [])))

    there : (i : ℕ) → i ≢ j → link_at new i ≡ link_at pushed i
    there i other = at i ∙ get_or-set_other pushed j i node (leaf_link 0 0) other ∙ sym (link_at-get pushed i)

    before : (i : ℕ) → i < length old → link_at pushed i ≡ link_at old i
    before i less =
        link_at-get pushed i ∙ get_or_append_left old (leaf_link parent number ∷ []) (leaf_link 0 0) i less
        ∙ sym (link_at-get old i)

pub AreLinksRising-added : (old new : List Link) (parent number j : ℕ) (s : Side) → AreLinksRising old
    → IsLinkAdded old new parent number j s → AreLinksRising new
AreLinksRising-added old new parent number j s rising added here side some =
    ⊎_elim
    (λ (less : here < length old).
    ⊎_elim
    (λ (at : here ≡ j).
    ⊎_elim (λ (way : side ≡ s). put at way) (λ (other : side ≢ s). old_one less (λ is. other is.1))
    (cases_side side s))
    (λ (other : here ≢ j). old_one less (λ is. other is.0))
    (cases_eq here j))
    (λ (far : length old ≤ here).
    let none : link_behind (link_at new here) side ≡ 0 =
    ⊎_elim
    (λ (is : here ≡ length old).
    ap (λ i. link_behind (link_at new i) side) is ∙ ap (λ l. link_behind l side) added.last
    ∙ leaf_behind parent number side)
    (λ (other : here ≢ length old).
    ap (λ l. link_behind l side) (link_at-past new here (omega (arith, far, other, added.longer)))
    ∙ leaf_behind 0 0 side)
    (cases_eq here (length old)) in
    absurd (omega (arith, none, some)))
    (cases_lt here (length old))
  where
    put : here ≡ j → side ≡ s
        → (here < link_behind (link_at new here) side) × (link_behind (link_at new here) side < length new)
    put at way =
        let leads : link_behind (link_at new here) side ≡ length old =
        subst (λ i. link_behind (link_at new i) side ≡ length old) (sym at)
        (subst (λ w. link_behind (link_at new j) w ≡ length old) (sym way) added.leads) in
        (omega (arith, leads, at, added.inside), omega (arith, leads, added.longer))

    old_one : here < length old → ((here ≡ j) × (side ≡ s) → ⊥)
        → (here < link_behind (link_at new here) side) × (link_behind (link_at new here) side < length new)
    old_one less other =
        let same : link_behind (link_at new here) side ≡ link_behind (link_at old here) side =
        added.same here less side other in
        let up = rising here side (omega (arith, same, some)) in
        (omega (arith, same, up.0), omega (arith, same, up.1, added.longer))

module _ (old new : List Link) (parent number j : ℕ) (s : Side) (rising : AreLinksRising old)
    (added : IsLinkAdded old new parent number j s) where
  -- a side that leads on leads there still
  leads_still : (here : ℕ) (side : Side) → here < length old → link_behind (link_at old here) side ≢ 0
      → link_behind (link_at new here) side ≡ link_behind (link_at old here) side
  leads_still here side inside some =
      added.same here inside side
      (λ is.
      some
      (subst (λ i. link_behind (link_at old i) side ≡ 0) (sym is.0)
      (subst (λ t. link_behind (link_at old j) t ≡ 0) (sym is.1) added.free)))

  own : is_link_of parent number (leaf_link parent number) ≡ true
  own = and_from _ _ (eq-eqb parent parent refl) (eq-eqb number number refl)

  -- the search that ended there finds the new one
  pub added-here : (steps digits here : ℕ) (side : Side) → here < length old → length old ≤ steps + here
      → spot_within old steps parent number digits here side ≡ Missing j s
      → spot_within new (suc steps) parent number digits here side ≡ Found (length old)
  added-here zero digits here side inside enough e = absurd (omega (arith, inside, enough))
  added-here (suc steps) digits here side inside enough e =
      ⊎_elim
      (λ (none : link_behind (link_at old here) side ≡ 0).
      let is = step-missing old steps parent number digits here side none in
      let at : here ≡ j = ap node_of (sym is ∙ e) in
      let way : side ≡ s = ap way_of (sym is ∙ e) in
      let leads : link_behind (link_at new here) side ≡ length old =
      subst (λ i. link_behind (link_at new i) side ≡ length old) (sym at)
      (subst (λ w. link_behind (link_at new j) w ≡ length old) (sym way) added.leads) in
      let some : link_behind (link_at new here) side ≢ 0 = λ f. omega (arith, leads, f, inside) in
      step-found new (suc steps) parent number digits here side some
      (ap (λ k. is_link_of parent number (link_at new k)) leads ∙ ap (is_link_of parent number) added.last
      ∙ own)
      ∙ ap (λ k. Found k) leads)
      (λ (some : link_behind (link_at old here) side ≢ 0).
      let up = rising here side (omega (arith, some)) in
      let same = leads_still here side inside some in
      let some_new : link_behind (link_at new here) side ≢ 0 = λ f. some (sym same ∙ f) in
      ⊎_elim
      (λ (is : is_link_of parent number (link_at old (link_behind (link_at old here) side)) ≡ true).
      absurd
      (found_missing (link_behind (link_at old here) side) j s
      (sym (step-found old steps parent number digits here side some is) ∙ e)))
      (λ (other : is_link_of parent number (link_at old (link_behind (link_at old here) side)) ≡ false).
      step-on new (suc steps) parent number digits here side some_new
      (ap (λ k. is_link_of parent number (link_at new k)) same
      ∙ added.keys (link_behind (link_at old here) side) up.1 parent number ∙ other)
      ∙ ap (λ k. spot_within new (suc steps) parent number (digits / 4) k (side_of digits)) same
      ∙ added-here steps (digits / 4) (link_behind (link_at old here) side) (side_of digits) up.1
      (omega (arith, up.0, enough))
      (sym (step-on old steps parent number digits here side some other) ∙ e))
      (cases_Bool (is_link_of parent number (link_at old (link_behind (link_at old here) side)))))
      (cases_eq (link_behind (link_at old here) side) 0)

  -- a search for another one ends as before
  pub added-elsewhere : (p n : ℕ) → is_link_of p n (leaf_link parent number) ≡ false
      → (steps digits here : ℕ) (side : Side) → here < length old → length old ≤ steps + here
      → found (spot_within new (suc steps) p n digits here side)
      ≡ found (spot_within old steps p n digits here side)
  added-elsewhere p n apart zero digits here side inside enough = absurd (omega (arith, inside, enough))
  added-elsewhere p n apart (suc steps) digits here side inside enough =
      ⊎_elim
      (λ (none : link_behind (link_at old here) side ≡ 0).
      ⊎_elim
      (λ (still : link_behind (link_at new here) side ≡ 0).
      ap found
      (step-missing new (suc steps) p n digits here side still
      ∙ sym (step-missing old steps p n digits here side none)))
      (λ (some : link_behind (link_at new here) side ≢ 0).
      let leads = there here side inside none some in
      let last : link_at new (link_behind (link_at new here) side) ≡ leaf_link parent number =
      ap (link_at new) leads ∙ added.last in
      ap found
      (step-on new (suc steps) p n digits here side some (ap (is_link_of p n) last ∙ apart))
      ∙ ap found
      (step-missing new steps p n (digits / 4) (link_behind (link_at new here) side) (side_of digits)
      (ap (λ l. link_behind l (side_of digits)) last ∙ leaf_behind parent number (side_of digits)))
      ∙ ap found (sym (step-missing old steps p n digits here side none)))
      (cases_eq (link_behind (link_at new here) side) 0))
      (λ (some : link_behind (link_at old here) side ≢ 0).
      let up = rising here side (omega (arith, some)) in
      let same = leads_still here side inside some in
      let some_new : link_behind (link_at new here) side ≢ 0 = λ f. some (sym same ∙ f) in
      let key : is_link_of p n (link_at new (link_behind (link_at new here) side))
      ≡ is_link_of p n (link_at old (link_behind (link_at old here) side)) =
      ap (λ k. is_link_of p n (link_at new k)) same
      ∙ added.keys (link_behind (link_at old here) side) up.1 p n in
      ⊎_elim
      (λ (is : is_link_of p n (link_at old (link_behind (link_at old here) side)) ≡ true).
      ap found
      (step-found new (suc steps) p n digits here side some_new (key ∙ is) ∙ ap (λ k. Found k) same
      ∙ sym (step-found old steps p n digits here side some is)))
      (λ (other : is_link_of p n (link_at old (link_behind (link_at old here) side)) ≡ false).
      ap found
      (step-on new (suc steps) p n digits here side some_new (key ∙ other)
      ∙ ap (λ k. spot_within new (suc steps) p n (digits / 4) k (side_of digits)) same)
      ∙ added-elsewhere p n apart steps (digits / 4) (link_behind (link_at old here) side) (side_of digits)
      up.1
      (omega (arith, up.0, enough))
      ∙ ap found (sym (step-on old steps p n digits here side some other)))
      (cases_Bool (is_link_of p n (link_at old (link_behind (link_at old here) side)))))
      (cases_eq (link_behind (link_at old here) side) 0)
    where
      there : (here : ℕ) (side : Side) → here < length old → link_behind (link_at old here) side ≡ 0
          → link_behind (link_at new here) side ≢ 0 → link_behind (link_at new here) side ≡ length old
      there here side inside none some =
          ⊎_elim
          (λ (at : here ≡ j).
          ⊎_elim
          (λ (way : side ≡ s).
          subst (λ i. link_behind (link_at new i) side ≡ length old) (sym at)
          (subst (λ w. link_behind (link_at new j) w ≡ length old) (sym way) added.leads))
          (λ (other : side ≢ s). absurd (some (added.same here inside side (λ is. other is.1) ∙ none)))
          (cases_side side s))
          (λ (other : here ≢ j). absurd (some (added.same here inside side (λ is. other is.0) ∙ none)))
          (cases_eq here j)
