-- A map whose keys are two numbers, after a key was given a value.
use Rattle.std.proofs.Common.{◌≡◌, ◌≢◌, ◌∙◌, ℕ, Option, true, false, cond, refl, sym, ap, arith}
use Rattle.std.proofs.lemmas.Map.Lookups.{exact_pairs, exact_unsigned}
use Rattle.std.proofs.lemmas.Bool.Decides.{nat_tests}
use Rattle.std.specs.Ordering.{nat_cmp, is_eq}
use Rattle.std.specs.declared.cmp.Ordering.{Ordering}
use Rattle.std.specs.declared.cmp.Ordering.TheVariants.{Less, Equal, Greater}
use Rattle.std.specs.BTreeMap.{BTreeMap, get, is_at, Updates}
use Rattle.task_tree.specs.GapSearch.{pair_cmp}

same_number : (a : ℕ) → nat_cmp a a ≡ Equal
same_number a = grind (arith, nat_tests)

same_pair : (p : ℕ × ℕ) → is_at (pair_cmp p) p ≡ true
same_pair p = rw (same_number p.0) (rw (same_number p.1) refl)

other_pair : (p q : ℕ × ℕ) → q ≢ p → is_at (pair_cmp p) q ≡ false
other_pair p q apart = by (pair_cmp p q) refl
  where
    by : (o : Ordering) → pair_cmp p q ≡ o → is_eq o ≡ false
    by Less e = refl
    by Greater e = refl
    by Equal e = absurd (apart (sym (exact_pairs nat_cmp nat_cmp exact_unsigned exact_unsigned p q e)))

-- the key has the value
pub pair_here : {X : Type 0} (m n : BTreeMap (ℕ × ℕ) X) (k : ℕ × ℕ) (w : Option X) → Updates pair_cmp m n k w
    → get pair_cmp n k ≡ w
pair_here m n k w updates = updates.0 k ∙ ap (λ b. cond b w (get pair_cmp m k)) (same_pair k)

-- and any other key what it had
pub pair_there : {X : Type 0} (m n : BTreeMap (ℕ × ℕ) X) (k : ℕ × ℕ) (w : Option X) → Updates pair_cmp m n k w
    → (q : ℕ × ℕ) → q ≢ k → get pair_cmp n q ≡ get pair_cmp m q
pair_there m n k w updates q apart = updates.2 q (other_pair k q apart)
