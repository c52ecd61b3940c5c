-- A map whose keys are numbers, after a key was given a value.
use Rattle.std.proofs.Common.{◌≡◌, ◌≢◌, ◌∙◌, ℕ, Option, true, false, cond, ap, arith}
use Rattle.std.proofs.lemmas.Bool.Decides.{nat_tests}
use Rattle.std.specs.Ordering.{nat_cmp}
use Rattle.std.specs.BTreeMap.{BTreeMap, get, is_at, Updates}

pub same_key : (a : ℕ) → is_at (nat_cmp a) a ≡ true
same_key a = grind (arith, nat_tests)

pub other_key : (a b : ℕ) → b ≢ a → is_at (nat_cmp a) b ≡ false
other_key a b apart = grind (arith, nat_tests)

-- the key has the value
pub updated_here : {X : Type 0} (m n : BTreeMap ℕ X) (k : ℕ) (w : Option X) → Updates nat_cmp m n k w
    → get nat_cmp n k ≡ w
updated_here m n k w updates = updates.0 k ∙ ap (λ b. cond b w (get nat_cmp m k)) (same_key k)

-- and any other key what it had
pub updated_there : {X : Type 0} (m n : BTreeMap ℕ X) (k : ℕ) (w : Option X) → Updates nat_cmp m n k w
    → (q : ℕ) → q ≢ k → get nat_cmp n q ≡ get nat_cmp m q
updated_there m n k w updates q apart = updates.2 q (other_key k q apart)
