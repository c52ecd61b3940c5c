-- How the places of all records that show a cause are found one after another.
use Rattle.std.proofs.Common.{◌≡◌, ℕ, ◌<◌, ◌≤◌, ◌+◌, List, [], ◌∷◌, ◌++◌, Bool, true, false, length, arith}
use Rattle.std.proofs.Common.{refl, ap, sym, subst}
use Rattle.std.proofs.Common.{get_or, inl, inr}
use Rattle.std.proofs.lemmas.Bool.{cases_lt, false≢true}
use Rattle.std.proofs.lemmas.List.Elements.{All-push, All-nil, All-weaker, Contains-push}
use Rattle.std.proofs.lemmas.List.Elements.{Contains-append_left}
use Rattle.std.proofs.lemmas.List.Quantifiers.{all_pairs_push}
use Rattle.std.specs.Prelude.{◌↔◌, IsTrue, All, Contains, if◌then◌else◌}
use Rattle.std.specs.List.{AllPairs}
use Rattle.ompt_events.specs.declared.records.Record.{Record}
use Rattle.ompt_events.specs.declared.cause.Cause.{Cause}
use Rattle.ompt_events.specs.Causes.{HasCause}
use Rattle.ompt_events.specs.Shown.{AreAllBelow, AreAll, AreAllWith}

-- before the first record there are none
pub none_below : (holds : ℕ → Type 0) → AreAllBelow holds 0 []
none_below holds = record {
  rising = λ i j d less within. absurd (omega arith);
  within = All-nil (λ place. place < 0);
  hold = All-nil holds;
  complete = λ i below here. absurd (omega arith);
}

-- one more, behind the others
pub one_more : (holds : ℕ → Type 0) (n : ℕ) (places : List ℕ) → holds n → AreAllBelow holds n places
    → AreAllBelow holds (n + 1) (places ++ n ∷ [])
one_more holds n places here are = record {
  rising = all_pairs_push (λ x y. x < y) places n are.rising (λ k d below. are.within k d below);
  within =
      All-push (λ place. place < n + 1) places n
      (All-weaker (λ place. place < n) (λ place. place < n + 1) (λ place below. omega arith) places
      are.within)
      (omega arith);
  hold = All-push holds places n are.hold here;
  complete = λ i below has. elim (cases_lt i n) [
    | inl less ↦ Contains-append_left places (n ∷ []) i (are.complete i less has)
    | inr least ↦
        let same : n ≡ i = omega arith in subst (Contains (places ++ n ∷ [])) same (Contains-push places n)
  ];
}

-- not this one
pub no_more : (holds : ℕ → Type 0) (n : ℕ) (places : List ℕ) → (holds n → ⊥) → AreAllBelow holds n places
    → AreAllBelow holds (n + 1) places
no_more holds n places not_here are = record {
  rising = are.rising;
  within =
      All-weaker (λ place. place < n) (λ place. place < n + 1) (λ place below. omega arith) places are.within;
  hold = are.hold;
  complete = λ i below has. elim (cases_lt i n) [
    | inl less ↦ are.complete i less has
    | inr least ↦ let same : i ≡ n = omega arith in absurd (not_here (subst holds same has))
  ];
}

-- the next record is noted if it shows the cause
pub noted : (holds : ℕ → Type 0) (n : ℕ) (shows : Bool) (old new : List ℕ) → (IsTrue shows ↔ holds n)
    → new ≡ (if shows then old ++ n ∷ [] else old) → AreAllBelow holds n old → AreAllBelow holds (n + 1) new
noted holds n true old new exact is are = subst (AreAllBelow holds (n + 1)) (sym is)
    (one_more holds n old (exact.0 refl) are)
noted holds n false old new exact is are =
    subst (AreAllBelow holds (n + 1)) (sym is) (no_more holds n old (λ has. false≢true (exact.1 has)) are)

-- the places that are found along the whole file are those of all records with the cause
pub all_with : (rs : List Record) (cause : Cause) (holds : ℕ → Type 0) (n : ℕ) (places : List ℕ)
    → length rs ≡ n
    → ((i : ℕ) → holds i → HasCause rs i cause)
    → ((i : ℕ) → HasCause rs i cause → (i < n) × holds i)
    → AreAllBelow holds n places → AreAllWith rs cause places
all_with rs cause holds n places all has is are = record {
  rising = are.rising;
  within = subst (λ m. All (λ place. place < m) places) (sym all) are.within;
  hold = All-weaker holds (λ i. HasCause rs i cause) has places are.hold;
  complete = λ i shows. let there = is i shows in are.complete i there.0 there.1;
}
