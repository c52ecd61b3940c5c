-- Greedy orders and lists in which each record has all that happens before it earlier.
use Rattle.std.proofs.Common.{◌≡◌, ◌∙◌, ℕ, ◌<◌, List, sym, subst, arith}
use Rattle.std.proofs.lemmas.List.{get_or-take, get_or_default, length-take}
use Rattle.std.specs.Prelude.{slice_index, Contains}
use Rattle.ompt_events.specs.declared.records.Record.{Record}
use Rattle.ompt_events.specs.HappensBefore.{IsStep, HappensBefore, step, chain}
use Rattle.ompt_events.specs.Linearization.{IsEarlier, IsDue, IsGreedy, IsGrounded}

-- each that stands has all that happens before it standing
abbrev pub IsClosed : List Record → List ℕ → Type 0
IsClosed rs standing = (b : ℕ) → Contains standing b → IsDue rs standing b

-- what each step leads from stands, so all that happens before does
pub due_from_steps : (rs : List Record) (standing : List ℕ) → IsClosed rs standing → (a b : ℕ)
    → HappensBefore rs a b → ((c : ℕ) → IsStep rs c b → Contains standing c) → Contains standing a
due_from_steps rs standing closed a b (step s) steps = steps a s
due_from_steps rs standing closed a b (chain {b = mid} first second) steps =
    closed mid (due_from_steps rs standing closed mid b second steps) a first

-- a greedy order has all that happens before a record earlier
pub greedy_grounded : (rs : List Record) (order : List ℕ) → IsGreedy rs order → IsGrounded rs order
greedy_grounded rs order greedy k below = (greedy k below).ready.due

-- in a list in which each record has all that happens before it earlier, it is earlier
pub grounded_rising : (rs : List Record) (order : List ℕ) → IsGrounded rs order → (a b : ℕ)
    → HappensBefore rs a b → Contains order b → IsEarlier order a b
grounded_rising rs order grounded a b before (q, inside, is) =
    let b_stands : slice_index order q ≡ b = get_or_default order q 0 b inside ∙ is in
    let P : ℕ → Type 0 = λ j. HappensBefore rs a j in
    let earlier = grounded q inside a (subst P (sym b_stands) before) in
    let low : earlier.0 < q = let e = earlier.1 in let t = length-take q order in omega (arith, e, t) in
    record {
      first = earlier.0;
      second = q;
      apart = low;
      within = inside;
      a_stands =
          get_or_default order earlier.0 0 a (omega arith) ∙ sym (get_or-take q order earlier.0 a low)
          ∙ earlier.2;
      b_stands = b_stands;
    }
