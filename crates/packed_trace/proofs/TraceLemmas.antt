-- The first records of a trace are a trace.
use Rattle.std.proofs.Common.{ℕ, zero, suc, ◌≡◌, ◌<◌, ◌≤◌, ◌+◌, ◌-◌, Bool, true, false, List, length, get_or}
use Rattle.std.proofs.Common.{refl, arith}
use Rattle.std.specs.Prelude.{count_by, is_some, take}
use Rattle.std.proofs.lemmas.List.{length-take, take_all}
use Rattle.std.proofs.lemmas.List.Elements.{All-take}
use Rattle.std.proofs.lemmas.List.Sums.{count_by_more_no, count_by_more_yes}
use Rattle.ompt_events.specs.declared.records.Record.{Record}
use Rattle.ompt_events.specs.Records.{made}
use Rattle.ompt_events.specs.Traces.{HasItsTurns, IsInRange, IsSound, IsTraceOf, NestsIn, tasks_in}
use Rattle.ompt_events.proofs.ListLemmas.{get_within}

module _ {X : Type 0} (p : X → Bool) (xs : List X) where
  one_more : (i : ℕ) (x : X) → i < length xs → (b : Bool) → p (get_or xs i x) ≡ b
      → count_by p (take i xs) ≤ count_by p (take (i + 1) xs)
  one_more i x within true is = let more = count_by_more_yes p xs i x within is in omega (arith, more)
  one_more i x within false is = let same = count_by_more_no p xs i x within is in omega (arith, same)

  no_fewer : (k n : ℕ) → n + k ≤ length xs → count_by p (take n xs) ≤ count_by p (take (n + k) xs)
  no_fewer zero n within = let same : n + 0 ≡ n = omega arith in rw same (omega arith)
  no_fewer (suc k) n within =
      let x = (get_within xs (n + k) (omega (arith, within))).0 in
      let before = no_fewer k n (omega (arith, within)) in
      let more = one_more (n + k) x (omega (arith, within)) (p (get_or xs (n + k) x)) refl in
      let same : n + suc k ≡ n + k + 1 = omega arith in
      rw same (omega (arith, before, more))

pub few_tasks : (rs : List Record) (n : ℕ) → n ≤ length rs → tasks_in (take n rs) ≤ tasks_in rs
few_tasks rs n within =
    let some : Record → Bool = λ r. is_some (made r.body) in
    let counted : count_by some (take n rs) ≤ count_by some (take (n + (length rs - n)) rs) =
    no_fewer some rs (length rs - n) n (omega (arith, within)) in
    let all : n + (length rs - n) ≡ length rs = omega (arith, within) in
    rw (all, take_all (length rs) rs (omega arith)) at counted

pub first_trace : (version : ℕ) (rs : List Record) (n : ℕ) → n ≤ length rs → IsTraceOf version rs
    → IsTraceOf version (take n rs)
first_trace version rs n within trace = record {
  known = trace.known;
  is_trace = record {
    few_records =
        let few = trace.is_trace.few_records in
        let long = length-take n rs in omega (arith, within, few, long);
    few_tasks =
        let few = trace.is_trace.few_tasks in
        let fewer = few_tasks rs n within in omega (arith, few, fewer);
    sound = All-take (λ r. IsSound r.body) n rs trace.is_trace.sound;
    in_range = All-take IsInRange n rs trace.is_trace.in_range;
  };
  turns = All-take (λ r. HasItsTurns version r.body) n rs trace.turns;
  nesting = All-take (NestsIn version) n rs trace.nesting;
}
