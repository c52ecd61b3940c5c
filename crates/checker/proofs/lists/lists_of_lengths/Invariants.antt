use Rattle.std.proofs.Common.{◌≡◌, ◌+◌, ℕ, length}
use Rattle.checker.specs.Merge.{named_length}
use Rattle.checker.specs.Lists.{AreLists, LeadsOn}
use Rattle.checker.proofs.lists.lists_of_lengths.Given as goal

-- from the end on the records so far are in their lists
abbrev pub invariant-loop-step : goal.invariant-loop-step
invariant-loop-step l =
    let rs = l.makers.run.records in
    record {
      keys : length l.lists.firsts.items ≡ length l.makers.places + 1;
      lists : (from : ℕ) → from + l.step ≡ length rs
          → AreLists (named_length rs) (length rs) from l.lists.firsts.items l.lists.nexts.items;
      rising : LeadsOn (length rs) l.lists.nexts.items;
    }
