use Rattle.std.specs.Prelude.{◌<◌, All}
use Rattle.probe.proofs.stopwatch.waits.numbers_below.Given as goal

-- the numbers so far are below
abbrev pub invariant-loop-number : goal.invariant-loop-number
invariant-loop-number l = All (λ number. number < l.count) l.numbers.items
