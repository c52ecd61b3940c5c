use Rattle.std.proofs.Common.{List, length}
use Rattle.ompt_events.specs.declared.records.Record.{Record}
use Rattle.checker.specs.Merge.{AreOffered}
use Rattle.checker.proofs.front.take_first.Given as goal

-- those that were taken stand
abbrev pub invariant-ready : goal.invariant-ready
invariant-ready l =
    (rs : List Record) → AreOffered rs l.placed l.initial.ready → AreOffered rs l.placed l.ready

abbrev pub decreases-ready : goal.decreases-ready
decreases-ready l = length l.ready
