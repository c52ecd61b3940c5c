use Rattle.std.proofs.Common.{◌≡◌, ◌-◌, ◌≤◌, length, take}
use Rattle.std.specs.Io.KnownBytes.{Keeps, prepend_known}
use Rattle.taskaudit.proofs.looking.look.Given as goal

-- the first bytes so far, in front of those that are left
abbrev pub invariant-loop-end : goal.invariant-loop-end
invariant-loop-end g l = record {
  within : l.end ≤ 6;
  size : length l.first ≡ 6;
  kept : Keeps (g.I.Source.remaining l.fn.source)
      (prepend_known (take l.end l.first) (g.I.Source.remaining l.rest));
}

abbrev pub decreases-loop-end : goal.decreases-loop-end
decreases-loop-end g l = 6 - l.end
