use Rattle.std.proofs.Common.{◌≡◌, map, take}
use Rattle.lines.specs.LooseBodies.{cut_short}
use Rattle.lines.proofs.bodies.cut_path.Given as goal

-- the numbers so far are kept, each cut short
abbrev pub invariant-numbers : goal.invariant-numbers
invariant-numbers l = l.path ≡ map cut_short (take l.number-index l.numbers.items)
