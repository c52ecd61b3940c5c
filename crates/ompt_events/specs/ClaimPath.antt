-- Where the path of a claimed task keeps its numbers. No clause outside `claim_path` cites this module.
use Rattle.std.specs.Prelude.{ℕ, List}
use Rattle.ompt_events.specs.declared.claim_path.Numbers.{Numbers}
use Rattle.ompt_events.specs.declared.claim_path.Numbers.TheVariants.{Few, Many}

-- the numbers, from the root down
abbrev pub numbers_kept : Numbers → List ℕ
numbers_kept (Few few) = few.items
numbers_kept (Many many) = many.items
