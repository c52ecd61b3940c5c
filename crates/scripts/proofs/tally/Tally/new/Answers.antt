use Rattle.std.proofs.Common.{refl, ℕ}
use Rattle.std.proofs.lemmas.List.{get_or-replicate, length-replicate}
use Rattle.scripts.proofs.tally.Tally.new.Goals as goal

pub returns : goal.returns
returns c = record {
  threads = length-replicate {A = ℕ} 256 0;
  counted = λ thread below. get_or-replicate 256 thread 0 0 below;
  beyond = λ _ _. refl;
  tasks = refl;
}
