use Rattle.callbacks.proofs.ThreadLaws.{threads_numbered}
use Rattle.callbacks.proofs.laws.threads_are_numbered.Goals as goal

pub returns : goal.returns
returns c = threads_numbered
