use Rattle.std.proofs.Common.{◌∙◌, sym}
use Rattle.online.proofs.OutsideLemmas.{none_taskwait}
use Rattle.online.proofs.replay.has_taskwait.Goals as goal

pub returns : goal.returns
returns c = λ none. none_taskwait c.args.kinds.now (sym c.contains.ensures.value ∙ none)
