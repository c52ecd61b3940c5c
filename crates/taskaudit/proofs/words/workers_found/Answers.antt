use Rattle.std.specs.Str.Parse.{ParsesUnsigned, ExplainsUnsignedError, HasUnsignedDigitsIfOk}
use Rattle.std.proofs.Common.{arith, codes}
use Rattle.clap.specs.Words.{found_of}
use Rattle.taskaudit.proofs.CommandLemmas.{number_found}
use Rattle.taskaudit.proofs.words.workers_found.Goals as goal

pub returns : goal.returns
returns c =
    number_found (codes "workers") 1 256 (omega arith) _
    (λ bs r. ParsesUnsigned 32 10 bs r × ExplainsUnsignedError 10 bs r × HasUnsignedDigitsIfOk bs r)
    (λ u x g. g.0)
    (found_of c.args.found.now) c.get_one.result c.requires c.get_one.ensures.none c.get_one.ensures.value
