use Rattle.std.proofs.Common.{sym, ◌∙◌}
use Rattle.certificate.proofs.ScriptFileLemmas.{past-limit}
use Rattle.certificate.proofs.script_reading.add.Goals as goal

pub returns-else-is_within : goal.returns-else-is_within
returns-else-is_within c =
    λ _.
    rw c.past_limit.ensures
    (past-limit c.args.script.now c.args.said (sym c.is_within.ensures ∙ c.if-is_within.false))
