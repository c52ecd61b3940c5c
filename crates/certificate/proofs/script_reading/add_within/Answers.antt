use Rattle.certificate.proofs.ScriptFileLemmas.{add-refused}
use Rattle.certificate.proofs.script_reading.add_within.Goals as goal

pub returns-in-Err : goal.returns-in-Err
returns-in-Err c =
    rw c.cause_of.ensures
    (add-refused c.args.script.now c.args.said c.in-Err.fault c.requires c.in-Err.ensures.fault)
