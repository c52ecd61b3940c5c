use Rattle.std.proofs.Common.{refl}
use Rattle.ompt_events.specs.declared.cause.Cause.TheVariants.{ShareWrong}
use Rattle.task_tree.proofs.RenamedCauseLemmas.{share_within}
use Rattle.teams.proofs.ShownPlaceLemmas.{first_place_of}
use Rattle.checker.proofs.claims.exclude_wrong_claims.Goals as goal

pub returns-in-Some-clause-fault : goal.returns-in-Some-clause-fault
returns-in-Some-clause-fault c =
    let own = c.args.own.now in
    let finds =
    first_place_of own ShareWrong c.in_ok-wrong_claims.field-0 c.first-2.result
    (share_within own.run.records) c.run-run.ensures.is_own c.in_ok-wrong_claims.ensures
    c.first-2.ensures.value in
    (refl, rw c.in-Some.is at finds)

pub returns-clause-free : goal.returns-clause-free
returns-clause-free c =
    let own = c.args.own.now in
    let finds =
    first_place_of own ShareWrong c.in_ok-wrong_claims.field-0 c.first-2.result
    (share_within own.run.records) c.run-run.ensures.is_own c.in_ok-wrong_claims.ensures
    c.first-2.ensures.value in
    rw c.in-None.is at finds
