use Rattle.std.proofs.Common.{◌≡◌, ◌∙◌, Bool, length, subst, arith}
use Rattle.std.specs.Prelude.{All}
use Rattle.ompt_events.specs.declared.records.Record.{Record}
use Rattle.ompt_events.specs.declared.cause.Cause.TheVariants.{TargetTask}
use Rattle.ompt_events.specs.Causes.{MakesTarget}
use Rattle.ompt_events.proofs.ShownLemmas.{noted}
use Rattle.task_states.proofs.ListingLemmas.{none_yet, none_with}
use Rattle.task_states.proofs.NestingLemmas.{nests_all}
use Rattle.task_states.proofs.TargetLemmas.{all_targets, none_where_all_nest}
use Rattle.task_states.proofs.targets.find_targets.Goals as goal

pub returns-then-nests : goal.returns-then-nests
returns-then-nests c =
    let rs = c.args.run.now.records in
    let P : Bool → Type 0 = λ b. All (λ (r : Record). r.nests ≡ b) rs in
    none_with rs TargetTask c.none-shown.result c.none-shown.ensures
    (none_where_all_nest rs (subst P c.if-nests.true c.nests.ensures))

pub loop-at-init : goal.loop-at-init
loop-at-init c = none_yet (MakesTarget c.args.run.now.records) c.none-shown.result c.none-shown.ensures

pub is_target_there-makes-requires-clause-flat : goal.is_target_there-makes-requires-clause-flat
is_target_there-makes-requires-clause-flat c =
    let count = c.len-at-end.ensures.value in
    nests_all c.args.run.now.records c.nests.result c.loop-at.at c.nests.ensures
    (omega (arith, c.loop-at-test.true, count))
    ∙ c.if-nests.false

pub loop-at-preserved : goal.loop-at-preserved
loop-at-preserved c =
    noted (MakesTarget c.args.run.now.records) c.loop-at.at c.is_target_there-makes.result c.loop-at.shown
    c.note.new.self c.is_target_there-makes.ensures c.in_ok-note.ensures c.loop-at.invariant

pub returns : goal.returns
returns c =
    let rs = c.args.run.now.records in
    let all : length rs ≡ c.loop-at.at =
    omega (arith, c.loop-at-test.false, c.loop-at.auto.at-end, c.len-at-end.ensures.value) in
    all_targets rs c.loop-at.at c.loop-at.shown all c.loop-at.invariant
