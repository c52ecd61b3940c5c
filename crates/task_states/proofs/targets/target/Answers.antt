use Rattle.std.proofs.Common.{◌≡◌, ◌∙◌, Bool, sym, subst, arith, below_more, true, false}
use Rattle.std.specs.Prelude.{All}
use Rattle.ompt_events.specs.declared.records.Record.{Record}
use Rattle.task_states.proofs.NestingLemmas.{nests_all}
use Rattle.task_states.proofs.TargetLemmas.{first_target, free_of_targets, none_where_all_nest}
use Rattle.task_states.proofs.targets.target.Goals as goal

pub returns-then-nests : goal.returns-then-nests
returns-then-nests c =
    let P : Bool → Type 0 = λ b. All (λ (r : Record). r.nests ≡ b) c.args.run.now.records in
    none_where_all_nest c.args.run.now.records (subst P c.if-nests.true c.nests.ensures)

pub is_target_there-requires-clause-flat : goal.is_target_there-requires-clause-flat
is_target_there-requires-clause-flat c =
    let count = c.len-at-end.ensures.value in
    nests_all c.args.run.now.records c.nests.result c.loop-at.at c.nests.ensures
    (omega (arith, c.loop-at-test.true, count))
    ∙ c.if-nests.false

pub returns-then-is_target_there : goal.returns-then-is_target_there
returns-then-is_target_there c =
    let within = c.len-at-end.ensures.value in
    first_target c.args.run.now.records c.loop-at.at (omega (arith, c.loop-at-test.true, within))
    (c.is_target_there.ensures.0 c.if-is_target_there.true) c.loop-at.invariant

pub loop-at-preserved : goal.loop-at-preserved
loop-at-preserved c =
    below_more _ _ c.loop-at.invariant
    (λ makes.
    let is : false ≡ true = sym c.if-is_target_there.false ∙ c.is_target_there.ensures.1 makes in cc)

pub returns : goal.returns
returns c =
    let count = c.len-at-end.ensures.value in
    free_of_targets c.args.run.now.records c.loop-at.at c.loop-at.invariant
    (omega (arith, c.loop-at-test.false, count))
