use Rattle.std.proofs.Common.{◌∙◌, ap}
use Rattle.std.proofs.lemmas.List.{take_all}
use Rattle.std.specs.Prelude.{map}
use Rattle.task_states.proofs.PassLemmas.{state_at_first, come_new}
use Rattle.task_states.proofs.progress.Progress.new.Goals as goal

pub returns-clause-come : goal.returns-clause-come
returns-clause-come c =
    let natures = c.natures-natures.result.now in
    come_new c.args.origins.now.records c.args.origins.now.family.tasks natures c.loop-nature.states.items
    c.in_ok-no_marks.field-0.items c.args.marked
    (c.loop-nature.invariant
    ∙ ap (map state_at_first) (take_all c.loop-nature.nature-index natures c.loop-nature-test.false))
    c.natures-natures.ensures.all c.natures-natures.ensures.natures
    c.in_ok-no_marks.ensures
