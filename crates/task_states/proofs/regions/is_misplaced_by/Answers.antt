use Rattle.std.proofs.Common.{◌∙◌}
use Rattle.std.proofs.lemmas.Bool.{false≢true}
use Rattle.task_states.proofs.RegionLemmas.{opened_here, judged_has, no_region_here}
use Rattle.task_states.proofs.regions.is_misplaced_by.Goals as goal

pub is_misplaced-requires-clause-opened : goal.is_misplaced-requires-clause-opened
is_misplaced-requires-clause-opened c =
    let event = c.in-Some.event in
    opened_here c.args.run.now c.args.number event.task event.kind event.endpoint c.args.opened.now
    c.get.result c.requires.within c.requires.opened c.in-Some.ensures (c.get.ensures ∙ c.link_at.ensures)

pub returns-in-Some : goal.returns-in-Some
returns-in-Some c =
    judged_has c.args.run.now.records c.args.number c.get.result c.is_misplaced.result
    c.is_misplaced.ensures

pub returns-in-None : goal.returns-in-None
returns-in-None c = (
  λ never. absurd (false≢true never),
  λ has. absurd (no_region_here c.args.run.now.records c.args.number c.in-None.ensures has),
)
