use Rattle.std.proofs.Common.{◌≡◌, ◌∙◌, Some, None, ap, subst}
use Rattle.std.specs.Prelude.{slice_index_or}
use Rattle.ompt_events.specs.declared.names.Endpoint.TheVariants.{End, BeginEnd}
use Rattle.ompt_events.specs.Records.{region}
use Rattle.ompt_events.specs.Places.{at}
use Rattle.task_tree.specs.Runs.{RunView, IsRegionEvent}
use Rattle.task_states.proofs.RegionLemmas.{once_begin, linked_begin}
use Rattle.task_states.proofs.regions.Regions.begin_of.Goals as goal

pub returns-in-End : goal.returns-in-End
returns-in-End c =
    let event = c.in_ok-event.event in
    let P : RunView → Type 0 = λ r. IsRegionEvent r c.args.number event.task event.kind event.endpoint in
    let found : IsRegionEvent c.self.inside.own.run c.args.number event.task event.kind event.endpoint =
    subst P c.run.ensures.value c.in_ok-event.ensures in
    let says : at region c.self.inside.own.run.records c.args.number ≡ Some (found.task, event.kind, End) =
    found.says ∙ ap (λ e. Some (found.task, event.kind, e)) c.in-End.is in
    rw (← c.self.view_is)
    (linked_begin _ c.args.number found.task event.kind c.get.result c.self.invariant says
    (c.get.ensures ∙ c.link_at.ensures
    ∙ ap (λ l. slice_index_or l c.args.number None) c.as_slice.ensures.value))

pub returns-in-BeginEnd : goal.returns-in-BeginEnd
returns-in-BeginEnd c =
    let event = c.in_ok-event.event in
    let P : RunView → Type 0 = λ r. IsRegionEvent r c.args.number event.task event.kind event.endpoint in
    let found : IsRegionEvent c.self.inside.own.run c.args.number event.task event.kind event.endpoint =
    subst P c.run.ensures.value c.in_ok-event.ensures in
    let says : at region c.self.inside.own.run.records c.args.number
    ≡ Some (found.task, event.kind, BeginEnd) =
    found.says ∙ ap (λ e. Some (found.task, event.kind, e)) c.in-BeginEnd.is in
    rw (← c.self.view_is) (once_begin c.self.inside.own.run.records c.args.number found.task event.kind says)
