use Rattle.std.proofs.Common.{◌≡◌, ◌∙◌, ℕ, ap, subst, sym, false}
use Rattle.std.specs.List.{list_any}
use Rattle.ompt_events.specs.States.{has_moved}
use Rattle.task_tree.specs.Runs.{RunView}
use Rattle.task_states.specs.Progress.{is_many}
use Rattle.task_states.proofs.RootLemmas.{none_moved}
use Rattle.task_states.proofs.origins.Origins.any_moved.Goals as goal

pub returns : goal.returns
returns c = λ none.
    let run = c.self.inside.run in
    let P : RunView → Type 0 = λ r. (task : ℕ) → has_moved r.records task ≡ false in
    let no_many : list_any is_many c.self.inside.homes.items ≡ false =
    ap (list_any is_many) (sym c.as_slice.ensures.value) ∙ sym c.any_many.ensures ∙ none in
    subst P c.self.view_is
    (none_moved run.records run.family c.self.inside.homes.items c.self.invariant.of_run.family
    c.self.invariant.homes_are no_many)
