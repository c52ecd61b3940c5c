use Rattle.std.proofs.Common.{◌≡◌, ◌∙◌, ℕ, length, replicate, None, ap}
use Rattle.depend_edges.proofs.ListedLemmas.{own_lists_none, own_lists_once}
use Rattle.depend_edges.proofs.lists.find_lists.Goals as goal

pub returns-then-has_none-clause-lists : goal.returns-then-has_none-clause-lists
returns-then-has_none-clause-lists c =
    let count : c.task_count.result ≡ length c.args.own.now.run.family.tasks =
    rw (← c.run.ensures.value) c.task_count.ensures.value in
    own_lists_none c.args.run.now.records c.args.own.now c.in_ok-no_places.field-0.items c.requires.own
    c.run.ensures.is_own (c.has_none.ensures c.if-has_none.true)
    (c.in_ok-no_places.ensures ∙ ap (λ (n : ℕ). replicate n None) count)

pub note_lists-requires : goal.note_lists-requires
note_lists-requires c =
    rw c.run-2.ensures.value
    (own_lists_once c.args.run.now.records c.args.own.now c.requires.own c.run-2.ensures.is_own
    c.task_count-tasks.ensures.is_run.family.once c.in_ok-exclude_misplaced.ensures.placed)
