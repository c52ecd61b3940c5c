use Rattle.std.proofs.Common.{◌∙◌, sym}
use Rattle.std.proofs.lemmas.Bool.{false≢true}
use Rattle.std.proofs.lemmas.Option.{slice_get_within}
use Rattle.task_states.proofs.RegionLemmas.{misses_here, barred_here, placed_here}
use Rattle.task_states.proofs.regions.is_misplaced.Goals as goal

pub returns-then-misses_begin : goal.returns-then-misses_begin
returns-then-misses_begin c =
    let event = c.args.event in
    misses_here c.args.run.now c.args.number event.task event.kind event.endpoint c.args.opened
    c.requires.event c.requires.opened (c.misses_begin.ensures.misses c.if-misses_begin.true)

pub is_barred-requires : goal.is_barred-requires
is_barred-requires c =
    slice_get_within c.args.run.now.family.tasks c.args.event.task c.requires.event.task
    c.requires.event.indexed

pub returns-then-is_barred : goal.returns-then-is_barred
returns-then-is_barred c =
    let event = c.args.event in
    let own = c.requires.event in
    barred_here c.args.run.now c.args.number event.task event.kind event.endpoint own
    ((c.is_barred.ensures own.task own.indexed).0 c.if-is_barred.true)

pub returns : goal.returns
returns c =
    let event = c.args.event in
    let own = c.requires.event in
    placed_here c.args.run.now c.args.number event.task event.kind event.endpoint c.args.opened own
    c.requires.opened (c.misses_begin.ensures.finds c.if-misses_begin.false)
    (λ barred.
    false≢true (sym c.if-is_barred.false ∙ (c.is_barred.ensures own.task own.indexed).1 barred))
