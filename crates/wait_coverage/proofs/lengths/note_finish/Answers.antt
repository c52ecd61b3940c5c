use Rattle.std.proofs.Common.{◌∙◌, ◌+◌, get_or, ap}
use Rattle.wait_coverage.specs.Lengths.{with_length}
use Rattle.wait_coverage.proofs.LengthLemmas.{records_more, records_other}
use Rattle.wait_coverage.proofs.lengths.note_finish.Goals as goal

pub returns-in-Some : goal.returns-in-Some
returns-in-Some c =
    let rs = c.args.run.now.records in
    let family = c.args.run.now.family in
    let index = c.in-Some.finished.task in
    let part = c.in-Some.finished.part in
    let says = c.in-Some.ensures in
    let table = c.args.table.now.items in
    let same =
    c.with.ensures ∙ ap (λ l. with_length l part (c.from-length.result + 1)) c.index.ensures
    ∙ ap (λ n. with_length (get_or table index c.index.result.now) part (n + 1))
    c.from-length.ensures in
    rw same
    (records_more rs c.args.at index says.task c.seen.result part family.tasks table c.index.result.now
    c.family-family.ensures.is_run.family.makers.apart c.requires.table says.indexed says.says
    c.seen.ensures)

pub returns-in_default : goal.returns-in_default
returns-in_default c =
    records_other c.args.run.now.records c.args.at c.args.run.now.family.tasks c.args.table.now.items
    c.requires.table c.in_default.ensures
