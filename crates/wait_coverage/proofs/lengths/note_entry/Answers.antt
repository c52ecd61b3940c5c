use Rattle.std.proofs.Common.{◌∙◌, ◌+◌, get_or, ap, refl, arith}
use Rattle.std.proofs.lemmas.Option.{slice_get_within}
use Rattle.wait_coverage.specs.Lengths.{with_length}
use Rattle.wait_coverage.proofs.LengthLemmas.{entries_more, entry_indexed}
use Rattle.wait_coverage.proofs.lengths.note_entry.Goals as goal

pub index-requires : goal.index-requires
index-requires c =
    let inside =
    slice_get_within c.args.run.now.family.tasks c.in-Some.task c.args.entry.now.task
    ((c.in-Some.ensures c.in-Some.task).0 refl) in
    omega (arith, inside, c.requires.all)

pub index_mut-requires : goal.index_mut-requires
index_mut-requires c =
    let inside =
    slice_get_within c.args.run.now.family.tasks c.in-Some.task c.args.entry.now.task
    ((c.in-Some.ensures c.in-Some.task).0 refl) in
    omega (arith, inside, c.requires.all)

pub returns-in-Some-clause-lengths : goal.returns-in-Some-clause-lengths
returns-in-Some-clause-lengths c = λ entries are there before.
    let rs = c.args.run.now.records in
    let family = c.args.run.now.family in
    let index = c.in-Some.task in
    let e = c.args.entry.now in
    let table = c.args.table.now.items in
    let is_run = c.family-family.ensures.is_run in
    let same =
    c.with.ensures ∙ ap (λ l. with_length l e.part (c.from-length.result + 1)) c.index.ensures
    ∙ ap (λ n. with_length (get_or table index c.index.result.now) e.part (n + 1))
    c.from-length.ensures in
    rw same
    (entries_more rs entries c.args.index index e family.tasks table c.index.result.now is_run.trace
    is_run.family.makers.apart are there ((c.in-Some.ensures index).0 refl) before)

pub returns-in_default-clause-lengths : goal.returns-in_default-clause-lengths
returns-in_default-clause-lengths c = λ entries are there before.
    let rs = c.args.run.now.records in
    let family = c.args.run.now.family in
    let found =
    entry_indexed rs entries c.args.index c.args.entry.now family c.family-family.ensures.is_run.family
    are there in
    absurd (c.in_default.not-Some found.0 ((c.index_of.ensures found.0).1 found.1))
