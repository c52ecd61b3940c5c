use Rattle.std.proofs.Common.{◌<◌, ◌+◌, length, arith, rules}
use Rattle.checker.proofs.SuspensionLemmas.{slot_within, ends_more, ends_other}
use Rattle.checker.proofs.suspensions.note_end.Goals as goal

pub overflow_cast-at : goal.overflow_cast-at
overflow_cast-at c =
    let within = c.requires.at in
    let few = c.requires.is_run.trace.few_records in
    search (rules, within, few)

pub index_mut-requires : goal.index_mut-requires
index_mut-requires c =
    let behind = c.in-Some.ensures in
    let low =
    slot_within c.args.rows.now behind.index (behind.turn + 1) (length c.args.places.now.items) behind.has
    c.requires.within in
    let is = behind.is in
    let inside : c.in-Some.slot < length c.args.places.now.items = omega (arith, low, is) in
    search (rules, inside)

pub returns-in-Some-clause-more : goal.returns-in-Some-clause-more
returns-in-Some-clause-more c =
    let behind = c.in-Some.ensures in
    let low =
    slot_within c.args.rows.now behind.index (behind.turn + 1) (length c.args.places.now.items) behind.has
    c.requires.within in
    let is = behind.is in
    ends_more c.args.run.now.records c.args.at c.in-Some.slot c.args.run.now.family.tasks c.args.rows.now
    c.args.places.now.items c.requires.at c.requires.is_run.family.makers.apart c.requires.rows
    (omega (arith, low, is)) behind c.requires.before

pub returns-in_default-clause-more : goal.returns-in_default-clause-more
returns-in_default-clause-more c =
    ends_other c.args.run.now.records c.args.at c.args.run.now.family.tasks c.args.rows.now
    c.args.places.now.items c.in_default.ensures c.requires.before
