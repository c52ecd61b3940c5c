use Rattle.std.proofs.Common.{◌≡◌, ◌<◌, ◌+◌, ◌-◌, arith, length, refl, rules}
use Rattle.std.proofs.lemmas.Option.{slice_get_read}
use Rattle.scripts.proofs.UseLemmas.{told_set}
use Rattle.scripts.proofs.uses.note_next.Goals as goal

pub returns-in-Some-get_mut-clause-told : goal.returns-in-Some-get_mut-clause-told
returns-in-Some-get_mut-clause-told c at =
    let uses = c.args.uses.now.items in
    let x = c.in-Some.used in
    let k = x.since - 1 in
    let old = c.in-Some-get_mut.last.now in
    let found = c.in-Some-get_mut.ensures in
    let within : k < length uses = search rules in
    let since : x.since ≡ k + 1 = omega (arith, c.if-used-gt0.true) in
    rw (c.in-Some.is)
    (told_set uses x c.args.thread k old c.with_next.result
    (slice_get_read uses (length uses) k old refl within found.value) since c.with_next.ensures at)
