use Rattle.std.proofs.Common.{◌<◌, length, refl, rules}
use Rattle.std.proofs.lemmas.Option.{slice_get_read}
use Rattle.scripts.proofs.UseLemmas.{uses_set}
use Rattle.scripts.proofs.uses.note_awaited_one.Goals as goal

pub returns-in-Some-get_mut : goal.returns-in-Some-get_mut
returns-in-Some-get_mut c steps n =
    let uses = c.args.uses.now.items in
    let at = c.in-Some.at.now in
    let old = c.in-Some-get_mut.used.now in
    let found = c.in-Some-get_mut.ensures in
    let within : at < length uses = search rules in
    uses_set steps n uses at old c.awaited.result
    (slice_get_read uses (length uses) at old refl within found.value) (c.awaited.ensures steps n at)
