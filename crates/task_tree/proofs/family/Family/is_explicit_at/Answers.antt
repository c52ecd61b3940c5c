use Rattle.std.proofs.Common.{◌<◌, length, refl, arith}
use Rattle.std.proofs.lemmas.Option.{slice_get_read, slice_get_within}
use Rattle.task_tree.proofs.LookupLemmas.{explicit_is}
use Rattle.task_tree.proofs.family.Family.is_explicit_at.Goals as goal

pub returns : goal.returns
returns c = λ records are task is.
    let own = rw (← c.self.view_is) at are in
    let is_own = rw (← c.self.view_is) at is in
    let inside = slice_get_within c.self.inside.tasks c.args.index task is_own in
    let aligned = c.self.invariant in
    let within : c.args.index < length c.self.inside.links.items = omega (arith, inside, aligned) in
    rw (c.is_some.ensures, c.get.ensures)
    (explicit_is records _ c.args.index task c.index.result.now own is_own
    (slice_get_read c.self.inside.links.items (length c.self.inside.links.items) c.args.index
    c.index.result.now refl within c.index.ensures))
