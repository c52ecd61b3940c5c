use Rattle.std.proofs.Common.{None, length, refl, subst, arith}
use Rattle.std.proofs.lemmas.Option.{slice_get_within, slice_get_read}
use Rattle.task_states.specs.States.{StatesView, IsLastState}
use Rattle.task_states.proofs.StateLemmas.{last_is, last_none}
use Rattle.task_states.proofs.states.States.last.Goals as goal

pub index-requires : goal.index-requires
index-requires c =
    let all = c.self.invariant.all in
    let within =
    slice_get_within c.self.inside.run.family.tasks c.in-Some.index c.args.task
    ((c.index_of.ensures c.in-Some.index).0 c.in-Some.is) in
    omega (arith, all, within)

pub returns-in-Some : goal.returns-in-Some
returns-in-Some c =
    let inside = c.self.inside in
    let stands = (c.index_of.ensures c.in-Some.index).0 c.in-Some.is in
    let all = c.self.invariant.all in
    let within = slice_get_within inside.run.family.tasks c.in-Some.index c.args.task stands in
    let read =
    slice_get_read inside.states.items (length inside.states.items) c.in-Some.index c.index.result.now
    refl (omega (arith, all, within)) c.index.ensures in
    let P : StatesView → Type 0 = λ s. IsLastState s.run.records c.args.task c.index.result.now in
    subst P c.self.view_is
    (last_is _ c.args.task c.in-Some.index c.index.result.now c.self.invariant stands read)

pub returns-in-None : goal.returns-in-None
returns-in-None c =
    let P : StatesView → Type 0 = λ s. IsLastState s.run.records c.args.task None in
    subst P c.self.view_is
    (last_none _ c.args.task c.index_of.result c.self.invariant c.index_of.ensures c.in-None.is)
