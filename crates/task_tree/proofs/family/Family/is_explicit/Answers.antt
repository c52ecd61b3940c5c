use Rattle.std.proofs.Common.{◌≡◌, Some}
use Rattle.std.specs.Prelude.{slice_get}
use Rattle.std.proofs.lemmas.Bool.{false≢true}
use Rattle.std.proofs.lemmas.Option.{slice_get_within}
use Rattle.ompt_events.proofs.RecordLemmas.{created_at_made}
use Rattle.task_tree.proofs.LookupLemmas.{maker_none}
use Rattle.task_tree.proofs.family.Family.is_explicit.Goals as goal

pub is_explicit_at-requires : goal.is_explicit_at-requires
is_explicit_at-requires c =
    rw (← c.self.view_is)
    (slice_get_within c.self.inside.tasks c.in-Some.index c.args.task
    ((c.index_of.ensures c.in-Some.index).0 c.in-Some.is))

pub returns-in-Some : goal.returns-in-Some
returns-in-Some c = λ records are.
    let stands : slice_get c.args.self.now.tasks c.in-Some.index ≡ Some c.args.task =
    rw (← c.self.view_is) ((c.index_of.ensures c.in-Some.index).0 c.in-Some.is) in
    c.is_explicit_at.ensures records are c.args.task stands

pub returns-in-None : goal.returns-in-None
returns-in-None c = λ records are.
    let own = rw (← c.self.view_is) at are in (
      λ holds.
          absurd (false≢true holds),
      λ explicit.
          absurd
          (maker_none records _ c.args.task c.index_of.result explicit.0 own c.index_of.ensures
          c.in-None.is (created_at_made c.args.task records explicit.0 explicit.1)),
    )
