use Rattle.std.proofs.Common.{◌≡◌, ◌∙◌, Some}
use Rattle.std.specs.Prelude.{slice_get}
use Rattle.std.proofs.lemmas.Option.{none-some, slice_get_within}
use Rattle.task_tree.proofs.LookupLemmas.{maker_is, maker_none}
use Rattle.task_tree.proofs.family.Family.maker.Goals as goal

pub made_at-requires : goal.made_at-requires
made_at-requires c =
    rw (← c.self.view_is)
    (slice_get_within c.self.inside.tasks c.in-Some.index c.args.task
    ((c.index_of.ensures c.in-Some.index).0 c.in-Some.is))

pub returns-in-Some : goal.returns-in-Some
returns-in-Some c = λ records are place.
    let stands : slice_get c.args.self.now.tasks c.in-Some.index ≡ Some c.args.task =
    rw (← c.self.view_is) ((c.index_of.ensures c.in-Some.index).0 c.in-Some.is) in
    maker_is records c.args.self.now c.args.task c.made_at.result place are
    (c.made_at.ensures records are ∙ stands)

pub returns-in-None : goal.returns-in-None
returns-in-None c = λ records are place.
    let own = rw (← c.self.view_is) at are in (
      λ none.
          absurd (none-some place none),
      λ makes.
          absurd
          (maker_none records _ c.args.task c.index_of.result place own c.index_of.ensures
          c.in-None.is makes),
    )
