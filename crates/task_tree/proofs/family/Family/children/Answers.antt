use Rattle.std.proofs.Common.{◌∙◌, sym, arith}
use Rattle.std.proofs.lemmas.Option.{slice_get_within, none-some}
use Rattle.ompt_events.proofs.ListLemmas.{contains_get}
use Rattle.task_tree.proofs.FamilyLemmas.{no_children}
use Rattle.task_tree.proofs.family.Family.children.Goals as goal

pub row-requires : goal.row-requires
row-requires c =
    let inside =
    slice_get_within c.self.inside.tasks c.in-Some.index c.args.task
    ((c.index_of.ensures c.in-Some.index).0 c.in-Some.is) in
    let aligned = c.self.invariant.0 in
    omega (arith, inside, aligned)

pub returns-in-Some : goal.returns-in-Some
returns-in-Some c = λ records are.
    let own = rw (← c.self.view_is) at are in
    c.row.ensures
    ∙ own.children.each c.in-Some.index c.args.task ((c.index_of.ensures c.in-Some.index).0 c.in-Some.is)

pub returns-in-None : goal.returns-in-None
returns-in-None c = λ records are.
    let own = rw (← c.self.view_is) at are in
    sym
    (no_children records _ c.args.task own
    (λ has.
    let at = contains_get c.self.inside.tasks c.args.task has in
    none-some at.0 (sym c.in-None.is ∙ (c.index_of.ensures at.0).1 at.1)))
