use Rattle.std.proofs.Common.{◌∙◌, sym}
use Rattle.std.proofs.lemmas.Option.{none-some, slice_get_within}
use Rattle.depend_edges.proofs.ItemLemmas.{unmade_items}
use Rattle.depend_edges.proofs.edges.Edges.items_of.Goals as goal

pub items_at-requires : goal.items_at-requires
items_at-requires c =
    slice_get_within c.args.self.now.run.family.tasks c.in-Some.index c.args.task
    (rw c.run.ensures.value at ((c.index_of.ensures c.in-Some.index).0 c.in-Some.is))

pub returns-in-Some : goal.returns-in-Some
returns-in-Some c =
    c.items_at.ensures c.args.task
    (rw c.run.ensures.value at ((c.index_of.ensures c.in-Some.index).0 c.in-Some.is))

pub returns-in-None : goal.returns-in-None
returns-in-None c =
    unmade_items c.args.self.now.run.records c.args.self.now.run.family c.args.task
    c.run.ensures.is_edges.run.family
    (λ index is.
    none-some index (sym c.in-None.is ∙ (c.index_of.ensures index).1 (rw c.run.ensures.value is)))
