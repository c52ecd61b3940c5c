use Rattle.std.proofs.Common.{◌∙◌, ◌<◌, length, sym, arith, rules}
use Rattle.std.proofs.lemmas.Option.{none-some, slice_get_within}
use Rattle.depend_edges.proofs.LatestLemmas.{child_found, maxima_at_more, latest_at_more}
use Rattle.depend_edges.proofs.latest.take_child.Goals as goal

pub returns-in_default-clause-maxima : goal.returns-in_default-clause-maxima
returns-in_default-clause-maxima c =
    let run = c.args.lengths.now.edges.run in
    let child = c.args.child in
    absurd
    (child_found run.records run.family child.parent child.number child.task
    c.run.ensures.is_edges.run.family c.requires.within c.requires.child
    (λ index is.
    none-some index
    (sym c.in_default.is ∙ (c.index_of.ensures index).1 (rw c.run.ensures.value is))))

pub returns-in_default-clause-latest : goal.returns-in_default-clause-latest
returns-in_default-clause-latest c =
    let run = c.args.lengths.now.edges.run in
    let child = c.args.child in
    absurd
    (child_found run.records run.family child.parent child.number child.task
    c.run.ensures.is_edges.run.family c.requires.within c.requires.child
    (λ index is.
    none-some index
    (sym c.in_default.is ∙ (c.index_of.ensures index).1 (rw c.run.ensures.value is))))

pub items_at-items-requires : goal.items_at-items-requires
items_at-items-requires c =
    slice_get_within c.args.lengths.now.edges.run.family.tasks c.in-Some.index c.args.child.task
    (rw c.run.ensures.value at ((c.index_of.ensures c.in-Some.index).0 c.in-Some.is))

pub index_mut-requires : goal.index_mut-requires
index_mut-requires c =
    let inside =
    slice_get_within c.args.lengths.now.edges.run.family.tasks c.in-Some.index c.args.child.task
    (rw c.run.ensures.value at ((c.index_of.ensures c.in-Some.index).0 c.in-Some.is)) in
    let within : c.in-Some.index < length c.args.latest.now.items =
    omega (arith, inside, c.requires.latest.all) in
    search rules

pub own-requires : goal.own-requires
own-requires c =
    slice_get_within c.args.lengths.now.edges.run.family.tasks c.in-Some.index c.args.child.task
    (rw c.run.ensures.value at ((c.index_of.ensures c.in-Some.index).0 c.in-Some.is))

pub returns-clause-maxima : goal.returns-clause-maxima
returns-clause-maxima c =
    let run = c.args.lengths.now.edges.run in
    let child = c.args.child in
    let is = rw c.run.ensures.value at ((c.index_of.ensures c.in-Some.index).0 c.in-Some.is) in
    maxima_at_more run.records run.family c.args.lengths.now.own child.parent child.number c.in-Some.index
    child.task c.items_at-items.result.now _ _ c.run.ensures.is_edges.run.family c.requires.child is
    (c.items_at-items.ensures child.task is) (rw c.own.ensures at c.in_ok-enter.ensures.entered)
    c.requires.maxima

pub returns-clause-latest : goal.returns-clause-latest
returns-clause-latest c =
    let run = c.args.lengths.now.edges.run in
    let child = c.args.child in
    let is = rw c.run.ensures.value at ((c.index_of.ensures c.in-Some.index).0 c.in-Some.is) in
    latest_at_more run.records run.family c.args.lengths.now.own c.args.latest.now.items child.parent
    child.number c.in-Some.index child.task c.greatest.result c.items_at-items.result.now _
    c.run.ensures.is_edges.run.family c.requires.within c.requires.child is
    (c.items_at-items.ensures child.task is) c.requires.maxima c.greatest.ensures c.requires.latest
