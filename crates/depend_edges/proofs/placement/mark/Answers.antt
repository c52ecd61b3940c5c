use Rattle.std.proofs.Common.{◌∙◌, arith, sym}
use Rattle.std.proofs.lemmas.Bool.{false≢true}
use Rattle.std.proofs.lemmas.Option.{none-some, same_Some}
use Rattle.depend_edges.proofs.PlacementLemmas.{marked_other, marked_unlisted, marked_more, together_followed}
use Rattle.depend_edges.proofs.PlacementLemmas.{unfollowed_apart}
use Rattle.depend_edges.proofs.placement.mark.Goals as goal

pub returns-then-not-lists_items : goal.returns-then-not-lists_items
returns-then-not-lists_items c =
    marked_unlisted c.args.run.now.records c.args.at c.args.marks.now.items c.lists_items.result
    c.lists_items.ensures c.if-not-lists_items.true c.requires.marks

pub returns-in_default : goal.returns-in_default
returns-in_default c =
    marked_other c.args.run.now.records c.args.at c.args.marks.now.items
    (λ a is. none-some a (sym c.in_default.is ∙ (c.previous.ensures a).1 is.next)) c.requires.marks

pub belong_together-requires-clause-creation : goal.belong_together-requires-clause-creation
belong_together-requires-clause-creation c =
    let later = ((c.previous.ensures c.in-Some.before).0 c.in-Some.is).later in
    omega (arith, later, c.requires.within)

pub returns-then-belong_together : goal.returns-then-belong_together
returns-then-belong_together c =
    let rs = c.args.run.now.records in
    let before = c.in-Some.before in
    let here =
    together_followed rs before c.args.at (c.belong_together.ensures.0 c.if-belong_together.true)
    ((c.previous.ensures before).0 c.in-Some.is) in
    marked_more rs c.args.at before c.args.marks.now.items
    (λ a is. same_Some before a (sym c.in-Some.is ∙ (c.previous.ensures a).1 is.next)) here
    c.requires.marks

pub returns-else-belong_together : goal.returns-else-belong_together
returns-else-belong_together c =
    let rs = c.args.run.now.records in
    let before = c.in-Some.before in
    marked_other rs c.args.at c.args.marks.now.items
    (unfollowed_apart rs c.args.at before
    (λ a is. same_Some before a (sym c.in-Some.is ∙ (c.previous.ensures a).1 is.next))
    (λ both. false≢true (sym c.if-belong_together.false ∙ c.belong_together.ensures.1 both)))
    c.requires.marks
