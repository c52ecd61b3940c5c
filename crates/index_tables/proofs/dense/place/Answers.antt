use Rattle.std.proofs.Common.{◌∙◌, ◌-◌, Some, ap, sym}
use Rattle.std.proofs.lemmas.Bool.{false≢true}
use Rattle.std.proofs.lemmas.List.{length-set}
use Rattle.std.specs.Prelude.{slice_index}
use Rattle.index_tables.proofs.DenseLemmas.{at_distance, slot_there, again_placed, placed_more, placed_all}
use Rattle.index_tables.proofs.DenseLemmas.{apart_placed}
use Rattle.index_tables.proofs.dense.place.Goals as goal

pub returns-then-not-is_none-clause-again : goal.returns-then-not-is_none-clause-again
returns-then-not-is_none-clause-again c =
    let ids = c.args.ids.now in
    let span = c.args.span in
    let n = c.loop-index.index in
    let slots = c.loop-index.slots.items in
    again_placed ids span.least span.places n (slice_index ids n - span.least) slots c.index.result.now
    c.requires.between c.loop-index.invariant.below
    (at_distance ids span.least span.places n c.requires.between c.loop-index-test.true)
    (slot_there ids span.least span.places n slots c.index.result.now c.requires.between
    c.loop-index-test.true c.loop-index.invariant.long c.index.ensures)
    (λ none. false≢true (sym c.if-not-is_none.true ∙ c.is_none.ensures.1 none))

pub loop-index-preserved : goal.loop-index-preserved
loop-index-preserved c =
    let ids = c.args.ids.now in
    let span = c.args.span in
    let n = c.loop-index.index in
    let slots = c.loop-index.slots.items in
    let distance = slice_index ids n - span.least in
    record {
      long = length-set slots distance c.some.result ∙ c.loop-index.invariant.long;
      below =
          rw c.some.ensures
          (placed_more ids span.least n distance slots c.loop-index.invariant.below
          (at_distance ids span.least span.places n c.requires.between c.loop-index-test.true)
          (slot_there ids span.least span.places n slots c.index.result.now c.requires.between
          c.loop-index-test.true c.loop-index.invariant.long c.index.ensures
          ∙ ap Some (c.is_none.ensures.0 c.if-not-is_none.false)));
    }

pub returns-clause-placed : goal.returns-clause-placed
returns-clause-placed c =
    placed_all c.args.ids.now c.args.span.least c.args.span.places c.loop-index.index c.loop-index.slots.items
    c.requires.between c.loop-index.invariant.below c.loop-index-test.false

pub returns-clause-apart : goal.returns-clause-apart
returns-clause-apart c =
    apart_placed c.args.ids.now c.args.span.least c.loop-index.slots.items
    (placed_all c.args.ids.now c.args.span.least c.args.span.places c.loop-index.index
    c.loop-index.slots.items c.requires.between c.loop-index.invariant.below c.loop-index-test.false)
