use Rattle.std.proofs.Common.{◌<◌, length, arith}
use Rattle.ompt_events.specs.Causes.{HasTurnGap}
use Rattle.ompt_events.proofs.ListLemmas.{get_within}
use Rattle.ompt_events.proofs.ShownLemmas.{noted}
use Rattle.task_tree.proofs.ArrangeLemmas.{turns_length, turns_index}
use Rattle.task_tree.proofs.GapLemmas.{greatest_more, all_gaps}
use Rattle.task_tree.proofs.gap_search.search_gaps.Goals as goal

pub bounds-turns-at : goal.bounds-turns-at
bounds-turns-at c =
    let long = turns_length c.args.trace.now.records c.args.turns.now c.requires in
    omega (arith, long, c.loop-at-test.true, c.len-at-end.ensures.value)

pub loop-at-preserved : goal.loop-at-preserved
loop-at-preserved c =
    let rs = c.args.trace.now.records in
    let i = c.loop-at.at in
    let within : i < length rs = omega (arith, c.loop-at-test.true, c.len-at-end.ensures.value) in
    let there = get_within rs i within in
    record {
      greatest =
          greatest_more rs i there.0 c.loop-at.greatest c.raise_turn.new.kept there.1
          c.loop-at.invariant.greatest
          (c.in_ok-raise_turn.ensures there.0 there.1);
      places =
          noted (HasTurnGap rs) i c.has_gap.result c.loop-at.shown c.note.new.self
          (c.has_gap.ensures c.in_ok-begins.ensures c.loop-at.invariant.greatest
          (turns_index rs c.args.turns.now i c.requires within)) c.in_ok-note.ensures
          c.loop-at.invariant.places;
    }

pub returns : goal.returns
returns c =
    all_gaps c.args.trace.now.records c.loop-at.at c.loop-at.shown
    (omega (arith, c.loop-at.auto.at-end, c.loop-at-test.false, c.len-at-end.ensures.value))
    c.loop-at.invariant.places
