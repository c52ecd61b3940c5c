use Rattle.std.proofs.Common.{◌∙◌, refl, sym}
use Rattle.std.proofs.lemmas.Option.{same_Some}
use Rattle.ompt_events.specs.Records.{begun_turn, told_turns}
use Rattle.ompt_events.proofs.ListLemmas.{get_within}
use Rattle.ompt_events.proofs.PlaceLemmas.{at_get, thread_get}
use Rattle.task_tree.specs.declared.gap_search.Start.{Start}
use Rattle.task_tree.proofs.GapLemmas.{other_gap, start_gap}
use Rattle.task_tree.proofs.gap_search.has_gap.Goals as goal

pub returns-then-told-turn : goal.returns-then-told-turn
returns-then-told-turn c begins greatest is =
    let rs = c.args.trace.now.records in
    let (r, stands) = get_within rs c.args.at c.requires in (
      λ yes.
          other_gap rs c.args.at c.args.turn r c.in-Some.told stands
          (sym (at_get told_turns rs c.args.at r stands) ∙ sym c.told_turns.ensures ∙ c.in-Some.is)
          c.if-told-turn.true is,
      λ gap. refl,
    )

pub returns : goal.returns
returns c begins greatest is =
    let rs = c.args.trace.now.records in
    let there = get_within rs c.args.at c.requires in
    let r = there.0 in
    let stands = there.1 in
    let start : Start = record {
      at = c.args.at;
      thread = c.thread.result;
      task = c.in-Some-begun_turn.task;
      turn = c.in-Some-begun_turn.next;
    } in
    let wrong = c.is_wrong.ensures rs begins greatest in
    let gap =
    start_gap rs r c.in-Some.told start stands
    (sym (at_get told_turns rs c.args.at r stands) ∙ sym c.told_turns.ensures ∙ c.in-Some.is)
    (c.if-told-turn.false ∙ is)
    (same_Some r.thread c.thread.result (sym (thread_get rs c.args.at r stands) ∙ c.thread.ensures))
    (sym (at_get begun_turn rs c.args.at r stands) ∙ sym c.begun_turn.ensures ∙ c.in-Some-begun_turn.is) in
    (λ yes. gap.0 (wrong.0 yes), λ has. wrong.1 (gap.1 has))
