use Rattle.std.proofs.Common.{◌≡◌, ◌∙◌, ℕ, sym, subst, ◌<◌}
use Rattle.std.proofs.lemmas.Option.{same_Some}
use Rattle.ompt_events.specs.Records.{begun_turn}
use Rattle.ompt_events.proofs.PlaceLemmas.{at_get, thread_get}
use Rattle.task_tree.specs.GapSearch.{kept_turn}
use Rattle.task_tree.proofs.GapLemmas.{turn_raised}
use Rattle.task_tree.proofs.gap_search.raise_turn.Goals as goal

pub returns-in_ok-insert : goal.returns-in_ok-insert
returns-in_ok-insert c = λ r stands.
    let rs = c.args.trace.now.records in
    let task = c.in-Some.task in
    let turn = c.in-Some.turn in
    let own : c.thread-thread.result ≡ r.thread =
    same_Some c.thread-thread.result r.thread (sym c.thread-thread.ensures ∙ thread_get rs c.args.at r
    stands) in
    let less : kept_turn c.args.kept.now r.thread task < turn =
    let P : ℕ → Type 0 = λ n. n < turn in
    rw own at (subst P c.kept_turn.ensures c.if-kept_turn-turn.true) in
    turn_raised c.args.kept.now c.insert.new.self r task turn
    (sym (at_get begun_turn rs c.args.at r stands) ∙ sym c.begun_turn.ensures ∙ c.in-Some.is) less
    (rw own at c.in_ok-insert.ensures.updates)
