use Rattle.std.proofs.Common.{◌∙◌, Some, sym, ap}
use Rattle.std.proofs.lemmas.Option.{none-some, same_Some}
use Rattle.std.proofs.lemmas.Result.{IfOk-weaker}
use Rattle.checker.specs.Merge.{key_of}
use Rattle.checker.proofs.waiting.Waiting.offer_awaiting.Goals as goal

pub offer_list-requires-clause-key : goal.offer_list-requires-clause-key
offer_list-requires-clause-key c = rw c.requires.waiting.keys c.in-Some.ensures.low

pub returns-in-Some-clause-awaiting : goal.returns-in-Some-clause-awaiting
returns-in-Some-clause-awaiting c =
    let it = c.args.front.now in
    IfOk-weaker c.offer_list.result _ _ (λ _ offered i awaits may.
    let found = c.key_behind.ensures.key i awaits in
    offered (key_of it.run.now.family.tasks it.run.now.records it.suspensions.now.rows.items)
    c.requires.waiting.awaiting i
    (found.2 ∙ ap Some (same_Some found.0 c.in-Some.key (sym found.1 ∙ c.in-Some.is))) may)
    c.offer_list.ensures.offered

pub returns-in-None-clause-awaiting : goal.returns-in-None-clause-awaiting
returns-in-None-clause-awaiting c = λ i awaits may.
    let found = c.key_behind.ensures.key i awaits in
    absurd (none-some found.0 (sym c.in-None.is ∙ found.1))
