use Rattle.std.proofs.Common.{◌≡◌, ◌∙◌, ◌<◌, ℕ, max, length, ap, sym, arith, rules}
use Rattle.std.specs.Prelude.{fold, take}
use Rattle.std.specs.Option.{option_map_or}
use Rattle.std.proofs.lemmas.List.Sums.{fold_more}
use Rattle.std.proofs.lemmas.Option.{get_or_from_slice_get}
use Rattle.ompt_events.specs.declared.records.Record.{Record}
use Rattle.ompt_events.specs.Records.{begun_turn}
use Rattle.ompt_events.proofs.ListLemmas.{get_within}
use Rattle.task_states.proofs.turn_edges.turn_count.Goals as goal

pub loop-at-preserved : goal.loop-at-preserved
loop-at-preserved c =
    let rs = c.args.run.now.records in
    let i = c.loop-at.at in
    let within : i < length rs = omega (arith, c.loop-at-test.true, c.len-at-end.ensures.value) in
    let there = get_within rs i within in
    let r = there.0 in
    let turn : Record → ℕ = λ q. option_map_or (λ (b : ℕ × ℕ). b.1) (begun_turn q.body) 0 in
    let step : ℕ → Record → ℕ = λ most q. max most (turn q) in
    let most : c.max-most.result ≡ max c.loop-at.most c.begun_turn.result = search rules in
    most ∙ ap (max c.loop-at.most) (c.begun_turn.ensures r there.1)
    ∙ ap (λ n. max n (turn r)) c.loop-at.invariant
    ∙ ap (λ q. max (fold step 0 (take i rs)) (turn q)) (sym (get_or_from_slice_get rs i r r there.1))
    ∙ sym (fold_more step 0 rs i r within)
