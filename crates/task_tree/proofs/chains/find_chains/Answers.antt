use Rattle.std.proofs.Common.{◌≡◌, ◌-◌, ◌+◌, ◌<◌, ◌∙◌, ℕ, Some, length, ap, arith, rules, set, subst, sym}
use Rattle.std.specs.Prelude.{slice_get}
use Rattle.std.proofs.lemmas.Option.{slice_get_read}
use Rattle.ompt_events.specs.Places.{thread_at}
use Rattle.task_tree.specs.Chains.{AreChainsFrom}
use Rattle.task_tree.proofs.ChainLemmas.{chains_none, chains_more}
use Rattle.task_tree.proofs.chains.find_chains.Goals as goal

pub loop-passed-init : goal.loop-passed-init
loop-passed-init c =
    let rs = c.args.trace.now.records in
    let long = c.len-count.ensures.value in
    let P : ℕ → Type 0 = λ n. AreChainsFrom rs n c.in_ok-firsts.firsts.items c.in_ok-nexts.nexts.items in
    subst P (omega arith)
    (chains_none rs c.in_ok-firsts.firsts.items c.in_ok-nexts.nexts.items (rw long at c.in_ok-firsts.ensures)
    (rw long at c.in_ok-nexts.ensures))

pub loop-passed-preserved : goal.loop-passed-preserved
loop-passed-preserved c =
    let rs = c.args.trace.now.records in
    let long = c.len-count.ensures.value in
    let at = c.len-count.result - 1 - c.loop-passed.passed in
    let firsts = c.loop-passed.firsts.items in
    let nexts = c.loop-passed.nexts.items in
    let thread = c.from-thread.result in
    let within : at < length rs = omega (arith, c.loop-passed-test.true, long) in
    let here : thread_at rs at ≡ Some thread =
    c.thread.ensures ∙ ap Some (sym c.from-thread.ensures) in
    let small : thread < 256 = search rules in
    let P : ℕ → Type 0 = λ n. AreChainsFrom rs n firsts nexts in
    let before =
    subst P
    (let e : length rs - c.loop-passed.passed ≡ at + 1 = omega (arith, c.loop-passed-test.true, long) in e)
    c.loop-passed.invariant in
    let first : slice_get firsts thread ≡ Some c.index.result.now =
    slice_get_read firsts 256 thread c.index.result.now (sym before.threads) small c.index.ensures in
    let R : ℕ → Type 0 = λ n. AreChainsFrom rs n (set firsts thread at) (set nexts at c.index.result.now) in
    subst R (omega (arith, long, c.loop-passed-test.true))
    (chains_more rs at thread c.index.result.now firsts nexts here small before first)

pub returns : goal.returns
returns c =
    let rs = c.args.trace.now.records in
    let long = c.len-count.ensures.value in
    let P : ℕ → Type 0 = λ n. AreChainsFrom rs n c.loop-passed.firsts.items c.loop-passed.nexts.items in
    subst P (omega (arith, c.loop-passed-test.false, long)) c.loop-passed.invariant
