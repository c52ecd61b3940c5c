use Rattle.std.proofs.Common.{◌≡◌, ◌+◌, Some, length, sym, arith}
use Rattle.std.proofs.lemmas.Option.{slice_get_read}
use Rattle.std.specs.Prelude.{slice_get}
use Rattle.task_tree.specs.Chains.{IsFirstFrom}
use Rattle.task_tree.proofs.WalkLemmas.{walk_skip, walk_next}
use Rattle.task_tree.proofs.turn_table.walk_thread.Goals as goal

-- the place of the thread's next record
pub next : (c : goal.After-row_known-in-chain-1)
    → IsFirstFrom c.args.trace.now.records c.args.thread (c.chain.at + 1) c.index-at-in-chain.result.now
next c =
    let chains = c.requires.chains in
    let within = rw c.len-count.ensures.value at c.chain-test.true in
    let at = c.chain.at in
    let there : slice_get c.args.chains.now.nexts.items at ≡ Some c.index-at-in-chain.result.now =
    slice_get_read c.args.chains.now.nexts.items (length c.args.trace.now.records)
    at c.index-at-in-chain.result.now (sym chains.all) within c.index-at-in-chain.ensures in
    chains.goes_on at c.args.thread c.index-at-in-chain.result.now (omega arith) (c.chain.invariant.is within)
    there

pub chain-init : goal.chain-init
chain-init c =
    let chains = c.requires.chains in
    let there : slice_get c.args.chains.now.firsts.items c.args.thread ≡ Some c.index-at.result.now =
    slice_get_read c.args.chains.now.firsts.items 256 c.args.thread c.index-at.result.now
    (sym chains.threads) c.requires.thread c.index-at.ensures in
    let first = chains.begin c.args.thread c.index-at.result.now there in
    record {
      within = first.within;
      is = first.is;
      walk =
          walk_skip c.args.trace.now.records c.args.family.now.tasks c.args.thread 0 c.index-at.result.now
          c.args.walk.now first c.requires.before;
    }

pub chain-smaller : goal.chain-smaller
chain-smaller c =
    let low = (next c).behind in omega (arith, low, c.chain-test.true, c.len-count.ensures.value)

pub chain-preserved : goal.chain-preserved
chain-preserved c =
    let first = next c in
    record {
      within = first.within;
      is = first.is;
      walk =
          walk_skip c.args.trace.now.records c.args.family.now.tasks c.args.thread (c.chain.at + 1)
          c.index-at-in-chain.result.now c.visit.new.walk first
          (c.visit.ensures c.args.thread (c.chain.invariant.is
          (rw c.len-count.ensures.value at c.chain-test.true)));
    }

pub returns : goal.returns
returns c =
    walk_next c.args.trace.now.records c.args.family.now.tasks c.args.thread c.chain.at c.chain.walk
    (omega (arith, c.chain-test.false, c.len-count.ensures.value)) c.chain.invariant.walk
