use Rattle.std.proofs.Common.{◌≡◌, ◌∙◌, ℕ, Some, length, replicate, set, sym, ap, arith}
use Rattle.std.proofs.lemmas.List.{length-set, length-replicate}
use Rattle.ompt_events.specs.Places.{thread_at}
use Rattle.checker.proofs.BeforeLemmas.{all_threads, earlier_in_thread}
use Rattle.checker.proofs.before.bounds_in_thread.Goals as goal

pub returns-clause-all : goal.returns-clause-all
returns-clause-all c =
    let bounds = c.in_ok-bounds.bounds.items in
    let zeros : bounds ≡ replicate 256 0 = c.in_ok-bounds.ensures.items_if_clones_equal (λ y same. same) in
    let len : length bounds ≡ 256 = ap length zeros ∙ length-replicate {A = ℕ} 256 0 in
    all_threads c.args.run.now.records (set bounds c.from.result c.args.at) c.requires.is_trace
    (length-set bounds c.from.result c.args.at ∙ len)

pub returns-clause-earlier : goal.returns-clause-earlier
returns-clause-earlier c =
    let zeros : c.in_ok-bounds.bounds.items ≡ replicate 256 0 =
    c.in_ok-bounds.ensures.items_if_clones_equal (λ y same. same) in
    let on : thread_at c.args.run.now.records c.args.at ≡ Some c.from.result =
    c.thread.ensures ∙ ap Some (sym c.from.ensures) in
    rw zeros
    (earlier_in_thread c.args.run.now.records c.args.at c.from.result on
    (let low = c.thread.type_inv in let is = c.from.ensures in omega (arith, low, is)))
