use Rattle.std.proofs.Common.{◌≡◌, ◌∙◌, ◌<◌, length, Some, ap, subst, arith}
use Rattle.std.proofs.lemmas.Option.{slice_get_read}
use Rattle.std.proofs.lemmas.Result.{err_from_is_err_and}
use Rattle.ompt_events.specs.Causes.{entries_in}
use Rattle.ompt_events.proofs.ListLemmas.{get_within}
use Rattle.credit_ledger.specs.TraceLedger.{AreEntered}
use Rattle.credit_ledger.proofs.MakerLemmas.{all_made}
use Rattle.credit_ledger.proofs.TraceLedgerLemmas.{maker_below, maker_makes, may_enter, one_entered, are_all}
use Rattle.credit_ledger.proofs.trace_ledger.ledger_of.Goals as goal
use Rattle.credit_ledger.proofs.trace_ledger.ledger_of.Goals.{in-Some+in_ok-enter, in_default-index}

pub enter-requires-clause-within : goal.enter-requires-clause-within
enter-requires-clause-within c =
    let long : c.len-index-end.result ≡ length c.in-Ok.makers.items =
    omega (arith, c.len-index-end.ensures, c.in-Ok.makers.ok.0) in
    maker_below _ _ _ _ _ _ c.in-Ok.ensures.records long c.loop-index-test.true c.index.ensures c.in-Some.is

pub enter-requires-clause-sound : goal.enter-requires-clause-sound
enter-requires-clause-sound c = λ r stands.
    let long : c.len-index-end.result ≡ length c.in-Ok.makers.items =
    omega (arith, c.len-index-end.ensures, c.in-Ok.makers.ok.0) in
    (maker_makes _ _ _ _ _ _ r c.in-Ok.ensures.is_run.trace c.in-Ok.ensures.records long
    c.loop-index-test.true c.index.ensures c.in-Some.is stands).sound

pub returns-in_err-enter-clause-memory : goal.returns-in_err-enter-clause-memory
returns-in_err-enter-clause-memory c = λ right.
    let long : c.len-index-end.result ≡ length c.in-Ok.makers.items =
    omega (arith, c.len-index-end.ensures, c.in-Ok.makers.ok.0) in
    let rs = c.args.run.now.records in
    let trace = c.in-Ok.ensures.is_run.trace in
    let inside =
    maker_below rs _ _ _ c.in-Some.at _ c.in-Ok.ensures.records long c.loop-index-test.true c.index.ensures
    c.in-Some.is in
    let there = get_within rs c.in-Some.at inside in
    let makes =
    maker_makes rs _ _ _ c.in-Some.at _ there.0 trace c.in-Ok.ensures.records long c.loop-index-test.true
    c.index.ensures c.in-Some.is there.1 in
    let within : c.loop-index.index < entries_in rs =
    omega (arith, c.loop-index-test.true, c.len-index-end.ensures, c.in-Ok.ensures.records.entries) in
    let possible = may_enter rs c.loop-index.ledger c.in-Some.at c.loop-index.index makes.entry trace right
    within (c.loop-index.invariant right) makes.there in
    let memory = c.in_err-enter.ensures.memory makes.entry makes.there.made possible in
    let p = err_from_is_err_and c.from_residual.result c.from_residual.ensures.1 in
    rw (p.1, p.2) memory

pub loop-index-preserved : goal.loop-index-preserved
loop-index-preserved c = λ right.
    let long : c.len-index-end.result ≡ length c.in-Ok.makers.items =
    omega (arith, c.len-index-end.ensures, c.in-Ok.makers.ok.0) in
    let rs = c.args.run.now.records in
    elim c.match-index.branch [
      | in-Some+in_ok-enter w ↦
          let inside =
          maker_below rs _ _ _ w.in-Some.at _ c.in-Ok.ensures.records long c.loop-index-test.true
          c.index.ensures w.in-Some.is in
          let there = get_within rs w.in-Some.at inside in
          let makes =
          maker_makes rs _ _ _ w.in-Some.at _ there.0 c.in-Ok.ensures.is_run.trace c.in-Ok.ensures.records
          long c.loop-index-test.true c.index.ensures w.in-Some.is there.1 in
          one_entered rs c.loop-index.ledger c.match-index.ledger w.in-Some.at c.loop-index.index
          makes.entry (w.ledger-is ∙ w.in_ok-enter.ensures.entered makes.entry makes.there.made)
          (c.loop-index.invariant right) makes.there
      | in_default-index w ↦
          absurd
          (all_made rs c.in-Ok.makers.items c.loop-index.index c.in-Ok.ensures.records right.apart
          right.within
          (slice_get_read _ _ _ _ long c.loop-index-test.true c.index.ensures
          ∙ ap Some w.in_default-index.is))
    ]

pub returns-clause-ledger : goal.returns-clause-ledger
returns-clause-ledger c = λ right.
    let rs = c.args.run.now.records in
    let last : c.loop-index.index ≡ entries_in rs =
    omega (
      arith,
      c.loop-index-test.false,
      c.loop-index.auto.index-end,
      c.len-index-end.ensures,
      c.in-Ok.ensures.records.entries,
    ) in
    are_all rs c.loop-index.ledger right.apart right.within (subst (λ n. AreEntered rs n c.loop-index.ledger)
    last
    (c.loop-index.invariant right))
