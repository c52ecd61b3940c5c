use Rattle.std.proofs.Common.{◌∙◌, take, sym, arith}
use Rattle.ompt_events.proofs.ListLemmas.{contains_get, get_contains}
use Rattle.std.proofs.lemmas.Option.{slice_get_within}
use Rattle.wait_coverage.proofs.CoverageLemmas.{held_more}
use Rattle.teams.proofs.CallLemmas.{read_at}
use Rattle.wait_coverage.proofs.coverage.are_held.Goals as goal

pub loop-index-preserved : goal.loop-index-preserved
loop-index-preserved c =
    let here =
    read_at c.args.spans.now c.loop-index.index c.index-spans-index.result c.loop-index-test.true
    c.index-spans-index.is in
    held_more (take c.args.seen c.args.ledger.now) c.args.cover c.args.spans.now c.loop-index.index
    c.index-spans-index.result c.loop-index.invariant here
    (c.in_ok-is_held.ensures.held c.if-not-branch.false)

pub returns-clause-held : goal.returns-clause-held
returns-clause-held c = λ all span has.
    let found = contains_get c.args.spans.now span has in
    let inside = slice_get_within c.args.spans.now found.0 span found.1 in
    c.loop-index.invariant found.0 span (omega (arith, inside, c.loop-index-test.false)) found.1

pub returns-then-not-branch-clause-all : goal.returns-then-not-branch-clause-all
returns-then-not-branch-clause-all c = λ shallow held.
    let span = c.index-spans-index.result in
    let has =
    get_contains c.args.spans.now span c.loop-index.index
    (read_at c.args.spans.now c.loop-index.index span c.loop-index-test.true
    c.index-spans-index.is) in
    sym c.if-not-branch.true ∙ c.in_ok-is_held.ensures.all (shallow span has) (held span has)
