use Rattle.std.proofs.Common.{◌<◌, length, get_or, rules}
use Rattle.credit_ledger.proofs.LockLemmas.{if_ok-map}
use Rattle.teams.proofs.CallLemmas.{read_at}
use Rattle.wait_coverage.proofs.CoverageLemmas.{read_start, member_span_is}
use Rattle.wait_coverage.proofs.coverage.Coverage.member_span.Goals as goal

pub index-requires : goal.index-requires
index-requires c =
    let begun = rw (← c.self.view_is) at c.requires in
    let inside : get_or c.begins.result.now c.args.number 0 < length c.self.inside.numbers.items =
    (read_start _ c.args.member c.args.number c.begins.result.now c.self.invariant begun
    c.begins.ensures).inside in
    search rules

pub span-requires : goal.span-requires
span-requires c =
    let begun = rw (← c.self.view_is) at c.requires in
    rw (← c.self.view_is)
    (read_start _ c.args.member c.args.number c.begins.result.now c.self.invariant begun
    c.begins.ensures).within

pub returns : goal.returns
returns c =
    let begun = rw (← c.self.view_is) at c.requires in
    let starts =
    read_start _ c.args.member c.args.number c.begins.result.now c.self.invariant begun
    c.begins.ensures in
    let to =
    read_at c.self.inside.numbers.items (get_or c.begins.result.now c.args.number 0) c.index.result.now
    starts.inside c.index.ensures in
    rw (← c.self.view_is)
    (if_ok-map
    (λ span each.
    λ id is_id.
    member_span_is _ c.args.member c.args.number (get_or c.begins.result.now c.args.number 0)
    c.index.result.now id span c.self.invariant starts to is_id (each id is_id))
    c.span.result (rw (← c.self.view_is) at c.span.ensures))
