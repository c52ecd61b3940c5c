use Rattle.std.proofs.Common.{length, sym, ◌∙◌, ap}
use Rattle.std.proofs.lemmas.Bool.{both_ways, eq-eqb}
use Rattle.credit_ledger.proofs.OverlapLemmas.{overlaps_in_pool-other, overlaps_in_pool-same}
use Rattle.credit_ledger.proofs.overlap.do_overlap_in_pool.Goals as goal

pub returns-then-not-is_same : goal.returns-then-not-is_same
returns-then-not-is_same c =
    sym
    (overlaps_in_pool-other c.args.entry.now.path c.args.other.now.path c.args.entry.now.part
    c.args.other.now.part (sym c.eq-is_same.ensures ∙ c.if-not-is_same.true))

pub returns : goal.returns
returns c =
    c.do_parts_overlap.ensures
    ∙ sym (overlaps_in_pool-same c.args.entry.now.path c.args.other.now.path c.args.entry.now.part
    c.args.other.now.part
    (λ none.
    both_ways c.is_empty.result c.if-is_empty.false
    (c.is_empty.ensures
    ∙ eq-eqb (length c.as_slice.result.now) 0 (ap length c.as_slice.ensures ∙ none)))
    (sym c.eq-is_same.ensures ∙ c.if-not-is_same.false))
