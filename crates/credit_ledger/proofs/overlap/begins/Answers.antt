use Rattle.std.proofs.Common.{◌≡◌, sym, ◌∙◌, ap, arith, leb, length}
use Rattle.std.specs.Prelude.{slice_get, unwrap_or}
use Rattle.credit_ledger.specs.Codes.{tree_runs, tree_last}
use Rattle.credit_ledger.proofs.OverlapLemmas.{begins_with-unlike, begins_with-alike, option_eq-itself}
use Rattle.credit_ledger.proofs.overlap.begins.Goals as goal

pub returns-then-ne : goal.returns-then-ne
returns-then-ne c =
    sym (begins_with-unlike c.args.entry.now.path c.args.other.now.path c.args.entry.now.kept
    c.args.other.now.kept c.args.entry.now.part c.args.other.now.part c.runs.index
    (omega (arith, c.runs-test.true, c.count_runs-count.ensures))
    (λ same.
    option_eq-itself c.run.result c.run-in-runs.result (c.run.ensures ∙ same ∙ sym c.run-in-runs.ensures)
    (sym c.ne.ensures ∙ c.if-ne.true)))

pub returns : goal.returns
returns c =
    let all =
    begins_with-alike c.args.entry.now.path c.args.other.now.path c.args.entry.now.kept
    c.args.other.now.kept c.args.entry.now.part c.args.other.now.part
    (λ i less. c.runs.invariant i (omega (arith, less, c.runs-test.false, c.count_runs-count.ensures))) in
    let run : c.unwrap_or.result
    ≡ unwrap_or
    (slice_get (tree_runs c.args.entry.now.path c.args.entry.now.kept c.args.entry.now.part)
    (length (tree_runs c.args.other.now.path c.args.other.now.kept c.args.other.now.part)))
    (tree_last c.args.entry.now.kept c.args.entry.now.part) =
    c.unwrap_or.ensures
    ∙ ap (λ o. unwrap_or o c.last-2.result)
    (c.run-2.ensures
    ∙ ap (slice_get (tree_runs c.args.entry.now.path c.args.entry.now.kept c.args.entry.now.part))
    c.count_runs-count.ensures)
    ∙ ap
    (unwrap_or
    (slice_get (tree_runs c.args.entry.now.path c.args.entry.now.kept c.args.entry.now.part)
    (length (tree_runs c.args.other.now.path c.args.other.now.kept c.args.other.now.part))))
    c.last-2.ensures in
    ap (λ n. leb n c.unwrap_or.result) c.last.ensures
    ∙ ap (leb (tree_last c.args.other.now.kept c.args.other.now.part)) run ∙ sym all
