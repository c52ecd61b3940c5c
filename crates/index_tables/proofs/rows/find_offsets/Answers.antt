use Rattle.std.proofs.Common.{ℕ, ◌∙◌, ◌+◌, [], ◌∷◌, ◌++◌, sym, ap, arith, inl, inr}
use Rattle.std.proofs.lemmas.Bool.{cases_eq}
use Rattle.std.proofs.lemmas.List.{length_push}
use Rattle.std.proofs.lemmas.List.Sums.{sum_by_more}
use Rattle.std.specs.Prelude.{slice_index}
use Rattle.index_tables.proofs.RowLemmas.{read_pushed, read_last}
use Rattle.index_tables.proofs.rows.find_offsets.Goals as goal

pub loop-count-preserved : goal.loop-count-preserved
loop-count-preserved c =
    let old = c.loop-count.offsets.items in
    let end = c.loop-count.end + slice_index c.args.counts.now c.loop-count.count-index in
    let i = c.loop-count.count-index in
    rw c.in_ok-push-2.ensures.items (record {
      all = length_push old end ∙ ap (λ k. k + 1) c.loop-count.invariant.all;
      next = λ index below. elim (cases_eq index i) [
        | inl same ↦
            ap (λ k. slice_index (old ++ end ∷ []) (k + 1)) same
            ∙ read_last old end (i + 1) (sym c.loop-count.invariant.all)
            ∙ ap (λ k. k + slice_index c.args.counts.now i)
            (sym
            (read_pushed old end i (omega (arith, c.loop-count.invariant.all))
            ∙ c.loop-count.invariant.last))
            ∙ ap (λ k. slice_index (old ++ end ∷ []) k + slice_index c.args.counts.now k) (sym same)
        | inr apart ↦
            read_pushed old end (index + 1) (omega (arith, below, apart, c.loop-count.invariant.all))
            ∙ c.loop-count.invariant.next index (omega (arith, below, apart))
            ∙ ap (λ k. k + slice_index c.args.counts.now index)
            (sym (read_pushed old end index (omega (arith, below, apart, c.loop-count.invariant.all))))
      ];
      last = read_last old end (i + 1) (sym c.loop-count.invariant.all);
      total =
          ap (λ k. k + slice_index c.args.counts.now i) c.loop-count.invariant.total
          ∙ sym (sum_by_more (λ (x : ℕ). x) c.args.counts.now i 0 c.loop-count-test.true);
    })
