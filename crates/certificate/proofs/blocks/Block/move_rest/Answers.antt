use Rattle.std.proofs.Common.{◌≡◌, ◌+◌, ◌≤◌, ◌++◌, List, ℕ, length, drop, arith, sym, ap, ◌∙◌, subst, None}
use Rattle.std.specs.Prelude.{slice_range}
use Rattle.certificate.specs.Blocks.{BlockView}
use Rattle.certificate.specs.Windows.{LineFeedAt}
use Rattle.certificate.proofs.WindowLemmas.{length-slice_range, slice_range-parts, slice_range-skip}
use Rattle.certificate.proofs.blocks.Block.move_rest.Goals as goal

pub returns-clause-parts : goal.returns-clause-parts
returns-clause-parts c =
    let w = c.self.inside in
    let n = c.whole_lines-whole.result in
    let all = ap (λ (v : BlockView). v.waiting) c.self.view_is in
    let size =
    length-slice_range w.bytes.items 0 w.end (omega (arith, w.bytes.ok.0, c.self.invariant.within)) in
    let within : n ≤ w.end = omega (arith, size, ap length all, c.whole_lines-whole.ensures.lines.within) in
    let rest : slice_range w.bytes.items n w.end ≡ c.put.new.self.waiting =
    ap (λ (xs : List ℕ). slice_range xs n w.end) (sym c.deref.ensures.value)
    ∙ sym c.in_ok-put.ensures.waiting in
    sym all ∙ slice_range-parts w.bytes.items n w.end within
    ∙ ap (λ (ys : List ℕ). slice_range w.bytes.items 0 n ++ ys) rest

pub returns-clause-none : goal.returns-clause-none
returns-clause-none c =
    let w = c.self.inside in
    let n = c.whole_lines-whole.result in
    let all = ap (λ (v : BlockView). v.waiting) c.self.view_is in
    let size =
    length-slice_range w.bytes.items 0 w.end (omega (arith, w.bytes.ok.0, c.self.invariant.within)) in
    let within : 0 + n ≤ w.end =
    omega (arith, size, ap length all, c.whole_lines-whole.ensures.lines.within) in
    let rest : slice_range w.bytes.items n w.end ≡ c.put.new.self.waiting =
    ap (λ (xs : List ℕ). slice_range xs n w.end) (sym c.deref.ensures.value)
    ∙ sym c.in_ok-put.ensures.waiting in
    let none : 0 + n ≡ n = omega arith in
    let behind =
    ap (drop n) (sym all) ∙ sym (slice_range-skip w.bytes.items 0 w.end n within)
    ∙ ap (λ k. slice_range w.bytes.items k w.end) none ∙ rest in
    subst (λ (ys : List ℕ). LineFeedAt ys None) behind c.whole_lines-whole.ensures.lines.none
