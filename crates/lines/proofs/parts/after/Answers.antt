use Rattle.std.proofs.Common.{◌+◌, ◌≤◌, length, arith, sym, ◌∙◌}
use Rattle.lines.proofs.TakeLemmas.{same-word, same-half, Takes-front}
use Rattle.lines.proofs.parts.after.Goals as goal

pub words-preserved : goal.words-preserved
words-preserved c =
    let now = c.words.invariant in
    let fits : c.words.at + 8 ≤ length c.as_bytes-text.result.now =
    omega (arith, c.words-test.true, now.within) in
    record {
      within = fits;
      same =
          same-word c.args.rest.now c.as_bytes-text.result.now c.words.at
          (omega (arith, c.if-rest-text.false)) fits (λ i. omega (arith, c.type_inv.rest i))
          (λ i. omega (arith, c.type_inv.text i))
          (sym c.word.ensures ∙ c.if-word.false ∙ c.word-in-words.ensures) now.same;
    }

pub halves-preserved : goal.halves-preserved
halves-preserved c =
    let now = c.halves.invariant in
    let fits : c.halves.at + 4 ≤ length c.as_bytes-text.result.now =
    omega (arith, c.halves-test.true, now.within) in
    record {
      within = fits;
      same =
          same-half c.args.rest.now c.as_bytes-text.result.now c.halves.at
          (omega (arith, c.if-rest-text.false)) fits (λ i. omega (arith, c.type_inv.rest i))
          (λ i. omega (arith, c.type_inv.text i))
          (sym c.half.ensures ∙ c.if-half.false ∙ c.half-in-halves.ensures) now.same;
    }

pub returns : goal.returns
returns c =
    Takes-front c.args.rest.now c.args.text.now c.bytes.at
    (omega (arith, c.bytes-test.false, c.as_bytes-text.ensures.len))
    (rw (← c.as_bytes-text.ensures.value) c.bytes.invariant.same)
