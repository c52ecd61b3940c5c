use Rattle.std.proofs.Common.{◌≡◌, ℕ, get_or, Some, ap, sym, ◌∙◌, arith}
use Rattle.scripts.proofs.TallyLemmas.{earlier-has, earlier-lacks}
use Rattle.scripts.proofs.tally.Tally.find.Goals as goal

pub returns-in_default-try_from : goal.returns-in_default-try_from
returns-in_default-try_from c = λ steps tally.
    earlier-lacks steps c.args.named c.in-Some.thread c.in-Some.number 0 c.in-Some.is
    (sym (tally.beyond c.in-Some.thread (omega (arith, c.in_default-try_from.ensures)))) (omega arith)

pub returns-then-number-from : goal.returns-then-number-from
returns-then-number-from c = λ steps tally.
    let (small, same) = c.in-Ok.ensures in
    let count = get_or c.args.self.now.steps c.in-Some.thread 0 in
    let read : c.from-2.result ≡ count =
    c.from-2.ensures ∙ ap (λ (at : ℕ). get_or c.args.self.now.steps at 0) (c.from.ensures ∙ same) in (
      earlier-has steps c.args.named c.in-Some.thread c.in-Some.number count c.in-Some.is
          (tally.counted c.in-Some.thread small) (omega (arith, read, c.if-number-from.true)),
      ap (λ (at : ℕ). Some (at, c.in-Some.number)) same ∙ sym c.in-Some.is,
    )

pub returns-else-number-from : goal.returns-else-number-from
returns-else-number-from c = λ steps tally.
    let (small, same) = c.in-Ok.ensures in
    let count = get_or c.args.self.now.steps c.in-Some.thread 0 in
    let read : c.from-2.result ≡ count =
    c.from-2.ensures ∙ ap (λ (at : ℕ). get_or c.args.self.now.steps at 0) (c.from.ensures ∙ same) in
    earlier-lacks steps c.args.named c.in-Some.thread c.in-Some.number count c.in-Some.is
    (tally.counted c.in-Some.thread small) (omega (arith, read, c.if-number-from.false))
