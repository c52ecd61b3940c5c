use Rattle.std.proofs.Common.{◌≡◌, ◌∙◌, Some, sym, ap, arith}
use Rattle.std.proofs.lemmas.Option.{none-some, same_Some}
use Rattle.checker.specs.Schedule.{Awaits}
use Rattle.checker.proofs.LengthLemmas.{awaited_within}
use Rattle.checker.proofs.ListsLemmas.{no_some}
use Rattle.checker.proofs.BeforeLemmas.{raised_none, raised_same}
use Rattle.checker.proofs.before.raise_to_awaited.Goals as goal

pub raise-requires-clause-within : goal.raise-requires-clause-within
raise-requires-clause-within c =
    let within =
    awaited_within c.run-run.result.now.records c.args.at c.in-Some.awaited c.awaited_at.result
    c.awaited_at.ensures c.in-Some.is in
    omega (arith, within)

pub returns-in-Some : goal.returns-in-Some
returns-in-Some c =
    let rs = c.run-run.result.now.records in
    let awaited = c.in-Some.awaited in
    rw (← c.run-run.ensures.value) (raised_same rs (λ k. k ≡ awaited) (Awaits rs c.args.at) c.args.bounds.now
    c.raise.new.bounds
    (λ k waits. same_Some k awaited (sym ((c.awaited_at.ensures k).1 waits) ∙ c.in-Some.is))
    (λ k same. (c.awaited_at.ensures k).0 (c.in-Some.is ∙ ap Some (sym same)))
    c.raise.ensures)

pub returns-in_default : goal.returns-in_default
returns-in_default c =
    let rs = c.run-run.result.now.records in
    rw (← c.run-run.ensures.value) (raised_none rs (Awaits rs c.args.at) c.args.bounds.now
    (λ k waits.
    none-some k
    (sym (no_some c.awaited_at.result c.in_default.not-Some) ∙ (c.awaited_at.ensures k).1 waits)))
