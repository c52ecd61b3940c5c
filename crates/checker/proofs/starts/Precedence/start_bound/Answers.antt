use Rattle.std.proofs.Common.{ℕ, sym, subst, arith}
use Rattle.checker.specs.Starts.{IsBound}
use Rattle.checker.proofs.StartLemmas.{bound_start, known_small}
use Rattle.checker.proofs.starts.Precedence.start_bound.Goals as goal

pub overflow_cast-result : goal.overflow_cast-result
overflow_cast-result c =
    let small =
    known_small c.self.inside.file.now.records c.args.at c.self.invariant.reached
    c.self.invariant.file.trace.few_records in
    let is = c.known_after.ensures in
    omega (arith, small, is)

pub returns : goal.returns
returns c =
    let run = c.self.inside.file.now in
    rw (← c.self.view_is)
    (λ index starts.
    let P : ℕ → Type 0 = IsBound run.records c.args.at in
    subst P (sym c.known_after.ensures)
    (bound_start run.records run.family.tasks c.args.at index c.self.invariant.once starts))
