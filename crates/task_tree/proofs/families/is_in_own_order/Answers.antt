use Rattle.std.proofs.Common.{◌∙◌, ℕ, sym, subst}
use Rattle.ompt_events.specs.Traces.{IsTraceOf}
use Rattle.ompt_events.specs.Turns.{TellsNoTurns}
use Rattle.ompt_events.proofs.TurnLemmas.{first_version_tells_none, free_of_gaps}
use Rattle.task_tree.proofs.RisingLemmas.{untold_rise}
use Rattle.task_tree.proofs.families.is_in_own_order.Goals as goal

-- a trace of version 1 tells no turns
untold : (c : goal.Then-version-eq1) → TellsNoTurns c.args.trace.now.records
untold c =
    let P : ℕ → Type 0 = λ version. IsTraceOf version c.args.trace.now.records in
    let trace = c.version.ensures.is_trace in
    first_version_tells_none c.args.trace.now.records
    (subst P (sym c.version.ensures.value ∙ c.if-version-eq1.true) trace)

pub returns-then-version-eq1-clause-rises : goal.returns-then-version-eq1-clause-rises
returns-then-version-eq1-clause-rises c = λ _. untold_rise c.args.trace.now.records (untold c)

pub returns-then-version-eq1-clause-gapless : goal.returns-then-version-eq1-clause-gapless
returns-then-version-eq1-clause-gapless c = λ _. free_of_gaps c.args.trace.now.records (untold c)

pub returns-clause-rises : goal.returns-clause-rises
returns-clause-rises c = c.turns_rise.ensures.rises
