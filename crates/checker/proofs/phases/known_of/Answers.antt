use Rattle.std.proofs.Common.{◌∙◌, sym, ap, subst}
use Rattle.task_tree.specs.Own.{OwnView}
use Rattle.teams.specs.Teams.{own_of}
use Rattle.credit_ledger.specs.TraceEntries.{HasRightEntries}
use Rattle.checker.proofs.phases.known_of.Goals as goal

pub returns-clause-known : goal.returns-clause-known
returns-clause-known c =
    let Right : OwnView → Type 0 = λ own. HasRightEntries own.run.records in
    record {
      of_own = ap own_of c.in_ok-known.ensures.teams ∙ c.teams.ensures.value;
      done = c.in_ok-known.ensures.done;
      credit = λ right. c.in_ok-known.ensures.credit (subst Right (sym c.teams.ensures.value) right);
    }
