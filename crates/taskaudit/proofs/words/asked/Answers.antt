-- What clap says of its own command, over `command_line`, which that command is.
use Rattle.std.proofs.Common.{◌≡◌, ◌∙◌, ap, sym, subst, true, map}
use Rattle.clap.specs.Words.{App, fault_of, HasKind}
use Rattle.clap.specs.Matches.{has_subcommand}
use Rattle.taskaudit.proofs.CommandLemmas.{number_asked, is_free_line, meets_one, names_job, asks_for}
use Rattle.taskaudit.proofs.CommandLemmas.{asks_of}
use Rattle.taskaudit.specs.Commands.{place_of}
use Rattle.taskaudit.proofs.words.asked.Goals as goal

pub asked_of-requires : goal.asked_of-requires
asked_of-requires g c =
    let met : has_subcommand c.in-Ok.matches ≡ true =
    meets_one _ _ c.in_ok-command.ensures.app c.in_ok-command.ensures.local c.in-Ok.ensures.parsed in
    names_job _ _ c.in_ok-command.ensures.app _ c.in-Ok.ensures.matches
    (c.in-Ok.ensures.kinds (is_free_line _ c.in_ok-command.ensures.app)) met

pub returns-in-Ok-clause-job : goal.returns-in-Ok-clause-job
returns-in-Ok-clause-job g c =
    asks_for _ _ c.in_ok-command.ensures.app _ c.in-Ok.ensures.matches c.asked_of.result.job
    c.asked_of.ensures.job

pub returns-in-Ok-clause-input : goal.returns-in-Ok-clause-input
returns-in-Ok-clause-input g c =
    asks_of _ _ c.in_ok-command.ensures.app _ c.in-Ok.ensures.matches (place_of c.asked_of.result.input)
    c.asked_of.ensures.input

pub returns-in-Ok-clause-number : goal.returns-in-Ok-clause-number
returns-in-Ok-clause-number g c =
    number_asked (map g.S.AsStr.text c.args.words.now) _
    (asks_for _ _ c.in_ok-command.ensures.app _ c.in-Ok.ensures.matches c.asked_of.result.job
    c.asked_of.ensures.job)

pub returns-in-Ok-clause-kinds : goal.returns-in-Ok-clause-kinds
returns-in-Ok-clause-kinds g c =
    sym (ap (λ (a : App). fault_of a (map g.S.AsStr.text c.args.words.now)) c.in_ok-command.ensures.app)
    ∙ c.in-Ok.ensures.kinds (is_free_line _ c.in_ok-command.ensures.app)

pub returns-in-Err-clause-kinds : goal.returns-in-Err-clause-kinds
returns-in-Err-clause-kinds g c =
    subst (λ (a : App). HasKind (fault_of a (map g.S.AsStr.text c.args.words.now)) c.in-Err.error)
    c.in_ok-command.ensures.app
    (c.in-Err.ensures.kinds (is_free_line _ c.in_ok-command.ensures.app))
