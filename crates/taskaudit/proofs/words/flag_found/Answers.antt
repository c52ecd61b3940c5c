use Rattle.std.proofs.Common.{◌∙◌, sym, ap, option_map}
use Rattle.clap.specs.Words.{found_of}
use Rattle.clap.proofs.WalkLemmas.{first_value-rows}
use Rattle.taskaudit.proofs.CommandLemmas.{given_by_none, given_by_true, given_by_other}
use Rattle.taskaudit.proofs.words.flag_found.Goals as goal

pub returns-in-Some-true : goal.returns-in-Some-true
returns-in-Some-true c =
    given_by_true _ c.in-Some-true.field-0.now
    (sym (first_value-rows (found_of c.args.found.now) c.args.name.now) ∙ sym c.get_str.ensures
    ∙ ap (λ o. option_map (λ s. s.now) o) c.in-Some-true.is)
    c.in-Some-true.is-true

pub returns-in-Some : goal.returns-in-Some
returns-in-Some c =
    given_by_other _ c.in-Some._other.now
    (sym (first_value-rows (found_of c.args.found.now) c.args.name.now) ∙ sym c.get_str.ensures
    ∙ ap (λ o. option_map (λ s. s.now) o) c.in-Some.is)
    c.in-Some.not-true

pub returns-in-None : goal.returns-in-None
returns-in-None c =
    given_by_none _
    (sym (first_value-rows (found_of c.args.found.now) c.args.name.now) ∙ sym c.get_str.ensures
    ∙ ap (λ o. option_map (λ s. s.now) o) c.in-None.is)
