use Rattle.std.proofs.Common.{◌∙◌, sym, ap, codes, option_map}
use Rattle.clap.specs.Words.{found_of}
use Rattle.clap.proofs.WalkLemmas.{first_value-rows}
use Rattle.taskaudit.proofs.CommandLemmas.{of_no_word, of_a_line, of_a_name}
use Rattle.taskaudit.proofs.words.input_of.Goals as goal

pub returns-in-None : goal.returns-in-None
returns-in-None c =
    of_no_word _
    (sym (first_value-rows (found_of c.args.found.now) (codes "file")) ∙ sym c.get_str.ensures
    ∙ ap (λ o. option_map (λ s. s.now) o) c.in-None.is)

pub returns-in-Some-text : goal.returns-in-Some-text
returns-in-Some-text c =
    of_a_line _ c.in-Some-text.field-0.now
    (sym (first_value-rows (found_of c.args.found.now) (codes "file")) ∙ sym c.get_str.ensures
    ∙ ap (λ o. option_map (λ s. s.now) o) c.in-Some-text.is)
    c.in-Some-text.is-text

pub returns-in-Some : goal.returns-in-Some
returns-in-Some c =
    of_a_name _ c.in-Some.name.now
    (sym (first_value-rows (found_of c.args.found.now) (codes "file")) ∙ sym c.get_str.ensures
    ∙ ap (λ o. option_map (λ s. s.now) o) c.in-Some.is)
    c.in-Some.not-text
