use Rattle.std.proofs.Common.{◌∙◌, ℕ, List, subst}
use Rattle.taskaudit.specs.Tellings.{print, with_file_text, without_file_text}
use Rattle.taskaudit.proofs.telling.tell_file.Goals as goal

pub returns-in-Some : goal.returns-in-Some
returns-in-Some g c =
    let P : List ℕ → Type 0 = λ bytes. g.C.Console.made c.args.console.now (print bytes) in
    with_file_text c.in-Some.ensures.made
    (subst P (c.as_str.ensures.value ∙ c.in-Some.ensures.text) c.print.ensures.made)

pub returns-in-None : goal.returns-in-None
returns-in-None g c = without_file_text c.in-None.ensures.made c.tell_fault.ensures
