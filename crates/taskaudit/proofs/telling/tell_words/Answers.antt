use Rattle.std.proofs.Common.{rules, ◌≡◌, ◌≢◌, ◌∙◌, sym}
use Rattle.clap.specs.Words.{kind_of}
use Rattle.clap.specs.declared.error.kind.ErrorKind.TheVariants.{OutOfMemory}
use Rattle.taskaudit.specs.Tellings.{shown, wrong, unwritten, out_of_memory}
use Rattle.taskaudit.proofs.telling.tell_words.Goals as goal

pub returns-then-eq : goal.returns-then-eq
returns-then-eq g c =
    let is : kind_of c.args.error ≡ OutOfMemory = search rules in
    out_of_memory is c.tell_fault.ensures

pub returns-then-show_words : goal.returns-then-show_words
returns-then-show_words g c =
    let other : kind_of c.args.error ≢ OutOfMemory = search rules in
    shown other (rw c.if-show_words.true at c.show_words.ensures)

pub returns-then-usage_status-eq0 : goal.returns-then-usage_status-eq0
returns-then-usage_status-eq0 g c =
    unwritten (sym c.usage_status.ensures ∙ c.if-usage_status-eq0.true)
    (rw c.if-show_words.false at c.show_words.ensures) c.tell_fault-then-usage_status-eq0.ensures

pub returns : goal.returns
returns g c =
    let other : kind_of c.args.error ≢ OutOfMemory = search rules in
    wrong other (λ zero. c.if-usage_status-eq0.false (c.usage_status.ensures ∙ zero))
    (rw c.if-show_words.false at c.show_words.ensures)
