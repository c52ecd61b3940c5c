-- What clap reads of the command: each builder changes its own field.
use Rattle.std.proofs.Common.{rules, ◌≡◌, ◌∙◌, ◌||◌, Bool, ap, ap₂, true, false, codes}
use Rattle.std.proofs.lemmas.Result.{IfOk-weaker}
use Rattle.clap.specs.Words.{App, app_of, new_app, with_subcommand}
use Rattle.clap.specs.Simple.{on_top, app_of_fields}
use Rattle.clap.specs.declared.builder.command.Command.TheViews.{out-Command}
use Rattle.taskaudit.specs.Commands.{command_line}
use Rattle.taskaudit.proofs.words.command.Goals as goal

abbrev with_version : App → App
with_version = on_top (λ s. record s { has_version = true })

abbrev without_help : App → App
without_help = on_top (λ s. record s { disable_help_subcommand = true })

abbrev requiring : App → App
requiring = on_top (λ s. record s { subcommand_required = true })

pub returns-clause-app : goal.returns-clause-app
unfolding command_line
returns-clause-app c =
    let plain_is : app_of c.after_help.result ≡ with_version (new_app (codes "taskaudit")) =
    ap app_of_fields c.after_help.ensures ∙ ap app_of_fields c.about.ensures
    ∙ ap app_of_fields c.version.ensures ∙ ap with_version c.new.ensures.app in
    let top_is : app_of c.subcommand_required.result
    ≡ requiring (without_help (with_version (new_app (codes "taskaudit")))) =
    ap app_of_fields c.subcommand_required.ensures
    ∙ ap requiring (ap app_of_fields c.disable_help_subcommand.ensures ∙ ap without_help plain_is) in
    let with_check =
    c.in_ok-subcommand.ensures.shape c.in_ok-check.ensures.local
    ∙ ap₂ with_subcommand top_is c.in_ok-check.ensures.shape in
    let with_order =
    c.in_ok-subcommand-2.ensures.shape c.in_ok-order.ensures.local
    ∙ ap₂ with_subcommand with_check c.in_ok-order.ensures.shape in
    let with_record =
    c.in_ok-subcommand-3.ensures.shape c.in_ok-recording.ensures.local
    ∙ ap₂ with_subcommand with_order c.in_ok-recording.ensures.shape in
    let with_upgrade =
    c.in_ok-subcommand-4.ensures.shape c.in_ok-upgrade.ensures.local
    ∙ ap₂ with_subcommand with_record c.in_ok-upgrade.ensures.shape in
    IfOk-weaker c.subcommand-5.result _ _
    (λ r h.
    h.shape c.in_ok-watch.ensures.local
    ∙ ap₂ with_subcommand with_upgrade c.in_ok-watch.ensures.shape)
    c.subcommand-5.ensures

abbrev either : Bool → Bool → Bool
either x y = x || y

pub returns-clause-local : goal.returns-clause-local
returns-clause-local c =
    let top_is : (out-Command c.subcommand_required.result).has_globals ≡ false = search rules in
    let with_check = c.in_ok-subcommand.ensures.globals ∙ ap₂ either top_is c.in_ok-check.ensures.local in
    let with_order =
    c.in_ok-subcommand-2.ensures.globals ∙ ap₂ either with_check c.in_ok-order.ensures.local in
    let with_record =
    c.in_ok-subcommand-3.ensures.globals ∙ ap₂ either with_order c.in_ok-recording.ensures.local in
    let with_upgrade =
    c.in_ok-subcommand-4.ensures.globals ∙ ap₂ either with_record c.in_ok-upgrade.ensures.local in
    IfOk-weaker c.subcommand-5.result _ _
    (λ r h. h.globals ∙ ap₂ either with_upgrade c.in_ok-watch.ensures.local) c.subcommand-5.ensures
