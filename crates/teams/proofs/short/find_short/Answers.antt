use Rattle.std.proofs.Common.{◌≡◌, ◌∙◌, ℕ, Option, length, sym, ap, subst}
use Rattle.std.specs.Option.{unwrap_or}
use Rattle.task_tree.specs.Runs.{RunView}
use Rattle.teams.specs.Tables.{tables_own}
use Rattle.teams.specs.Short.{FindsMissed, IsSearched}
use Rattle.teams.proofs.ShortLemmas.{searched}
use Rattle.teams.proofs.short.find_short.Goals as goal

pub returns : goal.returns
returns c =
    let own = tables_own c.args.tables.now in
    let rosters = c.enrol_members-lacking.new.rosters.items in
    let lacking = c.enrol_members-lacking.result in
    let count : c.len.result ≡ length own.run.records =
    c.len.ensures.value ∙ ap (λ (r : RunView). length r.records) c.run.ensures.value in
    let end : c.unwrap_or-end.result ≡ unwrap_or lacking (length own.run.records) =
    c.unwrap_or-end.ensures ∙ ap (unwrap_or lacking) count in
    let P : ℕ → Type 0 = λ e. FindsMissed own e c.find_missed.result in
    let Q : Option ℕ → Type 0 = IsSearched own rosters in
    subst Q (sym c.or.ensures)
    (searched own rosters lacking c.find_missed.result c.run.ensures.are_tables.placed
    c.enrol_members-lacking.ensures (subst P end c.find_missed.ensures))
