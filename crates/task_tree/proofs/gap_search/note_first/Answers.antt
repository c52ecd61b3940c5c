use Rattle.std.proofs.Common.{◌∙◌, ℕ, sym, ap}
use Rattle.std.proofs.lemmas.Bool.{false≢true}
use Rattle.std.proofs.lemmas.Option.{same_Some}
use Rattle.std.specs.Prelude.{not, is_some}
use Rattle.std.specs.BTreeMap.{get}
use Rattle.ompt_events.proofs.PlaceLemmas.{none_from_test}
use Rattle.task_tree.specs.GapSearch.{pair_cmp}
use Rattle.task_tree.proofs.GapLemmas.{first_new, first_old}
use Rattle.task_tree.proofs.gap_search.note_first.Goals as goal

pub returns-in_ok-insert : goal.returns-in_ok-insert
returns-in_ok-insert c =
    let rs = c.args.trace.now.records in
    first_new rs c.args.at c.in-Some.turn c.args.first.now c.insert.new.self c.requires.first
    (sym c.begun_turn.ensures ∙ c.in-Some.is)
    (sym c.first_begin.ensures
    ∙ none_from_test c.first_begin.result (c.is_none.ensures ∙ ap not c.if-is_none.true))
    c.in_ok-insert.ensures.updates

pub returns-else-is_none : goal.returns-else-is_none
returns-else-is_none c =
    let rs = c.args.trace.now.records in
    first_old rs c.args.at c.args.first.now c.requires.first (λ task turn begins none.
    let same =
    same_Some {A = ℕ × ℕ} c.in-Some.turn (task, turn)
    (sym c.in-Some.is ∙ c.begun_turn.ensures ∙ begins) in
    false≢true
    (sym (ap is_some (c.first_begin.ensures ∙ ap (get pair_cmp c.args.first.now) same ∙ none))
    ∙ c.is_none.ensures ∙ ap not c.if-is_none.false))
