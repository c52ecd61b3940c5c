use Rattle.std.proofs.Common.{◌≡◌, ◌∙◌, ◌<◌, Bool, true, false, ℕ, List, Some, length, refl, sym, ap, arith}
use Rattle.std.proofs.Common.{rules}
use Rattle.std.specs.Prelude.{not, is_some, slice_get}
use Rattle.std.proofs.lemmas.Option.{none-some, slice_get_within, slice_get_read}
use Rattle.ompt_events.specs.declared.records.Record.{Record}
use Rattle.ompt_events.specs.Records.{started}
use Rattle.ompt_events.specs.Places.{at}
use Rattle.ompt_events.specs.Tree.{IsExplicit}
use Rattle.ompt_events.specs.Causes.{IsMoved}
use Rattle.ompt_events.proofs.ShownLemmas.{noted, no_more}
use Rattle.task_states.specs.declared.homes.Home.{Home}
use Rattle.task_states.specs.Homes.{home_after, IsExplicitStart}
use Rattle.task_states.proofs.ListingLemmas.{none_yet}
use Rattle.task_states.proofs.HomeLemmas.{explicit_index}
use Rattle.task_states.proofs.MetLemmas.{AreMet, none_met, met_other, met_more, moves_there, all_moves}
use Rattle.task_states.proofs.homes.find_moves.Goals as goal

pub loop-at-init : goal.loop-at-init
loop-at-init c = record {
  homes =
      none_met c.args.run.now.records c.args.run.now.family.tasks c.in_ok-homes.homes.items
      (rw c.task_count.ensures.value at c.in_ok-homes.ensures);
  places = none_yet (IsMoved c.args.run.now.records) c.none-shown.result c.none-shown.ensures;
}

pub loop-at-preserved-in_default : goal.loop-at-preserved-in_default
loop-at-preserved-in_default c =
    let run = c.args.run.now in
    let rs = run.records in
    let i = c.loop-at.at in
    let none = λ (task : ℕ) (starts : at started rs i ≡ Some task) (explicit : IsExplicit rs task).
    let stands = explicit_index rs run.family task c.task_count.ensures.is_run.family explicit in
    none-some stands.0
    (sym c.in_default.is
    ∙ (c.explicit_start.ensures stands.0).1 (record {
      task = task;
      starts = starts;
      explicit = explicit;
      indexed = stands.1;
    })) in
    record {
      homes = met_other rs i run.family.tasks c.loop-at.homes.items c.loop-at.invariant.homes none;
      places =
          no_more (IsMoved rs) i c.loop-at.shown (λ moves. none moves.0 moves.3 moves.2)
          c.loop-at.invariant.places;
    }

-- the table has the index of the task that starts
within : (rs : List Record) (n index : ℕ) (tasks : List ℕ) (homes : List Home)
    → AreMet rs n tasks homes → IsExplicitStart rs tasks n index → index < length homes
within rs n index tasks homes are start =
    let inside = slice_get_within tasks index start.task start.indexed in
    let all = are.all in omega (arith, inside, all)

turned : (a b : Bool) → a ≡ not b → b ≡ not a
turned a true is = ap not (sym is)
turned a false is = ap not (sym is)

pub index-home-requires : goal.index-home-requires
index-home-requires c =
    let inside : c.in-Some.index < length c.loop-at.homes.items =
    within c.args.run.now.records c.loop-at.at c.in-Some.index c.args.run.now.family.tasks
    c.loop-at.homes.items c.loop-at.invariant.homes
    ((c.explicit_start.ensures c.in-Some.index).0 c.in-Some.is) in
    search rules

pub index_mut-requires : goal.index_mut-requires
index_mut-requires c =
    let inside : c.in-Some.index < length c.loop-at.homes.items =
    within c.args.run.now.records c.loop-at.at c.in-Some.index c.args.run.now.family.tasks
    c.loop-at.homes.items c.loop-at.invariant.homes
    ((c.explicit_start.ensures c.in-Some.index).0 c.in-Some.is) in
    search rules

pub loop-at-preserved : goal.loop-at-preserved
loop-at-preserved c =
    let run = c.args.run.now in
    let rs = run.records in
    let i = c.loop-at.at in
    let tasks = run.family.tasks in
    let homes = c.loop-at.homes.items in
    let index = c.in-Some.index in
    let thread = c.thread-thread.result in
    let home = c.index-home.result.now in
    let start = (c.explicit_start.ensures index).0 c.in-Some.is in
    let old : slice_get homes index ≡ Some home =
    slice_get_read homes (length homes) index home refl
    (within rs i index tasks homes c.loop-at.invariant.homes start) c.index-home.ensures in
    let moves : c.is_none-moves.result ≡ not (is_some (home_after home thread c.tells_turns.result)) =
    turned _ _ c.is_none-moves.ensures ∙ ap (λ o. not (is_some o)) c.home_after.ensures in
    record {
      homes =
          rw c.met_home.ensures
          (met_more rs i index thread home tasks homes c.task_count.ensures.is_run.family.makers.apart
          c.loop-at.invariant.homes start c.thread-thread.ensures old);
      places =
          noted (IsMoved rs) i c.is_none-moves.result c.loop-at.shown c.note.new.self
          (rw moves
          (moves_there rs i index thread c.tells_turns.result home tasks homes c.loop-at.invariant.homes
          start c.thread-thread.ensures c.tells_turns.ensures old))
          c.in_ok-note.ensures c.loop-at.invariant.places;
    }

pub returns : goal.returns
returns c =
    let rs = c.args.run.now.records in
    let all : length rs ≡ c.loop-at.at =
    omega (arith, c.loop-at-test.false, c.loop-at.auto.at-end, c.len-at-end.ensures.value) in
    all_moves rs c.loop-at.at c.loop-at.shown all c.loop-at.invariant.places
