use Rattle.std.proofs.Common.{◌≡◌, ◌∙◌, ◌<◌, ℕ, Some, length, refl, sym, arith, rules, below_more, false}
use Rattle.std.proofs.lemmas.Bool.{or_parts}
use Rattle.std.specs.Prelude.{◌||◌, slice_get}
use Rattle.std.proofs.lemmas.Option.{none-some, slice_get_within, slice_get_read}
use Rattle.ompt_events.specs.declared.cause.Cause.TheVariants.{Moved}
use Rattle.ompt_events.proofs.FaultLemmas.{malformed_alone}
use Rattle.ompt_events.specs.Records.{started}
use Rattle.ompt_events.specs.Places.{at}
use Rattle.ompt_events.specs.Tree.{IsExplicit}
use Rattle.task_states.proofs.PassLemmas.{not_early, never_more}
use Rattle.task_states.proofs.HomeLemmas.{explicit_index, homes_end, free_of_moved, moves_here, moves_not}
use Rattle.task_states.proofs.HomeLemmas.{homes_more, homes_other, stays_put}
use Rattle.task_states.proofs.homes.find_moved.Goals as goal
use Rattle.task_states.proofs.homes.find_moved.Goals.{in-Some+in-Some-home_after, in_default}

pub index-requires : goal.index-requires
index-requires c =
    let start = (c.explicit_start.ensures c.in-Some.index).0 c.in-Some.is in
    let inside = slice_get_within c.args.run.now.family.tasks c.in-Some.index start.task start.indexed in
    let all = c.loop-at.invariant.homes.all in
    let within : c.in-Some.index < length c.loop-at.homes.items = omega (arith, inside, all) in
    search rules

pub index_mut-requires : goal.index_mut-requires
index_mut-requires c =
    let start = (c.explicit_start.ensures c.in-Some.index).0 c.in-Some.is in
    let inside = slice_get_within c.args.run.now.family.tasks c.in-Some.index start.task start.indexed in
    let all = c.loop-at.invariant.homes.all in
    let within : c.in-Some.index < length c.loop-at.homes.items = omega (arith, inside, all) in
    search rules

pub returns-in_default-home_after-clause-fault : goal.returns-in_default-home_after-clause-fault
returns-in_default-home_after-clause-fault c =
    let rs = c.args.run.now.records in
    let i = c.loop-at.at in
    let homes = c.loop-at.homes.items in
    let index = c.in-Some.index in
    let start = (c.explicit_start.ensures index).0 c.in-Some.is in
    let inside = slice_get_within c.args.run.now.family.tasks index start.task start.indexed in
    let all = c.loop-at.invariant.homes.all in
    let old : slice_get homes index ≡ Some c.index.result.now =
    slice_get_read homes (length homes) index c.index.result.now refl (omega (arith, inside, all))
    c.index.ensures in
    malformed_alone rs Moved i
    (moves_here rs i index c.thread.result c.tells_turns-told.result c.index.result.now
    c.args.run.now.family.tasks homes c.loop-at.invariant.free c.loop-at.invariant.homes start
    c.thread.ensures c.tells_turns-told.ensures old
    (sym c.home_after.ensures ∙ c.in_default-home_after.is))

pub loop-at-preserved : goal.loop-at-preserved
loop-at-preserved c =
    let rs = c.args.run.now.records in
    let i = c.loop-at.at in
    let tasks = c.args.run.now.family.tasks in
    let homes = c.loop-at.homes.items in
    let still = λ (none : c.loop-at.any_early || c.fulfils_early-any_early.result ≡ false).
    let parts = or_parts _ _ none in
    never_more rs i (c.loop-at.invariant.early parts.0)
    (not_early rs i (sym c.fulfils_early-any_early.ensures ∙ parts.1)) in
    elim c.match-explicit_start.branch [
      | in-Some+in-Some-home_after w ↦
          let index = w.in-Some.index in
          let start = (c.explicit_start.ensures index).0 w.in-Some.is in
          let inside = slice_get_within tasks index start.task start.indexed in
          let all = c.loop-at.invariant.homes.all in
          let old : slice_get homes index ≡ Some w.index.result.now =
          slice_get_read homes (length homes) index w.index.result.now refl (omega (arith, inside, all))
          w.index.ensures in
          let goes = sym w.home_after.ensures ∙ w.in-Some-home_after.is in
          record {
            homes =
                rw w.homes-is
                (homes_more rs i index w.thread.result w.tells_turns-told.result w.index.result.now
                w.in-Some-home_after.home tasks homes c.task_count.ensures.is_run.family.once
                c.task_count.ensures.is_run.family.makers.apart c.loop-at.invariant.homes start
                w.thread.ensures w.tells_turns-told.ensures old goes);
            free =
                below_more _ _ c.loop-at.invariant.free
                (moves_not rs i index w.thread.result w.tells_turns-told.result w.index.result.now
                w.in-Some-home_after.home tasks homes c.loop-at.invariant.homes start w.thread.ensures
                w.tells_turns-told.ensures old goes);
            early = still;
          }
      | in_default w ↦
          let none = λ (task : ℕ) (starts : at started rs i ≡ Some task) (explicit : IsExplicit rs task).
          let stands =
          explicit_index rs c.args.run.now.family task c.task_count.ensures.is_run.family explicit in
          none-some stands.0
          (sym w.in_default.is
          ∙ (c.explicit_start.ensures stands.0).1 (record {
            task = task;
            starts = starts;
            explicit = explicit;
            indexed = stands.1;
          })) in
          record {
            homes = rw w.homes-is (homes_other rs i tasks homes c.loop-at.invariant.homes none);
            free = below_more _ _ c.loop-at.invariant.free (stays_put rs i none);
            early = still;
          }
    ]

pub returns-clause-free : goal.returns-clause-free
returns-clause-free c =
    free_of_moved c.args.run.now.records c.loop-at.at c.loop-at.invariant.free
    (rw c.len-at-end.ensures.value at c.loop-at-test.false)

pub invariant_of-result : goal.invariant_of-result
invariant_of-result c =
    let run = c.args.run.now in
    let past = rw c.len-at-end.ensures.value at c.loop-at-test.false in
    rw c.again.ensures (record {
      of_run = c.task_count.ensures.is_run;
      all = c.loop-at.invariant.homes.all;
      run_on =
          homes_end run.records c.loop-at.at run.family.tasks c.loop-at.homes.items
          c.task_count.ensures.is_run.family.once past c.loop-at.invariant.homes;
      early = λ none i task below. c.loop-at.invariant.early none i task (omega (arith, below, past));
    })
