use Rattle.std.proofs.Common.{◌≡◌, ◌∙◌, ◌<◌, length, Bool, true, ap, subst}
use Rattle.std.proofs.Common.{arith, rules}
use Rattle.std.proofs.Math.ListN.{set}
use Rattle.std.specs.Prelude.{All}
use Rattle.ompt_events.specs.declared.records.Record.{Record}
use Rattle.ompt_events.specs.declared.cause.Cause.TheVariants.{RegionNesting}
use Rattle.ompt_events.specs.Causes.{IsMisnested}
use Rattle.ompt_events.proofs.ShownLemmas.{noted}
use Rattle.ompt_events.proofs.ThreadLemmas.{walk_is}
use Rattle.task_states.specs.Walks.{after_event}
use Rattle.task_states.proofs.ListingLemmas.{none_yet, none_with}
use Rattle.task_states.proofs.WalkLemmas.{stands_none, stands_more, stands_still, indexed_read}
use Rattle.task_states.proofs.MisnestingLemmas.{nest_at, free_where_none_nest, current_known}
use Rattle.task_states.proofs.MisnestingLemmas.{begins_misnested, misnested_begins, all_misnested}
use Rattle.task_states.proofs.misnesting.find_misnested.Goals as goal

pub returns-then-not-nests : goal.returns-then-not-nests
returns-then-not-nests c =
    let rs = c.args.run.now.records in
    let P : Bool → Type 0 = λ b. All (λ (r : Record). r.nests ≡ b) rs in
    none_with rs RegionNesting c.none-shown.result c.none-shown.ensures
    (free_where_none_nest rs (subst P c.if-not-nests.true c.nests.ensures))

pub loop-at-init : goal.loop-at-init
loop-at-init c = record {
  walks = stands_none c.args.run.now c.in_ok-walks.walks.items c.in_ok-walks.ensures;
  begun = c.in_ok-begun.ensures;
  places = none_yet (IsMisnested c.args.run.now.records) c.none-shown.result c.none-shown.ensures;
}

pub is_misnested-misnested-requires-clause-known : goal.is_misnested-misnested-requires-clause-known
is_misnested-misnested-requires-clause-known c =
    let low : c.thread-thread.result < 256 = search rules in
    current_known c.args.run.now.family.tasks c.index.result.now _
    (indexed_read c.args.run.now c.loop-at.at c.thread-thread.result c.loop-at.walks.items
    c.index.result.now low c.loop-at.invariant.walks c.index.ensures)

pub loop-at-preserved-in_default : goal.loop-at-preserved-in_default
loop-at-preserved-in_default c =
    let run = c.args.run.now in
    let i = c.loop-at.at in
    let thread = c.thread-thread.result in
    let walk = c.index.result.now in
    let low : thread < 256 = search rules in
    let within : i < length run.records = rw c.len-at-end.ensures.value at c.loop-at-test.true in
    let stands =
    indexed_read run i thread c.loop-at.walks.items walk low c.loop-at.invariant.walks c.index.ensures in
    record {
      walks =
          stands_still run i c.loop-at.walks.items c.len-at-end.ensures.is_run within c.in_default.ensures
          c.loop-at.invariant.walks;
      begun = c.in_ok-note-2.ensures;
      places =
          noted (IsMisnested run.records) i c.is_misnested-misnested.result c.loop-at.shown c.note.new.self (
            λ yes.
                begins_misnested run i thread walk
                (nest_at run.records i c.nests.result c.nests.ensures c.if-not-nests.false within) within
                c.thread-thread.ensures stands (c.is_misnested-misnested.ensures.0 yes),
            λ here.
                c.is_misnested-misnested.ensures.1
                (misnested_begins run i thread walk c.thread-thread.ensures stands here),
          ) c.in_ok-note.ensures c.loop-at.invariant.places;
    }

pub loop-at-preserved : goal.loop-at-preserved
loop-at-preserved c =
    let run = c.args.run.now in
    let i = c.loop-at.at in
    let thread = c.thread-thread.result in
    let event = c.in-Some.event in
    let walks = c.loop-at.walks.items in
    let walk = c.index.result.now in
    let low : thread < 256 = search rules in
    let within : i < length run.records = rw c.len-at-end.ensures.value at c.loop-at-test.true in
    let stands = indexed_read run i thread walks walk low c.loop-at.invariant.walks c.index.ensures in
    let P : Bool → Type 0 = λ b. All (λ (r : Record). r.nests ≡ b) run.records in
    record {
      walks =
          stands_more run true i thread event walks (set walks thread c.advance.new.self)
          c.len-at-end.ensures.is_run (subst P c.if-not-nests.false c.nests.ensures)
          within c.thread-thread.ensures c.in-Some.ensures
          c.loop-at.invariant.walks
          (ap (set walks thread)
          (c.in_ok-advance.ensures
          ∙ ap (λ w. after_event true w event)
          (walk_is walks thread c.index_mut.result.now (rw c.loop-at.invariant.walks.all low)
          c.index_mut.ensures.value)));
      begun = c.in_ok-note-2.ensures;
      places =
          noted (IsMisnested run.records) i c.is_misnested-misnested.result c.loop-at.shown c.note.new.self (
            λ yes.
                begins_misnested run i thread walk
                (nest_at run.records i c.nests.result c.nests.ensures c.if-not-nests.false within) within
                c.thread-thread.ensures stands (c.is_misnested-misnested.ensures.0 yes),
            λ here.
                c.is_misnested-misnested.ensures.1
                (misnested_begins run i thread walk c.thread-thread.ensures stands here),
          ) c.in_ok-note.ensures c.loop-at.invariant.places;
    }

pub returns : goal.returns
returns c =
    let rs = c.args.run.now.records in
    let all : length rs ≡ c.loop-at.at =
    omega (arith, c.loop-at-test.false, c.loop-at.auto.at-end, c.len-at-end.ensures.value) in
    all_misnested rs c.loop-at.at c.loop-at.shown all c.loop-at.invariant.places
