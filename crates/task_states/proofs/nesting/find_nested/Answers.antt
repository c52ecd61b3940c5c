use Rattle.std.proofs.Common.{◌≡◌, ◌∙◌, ℕ, ◌<◌, List, length, Bool, false, ap, subst}
use Rattle.std.proofs.Common.{arith, rules, inl, inr}
use Rattle.std.proofs.Math.ListN.{set}
use Rattle.std.specs.Prelude.{All}
use Rattle.ompt_events.specs.declared.records.Record.{Record}
use Rattle.ompt_events.specs.declared.cause.Cause.TheVariants.{NestedParallel}
use Rattle.ompt_events.specs.Places.{nests_at}
use Rattle.ompt_events.specs.Causes.{IsNested}
use Rattle.ompt_events.proofs.ShownLemmas.{noted}
use Rattle.ompt_events.proofs.ThreadLemmas.{walk_is}
use Rattle.task_states.specs.Walks.{after_event}
use Rattle.task_states.proofs.ListingLemmas.{none_yet, none_with}
use Rattle.task_states.proofs.NestingLemmas.{roots_none, roots_more, roots_same, roots_read, first_known}
use Rattle.task_states.proofs.NestingLemmas.{forks_nested, begins_nested, nested_cases, nested_forks}
use Rattle.task_states.proofs.NestingLemmas.{root_forks, all_nested, nests_all, free_where_all_nest}
use Rattle.task_states.proofs.nesting.find_nested.Goals as goal

pub returns-then-nests : goal.returns-then-nests
returns-then-nests c =
    let rs = c.args.run.now.records in
    let P : Bool → Type 0 = λ b. All (λ (r : Record). r.nests ≡ b) rs in
    none_with rs NestedParallel c.none-shown.result c.none-shown.ensures
    (free_where_all_nest rs (subst P c.if-nests.true c.nests.ensures))

-- regions may not lie inside others there
flat : (rs : List Record) (nests : Bool) (i : ℕ) → All (λ (r : Record). r.nests ≡ nests) rs → nests ≡ false
    → i < length rs → nests_at rs i ≡ false
flat rs nests i all is within = nests_all rs nests i all within ∙ is

pub loop-at-init : goal.loop-at-init
loop-at-init c = record {
  roots = roots_none c.args.run.now c.in_ok-walks.walks.items c.in_ok-walks.ensures;
  places = none_yet (IsNested c.args.run.now.records) c.none-shown.result c.none-shown.ensures;
}

pub loop-at-preserved-in_default : goal.loop-at-preserved-in_default
loop-at-preserved-in_default c =
    let run = c.args.run.now in
    let i = c.loop-at.at in
    let within : i < length run.records = rw c.len-at-end.ensures.value at c.loop-at-test.true in
    record {
      roots =
          roots_same run i c.loop-at.walks.items c.len-at-end.ensures.is_run within c.in_default.ensures
          c.loop-at.invariant.roots;
      places =
          noted (IsNested run.records) i c.forks_inside-nested.result c.loop-at.shown c.note.new.self (
            λ yes.
                forks_nested run i
                (flat run.records c.nests.result i c.nests.ensures c.if-nests.false within)
                (c.forks_inside-nested.ensures.0 yes),
            λ nested. c.forks_inside-nested.ensures.1 (nested_forks run i c.in_default.ensures nested),
          ) c.in_ok-note.ensures c.loop-at.invariant.places;
    }

pub begins_inside-nested-requires-clause-known : goal.begins_inside-nested-requires-clause-known
begins_inside-nested-requires-clause-known c =
    let low : c.thread.result < 256 = search rules in
    first_known c.args.run.now.family.tasks c.index_mut-walk.result.now.roots _
    (roots_read c.args.run.now c.loop-at.at c.thread.result c.loop-at.walks.items
    c.index_mut-walk.result.now low c.loop-at.invariant.roots c.index_mut-walk.ensures.value)

pub loop-at-preserved : goal.loop-at-preserved
loop-at-preserved c =
    let run = c.args.run.now in
    let i = c.loop-at.at in
    let thread = c.thread.result in
    let event = c.in-Some.event in
    let walks = c.loop-at.walks.items in
    let walk = c.index_mut-walk.result.now in
    let low : thread < 256 = search rules in
    let within : i < length run.records = rw c.len-at-end.ensures.value at c.loop-at-test.true in
    let stands =
    roots_read run i thread walks walk low c.loop-at.invariant.roots c.index_mut-walk.ensures.value in
    record {
      roots =
          roots_more run false i thread event walks (set walks thread c.advance.new.self)
          c.len-at-end.ensures.is_run within
          c.thread.ensures c.in-Some.ensures c.loop-at.invariant.roots
          (ap (set walks thread)
          (c.in_ok-advance.ensures
          ∙ ap (λ w. after_event false w event)
          (walk_is walks thread walk (rw c.loop-at.invariant.roots.all low)
          c.index_mut-walk.ensures.value)));
      places =
          noted (IsNested run.records) i c.begins_inside-nested.result c.loop-at.shown
          c.note-in-loop-at.new.self (
            λ yes.
                begins_nested run i thread walk
                (flat run.records c.nests.result i c.nests.ensures c.if-nests.false within) within
                c.thread.ensures stands (c.begins_inside-nested.ensures.0 yes),
            λ nested. elim (nested_cases run i thread walk c.thread.ensures stands nested) [
              | inl forks ↦ absurd (root_forks run i event c.in-Some.ensures forks)
              | inr begins ↦ c.begins_inside-nested.ensures.1 begins
            ],
          ) c.in_ok-note-2.ensures c.loop-at.invariant.places;
    }

pub returns : goal.returns
returns c =
    let rs = c.args.run.now.records in
    let all : length rs ≡ c.loop-at.at =
    omega (arith, c.loop-at-test.false, c.loop-at.auto.at-end, c.len-at-end.ensures.value) in
    all_nested rs c.loop-at.at c.loop-at.shown all c.loop-at.invariant.places
