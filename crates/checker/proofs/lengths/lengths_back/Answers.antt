use Rattle.std.proofs.Common.{arith}
use Rattle.ompt_events.specs.Causes.{IsBehind}
use Rattle.ompt_events.proofs.ShownLemmas.{none_below, noted}
use Rattle.checker.proofs.LengthLemmas.{known_start}
use Rattle.checker.proofs.BackLemmas.{started_none, all_back}
use Rattle.checker.proofs.lengths.lengths_back.Goals as goal

pub loop-at-init : goal.loop-at-init
loop-at-init c =
    let run = c.run-run.result.now in
    record {
      passed = record {
        known = known_start run.records;
        started =
            started_none run.records run.family.tasks c.task_count.result
            c.in_ok-none_started.field-0.items c.in_ok-none_started.ensures c.task_count.ensures.value;
      };
      shown = rw c.none-shown.ensures (none_below (IsBehind run.records));
    }

pub loop-at-preserved : goal.loop-at-preserved
loop-at-preserved c = record {
  passed = c.is_behind.ensures.passed;
  shown =
      noted (IsBehind c.run-run.result.now.records) c.loop-at.at c.is_behind.result c.loop-at.shown
      c.note.new.self c.is_behind.ensures.behind c.in_ok-note.ensures c.loop-at.invariant.shown;
}

pub returns : goal.returns
returns c =
    rw (← c.run-run.ensures.value)
    (all_back c.run-run.result.now.records c.loop-at.at c.loop-at.shown
    (omega (arith, c.loop-at-test.false, c.loop-at.auto.at-end, c.len-at-end.ensures.value))
    c.loop-at.invariant.shown)
