use Rattle.std.proofs.Common.{◌≡◌, ◌∙◌, ◌+◌, ◌-◌, ℕ, Option, length, sym, arith}
use Rattle.checker.specs.Merge.{key_of}
use Rattle.checker.proofs.ListsLemmas.{lists_other, no_some}
use Rattle.checker.proofs.lists.lists_of_keys.Goals as goal
use Rattle.checker.proofs.lists.lists_of_keys.Goals.{in-Some, in_default}

pub loop-step-init : goal.loop-step-init
loop-step-init c =
    let run = c.args.run.now in
    let new = rw c.len-count.ensures.value at c.in_ok-lists.ensures.lists in
    record {
      keys = rw (c.task_count.ensures.value, c.slot_count.ensures) at c.in_ok-lists.ensures.keys;
      lists =
          λ from is.
          let end : from ≡ length run.records = omega (arith, is) in
          rw end (new (key_of run.family.tasks run.records c.args.suspensions.now.rows.items));
      rising = rw c.len-count.ensures.value at c.in_ok-lists.ensures.rising;
    }

pub put_first-requires-clause-key : goal.put_first-requires-clause-key
put_first-requires-clause-key c = rw c.loop-step.invariant.keys c.in-Some.ensures.low

pub loop-step-preserved : goal.loop-step-preserved
loop-step-preserved c =
    let rs = c.args.run.now.records in
    let tasks = c.args.run.now.family.tasks in
    let n = length rs in
    let at = c.len-count.result - 1 - c.loop-step.step in
    let inside = c.loop-step-test.true in
    let count = c.len-count.ensures.value in
    let key : ℕ → Option ℕ = key_of tasks rs c.args.suspensions.now.rows.items in
    let read : key at ≡ c.key_at.result = sym c.key_at.ensures.key in
    let was = c.loop-step.invariant.lists (at + 1) (omega (arith, inside, count)) in
    elim c.match-key_at.branch [
      | in-Some w ↦
          let more = w.put_first.ensures.lists key n (read ∙ w.in-Some.is) c.loop-step.invariant.rising was in
          rw w.lists-is (record {
            keys = w.put_first.ensures.keys ∙ c.loop-step.invariant.keys;
            lists = λ from is. let here : from ≡ at = omega (arith, is, inside, count) in rw here more.0;
            rising = more.1;
          })
      | in_default w ↦ rw w.lists-is (record {
        keys = c.loop-step.invariant.keys;
        lists =
            λ from is.
            let here : from ≡ at = omega (arith, is, inside, count) in
            rw here (lists_other key n at _ _ (read ∙ no_some _ w.in_default.not-Some) was);
        rising = c.loop-step.invariant.rising;
      })
    ]
