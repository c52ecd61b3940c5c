use Rattle.std.proofs.Common.{◌∙◌, length, ap, arith}
use Rattle.std.proofs.lemmas.List.{length_push}
use Rattle.task_states.specs.Rows.{row_at}
use Rattle.task_states.proofs.RowLemmas.{row_pushed}
use Rattle.task_states.proofs.rows.reach.Goals as goal

pub room-preserved : goal.room-preserved
room-preserved g c = record {
  same = λ index.
      ap (λ rows. row_at rows index) c.in_ok-push.ensures.items
      ∙ row_pushed c.room.rows.items c.new.result index c.new.ensures.items
      ∙ c.room.invariant.same index;
  few = λ most before less.
      let long = ap length c.in_ok-push.ensures.items ∙ length_push c.room.rows.items c.new.result in
      let past = c.room-test.true in
      omega (arith, long, past, less);
}
