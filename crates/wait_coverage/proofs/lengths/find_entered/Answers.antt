use Rattle.std.proofs.Common.{◌≡◌, ◌∙◌, ◌<◌, length, Some, None, arith, ap, sym}
use Rattle.std.specs.Prelude.{replicate, slice_get, option_copied}
use Rattle.ompt_events.specs.Places.{seen_at}
use Rattle.wait_coverage.specs.Lengths.{no_lengths}
use Rattle.wait_coverage.proofs.LengthLemmas.{lengths_start, entry_there}
use Rattle.wait_coverage.proofs.lengths.find_entered.Goals as goal
use Rattle.wait_coverage.proofs.lengths.find_entered.Goals.{in-Some, in_default}

pub loop-index-init : goal.loop-index-init
loop-index-init c =
    let is = c.in_ok-table.ensures ∙ ap (λ n. replicate n no_lengths) c.task_count.ensures.value in
    let start =
    lengths_start c.args.run.now.records (λ k. seen_at c.args.run.now.records k < 0)
    c.args.run.now.family.tasks c.in_ok-table.table.items (λ k below. omega arith) is in
    record { all = start.all; lengths = λ are. start }

pub loop-index-preserved : goal.loop-index-preserved
loop-index-preserved c = elim c.match-entry.branch [
  | in-Some w ↦
      let there : slice_get c.args.ledger.now c.loop-index.index ≡ Some w.in-Some.entry.now =
      sym c.entry.ensures ∙ ap option_copied w.in-Some.is in
      record {
        all = ap (λ t. length t.items) w.table-is ∙ w.note_entry.ensures.all;
        lengths =
            λ are.
            rw w.table-is
            (w.note_entry.ensures.lengths c.args.ledger.now are there
            (c.loop-index.invariant.lengths are));
      }
  | in_default w ↦
      let none : slice_get c.args.ledger.now c.loop-index.index ≡ None =
      sym c.entry.ensures ∙ ap option_copied w.in_default.is in
      let same = c.len-index-end.ensures in
      absurd
      (entry_there c.args.ledger.now c.loop-index.index (omega (arith, same, c.loop-index-test.true))
      none)
]

pub returns-clause-lengths : goal.returns-clause-lengths
returns-clause-lengths c = λ are.
    let same = c.len-index-end.ensures in
    let all : c.loop-index.index ≡ length c.args.ledger.now =
    omega (arith, same, c.loop-index.auto.index-end, c.loop-index-test.false) in
    rw all at (c.loop-index.invariant.lengths are)
