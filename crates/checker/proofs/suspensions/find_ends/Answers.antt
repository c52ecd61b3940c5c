use Rattle.std.proofs.Common.{◌-◌, ◌≤◌, ℕ, length, refl, arith}
use Rattle.std.proofs.lemmas.List.{length-replicate}
use Rattle.std.specs.Prelude.{slice_index}
use Rattle.checker.proofs.SuspensionLemmas.{rows_within, ends_start}
use Rattle.checker.proofs.suspensions.find_ends.Goals as goal

pub loop-at-init : goal.loop-at-init
loop-at-init c =
    let rows = c.args.rows.now in
    let some = c.requires.some in
    let total = slice_index rows (length rows - 1) in
    let within : (index : ℕ) → slice_index rows index ≤ total =
    rows_within rows (length rows - 1) total c.requires.rows (omega (arith, some)) refl in
    record {
      within =
          λ index.
          let low = within index in
          rw (c.in_ok-places.ensures, length-replicate total (length c.args.run.now.records)) low;
      ends =
          rw c.in_ok-places.ensures
          (ends_start c.args.run.now.records c.args.run.now.family.tasks rows total within);
    }

pub returns-clause-ends : goal.returns-clause-ends
returns-clause-ends c =
    let end = rw c.len-at-end.ensures.value at c.loop-at-test.false in
    let is = c.loop-at.invariant.ends in
    record { only = is.only; all = λ i slot below behind. is.all i slot (omega (arith, below, end)) behind }
