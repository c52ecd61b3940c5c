use Rattle.std.proofs.Common.{◌≡◌, ◌∙◌, ℕ, Some, length, ap, subst, arith}
use Rattle.std.specs.Prelude.{slice_get}
use Rattle.task_tree.specs.Runs.{RunView}
use Rattle.task_tree.specs.Own.{OwnView}
use Rattle.teams.specs.Rosters.{IsWholeBefore, AreEnrolled}
use Rattle.teams.proofs.ShortLemmas.{whole_more}
use Rattle.teams.proofs.short.enrol_members.Goals as goal

pub returns-then-lacks_member : goal.returns-then-lacks_member
returns-then-lacks_member c =
    let P : OwnView → Type 0 = λ o. slice_get o.places c.loop-number.number ≡ Some c.place.result in
    record {
      number = c.loop-number.number;
      stands = subst P c.own.ensures.value c.place.ensures.value;
      joins = c.if-lacks_member.ensures.0;
      short = c.if-lacks_member.ensures.1;
      first = c.loop-number.invariant.whole;
    }

pub loop-number-preserved : goal.loop-number-preserved
loop-number-preserved c = record {
  whole =
      whole_more c.args.tables.now.run.records c.loop-number.number c.loop-number.invariant.whole
      c.if-lacks_member.ensures.0;
  enrolled = c.if-lacks_member.ensures.1;
}

pub returns : goal.returns
returns c =
    let rs = c.args.tables.now.run.records in
    let count : c.len-number-end.result ≡ length rs =
    c.len-number-end.ensures.value ∙ ap (λ (r : RunView). length r.records) c.run.ensures.value in
    let last : c.loop-number.number ≡ length rs =
    omega (arith, c.loop-number-test.false, c.loop-number.auto.number-end, count) in
    let P : ℕ → Type 0 = IsWholeBefore rs in
    let Q : ℕ → Type 0 =
    λ n. AreEnrolled rs n c.args.tables.now.run.family.tasks c.loop-number.rosters.items in
    (subst P last c.loop-number.invariant.whole, subst Q last c.loop-number.invariant.enrolled)
