use Rattle.std.proofs.Common.{refl}
use Rattle.std.specs.Prelude.{nat_eq}
use Rattle.std.specs.HashMap.{get}
use Rattle.online.proofs.MissedLemmas.{found_under, passed_under}
use Rattle.online.proofs.missed.is_under.Goals as goal

pub returns-then-is_awaited-clause-under : goal.returns-then-is_awaited-clause-under
returns-then-is_awaited-clause-under c = λ yes.
    c.loop-next.invariant.leads c.in-Some.passed c.in-Some.is
    (found_under (get nat_eq c.loop-next.table) (get nat_eq c.args.table.now) c.loop-next.invariant.part
    c.args.awaited c.in-Some.passed (c.if-is_awaited.ensures refl))

pub loop-next-preserved : goal.loop-next-preserved
loop-next-preserved c = record {
  part = λ task kin kept. c.loop-next.invariant.part task kin (c.pass-next.ensures.part task kin kept);
  leads = λ parent is up.
      c.loop-next.invariant.leads c.in-Some.passed c.in-Some.is
      (passed_under (get nat_eq c.loop-next.table) (get nat_eq c.args.table.now) c.loop-next.invariant.part
      c.args.awaited c.in-Some.passed c.pass-next.result c.pass-next.ensures.parent parent is up);
}
