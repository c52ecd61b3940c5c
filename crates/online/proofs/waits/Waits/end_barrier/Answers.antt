use Rattle.std.proofs.Common.{refl, sym, arith, ◌∙◌}
use Rattle.ompt_events.proofs.PlaceLemmas.{some_of}
use Rattle.online.specs.Kept.{kept_by, teams_by}
use Rattle.online.proofs.BarrierEndLemmas.{member_barrier, initial_barrier}
use Rattle.std.proofs.lemmas.Result.{IfOk-weaker}
use Rattle.online.proofs.waits.Waits.end_barrier.Goals as goal

pub returns-in_default-team-clause-ends : goal.returns-in_default-team-clause-ends
returns-in_default-team-clause-ends c = λ over.
    let (kin, found, root, free, none, most) = c.is_family_over.ensures over in
    λ rs r ends follows waits is.
    initial_barrier rs r c.args.task c.args.seen (kept_by c.args.self.now) (teams_by c.args.self.now) kin ends
    waits is found free none most

pub returns-in-Some-checked_sub-clause-ends : goal.returns-in-Some-checked_sub-clause-ends
returns-in-Some-checked_sub-clause-ends c =
    IfOk-weaker c.end_in.result _ _
    (λ ended so yes rs r ends follows waits is.
    let (kin, found) = some_of (kept_by c.args.self.now c.args.task) (c.in-Some.ensures.found refl) in
    let there = c.in-Some.ensures.some kin found in
    member_barrier rs r c.args.task c.args.seen c.in-Some-team.parallel c.in-Some-checked_sub.number
    (kept_by c.args.self.now) (teams_by c.args.self.now) _ follows (record {
      kin = kin;
      kept = found;
      mine = sym there.team ∙ c.in-Some-team.is;
      last = let e = there.barriers in let f = c.in-Some-checked_sub.ensures in omega (arith, e, f);
      ends = ends;
      waits = waits;
      were = is;
      changes = so yes;
    }))
    c.end_in.ensures
