use Rattle.std.proofs.Common.{sym, ◌∙◌}
use Rattle.online.proofs.EnrollLemmas.{rosters_join}
use Rattle.online.proofs.rosters.Rosters.join.Goals as goal

pub returns : goal.returns
returns c = λ yes rs r m says region number actual are.
    rosters_join rs r c.args.self.now c.take_out-roster.new.self c.keep.new.self m c.args.parallel
    c.args.index c.args.size c.take_out-roster.result c.enroll.new.self
    (record {
      says = says;
      region = region;
      number = number;
      actual = actual;
      are = are;
      lacks = sym c.contains.ensures ∙ c.if-contains.false;
    })
    c.take_out-roster.ensures (c.in_ok-enroll.ensures c.if-not-branch.false) c.in_ok-keep.ensures
