use Rattle.std.proofs.Common.{rules, ◌<◌, ◌^◌}
use Rattle.lines.proofs.LineLemmas.{plain-dep}
use Rattle.lines.proofs.written.take_dependence.Goals as goal

pub returns : goal.returns
returns c =
    let wide : c.in_ok-dep.dep.var < 2 ^ 64 = search rules in
    record { takes = c.in_ok-dep.ensures; plain = plain-dep c.in_ok-dep.dep wide }
