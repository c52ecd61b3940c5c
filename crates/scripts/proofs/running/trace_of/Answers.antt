use Rattle.std.proofs.Common.{◌∙◌, sym, subst, true, false}
use Rattle.callbacks.specs.Gathered.{BelongTogether}
use Rattle.scripts.proofs.RunLemmas.{gather_memory}
use Rattle.scripts.proofs.running.trace_of.Goals as goal
use Rattle.scripts.proofs.running.trace_of.Goals.{then-nests, else-nests}

pub returns-clause-memory : goal.returns-clause-memory
returns-clause-memory c = elim c.if-nests.branch [
  | then-nests w ↦
      let failed = sym w.made-is ∙ c.in-Err.is in
      gather_memory true c.args.closed c.in-Err.fault
      (subst (λ b. BelongTogether b c.args.closed) w.if-nests.true c.requires.together) c.requires.within
      (rw failed at w.gather_version_3-made.ensures.fault)
  | else-nests w ↦
      let failed = sym w.made-is ∙ c.in-Err.is in
      gather_memory false c.args.closed c.in-Err.fault
      (subst (λ b. BelongTogether b c.args.closed) w.if-nests.false c.requires.together) c.requires.within
      (rw failed at w.gather-made.ensures.fault)
]
