use Rattle.std.proofs.Common.{sym, subst}
use Rattle.std.specs.Global.{Vec}
use Rattle.scripts.specs.Parts.{AreUses}
use Rattle.scripts.specs.declared.uses.Uses.{Uses}
use Rattle.scripts.proofs.uses.note_awaited.Goals as goal
use Rattle.scripts.proofs.uses.note_awaited.Goals.{in-Some, in_default}

pub loop-at-preserved : goal.loop-at-preserved
loop-at-preserved c all n are =
    let before = c.loop-at.invariant all n are in
    elim c.match-steps-at.branch [
      | in-Some w ↦
          subst (λ (v : Vec Uses). AreUses all n v.items) (sym w.uses-is)
          (w.note_awaited_one.ensures all n before)
      | in_default w ↦ subst (λ (v : Vec Uses). AreUses all n v.items) (sym w.uses-is) before
    ]
