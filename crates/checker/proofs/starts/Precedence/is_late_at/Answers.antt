use Rattle.std.proofs.Common.{ℕ, ap, subst}
use Rattle.std.specs.Global.{Vec}
use Rattle.std.specs.Prelude.{option_map}
use Rattle.checker.specs.Starts.{PrecedenceView, AreReady}
use Rattle.checker.proofs.LateLemmas.{none_waits}
use Rattle.checker.proofs.FindingsLemmas.{ready_not}
use Rattle.checker.proofs.starts.Precedence.is_late_at.Goals as goal

pub returns-in-None : goal.returns-in-None
returns-in-None c =
    let P : PrecedenceView → Type 0 = λ v. AreReady v.file.records c.args.at in
    ready_not c.args.self.now.file.records c.args.at
    (subst P c.self.view_is
    (none_waits _ _ c.args.at c.self.invariant
    (ap (option_map (λ (starts : Vec ℕ). starts.items)) c.in-None.is)))
