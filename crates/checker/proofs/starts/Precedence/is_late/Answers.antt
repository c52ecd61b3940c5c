use Rattle.std.proofs.Common.{ℕ, ap, subst}
use Rattle.std.proofs.lemmas.Bool.{false≢true}
use Rattle.std.specs.Global.{Vec}
use Rattle.std.specs.Prelude.{option_map}
use Rattle.checker.specs.Starts.{PrecedenceView, AreReady}
use Rattle.checker.proofs.LateLemmas.{none_waits}
use Rattle.checker.proofs.starts.Precedence.is_late.Goals as goal

pub returns-in-None-clause-late : goal.returns-in-None-clause-late
returns-in-None-clause-late c =
    let P : PrecedenceView → Type 0 = λ v. AreReady v.file.records c.args.at in
    let ready =
    subst P c.self.view_is
    (none_waits _ _ c.args.at c.self.invariant
    (ap (option_map (λ (starts : Vec ℕ). starts.items)) c.in-None.is)) in
    ((λ never. absurd (false≢true never)), (λ late. absurd (late.1 (ready c.args.task late.0))))
