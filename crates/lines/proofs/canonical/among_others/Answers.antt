use Rattle.std.proofs.lemmas.Option.{IfSome_then}
use Rattle.lines.specs.InFront.{IsRecordInFront}
use Rattle.lines.proofs.canonical.among_others.Goals as goal

pub returns : goal.returns
returns c =
    IfSome_then _ {Q = λ taken. IsRecordInFront c.args.line.now taken.0 taken.1.now} c.members.ensures
    (λ taken is. record { inside = c.in_ok-inside.inside.now; opens = c.in_ok-inside.ensures; is = is })
