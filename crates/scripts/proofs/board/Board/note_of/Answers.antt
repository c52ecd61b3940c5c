use Rattle.std.proofs.Common.{Some, subst, sym}
use Rattle.scripts.specs.Parts.{IsDone}
use Rattle.scripts.proofs.HeardLemmas.{told_done}
use Rattle.scripts.proofs.board.Board.note_of.Goals as goal

pub returns-in-Some-told : goal.returns-in-Some-told
returns-in-Some-told g c =
    let script = g.C.Context.script in
    let seats = g.C.Context.seats in
    let told = c.in-Some-told.told in
    subst (λ a. IsDone script seats a (Some c.again.result.note)) (sym c.in-Some.is)
    (told_done script seats c.in-Some.after.thread told.thread c.in-Some.after.at told.since
    told.note.note.seat.seen c.again.result.note.seat.seen c.if-told-after.true c.if-after-told.true
    c.again.ensures.same told.tells)
