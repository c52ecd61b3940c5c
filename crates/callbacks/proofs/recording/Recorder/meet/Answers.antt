use Rattle.std.proofs.Common.{◌≤◌, subst, sym, length}
use Rattle.credit_ledger.specs.Places.{view_of, view_told}
use Rattle.callbacks.specs.Recorders.{NoteView, entries_of}
use Rattle.callbacks.proofs.RecorderLemmas.{known-joined, met, met-known}
use Rattle.callbacks.proofs.recording.Recorder.meet.Goals as goal

pub learn-requires : goal.learn-requires
learn-requires g c =
    let i = c.self.inside in
    known-joined i.past.calls i.log.records i.log.known c.meet-known.result (view_of i.seat)
    (view_told c.note.inside.news) (view_of c.meet-known.new.seat) c.self.invariant c.meet-known.ensures.call

pub invariant_of-self : goal.invariant_of-self
invariant_of-self g c =
    let i = c.self.inside in
    met i.past.calls i.log c.learn.new.self (view_of i.seat) (view_told c.note.inside.news)
    (view_of c.meet-known.new.seat) c.meet-known.result c.self.invariant c.meet-known.ensures.call
    c.learn.ensures.records c.learn.ensures.known

pub returns-clause-knows : goal.returns-clause-knows
returns-clause-knows g c =
    let i = c.self.inside in
    let known =
    met-known (view_of i.seat) (view_told c.note.inside.news) (view_of c.meet-known.new.seat)
    c.meet-known.result c.meet-known.ensures.call in
    subst (λ n. length (entries_of c.args.note.seat) ≤ n) (sym c.learn.ensures.known)
    (subst (λ (v : NoteView). length (entries_of v.seat) ≤ c.meet-known.result) c.note.view_is known)
