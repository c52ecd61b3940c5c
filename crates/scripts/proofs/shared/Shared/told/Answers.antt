use Rattle.scripts.proofs.HeardLemmas.{tells_all}
use Rattle.scripts.proofs.shared.Shared.told.Goals as goal

pub invariant_of-result : goal.invariant_of-result
invariant_of-result g c = record {
  tells =
      tells_all g.C.Context.script g.C.Context.seats c.args.since c.thread-thread.result c.args.recorder.now
      c.note-note.result.note.seat.seen c.requires.aware c.thread-thread.ensures.value
      c.note-note.ensures.told;
}
