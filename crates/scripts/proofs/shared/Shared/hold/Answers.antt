use Rattle.std.proofs.Common.{subst}
use Rattle.scripts.specs.Parts.{AreValuesAfter}
use Rattle.scripts.proofs.NoteLemmas.{noted_left}
use Rattle.scripts.proofs.shared.Shared.hold.Goals as goal

pub invariant_of-result : goal.invariant_of-result
invariant_of-result g c = record {
  value = subst (AreValuesAfter g.C.Context.script c.args.since) c.in_ok-task.was c.requires.value;
  noted =
      noted_left (λ n. n.note) g.C.Context.script g.C.Context.seats c.args.since c.args.recorder.now
      c.in_ok-used.used c.in_ok-task.task c.note_for-note.result c.requires.aware
      (c.requires.left c.in_ok-used.used c.in_ok-task.task c.in_ok-used.was c.in_ok-task.was)
      c.note_for-note.ensures.told c.note_for-note.ensures.wanted;
}
