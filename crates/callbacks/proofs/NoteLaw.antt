-- Records before a note was given, and after it was met.
use Rattle.std.proofs.Common.{◌≡◌, ℕ, ◌≤◌, length, Some, arith, ap}
use Rattle.std.specs.Prelude.{slice_get}
use Rattle.ompt_events.specs.declared.records.Record.{Record}
use Rattle.ompt_events.specs.declared.records.Body.{Body}
use Rattle.credit_ledger.specs.declared.view.Call.TheVariants.{Enter, Look}
use Rattle.credit_ledger.specs.Seats.{Extends, told_of}
use Rattle.credit_ledger.proofs.ExtendsLemmas.{reply-known}
use Rattle.callbacks.specs.Logs.{AreRecorded}
use Rattle.callbacks.specs.Recorders.{RecorderView, NoteView, IsBacked, entries_of}
use Rattle.callbacks.specs.Noted.{HasOneMore}
use Rattle.callbacks.specs.Noted as more
use Rattle.callbacks.proofs.KnownLaw.{seen_known, known_within}

-- the next record names no less than the recorder knew
pub next_names : (old new : RecorderView) (seen : ℕ) (body : Body)
    → IsBacked old.before old.records old.known old.seat → HasOneMore old seen body new → old.known ≤ seen
next_names old new seen body backed (more.alone same is) = omega (arith, same)
next_names old new seen body backed (more.observed it) =
    omega (arith, backed.seen, reply-known old.seat new.seat Look seen it.0)
next_names old new seen body backed (more.concluded entry it) =
    omega (arith, backed.seen, reply-known old.seat new.seat (Enter entry) seen it.0)

known_after : (old new : RecorderView) (seen : ℕ) (body : Body) → HasOneMore old seen body new
    → seen ≤ new.known
known_after old new seen body (more.alone same is) =
    omega (arith, same, ap (λ (r : RecorderView). r.known) is, seen_known old.known body)
known_after old new seen body (more.observed it) =
    omega (arith, ap (λ (r : RecorderView). r.known) it.1, seen_known seen body)
known_after old new seen body (more.concluded entry it) =
    omega (arith, ap (λ (r : RecorderView). r.known) it.1, seen_known seen body)

pub kept_by_call : (old new : RecorderView) (seen : ℕ) (body : Body)
    → IsBacked old.before old.records old.known old.seat → HasOneMore old seen body new
    → old.known ≤ new.known
kept_by_call old new seen body backed one =
    omega (arith, next_names old new seen body backed one, known_after old new seen body one)

pub kept_by_meet : (old new : RecorderView) (note : NoteView)
    → IsBacked old.before old.records old.known old.seat
    → Extends (told_of old.seat note.seat) Look new.known new.seat → old.known ≤ new.known
kept_by_meet old new note backed it =
    omega (arith, backed.seen, reply-known (told_of old.seat note.seat) new.seat Look new.known it)

pub ordered : (giver taker new : RecorderView) (note : NoteView) (i seen : ℕ) (a : Record) (body : Body)
    → AreRecorded giver.thread giver.records giver.known → slice_get giver.records i ≡ Some a
    → giver.known ≤ length (entries_of note.seat) → length (entries_of note.seat) ≤ taker.known
    → IsBacked taker.before taker.records taker.known taker.seat → HasOneMore taker seen body new
    → a.seen ≤ seen
ordered giver taker new note i seen a body recorded is given met backed one =
    omega (
      arith,
      seen_known a.seen a.body,
      known_within giver.thread giver.records i a recorded.orderly is,
      recorded.known_rises,
      given,
      met,
      next_names taker new seen body backed one,
    )
