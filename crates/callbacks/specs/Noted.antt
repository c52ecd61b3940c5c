-- What a recorder's next record names.
use Rattle.std.specs.Prelude.{ℕ, ◌≡◌}
use Rattle.ompt_events.specs.declared.records.Body.{Body}
use Rattle.credit_ledger.specs.declared.entry.Entry.{Entry}
use Rattle.callbacks.specs.Recorders.{RecorderView, recorded_alone, IsObserved, IsConcluded}

-- the recorder has one more record with this body, which names `seen`: that of a call that does not use the
-- ledger, of one that looked at it, or of one that put an entry into it
pub data HasOneMore (old : RecorderView) (seen : ℕ) (body : Body) (new : RecorderView) : Type 0 where
  alone : seen ≡ old.known → new ≡ recorded_alone old body → HasOneMore old seen body new
  observed : IsObserved old seen body new → HasOneMore old seen body new
  concluded : (entry : Entry) → IsConcluded old entry seen body new → HasOneMore old seen body new
