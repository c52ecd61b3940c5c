-- What records do not show that recorders would make.
use Rattle.std.proofs.Common.{◌≡◌, ◌∙◌, ◌==◌, ℕ, Bool, true, false, cond, List, [], ◌∷◌, length, refl}
use Rattle.std.proofs.Common.{sym, ap, arith}
use Rattle.std.specs.Prelude.{map}
use Rattle.std.proofs.lemmas.List.{take_all}
use Rattle.ompt_events.specs.declared.records.Record.{Record}
use Rattle.scripts.specs.Progress.{Values, progress, thread_records, without_seen}
use Rattle.scripts.proofs.ValueSteps.{IsWhole}
use Rattle.scripts.proofs.HandOverLemmas.{AreRecords}
use Rattle.online.specs.Replays.{calls_of, script_of, max_replayed, IsReplayed}

pub without_first : (thread : ℕ) (rs : List Record)
    → map without_seen (thread_records rs thread) ≡ thread_records (map without_seen rs) thread
without_first thread [] = refl
without_first thread (r ∷ rs) = of (r.thread == thread) (without_first thread rs)
  where
    of : (b : Bool) → map without_seen (thread_records rs thread) ≡ thread_records (map without_seen rs)
        thread
        → map without_seen (cond b (r ∷ thread_records rs thread) (thread_records rs thread))
        ≡ cond b (without_seen r ∷ thread_records (map without_seen rs) thread)
        (thread_records (map without_seen rs) thread)
    of true rest = ap (λ l. without_seen r ∷ l) rest
    of false rest = rest

-- the calls of the records are a script, of which no call is refused
pub replayed_whole : (nests : Bool) (rs : List Record) (values : Values) → IsReplayed nests rs values
    → IsWhole (script_of nests rs)
replayed_whole nests rs values replayed = record { rules = replayed.rules; accepted = replayed.accepted }

-- and the records are those of a run of it
pub replayed_records : (nests : Bool) (rs : List Record) (values : Values) → IsReplayed nests rs values
    → AreRecords (script_of nests rs) rs
replayed_records nests rs values replayed thread =
    without_first thread rs
    ∙ ap (λ (l : List Record). thread_records l thread)
    (sym replayed.records
    ∙ ap (λ steps. (progress max_replayed nests steps).records)
    (sym (take_all (length (calls_of rs)) (calls_of rs) (omega arith))))
