-- What happens before what is among the records.
use Rattle.std.proofs.Common.{◌≡◌, ℕ, ◌<◌, ◌+◌, List, length, Option, Some, None, true, refl, arith}
use Rattle.std.specs.Prelude.{is_some}
use Rattle.ompt_events.specs.declared.records.Record.{Record}
use Rattle.ompt_events.specs.declared.records.Part.{Part}
use Rattle.ompt_events.specs.Records.{created, begun_turn, suspended_turn, discarded, fulfilled, finish}
use Rattle.ompt_events.specs.Places.{at, seen_at}
use Rattle.ompt_events.specs.HappensBefore.{IsFinishing, thread_order, creation, resumption, discard}
use Rattle.ompt_events.specs.HappensBefore.{fulfilment, IsStep, program, ledger, HappensBefore, step, chain}
use Rattle.ompt_events.proofs.PlaceLemmas.{at_within, seen_within}

-- a record that finishes is one of the records
pub finishing_within : (rs : List Record) (i : ℕ) → IsFinishing rs i → i < length rs
finishing_within rs i finishes = finished (at finish rs i) refl finishes
  where
    finished : (o : Option (ℕ × Part)) → at finish rs i ≡ o → is_some o ≡ true → i < length rs
    finished None e is = cc
    finished (Some p) e is = at_within finish rs i p e

-- the records of a step are records
pub step_from : (rs : List Record) (a b : ℕ) → IsStep rs a b → a < length rs
step_from rs a b (program (thread_order earlier within same)) = omega arith
step_from rs a b (program (creation task creates starts)) = at_within created rs a task creates
step_from rs a b (program (resumption again)) =
    at_within suspended_turn rs a (again.task, again.turn) again.suspends
step_from rs a b (program (discard task creates gone)) = at_within created rs a task creates
step_from rs a b (program (fulfilment task creates done)) = at_within created rs a task creates
step_from rs a b (ledger finishes less) = finishing_within rs a finishes

pub step_to : (rs : List Record) (a b : ℕ) → IsStep rs a b → b < length rs
step_to rs a b (program (thread_order earlier within same)) = within
step_to rs a b (program (creation task creates starts)) = at_within begun_turn rs b (task, 0) starts.starts
step_to rs a b (program (resumption again)) =
    at_within begun_turn rs b (again.task, again.turn + 1) again.resumes
step_to rs a b (program (discard task creates gone)) = at_within discarded rs b task gone
step_to rs a b (program (fulfilment task creates done)) = at_within fulfilled rs b task done
step_to rs a b (ledger finishes less) = seen_within rs b (seen_at rs a) less

pub before_to : (rs : List Record) (a b : ℕ) → HappensBefore rs a b → b < length rs
before_to rs a b (step s) = step_to rs a b s
before_to rs a b (chain {b = mid} first second) = before_to rs mid b second

pub before_from : (rs : List Record) (a b : ℕ) → HappensBefore rs a b → a < length rs
before_from rs a b (step s) = step_from rs a b s
before_from rs a b (chain {b = mid} first second) = before_from rs a mid first
