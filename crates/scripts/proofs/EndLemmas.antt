-- The end of a run: its recorders are closed, and the trace is gathered from them.
use Rattle.std.proofs.Common.{ℕ, ◌≡◌, ◌∙◌, ◌∷◌, [], ◌⊎◌, List, Some, None, Option, map, length, refl, sym}
use Rattle.std.proofs.Common.{ap, subst, inl, inr}
use Rattle.std.specs.Prelude.{All}
use Rattle.std.proofs.lemmas.Option.{none-some}
use Rattle.std.specs.List.Sorted.{IsPermutation}
use Rattle.ompt_events.specs.Traces.{TraceView}
use Rattle.ompt_events.specs.Causes.{IsMadeAgain, entries_in}
use Rattle.credit_ledger.specs.declared.view.Step as seat_step
use Rattle.credit_ledger.specs.Histories.{IsLegal, entries_after}
use Rattle.credit_ledger.specs.Seats.{AreAll, AreClaims, HasCallsOf, claim_of}
use Rattle.scripts.specs.Scripts.{ScriptView, IsScript, IsShortScript}
use Rattle.callbacks.specs.declared.fault.CallFault.{CallFault}
use Rattle.callbacks.specs.Recorders.{RecorderView, IsBacked}
use Rattle.callbacks.specs.Closed.{ClosedView, AreClosed, HasUnusedSeat, thread_of, recorded_by}
use Rattle.callbacks.specs.Gathered.{gathered, BelongTogether, IsWithinLimits, version_of}
use Rattle.callbacks.proofs.ThreadLaws.{threads_numbered, none_on_device}
use Rattle.callbacks.proofs.NestedLaw.{none_nested_where_once, none_misnested}
use Rattle.callbacks.proofs.PairLaw.{none_ahead}
use Rattle.callbacks.proofs.KnownLaw.{none_back}
use Rattle.ompt_events.specs.declared.records.Record.{Record}
use Rattle.scripts.specs.Called.{called, recorded_calls}
use Rattle.scripts.specs.Progress.{thread_records, own_records, without_seen, refused_at}
use Rattle.scripts.specs.Runs.{IsRunOf, IsRunFault}
use Rattle.scripts.proofs.CalledLemmas.{all_recorded}
use Rattle.scripts.specs.Parts.{HasRun, HasStopped, HaveAllEnded, IsEarly}
use Rattle.scripts.specs.Parts.{shares_of, fault_of_stop}
use Rattle.scripts.specs.declared.run_fault.RunFault.TheVariants.{Memory, Thread, Call}
use Rattle.scripts.specs.declared.run_fault.Stop.{Stop}
use Rattle.scripts.specs.declared.run_fault.Stop.TheVariants.{Refused, Ended}
use Rattle.scripts.proofs.GatherLemmas.{gathered_own}
use Rattle.scripts.proofs.CloseLemmas.{own_threads, pairs, of_kind, within_limits, no_ledger_fault}
use Rattle.scripts.specs.HandOvers.{ArePassedOn}
use Rattle.scripts.proofs.HandOverLemmas.{handed_over, made_once}
use Rattle.scripts.proofs.HistoryLemmas.{history_of}
use Rattle.scripts.proofs.PassLemmas.{AreRunBy, passed_on, awaited}
use Rattle.scripts.proofs.TilingLemmas.{entries_apart}
use Rattle.scripts.proofs.RunLemmas.{run_fault, run_whole, all_accepted, all_into}

-- the recorders are closed, with the ledger that this history leaves
pub record AreClosedBy (recorders : List RecorderView) (closed : ClosedView)
    (history : List seat_step.Step) : Type 0 where
  pub are : AreClosed closed
  pub same : IsPermutation (map recorded_by recorders) (map thread_of closed.buffers)
  pub legal : IsLegal history
  pub entries : closed.entries ≡ entries_after history
  pub claims : AreClaims history (map (λ (r : RecorderView). claim_of r.seat) recorders)
  pub calls : HasCallsOf history (map (λ (r : RecorderView). r.seat) recorders)
  pub backed : All (λ (r : RecorderView). IsBacked r.before r.records r.known r.seat) recorders
  pub counted : All HasUnusedSeat recorders → AreAll (shares_of recorders)
      → entries_in (gathered closed.buffers) ≡ length closed.entries

-- the recorders of a run have all shares of the right to enter, and so make all entries
counted : (script : ScriptView) (recorders : List RecorderView) (stop : Option Stop) (closed : ClosedView)
    (history : List seat_step.Step) → HaveAllEnded script recorders stop
    → AreClosedBy recorders closed history → entries_in (gathered closed.buffers) ≡ length closed.entries
counted script recorders stop closed history ended by = by.counted ended.unused ended.shares

-- the fault of the first stop
pub stop_fault : (script : ScriptView) (recorders : List RecorderView) (closed : ClosedView)
    (history : List seat_step.Step) (stop : Stop) → IsScript script.steps → IsShortScript script.steps
    → IsEarly (Some stop) ⊎ HaveAllEnded script recorders (Some stop)
    → AreClosedBy recorders closed history → IsRunFault script (fault_of_stop stop)
stop_fault script recorders closed history (Refused Memory) rules short ended by = tt
stop_fault script recorders closed history (Refused Thread) rules short ended by = tt
stop_fault script recorders closed history (Ended line) rules short ended by = tt
stop_fault script recorders closed history (Refused (Call line fault)) rules short (inl early) by =
    absurd (not_early line fault early)
  where
    not_early : (line : ℕ) (fault : CallFault) → IsEarly (Some (Refused (Call line fault))) → ⊥
    not_early line fault (inl memory) = cc
    not_early line fault (inr thread) = cc
stop_fault script recorders closed history (Refused (Call line fault)) rules short (inr ended) by =
    run_fault script recorders line fault ended
    (λ r at entry among run of accepted makes refused.
    no_ledger_fault script (Some (Refused (Call line fault))) recorders closed history
    r at entry fault ended.each
    ended.apart by.same by.are
    (counted script recorders (Some (Refused (Call line fault))) closed history ended by) short by.entries
    by.claims (λ n i j x y e f apart first second makes also.
    entries_apart script n i j x y e f rules apart first second makes also)
    among run of accepted makes refused)

-- the closed recorders of a run that no stop ends belong together
pub together : (script : ScriptView) (recorders : List RecorderView) (closed : ClosedView)
    (history : List seat_step.Step) → HaveAllEnded script recorders None
    → AreClosedBy recorders closed history → BelongTogether script.nests closed
together script recorders closed history ended by = record {
  of_kind = of_kind script None recorders closed ended.each by.same;
  apart = own_threads recorders closed.buffers ended.apart by.same;
  paired =
      pairs recorders closed ended.apart by.same by.are
      (counted script recorders None closed history ended by);
}

-- and are within the limits of a trace
pub within : (script : ScriptView) (recorders : List RecorderView) (closed : ClosedView)
    (history : List seat_step.Step) → IsShortScript script.steps
    → HaveAllEnded script recorders None → AreClosedBy recorders closed history
    → IsWithinLimits (gathered closed.buffers)
within script recorders closed history short ended by =
    within_limits script None recorders closed ended.each ended.apart by.same short

-- the trace of the closed recorders of a run
pub run_of : (script : ScriptView) (trace : TraceView) (recorders : List RecorderView) (closed : ClosedView)
    (history : List seat_step.Step) → IsScript script.steps
    → HaveAllEnded script recorders None
    → AreClosedBy recorders closed history
    → trace ≡ record { version = version_of script.nests; records = gathered closed.buffers }
    → IsRunOf script trace
run_of script trace recorders closed history rules ended by is = subst (IsRunOf script) (sym is) (record {
  version = refl;
  accepted = accepted;
  records = records;
  calls = λ thread.
      sym (unseen_calls (thread_records (gathered closed.buffers) thread))
      ∙ ap recorded_calls (records thread)
      ∙ all_recorded script thread rules accepted;
  closed = closed;
  are_closed = by.are;
  gathered_from = refl;
  history = history;
  entered = by.entries;
  shared = history_of recorders closed history (record {
    legal = by.legal;
    calls = by.calls;
    backed = by.backed;
    unused = ended.unused;
    shares = ended.shares;
    threads = ended.apart;
    same = by.same;
    are = by.are;
    apart = belong.apart;
  });
  apart = belong.apart;
  paired = belong.paired;
  numbered = threads_numbered closed by.are belong.apart;
  made_once = once;
  outside = none_nested_where_once closed by.are belong.apart once;
  nested = none_misnested closed by.are belong.apart;
  once = belong.paired.once;
  not_ahead = none_ahead closed by.are belong.apart belong.paired;
  on_host = none_on_device closed by.are;
  passed_on = passed;
  awaited = awaited script ended.seats recorders closed history by_recorders;
  handed_over = handed_over script (gathered closed.buffers) rules accepted records passed;
  rising =
      none_back closed by.are belong.apart
      (handed_over script (gathered closed.buffers) rules accepted records passed);
})
  where
    belong : BelongTogether script.nests closed
    belong = together script recorders closed history ended by

    accepted : (at : ℕ) → refused_at script at ≡ None
    accepted = all_accepted script recorders ended

    records : (thread : ℕ) → map without_seen (thread_records (gathered closed.buffers) thread)
        ≡ own_records script (length script.steps) thread
    records =
        gathered_own script recorders closed
        (all_into (HasStopped script None) (HasRun script (length script.steps))
        (λ r has. run_whole script has.at r has.behind has.run) recorders ended.each)
        (λ thread. ended.cared thread) by.same by.are belong.apart

    once : (i : ℕ) → IsMadeAgain (gathered closed.buffers) i → ⊥
    once =
        made_once script (gathered closed.buffers) rules accepted records
        (threads_numbered closed by.are belong.apart)

    by_recorders : AreRunBy script ended.seats recorders closed history
    by_recorders = record {
      accepted = accepted;
      aware = ended.aware refl;
      cared = ended.cared;
      same = by.same;
      are = by.are;
      apart = belong.apart;
      threads = ended.apart;
      claims = by.claims;
    }

    passed : ArePassedOn script.steps (gathered closed.buffers)
    passed = passed_on script ended.seats recorders closed history by_recorders

    unseen_calls : (rs : List Record) → recorded_calls (map without_seen rs) ≡ recorded_calls rs
    unseen_calls [] = refl
    unseen_calls (r ∷ rs) = ap (λ l. called r.body ∷ l) (unseen_calls rs)

pub none_there : {X : Type 0} (o : Option X) → ((x : X) → o ≡ Some x → ⊥) → o ≡ None
none_there None never = refl
none_there (Some x) never = absurd (never x refl)

-- no stop ends the run
pub not_stopped : (script : ScriptView) (recorders : List RecorderView) (stop : Option Stop) → stop ≡ None
    → IsEarly stop ⊎ HaveAllEnded script recorders stop
    → HaveAllEnded script recorders None
not_stopped script recorders stop none (inl (inl memory)) =
    absurd (none-some (Refused Memory) (sym none ∙ memory))
not_stopped script recorders stop none (inl (inr thread)) =
    absurd (none-some (Refused Thread) (sym none ∙ thread))
not_stopped script recorders stop none (inr ended) =
    subst (HaveAllEnded script recorders) none ended
