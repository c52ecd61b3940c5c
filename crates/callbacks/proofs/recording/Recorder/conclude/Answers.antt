use Rattle.std.proofs.Common.{◌≡◌, ◌≤◌, subst, sym, length, Some}
use Rattle.ompt_events.specs.declared.records.Record.{Record}
use Rattle.credit_ledger.specs.declared.view.Call.TheVariants.{Enter}
use Rattle.credit_ledger.specs.Places.{seat_id, view_of}
use Rattle.callbacks.specs.Recorders.{RecorderView, entry_by}
use Rattle.callbacks.proofs.RecorderLemmas.{known-below, concluded, looked-again, refused-late, small-known}
use Rattle.std.proofs.lemmas.Result.{err_from_is_err_and}
use Rattle.callbacks.proofs.recording.Recorder.conclude.Goals as goal

pub push-requires-clause-rises : goal.push-requires-clause-rises
push-requires-clause-rises g c =
    let i = c.self.inside in
    subst (λ k. k ≤ c.in_ok-index.index) (sym c.reserve.ensures.kept.known)
    (known-below i.past.calls i.log.records i.log.known c.in_ok-index.index (view_of i.seat)
    (view_of c.enter.new.seat) (Enter c.args.entry) c.self.invariant c.in_ok-index.ensures.entered)

pub push-requires-clause-small : goal.push-requires-clause-small
push-requires-clause-small g c =
    small-known (view_of c.self.inside.seat) (view_of c.enter.new.seat) c.args.entry c.in_ok-index.index
    c.args.body c.in_ok-index.ensures.entered

pub invariant_of-self-2 : goal.invariant_of-self-2
invariant_of-self-2 g c =
    let i = c.self.inside in
    let r : Record = record {
      thread = c.reserve.new.self.thread;
      nests = c.reserve.new.self.nests;
      seq = length c.reserve.new.self.records;
      seen = c.in_ok-index.index;
      body = c.args.body;
    } in
    let makes =
    subst (λ (v : RecorderView). entry_by v.thread c.args.body ≡ Some c.args.entry) (sym c.self.view_is)
    c.requires.makes in
    concluded i.past.calls i.log c.reserve.new.self c.push.new.self (view_of i.seat)
    (view_of c.enter.new.seat) r c.args.entry c.self.invariant c.reserve.ensures.kept
    c.in_ok-index.ensures.entered makes c.reserve.ensures.kept.thread c.push.ensures.records
    c.push.ensures.known

pub invariant_of-self-in_err-index : goal.invariant_of-self-in_err-index
invariant_of-self-in_err-index g c =
    let i = c.self.inside in
    let looked = c.in_err-index.ensures.looked in
    looked-again i.past.calls i.log c.reserve.new.self (view_of i.seat) (view_of c.enter.new.seat) looked.0
    c.self.invariant c.reserve.ensures.kept looked.1

pub returns-in_err-index-clause-fault : goal.returns-in_err-index-clause-fault
returns-in_err-index-clause-fault g c =
    let i = c.self.inside in
    let p = err_from_is_err_and c.from_residual-in_err-index.result c.from_residual-in_err-index.ensures.1 in
    let looked = c.in_err-index.ensures.looked in
    rw (p.1, p.2) (refused-late c.args.self.now i.log c.reserve.new.self (seat_id i.seat)
    (seat_id c.enter.new.seat) i.past.calls (view_of i.seat) (view_of c.enter.new.seat)
    c.args.entry looked.0 c.in_err-index.field-0.0 c.self.view_is c.reserve.ensures.kept c.enter.ensures.seat
    looked.1 c.in_err-index.ensures.fault)
