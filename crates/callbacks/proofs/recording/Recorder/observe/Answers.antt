use Rattle.std.proofs.Common.{◌≤◌, subst, sym, length}
use Rattle.ompt_events.specs.declared.records.Record.{Record}
use Rattle.credit_ledger.specs.declared.view.Call.TheVariants.{Look}
use Rattle.credit_ledger.specs.Places.{view_of}
use Rattle.callbacks.proofs.RecorderLemmas.{known-below, observed}
use Rattle.callbacks.proofs.recording.Recorder.observe.Goals as goal

pub push-requires-clause-rises : goal.push-requires-clause-rises
push-requires-clause-rises g c =
    let i = c.self.inside in
    subst (λ k. k ≤ c.look-seen.result) (sym c.reserve.ensures.kept.known)
    (known-below i.past.calls i.log.records i.log.known c.look-seen.result (view_of i.seat)
    (view_of c.look-seen.new.seat) Look c.self.invariant c.look-seen.ensures.call)

pub invariant_of-self-2 : goal.invariant_of-self-2
invariant_of-self-2 g c =
    let i = c.self.inside in
    let r : Record = record {
      thread = c.reserve.new.self.thread;
      nests = c.reserve.new.self.nests;
      seq = length c.reserve.new.self.records;
      seen = c.look-seen.result;
      body = c.args.body;
    } in
    observed i.past.calls i.log c.reserve.new.self c.push.new.self (view_of i.seat)
    (view_of c.look-seen.new.seat) r c.self.invariant c.reserve.ensures.kept
    c.look-seen.ensures.call c.requires.unfinished c.requires.looks c.push.ensures.records
    c.push.ensures.known
