use Rattle.std.proofs.Common.{length}
use Rattle.ompt_events.specs.declared.records.Record.{Record}
use Rattle.credit_ledger.specs.Places.{view_of}
use Rattle.callbacks.proofs.RecorderLemmas.{alone}
use Rattle.callbacks.proofs.recording.Recorder.append.Goals as goal

pub invariant_of-self-2 : goal.invariant_of-self-2
invariant_of-self-2 c =
    let i = c.self.inside in
    let r : Record = record {
      thread = c.reserve.new.self.thread;
      nests = c.reserve.new.self.nests;
      seq = length c.reserve.new.self.records;
      seen = c.known-seen.result;
      body = c.args.body;
    } in
    alone i.past.calls i.log c.reserve.new.self c.try_push.new.self (view_of i.seat) r c.self.invariant
    c.reserve.ensures.kept c.known-seen.ensures c.requires.unfinished c.requires.alone
    c.in_ok-try_push.ensures.records c.in_ok-try_push.ensures.known
