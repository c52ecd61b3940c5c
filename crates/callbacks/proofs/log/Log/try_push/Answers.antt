use Rattle.std.proofs.Common.{◌≡◌, ◌∙◌, ◌<◌, ◌≤◌, true, refl, subst, sym, length}
use Rattle.ompt_events.specs.declared.records.Record.{Record}
use Rattle.ompt_events.specs.Limits.{max_records}
use Rattle.callbacks.specs.Logs.{LogView}
use Rattle.callbacks.specs.Standing.{allows}
use Rattle.callbacks.proofs.LogLemmas.{log-pushed}
use Rattle.callbacks.proofs.log.Log.try_push.Goals as goal

pub invariant_of-self-2 : goal.invariant_of-self-2
invariant_of-self-2 c =
    let i = c.self.inside in
    let before : LogView = record {
      thread = i.buffer.thread;
      nests = i.state.nests;
      records = i.buffer.records;
      known = i.known;
      spare = i.buffer.spare;
    } in
    let event : Record = record {
      thread = c.thread.result;
      nests = c.nests.result;
      seq = c.len.result;
      seen = c.args.seen;
      body = c.args.body;
    } in
    let after : LogView = record {
      thread = c.push_reserved.new.self.thread;
      nests = i.state.nests;
      records = c.push_reserved.new.self.records;
      known = c.known_from-self-inside.result;
      spare = 0;
    } in
    let few = subst (λ (v : LogView). length v.records < max_records) (sym c.self.view_is) c.requires.few in
    let rises = subst (λ (v : LogView). v.known ≤ c.args.seen) (sym c.self.view_is) c.requires.rises in
    let allowed =
    subst (λ (v : LogView). allows v.nests v.records c.args.body ≡ true) (sym c.self.view_is)
    c.requires.allowed in
    let kind = c.nests.ensures ∙ c.advance.ensures.nests in
    log-pushed before after c.advance.new.self event c.self.invariant.0 few rises allowed c.requires.sound
    c.read_numbers.ensures c.thread.ensures kind c.len.ensures c.push_reserved.ensures.thread
    c.push_reserved.ensures.records c.known_from-self-inside.ensures
    (c.in-Ok.ensures.left i.buffer.records event refl kind c.self.invariant.1)
