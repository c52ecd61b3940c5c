use Rattle.online.proofs.ItemStepLemmas.{other_read}
use Rattle.online.proofs.items.Items.take_other.Goals as goal

pub returns-clause-reads : goal.returns-clause-reads
returns-clause-reads c = λ yes.
    other_read c.args.self.now c.passes_wait.new.self c.complete_finished.new.self c.end_finished.new.self
    c.passes_start.new.self c.args.record.now c.args.parent c.requires.0 c.requires.1
    (c.in_ok-passes_wait.ensures.ready c.if-not-branch.false) c.in_ok-passes_wait.ensures.kept c.other.ensures
    c.in_ok-complete_finished.ensures.finished c.in_ok-end_finished.ensures.ended
    (c.in_ok-starts.ensures.ready yes)
    c.in_ok-starts.ensures.kept
