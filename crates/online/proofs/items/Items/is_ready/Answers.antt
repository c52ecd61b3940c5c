use Rattle.online.specs.Items.{awaited_of}
use Rattle.online.proofs.PushLemmas.{finished_more, started}
use Rattle.online.proofs.ListLaw.{predecessor_needed}
use Rattle.online.proofs.items.Items.is_ready.Goals as goal

pub returns-clause-ready : goal.returns-clause-ready
returns-clause-ready c = λ yes rs is once untouched predecessor before.
    let (history, ends, gone, table, lists) = is in
    let over =
    c.in_ok-ready.ensures.ready yes history ends gone table (λ end has. started rs c.args.task end
    (lists.over c.args.task end has) untouched)
    predecessor
    (predecessor_needed rs history ends gone (awaited_of c.args.self.now) once lists c.args.task
    predecessor before)
    in
    finished_more rs predecessor over.0 c.args.length over.2 (lists.over predecessor over.0 over.1)
