use Rattle.std.proofs.Common.{inl, inr}
use Rattle.scripts.proofs.RunLemmas.{all_ended}
use Rattle.scripts.proofs.running.in_scope.Goals as goal

pub returns-clause-run : goal.returns-clause-run
returns-clause-run g c =
    let shared = c.args.shared.now in
    elim c.scoped.ensures.1.1 [
      | inl early ↦ inl early
      | inr ended ↦
          inr (all_ended g.C.Context.script shared.threads.items g.C.Context.seats
          c.scoped.result.recorders.items
          c.scoped.result.stop shared.by_thread shared.seated ended)
    ]
