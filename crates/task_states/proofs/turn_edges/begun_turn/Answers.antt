use Rattle.std.proofs.Common.{ℕ, ◌∙◌, ap}
use Rattle.std.specs.Prelude.{option_map}
use Rattle.ompt_events.specs.Records.{begun_turn}
use Rattle.ompt_events.proofs.PlaceLemmas.{at_get}
use Rattle.task_states.proofs.TurnEdgeLemmas.{turn_or_zero}
use Rattle.task_states.proofs.turn_edges.begun_turn.Goals as goal

pub returns : goal.returns
returns c = λ r stands.
    c.unwrap_or.ensures
    ∙ turn_or_zero (begun_turn r.body) c.next_turn.result
    (c.next_turn.ensures
    ∙ ap (option_map (λ (b : ℕ × ℕ). b.1)) (at_get begun_turn c.args.run.now.records c.args.at r stands))
