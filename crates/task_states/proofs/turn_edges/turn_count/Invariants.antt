use Rattle.std.proofs.Common.{◌≡◌, ℕ, max, take}
use Rattle.std.specs.Prelude.{fold}
use Rattle.std.specs.Option.{option_map_or}
use Rattle.ompt_events.specs.declared.records.Record.{Record}
use Rattle.ompt_events.specs.Records.{begun_turn}
use Rattle.task_states.proofs.turn_edges.turn_count.Given as goal

-- the greatest turn so far
abbrev pub invariant-loop-at : goal.invariant-loop-at
invariant-loop-at l =
    l.most
    ≡ fold (λ most (r : Record). max most (option_map_or (λ (b : ℕ × ℕ). b.1) (begun_turn r.body) 0)) 0
    (take l.at l.run.records)
