use Rattle.std.proofs.Common.{◌∙◌, sym}
use Rattle.task_states.proofs.TurnEdgeLemmas.{edges_none, edges_passed, edges_noted, edge_past, edge_none}
use Rattle.task_states.proofs.turn_edges.find_edges.Goals as goal
use Rattle.task_states.proofs.turn_edges.find_edges.Goals.{in-Some+then-turn-turns+in_ok-note_place}
use Rattle.task_states.proofs.turn_edges.find_edges.Goals.{in-Some+else-turn-turns, in_default}

pub loop-at-init : goal.loop-at-init
loop-at-init c =
    edges_none c.args.edge c.args.origins.now.records c.args.turns c.new-rows.result.items
    c.new-rows.ensures.items

pub loop-at-preserved : goal.loop-at-preserved
loop-at-preserved c =
    let rs = c.args.origins.now.records in
    let edge = c.args.edge in
    let i = c.loop-at.at in
    let turns = c.args.turns in
    let rows = c.loop-at.rows.items in
    elim c.match-moved_turn.branch [
      | in-Some+then-turn-turns+in_ok-note_place w ↦
          rw w.rows-is
          (edges_noted edge rs i turns w.in-Some.turn rows w.note_place.new.rows.items c.loop-at.invariant
          (sym c.moved_turn.ensures ∙ w.in-Some.is) w.in_ok-note_place.ensures)
      | in-Some+else-turn-turns w ↦
          rw w.rows-is
          (edges_passed edge rs i turns rows c.loop-at.invariant
          (edge_past edge rs i turns w.in-Some.turn (sym c.moved_turn.ensures ∙ w.in-Some.is)
          w.if-turn-turns.false))
      | in_default w ↦
          rw w.rows-is
          (edges_passed edge rs i turns rows c.loop-at.invariant
          (λ turn low. edge_none edge rs i (sym c.moved_turn.ensures ∙ w.in_default.is) turn))
    ]
