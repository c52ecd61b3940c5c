use Rattle.std.proofs.Common.{◌≡◌, ◌∙◌, ◌<◌, ◌+◌, ◌++◌, length, true, ap, refl, subst, sym, arith}
use Rattle.std.proofs.lemmas.List.{append-nil}
use Rattle.std.specs.Prelude.{All, filter}
use Rattle.std.specs.List.{flat_map}
use Rattle.ompt_events.specs.Places.{places}
use Rattle.ompt_events.specs.Turns.{turns_in}
use Rattle.task_states.specs.declared.progress.Pass.TheVariants.{Home, Rest}
use Rattle.task_states.specs.declared.turn_edges.Edge.TheVariants.{Begins, Ends}
use Rattle.task_states.specs.Progress.{moves_before, turned}
use Rattle.task_states.specs.Rows.{row_at}
use Rattle.task_states.specs.TurnEdges.{is_edge, edge_moves}
use Rattle.task_states.proofs.ProgressLemmas.{come_same}
use Rattle.task_states.proofs.PassLemmas.{rest_start}
use Rattle.task_states.proofs.TurnEdgeLemmas.{row_within, row_edges, turned_none, turned_more}
use Rattle.task_states.proofs.progress.Progress.read_turns.Goals as goal

pub loop-turn-init : goal.loop-turn-init
loop-turn-init c =
    let rs = c.args.origins.now.records in
    record {
      come =
          come_same rs c.args.origins.now.family.tasks (moves_before Home rs (length rs)) _ c.args.self.now
          (λ task.
          ap (λ l. moves_before Home rs (length rs) task ++ l) (turned_none rs task)
          ∙ append-nil (moves_before Home rs (length rs) task))
          c.requires;
      marks = refl;
    }

pub read_edges-requires-clause-within : goal.read_edges-requires-clause-within
read_edges-requires-clause-within c =
    let rs = c.args.origins.now.records in
    let turn = c.loop-turn.turn in
    let begins : c.row.result.now ≡ filter (is_edge Begins rs turn) (places rs) =
    c.row.ensures ∙ ap (λ rows. row_at rows turn) c.as_slice.ensures.value
    ∙ c.in_ok-begins.ensures turn c.loop-turn-test.true in
    subst (All (λ place. place < length rs)) (sym begins) (row_within Begins rs turn (length rs))

pub read_edges-requires-in-loop-turn-clause-within : goal.read_edges-requires-in-loop-turn-clause-within
read_edges-requires-in-loop-turn-clause-within c =
    let rs = c.args.origins.now.records in
    let turn = c.loop-turn.turn in
    let ends : c.row-in-loop-turn.result.now ≡ filter (is_edge Ends rs turn) (places rs) =
    c.row-in-loop-turn.ensures ∙ ap (λ rows. row_at rows turn) c.as_slice-in-loop-turn.ensures.value
    ∙ c.in_ok-ends.ensures turn c.loop-turn-test.true in
    subst (All (λ place. place < length rs)) (sym ends) (row_within Ends rs turn (length rs))

pub loop-turn-preserved : goal.loop-turn-preserved
loop-turn-preserved c =
    let rs = c.args.origins.now.records in
    let turn = c.loop-turn.turn in
    let low = c.loop-turn-test.true in
    let begins = c.row.result.now in
    let ends = c.row-in-loop-turn.result.now in
    let before = moves_before Home rs (length rs) in
    let first : begins ≡ filter (is_edge Begins rs turn) (places rs) =
    c.row.ensures ∙ ap (λ rows. row_at rows turn) c.as_slice.ensures.value
    ∙ c.in_ok-begins.ensures turn low in
    let second : ends ≡ filter (is_edge Ends rs turn) (places rs) =
    c.row-in-loop-turn.ensures ∙ ap (λ rows. row_at rows turn) c.as_slice-in-loop-turn.ensures.value
    ∙ c.in_ok-ends.ensures turn low in
    let begins_all =
    subst (All (λ place. is_edge Begins rs turn place ≡ true)) (sym first)
    (row_edges Begins rs turn (places rs)) in
    let ends_all =
    subst (All (λ place. is_edge Ends rs turn place ≡ true)) (sym second)
    (row_edges Ends rs turn (places rs)) in
    let begun =
    c.read_edges.ensures.come turn begins_all (λ task. before task ++ turned rs turn task)
    c.loop-turn.invariant.come in
    let ended =
    c.read_edges-in-loop-turn.ensures.come turn ends_all
    (λ task. before task ++ turned rs turn task ++ flat_map (edge_moves Begins rs task turn) begins)
    begun in
    record {
      come =
          come_same rs c.args.origins.now.family.tasks
          (λ task.
          (before task ++ turned rs turn task ++ flat_map (edge_moves Begins rs task turn) begins)
          ++ flat_map (edge_moves Ends rs task turn) ends)
          (λ task. before task ++ turned rs (turn + 1) task) c.read_edges-in-loop-turn.new.self
          (λ task. turned_more rs task turn (before task) begins ends first second) ended;
      marks =
          c.read_edges-in-loop-turn.ensures.marks ∙ c.read_edges.ensures.marks ∙ c.loop-turn.invariant.marks;
    }

pub returns-clause-come : goal.returns-clause-come
returns-clause-come c =
    let rs = c.args.origins.now.records in
    let last : c.loop-turn.turn ≡ turns_in rs =
    omega (arith, c.loop-turn-test.false, c.loop-turn.auto.turn-end)
    ∙ rw c.run.ensures.value at c.turn_count-turns.ensures in
    come_same rs c.args.origins.now.family.tasks
    (λ task. moves_before Home rs (length rs) task ++ turned rs c.loop-turn.turn task)
    (moves_before Rest rs 0) c.loop-turn.self
    (λ task.
    rest_start rs task ∙ ap (λ n. moves_before Home rs (length rs) task ++ turned rs n task) (sym last))
    c.loop-turn.invariant.come
