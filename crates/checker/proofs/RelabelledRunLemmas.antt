-- Two traces that are the same but for what their versions say of nesting, and for what the ends of initial
-- and implicit tasks say of their teams: where they show the same causes of walks, a verdict reads the same
-- of both.
use Rattle.std.proofs.Common.{◌∙◌, ℕ, ◌+◌, List, sym, subst}
use Rattle.std.specs.Prelude.{◌↔◌}
use Rattle.ompt_events.specs.declared.records.Record.{Record}
use Rattle.ompt_events.specs.declared.cause.Cause.{Cause}
use Rattle.ompt_events.specs.declared.cause.Cause.TheVariants.{SeqGap, CreatedTwice, Rootless, NotCurrent}
use Rattle.ompt_events.specs.declared.cause.Cause.TheVariants.{Moved, TurnGap, StatusOrder, RegionOrder}
use Rattle.ompt_events.specs.declared.cause.Cause.TheVariants.{TeamShort, NestedParallel, RegionNesting}
use Rattle.ompt_events.specs.declared.cause.Cause.TheVariants.{DepsPlace, ShareWrong, EntryTwice}
use Rattle.ompt_events.specs.declared.cause.Cause.TheVariants.{LengthAhead, LengthBack, NoOrder, TargetTask}
use Rattle.ompt_events.specs.Records.{begun_turn, begun_root, started, told_turns, created, wait_completed}
use Rattle.ompt_events.specs.Tree.{IsRoot}
use Rattle.ompt_events.specs.Turns.{in_own_order, own_place}
use Rattle.ompt_events.specs.Causes.{HasCause, Shows, HasTurnGap, TellsStart, BeginsTurn, runs}
use Rattle.ompt_events.specs.Causes.{is_root, other_turn, begun_again, falling, of_root, missing, moved}
use Rattle.ompt_events.specs.Causes.{turn_gap}
use Rattle.ompt_events.specs.Coverage.{Covers}
use Rattle.ompt_events.proofs.ListLemmas.{iff_flipped}
use Rattle.task_tree.proofs.RenamingLemmas.{renamed_covers, renamed_predecessor}
use Rattle.checker.specs.Readings.{by_task}
use Rattle.checker.proofs.TeamBlindLemmas.{team_told, team_begun, team_root, team_started, team_created}
use Rattle.checker.proofs.TeamBlindLemmas.{team_completed}
use Rattle.checker.proofs.TwinLemmas.{AreTwins, twins_long, twin_thread, twin_renaming}
use Rattle.checker.proofs.TwinCauseLemmas.{twin_cause}
use Rattle.checker.proofs.WalkTwinLemmas.{IsWalkCause}
use Rattle.checker.proofs.TwinMoveLemmas.{same_states}
use Rattle.checker.proofs.TwinStepLemmas.{HaveSameSteps, same_steps_back, kept_order, kept_greedy}
use Rattle.checker.proofs.TwinStepLemmas.{kept_earliest, kept_behind, kept_no_order, kept_explicit}
use Rattle.checker.proofs.TwinStepLemmas.{kept_complete_at, kept_complete_in}
use Rattle.checker.proofs.RelabelledLemmas.{AreRelabelled, relabelled_back, relabelled_twins, same_at}
use Rattle.checker.proofs.RelabelledLemmas.{says_same, same_turn, same_own_place, same_own_order, same_moves}
use Rattle.checker.proofs.RelabelledLemmas.{relabelled_steps}
use Rattle.checker.proofs.ReadingLemmas.{AreAlike, StartsExplicit}

-- ---- what is known of both traces

-- the lists are the same but for nesting and for the teams of tasks that end, and show the same causes of
-- walks and of what a version admits
pub record AreSameRuns (rs ss : List Record) : Type 0 where
  pub same : AreRelabelled rs ss
  pub admits : (i : ℕ) (cause : Cause) → IsWalkCause cause → HasCause rs i cause ↔ HasCause ss i cause

same_runs_back : (rs ss : List Record) → AreSameRuns rs ss → AreSameRuns ss rs
same_runs_back rs ss known = record {
  same = relabelled_back rs ss known.same;
  admits = λ i cause is_so. iff_flipped (known.admits i cause is_so);
}

-- ---- causes of turns

same_root : (rs ss : List Record) (task : ℕ) → AreRelabelled rs ss → IsRoot rs task → IsRoot ss task
same_root rs ss task same (i, begins) = (i, says_same begun_root team_root task rs ss i same begins)

same_tells : (rs ss : List Record) (i task turn : ℕ) → AreRelabelled rs ss → TellsStart rs i task turn
    → TellsStart ss i task turn
same_tells rs ss i task turn same (told, begins) = (
  λ none. told (same_at told_turns team_told rs ss i same ∙ none),
  says_same begun_turn team_begun (task, turn) rs ss i same begins,
)

same_begins : (rs ss : List Record) (i task turn : ℕ) → AreRelabelled rs ss → BeginsTurn rs i task turn
    → BeginsTurn ss i task turn
same_begins rs ss i task turn same (runs is) =
    runs (says_same begun_turn team_begun (task, turn) rs ss i same is)
same_begins rs ss i task _ same (is_root is) = is_root (says_same begun_root team_root task rs ss i same is)

same_gap : (rs ss : List Record) (i : ℕ) → AreRelabelled rs ss → HasTurnGap rs i → HasTurnGap ss i
same_gap rs ss i same (other_turn told tells apart) =
    other_turn told (says_same told_turns team_told told rs ss i same tells)
    (λ is. apart (is ∙ sym (same_turn rs ss i same)))
same_gap rs ss i same (begun_again task turn k tells below before) =
    begun_again task turn k (same_tells rs ss i task turn same tells) below
    (says_same begun_turn team_begun (task, turn) rs ss k same before)
same_gap rs ss i same (falling task turn k later tells below on before less) =
    let twins = relabelled_twins rs ss same in
    falling task turn k later (same_tells rs ss i task turn same tells) below
    (sym (twin_thread rs ss k twins) ∙ on ∙ twin_thread rs ss i twins)
    (says_same begun_turn team_begun (task, later) rs ss k same before) less
same_gap rs ss i same (of_root task tells root) =
    of_root task (same_tells rs ss i task 0 same tells) (same_root rs ss task same root)
same_gap rs ss i same (missing task turn tells none) =
    missing task turn (same_tells rs ss i task (turn + 1) same tells)
    (λ k begins. none k (same_begins ss rs k task turn (relabelled_back rs ss same) begins))

same_moved : (rs ss : List Record) (i : ℕ) → AreRelabelled rs ss → HasCause rs i Moved → HasCause ss i Moved
same_moved rs ss i same (moved (task, k, explicit, starts, below, before, elsewhere, untold)) =
    let twins = relabelled_twins rs ss same in
    moved (
      task,
      k,
      kept_explicit rs ss task twins explicit,
      says_same started team_started task rs ss i same starts,
      below,
      says_same started team_started task rs ss k same before,
      λ is. elsewhere (twin_thread rs ss k twins ∙ is ∙ sym (twin_thread rs ss i twins)),
      sym (same_at told_turns team_told rs ss i same) ∙ untold,
    )

-- ---- all causes

same_cause : (rs ss : List Record) (i : ℕ) (cause : Cause) → AreSameRuns rs ss → Shows rs i cause
    → Shows ss i cause
same_cause rs ss i cause known = by cause
  where
    same : AreRelabelled rs ss
    same = known.same

    twins : AreTwins rs ss
    twins = relabelled_twins rs ss same

    own_twins : AreTwins (in_own_order rs) (in_own_order ss)
    own_twins = relabelled_twins (in_own_order rs) (in_own_order ss) (same_own_order rs ss same)

    here : (c : Cause) → HasCause (in_own_order ss) (own_place rs i) c
        → HasCause (in_own_order ss) (own_place ss i) c
    here c has = subst (λ k. HasCause (in_own_order ss) k c) (same_own_place rs ss i same) has

    by : (c : Cause) → Shows rs i c → Shows ss i c
    by SeqGap has = twin_cause rs ss i SeqGap tt twins has
    by CreatedTwice has = twin_cause rs ss i CreatedTwice tt twins has
    by Rootless has = twin_cause rs ss i Rootless tt twins has
    by NotCurrent has = (known.admits i NotCurrent tt).0 has
    by Moved has = same_moved rs ss i same has
    by TurnGap (turn_gap is) = turn_gap (same_gap rs ss i same is)
    by StatusOrder has = same_states rs ss i twins (λ task. same_moves rs ss task same) has
    by RegionOrder has =
        here RegionOrder
        (twin_cause (in_own_order rs) (in_own_order ss) (own_place rs i) RegionOrder tt own_twins has)
    by TeamShort has =
        here TeamShort
        (twin_cause (in_own_order rs) (in_own_order ss) (own_place rs i) TeamShort tt own_twins has)
    by NestedParallel has = (known.admits i NestedParallel tt).0 has
    by RegionNesting has = (known.admits i RegionNesting tt).0 has
    by DepsPlace has = twin_cause rs ss i DepsPlace tt twins has
    by ShareWrong has =
        here ShareWrong
        (twin_cause (in_own_order rs) (in_own_order ss) (own_place rs i) ShareWrong tt own_twins has)
    by EntryTwice has = twin_cause rs ss i EntryTwice tt twins has
    by LengthAhead has = twin_cause rs ss i LengthAhead tt twins has
    by LengthBack has = kept_behind rs ss i (relabelled_steps rs ss same) has
    by NoOrder has = kept_no_order rs ss i (relabelled_steps rs ss same) has
    by TargetTask has = (known.admits i TargetTask tt).0 has

-- ---- all that a verdict reads

starts_same : (rs ss : List Record) (i task : ℕ) → HaveSameSteps rs ss → StartsExplicit rs i task
    → StartsExplicit ss i task
starts_same rs ss i task steps (explicit, start) =
    (kept_explicit rs ss task steps.there.twins explicit, steps.there.starts i task explicit start)

pub same_runs_alike : (rs ss : List Record) → AreSameRuns rs ss → AreAlike (by_task rs) (by_task ss)
same_runs_alike rs ss known =
    let same : AreRelabelled rs ss = known.same in
    let back : AreRelabelled ss rs = relabelled_back rs ss same in
    let steps : HaveSameSteps rs ss = relabelled_steps rs ss same in
    let other : HaveSameSteps ss rs = same_steps_back rs ss steps in
    let own : AreTwins (in_own_order rs) (in_own_order ss) =
    relabelled_twins (in_own_order rs) (in_own_order ss) (same_own_order rs ss same) in
    record {
      long = twins_long rs ss (relabelled_twins rs ss same);
      shows =
          λ i cause. (same_cause rs ss i cause known, same_cause ss rs i cause (same_runs_back rs ss known));
      covers =
          λ i task.
          subst
          (λ k. Covers (in_own_order rs) (own_place rs i) task ↔ Covers (in_own_order ss) k task)
          (same_own_place rs ss i same)
          (renamed_covers (twin_renaming (in_own_order rs) (in_own_order ss) own) (own_place rs i) task);
      depends =
          λ task predecessor.
          renamed_predecessor (twin_renaming (in_own_order rs) (in_own_order ss) own) task predecessor;
      creates =
          λ i task. (
            says_same created team_created task rs ss i same,
            says_same created team_created task ss rs i back,
          );
      starts = λ i task. (starts_same rs ss i task steps, starts_same ss rs i task other);
      completes =
          λ i task. (
            says_same wait_completed team_completed task rs ss i same,
            says_same wait_completed team_completed task ss rs i back,
          );
      ordered = λ order. (kept_order rs ss order steps, kept_order ss rs order other);
      greedy = λ order. (kept_greedy rs ss order steps, kept_greedy ss rs order other);
      earliest = λ i order. (kept_earliest rs ss i order steps, kept_earliest ss rs i order other);
      complete_at =
          λ task i. (kept_complete_at rs ss task i steps.there, kept_complete_at ss rs task i steps.back);
      complete_in =
          λ order task i. (
            kept_complete_in rs ss order task i steps.there,
            kept_complete_in ss rs order task i steps.back,
          );
    }
