-- Two lists of records that say the same of all but turns have the same steps and orders, and the same tasks
-- are complete at each record, where the same records start tasks and a resumption in one is a step of the
-- other.
use Rattle.std.proofs.Common.{◌≡◌, ◌∙◌, ℕ, ◌<◌, List, [], ◌∷◌, length, sym, subst, arith, inl, inr}
use Rattle.std.specs.Prelude.{◌↔◌, ⊤, take, slice_index, ◌++◌}
use Rattle.std.specs.List.Sorted.{IsPermutation}
use Rattle.ompt_events.specs.declared.records.Record.{Record}
use Rattle.ompt_events.specs.declared.records.Part.{Part}
use Rattle.ompt_events.specs.declared.records.Part.TheVariants.{Whole, Body, Event}
use Rattle.ompt_events.specs.declared.cause.Cause.TheVariants.{LengthBack, NoOrder}
use Rattle.ompt_events.specs.Records.{created, discarded, fulfilled, finish}
use Rattle.ompt_events.specs.Places.{thread_at}
use Rattle.ompt_events.specs.Tree.{IsExplicit}
use Rattle.ompt_events.specs.HappensBefore.{IsStart, IsResumption, IsProgramStep, thread_order, creation}
use Rattle.ompt_events.specs.HappensBefore.{resumption, discard, fulfilment, IsStep, program, ledger}
use Rattle.ompt_events.specs.HappensBefore.{HappensBefore, step, chain}
use Rattle.ompt_events.specs.Linearization.{IsLinearization, IsDue, IsReady, IsGreedyAfter, IsGreedy}
use Rattle.ompt_events.specs.Linearization.{IsGrounded}
use Rattle.ompt_events.specs.Completion.{IsPartFinished, IsFinished, StartsTask, CountsIn, IsCompleteIn}
use Rattle.ompt_events.specs.Completion.{CountsAt, IsCompleteAt}
use Rattle.ompt_events.specs.Causes.{HasCause, length_back, no_order}
use Rattle.checker.specs.Counter.{IsEarliestOrder}
use Rattle.task_tree.proofs.BlindLemmas.{blind_created, blind_finish}
use Rattle.task_tree.proofs.RenamedPlaceLemmas.{reordered}
use Rattle.task_tree.proofs.RenamedTreeLemmas.{moved_explicit}
use Rattle.checker.proofs.BlindBodyLemmas.{blind_discarded, blind_fulfilled}
use Rattle.checker.proofs.TwinLemmas.{AreTwins, twins_long, twin_says, twin_thread, twin_seen, twin_renaming}
use Rattle.checker.proofs.TwinCauseLemmas.{twin_finishing, twin_known}
use Rattle.checker.proofs.TwinMoveLemmas.{twin_places}

-- a later record of the same thread
pub record IsLaterThere (rs : List Record) (a b : ℕ) : Type 0 where
  pub later : a < b
  pub within : b < length rs
  pub same_thread : thread_at rs a ≡ thread_at rs b

-- the twin starts the same explicit tasks at the same records, and where one of these records resumes a
-- task, that is a step of the twin too
pub record KeepsSteps (rs ss : List Record) : Type 0 where
  pub twins : AreTwins rs ss
  pub starts : (i task : ℕ) → IsExplicit rs task → IsStart rs i task → IsStart ss i task
  pub resumes : (a b : ℕ) → IsResumption rs a b → IsProgramStep ss a b

-- both ways
pub record HaveSameSteps (rs ss : List Record) : Type 0 where
  pub there : KeepsSteps rs ss
  pub back : KeepsSteps ss rs

pub same_steps_back : (rs ss : List Record) → HaveSameSteps rs ss → HaveSameSteps ss rs
same_steps_back rs ss same = record { there = same.back; back = same.there }

-- ---- steps

pub later_step : (rs ss : List Record) (a b : ℕ) → AreTwins rs ss → IsLaterThere rs a b → IsProgramStep ss a b
later_step rs ss a b twins is =
    thread_order is.later (let long = twins_long rs ss twins in let inside = is.within in omega arith)
    (sym (twin_thread rs ss a twins) ∙ is.same_thread ∙ twin_thread rs ss b twins)

pub kept_program : (rs ss : List Record) (a b : ℕ) → KeepsSteps rs ss → IsProgramStep rs a b
    → IsProgramStep ss a b
kept_program rs ss a b keeps (thread_order later within same) =
    later_step rs ss a b keeps.twins (record { later = later; within = within; same_thread = same })
kept_program rs ss a b keeps (creation task creates starts) =
    creation task (twin_says created blind_created task rs ss a keeps.twins creates)
    (keeps.starts b task (a, creates) starts)
kept_program rs ss a b keeps (resumption is) = keeps.resumes a b is
kept_program rs ss a b keeps (discard task creates discards) =
    discard task (twin_says created blind_created task rs ss a keeps.twins creates)
    (twin_says discarded blind_discarded task rs ss b keeps.twins discards)
kept_program rs ss a b keeps (fulfilment task creates fulfils) =
    fulfilment task (twin_says created blind_created task rs ss a keeps.twins creates)
    (twin_says fulfilled blind_fulfilled task rs ss b keeps.twins fulfils)

kept_step : (rs ss : List Record) (a b : ℕ) → KeepsSteps rs ss → IsStep rs a b → IsStep ss a b
kept_step rs ss a b keeps (program is) = program (kept_program rs ss a b keeps is)
kept_step rs ss a b keeps (ledger makes less) =
    ledger (twin_finishing rs ss a keeps.twins makes)
    (omega (arith, twin_seen rs ss a keeps.twins, twin_seen rs ss b keeps.twins, less))

pub kept_before : (rs ss : List Record) (a b : ℕ) → KeepsSteps rs ss → HappensBefore rs a b
    → HappensBefore ss a b
kept_before rs ss a b keeps (step is) = step (kept_step rs ss a b keeps is)
kept_before rs ss a b keeps (chain {b = mid} one other) =
    chain (kept_before rs ss a mid keeps one) (kept_before rs ss mid b keeps other)

-- ---- orders

pub kept_order : (rs ss : List Record) (order : List ℕ) → HaveSameSteps rs ss → IsLinearization rs order
    → IsLinearization ss order
kept_order rs ss order same is = record {
  all_once =
      let P : List ℕ → Type 0 = λ l. IsPermutation l order in
      subst P (twin_places rs ss same.there.twins) is.all_once;
  rising = λ a b before. is.rising a b (kept_before ss rs a b same.back before);
}

kept_due : (rs ss : List Record) (standing : List ℕ) (i : ℕ) → HaveSameSteps rs ss → IsDue rs standing i
    → IsDue ss standing i
kept_due rs ss standing i same due a before = due a (kept_before ss rs a i same.back before)

kept_ready : (rs ss : List Record) (may can : ℕ → Type 0) (standing : List ℕ) (i : ℕ) → HaveSameSteps rs ss
    → ((k : ℕ) → may k → can k) → IsReady rs may standing i → IsReady ss can standing i
kept_ready rs ss may can standing i same allows is = record {
  within = let long = twins_long rs ss same.there.twins in let inside = is.within in omega arith;
  taken = allows i is.taken;
  missing = is.missing;
  due = kept_due rs ss standing i same is.due;
}

kept_greedy_after : (rs ss : List Record) (may can : ℕ → Type 0) (standing order : List ℕ)
    → HaveSameSteps rs ss → ((k : ℕ) → may k ↔ can k) → IsGreedyAfter rs may standing order
    → IsGreedyAfter ss can standing order
kept_greedy_after rs ss may can standing order same allows greedy k below =
    let here = greedy k below in
    record {
      ready =
          kept_ready rs ss may can (standing ++ take k order) (slice_index order k) same (λ j. (allows j).0)
          here.ready;
      first =
          λ j before ready.
          here.first j before
          (kept_ready ss rs can may (standing ++ take k order) j (same_steps_back rs ss same)
          (λ j. (allows j).1) ready);
    }

pub kept_greedy : (rs ss : List Record) (order : List ℕ) → HaveSameSteps rs ss → IsGreedy rs order
    → IsGreedy ss order
kept_greedy rs ss order same greedy =
    kept_greedy_after rs ss (λ _. ⊤) (λ _. ⊤) [] order same (λ k. (λ x. x, λ x. x)) greedy

both_before : (rs ss : List Record) (a b : ℕ) → HaveSameSteps rs ss
    → HappensBefore rs a b ↔ HappensBefore ss a b
both_before rs ss a b same = (kept_before rs ss a b same.there, kept_before ss rs a b same.back)

pub kept_earliest : (rs ss : List Record) (i : ℕ) (order : List ℕ) → HaveSameSteps rs ss
    → IsEarliestOrder rs i order → IsEarliestOrder ss i order
kept_earliest rs ss i order same is = record {
  before = is.before;
  after = is.after;
  parts = is.parts;
  just_before =
      λ a.
      let both = both_before rs ss a i same in
      let has = is.just_before a in (λ c. both.0 (has.0 c), λ h. has.1 (both.1 h));
  before_greedy =
      kept_greedy_after rs ss (λ a. HappensBefore rs a i) (λ a. HappensBefore ss a i) [] is.before same
      (λ a. both_before rs ss a i same) is.before_greedy;
  after_greedy =
      kept_greedy_after rs ss (λ _. ⊤) (λ _. ⊤) (is.before ++ i ∷ []) is.after same (λ k. (λ x. x, λ x. x))
      is.after_greedy;
}

kept_grounded : (rs ss : List Record) (order : List ℕ) → HaveSameSteps rs ss → IsGrounded rs order
    → IsGrounded ss order
kept_grounded rs ss order same grounded k below =
    kept_due rs ss (take k order) (slice_index order k) same (grounded k below)

-- ---- causes

pub kept_no_order : (rs ss : List Record) (i : ℕ) → HaveSameSteps rs ss → HasCause rs i NoOrder
    → HasCause ss i NoOrder
kept_no_order rs ss i same (no_order is) = no_order (record {
  within = let long = twins_long rs ss same.there.twins in let inside = is.within in omega arith;
  never =
      λ order grounded has.
      is.never order (kept_grounded ss rs order (same_steps_back rs ss same) grounded) has;
})

pub kept_behind : (rs ss : List Record) (i : ℕ) → HaveSameSteps rs ss → HasCause rs i LengthBack
    → HasCause ss i LengthBack
kept_behind rs ss i same (length_back (k, before, less)) =
    length_back (
      k,
      kept_program rs ss k i same.there before,
      omega (arith, twin_seen rs ss i same.there.twins, twin_known rs ss k same.there.twins, less),
    )

-- ---- what is complete

pub kept_explicit : (rs ss : List Record) (task : ℕ) → AreTwins rs ss → IsExplicit rs task
    → IsExplicit ss task
kept_explicit rs ss task twins is = moved_explicit (reordered (twin_renaming rs ss twins)) task is

kept_starts : (rs ss : List Record) (i : ℕ) → KeepsSteps rs ss → StartsTask rs i → StartsTask ss i
kept_starts rs ss i keeps (task, explicit, starts) =
    (task, kept_explicit rs ss task keeps.twins explicit, keeps.starts i task explicit starts)

kept_part : (rs ss : List Record) (counts tells : ℕ → Type 0) (task : ℕ) (part : Part) → AreTwins rs ss
    → ((k : ℕ) → counts k → tells k) → IsPartFinished rs counts task part → IsPartFinished ss tells task part
kept_part rs ss counts tells task part twins passes (k, finishes, counted) =
    (k, twin_says finish blind_finish (task, part) rs ss k twins finishes, passes k counted)

kept_finished : (rs ss : List Record) (counts tells : ℕ → Type 0) (task : ℕ) → AreTwins rs ss
    → ((k : ℕ) → counts k → tells k) → IsFinished rs counts task → IsFinished ss tells task
kept_finished rs ss counts tells task twins passes (inl whole) =
    inl (kept_part rs ss counts tells task Whole twins passes whole)
kept_finished rs ss counts tells task twins passes (inr (body, event)) =
    inr (
      kept_part rs ss counts tells task Body twins passes body,
      kept_part rs ss counts tells task Event twins passes event,
    )

pub kept_complete_in : (rs ss : List Record) (order : List ℕ) (task i : ℕ) → KeepsSteps rs ss
    → IsCompleteIn rs order task i → IsCompleteIn ss order task i
kept_complete_in rs ss order task i keeps is =
    kept_finished rs ss (CountsIn rs order i) (CountsIn ss order i) task keeps.twins counted is
  where
    counted : (k : ℕ) → CountsIn rs order i k → CountsIn ss order i k
    counted k (inl earlier) = inl earlier
    counted k (inr (same, starts)) = inr (same, kept_starts rs ss i keeps starts)

pub kept_complete_at : (rs ss : List Record) (task i : ℕ) → KeepsSteps rs ss → IsCompleteAt rs task i
    → IsCompleteAt ss task i
kept_complete_at rs ss task i keeps is =
    kept_finished rs ss (CountsAt rs i) (CountsAt ss i) task keeps.twins counted is
  where
    counted : (k : ℕ) → CountsAt rs i k → CountsAt ss i k
    counted k (inl less) =
        inl (omega (arith, twin_seen rs ss k keeps.twins, twin_seen rs ss i keeps.twins, less))
    counted k (inr (same, starts)) = inr (same, kept_starts rs ss i keeps starts)
