-- Two lists of records that say the same of all but turns, let regions lie inside others at the same records,
-- and of which each thread has the same walks: the causes of walks, and of what a version admits.
use Rattle.std.proofs.Common.{◌≡◌, ◌∙◌, ℕ, List, sym}
use Rattle.ompt_events.specs.declared.records.Record.{Record}
use Rattle.ompt_events.specs.declared.cause.Cause.{Cause}
use Rattle.ompt_events.specs.declared.cause.Cause.TheVariants.{NotCurrent, NestedParallel, RegionNesting}
use Rattle.ompt_events.specs.declared.cause.Cause.TheVariants.{TargetTask}
use Rattle.ompt_events.specs.Records.{made, forked, joined, begun_initial, flags}
use Rattle.ompt_events.specs.Places.{nests_at}
use Rattle.ompt_events.specs.Threads.{Walk}
use Rattle.ompt_events.specs.Causes.{HasCause, IsNested, forked_inside, joined_inside, initial_inside}
use Rattle.ompt_events.specs.Causes.{HasBegun, IsWalkAt, IsMisnested, other_region, other_league}
use Rattle.ompt_events.specs.Causes.{nested_parallel, region_nesting, target_task}
use Rattle.task_tree.proofs.BlindLemmas.{blind_begun_initial, blind_joined}
use Rattle.task_tree.proofs.RenamedPlaceLemmas.{reordered}
use Rattle.task_tree.proofs.RenamedTreeLemmas.{moved_initial, moved_member}
use Rattle.checker.proofs.BlindBodyLemmas.{blind_made, blind_forked, blind_flags}
use Rattle.checker.proofs.TwinLemmas.{AreTwins, twins_back, twin_of, twin_says, twin_thread, twin_renaming}
use Rattle.checker.proofs.TwinCauseLemmas.{HaveSameWalks, walk_before, twin_not_current}

-- the lists are so
pub record AreWalkTwins (rs ss : List Record) : Type 0 where
  pub twins : AreTwins rs ss
  pub walks : HaveSameWalks rs ss
  pub nests : (i : ℕ) → nests_at rs i ≡ nests_at ss i

walk_at : (rs ss : List Record) (i : ℕ) (walk : Walk) → AreWalkTwins rs ss → IsWalkAt rs i walk
    → IsWalkAt ss i walk
walk_at rs ss i walk same (r, stands, is) =
    let other = twin_of rs ss i r same.twins stands in
    (other.0, other.1, is ∙ walk_before rs ss i r other.0 same.walks other.2)

-- ---- regions inside others

walk_nested : (rs ss : List Record) (i : ℕ) → AreWalkTwins rs ss → IsNested rs i → IsNested ss i
walk_nested rs ss i same (forked_inside task parallel flat forks none) =
    forked_inside task parallel (sym (same.nests i) ∙ flat)
    (twin_says forked blind_forked (task, parallel) rs ss i same.twins forks)
    (λ is. none (moved_initial (reordered (twin_renaming ss rs (twins_back rs ss same.twins))) task is))
walk_nested rs ss i same (joined_inside m walk outer flat joins stands innermost member) =
    joined_inside m walk outer (sym (same.nests i) ∙ flat)
    (twin_says joined blind_joined m rs ss i same.twins joins)
    (walk_at rs ss i walk same stands) innermost
    (moved_member (reordered (twin_renaming rs ss same.twins)) outer member)
walk_nested rs ss i same (initial_inside task walk flat begins stands some) =
    initial_inside task walk (sym (same.nests i) ∙ flat)
    (twin_says begun_initial blind_begun_initial task rs ss i same.twins begins)
    (walk_at rs ss i walk same stands) some

-- the region that the current task has begun
twin_begun : (rs ss : List Record) (i parallel : ℕ) (walk : Walk) → AreTwins rs ss
    → HasBegun rs i walk parallel → HasBegun ss i walk parallel
twin_begun rs ss i parallel walk twins (k, task, below, on, runs, forks) = (
  k,
  task,
  below,
  sym (twin_thread rs ss k twins) ∙ on ∙ twin_thread rs ss i twins,
  runs,
  twin_says forked blind_forked (task, parallel) rs ss k twins forks,
)

walk_misnested : (rs ss : List Record) (i : ℕ) → AreWalkTwins rs ss → IsMisnested rs i → IsMisnested ss i
walk_misnested rs ss i same (other_region m walk nests joins stands inside none) =
    other_region m walk (sym (same.nests i) ∙ nests)
    (twin_says joined blind_joined m rs ss i same.twins joins) (walk_at rs ss i walk same stands) inside
    (λ is. none (twin_begun ss rs i m.parallel walk (twins_back rs ss same.twins) is))
walk_misnested rs ss i same (other_league task walk nests begins stands inside none) =
    other_league task walk (sym (same.nests i) ∙ nests)
    (twin_says begun_initial blind_begun_initial task rs ss i same.twins begins)
    (walk_at rs ss i walk same stands) inside
    (λ parallel is. none parallel (twin_begun ss rs i parallel walk (twins_back rs ss same.twins) is))

-- ---- all of these

-- the cause is of the walks of threads, or of what a version admits
abbrev pub IsWalkCause : Cause → Type 0
IsWalkCause NotCurrent = Unit {0}
IsWalkCause NestedParallel = Unit {0}
IsWalkCause RegionNesting = Unit {0}
IsWalkCause TargetTask = Unit {0}
IsWalkCause _ = ⊥

pub walk_cause : (rs ss : List Record) (i : ℕ) (cause : Cause) → IsWalkCause cause → AreWalkTwins rs ss
    → HasCause rs i cause → HasCause ss i cause
walk_cause rs ss i NotCurrent is_so same has = twin_not_current rs ss i same.twins same.walks has
walk_cause rs ss i NestedParallel is_so same (nested_parallel is) =
    nested_parallel (walk_nested rs ss i same is)
walk_cause rs ss i RegionNesting is_so same (region_nesting is) =
    region_nesting (walk_misnested rs ss i same is)
walk_cause rs ss i TargetTask is_so same (target_task (task, bits, flat, makes, has, target)) = target_task (
  task,
  bits,
  sym (same.nests i) ∙ flat,
  twin_says made blind_made task rs ss i same.twins makes,
  twin_says flags blind_flags bits rs ss i same.twins has,
  target,
)
walk_cause rs ss i _ is_so same has = absurd is_so
