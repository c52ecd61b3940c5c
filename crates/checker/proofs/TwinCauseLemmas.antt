-- Two lists of records that say the same of all but turns show the same causes, but for those that are of
-- turns, of walks, of states and of orders.
use Rattle.std.proofs.Common.{◌≡◌, ◌∙◌, ℕ, List, cond, refl, sym, ap, subst, arith, ◌+◌}
use Rattle.std.specs.Prelude.{take, is_some, Contains, ◌==◌, count_by}
use Rattle.ompt_events.specs.declared.records.Record.{Record}
use Rattle.ompt_events.specs.declared.records.Body.{Body}
use Rattle.ompt_events.specs.declared.cause.Cause.{Cause}
use Rattle.ompt_events.specs.declared.cause.Cause.TheVariants.{SeqGap, CreatedTwice, Rootless, NotCurrent}
use Rattle.ompt_events.specs.declared.cause.Cause.TheVariants.{Moved, TurnGap, StatusOrder, RegionOrder}
use Rattle.ompt_events.specs.declared.cause.Cause.TheVariants.{TeamShort, NestedParallel, RegionNesting}
use Rattle.ompt_events.specs.declared.cause.Cause.TheVariants.{DepsPlace, ShareWrong, EntryTwice}
use Rattle.ompt_events.specs.declared.cause.Cause.TheVariants.{LengthAhead, LengthBack, NoOrder, TargetTask}
use Rattle.ompt_events.specs.Records.{made, created, forked, region_named, running, ended_root, started}
use Rattle.ompt_events.specs.Records.{wait_completed, named, dependences}
use Rattle.ompt_events.specs.Records.{created_with_deps, finish}
use Rattle.ompt_events.specs.Places.{at, seen_at}
use Rattle.ompt_events.specs.Tree.{IsRooted}
use Rattle.ompt_events.specs.Threads.{Walk, walk_of, Misfits, not_running}
use Rattle.ompt_events.specs.Threads.{not_innermost, other_root, other_parent, MisfitsAt}
use Rattle.ompt_events.specs.HappensBefore.{IsFinishing}
use Rattle.ompt_events.specs.Causes.{HasCause, HasSeqGap, IsMadeAgain, IsForkedAgain, IsNamedAt, IsMade}
use Rattle.ompt_events.specs.Causes.{IsForked, HasNoRoot, unmade, unrooted, no_region}
use Rattle.ompt_events.specs.Causes.{IsNextInThread}
use Rattle.ompt_events.specs.Causes.{AreFollowed, HasMisplacedDeps, stray, missing, RepeatsEntry, entries_in}
use Rattle.ompt_events.specs.Causes.{IsAhead, entry, ledger_length, known_after, seq_gap}
use Rattle.ompt_events.specs.Causes.{created_twice, forked_twice, rootless, not_current}
use Rattle.ompt_events.specs.Causes.{deps_place, entry_twice, length_ahead}
use Rattle.task_tree.specs.Renaming.{untold}
use Rattle.task_tree.proofs.BlindLemmas.{blind_running, blind_created}
use Rattle.task_tree.proofs.BlindLemmas.{blind_dependences, blind_finish}
use Rattle.task_tree.proofs.RenamedPlaceLemmas.{reordered}
use Rattle.task_tree.proofs.RenamedTreeLemmas.{moved_rooted, moved_root}
use Rattle.task_tree.proofs.RenamedTreeLemmas.{moved_creation}
use Rattle.task_tree.proofs.RenamingLemmas.{renamed_order, renamed_short, renamed_share}
use Rattle.checker.proofs.BlindBodyLemmas.{blind_made, blind_forked, blind_region_named, blind_ended_root}
use Rattle.checker.proofs.BlindBodyLemmas.{blind_started, blind_wait_completed, blind_created_with_deps}
use Rattle.checker.proofs.BlindBodyLemmas.{blind_named}
use Rattle.checker.proofs.TwinLemmas.{AreTwins, blank, twins_back, twins_long, twins_take}
use Rattle.checker.proofs.TwinLemmas.{twin_count, twin_of, twin_at, twin_says, twin_thread}
use Rattle.checker.proofs.TwinLemmas.{twin_seen, twin_body, same_said, twin_renaming}

-- ---- the numbers of records

twin_gap : (rs ss : List Record) (i : ℕ) → AreTwins rs ss → HasSeqGap rs i → HasSeqGap ss i
twin_gap rs ss i twins (r, stands, gap) =
    let other = twin_of rs ss i r twins stands in
    let s : Record = other.0 in (
      s,
      other.1,
      λ is. gap (
          ap (λ (q : Record). q.seq) other.2
          ∙ is
          ∙ ap (λ t. count_by (λ (q : Record). q.thread == t) (take i ss))
          (sym (ap (λ (q : Record). q.thread) other.2))
          ∙ sym
          (twin_count (λ (q : Record). q.thread == r.thread) (λ q. refl) (take i rs) (take i ss)
          (twins_take rs ss i twins))
          ),
    )

-- ---- tasks and parallel regions

twin_made : (rs ss : List Record) (task : ℕ) → AreTwins rs ss → IsMade rs task → IsMade ss task
twin_made rs ss task twins (k, says) = (k, twin_says made blind_made task rs ss k twins says)

twin_forked : (rs ss : List Record) (parallel : ℕ) → AreTwins rs ss → IsForked rs parallel
    → IsForked ss parallel
twin_forked rs ss parallel twins (k, task, says) =
    (k, task, twin_says forked blind_forked (task, parallel) rs ss k twins says)

twin_made_again : (rs ss : List Record) (i : ℕ) → AreTwins rs ss → IsMadeAgain rs i → IsMadeAgain ss i
twin_made_again rs ss i twins (task, k, below, before, says) = (
  task,
  k,
  below,
  twin_says made blind_made task rs ss k twins before,
  twin_says made blind_made task rs ss i twins says,
)

twin_forked_again : (rs ss : List Record) (i : ℕ) → AreTwins rs ss → IsForkedAgain rs i → IsForkedAgain ss i
twin_forked_again rs ss i twins (parallel, k, own, other, below, before, says) = (
  parallel,
  k,
  own,
  other,
  below,
  twin_says forked blind_forked (other, parallel) rs ss k twins before,
  twin_says forked blind_forked (own, parallel) rs ss i twins says,
)

twin_named : (rs ss : List Record) (i task : ℕ) → AreTwins rs ss → IsNamedAt rs i task → IsNamedAt ss i task
twin_named rs ss i task twins (r, stands, has) =
    let other = twin_of rs ss i r twins stands in
    let s : Record = other.0 in
    let P : List ℕ → Type 0 = λ l. Contains l task in
    (s, other.1, subst P (same_said named blind_named r.body s.body (twin_body r s other.2)) has)

twin_rooted : (rs ss : List Record) (task : ℕ) → AreTwins rs ss → IsRooted rs task → IsRooted ss task
twin_rooted rs ss task twins is = moved_rooted (reordered (twin_renaming rs ss twins)) task is

twin_rootless : (rs ss : List Record) (i : ℕ) → AreTwins rs ss → HasNoRoot rs i → HasNoRoot ss i
twin_rootless rs ss i twins (unmade task names none) =
    unmade task (twin_named rs ss i task twins names)
    (λ is. none (twin_made ss rs task (twins_back rs ss twins) is))
twin_rootless rs ss i twins (unrooted task creates none) =
    unrooted task (twin_says created blind_created task rs ss i twins creates)
    (λ is. none (twin_rooted ss rs task (twins_back rs ss twins) is))
twin_rootless rs ss i twins (no_region parallel names none) =
    no_region parallel (twin_says region_named blind_region_named parallel rs ss i twins names)
    (λ is. none (twin_forked ss rs parallel (twins_back rs ss twins) is))

-- ---- the walk along a thread

-- each thread has the same walk before each record
abbrev pub HaveSameWalks : List Record → List Record → Type 0
HaveSameWalks rs ss = (thread n : ℕ) → walk_of thread (take n rs) ≡ walk_of thread (take n ss)

pub same_walks_back : (rs ss : List Record) → HaveSameWalks rs ss → HaveSameWalks ss rs
same_walks_back rs ss walks thread n = sym (walks thread n)

twin_misfit : (rs ss : List Record) (walk : Walk) (b c : Body) → AreTwins rs ss → untold b ≡ untold c
    → Misfits rs walk b → Misfits ss walk c
twin_misfit rs ss walk b c twins same (not_running task runs apart) =
    not_running task (sym (same_said running blind_running b c same) ∙ runs) apart
twin_misfit rs ss walk b c twins same (not_innermost task ends apart) =
    not_innermost task (sym (same_said ended_root blind_ended_root b c same) ∙ ends) apart
twin_misfit rs ss walk b c twins same (other_root task starts is_root apart) =
    other_root task (sym (same_said started blind_started b c same) ∙ starts)
    (moved_root (reordered (twin_renaming rs ss twins)) task is_root) apart
twin_misfit rs ss walk b c twins same (other_parent task i parent completes creates apart) =
    other_parent task i parent (sym (same_said wait_completed blind_wait_completed b c same) ∙ completes)
    (moved_creation (reordered (twin_renaming rs ss twins)) i parent task creates) apart

-- the walk before the record and before its twin
pub walk_before : (rs ss : List Record) (i : ℕ) (r s : Record) → HaveSameWalks rs ss → blank r ≡ blank s
    → walk_of r.thread (take i rs) ≡ walk_of s.thread (take i ss)
walk_before rs ss i r s walks same =
    walks r.thread i ∙ ap (λ t. walk_of t (take i ss)) (ap (λ (q : Record). q.thread) same)

pub twin_misfits : (rs ss : List Record) (i : ℕ) → AreTwins rs ss → HaveSameWalks rs ss → MisfitsAt rs i
    → MisfitsAt ss i
twin_misfits rs ss i twins walks is =
    let r : Record = is.the_record in
    let other = twin_of rs ss i r twins is.stands in
    let s : Record = other.0 in
    let P : Walk → Type 0 = λ walk. Misfits ss walk s.body in
    record {
      the_record = s;
      stands = other.1;
      misfits =
          subst P (walk_before rs ss i r s walks other.2)
          (twin_misfit rs ss (walk_of r.thread (take i rs)) r.body s.body twins (twin_body r s other.2)
          is.misfits);
    }

pub twin_not_current : (rs ss : List Record) (i : ℕ) → AreTwins rs ss → HaveSameWalks rs ss
    → HasCause rs i NotCurrent → HasCause ss i NotCurrent
twin_not_current rs ss i twins walks (not_current is) = not_current (record {
  misfits = twin_misfits rs ss i twins walks is.misfits;
  first =
      λ k below same there.
      is.first k below (twin_thread rs ss k twins ∙ same ∙ sym (twin_thread rs ss i twins))
      (twin_misfits ss rs k (twins_back rs ss twins) (same_walks_back rs ss walks) there);
})

-- ---- dependences

twin_next : (rs ss : List Record) (a b : ℕ) → AreTwins rs ss → IsNextInThread rs a b → IsNextInThread ss a b
twin_next rs ss a b twins is = record {
  later = is.later;
  within = let long = twins_long rs ss twins in let inside = is.within in omega arith;
  same_thread = sym (twin_thread rs ss a twins) ∙ is.same_thread ∙ twin_thread rs ss b twins;
  next =
      λ k after before same.
      is.next k after before (twin_thread rs ss k twins ∙ same ∙ sym (twin_thread rs ss a twins));
}

twin_followed : (rs ss : List Record) (a b : ℕ) → AreTwins rs ss → AreFollowed rs a b → AreFollowed ss a b
twin_followed rs ss a b twins is = record {
  task = is.task;
  items = is.items;
  is_created = twin_says created_with_deps blind_created_with_deps is.task rs ss a twins is.is_created;
  listed = twin_says dependences blind_dependences (is.task, is.items) rs ss b twins is.listed;
  next = twin_next rs ss a b twins is.next;
}

twin_misplaced : (rs ss : List Record) (i : ℕ) → AreTwins rs ss → HasMisplacedDeps rs i
    → HasMisplacedDeps ss i
twin_misplaced rs ss i twins (stray lists none) =
    stray (ap is_some (sym (twin_at dependences blind_dependences rs ss i twins)) ∙ lists)
    (λ a is. none a (twin_followed ss rs a i (twins_back rs ss twins) is))
twin_misplaced rs ss i twins (missing creates none) =
    missing (ap is_some (sym (twin_at created_with_deps blind_created_with_deps rs ss i twins)) ∙ creates)
    (λ b is. none b (twin_followed ss rs i b (twins_back rs ss twins) is))

-- ---- the ledger

pub twin_finishing : (rs ss : List Record) (i : ℕ) → AreTwins rs ss → IsFinishing rs i → IsFinishing ss i
twin_finishing rs ss i twins is = ap is_some (sym (twin_at finish blind_finish rs ss i twins)) ∙ is

twin_repeats : (rs ss : List Record) (i : ℕ) → AreTwins rs ss → RepeatsEntry rs i → RepeatsEntry ss i
twin_repeats rs ss i twins (k, below, one, other, same) = (
  k,
  below,
  twin_finishing rs ss k twins one,
  twin_finishing rs ss i twins other,
  sym (twin_seen rs ss k twins) ∙ same ∙ twin_seen rs ss i twins,
)

twin_entries : (rs ss : List Record) → AreTwins rs ss → entries_in rs ≡ entries_in ss
twin_entries rs ss twins =
    twin_count (λ (r : Record). is_some (finish r.body)) (λ r. ap is_some (blind_finish r.body)) rs ss twins

twin_ahead : (rs ss : List Record) (i : ℕ) → AreTwins rs ss → IsAhead rs i → IsAhead ss i
twin_ahead rs ss i twins (entry makes past) =
    entry (twin_finishing rs ss i twins makes)
    (omega (arith, twin_entries rs ss twins, twin_seen rs ss i twins, past))
twin_ahead rs ss i twins (ledger_length past) =
    ledger_length (omega (arith, twin_entries rs ss twins, twin_seen rs ss i twins, past))

pub twin_known : (rs ss : List Record) (i : ℕ) → AreTwins rs ss → known_after rs i ≡ known_after ss i
twin_known rs ss i twins =
    ap (λ b. cond b (seen_at rs i + 1) (seen_at rs i))
    (ap is_some (twin_at finish blind_finish rs ss i twins))
    ∙ ap (λ n. cond (is_some (at finish ss i)) (n + 1) n) (twin_seen rs ss i twins)

-- ---- all of these

-- the cause is of what records say beside turns, and of no walk, state or order
abbrev pub IsBlindCause : Cause → Type 0
IsBlindCause NotCurrent = ⊥
IsBlindCause NestedParallel = ⊥
IsBlindCause RegionNesting = ⊥
IsBlindCause TargetTask = ⊥
IsBlindCause Moved = ⊥
IsBlindCause TurnGap = ⊥
IsBlindCause StatusOrder = ⊥
IsBlindCause LengthBack = ⊥
IsBlindCause NoOrder = ⊥
IsBlindCause _ = Unit {0}

pub twin_cause : (rs ss : List Record) (i : ℕ) (cause : Cause) → IsBlindCause cause → AreTwins rs ss
    → HasCause rs i cause → HasCause ss i cause
twin_cause rs ss i SeqGap blind twins (seq_gap is) = seq_gap (twin_gap rs ss i twins is)
twin_cause rs ss i CreatedTwice blind twins (created_twice is) =
    created_twice (twin_made_again rs ss i twins is)
twin_cause rs ss i CreatedTwice blind twins (forked_twice is) =
    forked_twice (twin_forked_again rs ss i twins is)
twin_cause rs ss i Rootless blind twins (rootless is) = rootless (twin_rootless rs ss i twins is)
twin_cause rs ss i RegionOrder blind twins has = (renamed_order (twin_renaming rs ss twins) i).0 has
twin_cause rs ss i TeamShort blind twins has = (renamed_short (twin_renaming rs ss twins) i).0 has
twin_cause rs ss i DepsPlace blind twins (deps_place is) = deps_place (twin_misplaced rs ss i twins is)
twin_cause rs ss i ShareWrong blind twins has = (renamed_share (twin_renaming rs ss twins) i).0 has
twin_cause rs ss i EntryTwice blind twins (entry_twice is) = entry_twice (twin_repeats rs ss i twins is)
twin_cause rs ss i LengthAhead blind twins (length_ahead is) = length_ahead (twin_ahead rs ss i twins is)
twin_cause rs ss i NotCurrent blind twins has = absurd blind
twin_cause rs ss i NestedParallel blind twins has = absurd blind
twin_cause rs ss i RegionNesting blind twins has = absurd blind
twin_cause rs ss i TargetTask blind twins has = absurd blind
twin_cause rs ss i Moved blind twins has = absurd blind
twin_cause rs ss i TurnGap blind twins has = absurd blind
twin_cause rs ss i StatusOrder blind twins has = absurd blind
twin_cause rs ss i LengthBack blind twins has = absurd blind
twin_cause rs ss i NoOrder blind twins has = absurd blind
