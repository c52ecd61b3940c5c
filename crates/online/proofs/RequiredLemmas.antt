-- What must be complete at a record, by the first records and by all.
use Rattle.std.proofs.Common.{◌∙◌, ℕ, ◌<◌, List, ◌++◌, length, sym, inl, inr}
use Rattle.std.specs.Prelude.{◌↔◌}
use Rattle.ompt_events.specs.declared.records.Record.{Record}
use Rattle.ompt_events.specs.declared.cause.Cause.TheVariants.{CreatedTwice}
use Rattle.ompt_events.specs.Records.{started, wait_completed}
use Rattle.ompt_events.specs.Completion.{IsCompleteAt}
use Rattle.ompt_events.specs.Dependences.{IsPredecessor}
use Rattle.ompt_events.specs.Violations.{IsRequired, covered, preceding, awaited}
use Rattle.ompt_events.specs.Causes.{IsFreeOf}
use Rattle.ompt_events.proofs.TurnLemmas.{start_starts}
use Rattle.online.specs.Online.{IsWatchable, EndsLast, AreBegun, IsBarrierSettled, AreListed, IsDependentAt}
use Rattle.online.proofs.ReadLemmas.{IsSameTo, same_append, same_whole, at_same}
use Rattle.online.proofs.NameLemmas.{explicit_same, started_named, read_whole}
use Rattle.online.proofs.CurrentLemmas.{named_by}
use Rattle.online.proofs.NestingLemmas.{start_same}
use Rattle.online.proofs.CompleteLemmas.{explicit_stays, complete_stays, complete_back}
use Rattle.online.proofs.CoverLemmas.{cover_stays, cover_back, covered_settled}
use Rattle.online.proofs.PrecededLemmas.{preceded_stays, preceded_back}

dependent_stays : (before after : List Record) (i dependent : ℕ) → i < length before
    → IsDependentAt before i dependent → IsDependentAt (before ++ after) i dependent
dependent_stays before after i dependent below is = of is
  where
    same : IsSameTo (length before) before (before ++ after)
    same = same_whole before after

    of : IsDependentAt before i dependent → IsDependentAt (before ++ after) i dependent
    of (inl (explicit, start)) =
        inl (
          explicit_stays before after dependent explicit,
          start_same (length before) before (before ++ after) same i dependent below start,
        )
    of (inr waits) =
        inr (sym (at_same wait_completed (length before) before (before ++ after) same i below) ∙ waits)

dependent_back : (before after : List Record) (i dependent : ℕ) → IsWatchable (before ++ after)
    → IsFreeOf (before ++ after) CreatedTwice → i < length before
    → IsDependentAt (before ++ after) i dependent → IsDependentAt before i dependent
dependent_back before after i dependent watchable once below is = of is
  where
    same : IsSameTo (length before) (before ++ after) before
    same = same_append before after

    of : IsDependentAt (before ++ after) i dependent → IsDependentAt before i dependent
    of (inl (explicit, start)) =
        let read = read_whole before after watchable once in
        let runs = start_starts (before ++ after) i dependent start in
        let name = named_by started started_named (before ++ after) i dependent runs in
        inl (
          explicit_same (length before) (before ++ after) before same read dependent
              (read.named i dependent below name) explicit,
          start_same (length before) (before ++ after) before same i dependent below start,
        )
    of (inr waits) =
        inr (sym (at_same wait_completed (length before) (before ++ after) before same i below) ∙ waits)

pub dependent_kept : (before after : List Record) (i dependent : ℕ) → IsWatchable (before ++ after)
    → IsFreeOf (before ++ after) CreatedTwice → i < length before
    → IsDependentAt before i dependent ↔ IsDependentAt (before ++ after) i dependent
dependent_kept before after i dependent watchable once below = (
  dependent_stays before after i dependent below,
  dependent_back before after i dependent watchable once below,
)

-- the predecessors of a dependent task are required
owed : (rs : List Record) (i dependent task : ℕ) → IsDependentAt rs i dependent
    → IsPredecessor rs dependent task → IsRequired rs i task
owed rs i dependent task (inl (explicit, start)) is = preceding explicit start is
owed rs i dependent task (inr waits) is = awaited waits is

-- what is required by the first records is required by all
required_stays : (before after : List Record) (i task : ℕ) → i < length before → IsRequired before i task
    → IsRequired (before ++ after) i task
required_stays before after i task below (covered covers) =
    covered (cover_stays before after i task below covers)
required_stays before after i task below (preceding {dependent = dependent} explicit start is) =
    owed (before ++ after) i dependent task
    (dependent_stays before after i dependent below (inl (explicit, start)))
    (preceded_stays before after dependent task is)
required_stays before after i task below (awaited {dependent = dependent} waits is) =
    owed (before ++ after) i dependent task (dependent_stays before after i dependent below (inr waits))
    (preceded_stays before after dependent task is)

-- and the other way round, where all that is so by the first is complete
required_back : (before after : List Record) (i : ℕ) → IsWatchable (before ++ after)
    → IsFreeOf (before ++ after) CreatedTwice → EndsLast (before ++ after) → i < length before
    → AreBegun (before ++ after) (length before) i
    → ((dependent : ℕ) → IsDependentAt (before ++ after) i dependent
    → AreListed (before ++ after) (length before) dependent)
    → ((task : ℕ) → IsRequired before i task → IsCompleteAt before task i) → (task : ℕ)
    → IsRequired (before ++ after) i task → IsRequired before i task
required_back before after i watchable once last below begun listed complete task required = of required
  where
    from : (dependent : ℕ) → IsDependentAt (before ++ after) i dependent
        → IsPredecessor (before ++ after) dependent task → IsRequired before i task
    from dependent there is =
        owed before i dependent task (dependent_back before after i dependent watchable once below there)
        (preceded_back before after i dependent task watchable once below there (listed dependent there) is)

    of : IsRequired (before ++ after) i task → IsRequired before i task
    of (covered covers) =
        covered
        (cover_back before after i watchable once last below begun (λ t is. complete t (covered is)) task
        covers)
    of (preceding {dependent = dependent} explicit start is) = from dependent (inl (explicit, start)) is
    of (awaited {dependent = dependent} waits is) = from dependent (inr waits) is

-- all is complete that must be, where it is by the first records, and of a barrier the begins that count
-- stand at i or before, or what they add is complete there
pub required_settled : (before after : List Record) (i : ℕ) → IsWatchable (before ++ after)
    → IsFreeOf (before ++ after) CreatedTwice → EndsLast (before ++ after) → i < length before
    → IsBarrierSettled (before ++ after) i
    → ((dependent : ℕ) → IsDependentAt (before ++ after) i dependent
    → AreListed (before ++ after) (length before) dependent)
    → ((task : ℕ) → IsRequired before i task → IsCompleteAt before task i) → (task : ℕ)
    → IsRequired (before ++ after) i task → IsCompleteAt (before ++ after) task i
required_settled before after i watchable once last below settled listed complete task required = of required
  where
    from : (dependent : ℕ) → IsDependentAt (before ++ after) i dependent
        → IsPredecessor (before ++ after) dependent task → IsCompleteAt (before ++ after) task i
    from dependent there is =
        complete_stays before after i task below
        (complete task
        (owed before i dependent task (dependent_back before after i dependent watchable once below there)
        (preceded_back before after i dependent task watchable once below there (listed dependent there) is)))

    of : IsRequired (before ++ after) i task → IsCompleteAt (before ++ after) task i
    of (covered covers) =
        covered_settled before after i watchable once last below settled (λ t is. complete t (covered is))
        task
        covers
    of (preceding {dependent = dependent} explicit start is) = from dependent (inl (explicit, start)) is
    of (awaited {dependent = dependent} waits is) = from dependent (inr waits) is

pub required_same : (before after : List Record) (i : ℕ) → IsWatchable (before ++ after)
    → IsFreeOf (before ++ after) CreatedTwice → EndsLast (before ++ after) → i < length before
    → AreBegun (before ++ after) (length before) i
    → ((dependent : ℕ) → IsDependentAt (before ++ after) i dependent
    → AreListed (before ++ after) (length before) dependent)
    → ((task : ℕ) → IsRequired before i task → IsCompleteAt before task i)
    ↔ ((task : ℕ) → IsRequired (before ++ after) i task → IsCompleteAt (before ++ after) task i)
required_same before after i watchable once last below begun listed = (
  λ complete task is.
      complete_stays before after i task below
      (complete task (required_back before after i watchable once last below begun listed complete task is)),
  λ complete task is.
      complete_back before after i task watchable once below
      (complete task (required_stays before after i task below is)),
)
