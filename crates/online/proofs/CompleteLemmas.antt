-- Which tasks are complete at a record, by the first records and by all.
use Rattle.std.proofs.Common.{◌≡◌, ◌∙◌, ℕ, ◌<◌, List, ◌++◌, length, Some, sym, ap, arith, inl, inr}
use Rattle.std.specs.Prelude.{is_some, ◌↔◌}
use Rattle.ompt_events.specs.declared.records.Record.{Record}
use Rattle.ompt_events.specs.declared.records.Part.{Part}
use Rattle.ompt_events.specs.declared.records.Part.TheVariants.{Whole, Body, Event}
use Rattle.ompt_events.specs.declared.cause.Cause.TheVariants.{CreatedTwice}
use Rattle.ompt_events.specs.Records.{created, started, finish}
use Rattle.ompt_events.specs.Places.{at, seen_at}
use Rattle.ompt_events.specs.Tree.{IsExplicit}
use Rattle.ompt_events.specs.HappensBefore.{IsFinishing, ledger}
use Rattle.ompt_events.specs.Completion.{IsPartFinished, StartsTask, CountsAt, IsCompleteAt}
use Rattle.ompt_events.specs.Causes.{IsFreeOf}
use Rattle.ompt_events.proofs.PlaceLemmas.{at_within}
use Rattle.ompt_events.proofs.HappensBeforeLemmas.{finishing_within}
use Rattle.ompt_events.proofs.TurnLemmas.{start_starts}
use Rattle.online.specs.Online.{IsWatchable}
use Rattle.online.proofs.OrderLemmas.{steps_forward}
use Rattle.online.proofs.ReadLemmas.{IsSameTo, same_append, same_whole, at_same, seen_same}
use Rattle.online.proofs.NameLemmas.{IsRead, explicit_same, started_named, read_whole}
use Rattle.online.proofs.CurrentLemmas.{named_by}
use Rattle.online.proofs.NestingLemmas.{start_same}

-- what is complete by one list is complete by the other, where all records that count are among the first n
complete_from : (n : ℕ) (xs ys : List Record) → IsSameTo n xs ys → (i task : ℕ) → i < n
    → ((k : ℕ) → IsFinishing xs k → seen_at xs k < seen_at xs i → k < n)
    → (StartsTask xs i → StartsTask ys i) → IsCompleteAt xs task i → IsCompleteAt ys task i
complete_from n xs ys same i task below low starts complete = of complete
  where
    counts : (k : ℕ) (part : Part) → at finish xs k ≡ Some (task, part) → CountsAt xs i k
        → (k < n) × CountsAt ys i k
    counts k part says (inl less) =
        let inside = low k (ap is_some says) less in
        let own = seen_same n xs ys same k inside in
        let here = seen_same n xs ys same i below in
        (inside, inl (omega (arith, own, here, less)))
    counts k part says (inr (is, begins)) = (omega (arith, is, below), inr (is, starts begins))

    of_part : (part : Part) → IsPartFinished xs (CountsAt xs i) task part
        → IsPartFinished ys (CountsAt ys i) task part
    of_part part (k, says, count) =
        let found = counts k part says count in
        (k, sym (at_same finish n xs ys same k found.0) ∙ says, found.1)

    of : IsCompleteAt xs task i → IsCompleteAt ys task i
    of (inl whole) = inl (of_part Whole whole)
    of (inr (body, event)) = inr (of_part Body body, of_part Event event)

pub explicit_stays : (before after : List Record) (task : ℕ) → IsExplicit before task
    → IsExplicit (before ++ after) task
explicit_stays before after task (j, creates) = (
  j,
  at_same created (length before) (before ++ after) before (same_append before after) j
      (at_within created before j task creates) ∙ creates,
)

-- what is complete by the first records stays so
pub complete_stays : (before after : List Record) (i task : ℕ) → i < length before
    → IsCompleteAt before task i → IsCompleteAt (before ++ after) task i
complete_stays before after i task below =
    complete_from n before (before ++ after) same i task below
    (λ k makes less. finishing_within before k makes) starts
  where
    n : ℕ
    n = length before

    same : IsSameTo (length before) before (before ++ after)
    same = same_whole before after

    starts : StartsTask before i → StartsTask (before ++ after) i
    starts (next, explicit, start) = (
      next,
      explicit_stays before after next explicit,
      start_same n before (before ++ after) same i next below start,
    )

-- and what is so by all is so by the first
pub complete_back : (before after : List Record) (i task : ℕ) → IsWatchable (before ++ after)
    → IsFreeOf (before ++ after) CreatedTwice → i < length before → IsCompleteAt (before ++ after) task i
    → IsCompleteAt before task i
complete_back before after i task watchable once below =
    complete_from n (before ++ after) before same i task below (
    λ k makes less.
    let earlier = steps_forward (before ++ after) watchable.in_order k i (ledger makes less) in
    omega (arith, earlier, below))
    starts
  where
    n : ℕ
    n = length before

    same : IsSameTo (length before) (before ++ after) before
    same = same_append before after

    read : IsRead (length before) (before ++ after)
    read = read_whole before after watchable once

    starts : StartsTask (before ++ after) i → StartsTask before i
    starts (next, explicit, start) =
        let runs = start_starts (before ++ after) i next start in
        let name = named_by started started_named (before ++ after) i next runs in (
          next,
          explicit_same n (before ++ after) before same read next (read.named i next below name) explicit,
          start_same n (before ++ after) before same i next below start,
        )

pub complete_same : (before after : List Record) (i task : ℕ) → IsWatchable (before ++ after)
    → IsFreeOf (before ++ after) CreatedTwice → i < length before
    → IsCompleteAt before task i ↔ IsCompleteAt (before ++ after) task i
complete_same before after i task watchable once below =
    (complete_stays before after i task below, complete_back before after i task watchable once below)
