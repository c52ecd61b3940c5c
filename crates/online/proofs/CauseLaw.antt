-- Which causes a record shows when it is read.
use Rattle.std.proofs.Common.{◌≡◌, ℕ, ◌<◌, true, List, ◌++◌, length, arith}
use Rattle.std.proofs.lemmas.Bool.{false≢true}
use Rattle.ompt_events.specs.declared.records.Record.{Record}
use Rattle.ompt_events.specs.declared.cause.Cause.{Cause}
use Rattle.ompt_events.specs.declared.cause.Cause.TheVariants.{CreatedTwice}
use Rattle.ompt_events.specs.HappensBefore.{program}
use Rattle.ompt_events.specs.Causes.{HasCause, IsFreeOf, seq_gap, created_twice, forked_twice, rootless}
use Rattle.ompt_events.specs.Causes.{not_current, moved, turn_gap, status_order, region_order, barrier_order}
use Rattle.ompt_events.specs.Causes.{team_short, nested_parallel, region_nesting, deps_place, share_wrong}
use Rattle.ompt_events.specs.Causes.{entry_twice, length_ahead, length_back, no_order, target_task}
use Rattle.ompt_events.proofs.HappensBeforeLemmas.{step_from}
use Rattle.online.specs.Online.{IsWatchable, is_told_at_once, stays_told}
use Rattle.online.proofs.OrderLemmas.{steps_forward}
use Rattle.online.proofs.ReadLemmas.{IsSameTo, same_append, same_whole, seq_same, made_same, forked_same}
use Rattle.online.proofs.NameLemmas.{IsRead, read_whole, read_part, whole_long}
use Rattle.online.proofs.CurrentLemmas.{current_same, moved_same, gap_left, begin_same, barrier_same}
use Rattle.online.proofs.NestingLemmas.{nested_same, misnested_same, repeat_same, behind_same, target_same}

pub shown_at_once : (before after : List Record) (i : ℕ) (cause : Cause) → IsWatchable (before ++ after)
    → IsFreeOf (before ++ after) CreatedTwice → is_told_at_once cause ≡ true → i < length before
    → HasCause (before ++ after) i cause → HasCause before i cause
shown_at_once before after i cause watchable once told below h = of h told
  where
    n : ℕ
    n = length before

    same : IsSameTo (length before) (before ++ after) before
    same = same_append before after

    read : IsRead (length before) (before ++ after)
    read = read_whole before after watchable once

    other : IsRead (length before) before
    other = read_part before after watchable

    of : {c : Cause} → HasCause (before ++ after) i c → is_told_at_once c ≡ true → HasCause before i c
    of (seq_gap g) is = seq_gap (seq_same n (before ++ after) before same i below g)
    of (created_twice g) is = created_twice (made_same n (before ++ after) before same i below g)
    of (forked_twice g) is = forked_twice (forked_same n (before ++ after) before same i below g)
    of (rootless g) is = absurd (false≢true is)
    of (not_current g) is = not_current (current_same n (before ++ after) before same read other i below g)
    of (moved g) is = moved (moved_same n (before ++ after) before same read i below g)
    of (turn_gap g) is = turn_gap (gap_left n (before ++ after) before same read (omega arith) i below g)
    of (status_order g) is = absurd (false≢true is)
    of (region_order g) is = region_order (begin_same n (before ++ after) before same i below g)
    of (barrier_order g) is = barrier_order (barrier_same n (before ++ after) before same read i below g)
    of (team_short g) is = absurd (false≢true is)
    of (nested_parallel g) is =
        nested_parallel
        (nested_same n (before ++ after) before same read other (whole_long before after) i below g)
    of (region_nesting g) is = region_nesting (misnested_same n (before ++ after) before same i below g)
    of (deps_place g) is = absurd (false≢true is)
    of (share_wrong g) is = absurd (false≢true is)
    of (entry_twice g) is = entry_twice (repeat_same n (before ++ after) before same i below g)
    of (length_ahead g) is = absurd (false≢true is)
    of (length_back g) is =
        length_back (behind_same n (before ++ after) before same (omega arith) i below
        (λ k steps.
        let less = steps_forward (before ++ after) watchable.in_order k i (program steps) in
        omega (arith, less, below)) g)
    of (no_order g) is = absurd (false≢true is)
    of (target_task g) is = target_task (target_same n (before ++ after) before same i below g)

pub stays_shown : (before after : List Record) (i : ℕ) (cause : Cause) → IsWatchable (before ++ after)
    → IsFreeOf (before ++ after) CreatedTwice → stays_told cause ≡ true → i < length before
    → HasCause before i cause → HasCause (before ++ after) i cause
stays_shown before after i cause watchable once told below h = of h told
  where
    n : ℕ
    n = length before

    same : IsSameTo (length before) before (before ++ after)
    same = same_whole before after

    read : IsRead (length before) before
    read = read_part before after watchable

    other : IsRead (length before) (before ++ after)
    other = read_whole before after watchable once

    of : {c : Cause} → HasCause before i c → stays_told c ≡ true → HasCause (before ++ after) i c
    of (seq_gap g) is = seq_gap (seq_same n before (before ++ after) same i below g)
    of (created_twice g) is = created_twice (made_same n before (before ++ after) same i below g)
    of (forked_twice g) is = forked_twice (forked_same n before (before ++ after) same i below g)
    of (rootless g) is = absurd (false≢true is)
    of (not_current g) is = not_current (current_same n before (before ++ after) same read other i below g)
    of (moved g) is = moved (moved_same n before (before ++ after) same read i below g)
    of (turn_gap g) is = absurd (false≢true is)
    of (status_order g) is = absurd (false≢true is)
    of (region_order g) is = region_order (begin_same n before (before ++ after) same i below g)
    of (barrier_order g) is = barrier_order (barrier_same n before (before ++ after) same read i below g)
    of (team_short g) is = absurd (false≢true is)
    of (nested_parallel g) is =
        nested_parallel (nested_same n before (before ++ after) same read other (omega arith) i below g)
    of (region_nesting g) is = region_nesting (misnested_same n before (before ++ after) same i below g)
    of (deps_place g) is = absurd (false≢true is)
    of (share_wrong g) is = absurd (false≢true is)
    of (entry_twice g) is = entry_twice (repeat_same n before (before ++ after) same i below g)
    of (length_ahead g) is = absurd (false≢true is)
    of (length_back g) is =
        length_back (behind_same n before (before ++ after) same (whole_long before after) i below
        (λ k steps. step_from before k i (program steps)) g)
    of (no_order g) is = absurd (false≢true is)
    of (target_task g) is = target_task (target_same n before (before ++ after) same i below g)
