-- The tests at each record and at the end exclude all causes.
use Rattle.std.proofs.Common.{◌≡◌, ◌∙◌, ℕ, zero, suc, ◌<◌, ◌+◌, true, List, Some, refl, sym, ap}
use Rattle.std.proofs.Common.{arith, inl, inr}
use Rattle.std.proofs.lemmas.Bool.{cases_lt}
use Rattle.std.proofs.lemmas.Option.{same_Some}
use Rattle.ompt_events.specs.declared.records.Record.{Record}
use Rattle.ompt_events.specs.declared.cause.Cause.{Cause}
use Rattle.ompt_events.specs.declared.cause.Cause.TheVariants.{Rootless, StatusOrder, TeamShort, ShareWrong}
use Rattle.ompt_events.specs.declared.cause.Cause.TheVariants.{LengthAhead, NoOrder, SeqGap, CreatedTwice}
use Rattle.ompt_events.specs.declared.cause.Cause.TheVariants.{NotCurrent, Moved, TurnGap, RegionOrder}
use Rattle.ompt_events.specs.declared.cause.Cause.TheVariants.{NestedParallel, RegionNesting, EntryTwice}
use Rattle.ompt_events.specs.declared.cause.Cause.TheVariants.{LengthBack, TargetTask}
use Rattle.ompt_events.specs.Records.{made, created, begun_root, running}
use Rattle.ompt_events.specs.Places.{at, places}
use Rattle.ompt_events.specs.Tree.{IsCreatedAt, IsRooted, root, child}
use Rattle.ompt_events.specs.Causes.{HasCause, IsFreeOf, unmade, unrooted, no_region, entry, ledger_length}
use Rattle.ompt_events.specs.Causes.{seq_gap, created_twice, forked_twice, rootless, not_current, moved}
use Rattle.ompt_events.specs.Causes.{turn_gap, status_order, region_order, barrier_order, team_short}
use Rattle.ompt_events.specs.Causes.{nested_parallel, region_nesting, deps_place, share_wrong, entry_twice}
use Rattle.ompt_events.specs.Causes.{length_ahead, length_back, no_order, target_task, entries_in}
use Rattle.ompt_events.proofs.RecordLemmas.{made_cases, created_at_creation, creation_at_running}
use Rattle.ompt_events.proofs.RecordLemmas.{created_at_made}
use Rattle.ompt_events.proofs.PlaceLemmas.{at_get, get_at, seen_within, contains_place}
use Rattle.ompt_events.proofs.FileOrderLemmas.{entries_more, entries_all}
use Rattle.ompt_events.proofs.LinearizationLemmas.{greedy_grounded}
use Rattle.online.specs.Online.{IsWatchable, is_told_at_once, EachRecord, PassesAfter, AreForked}
use Rattle.online.specs.Online.{NoneAwaited}
use Rattle.online.proofs.OrderLemmas.{order_greedy}
use Rattle.online.proofs.NameLemmas.{running_named}
use Rattle.online.proofs.CurrentLemmas.{named_by}
use Rattle.online.proofs.PassLemmas.{none_twice, none_told}
use Rattle.online.proofs.CreatorLemmas.{none_of_itself}
use Rattle.online.proofs.AwaitLemmas.{none_misplaced}

-- ---- causes that are not told at once

-- each task that is made has a root: its creator is made before it, and so on
made_rooted : (rs : List Record) → IsWatchable rs → ((i task : ℕ) → IsCreatedAt rs i task task → ⊥)
    → (n i task : ℕ) → i < n → at made rs i ≡ Some task → IsRooted rs task
made_rooted rs watchable alone zero i task low makes = absurd (omega (arith, low))
made_rooted rs watchable alone (suc n) i task low makes =
    let (r, here, is) = get_at made rs i task makes in
    elim (made_cases task r.body is) [
      | inl begins ↦ root (i, at_get begun_root rs i r here ∙ begins)
      | inr creates ↦
          let (parent, from) = created_at_creation task rs i (at_get created rs i r here ∙ creates) in
          let name = named_by running running_named rs i parent (creation_at_running parent task rs i from) in
          let (k, early, first) = watchable.named i parent name in
          child i from (elim (cases_lt k i) [
            | inl less ↦ made_rooted rs watchable alone n k parent (omega (arith, less, low)) first
            | inr least ↦
                let place : k ≡ i = omega (arith, early, least) in
                let own : task ≡ parent =
                same_Some task parent (sym makes ∙ ap (at made rs) (sym place) ∙ first) in
                absurd (alone i parent (from ∙ ap (λ t. Some (parent, t)) own))
          ])
    ]

none_rootless : (rs : List Record) → IsWatchable rs → EachRecord PassesAfter rs → AreForked rs
    → IsFreeOf rs Rootless
none_rootless rs watchable passes forks i (rootless (unmade task name none)) =
    let found = watchable.named i task name in none (found.0, found.2)
none_rootless rs watchable passes forks i (rootless (unrooted task creates none)) =
    let once = none_twice rs passes in
    let alone =
    none_of_itself rs watchable once (λ k h. none_told rs watchable passes k NotCurrent refl h) in
    none (made_rooted rs watchable alone (i + 1) i task (omega arith) (created_at_made task rs i creates))
none_rootless rs watchable passes forks i (rootless (no_region parallel names none)) =
    none (forks i parallel names)

-- no record names more entries than are before it
none_ahead : (rs : List Record) → IsWatchable rs → IsFreeOf rs LengthAhead
none_ahead rs watchable i (length_ahead (entry makes most)) =
    let own = watchable.in_order.enters i makes in
    let more = entries_more rs i makes in
    let all = entries_all rs (i + 1) in
    omega (arith, own, more, all, most)
none_ahead rs watchable i (length_ahead (ledger_length most)) =
    let named = watchable.in_order.names i (seen_within rs i (entries_in rs) most) in
    let all = entries_all rs i in
    omega (arith, named, all, most)

-- file order is an order, so each record is in one
none_unordered : (rs : List Record) → IsWatchable rs → IsFreeOf rs NoOrder
none_unordered rs watchable i (no_order h) =
    h.never (places rs) (greedy_grounded rs (places rs) (order_greedy rs watchable.in_order))
    (contains_place rs i h.within)

-- ---- all causes

pub none_shown : (rs : List Record) → IsWatchable rs → EachRecord PassesAfter rs → AreForked rs
    → NoneAwaited rs → IsFreeOf rs StatusOrder → IsFreeOf rs TeamShort → IsFreeOf rs ShareWrong
    → (i : ℕ) (cause : Cause)
    → HasCause rs i cause → ⊥
none_shown rs watchable passes forks ends no_status no_team no_share i cause h = of h
  where
    told : (c : Cause) → is_told_at_once c ≡ true → HasCause rs i c → ⊥
    told = none_told rs watchable passes i

    of : {c : Cause} → HasCause rs i c → ⊥
    of (seq_gap g) = told SeqGap refl (seq_gap g)
    of (created_twice g) = told CreatedTwice refl (created_twice g)
    of (forked_twice g) = told CreatedTwice refl (forked_twice g)
    of (rootless g) = none_rootless rs watchable passes forks i (rootless g)
    of (not_current g) = told NotCurrent refl (not_current g)
    of (moved g) = told Moved refl (moved g)
    of (turn_gap g) = told TurnGap refl (turn_gap g)
    of (status_order g) = no_status i (status_order g)
    of (region_order g) = told RegionOrder refl (region_order g)
    of (barrier_order g) = told RegionOrder refl (barrier_order g)
    of (team_short g) = no_team i (team_short g)
    of (nested_parallel g) = told NestedParallel refl (nested_parallel g)
    of (region_nesting g) = told RegionNesting refl (region_nesting g)
    of (deps_place g) = none_misplaced rs (λ k r here. (passes k r here).in_place) ends i (deps_place g)
    of (share_wrong g) = no_share i (share_wrong g)
    of (entry_twice g) = told EntryTwice refl (entry_twice g)
    of (length_ahead g) = none_ahead rs watchable i (length_ahead g)
    of (length_back g) = told LengthBack refl (length_back g)
    of (no_order g) = none_unordered rs watchable i (no_order g)
    of (target_task g) = told TargetTask refl (target_task g)
