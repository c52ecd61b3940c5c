-- What is known of all records where a watch has taken them, and they may be all.
use Rattle.std.proofs.Common.{ℕ, ◌≡◌, ◌≤◌, ◌∙◌, List, length, Option, Some, None, refl, sym, ap, arith, inl}
use Rattle.std.proofs.Common.{inr, ◌⊎◌}
use Rattle.std.specs.Prelude.{Contains}
use Rattle.std.proofs.lemmas.Bool.{cases_lt}
use Rattle.std.proofs.lemmas.Option.{none-some, same_Some}
use Rattle.ompt_events.specs.declared.records.Record.{Record}
use Rattle.ompt_events.specs.declared.cause.Cause.{Cause}
use Rattle.ompt_events.specs.declared.cause.Cause.TheVariants.{CreatedTwice, TeamShort}
use Rattle.ompt_events.specs.Causes.{HasCause, IsFreeOf}
use Rattle.ompt_events.specs.Completion.{IsCompleteAt}
use Rattle.ompt_events.specs.Coverage.{IsFamily}
use Rattle.ompt_events.specs.Linearization.{IsLinearization, IsGreedy}
use Rattle.ompt_events.specs.Places.{places, seen_at}
use Rattle.ompt_events.specs.Records.{running}
use Rattle.ompt_events.specs.Regions.{IsBarrierBegin}
use Rattle.ompt_events.specs.Teams.{members, IsTeammate, alone, together}
use Rattle.ompt_events.specs.Tree.{children_before}
use Rattle.ompt_events.specs.Violations.{IsRequired}
use Rattle.ompt_events.proofs.PlaceLemmas.{at_within}
use Rattle.ompt_events.proofs.TreeLemmas.{before_child}
use Rattle.scripts.proofs.MovedParts.{none_without_state}
use Rattle.online.specs.declared.items.Items.{Items}
use Rattle.online.specs.declared.kin.Kin.{Kin}
use Rattle.online.specs.declared.team.Team.{Team}
use Rattle.online.specs.declared.watch.Watch.{Watch}
use Rattle.online.specs.Kept.{kept_by, teams_by}
use Rattle.online.specs.Items.{IsItemsOf, awaited_of}
use Rattle.online.specs.Online.{IsWatchable, AreForked, NoneAwaited, awaited_by}
use Rattle.online.specs.Online.{HasWholeTeam, HasTeamBegun, IsBarrierSettled}
use Rattle.online.specs.Replays.{script_of}
use Rattle.online.specs.Rosters as rosters
use Rattle.online.specs.Rosters.{AreWhole}
use Rattle.online.specs.Tasks.{value_of}
use Rattle.online.specs.Teams.{AreTeamsOf, AreBarriersBegun, IsMemberOf}
use Rattle.online.specs.Watches.{IsWatchOf}
use Rattle.online.proofs.BarrierLemmas.{region_begin, barrier_runs}
use Rattle.online.proofs.ClearLaw.{none_shown}
use Rattle.online.proofs.EndLemmas.{complete_at}
use Rattle.online.proofs.ListOrder.{awaited_missing}
use Rattle.online.proofs.OrderLemmas.{order_linear, order_greedy}
use Rattle.online.proofs.PassLemmas.{none_twice}
use Rattle.online.proofs.PhaseLemmas.{phase_number}
use Rattle.online.proofs.ReplayEnds.{replayed_share}
use Rattle.online.proofs.ReplayLaw.{replayed_whole, replayed_records}
use Rattle.online.proofs.RosterLaw.{none_lacks, end_within}
use Rattle.online.proofs.SettledLemmas.{settled_complete}
use Rattle.online.proofs.TeamLemmas.{member_place}
use Rattle.online.proofs.WatchLemmas.{watchable_exactly}

-- where no list is missing, no thread awaits one
pub none_awaited : (rs : List Record) (items : Items) → IsItemsOf rs items
    → ((parent : ℕ) → awaited_of items parent ≡ None) → NoneAwaited rs
none_awaited rs items is none thread = of (awaited_by thread rs) refl
  where
    of : (o : Option ℕ) → awaited_by thread rs ≡ o → awaited_by thread rs ≡ None
    of None same = same
    of (Some task) same =
        let (parent, awaits, missing) = awaited_missing rs items is thread task same in
        absurd (none-some task (sym (none parent) ∙ awaits))

watched_once : (rs : List Record) (w : Watch) → IsWatchOf rs w → IsFreeOf rs CreatedTwice
watched_once rs w kept = none_twice rs kept.passes

watched_order : (rs : List Record) (w : Watch) → IsWatchOf rs w → IsWatchable rs
watched_order rs w kept = (watchable_exactly rs (watched_once rs w kept)).0 kept.comes

-- ---- barriers

-- who is in a team that lacks no member has as many teammates as its size
whole_team : (rs : List Record) → AreWhole rs → (task : ℕ) → HasWholeTeam rs task
whole_team rs whole task parallel m has same = elim (cases_lt (length (members rs parallel)) m.actual) [
  | inl less ↦
      let is = member_place rs parallel (length rs) m has in
      let there = ap (λ t. length (members rs t)) is.same in
      absurd (whole is.place (rosters.few m is.joins (omega (arith, less, there))))
  | inr most ↦ most
]

begun_by : (rs : List Record) → AreWhole rs → AreBarriersBegun rs → (i : ℕ) → HasTeamBegun rs i
begun_by rs whole begun i own begin number kind is barrier begins =
    (whole_team rs whole own, λ member mate. begun i own begin member number kind is barrier begins mate)

-- what the end of a member's barrier covers by all records is complete there
pub barriers_settled : (rs : List Record) (table : ℕ → Option Kin) (teams : ℕ → Option Team)
    → AreTeamsOf rs table teams → (i : ℕ) → IsBarrierSettled rs i
barriers_settled rs table teams kept i own begin member number start kind is barrier begins mate starts =
    of mate starts
  where
    -- the only teammate of an initial task is the task
    early : start ≡ begin → start ≤ i
    early same = let low = region_begin rs i own kind begin is in omega (arith, low, same)

    complete : (parallel : ℕ) → IsMemberOf rs parallel own → (other : ℕ) → IsMemberOf rs parallel other
        → IsBarrierBegin rs other number start → (first task : ℕ)
        → Contains (children_before rs other start) first → IsFamily rs first task → IsCompleteAt rs task i
    complete parallel mine other theirs starts' first task has family =
        let (k, low, creates) = before_child rs other first start has in
        let inside = at_within running rs start other (barrier_runs rs other number start starts') in
        let phase = phase_number rs other number start k starts' (omega (arith, low)) inside in
        let settled =
        kept.ends.settled i parallel number (end_within rs i own begin kind is)
        (record {
          own = own;
          begin = begin;
          kind = kind;
          ends = is;
          barrier = barrier;
          begins = begins;
          member = mine;
        })
        first (k, other, theirs, creates, phase) in
        complete_at rs task i (seen_at rs i) (omega arith) (settled task family)

    of : {other : ℕ} → IsTeammate rs own other → IsBarrierBegin rs other number start
        → (start ≤ i)
        ⊎ ((first task : ℕ) → Contains (children_before rs other start) first → IsFamily rs first task
        → IsCompleteAt rs task i)
    of (alone single) starts' = inl (early (same_Some start begin (sym starts' ∙ begins)))
    of (together parallel mine other has same has_other) starts' =
        inr (complete parallel (mine, has, same) other.member (other, has_other, refl) starts')

-- ---- all records

watched_teams : (rs : List Record) → AreWhole rs → AreBarriersBegun rs → IsFreeOf rs TeamShort
watched_teams rs whole begun = none_lacks rs whole (begun_by rs whole begun)

-- no record has a cause
pub watched_clear : (rs : List Record) (w : Watch) → IsWatchOf rs w → AreForked rs → AreWhole rs
    → AreBarriersBegun rs → NoneAwaited rs → (i : ℕ) (cause : Cause) → HasCause rs i cause → ⊥
watched_clear rs w kept forks whole begun none =
    let nests = w.replay.nests in
    let replayed = kept.replay.replayed in
    none_shown rs (watched_order rs w kept) kept.passes forks none
    (none_without_state (script_of nests rs) rs (replayed_whole nests rs (value_of w.replay.tasks) replayed)
    (replayed_records nests rs (value_of w.replay.tasks) replayed))
    (watched_teams rs whole begun) (replayed_share nests rs (value_of w.replay.tasks) replayed)

-- all is complete that must be
pub watched_complete : (rs : List Record) (w : Watch) → IsWatchOf rs w → NoneAwaited rs → (i task : ℕ)
    → IsRequired rs i task → IsCompleteAt rs task i
watched_complete rs w kept none =
    settled_complete rs (watched_order rs w kept) kept.passes none
    (barriers_settled rs (kept_by w.waits) (teams_by w.waits) kept.teams) kept.settled

-- and file order is the order that a yes tells
pub watched_linear : (rs : List Record) (w : Watch) → IsWatchOf rs w → IsLinearization rs (places rs)
watched_linear rs w kept = order_linear rs (watched_order rs w kept).in_order

pub watched_greedy : (rs : List Record) (w : Watch) → IsWatchOf rs w → IsGreedy rs (places rs)
watched_greedy rs w kept = order_greedy rs (watched_order rs w kept).in_order
