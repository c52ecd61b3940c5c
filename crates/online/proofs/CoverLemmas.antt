-- What the end of a region covers, by the first records and by all.
use Rattle.std.proofs.Common.{◌≡◌, ◌≢◌, ◌∙◌, ℕ, ◌<◌, ◌≤◌, List, ◌++◌, length, Some, true, refl, sym, ap}
use Rattle.std.proofs.Common.{subst, arith, inl, inr, ◌⊎◌}
use Rattle.std.specs.Prelude.{is_some, Contains, drop}
use Rattle.ompt_events.specs.declared.records.Record.{Record}
use Rattle.ompt_events.specs.declared.records.Part.{Part}
use Rattle.ompt_events.specs.declared.records.Part.TheVariants.{Whole, Body, Event}
use Rattle.ompt_events.specs.declared.names.SyncKind.{SyncKind}
use Rattle.ompt_events.specs.declared.names.SyncKind.TheVariants.{Taskwait, Taskgroup}
use Rattle.ompt_events.specs.declared.names.Endpoint.{Endpoint}
use Rattle.ompt_events.specs.declared.names.Endpoint.TheVariants.{End, BeginEnd}
use Rattle.ompt_events.specs.declared.cause.Cause.TheVariants.{CreatedTwice}
use Rattle.ompt_events.specs.Records.{creation, region, running}
use Rattle.ompt_events.specs.Places.{at, seen_at}
use Rattle.ompt_events.specs.HappensBefore.{ledger}
use Rattle.ompt_events.specs.Tree.{children_before, children_between, child_number, IsDescendant, child}
use Rattle.ompt_events.specs.Tree.{deeper}
use Rattle.ompt_events.specs.Teams.{IsTeammate}
use Rattle.ompt_events.specs.Regions.{IsRegion, ended, at_once, is_barrier, IsBarrierBegin}
use Rattle.ompt_events.specs.Completion.{IsPartFinished, CountsAt, IsCompleteAt}
use Rattle.ompt_events.specs.Coverage.{IsFamily, Covers, waited, grouped, synchronised}
use Rattle.ompt_events.specs.Causes.{IsFreeOf}
use Rattle.ompt_events.proofs.PlaceLemmas.{at_within}
use Rattle.ompt_events.proofs.RecordLemmas.{at_through, region_running, creation_at_running}
use Rattle.ompt_events.proofs.RegionLemmas.{region_starts_none}
use Rattle.online.specs.Online.{IsInOrder, IsWatchable, EndsLast, AreBegun, IsBarrierSettled}
use Rattle.online.proofs.OrderLemmas.{steps_forward}
use Rattle.online.proofs.ReadLemmas.{IsSameTo, same_append, same_whole, at_same}
use Rattle.online.proofs.NameLemmas.{IsRead, IsMadeBelow, running_named, read_whole, whole_long}
use Rattle.online.proofs.CurrentLemmas.{named_by}
use Rattle.online.proofs.ChildLemmas.{children_read, descendant_high}
use Rattle.online.proofs.CompleteLemmas.{complete_stays}
use Rattle.online.proofs.BarrierLemmas.{region_same, region_begin, barrier_begin_back, barrier_begin_stays}
use Rattle.online.proofs.BarrierLemmas.{barrier_runs}
use Rattle.online.proofs.TeamLemmas.{teammate_back, teammate_stays}

-- ---- what an end covers

-- a member's barrier that counts for the end of one, by these records; it begins no later than n
record Meets (n : ℕ) (rs : List Record) (own begin member number start : ℕ) : Type 0 where
  pub low : start ≤ n
  pub begins : IsBarrierBegin rs own number begin
  pub mate : IsTeammate rs own member
  pub starts : IsBarrierBegin rs member number start

-- each that counts for the end at i by the records xs does so by ys, or what it adds is known to be as P says
abbrev AllMeet : (ℕ → Type 0) → ℕ → List Record → List Record → ℕ → Type 0
AllMeet P n xs ys i =
    (own begin member number start : ℕ) (kind : SyncKind) → IsRegion xs i own kind begin
    → is_barrier kind ≡ true → IsBarrierBegin xs own number begin → IsTeammate xs own member
    → IsBarrierBegin xs member number start
    → Meets n ys own begin member number start
    ⊎ ((first task : ℕ) → Contains (children_before xs member start) first → IsFamily xs first task → P task)

-- who is of a child's family by xs is so by ys, if by ys the end covers all who are
abbrev AreFamilies : List Record → List Record → ℕ → Type 0
AreFamilies xs ys i =
    (child : ℕ) → ((task : ℕ) → IsFamily ys child task → Covers ys i task) → (task : ℕ)
    → IsFamily xs child task → IsFamily ys child task

-- then the end covers by ys what it covers by xs, but for what is as P says
cover_same : (P : ℕ → Type 0) (n : ℕ) (xs ys : List Record) → IsSameTo n xs ys → (i : ℕ) → i < n
    → AllMeet P n xs ys i → AreFamilies xs ys i → (task : ℕ) → Covers xs i task → Covers ys i task ⊎ P task
cover_same P n xs ys same i below meet families task (waited {parent = parent} {begin = begin} is has) =
    let early = region_begin xs i parent Taskwait begin is in
    inl
    (waited (region_same n xs ys same i parent Taskwait begin below is)
    (subst (λ l. Contains l task) (children_read n xs ys same parent begin (omega (arith, early, below)))
    has))
cover_same P n xs ys same i below meet families task
    (grouped {parent = parent} {begin = begin} {child = first} is has family) =
    let early = region_begin xs i parent Taskgroup begin is in
    let there : children_between xs parent begin i ≡ children_between ys parent begin i =
    ap (λ l. drop (length l) (children_before xs parent i))
    (children_read n xs ys same parent begin (omega (arith, early, below)))
    ∙ ap (drop (child_number ys parent begin)) (children_read n xs ys same parent i (omega (arith, below))) in
    let region_there = region_same n xs ys same i parent Taskgroup begin below is in
    let has_there = subst (λ l. Contains l first) there has in
    inl
    (grouped region_there has_there
    (families first (λ other of_other. grouped region_there has_there of_other) task family))
cover_same P n xs ys same i below meet families task
    (synchronised {own = own} {begin = begin} {member = member} {start = start} {child = first} {kind = kind}
    number is barrier begins mate starts has family) =
    elim (meet own begin member number start kind is barrier begins mate starts) [
      | inl meets ↦
          let region_there = region_same n xs ys same i own kind begin below is in
          let has_there =
          subst (λ l. Contains l first) (children_read n xs ys same member start meets.low) has in
          inl
          (synchronised number region_there barrier meets.begins meets.mate meets.starts has_there
          (families first
          (λ other of_other.
          synchronised number region_there barrier meets.begins meets.mate meets.starts has_there of_other)
          task family))
      | inr known ↦ inr (known first task has family)
    ]

-- it covers all of it, where nothing is
cover_all : {rs : List Record} {i task : ℕ} → Covers rs i task ⊎ ⊥ → Covers rs i task
cover_all (inl covers) = covers
cover_all (inr never) = absurd never

-- ---- what is covered among the first records

pub region_says : (rs : List Record) (i own : ℕ) (kind : SyncKind) (begin : ℕ) → IsRegion rs i own kind begin
    → (endpoint : Endpoint) × (at region rs i ≡ Some (own, kind, endpoint))
region_says rs i own kind begin (ended is) = (End, is.ends)
region_says rs i own kind _ (at_once says) = (BeginEnd, says)

pub cover_stays : (before after : List Record) (i task : ℕ) → i < length before → Covers before i task
    → Covers (before ++ after) i task
cover_stays before after i task below covers =
    cover_all (cover_same (λ t. ⊥) n before (before ++ after) same i below meet families task covers)
  where
    n : ℕ
    n = length before

    same : IsSameTo (length before) before (before ++ after)
    same = same_whole before after

    meet : AllMeet (λ t. ⊥) (length before) before (before ++ after) i
    meet own begin member number start kind is barrier begins mate starts = inl (record {
      low =
          let runs = barrier_runs before member number start starts in
          let inside = at_within running before start member runs in
          omega (arith, inside);
      begins =
          barrier_begin_stays n before (before ++ after) same refl (whole_long before after) own number begin
          begins;
      mate = teammate_stays n before (before ++ after) same refl (whole_long before after) own member mate;
      starts =
          barrier_begin_stays n before (before ++ after) same refl (whole_long before after) member number
          start starts;
    })

    families : AreFamilies before (before ++ after) i
    families first covers other (inl is) = inl is
    families first covers other (inr below') =
        inr (descendant_high n before (before ++ after) same (omega arith) first other below')

-- ---- what is covered among all records

-- the end of a region at i starts no task, so what counts there makes an entry below the length there
counted_below : (rs : List Record) (i own : ℕ) (kind : SyncKind) (endpoint : Endpoint)
    → at region rs i ≡ Some (own, kind, endpoint) → (k : ℕ) → CountsAt rs i k → seen_at rs k < seen_at rs i
counted_below rs i own kind endpoint says k (inl less) = less
counted_below rs i own kind endpoint says k (inr (is, starts)) =
    absurd (region_starts_none rs i own kind endpoint says starts)

-- where a task is complete at the end of a region, all its own records stand before that
own_before_end : (rs : List Record) → IsInOrder rs → EndsLast rs → (i own : ℕ) (kind : SyncKind)
    (endpoint : Endpoint) → at region rs i ≡ Some (own, kind, endpoint) → (task : ℕ) → IsCompleteAt rs task i
    → (k : ℕ) → at running rs k ≡ Some task → k < i
own_before_end rs ordered last i own kind endpoint says task complete k runs = of complete
  where
    of_part : (part : Part) → part ≢ Event → IsPartFinished rs (CountsAt rs i) task part → k < i
    of_part part apart (e, ends, counts) =
        let less = counted_below rs i own kind endpoint says e counts in
        let earlier = steps_forward rs ordered e i (ledger (ap is_some ends) less) in
        let most = last task e k part ends apart runs in
        omega (arith, earlier, most)

    of : IsCompleteAt rs task i → k < i
    of (inl whole) = of_part Whole (λ is. cc) whole
    of (inr (body, event)) = of_part Body (λ is. cc) body

-- so all descendants of a child are made before the end, where those that are made before it are complete
family_back : (n : ℕ) (xs ys : List Record) → IsSameTo n xs ys → IsInOrder xs → EndsLast xs
    → (i own : ℕ) (kind : SyncKind) (endpoint : Endpoint) → i < n
    → at region xs i ≡ Some (own, kind, endpoint) → (first : ℕ)
    → ((task : ℕ) → IsFamily ys first task → IsCompleteAt xs task i) → (task : ℕ)
    → IsDescendant xs first task → IsDescendant ys first task
family_back n xs ys same ordered last i own kind endpoint below says first complete task (child j creates) =
    let earlier =
    own_before_end xs ordered last i own kind endpoint says first (complete first (inl refl)) j
    (creation_at_running first task xs j creates) in
    child j (sym (at_same creation n xs ys same j (omega (arith, earlier, below))) ∙ creates)
family_back n xs ys same ordered last i own kind endpoint below says first complete task
    (deeper j {parent = parent} rest creates) =
    let above =
    family_back n xs ys same ordered last i own kind endpoint below says first complete parent rest in
    let earlier =
    own_before_end xs ordered last i own kind endpoint says parent (complete parent (inr above)) j
    (creation_at_running parent task xs j creates) in
    deeper j above (sym (at_same creation n xs ys same j (omega (arith, earlier, below))) ∙ creates)

-- what an end covers has a region there
pub covers_region : (rs : List Record) (i task : ℕ) → Covers rs i task
    → (own : ℕ) × (kind : SyncKind) × (endpoint : Endpoint) × (at region rs i ≡ Some (own, kind, endpoint))
covers_region rs i task (waited {parent = parent} {begin = begin} is has) =
    let says = region_says rs i parent Taskwait begin is in (parent, Taskwait, says.0, says.1)
covers_region rs i task (grouped {parent = parent} {begin = begin} is has family) =
    let says = region_says rs i parent Taskgroup begin is in (parent, Taskgroup, says.0, says.1)
covers_region rs i task
    (synchronised {own = own} {begin = begin} {kind = kind} number is barrier begins mate starts has family) =
    let says = region_says rs i own kind begin is in (own, kind, says.0, says.1)

-- where a barrier ends at i, each begin that counts for it stands before the place n, or what it adds is as
-- P says
abbrev AreBegunOr : (ℕ → Type 0) → List Record → ℕ → ℕ → Type 0
AreBegunOr P rs n i =
    (own begin member number start : ℕ) (kind : SyncKind) → IsRegion rs i own kind begin
    → is_barrier kind ≡ true → IsBarrierBegin rs own number begin → IsTeammate rs own member
    → IsBarrierBegin rs member number start
    → (start < n)
    ⊎ ((first task : ℕ) → Contains (children_before rs member start) first → IsFamily rs first task → P task)

-- what the end covers by all records it covers by the first, or it is as P says
cover_back_or : (P : ℕ → Type 0) (before after : List Record) (i : ℕ) → IsWatchable (before ++ after)
    → IsFreeOf (before ++ after) CreatedTwice → EndsLast (before ++ after) → i < length before
    → AreBegunOr P (before ++ after) (length before) i
    → ((task : ℕ) → Covers before i task → IsCompleteAt before task i) → (task : ℕ)
    → Covers (before ++ after) i task → Covers before i task ⊎ P task
cover_back_or P before after i watchable once last below begun complete task covers =
    cover_same P n (before ++ after) before same i below meet families task covers
  where
    n : ℕ
    n = length before

    same : IsSameTo (length before) (before ++ after) before
    same = same_append before after

    read : IsRead (length before) (before ++ after)
    read = read_whole before after watchable once

    made_there : (k other : ℕ) → k < length before → at running (before ++ after) k ≡ Some other
        → IsMadeBelow (length before) (before ++ after) other
    made_there k other low runs =
        read.named k other low (named_by running running_named (before ++ after) k other runs)

    there : (own begin member number start : ℕ) (kind : SyncKind)
        → IsRegion (before ++ after) i own kind begin
        → IsBarrierBegin (before ++ after) own number begin → IsTeammate (before ++ after) own member
        → IsBarrierBegin (before ++ after) member number start → start < length before
        → Meets (length before) before own begin member number start
    there own begin member number start kind is begins mate starts low =
        let early = region_begin (before ++ after) i own kind begin is in
        let long = whole_long before after in
        let says = region_says (before ++ after) i own kind begin is in
        let runs =
        at_through region running (own, kind, says.0) own (before ++ after) i
        (region_running own kind says.0) says.1 in
        record {
          low = omega (arith, low);
          begins =
              barrier_begin_back n (before ++ after) before same long refl own number begin
              (omega (arith, early, below)) begins;
          mate =
              teammate_back n (before ++ after) before same read refl own member (made_there i own below runs)
              (made_there start member low (barrier_runs (before ++ after) member number start starts)) mate;
          starts =
              barrier_begin_back n (before ++ after) before same long refl member number start low starts;
        }

    meet : AllMeet P (length before) (before ++ after) before i
    meet own begin member number start kind is barrier begins mate starts =
        elim (begun own begin member number start kind is barrier begins mate starts) [
          | inl low ↦ inl (there own begin member number start kind is begins mate starts low)
          | inr known ↦ inr known
        ]

    families : AreFamilies (before ++ after) before i
    families first covered other (inl is) = inl is
    families first covered other (inr of_first) =
        let (own, kind, endpoint, says) = covers_region (before ++ after) i task covers in
        inr
        (family_back n (before ++ after) before same watchable.in_order last i own kind endpoint below says
        first
        (λ t of_family. complete_stays before after i t below (complete t (covered t of_family)))
        other of_first)

pub cover_back : (before after : List Record) (i : ℕ) → IsWatchable (before ++ after)
    → IsFreeOf (before ++ after) CreatedTwice → EndsLast (before ++ after) → i < length before
    → AreBegun (before ++ after) (length before) i
    → ((task : ℕ) → Covers before i task → IsCompleteAt before task i) → (task : ℕ)
    → Covers (before ++ after) i task → Covers before i task
cover_back before after i watchable once last below begun complete task covers =
    cover_all
    (cover_back_or (λ t. ⊥) before after i watchable once last below
    (λ own begin member number start kind is barrier begins mate starts.
    inl (begun own begin member number start kind is barrier begins mate starts))
    complete task covers)

-- all that an end covers is complete there, where that is so by the first records
pub covered_complete : (before after : List Record) (i : ℕ) → IsWatchable (before ++ after)
    → IsFreeOf (before ++ after) CreatedTwice → EndsLast (before ++ after) → i < length before
    → AreBegun (before ++ after) (length before) i
    → ((task : ℕ) → Covers before i task → IsCompleteAt before task i) → (task : ℕ)
    → Covers (before ++ after) i task → IsCompleteAt (before ++ after) task i
covered_complete before after i watchable once last below begun complete task covers =
    complete_stays before after i task below
    (complete task (cover_back before after i watchable once last below begun complete task covers))

-- so too where of a barrier the begins that count stand at i or before, or what they add is complete there
pub covered_settled : (before after : List Record) (i : ℕ) → IsWatchable (before ++ after)
    → IsFreeOf (before ++ after) CreatedTwice → EndsLast (before ++ after) → i < length before
    → IsBarrierSettled (before ++ after) i
    → ((task : ℕ) → Covers before i task → IsCompleteAt before task i) → (task : ℕ)
    → Covers (before ++ after) i task → IsCompleteAt (before ++ after) task i
covered_settled before after i watchable once last below settled complete task covers =
    elim (cover_back_or P before after i watchable once last below begun complete task covers) [
      | inl first ↦ complete_stays before after i task below (complete task first)
      | inr known ↦ known
    ]
  where
    P : ℕ → Type 0
    P t = IsCompleteAt (before ++ after) t i

    begun : AreBegunOr (λ t. IsCompleteAt (before ++ after) t i) (before ++ after) (length before) i
    begun own begin member number start kind is barrier begins mate starts =
        elim (settled own begin member number start kind is barrier begins mate starts) [
          | inl low ↦ inl (omega (arith, low, below))
          | inr known ↦ inr known
        ]
