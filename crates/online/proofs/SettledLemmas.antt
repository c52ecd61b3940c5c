-- All is complete that must be complete, where it is at each record by the records so far.
use Rattle.std.proofs.Common.{◌≡◌, ◌∙◌, ℕ, ◌<◌, ◌+◌, List, ◌++◌, length, take, drop, sym}
use Rattle.std.proofs.Common.{subst, arith, inl, inr}
use Rattle.std.proofs.lemmas.Bool.{cases_lt}
use Rattle.std.proofs.lemmas.Option.{slice_get_within}
use Rattle.ompt_events.specs.declared.records.Record.{Record}
use Rattle.ompt_events.specs.declared.cause.Cause.TheVariants.{CreatedTwice, DepsPlace}
use Rattle.ompt_events.specs.Records.{running, finish, region, begun_turn, wait_completed}
use Rattle.ompt_events.specs.Completion.{IsCompleteAt}
use Rattle.ompt_events.specs.Violations.{IsRequired, covered, preceding, awaited}
use Rattle.ompt_events.specs.Causes.{IsFreeOf}
use Rattle.ompt_events.proofs.PlaceLemmas.{at_within, get_at}
use Rattle.ompt_events.proofs.ListLemmas.{get_within}
use Rattle.online.specs.Online.{IsWatchable, EndsLast, AreBegun, IsBarrierSettled, AreListed, HasLists}
use Rattle.online.specs.Online.{IsDependentAt, EachRecord, PassesAfter, NoneAwaited, IsUnfinishedAfter}
use Rattle.online.specs.Online.{IsCompleteAfter, IsSettledAfter}
use Rattle.online.proofs.ReadLemmas.{at_same}
use Rattle.online.proofs.CoverLemmas.{covers_region}
use Rattle.online.proofs.PrecededLemmas.{listed_there}
use Rattle.online.proofs.RequiredLemmas.{dependent_kept, required_settled}
use Rattle.online.proofs.RosterLaw.{end_within}
use Rattle.online.proofs.PassLemmas.{first_long, same_first, of_last, of_whole, to_whole, none_twice}
use Rattle.online.proofs.AwaitLemmas.{none_misplaced}

-- ---- no record of a task stands behind the end of its body

pub ends_last_from_each : (rs : List Record) → EachRecord IsUnfinishedAfter rs → EndsLast rs
ends_last_from_each rs each task e k part ends apart runs = elim (cases_lt e k) [
  | inl less ↦
      let (r, here, is) = get_at running rs k task runs in
      let within = slice_get_within rs k r here in
      let same = same_first k rs (omega (arith, within)) in
      absurd (each k r here task e part is (sym (at_same finish k rs (take k rs) same e less) ∙ ends) apart)
  | inr most ↦ most
]

-- ---- what must be complete at a record

-- something must be complete only at a record
required_within : (rs : List Record) (i task : ℕ) → IsRequired rs i task → i < length rs
required_within rs i task (covered covers) =
    let (own, kind, endpoint, says) = covers_region rs i task covers in
    at_within region rs i (own, kind, endpoint) says
required_within rs i task (preceding {dependent = dependent} explicit start is) =
    at_within begun_turn rs i (dependent, 0) start.starts
required_within rs i task (awaited {dependent = dependent} waits is) =
    at_within wait_completed rs i dependent waits

required_by : (rs : List Record) → IsWatchable rs → IsFreeOf rs CreatedTwice → EndsLast rs
    → ((i : ℕ) → IsBarrierSettled rs i)
    → ((i dependent : ℕ) → i < length rs → IsDependentAt rs i dependent → AreListed rs (i + 1) dependent)
    → EachRecord IsCompleteAfter rs → (i task : ℕ) → IsRequired rs i task
    → IsCompleteAt rs task i
required_by rs watchable once last settled listed complete i task required =
    let below = required_within rs i task required in
    let (r, here) = get_within rs i below in
    let len : length (take (i + 1) rs) ≡ i + 1 = first_long (i + 1) rs (omega (arith, below)) in
    of_whole (λ l. IsCompleteAt l task i) (i + 1) rs
    (required_settled (take (i + 1) rs) (drop (i + 1) rs) i (to_whole IsWatchable (i + 1) rs watchable)
    (to_whole (λ l. IsFreeOf l CreatedTwice) (i + 1) rs once) (to_whole EndsLast (i + 1) rs last)
    (omega (arith, len)) (to_whole (λ l. IsBarrierSettled l i) (i + 1) rs (settled i))
    (λ dependent there.
    subst (λ m. AreListed (take (i + 1) rs ++ drop (i + 1) rs) m dependent) (sym len)
    (to_whole (λ l. AreListed l (i + 1) dependent) (i + 1) rs
    (listed i dependent below (of_whole (λ l. IsDependentAt l i dependent) (i + 1) rs there))))
    (of_last (λ l k. (t : ℕ) → IsRequired l k t → IsCompleteAt l t k) rs i r here (complete i r here))
    task (to_whole (λ l. IsRequired l i task) (i + 1) rs required))

pub required_complete : (rs : List Record) → IsWatchable rs → IsFreeOf rs CreatedTwice → EndsLast rs
    → ((i : ℕ) → i < length rs → AreBegun rs (i + 1) i)
    → ((i dependent : ℕ) → i < length rs → IsDependentAt rs i dependent → AreListed rs (i + 1) dependent)
    → EachRecord IsCompleteAfter rs → (i task : ℕ) → IsRequired rs i task
    → IsCompleteAt rs task i
required_complete rs watchable once last begun = required_by rs watchable once last settled
  where
    settled : (i : ℕ) → IsBarrierSettled rs i
    settled i own begin member number start kind is barrier begins mate starts =
        let low =
        begun i (end_within rs i own begin kind is) own begin member number start kind is barrier begins mate
        starts in
        inl (omega (arith, low))

-- ---- by what is tested at each record

listed_so_far : (rs : List Record) → IsWatchable rs → IsFreeOf rs CreatedTwice → IsFreeOf rs DepsPlace
    → (i dependent : ℕ) → i < length rs → IsDependentAt rs i dependent
    → (IsDependentAt (take (i + 1) rs) i dependent → HasLists (take (i + 1) rs) dependent)
    → AreListed rs (i + 1) dependent
listed_so_far rs watchable once in_place i dependent below there lists =
    let len : length (take (i + 1) rs) ≡ i + 1 = first_long (i + 1) rs (omega (arith, below)) in
    let watched = to_whole IsWatchable (i + 1) rs watchable in
    let made_once = to_whole (λ l. IsFreeOf l CreatedTwice) (i + 1) rs once in
    let is = to_whole (λ l. IsDependentAt l i dependent) (i + 1) rs there in
    let inside : i < length (take (i + 1) rs) = omega (arith, len) in
    of_whole (λ l. AreListed l (i + 1) dependent) (i + 1) rs
    (subst (λ m. AreListed (take (i + 1) rs ++ drop (i + 1) rs) m dependent) len
    (listed_there (take (i + 1) rs) (drop (i + 1) rs) i dependent watched made_once
    (to_whole (λ l. IsFreeOf l DepsPlace) (i + 1) rs in_place) inside is
    (lists ((dependent_kept (take (i + 1) rs) (drop (i + 1) rs) i dependent watched made_once inside).1 is))))

pub settled_complete : (rs : List Record) → IsWatchable rs → EachRecord PassesAfter rs → NoneAwaited rs
    → ((i : ℕ) → IsBarrierSettled rs i) → EachRecord IsSettledAfter rs → (i task : ℕ) → IsRequired rs i task
    → IsCompleteAt rs task i
settled_complete rs watchable passes ends barriers settled =
    required_by rs watchable once
    (ends_last_from_each rs (λ k r here. (settled k r here).unfinished))
    barriers listed (λ i r here. (settled i r here).complete)
  where
    once : IsFreeOf rs CreatedTwice
    once = none_twice rs passes

    in_place : IsFreeOf rs DepsPlace
    in_place = none_misplaced rs (λ k r here. (passes k r here).in_place) ends

    listed : (i dependent : ℕ) → i < length rs → IsDependentAt rs i dependent
        → AreListed rs (i + 1) dependent
    listed i dependent below there =
        let (r, here) = get_within rs i below in
        listed_so_far rs watchable once in_place i dependent below there
        (of_last (λ l k. IsDependentAt l k dependent → HasLists l dependent) rs i r here
        ((settled i r here).listed dependent))
