-- Which causes that are told at once the tests at each record exclude.
use Rattle.std.proofs.Common.{◌≡◌, ◌∙◌, ℕ, ◌<◌, ◌≤◌, ◌+◌, true, List, [], ◌∷◌, ◌++◌, length, take, drop}
use Rattle.std.proofs.Common.{get_or, Option, Some, refl, sym, ap, subst, arith, inl, inr}
use Rattle.std.specs.Prelude.{slice_get}
use Rattle.std.proofs.lemmas.Bool.{false≢true}
use Rattle.std.proofs.lemmas.Option.{none-some, same_Some, slice_get_within, slice_get-get_or}
use Rattle.std.proofs.lemmas.List.{take-append-drop, take-append-le, take_more, take_at, length-take}
use Rattle.ompt_events.specs.declared.records.Record.{Record}
use Rattle.ompt_events.specs.declared.records.Body.{Body}
use Rattle.ompt_events.specs.declared.names.Endpoint.TheVariants.{End}
use Rattle.ompt_events.specs.declared.cause.Cause.{Cause}
use Rattle.ompt_events.specs.declared.cause.Cause.TheVariants.{CreatedTwice}
use Rattle.ompt_events.specs.Records.{made, forked, started, told_turns, begun_turn, region, joined}
use Rattle.ompt_events.specs.Records.{begun_initial}
use Rattle.ompt_events.specs.Places.{at}
use Rattle.ompt_events.specs.HappensBefore.{program}
use Rattle.ompt_events.specs.Causes.{HasCause, IsFreeOf, seq_gap, created_twice, forked_twice, rootless}
use Rattle.ompt_events.specs.Causes.{not_current, moved, turn_gap, status_order, region_order, barrier_order}
use Rattle.ompt_events.specs.Causes.{team_short, nested_parallel, region_nesting, deps_place, share_wrong}
use Rattle.ompt_events.specs.Causes.{entry_twice, length_ahead, length_back, no_order, target_task}
use Rattle.ompt_events.specs.Causes.{HasTurnGap, other_turn, begun_again, falling, of_root, missing}
use Rattle.ompt_events.specs.Causes.{IsNested, forked_inside, joined_inside, initial_inside}
use Rattle.ompt_events.specs.Causes.{IsMisnested, other_region, other_league}
use Rattle.ompt_events.proofs.ListLemmas.{get_within, pushed_cases}
use Rattle.ompt_events.proofs.PlaceLemmas.{at_within}
use Rattle.ompt_events.proofs.HappensBeforeLemmas.{finishing_within, step_to}
use Rattle.online.specs.Online.{IsWatchable, is_told_at_once, EachRecord, PassesAfter}
use Rattle.online.proofs.ReadLemmas.{IsSameTo, same_append, at_same, made_same, forked_same}
use Rattle.online.proofs.CauseLaw.{shown_at_once}

-- ---- the first records of a list

pub first_long : (n : ℕ) (rs : List Record) → n ≤ length rs → length (take n rs) ≡ n
first_long n rs low = let len = length-take n rs in omega (arith, len, low)

pub same_first : (n : ℕ) (rs : List Record) → n ≤ length rs → IsSameTo n rs (take n rs)
same_first n rs low =
    subst (λ m. IsSameTo m rs (take n rs)) (first_long n rs low)
    (subst (λ l. IsSameTo (length (take n rs)) l (take n rs)) (take-append-drop n rs)
    (same_append (take n rs) (drop n rs)))

-- what one of the first records says it says in the list
pub first_says : {X : Type 0} (f : Body → Option X) (n : ℕ) (rs : List Record) (k : ℕ) (x : X) → n ≤ length rs
    → at f (take n rs) k ≡ Some x → (k < n) × (at f rs k ≡ Some x)
first_says f n rs k x low says =
    let inside = at_within f (take n rs) k x says in
    let len = first_long n rs low in
    let below : k < n = omega (arith, inside, len) in
    (below, at_same f n rs (take n rs) (same_first n rs low) k below ∙ says)

-- what holds of the first records with the others behind them holds of the list, and the other way round
pub of_whole : (P : List Record → Type 0) (n : ℕ) (rs : List Record) → P (take n rs ++ drop n rs) → P rs
of_whole P n rs = subst P (take-append-drop n rs)

pub to_whole : (P : List Record → Type 0) (n : ℕ) (rs : List Record) → P rs → P (take n rs ++ drop n rs)
to_whole P n rs = subst P (sym (take-append-drop n rs))

-- the records before a place and the one there are the first records; it stands at the place
pub first_more : (rs : List Record) (i : ℕ) (r : Record) → slice_get rs i ≡ Some r
    → take i rs ++ r ∷ [] ≡ take (i + 1) rs
first_more rs i r here =
    let within = slice_get_within rs i r here in
    let read : r ≡ get_or rs i r = same_Some r (get_or rs i r) (sym here ∙ slice_get-get_or rs i r within) in
    ap (λ q. take i rs ++ q ∷ []) read ∙ sym (take_more rs i r within)

pub of_last : (P : List Record → ℕ → Type 0) (rs : List Record) (i : ℕ) (r : Record)
    → slice_get rs i ≡ Some r → P (take i rs ++ r ∷ []) (length (take i rs)) → P (take (i + 1) rs) i
of_last P rs i r here holds =
    let within = slice_get_within rs i r here in
    subst (λ l. P l i) (first_more rs i r here)
    (subst (P (take i rs ++ r ∷ [])) (first_long i rs (omega (arith, within))) holds)

pub to_last : (P : List Record → ℕ → Type 0) (rs : List Record) (i : ℕ) (r : Record)
    → slice_get rs i ≡ Some r → P (take (i + 1) rs) i → P (take i rs ++ r ∷ []) (length (take i rs))
to_last P rs i r here holds =
    let within = slice_get_within rs i r here in
    subst (P (take i rs ++ r ∷ [])) (sym (first_long i rs (omega (arith, within))))
    (subst (λ l. P l i) (sym (first_more rs i r here)) holds)

-- ---- one record more

pub each_none : (Test : List Record → Record → Type 0) → EachRecord Test []
each_none Test i r here = absurd (none-some r here)

pub each_more : (Test : List Record → Record → Type 0) (rs : List Record) (r : Record) → EachRecord Test rs
    → Test rs r → EachRecord Test (rs ++ r ∷ [])
each_more Test rs r each last i q here = elim (pushed_cases rs r q i here) [
  | inl old ↦
      let within = slice_get_within rs i q old in
      subst (λ l. Test l q) (sym (take-append-le i rs (r ∷ []) (omega (arith, within)))) (each i q old)
  | inr new ↦
      let whole : take i (rs ++ r ∷ []) ≡ rs = take_at rs (r ∷ []) i (sym new.0) in
      subst (λ l. Test l q) (sym whole) (subst (Test rs) new.1 last)
]

-- ---- a cause that is told at once is that of a record

gap_within : (rs : List Record) (i : ℕ) → HasTurnGap rs i → i < length rs
gap_within rs i (other_turn turns says apart) = at_within told_turns rs i turns says
gap_within rs i (begun_again task turn k starts low before) = at_within begun_turn rs i (task, turn) starts.1
gap_within rs i (falling task turn k later starts low same before less) =
    at_within begun_turn rs i (task, turn) starts.1
gap_within rs i (of_root task starts is) = at_within begun_turn rs i (task, 0) starts.1
gap_within rs i (missing task turn starts none) = at_within begun_turn rs i (task, turn + 1) starts.1

nested_within : (rs : List Record) (i : ℕ) → IsNested rs i → i < length rs
nested_within rs i (forked_inside task parallel flat forks apart) =
    at_within forked rs i (task, parallel) forks
nested_within rs i (joined_inside m walk outer flat joins walks innermost member) =
    at_within joined rs i m joins
nested_within rs i (initial_inside task walk flat begins walks some) =
    at_within begun_initial rs i task begins

misnested_within : (rs : List Record) (i : ℕ) → IsMisnested rs i → i < length rs
misnested_within rs i (other_region m walk nests joins walks some none) = at_within joined rs i m joins
misnested_within rs i (other_league task walk nests begins walks some none) =
    at_within begun_initial rs i task begins

told_within : (rs : List Record) (i : ℕ) (cause : Cause) → is_told_at_once cause ≡ true → HasCause rs i cause
    → i < length rs
told_within rs i _ told (seq_gap (r, is, gap)) = slice_get_within rs i r is
told_within rs i _ told (created_twice (task, k, low, first, again)) = at_within made rs i task again
told_within rs i _ told (forked_twice (parallel, k, own, other, low, first, again)) =
    at_within forked rs i (own, parallel) again
told_within rs i _ told (rootless h) = absurd (false≢true told)
told_within rs i _ told (not_current h) = slice_get_within rs i h.misfits.the_record h.misfits.stands
told_within rs i _ told (moved (task, k, explicit, starts, low, before, apart, untold)) =
    at_within started rs i task starts
told_within rs i _ told (turn_gap h) = gap_within rs i h
told_within rs i _ told (status_order h) = absurd (false≢true told)
told_within rs i _ told (region_order (task, kind, h)) = at_within region rs i (task, kind, End) h.ends
told_within rs i _ told (barrier_order (task, kind, endpoint, is, barrier, explicit)) =
    at_within region rs i (task, kind, endpoint) is
told_within rs i _ told (team_short h) = absurd (false≢true told)
told_within rs i _ told (nested_parallel h) = nested_within rs i h
told_within rs i _ told (region_nesting h) = misnested_within rs i h
told_within rs i _ told (deps_place h) = absurd (false≢true told)
told_within rs i _ told (share_wrong h) = absurd (false≢true told)
told_within rs i _ told (entry_twice (k, low, first, again, same)) = finishing_within rs i again
told_within rs i _ told (length_ahead h) = absurd (false≢true told)
told_within rs i _ told (length_back (k, steps, less)) = step_to rs k i (program steps)
told_within rs i _ told (no_order h) = absurd (false≢true told)
told_within rs i _ told (target_task (task, bits, flat, makes, says, target)) = at_within made rs i task makes

-- ---- no record has one

-- by the first records
clear_first : (rs : List Record) → EachRecord PassesAfter rs → (i : ℕ) (cause : Cause) → i < length rs
    → is_told_at_once cause ≡ true → HasCause (take (i + 1) rs) i cause → ⊥
clear_first rs passes i cause below told h =
    let (r, here) = get_within rs i below in
    (passes i r here).clear cause told (to_last (λ l k. HasCause l k cause) rs i r here h)

-- whether a task or a region is made again is told by earlier records alone
pub none_twice : (rs : List Record) → EachRecord PassesAfter rs → IsFreeOf rs CreatedTwice
none_twice rs passes i h =
    let below : i < length rs = told_within rs i CreatedTwice refl h in
    clear_first rs passes i CreatedTwice below refl (of below h)
  where
    of : i < length rs → HasCause rs i CreatedTwice → HasCause (take (i + 1) rs) i CreatedTwice
    of below (created_twice again) =
        created_twice
        (made_same (i + 1) rs (take (i + 1) rs) (same_first (i + 1) rs (omega (arith, below))) i (omega arith)
        again)
    of below (forked_twice again) =
        forked_twice
        (forked_same (i + 1) rs (take (i + 1) rs) (same_first (i + 1) rs (omega (arith, below))) i
        (omega arith) again)

-- so the others are told by the first records too
pub none_told : (rs : List Record) → IsWatchable rs → EachRecord PassesAfter rs → (i : ℕ) (cause : Cause)
    → is_told_at_once cause ≡ true → HasCause rs i cause → ⊥
none_told rs watchable passes i cause told h =
    let below = told_within rs i cause told h in
    clear_first rs passes i cause below told
    (shown_at_once (take (i + 1) rs) (drop (i + 1) rs) i cause (to_whole IsWatchable (i + 1) rs watchable)
    (to_whole (λ l. IsFreeOf l CreatedTwice) (i + 1) rs (none_twice rs passes)) told
    (let len = first_long (i + 1) rs (omega (arith, below)) in omega (arith, len))
    (to_whole (λ l. HasCause l i cause) (i + 1) rs h))
