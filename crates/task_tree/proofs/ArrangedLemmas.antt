-- The records in the tasks' own order are a trace as those of the file are, and make the same tasks.
use Rattle.std.proofs.Common.{◌≡◌, ◌≢◌, ◌∙◌, zero, suc, zero-add, ℕ, Bool, ◌<◌, ◌≤◌, ◌+◌, cond, List, [], ◌∷◌}
use Rattle.std.proofs.Common.{◌++◌, length, take, Option, Some, None, refl, sym, ap, subst, arith, inl, inr}
use Rattle.std.proofs.lemmas.Bool.{cases_lt}
use Rattle.std.proofs.lemmas.Option.{none-some, same_Some, slice_get-get_or, slice_get_within}
use Rattle.std.proofs.lemmas.Option.{get_or_from_slice_get}
use Rattle.std.proofs.lemmas.List.{take_more, take_all, map-id}
use Rattle.std.proofs.lemmas.List.Elements.{filter_map-append}
use Rattle.std.proofs.lemmas.List.FromFn.{map-range_with_len_more}
use Rattle.std.proofs.lemmas.List.Sums.{sum_by-append}
use Rattle.std.proofs.lemmas.List.Sorted.{sum_by-IsPermutation}
use Rattle.std.specs.Prelude.{All, Contains, count_by, slice_get}
use Rattle.std.specs.Prelude.{slice_index_or, is_some, option_and_then}
use Rattle.std.specs.List.{filter_map, range_with_len, sum_by}
use Rattle.std.specs.Option.{option_map_or}
use Rattle.ompt_events.specs.declared.records.Record.{Record}
use Rattle.ompt_events.specs.declared.records.Body.{Body}
use Rattle.ompt_events.specs.declared.fault.Fault.{Fault}
use Rattle.ompt_events.specs.declared.fault.Fault.TheVariants.{Memory, Malformed}
use Rattle.ompt_events.specs.Faults.{IsFault}
use Rattle.ompt_events.specs.declared.cause.Cause.{Cause}
use Rattle.ompt_events.specs.declared.cause.Cause.TheVariants.{CreatedTwice, Rootless}
use Rattle.ompt_events.specs.Records.{made, created, creation, begun_root, forked, region_named}
use Rattle.ompt_events.specs.Places.{at, places}
use Rattle.ompt_events.specs.Traces.{IsSound, IsInRange, HasItsTurns, NestsIn, IsTraceOf}
use Rattle.ompt_events.specs.Traces.{tasks_in}
use Rattle.ompt_events.specs.Turns.{in_own_order, own_places}
use Rattle.ompt_events.specs.Tree.{IsRooted, root, child}
use Rattle.ompt_events.specs.Causes.{HasCause, IsFreeOf, unmade, unrooted, no_region, created_twice}
use Rattle.ompt_events.specs.Causes.{forked_twice, rootless}
use Rattle.ompt_events.proofs.PlaceLemmas.{at_within}
use Rattle.task_tree.proofs.OwnOrderLemmas.{own_permuted, own_length, own_has, own_within, own_place_of}
use Rattle.task_tree.proofs.OwnOrderLemmas.{arranged_at, arranged_length}

-- ---- a trace

-- each place of the arranged records has the record of one place of the file
pub placed : (rs : List Record) (n : ℕ) → n < length rs → (i : ℕ) × (slice_get (own_places rs) n ≡ Some i)
placed rs n below = (_, slice_get-get_or (own_places rs) n 0 (rw (own_length rs) below))

all_arranged : (P : Record → Type 0) (rs : List Record) → All P rs → All P (in_own_order rs)
all_arranged P rs all k d below =
    let there = placed rs k (rw (arranged_length rs) at below) in
    let i = there.0 in
    let within = own_within rs k i there.1 in
    let same = slice_get-get_or rs i d within in
    let here = slice_get-get_or (in_own_order rs) k d below in
    subst P
    (same_Some (slice_index_or rs i d) (slice_index_or (in_own_order rs) k d)
    (sym same ∙ sym (arranged_at rs k i there.1) ∙ here))
    (all i d within)

summed : {X : Type 0} (f : X → ℕ) (x : X) (xs : List X) → sum_by f (x ∷ xs) ≡ f x + sum_by f xs
summed f x xs = sum_by-append f (x ∷ []) xs ∙ ap (λ n. n + sum_by f xs) (zero-add (f x))

-- what is summed over records is summed over their places
sum_places : (f : Record → ℕ) (rs : List Record) (xs : List ℕ)
    → sum_by f (filter_map (slice_get rs) xs) ≡ sum_by (λ i. option_map_or f (slice_get rs i) 0) xs
sum_places f rs [] = refl
sum_places f rs (i ∷ xs) =
    of (slice_get rs i) refl (sum_places f rs xs)
    ∙ sym (summed (λ k. option_map_or f (slice_get rs k) 0) i xs)
  where
    of : (o : Option Record) → slice_get rs i ≡ o
        → sum_by f (filter_map (slice_get rs) xs) ≡ sum_by (λ k. option_map_or f (slice_get rs k) 0) xs
        → sum_by f (filter_map (slice_get rs) (i ∷ xs))
        ≡ option_map_or f (slice_get rs i) 0 + sum_by (λ k. option_map_or f (slice_get rs k) 0) xs
    of None e rest =
        let sum = sum_by (λ k. option_map_or f (slice_get rs k) 0) xs in
        ap (sum_by f) (kept e) ∙ rest ∙ sym (zero-add sum)
        ∙ ap (λ (o : Option Record). option_map_or f o 0 + sum) (sym e)
      where
        kept : slice_get rs i ≡ None → filter_map (slice_get rs) (i ∷ xs) ≡ filter_map (slice_get rs) xs
        kept e = rw e refl
    of (Some r) e rest =
        let sum = sum_by (λ k. option_map_or f (slice_get rs k) 0) xs in
        ap (sum_by f) (more e) ∙ summed f r (filter_map (slice_get rs) xs) ∙ ap (λ n. f r + n) rest
        ∙ ap (λ (o : Option Record). option_map_or f o 0 + sum) (sym e)
      where
        more : slice_get rs i ≡ Some r → filter_map (slice_get rs) (i ∷ xs) ≡ r ∷ filter_map (slice_get rs) xs
        more e = rw e refl

past_end : (rs : List Record) (n : ℕ) → n < length rs → slice_get rs n ≡ None → ⊥
past_end (r ∷ rs) zero below none = none-some r (sym none)
past_end (r ∷ rs) (suc n) below none = past_end rs n (omega (arith, below)) none
past_end [] n below none = absurd (omega (arith, below))

-- all places have all records
all_places : (rs : List Record) → filter_map (slice_get rs) (places rs) ≡ rs
all_places rs = first (length rs) (omega arith) ∙ take_all (length rs) rs (omega arith)
  where
    next : (n : ℕ) → suc n ≡ n + 1
    next n = omega arith

    range_more : (n : ℕ) → range_with_len 0 (suc n) ≡ range_with_len 0 n ++ n ∷ []
    range_more n =
        ap (range_with_len 0) (next n) ∙ sym (map-id (range_with_len 0 (n + 1)))
        ∙ map-range_with_len_more (λ (i : ℕ). i) 0 n n (omega arith)
        ∙ ap (λ l. l ++ n ∷ []) (map-id (range_with_len 0 n))

    first : (n : ℕ) → n ≤ length rs → filter_map (slice_get rs) (range_with_len 0 n) ≡ take n rs
    first zero most = refl
    first (suc n) most =
        let below : n < length rs = omega (arith, most) in
        of only (slice_get rs n) refl below (first n (omega (arith, most)))
      where
        only : (r : Record) → slice_get rs n ≡ Some r → filter_map (slice_get rs) (n ∷ []) ≡ r ∷ []
        only r e = rw e refl

        of : ((r : Record) → slice_get rs n ≡ Some r → filter_map (slice_get rs) (n ∷ []) ≡ r ∷ [])
            → (o : Option Record) → slice_get rs n ≡ o → n < length rs
            → filter_map (slice_get rs) (range_with_len 0 n) ≡ take n rs
            → filter_map (slice_get rs) (range_with_len 0 (suc n)) ≡ take (suc n) rs
        of one None e below so_far = absurd (past_end rs n below e)
        of one (Some r) e below so_far =
            ap (filter_map (slice_get rs)) (range_more n)
            ∙ filter_map-append (slice_get rs) (range_with_len 0 n) (n ∷ [])
            ∙ ap (λ l. l ++ filter_map (slice_get rs) (n ∷ [])) so_far
            ∙ ap (λ l. take n rs ++ l) (one r e)
            ∙ ap (λ (x : Record). take n rs ++ x ∷ []) (sym (get_or_from_slice_get rs n r r e))
            ∙ sym (take_more rs n r below)
            ∙ ap (λ m. take m rs) (sym (next n))

-- as many of the records pass a test
pub counted_arranged : (passes : Record → Bool) (rs : List Record)
    → count_by passes (in_own_order rs) ≡ count_by passes rs
counted_arranged passes rs =
    let f : Record → ℕ = λ r. cond (passes r) 1 0 in
    let g : ℕ → ℕ = λ i. option_map_or f (slice_get rs i) 0 in
    sum_places f rs (own_places rs)
    ∙ sum_by-IsPermutation g (places rs) (own_places rs) (own_permuted rs)
    ∙ sym (sum_places f rs (places rs))
    ∙ ap (sum_by f) (all_places rs)

-- so as many tasks are made
tasks_arranged : (rs : List Record) → tasks_in (in_own_order rs) ≡ tasks_in rs
tasks_arranged rs = counted_arranged (λ r. is_some (made r.body)) rs

pub arranged_trace : (version : ℕ) (rs : List Record) → IsTraceOf version rs
    → IsTraceOf version (in_own_order rs)
arranged_trace version rs trace = record {
  known = trace.known;
  is_trace = record {
    few_records = let same = arranged_length rs in omega (arith, same, trace.is_trace.few_records);
    few_tasks = let same = tasks_arranged rs in omega (arith, same, trace.is_trace.few_tasks);
    sound = all_arranged (λ r. IsSound r.body) rs trace.is_trace.sound;
    in_range = all_arranged IsInRange rs trace.is_trace.in_range;
  };
  turns = all_arranged (λ r. HasItsTurns version r.body) rs trace.turns;
  nesting = all_arranged (NestsIn version) rs trace.nesting;
}

-- ---- the same tasks

-- what a record says stands where the record does
said_in_order : {X : Type 0} (f : Body → Option X) (rs : List Record) (n i : ℕ)
    → slice_get (own_places rs) n ≡ Some i
    → at f (in_own_order rs) n ≡ at f rs i
said_in_order f rs n i stands =
    ap (λ (o : Option Record). option_and_then (λ (r : Record). f r.body) o) (arranged_at rs n i stands)

-- something that a record says is said of the arranged records too
said_there : {X : Type 0} (f : Body → Option X) (rs : List Record) (i : ℕ) (x : X) → at f rs i ≡ Some x
    → (n : ℕ) × (at f (in_own_order rs) n ≡ Some x)
said_there f rs i x says =
    let has = own_has rs i (at_within f rs i x says) in
    (has.0, said_in_order f rs has.0 i has.1 ∙ says)

-- and what the arranged records say is said in the file
pub said_here : {X : Type 0} (f : Body → Option X) (rs : List Record) (n : ℕ) (x : X)
    → at f (in_own_order rs) n ≡ Some x
    → (i : ℕ) × (slice_get (own_places rs) n ≡ Some i) × (at f rs i ≡ Some x)
said_here f rs n x says =
    let there = placed rs n (rw (arranged_length rs) at (at_within f (in_own_order rs) n x says)) in
    (there.0, there.1, sym (said_in_order f rs n there.0 there.1) ∙ says)

-- of two places the later one in the file has an earlier one
pub apart_places : (rs : List Record) (k n i j : ℕ) → k < n → slice_get (own_places rs) k ≡ Some i
    → slice_get (own_places rs) n ≡ Some j → i ≢ j
apart_places rs k n i j less one other same =
    let P : ℕ → Type 0 = λ p. slice_get (own_places rs) k ≡ Some p in
    let e = sym (own_place_of rs k j (subst P same one)) ∙ own_place_of rs n j other in
    omega (arith, less, e)

pub arranged_once : (rs : List Record) → IsFreeOf rs CreatedTwice → IsFreeOf (in_own_order rs) CreatedTwice
arranged_once rs free n (created_twice (task, k, less, first, second)) =
    let p = said_here made rs k task first in
    let q = said_here made rs n task second in
    let differ = apart_places rs k n p.0 q.0 less p.1 q.1 in
    elim (cases_lt p.0 q.0) [
      | inl below ↦ free q.0 (created_twice (task, p.0, below, p.2, q.2))
      | inr most ↦ free p.0 (created_twice (task, q.0, omega (arith, most, differ), q.2, p.2))
    ]
arranged_once rs free n (forked_twice (parallel, k, own, other, less, first, second)) =
    let p = said_here forked rs k (other, parallel) first in
    let q = said_here forked rs n (own, parallel) second in
    let differ = apart_places rs k n p.0 q.0 less p.1 q.1 in
    elim (cases_lt p.0 q.0) [
      | inl below ↦ free q.0 (forked_twice (parallel, p.0, own, other, below, p.2, q.2))
      | inr most ↦ free p.0 (forked_twice (parallel, q.0, other, own, omega (arith, most, differ), q.2, p.2))
    ]

rooted_there : (rs : List Record) {task : ℕ} → IsRooted rs task → IsRooted (in_own_order rs) task
rooted_there rs {task} (root (i, begins)) = root (said_there begun_root rs i task begins)
rooted_there rs {task} (child i {parent = parent} creates rooted) =
    let there = said_there creation rs i (parent, task) creates in
    child there.0 there.1 (rooted_there rs rooted)

pub arranged_rooted : (rs : List Record) → IsFreeOf rs Rootless → IsFreeOf (in_own_order rs) Rootless
arranged_rooted rs free n (rootless (unmade task (r, stands, among) none)) =
    let there = placed rs n (rw (arranged_length rs) at (slice_get_within (in_own_order rs) n r stands)) in
    free there.0
    (rootless
    (unmade task (r, sym (arranged_at rs n there.0 there.1) ∙ stands, among)
    (λ is. none (said_there made rs is.0 task is.1))))
arranged_rooted rs free n (rootless (unrooted task creates none)) =
    let here = said_here created rs n task creates in
    free here.0 (rootless (unrooted task here.2 (λ rooted. none (rooted_there rs rooted))))
arranged_rooted rs free n (rootless (no_region parallel says none)) =
    let here = said_here region_named rs n parallel says in
    free here.0 (rootless (no_region parallel here.2 (λ is.
    let there = said_there forked rs is.0 (is.1, parallel) is.2 in
    none (there.0, is.1, there.1))))

-- ---- making them

-- their family fails for memory alone
pub memory_arranged : (rs copies : List Record) (fault : Fault) → copies ≡ in_own_order rs
    → IsFreeOf rs CreatedTwice → IsFreeOf rs Rootless → IsFault copies (CreatedTwice ∷ Rootless ∷ []) fault
    → fault ≡ Memory
memory_arranged rs copies Memory are once is_rooted is = refl
memory_arranged rs copies (Malformed i cause) are once is_rooted is = absurd (of is.sought_for is.found.has)
  where
    of : Contains (CreatedTwice ∷ Rootless ∷ []) cause → HasCause copies i cause → ⊥
    of (zero, below, same) has =
        let P : Cause → Type 0 = HasCause copies i in
        let Q : List Record → Type 0 = λ l. HasCause l i CreatedTwice in
        arranged_once rs once i (subst Q are (subst P (sym same) has))
    of (suc zero, below, same) has =
        let P : Cause → Type 0 = HasCause copies i in
        let Q : List Record → Type 0 = λ l. HasCause l i Rootless in
        arranged_rooted rs is_rooted i (subst Q are (subst P (sym same) has))
    of (suc (suc k), below, same) has = absurd (omega (arith, below))
