-- The records of each thread in the trace that is gathered.
use Rattle.std.proofs.Common.{ℕ, zero, suc, ◌≡◌, ◌≢◌, ◌∙◌, ◌++◌, ◌∷◌, ◌⊎◌, [], List, Some, None, Option}
use Rattle.std.proofs.Common.{map, length, refl, ap, sym, subst, inl, inr, arith}
use Rattle.std.specs.Prelude.{◌==◌, Contains, All, slice_get, option_map}
use Rattle.std.specs.List.Sorted.{IsPermutation}
use Rattle.std.proofs.lemmas.Bool.{cases_order, eq-eqb, ne_eqb}
use Rattle.std.proofs.lemmas.Bool.Decides.{eqb_tells}
use Rattle.std.proofs.lemmas.Option.{same_Some, none-some, slice_get-map}
use Rattle.std.proofs.lemmas.List.{append-nil}
use Rattle.std.proofs.lemmas.List.Concat.{flat_map-cons}
use Rattle.std.proofs.lemmas.List.Elements.{filter-append}
use Rattle.std.proofs.lemmas.List.Sorted.{Contains-permutation, IsPermutation-sym}
use Rattle.ompt_events.specs.declared.records.Record.{Record}
use Rattle.ompt_events.proofs.ListLemmas.{get_contains, contains_get, all_get, filter_none, filter_all}
use Rattle.std.proofs.lemmas.List.{take_all}
use Rattle.scripts.specs.Scripts.{ScriptView, step_count}
use Rattle.callbacks.specs.Buffers.{BufferView}
use Rattle.callbacks.specs.Logs.{AreOrderly}
use Rattle.callbacks.specs.Recorders.{RecorderView}
use Rattle.callbacks.specs.Closed.{ClosedView, IsBuffer, AreClosed, thread_of, recorded_by}
use Rattle.callbacks.specs.Gathered.{gathered, HaveOwnThreads}
use Rattle.callbacks.proofs.GatherLemmas.{from_buffer}
use Rattle.scripts.specs.Progress.{thread_records, own_records, without_seen}
use Rattle.scripts.specs.Parts.{HasRun, IsCared}
use Rattle.scripts.proofs.ProgressLemmas.{own_between}

-- ---- lists

-- what a mapped list has comes from an element
pub mapped_from : {X Y : Type 0} (f : X → Y) (xs : List X) (y : Y) → Contains (map f xs) y
    → (x : X) × Contains xs x × (f x ≡ y)
mapped_from {X = X} {Y = Y} f xs y there =
    let (k, is) = contains_get (map f xs) y there in
    from k (slice_get xs k) refl (sym (slice_get-map f xs k) ∙ is)
  where
    from : (k : ℕ) (o : Option X) → slice_get xs k ≡ o → option_map f o ≡ Some y
        → (x : X) × Contains xs x × (f x ≡ y)
    from k (Some x) is same = (x, get_contains xs x k is, same_Some (f x) y same)
    from k None is same = absurd (none-some y same)

pub mapped_to : {X Y : Type 0} (f : X → Y) (xs : List X) (x : X) → Contains xs x → Contains (map f xs) (f x)
mapped_to f xs x there =
    let (k, is) = contains_get xs x there in
    get_contains (map f xs) (f x) k (slice_get-map f xs k ∙ ap (option_map f) is)

-- ---- one thread

-- the records of each buffer are of its thread
abbrev AreOwn : List BufferView → Type 0
AreOwn buffers = (i : ℕ) (b : BufferView) → slice_get buffers i ≡ Some b → AreOrderly b.thread b.records

records_more : (b : BufferView) (buffers : List BufferView) (thread : ℕ)
    → thread_records (gathered (b ∷ buffers)) thread
    ≡ thread_records b.records thread ++ thread_records (gathered buffers) thread
records_more b buffers thread =
    ap (λ rs. thread_records rs thread) (flat_map-cons (λ (it : BufferView). it.records) b buffers)
    ∙ filter-append (λ (r : Record). r.thread == thread) b.records (gathered buffers)

of_thread : (b : BufferView) (thread : ℕ) → AreOrderly b.thread b.records → b.thread ≡ thread
    → thread_records b.records thread ≡ b.records
of_thread b thread orderly same = filter_all (λ (r : Record). r.thread == thread) b.records
    (λ i r is. eq-eqb r.thread thread ((orderly i r is).thread_is ∙ same))

of_another : (b : BufferView) (thread : ℕ) → AreOrderly b.thread b.records → b.thread ≢ thread
    → thread_records b.records thread ≡ []
of_another b thread orderly apart = filter_none (λ (r : Record). r.thread == thread) b.records
    (λ i r is. ne_eqb r.thread thread (λ e. apart (sym (orderly i r is).thread_is ∙ e)))

-- no buffer is of the thread
abbrev IsNowhere : List BufferView → ℕ → Type 0
IsNowhere buffers thread = (i : ℕ) (b : BufferView) → slice_get buffers i ≡ Some b → b.thread ≢ thread

of_nowhere : (buffers : List BufferView) (thread : ℕ) → AreOwn buffers → IsNowhere buffers thread
    → thread_records (gathered buffers) thread ≡ []
of_nowhere [] thread own nowhere = refl
of_nowhere (b ∷ buffers) thread own nowhere =
    records_more b buffers thread
    ∙ ap (λ l. l ++ thread_records (gathered buffers) thread)
    (of_another b thread (own 0 b refl) (nowhere 0 b refl))
    ∙ of_nowhere buffers thread (λ i it is. own (suc i) it is) (λ i it is. nowhere (suc i) it is)

-- one buffer is of the thread, and has its records; or none is, and there are none
abbrev IsFound : List BufferView → ℕ → Type 0
IsFound buffers thread =
    ((i : ℕ) × (b : BufferView) × (slice_get buffers i ≡ Some b) × (b.thread ≡ thread)
    × (thread_records (gathered buffers) thread ≡ b.records))
    ⊎ IsNowhere buffers thread

find_thread : (buffers : List BufferView) (thread : ℕ) → AreOwn buffers → HaveOwnThreads buffers
    → IsFound buffers thread
find_thread [] thread own apart = inr (λ i b is. absurd (none-some b is))
find_thread (b ∷ buffers) thread own apart = elim (eqb_tells b.thread thread) [
  | inl same ↦
      let others : IsNowhere buffers thread = λ i it is e.
      apart 0 (suc i) b it (omega arith) refl is (same.1 ∙ sym e) in
      inl (
        0,
        b,
        refl,
        same.1,
        records_more b buffers thread
            ∙ ap (λ l. l ++ thread_records (gathered buffers) thread)
            (of_thread b thread (own 0 b refl) same.1)
            ∙ ap (λ l. b.records ++ l) (of_nowhere buffers thread (λ i it is. own (suc i) it is) others)
            ∙ append-nil b.records,
      )
  | inr other ↦ further other.1 (find_thread buffers thread (λ i it is. own (suc i) it is)
      (λ i j x y below first second. apart (suc i) (suc j) x y (omega (arith, below)) first second))
]
  where
    further : b.thread ≢ thread → IsFound buffers thread → IsFound (b ∷ buffers) thread
    further other (inl found) = inl (
      suc found.0,
      found.1,
      found.2,
      found.3,
      records_more b buffers thread
          ∙ ap (λ l. l ++ thread_records (gathered buffers) thread) (of_another b thread (own 0 b refl) other)
          ∙ found.4,
    )
    further other (inr nowhere) = inr (λ i. further_on i)
      where
        further_on : (i : ℕ) (it : BufferView) → slice_get (b ∷ buffers) i ≡ Some it → it.thread ≢ thread
        further_on zero it is e = other (ap (λ (x : BufferView). x.thread) (same_Some b it is) ∙ e)
        further_on (suc i) it is e = nowhere i it is e

-- a buffer has the records of its thread
buffer_records : (buffers : List BufferView) (j : ℕ) (b : BufferView) → AreOwn buffers
    → HaveOwnThreads buffers → slice_get buffers j ≡ Some b
    → thread_records (gathered buffers) b.thread ≡ b.records
buffer_records buffers j b own apart is =
    elim (find_thread buffers b.thread own apart) [
      | inl found ↦
          let (i, a, there, of, records) = found in
          elim (cases_order i j) [
            | inl same ↦
                records
                ∙ ap (λ (x : BufferView). x.records)
                (same_Some a b (sym there ∙ ap (slice_get buffers) same ∙ is))
            | inr (inl below) ↦ absurd (apart i j a b below there is of)
            | inr (inr above) ↦ absurd (apart j i b a above is there (sym of))
          ]
      | inr nowhere ↦ absurd (nowhere j b is refl)
    ]

-- a recorder has the records of its thread
pub recorder_records : (recorders : List RecorderView) (closed : ClosedView) (r : RecorderView)
    → IsPermutation (map recorded_by recorders) (map thread_of closed.buffers)
    → AreClosed closed → HaveOwnThreads closed.buffers → Contains recorders r
    → thread_records (gathered closed.buffers) r.thread ≡ r.records
recorder_records recorders closed r same are apart among =
    let there = Contains-permutation (map recorded_by recorders) (map thread_of closed.buffers)
    (recorded_by r) same (mapped_to recorded_by recorders r among) in
    let (b, has, by) = mapped_from thread_of closed.buffers (recorded_by r) there in
    let (j, is) = contains_get closed.buffers b has in
    ap (thread_records (gathered closed.buffers)) (sym (ap (λ (p : ℕ × List Record). p.0) by))
    ∙ buffer_records closed.buffers j b own apart is ∙ ap (λ (p : ℕ × List Record). p.1) by
  where
    own : AreOwn closed.buffers
    own i x there = (all_get (IsBuffer closed.entries) closed.buffers i x are.buffers there).orderly

-- and they are in their order
pub recorder_orderly : (recorders : List RecorderView) (closed : ClosedView) (r : RecorderView)
    → IsPermutation (map recorded_by recorders) (map thread_of closed.buffers)
    → AreClosed closed → Contains recorders r → AreOrderly r.thread r.records
recorder_orderly recorders closed r same are among =
    let there = Contains-permutation (map recorded_by recorders) (map thread_of closed.buffers)
    (recorded_by r) same (mapped_to recorded_by recorders r among) in
    let (b, has, by) = mapped_from thread_of closed.buffers (recorded_by r) there in
    let (j, is) = contains_get closed.buffers b has in
    let orderly = (all_get (IsBuffer closed.entries) closed.buffers j b are.buffers is).orderly in
    subst (λ rs. AreOrderly r.thread rs) (ap (λ (p : ℕ × List Record). p.1) by)
    (subst (λ t. AreOrderly t b.records) (ap (λ (p : ℕ × List Record). p.0) by) orderly)

-- a record of the buffers is of the thread of a recorder
pub record_thread : (recorders : List RecorderView) (closed : ClosedView) (x : Record)
    → IsPermutation (map recorded_by recorders) (map thread_of closed.buffers)
    → AreClosed closed → Contains (gathered closed.buffers) x
    → (r : RecorderView) × Contains recorders r × (r.thread ≡ x.thread)
record_thread recorders closed x same are there =
    let (i, is) = contains_get (gathered closed.buffers) x there in
    let from = from_buffer closed.buffers i x is in
    let orderly = (all_get (IsBuffer closed.entries) closed.buffers from.number from.buffer are.buffers
    from.stands).orderly in
    let (r, among, by) = mapped_from recorded_by recorders (thread_of from.buffer)
    (Contains-permutation (map thread_of closed.buffers) (map recorded_by recorders) (thread_of from.buffer)
    (IsPermutation-sym (map recorded_by recorders) (map thread_of closed.buffers) same)
    (mapped_to thread_of closed.buffers from.buffer
    (get_contains closed.buffers from.buffer from.number from.stands))) in
    (r, among, ap (λ (p : ℕ × List Record). p.0) by ∙ sym (orderly from.place x from.is).thread_is)

-- ---- the law

-- a thread without a step has no record
without_steps : (script : ScriptView) (thread : ℕ) → step_count script.steps thread ≡ 0
    → own_records script (length script.steps) thread ≡ []
without_steps script thread none =
    sym (own_between script thread 0 (length script.steps) (omega arith) (omega arith)
    (sym (ap (λ l. step_count l thread) (take_all (length script.steps) script.steps (omega arith)) ∙ none)))

-- the records of each thread are those of the script
pub gathered_own : (script : ScriptView) (recorders : List RecorderView) (closed : ClosedView)
    → All (HasRun script (length script.steps)) recorders → ((thread : ℕ) → IsCared script recorders thread)
    → IsPermutation (map recorded_by recorders) (map thread_of closed.buffers)
    → AreClosed closed → HaveOwnThreads closed.buffers → (thread : ℕ)
    → map without_seen (thread_records (gathered closed.buffers) thread)
    ≡ own_records script (length script.steps) thread
gathered_own script recorders closed each cared same are apart thread =
    elim (find_thread closed.buffers thread own apart) [
      | inl found ↦
          let (i, b, is, of, records) = found in
          let there = mapped_to thread_of closed.buffers b (get_contains closed.buffers b i is) in
          let (r, among, by) = mapped_from recorded_by recorders (thread_of b)
          (Contains-permutation (map thread_of closed.buffers) (map recorded_by recorders) (thread_of b)
          (IsPermutation-sym (map recorded_by recorders) (map thread_of closed.buffers) same) there) in
          let (k, has) = contains_get recorders r among in
          ap (map without_seen) (records ∙ sym (ap (λ (p : ℕ × List Record). p.1) by))
          ∙ (all_get (HasRun script (length script.steps)) recorders k r each has).records
          ∙ ap (own_records script (length script.steps)) (ap (λ (p : ℕ × List Record). p.0) by ∙ of)
      | inr nowhere ↦
          ap (map without_seen) (of_nowhere closed.buffers thread own nowhere)
          ∙ sym (without_steps script thread (none nowhere (cared thread)))
    ]
  where
    own : AreOwn closed.buffers
    own i b is = (all_get (IsBuffer closed.entries) closed.buffers i b are.buffers is).orderly

    none : IsNowhere closed.buffers thread → IsCared script recorders thread
        → step_count script.steps thread ≡ 0
    none nowhere (inl empty) = empty
    none nowhere (inr (r, among, of)) =
        let there = Contains-permutation (map recorded_by recorders) (map thread_of closed.buffers)
        (recorded_by r) same (mapped_to recorded_by recorders r among) in
        let (b, has, by) = mapped_from thread_of closed.buffers (recorded_by r) there in
        let (i, is) = contains_get closed.buffers b has in
        absurd (nowhere i b is (ap (λ (p : ℕ × List Record). p.0) by ∙ of))
