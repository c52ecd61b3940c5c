-- What the records of a gathered trace show one by one: their numbers in their threads, no task on a device,
-- and that each could stand in a trace.
use Rattle.std.proofs.Common.{Bool, ◌≡◌, ◌∙◌, ℕ, true, false, List, length, take, Option, Some, refl, sym, ap}
use Rattle.std.proofs.Common.{inl, inr}
use Rattle.std.specs.Prelude.{◌==◌, ◌&&◌, All, is_some, count_by, slice_get}
use Rattle.std.specs.Option.{option_map_or}
use Rattle.std.proofs.lemmas.Bool.{and_parts, and_from, not-true, both_ways, false≢true}
use Rattle.std.proofs.lemmas.List.Sums.{length-filter}
use Rattle.ompt_events.specs.declared.records.Record.{Record}
use Rattle.ompt_events.specs.declared.records.Body.{Body}
use Rattle.ompt_events.specs.declared.cause.Cause.TheVariants.{SeqGap, TargetTask}
use Rattle.ompt_events.specs.Flags as flag
use Rattle.ompt_events.specs.Flags.{has_flag}
use Rattle.ompt_events.specs.Places.{nests_at}
use Rattle.ompt_events.specs.Records.{made, flags}
use Rattle.ompt_events.specs.Causes.{HasSeqGap, MakesTarget, IsFreeOf, seq_gap, target_task}
use Rattle.ompt_events.specs.Traces.{IsSoundIn, IsInRange, IsTrace, IsTraceOf}
use Rattle.ompt_events.proofs.PlaceLemmas.{at_get, get_at}
use Rattle.callbacks.specs.Standing.{standing_of, fits, is_outside, is_on_host, begins_own_region, allows}
use Rattle.callbacks.specs.Logs.{AreOfKind}
use Rattle.callbacks.specs.Closed.{ClosedView, AreClosed}
use Rattle.callbacks.specs.Gathered.{gathered, HaveOwnThreads, IsWithinLimits, version_of}
use Rattle.callbacks.proofs.GatherLemmas.{all_from_get, from_buffer, follows_of, buffer_before}

-- ---- numbers in a thread

numbered : (closed : ClosedView) (i : ℕ) → AreClosed closed → HaveOwnThreads closed.buffers
    → HasSeqGap (gathered closed.buffers) i → ⊥
numbered closed i are apart (r, is, differs) =
    let from = from_buffer closed.buffers i r is in
    let earlier = take i (gathered closed.buffers) in
    let own = take from.place from.buffer.records in
    let count : count_by (λ (q : Record). q.thread == r.thread) earlier ≡ length own =
    sym (length-filter (λ (q : Record). q.thread == r.thread) earlier)
    ∙ ap length (buffer_before closed i r are apart from) in
    differs ((follows_of closed i r are from).seq_is ∙ sym count)

pub threads_numbered : (closed : ClosedView) → AreClosed closed → HaveOwnThreads closed.buffers
    → IsFreeOf (gathered closed.buffers) SeqGap
threads_numbered closed are apart i (seq_gap gap) = numbered closed i are apart gap

-- ---- no task on a device

-- what is allowed where regions may not lie inside others
allowed_flat : (nests : Bool) (own : List Record) (body : Body) → nests ≡ false
    → allows nests own body ≡ true → (is_outside (standing_of own) body && is_on_host body) ≡ true
allowed_flat true own body flat allowed = absurd (false≢true (sym flat))
allowed_flat false own body flat allowed =
    (and_parts (fits (standing_of own) body) (is_outside (standing_of own) body && is_on_host body) allowed).1

pub allowed_outside : (nests : Bool) (own : List Record) (body : Body) → nests ≡ false
    → allows nests own body ≡ true → is_outside (standing_of own) body ≡ true
allowed_outside nests own body flat allowed =
    (and_parts (is_outside (standing_of own) body) (is_on_host body)
    (allowed_flat nests own body flat allowed)).0

pub allowed_on_host : (nests : Bool) (own : List Record) (body : Body) → nests ≡ false
    → allows nests own body ≡ true → is_on_host body ≡ true
allowed_on_host nests own body flat allowed =
    (and_parts (is_outside (standing_of own) body) (is_on_host body)
    (allowed_flat nests own body flat allowed)).1

-- and where they may
pub allowed_own : (nests : Bool) (own : List Record) (body : Body) → nests ≡ true
    → allows nests own body ≡ true → begins_own_region own body ≡ true
allowed_own true own body nested allowed =
    (and_parts (fits (standing_of own) body) (begins_own_region own body) allowed).1
allowed_own false own body nested allowed = absurd (false≢true nested)

-- whether regions may lie inside others at a place
pub nests_get : (rs : List Record) (i : ℕ) (r : Record) (b : Bool) → slice_get rs i ≡ Some r
    → nests_at rs i ≡ b → r.nests ≡ b
nests_get rs i r b is nests =
    sym (ap (λ (o : Option Record). option_map_or (λ (q : Record). q.nests) o false) is) ∙ nests

pub not_on_host : (body : Body) (task bits : ℕ) → is_on_host body ≡ true → made body ≡ Some task
    → flags body ≡ Some bits → has_flag bits flag.target ≡ true → ⊥
not_on_host body task bits host makes given device =
    let on_device = option_map_or (λ b. has_flag b flag.target) (flags body) false in
    let is : on_device ≡ true =
    ap (λ o. option_map_or (λ b. has_flag b flag.target) o false) given ∙ device in
    both_ways (is_some (made body) && on_device) (not-true (is_some (made body) && on_device) host)
    (and_from (is_some (made body)) on_device (ap is_some makes) is)

makes_no_target : (closed : ClosedView) (i : ℕ) → AreClosed closed → MakesTarget (gathered closed.buffers) i
    → ⊥
makes_no_target closed i are (task, bits, barred, makes, given, device) =
    let (r, is, makes_it) = get_at made (gathered closed.buffers) i task makes in
    let from = from_buffer closed.buffers i r is in
    let flat = nests_get (gathered closed.buffers) i r false is barred in
    let host = allowed_on_host r.nests (take from.place from.buffer.records) r.body flat
    (follows_of closed i r are from).allowed in
    not_on_host r.body task bits host makes_it
    (sym (at_get flags (gathered closed.buffers) i r is) ∙ given) device

pub none_on_device : (closed : ClosedView) → AreClosed closed → IsFreeOf (gathered closed.buffers) TargetTask
none_on_device closed are i (target_task makes) = makes_no_target closed i are makes

-- ---- a trace

pub all_sound : (closed : ClosedView) → AreClosed closed
    → All (λ (r : Record). IsSoundIn 2 r.body) (gathered closed.buffers)
all_sound closed are = all_from_get (λ (r : Record). IsSoundIn 2 r.body) (gathered closed.buffers)
    (λ i r is. (follows_of closed i r are (from_buffer closed.buffers i r is)).sound)

all_in_range : (closed : ClosedView) → AreClosed closed → All IsInRange (gathered closed.buffers)
all_in_range closed are = all_from_get IsInRange (gathered closed.buffers)
    (λ i r is. (follows_of closed i r are (from_buffer closed.buffers i r is)).in_range)

-- the records are a trace where there are no more than a trace may have
is_trace : (closed : ClosedView) → AreClosed closed → IsWithinLimits (gathered closed.buffers)
    → IsTrace (gathered closed.buffers)
is_trace closed are within = record {
  few_records = within.0;
  few_tasks = within.1;
  sound = λ i d inside. (all_sound closed are i d inside).0;
  in_range = all_in_range closed are;
}

-- of the version that the records are of
pub gathered_trace : (nests : Bool) (closed : ClosedView) → AreClosed closed
    → AreOfKind nests (gathered closed.buffers)
    → IsWithinLimits (gathered closed.buffers) → IsTraceOf (version_of nests) (gathered closed.buffers)
gathered_trace true closed are kind within = record {
  known = inr (inr refl);
  is_trace = is_trace closed are within;
  turns = λ i d inside. (all_sound closed are i d inside).1;
  nesting = kind;
}
gathered_trace false closed are kind within = record {
  known = inr (inl refl);
  is_trace = is_trace closed are within;
  turns = λ i d inside. (all_sound closed are i d inside).1;
  nesting = kind;
}
