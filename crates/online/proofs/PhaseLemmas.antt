-- How many barriers a task has begun, and who is in a team.
use Rattle.std.proofs.Common.{◌≡◌, ◌≢◌, ◌∙◌, ℕ, zero, suc, ◌<◌, ◌≤◌, ◌+◌, ◌-◌, Bool, true, false, cond, List}
use Rattle.std.proofs.Common.{[], ◌∷◌, ◌++◌, length, Option, Some, None, refl, sym, ap, arith, inl, inr}
use Rattle.std.specs.Prelude.{slice_get, Contains, ◌==◌}
use Rattle.std.specs.Option.{option_map_or}
use Rattle.std.proofs.lemmas.Bool.{cases_lt, eq-eqb, ne_eqb}
use Rattle.std.proofs.lemmas.Option.{none-some, same_Some}
use Rattle.std.proofs.lemmas.List.{length_push, append-nil, length-append}
use Rattle.ompt_events.specs.declared.records.Record.{Record}
use Rattle.ompt_events.specs.declared.records.Membership.{Membership}
use Rattle.ompt_events.specs.declared.names.SyncKind.{SyncKind}
use Rattle.ompt_events.specs.declared.names.Endpoint.{Endpoint}
use Rattle.ompt_events.specs.declared.names.Endpoint.TheVariants.{Begin, End, BeginEnd}
use Rattle.ompt_events.specs.Records.{made, joined, region, running}
use Rattle.ompt_events.specs.Places.{at, is_own, own_before}
use Rattle.ompt_events.specs.Teams.{members, members_before}
use Rattle.ompt_events.specs.Regions.{is_barrier, barrier_begun, begins_barrier, IsBarrierBegin}
use Rattle.ompt_events.specs.Causes.{IsMade}
use Rattle.ompt_events.proofs.PlaceLemmas.{own_below}
use Rattle.ompt_events.proofs.ListLemmas.{get_within, get_contains}
use Rattle.ompt_events.proofs.RecordLemmas.{at_through, region_running, member_made}
use Rattle.online.specs.Teams.{phase_at}
use Rattle.online.proofs.ReadLemmas.{same_append}
use Rattle.online.proofs.BarrierLemmas.{begins_before, one_begin, begins_more, begins_same, begins_later}
use Rattle.online.proofs.BarrierLemmas.{filter_from}
use Rattle.online.proofs.TeamLemmas.{added, members_more, members_same, member_place}
use Rattle.online.proofs.OpenGroupLemmas.{at_last}

-- ---- barriers

-- by one more place there are no fewer, and at most one more
phase_rises_one : (rs : List Record) (task i : ℕ)
    → (phase_at rs task i ≤ phase_at rs task (i + 1)) × (phase_at rs task (i + 1) ≤ phase_at rs task i + 1)
phase_rises_one rs task i =
    let e = ap length (begins_more rs task i) in
    let f =
    length-append (begins_before rs task i) (one_begin (is_own rs task i) (begins_barrier rs task i) i) in
    let g = most (is_own rs task i) (begins_barrier rs task i) in
    (omega (arith, e, f), omega (arith, e, f, g))
  where
    most : (own begins : Bool) → length (one_begin own begins i) ≤ 1
    most true true = omega arith
    most true false = omega arith
    most false begins = omega arith

pub phase_rises : (rs : List Record) (task i more : ℕ) → phase_at rs task i ≤ phase_at rs task (i + more)
phase_rises rs task i zero =
    let e : i + zero ≡ i = omega arith in
    let f : phase_at rs task (i + zero) ≡ phase_at rs task i = ap (phase_at rs task) e in
    omega (arith, f)
phase_rises rs task i (suc more) =
    let e : i + suc more ≡ i + more + 1 = omega arith in
    let f : phase_at rs task (i + suc more) ≡ phase_at rs task (i + more + 1) = ap (phase_at rs task) e in
    let g = phase_rises rs task i more in
    let h = (phase_rises_one rs task (i + more)).0 in
    omega (arith, f, g, h)

-- no more than there are records
pub phase_few : (rs : List Record) (task i : ℕ) → phase_at rs task i ≤ i
phase_few rs task zero = omega arith
phase_few rs task (suc i) =
    let e : suc i ≡ i + 1 = omega arith in
    let f : phase_at rs task (suc i) ≡ phase_at rs task (i + 1) = ap (phase_at rs task) e in
    let g = phase_few rs task i in
    let h = (phase_rises_one rs task i).1 in
    omega (arith, f, g, h)

-- the first records have as many
pub phase_same : (rs : List Record) (r : Record) (task i : ℕ) → i ≤ length rs
    → phase_at (rs ++ r ∷ []) task i ≡ phase_at rs task i
phase_same rs r task i most =
    ap length (begins_same (length rs) (rs ++ r ∷ []) rs (same_append rs (r ∷ [])) task i most)

begun_who : (other : ℕ) (kind : SyncKind) (endpoint : Endpoint) (task : ℕ)
    → barrier_begun (Some (other, kind, endpoint)) ≡ Some task → other ≡ task
begun_who other kind End task is = cc
begun_who other kind Begin task is = of (is_barrier kind) is
  where
    of : (b : Bool) → cond b (Some other) None ≡ Some task → other ≡ task
    of true e = same_Some other task e
    of false e = absurd (none-some task e)
begun_who other kind BeginEnd task is = of (is_barrier kind) is
  where
    of : (b : Bool) → cond b (Some other) None ≡ Some task → other ≡ task
    of true e = same_Some other task e
    of false e = absurd (none-some task e)

-- the one that begins a barrier runs there
begun_own : (rs : List Record) (task i : ℕ) → barrier_begun (at region rs i) ≡ Some task
    → is_own rs task i ≡ true
begun_own rs task i begins = of (at region rs i) refl begins
  where
    own : (other : ℕ) (kind : SyncKind) (endpoint : Endpoint) → at region rs i ≡ Some (other, kind, endpoint)
        → other ≡ task → is_own rs task i ≡ true
    own other kind endpoint says same =
        let runs =
        at_through region running (other, kind, endpoint) other rs i (region_running other kind endpoint)
        says in
        ap (λ o. option_map_or (λ t. t == task) o false) runs ∙ eq-eqb other task same

    of : (o : Option (ℕ × SyncKind × Endpoint)) → at region rs i ≡ o → barrier_begun o ≡ Some task
        → is_own rs task i ≡ true
    of None e is = cc
    of (Some (other, kind, endpoint)) e is = own other kind endpoint e (begun_who other kind endpoint task is)

-- behind the new record a task has one more if that begins a barrier of it, and else as many
pub phase_more : (rs : List Record) (r : Record) (task : ℕ) → barrier_begun (region r.body) ≡ Some task
    → phase_at (rs ++ r ∷ []) task (length (rs ++ r ∷ [])) ≡ phase_at rs task (length rs) + 1
phase_more rs r task begins =
    ap (phase_at (rs ++ r ∷ []) task) (length_push rs r)
    ∙ ap length
    (begins_more (rs ++ r ∷ []) task (length rs)
    ∙ ap
    (λ b.
    begins_before (rs ++ r ∷ []) task (length rs)
    ++ one_begin b (begins_barrier (rs ++ r ∷ []) task (length rs)) (length rs))
    (begun_own (rs ++ r ∷ []) task (length rs) there)
    ∙ ap (λ b. begins_before (rs ++ r ∷ []) task (length rs) ++ one_begin true b (length rs)) here)
    ∙ length_push (begins_before (rs ++ r ∷ []) task (length rs)) (length rs)
    ∙ ap (λ n. n + 1) (phase_same rs r task (length rs) (omega arith))
  where
    there : barrier_begun (at region (rs ++ r ∷ []) (length rs)) ≡ Some task
    there = ap barrier_begun (at_last region rs r) ∙ begins

    here : begins_barrier (rs ++ r ∷ []) task (length rs) ≡ true
    here = ap (λ o. option_map_or (λ t. t == task) o false) there ∙ eq-eqb task task refl

pub phase_stays : (rs : List Record) (r : Record) (task : ℕ) → barrier_begun (region r.body) ≢ Some task
    → phase_at (rs ++ r ∷ []) task (length (rs ++ r ∷ [])) ≡ phase_at rs task (length rs)
phase_stays rs r task apart =
    ap (phase_at (rs ++ r ∷ []) task) (length_push rs r)
    ∙ ap length
    (begins_more (rs ++ r ∷ []) task (length rs)
    ∙ ap
    (λ b.
    begins_before (rs ++ r ∷ []) task (length rs)
    ++ one_begin (is_own (rs ++ r ∷ []) task (length rs)) b (length rs))
    here
    ∙ nothing (is_own (rs ++ r ∷ []) task (length rs)))
    ∙ phase_same rs r task (length rs) (omega arith)
  where
    of : (o : Option ℕ) → o ≢ Some task → option_map_or (λ t. t == task) o false ≡ false
    of None away = refl
    of (Some other) away = ne_eqb other task (λ e. away (ap Some e))

    here : begins_barrier (rs ++ r ∷ []) task (length rs) ≡ false
    here =
        of (barrier_begun (at region (rs ++ r ∷ []) (length rs)))
        (λ e. apart (sym (ap barrier_begun (at_last region rs r)) ∙ e))

    nothing : (own : Bool)
        → begins_before (rs ++ r ∷ []) task (length rs) ++ one_begin own false (length rs)
        ≡ begins_before (rs ++ r ∷ []) task (length rs)
    nothing true = append-nil (begins_before (rs ++ r ∷ []) task (length rs))
    nothing false = append-nil (begins_before (rs ++ r ∷ []) task (length rs))

-- ---- the begin of a barrier with a number

-- before it no more than that number are begun
pub phase_number : (rs : List Record) (task number start i : ℕ) → IsBarrierBegin rs task number start
    → i ≤ start → start < length rs → phase_at rs task i ≤ number
phase_number rs task number start i begins low inside = elim (cases_lt number (phase_at rs task i)) [
  | inl less ↦
      let (x, at_x) = get_within (begins_before rs task i) number less in
      let rest : i + (length rs - i) ≡ length rs = omega (arith, low, inside) in
      let later = begins_later rs task i (length rs - i) number x at_x in
      let there = ap (λ m. slice_get (begins_before rs task m) number) (sym rest) ∙ later in
      let same : start ≡ x = same_Some start x (sym begins ∙ there) in
      let own =
      (filter_from (begins_barrier rs task) (own_before rs task i) x
      (get_contains (begins_before rs task i) x number at_x)).0 in
      let early = own_below rs task i x own in
      absurd (omega (arith, same, early, low))
  | inr most ↦ most
]

-- ---- members

pub members_stay : (rs : List Record) (r : Record) (parallel : ℕ)
    → ((m : Membership) → joined r.body ≡ Some m → m.parallel ≢ parallel)
    → members (rs ++ r ∷ []) parallel ≡ members rs parallel
members_stay rs r parallel apart =
    ap (members_before (rs ++ r ∷ []) parallel) (length_push rs r)
    ∙ members_more (rs ++ r ∷ []) parallel (length rs)
    ∙ ap (λ o. members_before (rs ++ r ∷ []) parallel (length rs) ++ added parallel o) (at_last joined rs r)
    ∙ of (joined r.body) refl
    ∙ members_same (length rs) (rs ++ r ∷ []) rs (same_append rs (r ∷ [])) parallel (length rs) (omega arith)
  where
    of : (o : Option Membership) → joined r.body ≡ o
        → members_before (rs ++ r ∷ []) parallel (length rs) ++ added parallel o
        ≡ members_before (rs ++ r ∷ []) parallel (length rs)
    of None e = append-nil (members_before (rs ++ r ∷ []) parallel (length rs))
    of (Some m) e =
        ap (λ b. members_before (rs ++ r ∷ []) parallel (length rs) ++ cond b (m ∷ []) [])
        (ne_eqb m.parallel parallel (apart m e))
        ∙ append-nil (members_before (rs ++ r ∷ []) parallel (length rs))

pub members_join : (rs : List Record) (r : Record) (m : Membership) → joined r.body ≡ Some m
    → members (rs ++ r ∷ []) m.parallel ≡ members rs m.parallel ++ m ∷ []
members_join rs r m joins =
    ap (members_before (rs ++ r ∷ []) m.parallel) (length_push rs r)
    ∙ members_more (rs ++ r ∷ []) m.parallel (length rs)
    ∙ ap (λ o. members_before (rs ++ r ∷ []) m.parallel (length rs) ++ added m.parallel o)
    (at_last joined rs r ∙ joins)
    ∙ ap (λ b. members_before (rs ++ r ∷ []) m.parallel (length rs) ++ cond b (m ∷ []) [])
    (eq-eqb m.parallel m.parallel refl)
    ∙ ap (λ l. l ++ m ∷ [])
    (members_same (length rs) (rs ++ r ∷ []) rs (same_append rs (r ∷ [])) m.parallel (length rs)
    (omega arith))

-- no more than there are records
pub members_few : (rs : List Record) (parallel n : ℕ) → length (members_before rs parallel n) ≤ n
members_few rs parallel zero = omega arith
members_few rs parallel (suc n) =
    let e : suc n ≡ n + 1 = omega arith in
    let f = ap length (ap (members_before rs parallel) e ∙ members_more rs parallel n) in
    let g = length-append (members_before rs parallel n) (added parallel (at joined rs n)) in
    let h = members_few rs parallel n in
    let k = one (at joined rs n) in
    omega (arith, f, g, h, k)
  where
    one : (o : Option Membership) → length (added parallel o) ≤ 1
    one None = omega arith
    one (Some m) = of (m.parallel == parallel)
      where
        of : (b : Bool) → length {A = Membership} (cond b (m ∷ []) []) ≤ 1
        of true = omega arith
        of false = omega arith

-- a member was made
pub member_is_made : (rs : List Record) (parallel : ℕ) (m : Membership) → Contains (members rs parallel) m
    → IsMade rs m.member
member_is_made rs parallel m has =
    let is = member_place rs parallel (length rs) m has in
    (is.place, at_through joined made m m.member rs is.place (member_made m) is.joins)
