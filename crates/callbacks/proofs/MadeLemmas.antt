-- Where the recorders' seats have all shares of the right to enter, their records make all entries.
use Rattle.std.proofs.Common.{◌≡◌, ◌≢◌, ◌⊎◌, ◌∙◌, ℕ, suc, ◌+◌, Bool, true, false, cond, List, [], ◌∷◌}
use Rattle.std.proofs.Common.{◌++◌, length, All, Option, Some, None, refl, sym, ap, subst, arith, inl, inr}
use Rattle.std.proofs.Common.{⊎_elim}
use Rattle.std.specs.Prelude.{map, fold, count_by, slice_get, is_some, option_map, option_and_then, ◌==◌}
use Rattle.std.specs.Prelude.{if◌then◌else◌}
use Rattle.std.specs.List.{flat_map, sum_by, AllByRecursion}
use Rattle.std.specs.Option.{option_map_or}
use Rattle.std.specs.List.Sorted.{IsPermutation}
use Rattle.std.proofs.lemmas.Bool.{cases_Bool, eqb-true, eq-eqb, false≢true}
use Rattle.std.proofs.lemmas.List.{length_push}
use Rattle.std.proofs.lemmas.List.Elements.{recursion_from_All}
use Rattle.std.proofs.lemmas.List.Folds.{flat_map-map}
use Rattle.std.proofs.lemmas.List.Sums.{sum_by-cons, sum_by-append}
use Rattle.std.proofs.lemmas.List.Sorted.{sum_by-IsPermutation}
use Rattle.ompt_events.specs.declared.records.Record.{Record}
use Rattle.ompt_events.specs.declared.records.Claim.{Claim as Place}
use Rattle.ompt_events.specs.declared.records.Part.{Part}
use Rattle.ompt_events.specs.Records.{finish, claim}
use Rattle.ompt_events.specs.Causes.{entries_in}
use Rattle.credit_ledger.specs.declared.entry.Entry.{Entry}
use Rattle.credit_ledger.specs.declared.shared.Seat.{Seat}
use Rattle.credit_ledger.specs.declared.view.Call.{Call}
use Rattle.credit_ledger.specs.declared.view.Call.TheVariants.{Enter, Look}
use Rattle.credit_ledger.specs.declared.view.Claim.{Claim}
use Rattle.credit_ledger.specs.declared.view.Step.{Step}
use Rattle.credit_ledger.specs.declared.view.View.{View}
use Rattle.credit_ledger.specs.Histories.{after_call, entries_after}
use Rattle.credit_ledger.specs.Seats.{seat_calls, is_enter, AreClaims, AreOfOthers, AreSeatsApart, IsClaimed}
use Rattle.credit_ledger.specs.Seats.{AreAll, AreEntersOf, HasCallsOf, claim_of, claims_of}
use Rattle.credit_ledger.specs.TraceEntries.{claimed_entry}
use Rattle.callbacks.specs.Buffers.{BufferView}
use Rattle.callbacks.specs.Logs.{AreOrderly}
use Rattle.callbacks.specs.Recorders.{RecorderView, IsBacked, uses_ledger, replied, ledger_call, ledger_calls}
use Rattle.callbacks.specs.Recorders.{IsWithLooks}
use Rattle.callbacks.specs.Closed.{HasUnusedSeat, AreParts}
use Rattle.callbacks.specs.Gathered.{gathered}

-- ---- how many Enters

abbrev enters : List Step → ℕ
enters calls = count_by (λ (s : Step). is_enter s.call) calls

abbrev one_if : Bool → ℕ
one_if b = cond b 1 0

enters-cons : (s : Step) (calls : List Step) → enters (s ∷ calls) ≡ one_if (is_enter s.call) + enters calls
enters-cons s calls = sum_by-cons (λ (x : Step). one_if (is_enter x.call)) s calls

-- each one adds an entry
entries-counted : (entries : List Entry) (h : List Step)
    → length (fold (λ es (s : Step). after_call es s.call) entries h) ≡ length entries + enters h
entries-counted entries [] = omega arith
entries-counted entries (s ∷ h) =
    let more = entries-counted (after_call entries s.call) h in
    let call = by s.call in omega (arith, more, call, enters-cons s h)
  where
    by : (call : Call) → length (after_call entries call) ≡ length entries + one_if (is_enter call)
    by (Enter entry) = length_push entries entry
    by Look = omega arith

-- ---- those of some seats

abbrev total : List Claim → List Step → ℕ
total [] h = 0
total (c ∷ claims) h = enters (seat_calls c.number h) + total claims h

one-more : (n : ℕ) (s : Step) (h : List Step)
    → enters (seat_calls n (s ∷ h))
    ≡ cond (s.seat == n) (one_if (is_enter s.call)) 0 + enters (seat_calls n h)
one-more n s h = by (s.seat == n)
  where
    by : (b : Bool) → enters (cond b (s ∷ seat_calls n h) (seat_calls n h))
        ≡ cond b (one_if (is_enter s.call)) 0 + enters (seat_calls n h)
    by true = enters-cons s (seat_calls n h)
    by false = omega arith

total-nil : (claims : List Claim) → total claims [] ≡ 0
total-nil [] = refl
total-nil (c ∷ claims) = let rest = total-nil claims in omega (arith, rest)

-- a call that is no Enter of theirs
total-same : (claims : List Claim) (s : Step) (h : List Step)
    → ((is_enter s.call ≡ false) ⊎ AreOfOthers s.seat claims) → total claims (s ∷ h) ≡ total claims h
total-same [] s h why = refl
total-same (c ∷ claims) s h why =
    let first : enters (seat_calls c.number (s ∷ h)) ≡ enters (seat_calls c.number h) =
    one-more c.number s h ∙ none why in
    let rest = total-same claims s h
    (⊎_elim (λ (look : is_enter s.call ≡ false). inl look)
    (λ (others : (c.number ≢ s.seat) × AreOfOthers s.seat claims). inr others.1) why) in
    omega (arith, first, rest)
  where
    none : ((is_enter s.call ≡ false) ⊎ AreOfOthers s.seat (c ∷ claims))
        → cond (s.seat == c.number) (one_if (is_enter s.call)) 0 + enters (seat_calls c.number h)
        ≡ enters (seat_calls c.number h)
    none (inl look) =
        subst (λ b. cond (s.seat == c.number) (one_if b) 0 + enters (seat_calls c.number h)
        ≡ enters (seat_calls c.number h)) (sym look)
        (by (s.seat == c.number))
      where
        by : (b : Bool) → cond b 0 0 + enters (seat_calls c.number h) ≡ enters (seat_calls c.number h)
        by true = omega arith
        by false = omega arith
    none (inr others) =
        ⊎_elim
        (λ (same : (s.seat == c.number) ≡ true).
        absurd (others.0 (sym (eqb-true s.seat c.number same))))
        (λ (unlike : (s.seat == c.number) ≡ false).
        subst (λ b. cond b (one_if (is_enter s.call)) 0 + enters (seat_calls c.number h)
        ≡ enters (seat_calls c.number h)) (sym unlike) (omega arith))
        (cases_Bool (s.seat == c.number))

-- an Enter of one of them
total-more : (claims : List Claim) (s : Step) (h : List Step) → is_enter s.call ≡ true
    → IsClaimed s.seat claims
    → AreSeatsApart claims → total claims (s ∷ h) ≡ total claims h + 1
total-more [] s h enter claimed apart = absurd claimed
total-more (c ∷ claims) s h enter (inl is) apart =
    let first : enters (seat_calls c.number (s ∷ h)) ≡ 1 + enters (seat_calls c.number h) =
    one-more c.number s h
    ∙ ap (λ b. cond b (one_if (is_enter s.call)) 0 + enters (seat_calls c.number h))
    (eq-eqb s.seat c.number (sym is))
    ∙ ap (λ b. one_if b + enters (seat_calls c.number h)) enter in
    let rest = total-same claims s h (inr (subst (λ n. AreOfOthers n claims) is apart.0)) in
    omega (arith, first, rest)
total-more (c ∷ claims) s h enter (inr later) apart =
    let unlike = not-first claims apart.0 later in
    let first : enters (seat_calls c.number (s ∷ h)) ≡ enters (seat_calls c.number h) =
    one-more c.number s h
    ∙ ⊎_elim (λ (same : (s.seat == c.number) ≡ true). absurd (unlike (eqb-true s.seat c.number same)))
    (λ (other : (s.seat == c.number) ≡ false).
    subst (λ b. cond b (one_if (is_enter s.call)) 0 + enters (seat_calls c.number h)
    ≡ enters (seat_calls c.number h)) (sym other) (omega arith))
    (cases_Bool (s.seat == c.number)) in
    let rest = total-more claims s h enter later apart.1 in omega (arith, first, rest)
  where
    not-first : (l : List Claim) → AreOfOthers c.number l → IsClaimed s.seat l → s.seat ≡ c.number → ⊥
    not-first [] others there same = there
    not-first (x ∷ l) others (inl is) same = others.0 (is ∙ same)
    not-first (x ∷ l) others (inr there) same = not-first l others.1 there same

-- all Enters are theirs
enters-total : (claims : List Claim) (h : List Step) → AreSeatsApart claims → AreEntersOf claims h
    → enters h ≡ total claims h
enters-total claims h apart all =
    go h (recursion_from_All (λ (s : Step). is_enter s.call ≡ true → IsClaimed s.seat claims) h all)
  where
    go : (l : List Step) → AllByRecursion (λ (s : Step). is_enter s.call ≡ true → IsClaimed s.seat claims) l
        → enters l ≡ total claims l
    go [] each = sym (total-nil claims)
    go (s ∷ l) each =
        let rest = go l each.1 in
        ⊎_elim
        (λ (enter : is_enter s.call ≡ true).
        let more = total-more claims s l enter (each.0 enter) apart in
        let one = ap one_if enter in omega (arith, rest, more, one, enters-cons s l))
        (λ (look : is_enter s.call ≡ false).
        let same = total-same claims s l (inl look) in
        let none = ap one_if look in omega (arith, rest, same, none, enters-cons s l))
        (cases_Bool (is_enter s.call))

-- the same by their own calls
abbrev own-total : List Claim → ℕ
own-total [] = 0
own-total (c ∷ claims) = enters c.own + own-total claims

total-own : (claims : List Claim) (h : List Step) → AreClaims h claims → total claims h ≡ own-total claims
total-own [] h are = refl
total-own (c ∷ claims) h are =
    let first = ap enters are.0.1 in let rest = total-own claims h are.1 in omega (arith, first, rest)

-- ---- those of a recorder's seat

looks-counted : (calls own : List Step) → IsWithLooks calls own → enters own ≡ enters calls
looks-counted calls [] are = sym (ap enters are)
looks-counted calls (s ∷ own) (inl look) =
    let rest = looks-counted calls own look.1 in
    let none = ap one_if look.0 in omega (arith, rest, none, enters-cons s own)
looks-counted calls (s ∷ own) (inr call) =
    let rest = looks-counted call.0 own call.2 in
    let all = ap enters call.1 in omega (arith, rest, all, enters-cons s own, enters-cons s call.0)

abbrev call-from : ℕ → Record → Option (ℕ × Part) → Option Place → Bool → List Step
call-from number r finished claimed uses =
    option_map_or (λ e. replied number r (Enter e) ∷ [])
    (option_and_then (λ f. option_map (claimed_entry r.thread f) claimed) finished)
    (if uses then replied number r Look ∷ [] else [])

call-counted : (number : ℕ) (r : Record) → is_some (claim r.body) ≡ is_some (finish r.body)
    → enters (ledger_call number r) ≡ one_if (is_some (finish r.body))
call-counted number r sound = by (finish r.body) (claim r.body) (uses_ledger r.body) sound
  where
    by : (finished : Option (ℕ × Part)) (claimed : Option Place) (uses : Bool)
        → is_some claimed ≡ is_some finished
        → enters (call-from number r finished claimed uses) ≡ one_if (is_some finished)
    by None claimed true same = refl
    by None claimed false same = refl
    by (Some f) None uses same = absurd (false≢true same)
    by (Some f) (Some c) uses same = refl

calls-counted : (number : ℕ) (own : List Record)
    → ((i : ℕ) (r : Record) → slice_get own i ≡ Some r → is_some (claim r.body) ≡ is_some (finish r.body))
    → enters (ledger_calls number own) ≡ entries_in own
calls-counted number [] sound = refl
calls-counted number (r ∷ own) sound =
    let first = call-counted number r (sound 0 r refl) in
    let rest = calls-counted number own (λ i x at. sound (suc i) x at) in
    let both =
    sum_by-append (λ (x : Step). one_if (is_enter x.call)) (ledger_call number r) (ledger_calls number own) in
    omega (arith, first, rest, both, sum_by-cons (λ (x : Record). one_if (is_some (finish x.body))) r own)

recorder-counted : (thread known : ℕ) (r : RecorderView) → AreOrderly thread r.records
    → IsBacked r.before r.records known r.seat → r.before ≡ [] → enters r.seat.own ≡ entries_in r.records
recorder-counted thread known r orderly backed unused =
    let calls = backed.calls in
    ap enters (calls.1 ∙ ap (λ l. l ++ calls.0) unused)
    ∙ looks-counted (ledger_calls r.seat.number r.records) calls.0 calls.2
    ∙ calls-counted r.seat.number r.records (λ i x at. (orderly i x at).sound.0.claimed)

-- ---- those of all recorders

-- seats that have taken in no other one
pub claims-alone : (recorders : List RecorderView) → AllByRecursion HasUnusedSeat recorders
    → flat_map claims_of (map (λ (r : RecorderView). r.seat) recorders)
    ≡ map (λ (r : RecorderView). claim_of r.seat) recorders
claims-alone [] unused = refl
claims-alone (r ∷ recorders) unused =
    ap (λ l. (claim_of r.seat ∷ l) ++ flat_map claims_of (map (λ (q : RecorderView). q.seat) recorders))
    unused.0.1
    ∙ ap (λ l. claim_of r.seat ∷ l) (claims-alone recorders unused.1)

parts-counted : (recorders : List RecorderView) (seats : List Seat) (buffers : List BufferView)
    → AreParts recorders seats buffers → AllByRecursion HasUnusedSeat recorders
    → own-total (map (λ (r : RecorderView). claim_of r.seat) recorders) ≡ entries_in (gathered buffers)
parts-counted [] [] [] are unused = refl
parts-counted (r ∷ recorders) (s ∷ seats) (b ∷ buffers) are unused =
    let first = recorder-counted r.thread r.known r are.0.recorded.orderly are.0.backed unused.0.0 in
    let same = ap entries_in are.0.records_are in
    let rest = parts-counted recorders seats buffers are.1 unused.1 in
    let both =
    sum_by-append (λ (x : Record). one_if (is_some (finish x.body))) b.records (gathered buffers) in
    omega (arith, first, same, rest, both)
parts-counted [] [] (b ∷ buffers) are unused = absurd are
parts-counted [] (s ∷ seats) buffers are unused = absurd are
parts-counted (r ∷ recorders) [] buffers are unused = absurd are
parts-counted (r ∷ recorders) (s ∷ seats) [] are unused = absurd are

gathered-counted : (buffers : List BufferView)
    → entries_in (gathered buffers) ≡ sum_by (λ (b : BufferView). entries_in b.records) buffers
gathered-counted [] = refl
gathered-counted (b ∷ buffers) =
    sum_by-append (λ (x : Record). one_if (is_some (finish x.body))) b.records (gathered buffers)
    ∙ ap (λ n. entries_in b.records + n) (gathered-counted buffers)
    ∙ sym (sum_by-cons (λ (c : BufferView). entries_in c.records) b buffers)

-- they make as many entries as the ledger has
pub all-made : (history : List Step) (recorders : List RecorderView) (seats : List Seat)
    (buffers sorted : List BufferView) (entries : List Entry) → AreParts recorders seats buffers
    → All HasUnusedSeat recorders → HasCallsOf history (map (λ (r : RecorderView). r.seat) recorders)
    → AreAll (flat_map (λ (r : RecorderView). r.seat.shares) recorders)
    → entries ≡ entries_after history → IsPermutation buffers sorted
    → entries_in (gathered sorted) ≡ length entries
all-made history recorders seats buffers sorted entries are unused calls shares is permuted =
    let views = map (λ (r : RecorderView). r.seat) recorders in
    let each = recursion_from_All HasUnusedSeat recorders unused in
    let all : AreAll (flat_map (λ (v : View). v.shares) views) =
    subst AreAll (sym (flat_map-map (λ (v : View). v.shares) (λ (r : RecorderView). r.seat) recorders))
    shares in
    let counted = entries-counted [] history in
    let by_seat =
    enters-total (flat_map claims_of views) history calls.apart (calls.enters all)
    ∙ total-own (flat_map claims_of views) history calls.claims in
    let by_record =
    ap own-total (claims-alone recorders each) ∙ parts-counted recorders seats buffers are each in
    let order =
    gathered-counted sorted
    ∙ sum_by-IsPermutation (λ (b : BufferView). entries_in b.records) buffers sorted permuted
    ∙ sym (gathered-counted buffers) in
    let same = ap length is in omega (arith, counted, by_seat, by_record, order, same)
