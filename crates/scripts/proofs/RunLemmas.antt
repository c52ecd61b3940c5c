-- How far a thread is, and what the threads leave together.
use Rattle.std.proofs.Common.{ℕ, ◌≡◌, ◌≢◌, ◌∙◌, ◌++◌, ◌∷◌, ◌+◌, ◌≤◌, ◌<◌, ◌⊎◌, [], List, Some, None, Option}
use Rattle.std.proofs.Common.{length, take, refl, sym, ap, subst, inl, inr, arith}
use Rattle.std.specs.Prelude.{◌==◌, IfSome, All, Contains, nat_eq, slice_get, get_or, option_and_then, map}
use Rattle.std.specs.Prelude.{Bool, true, false, if◌then◌else◌}
use Rattle.std.specs.Global.{Vec}
use Rattle.std.proofs.lemmas.Bool.{cases_lt, cases_order, ltb-true, ltb-false, leb-true, leb-false}
use Rattle.std.proofs.lemmas.Bool.{le-leb, eqb-true, ne_eqb}
use Rattle.std.proofs.lemmas.Option.{slice_get_past, slice_get_within, slice_get-get_or, none-some}
use Rattle.std.proofs.lemmas.List.{nil_from_length}
use Rattle.std.proofs.lemmas.List.Elements.{All-nil, All-cons, All-append, Contains-append_left}
use Rattle.std.proofs.lemmas.List.Elements.{Contains-append_right}
use Rattle.std.proofs.lemmas.List.{take_all, append-nil, map-append}
use Rattle.std.proofs.lemmas.Grind.{flat_map-append}
use Rattle.std.proofs.lemmas.List.Elements.{All-tail}
use Rattle.std.specs.List.{AllByRecursion, IsDistinct}
use Rattle.std.specs.Option.{option_map_or}
use Rattle.scripts.specs.declared.script.Step.{Step}
use Rattle.scripts.specs.Scripts.{ScriptView, step_count}
use Rattle.atomic_table.specs.Seated.{TableId}
use Rattle.task_states.specs.Rows.{row_at}
use Rattle.callbacks.specs.declared.fault.CallFault.{CallFault}
use Rattle.callbacks.specs.declared.fault.CallFault.TheVariants as call
use Rattle.callbacks.specs.Recorders.{RecorderView}
use Rattle.credit_ledger.specs.declared.view.View.{View}
use Rattle.callbacks.specs.Closed.{ClosedView, HasUnusedSeat}
use Rattle.callbacks.proofs.KnownLaw.{take_next}
use Rattle.callbacks.specs.Gathered.{gathered, BelongTogether}
use Rattle.callbacks.specs.Gathered.{IsWithinLimits, IsGatherFault, not_together, too_many, out_of_memory}
use Rattle.ompt_events.proofs.ListLemmas.{get_within, all_get, contains_get}
use Rattle.scripts.specs.Progress.{own_records, refused_at, without_seen, thread_records, progress}
use Rattle.scripts.specs.Progress.{progress_to, step_refusal}
use Rattle.scripts.specs.Runs.{line_of_fault, IsFirstRefusal}
use Rattle.scripts.specs.declared.run_fault.RunFault.TheVariants.{Memory, Thread, Call}
use Rattle.scripts.specs.Parts.{HasRun, AreAccepted, ArePlaces, IsPlaced, HaveEnded, IsCared, IsOutcome}
use Rattle.scripts.specs.Parts.{HasStopped, IsBehind, IsStopAt, IsEndAt, IsOrigin, IsStepOf}
use Rattle.scripts.specs.Parts.{fixed_of, unused_with}
use Rattle.scripts.specs.Parts.{shares_of, shares_in, seat_of, AreSeats, IsNewSeat, HaveAllEnded, IsAware}
use Rattle.scripts.specs.Parts.{line_of_stop, comes_first, first_stop}
use Rattle.scripts.specs.Parts.{without_memory, by_recorder, by_ledger, by_another}
use Rattle.scripts.specs.Parts.{entry_at, IsLedgerFault, IsEarly}
use Rattle.credit_ledger.specs.declared.entry.Entry.{Entry}
use Rattle.scripts.specs.declared.run_fault.Stop.{Stop}
use Rattle.scripts.specs.declared.run_fault.Stop.TheVariants.{Refused, Ended}
use Rattle.credit_ledger.specs.Seats.{AreAll}
use Rattle.scripts.proofs.PlaceLemmas.{count_next, count_rises, none_between, step_there}
use Rattle.scripts.proofs.ProgressLemmas.{own_between}
use Rattle.scripts.proofs.AwareLemmas.{aware_first, aware_between}

-- ---- a thread

-- the recorder has made the records of the thread's first steps, this many, and each of these was accepted
pub record IsAfter (script : ScriptView) (seats : List (Option View)) (thread count : ℕ) (r : RecorderView)
    : Type 0 where
  pub run : (n : ℕ) → n ≤ length script.steps → step_count (take n script.steps) thread ≡ count
      → HasRun script n r
  pub accepted : (n : ℕ) → n ≤ length script.steps → step_count (take n script.steps) thread ≡ count
      → AreAccepted script thread n
  pub aware : (n : ℕ) → n ≤ length script.steps → step_count (take n script.steps) thread ≡ count
      → IsAware script seats n r

-- with no step taken
pub after_none : (script : ScriptView) (seats : List (Option View)) (thread : ℕ) (r : RecorderView) (v : View)
    → r.thread ≡ thread → r.nests ≡ script.nests → r.capacity ≡ script.capacity → r.records ≡ []
    → seat_of seats thread ≡ Some v → r.seat ≡ v → IsNewSeat v → r.known ≡ 0
    → IsAfter script seats thread 0 r
after_none script seats thread r v of_thread nests capacity none is seat new known = record {
  run = λ n within count. record {
    nests = nests;
    capacity = capacity;
    records = ap (λ rs. map without_seen rs) none ∙ sym (empty n within count)
        ∙ ap (own_records script n) (sym of_thread);
  };
  accepted = λ n within count at s below is_s own.
      absurd (none_between script.steps thread 0 n (sym count) at s (omega arith) below is_s own);
  aware = λ n within count.
      aware_first script seats n r v within (ap (step_count (take n script.steps)) of_thread ∙ count)
      (ap (seat_of seats) of_thread ∙ is) seat new known;
}
  where
    empty : (n : ℕ) → n ≤ length script.steps → step_count (take n script.steps) thread ≡ 0
        → own_records script n thread ≡ []
    empty n within count = sym (own_between script thread 0 n (omega arith) within (sym count))

-- the same at a place where as many steps come before it
pub after_more : (script : ScriptView) (seats : List (Option View)) (thread count at : ℕ) (s : Step)
    (r : RecorderView) → slice_get script.steps at ≡ Some s → s.thread ≡ thread → r.thread ≡ thread
    → step_count (take at script.steps) thread ≡ count → AreAccepted script thread at
    → refused_at script at ≡ None → HasRun script (at + 1) r → IsAware script seats (at + 1) r
    → IsAfter script seats thread (count + 1) r
after_more script seats thread count at s r is own of_thread number before here run aware = record {
  run = λ n within same. record {
    nests = run.nests;
    capacity = run.capacity;
    records = run.records ∙ ap (own_records script (at + 1)) of_thread
        ∙ own_between script thread (at + 1) n (past n same) within (next ∙ sym same)
        ∙ ap (own_records script n) (sym of_thread);
  };
  accepted = λ n within same i q below is_q own_q. elim (cases_order i at) [
    | inl equal ↦ subst (λ k. refused_at script k ≡ None) (sym equal) here
    | inr (inl less) ↦ before i q less is_q own_q
    | inr (inr more) ↦ absurd (none_between script.steps thread (at + 1) n (next ∙ sym same) i q
        (omega (arith, more)) below is_q own_q)
  ];
  aware = λ n within same.
      aware_between script seats (at + 1) n r (past n same) within
      (ap (step_count (take (at + 1) script.steps)) of_thread ∙ next ∙ sym same
      ∙ ap (step_count (take n script.steps)) (sym of_thread)) aware;
}
  where
    next : step_count (take (at + 1) script.steps) thread ≡ count + 1
    next = count_next script.steps at s thread is own ∙ ap (λ n. n + 1) number

    past : (n : ℕ) → step_count (take n script.steps) thread ≡ count + 1 → at + 1 ≤ n
    past n same = elim (cases_lt at n) [
      | inl above ↦ omega (arith, above)
      | inr below ↦
          let rises = count_rises script.steps thread n at below in
          absurd (omega (arith, rises, same, number))
    ]

-- ---- all threads

-- a thread without a place has no step, so that all its steps are accepted
whole : (script : ScriptView) (thread : ℕ)
    → step_count (take (length script.steps) script.steps) thread ≡ step_count script.steps thread
whole script thread =
    ap (λ l. step_count l thread) (take_all (length script.steps) script.steps (omega arith))

no_steps : (script : ScriptView) (threads : List (Vec ℕ)) (thread : ℕ)
    → ArePlaces script.steps (length script.steps) threads → row_at threads thread ≡ []
    → step_count script.steps thread ≡ 0
no_steps script threads thread are empty =
    sym (whole script thread) ∙ sym (are.counted thread) ∙ ap (λ row. length row) empty

none_accepted : (script : ScriptView) (thread : ℕ) → step_count script.steps thread ≡ 0
    → AreAccepted script thread (length script.steps)
none_accepted script thread none at s below is own =
    absurd (none_between script.steps thread 0 (length script.steps) (sym (whole script thread ∙ none)) at s
    (omega arith) below is own)

none_apart : (e : ℕ → ℕ → Bool) → IsDistinct e []
unfolding IsDistinct
none_apart e = tt

-- no thread is run yet
pub none_yet : (script : ScriptView) (seats : List (Option View)) → HaveEnded script seats 0 [] None
none_yet script seats = record {
  each = All-nil (HasStopped script None);
  aware = λ none. All-nil (IsAware script seats (length script.steps));
  cared = λ thread below. absurd (omega (arith, below));
  threads = record {
    below = All-nil (λ (r : RecorderView). r.thread < 0);
    apart = none_apart nat_eq;
  };
  shares = refl;
  low = λ stop is. absurd (none-some stop is);
  unused = All-nil HasUnusedSeat;
  origin = λ line fault is. absurd (none-some (Refused (Call line fault)) is);
}

-- the threads below one more: this one, and those below it
by_thread : {P : ℕ → Type 0} (limit : ℕ) → P limit → ((thread : ℕ) → thread < limit → P thread)
    → (thread : ℕ) → thread < limit + 1 → P thread
by_thread {P} limit here earlier thread below = elim (cases_lt thread limit) [
  | inl less ↦ earlier thread less
  | inr from ↦ subst P (omega (arith, from, below)) here
]

-- ---- which stop comes first

first_line : (one other : Stop) → comes_first one other ≡ true → line_of_stop one ≤ line_of_stop other
first_line (Refused fault) other is = leb-true (line_of_fault fault) (line_of_stop other) is
first_line (Ended line) other is = let low = ltb-true line (line_of_stop other) is in omega (arith, low)

not_first_line : (one other : Stop) → comes_first one other ≡ false → line_of_stop other ≤ line_of_stop one
not_first_line (Refused fault) other is =
    let low = leb-false (line_of_fault fault) (line_of_stop other) is in omega (arith, low)
not_first_line (Ended line) other is = ltb-false line (line_of_stop other) is

-- the line at which a thread stops
own_line : (script : ScriptView) (at : ℕ) (r : RecorderView) (stop : Stop) → IsStopAt script at r stop
    → line_of_stop stop ≤ at + 2
own_line script at r stop without_memory = omega arith
own_line script at r stop (by_recorder fault is) = omega arith
own_line script at r stop (by_ledger fault entry other none is by) = omega arith
own_line script at r stop by_another = omega arith

-- a place behind a stop is behind an earlier one
behind_first : (script : ScriptView) (rest own : Option Stop) (at : ℕ)
    → ((s : Stop) → own ≡ Some s → line_of_stop s ≤ length script.steps + 1)
    → IsBehind script rest at → IsBehind script (first_stop rest own) at
behind_first script None None at low behind = behind
behind_first script None (Some s) at low behind = let most = low s refl in omega (arith, most, behind)
behind_first script (Some one) None at low behind = behind
behind_first script (Some one) (Some s) at low behind = by (comes_first one s) refl
  where
    by : (b : Bool) → comes_first one s ≡ b → IsBehind script (if b then Some one else Some s) at
    by true first = behind
    by false later = let less = not_first_line one s later in omega (arith, less, behind)

-- the same of its own stop
behind_own : (script : ScriptView) (rest own : Option Stop) (at : ℕ)
    → ((s : Stop) → rest ≡ Some s → line_of_stop s ≤ length script.steps + 1)
    → IsBehind script own at → IsBehind script (first_stop rest own) at
behind_own script None own at low behind = behind
behind_own script (Some one) None at low behind = let most = low one refl in omega (arith, most, behind)
behind_own script (Some one) (Some s) at low behind = by (comes_first one s) refl
  where
    by : (b : Bool) → comes_first one s ≡ b → IsBehind script (if b then Some one else Some s) at
    by true first = let less = first_line one s first in omega (arith, less, behind)
    by false later = behind

-- the first stop is one of the two
one_of : (P : Stop → Type 0) (rest own : Option Stop) → ((s : Stop) → rest ≡ Some s → P s)
    → ((s : Stop) → own ≡ Some s → P s) → (s : Stop) → first_stop rest own ≡ Some s → P s
one_of P None own in_rest in_own s is = in_own s is
one_of P (Some one) None in_rest in_own s is = in_rest s is
one_of P (Some one) (Some other) in_rest in_own s is = by (comes_first one other) is
  where
    by : (b : Bool) → (if b then Some one else Some other) ≡ Some s → P s
    by true same = in_rest s same
    by false same = in_own s same

-- ---- the right to enter

-- the shares of one seat more
shares_next : (seats : List (Option View)) (limit : ℕ) (o : Option View) → slice_get seats limit ≡ Some o
    → shares_in (take (limit + 1) seats) ≡ shares_in (take limit seats) ++ shares_in (o ∷ [])
shares_next seats limit o is =
    ap shares_in (take_next seats limit o is)
    ∙ flat_map-append (λ p. option_map_or (λ (v : View). v.shares) p []) (take limit seats) (o ∷ [])

shares_more : (seats : List (Option View)) (limit : ℕ) (seat : View) (recorders : List RecorderView)
    (r : RecorderView) → slice_get seats limit ≡ Some (Some seat) → r.seat.shares ≡ seat.shares
    → shares_of recorders ≡ shares_in (take limit seats)
    → shares_of (recorders ++ r ∷ []) ≡ shares_in (take (limit + 1) seats)
shares_more seats limit seat recorders r is own before =
    flat_map-append (λ (q : RecorderView). q.seat.shares) recorders (r ∷ [])
    ∙ ap (λ l. l ++ (r.seat.shares ++ [])) before ∙ ap (λ l. shares_in (take limit seats) ++ (l ++ [])) own
    ∙ sym (shares_next seats limit (Some seat) is)

-- ---- threads

-- one more number that differs from all
push_all : (P : ℕ → Type 0) (ns : List ℕ) (n : ℕ) → AllByRecursion P ns → P n
    → AllByRecursion P (ns ++ n ∷ [])
push_all P [] n all here = (here, tt)
push_all P (m ∷ ns) n (first, all) here = (first, push_all P ns n all here)

abbrev threads_of : List RecorderView → List ℕ
threads_of recorders = map (λ (r : RecorderView). r.thread) recorders

apart_more : (limit : ℕ) (recorders : List RecorderView) (r : RecorderView) → r.thread ≡ limit
    → All (λ (q : RecorderView). q.thread < limit) recorders → IsDistinct nat_eq (threads_of recorders)
    → IsDistinct nat_eq (threads_of (recorders ++ r ∷ []))
unfolding IsDistinct
apart_more limit [] r of below apart = (tt, tt)
apart_more limit (q ∷ recorders) r of below apart = (
  subst (AllByRecursion (λ n. nat_eq q.thread n ≡ false))
      (sym (map-append (λ (x : RecorderView). x.thread) recorders (r ∷ [])))
      (push_all (λ n. nat_eq q.thread n ≡ false) (threads_of recorders) r.thread apart.0
      (ne_eqb q.thread r.thread (λ same.
      let low = below 0 q (omega arith) in absurd (omega (arith, low, same, of))))),
  apart_more limit recorders r of (All-tail (λ (x : RecorderView). x.thread < limit) q recorders below)
      apart.1,
)

pub all_into : {X : Type 0} (P Q : X → Type 0) → ((x : X) → P x → Q x) → (xs : List X) → All P xs → All Q xs
all_into P Q f xs all k d within = f _ (all k d within)

-- the line of a thread's own stop is at most one behind the last step's
own_low : (script : ScriptView) (at : ℕ) (r : RecorderView) (stop : Stop) → IsStopAt script at r stop
    → IsStepOf script.steps at r.thread → line_of_stop stop ≤ length script.steps + 1
own_low script at r stop stops of =
    let (s, is, own) = step_there script.steps at r.thread of in
    let within = slice_get_within script.steps at s is in
    let line = own_line script at r stop stops in
    omega (arith, within, line)

-- a thread's own stop is at its place or before it
own_behind : (script : ScriptView) (at : ℕ) (r : RecorderView) (own : Option Stop) → IsEndAt script at r own
    → IsBehind script own at
own_behind script at r None ends = ends
own_behind script at r (Some stop) ends = own_line script at r stop ends.0

-- no stop is first where there is none
none_first : (one other : Option Stop) → first_stop one other ≡ None → (one ≡ None) × (other ≡ None)
none_first None other none = (refl, none)
none_first (Some one) None none = absurd (none-some one (sym none))
none_first (Some one) (Some other) none = by (comes_first one other) none
  where
    by : (b : Bool) → (if b then Some one else Some other) ≡ None → (Some one ≡ None) × (Some other ≡ None)
    by true some = absurd (none-some one (sym some))
    by false some = absurd (none-some other (sym some))

-- the recorder of a thread comes to those of the threads below it
pub one_more : (ledger : TableId) (script : ScriptView) (seats : List (Option View)) (limit : ℕ) (seat : View)
    (recorders : List RecorderView) (r : RecorderView) (stops stop : Option Stop)
    → slice_get seats limit ≡ Some (Some seat)
    → IsOutcome ledger script seats limit r stop → HaveEnded script seats limit recorders stops
    → HaveEnded script seats (limit + 1) (recorders ++ r ∷ []) (first_stop stops stop)
one_more ledger script seats limit seat recorders r stops stop is outcome ended = record {
  each = All-append (HasStopped script (first_stop stops stop)) recorders (r ∷ [])
      (all_into (HasStopped script stops) (HasStopped script (first_stop stops stop))
      later recorders ended.each)
      (All-cons (HasStopped script (first_stop stops stop)) r [] here
      (All-nil (HasStopped script (first_stop stops stop))));
  aware = λ none.
      All-append (IsAware script seats (length script.steps)) recorders (r ∷ [])
      (ended.aware (none_first stops stop none).0)
      (All-cons (IsAware script seats (length script.steps)) r []
      (outcome.aware (none_first stops stop none).1)
      (All-nil (IsAware script seats (length script.steps))));
  cared = by_thread limit
      (inr (r, Contains-append_right recorders (r ∷ []) r (0, omega arith, refl), outcome.of_thread))
      (λ thread below. further thread (ended.cared thread below));
  threads = record {
    below =
        All-append (λ (q : RecorderView). q.thread < limit + 1) recorders (r ∷ [])
        (all_into (λ (q : RecorderView). q.thread < limit) (λ (q : RecorderView). q.thread < limit + 1)
        (λ q low. omega (arith, low)) recorders ended.threads.below)
        (All-cons (λ (q : RecorderView). q.thread < limit + 1) r [] (omega (arith, outcome.of_thread))
        (All-nil (λ (q : RecorderView). q.thread < limit + 1)));
    apart = apart_more limit recorders r outcome.of_thread ended.threads.below ended.threads.apart;
  };
  shares = shares_more seats limit seat recorders r is (ap (λ f. f.1.0) fixed) ended.shares;
  unused = All-append HasUnusedSeat recorders (r ∷ []) ended.unused
      (All-cons HasUnusedSeat r [] (ap (λ f. f.0) fixed, ap (λ f. f.1.1) fixed)
      (All-nil HasUnusedSeat));
  low = one_of (λ s. line_of_stop s ≤ length script.steps + 1) stops stop ended.low low;
  origin = λ line fault is.
      one_of (IsFrom line fault) stops stop
      (λ s same told. let o = ended.origin line fault (same ∙ ap Some told) in record {
        recorder = o.recorder;
        among = Contains-append_left recorders (r ∷ []) o.recorder o.among;
        at = o.at;
        run = o.run;
        of_thread = o.of_thread;
        stops = o.stops;
      })
      (λ s same told. record {
        recorder = r;
        among = Contains-append_right recorders (r ∷ []) r (0, omega arith, refl);
        at = outcome.at;
        run = outcome.run;
        of_thread = (stopped s same).1;
        stops = subst (IsStopAt script outcome.at r) told (stopped s same).0;
      })
      (Refused (Call line fault)) is refl;
}
  where
    IsFrom : ℕ → CallFault → Stop → Type 0
    IsFrom line fault s = s ≡ Refused (Call line fault) → IsOrigin script (recorders ++ r ∷ []) line fault

    stopped : (s : Stop) → stop ≡ Some s → IsEndAt script outcome.at r (Some s)
    stopped s is = subst (IsEndAt script outcome.at r) is outcome.ends

    low : (s : Stop) → stop ≡ Some s → line_of_stop s ≤ length script.steps + 1
    low s is = own_low script outcome.at r s (stopped s is).0 (stopped s is).1

    fixed : fixed_of r ≡ unused_with seat.shares
    fixed = subst (λ o. IfSome o (λ v. fixed_of r ≡ unused_with v.shares)) (ap (option_and_then (λ o. o)) is)
        outcome.fixed_is

    later : (q : RecorderView) → HasStopped script stops q
        → HasStopped script (first_stop stops stop) q
    later q has = record {
      at = has.at;
      run = has.run;
      accepted = has.accepted;
      behind = behind_first script stops stop has.at low has.behind;
    }

    here : HasStopped script (first_stop stops stop) r
    here = record {
      at = outcome.at;
      run = outcome.run;
      accepted = subst (λ t. AreAccepted script t outcome.at) (sym outcome.of_thread) outcome.accepted;
      behind =
          behind_own script stops stop outcome.at ended.low
          (own_behind script outcome.at r stop outcome.ends);
    }

    further : (thread : ℕ) → IsCared script recorders thread → IsCared script (recorders ++ r ∷ []) thread
    further thread (inl none) = inl none
    further thread (inr (other, among, is)) =
        inr (other, Contains-append_left recorders (r ∷ []) other among, is)

-- a thread without a step has no seat
pub none_more : (script : ScriptView) (threads : List (Vec ℕ)) (seats : List (Option View)) (limit : ℕ)
    (recorders : List RecorderView) (stop : Option Stop)
    → ArePlaces script.steps (length script.steps) threads → AreSeats threads seats
    → slice_get seats limit ≡ Some None → HaveEnded script seats limit recorders stop
    → HaveEnded script seats (limit + 1) recorders stop
none_more script threads seats limit recorders stop are seated is ended = record {
  each = ended.each;
  aware = ended.aware;
  cared = by_thread limit
      (inl (no_steps script threads limit are (seated.without limit (ap (option_and_then (λ o. o)) is))))
      ended.cared;
  threads = record {
    below =
        all_into (λ (q : RecorderView). q.thread < limit) (λ (q : RecorderView). q.thread < limit + 1)
        (λ q low. omega (arith, low)) recorders ended.threads.below;
    apart = ended.threads.apart;
  };
  shares = ended.shares ∙ sym (append-nil (shares_in (take limit seats)))
      ∙ sym (shares_next seats limit None is);
  unused = ended.unused;
  low = ended.low;
  origin = ended.origin;
}

-- ---- a thread's row of places

-- the place with this number in the row of a thread
pub placed_at : (script : ScriptView) (threads : List (Vec ℕ)) (thread number : ℕ) (row : List ℕ)
    → ArePlaces script.steps (length script.steps) threads → row ≡ row_at threads thread
    → number < length row → IsPlaced script.steps (length script.steps) thread number (get_or row number 0)
placed_at script threads thread number row are is within =
    are.placed thread number (get_or row number 0)
    (ap (λ l. slice_get l number) (sym is) ∙ slice_get-get_or row number 0 within)

-- a row without places is empty
pub empty_row : (row : List ℕ) → true ≡ (length row == 0) → row ≡ []
empty_row row none = nil_from_length row (eqb-true (length row) 0 (sym none))

-- a thread is at its place with this number
pub run_here : (script : ScriptView) (seats : List (Option View)) (thread number at : ℕ) (r : RecorderView)
    → IsPlaced script.steps (length script.steps) thread number at → IsAfter script seats thread number r
    → HasRun script at r × IsAware script seats at r
run_here script seats thread number at r placed after =
    let low = placed.within in
    (after.run at (omega (arith, low)) placed.number_is, after.aware at (omega (arith, low)) placed.number_is)

-- it began with an unused seat
pub fixed_first : (r : RecorderView) (v : View) → r.before ≡ v.own → r.seat ≡ v
    → IsNewSeat v → fixed_of r ≡ unused_with v.shares
fixed_first r v before seat new =
    ap (λ b. (b, (r.seat.shares, r.seat.claims))) (before ∙ new.own)
    ∙ ap (λ (w : View). ([], (w.shares, w.claims))) seat
    ∙ ap (λ cs. ([], (v.shares, cs))) new.claims

-- it stops there
pub stops_here : (ledger : TableId) (script : ScriptView) (seats : List (Option View)) (thread number at : ℕ)
    (seat : View) (old new : RecorderView) (stop : Stop)
    → IsPlaced script.steps (length script.steps) thread number at
    → IsAfter script seats thread number old → seat_of seats thread ≡ Some seat → new.ledger ≡ ledger
    → new.thread ≡ thread → fixed_of new ≡ unused_with seat.shares
    → HasRun script at new → IsStopAt script at new stop
    → IsOutcome ledger script seats thread new (Some stop)
stops_here ledger script seats thread number at seat old new stop placed after is of_ledger of_thread fixed_is
    run stops = record {
      of_ledger = of_ledger;
      of_thread = of_thread;
      fixed_is = subst (λ o. IfSome o (λ v. fixed_of new ≡ unused_with v.shares)) (sym is) fixed_is;
      at = at;
      run = run;
      accepted = after.accepted at (let low = placed.within in omega (arith, low)) placed.number_is;
      aware = λ none. absurd (none-some stop (sym none));
      ends = (stops, placed.of_thread ∙ ap Some (sym of_thread));
    }

-- it goes on
pub goes_on : (script : ScriptView) (seats : List (Option View)) (thread number at : ℕ)
    (old new : RecorderView)
    → IsPlaced script.steps (length script.steps) thread number at → IsAfter script seats thread number old
    → new.thread ≡ thread → refused_at script at ≡ None → HasRun script (at + 1) new
    → IsAware script seats (at + 1) new → IsAfter script seats thread (number + 1) new
goes_on script seats thread number at old new placed after of_thread accepted run aware =
    let (s, is, own) = step_there script.steps at thread placed.of_thread in
    after_more script seats thread number at s new is own of_thread placed.number_is
    (after.accepted at (let low = placed.within in omega (arith, low)) placed.number_is) accepted run aware

-- it took all its steps
pub ends_here : (ledger : TableId) (script : ScriptView) (threads : List (Vec ℕ)) (seats : List (Option View))
    (thread number : ℕ) (seat : View) (row : List ℕ) (r : RecorderView)
    → ArePlaces script.steps (length script.steps) threads → row ≡ row_at threads thread
    → number ≡ length row → IsAfter script seats thread number r → seat_of seats thread ≡ Some seat
    → r.ledger ≡ ledger → r.thread ≡ thread → fixed_of r ≡ unused_with seat.shares
    → IsOutcome ledger script seats thread r None
ends_here ledger script threads seats thread number seat row r are row_is all after is of_ledger of_thread
    fixed_is = record {
      of_ledger = of_ledger;
      of_thread = of_thread;
      fixed_is = subst (λ o. IfSome o (λ v. fixed_of r ≡ unused_with v.shares)) (sym is) fixed_is;
      at = length script.steps;
      run = after.run (length script.steps) (omega arith) count;
      accepted = after.accepted (length script.steps) (omega arith) count;
      aware = λ none. after.aware (length script.steps) (omega arith) count;
      ends = omega arith;
    }
  where
    count : step_count (take (length script.steps) script.steps) thread ≡ number
    count = sym (are.counted thread) ∙ ap (λ (l : List ℕ). length l) (sym row_is) ∙ sym all

-- ---- the end of the run

-- past the last step nothing is recorded
pub run_whole : (script : ScriptView) (at : ℕ) (r : RecorderView)
    → length script.steps ≤ at → HasRun script at r
    → HasRun script (length script.steps) r
run_whole script at r past run = record {
  nests = run.nests;
  capacity = run.capacity;
  records = run.records
      ∙ ap (λ l. thread_records (progress script.capacity script.nests l).records r.thread)
      (take_all at script.steps past ∙ sym (take_all (length script.steps) script.steps (omega arith)));
}

-- what was accepted before a place that each thread has passed
passed : (script : ScriptView) (recorders : List RecorderView)
    (stop : Option Stop) (limit : ℕ) → HaveAllEnded script recorders stop
    → ((at : ℕ) → IsBehind script stop at → limit ≤ at) → (at : ℕ) (s : Step) → at < limit
    → slice_get script.steps at ≡ Some s → refused_at script at ≡ None
passed script recorders stop limit ended far at s below is = by (ended.cared s.thread)
  where
    by : IsCared script recorders s.thread → refused_at script at ≡ None
    by (inl none) = none_accepted script s.thread none at s (slice_get_within script.steps at s is) is refl
    by (inr (r, among, of)) =
        let (k, has) = contains_get recorders r among in
        let it = all_get (HasStopped script stop) recorders k r ended.each has in
        let low = far it.at it.behind in
        it.accepted at s (omega (arith, below, low)) is (sym of)

-- each step of the script was accepted
pub all_accepted : (script : ScriptView) (recorders : List RecorderView)
    → HaveAllEnded script recorders None → (at : ℕ) → refused_at script at ≡ None
all_accepted script recorders ended at = elim (cases_lt at (length script.steps)) [
  | inl within ↦
      let (s, is) = get_within script.steps at within in
      passed script recorders None (length script.steps) ended (λ n behind. behind) at s within is
  | inr past ↦
      ap (option_and_then (λ s. step_refusal script.capacity script.nests (progress_to script at) s))
      (slice_get_past script.steps at past)
]

-- what ends a thread at a call
pub data IsRefusedBy (script : ScriptView) (at : ℕ) (r : RecorderView) (fault : CallFault) : Type 0 where
  the_recorder : refused_at script at ≡ Some fault → IsRefusedBy script at r fault
  the_ledger : (entry : Entry) → fault ≢ call.Memory → refused_at script at ≡ None
      → entry_at script at ≡ Some entry
      → IsLedgerFault r entry fault → IsRefusedBy script at r fault

pub refused_by : (script : ScriptView) (at : ℕ) (r : RecorderView) (stop : Stop)
    (line : ℕ) (fault : CallFault)
    → IsStopAt script at r stop → stop ≡ Refused (Call line fault)
    → (line ≡ at + 2) × IsRefusedBy script at r fault
refused_by script at r stop line fault without_memory is = cc
refused_by script at r stop line fault (by_recorder found refused) is =
    let same : found ≡ fault = cc in (cc, the_recorder (refused ∙ ap Some same))
refused_by script at r stop line fault (by_ledger found entry other none made by) is =
    let same : found ≡ fault = cc in
    (cc, the_ledger entry (λ memory. other (same ∙ memory)) none made (sym same ∙ by))
refused_by script at r stop line fault by_another is = cc

-- the fault that ends the run is that of the first refused step, if the ledger refused none
pub run_fault : (script : ScriptView) (recorders : List RecorderView)
    (line : ℕ) (fault : CallFault) → HaveAllEnded script recorders (Some (Refused (Call line fault)))
    → ((r : RecorderView) (at : ℕ) (entry : Entry) → Contains recorders r → HasRun script at r
    → IsStepOf script.steps at r.thread → refused_at script at ≡ None → entry_at script at ≡ Some entry
    → IsLedgerFault r entry fault → fault ≡ call.Memory)
    → IsFirstRefusal script line fault
run_fault script recorders line fault ended never =
    let o = ended.origin line fault refl in
    let (line_is, by) =
    refused_by script o.at o.recorder (Refused (Call line fault)) line fault o.stops refl in
    record {
      at = o.at;
      line_is = line_is;
      refused = found o by;
      first = λ earlier below.
          let (s, is) = step_before script o.at o.recorder.thread earlier o.of_thread below in
          passed script recorders (Some (Refused (Call line fault))) o.at ended
          (λ n behind. omega (arith, behind, line_is)) earlier s below is;
    }
  where
    found : (o : IsOrigin script recorders line fault) → IsRefusedBy script o.at o.recorder fault
        → refused_at script o.at ≡ Some fault
    found o (the_recorder is) = is
    found o (the_ledger entry other none made by) =
        absurd (other (never o.recorder o.at entry o.among o.run o.of_thread none made by))

    step_before : (script : ScriptView) (at thread earlier : ℕ) → IsStepOf script.steps at thread
        → earlier < at → (s : Step) × (slice_get script.steps earlier ≡ Some s)
    step_before script at thread earlier of below =
        let (s, is, own) = step_there script.steps at thread of in
        let within = slice_get_within script.steps at s is in
        get_within script.steps earlier (omega (arith, within, below))

-- ---- the threads one after another

early_first : (stops stop : Option Stop) → IsEarly stops → IsEarly (first_stop stops stop)
early_first stops stop (inl memory) =
    subst (λ o. IsEarly (first_stop o stop)) (sym memory) (by stop)
  where
    by : (own : Option Stop) → IsEarly (first_stop (Some (Refused Memory)) own)
    by None = inl refl
    by (Some s) =
        inl (ap (λ b. if b then Some (Refused Memory) else Some s) (le-leb 0 (line_of_stop s) (omega arith)))
early_first stops stop (inr thread) =
    subst (λ o. IsEarly (first_stop o stop)) (sym thread) (by stop)
  where
    by : (own : Option Stop) → IsEarly (first_stop (Some (Refused Thread)) own)
    by None = inr refl
    by (Some s) =
        inr (ap (λ b. if b then Some (Refused Thread) else Some s) (le-leb 0 (line_of_stop s) (omega arith)))

-- the outcome of a thread comes to those of the threads below it
pub ended_more : (ledger : TableId) (script : ScriptView) (seats : List (Option View)) (limit : ℕ)
    (seat : View)
    (recorders all : List RecorderView) (r : RecorderView) (stops stop result : Option Stop)
    → slice_get seats limit ≡ Some (Some seat) → IsOutcome ledger script seats limit r stop
    → IsEarly stops ⊎ HaveEnded script seats limit recorders stops
    → ((all ≡ recorders ++ r ∷ []) × (result ≡ first_stop stops stop))
    ⊎ ((all ≡ recorders) × (result ≡ Some (Refused Memory)))
    → IsEarly result ⊎ HaveEnded script seats (limit + 1) all result
ended_more ledger script seats limit seat recorders all r stops stop result is outcome ended (inr less) =
    inl (inl less.1)
ended_more ledger script seats limit seat recorders all r stops stop result is outcome (inl early)
    (inl more) = inl (subst IsEarly (sym more.1) (early_first stops stop early))
ended_more ledger script seats limit seat recorders all r stops stop result is outcome (inr ended)
    (inl more) =
    inr (subst (HaveEnded script seats (limit + 1) all) (sym more.1)
    (subst (λ l. HaveEnded script seats (limit + 1) l (first_stop stops stop)) (sym more.0)
    (one_more ledger script seats limit seat recorders r stops stop is outcome ended)))

-- all threads were run
pub all_ended : (script : ScriptView) (threads : List (Vec ℕ)) (seats : List (Option View))
    (recorders : List RecorderView) (stop : Option Stop)
    → ArePlaces script.steps (length script.steps) threads → AreSeats threads seats
    → HaveEnded script seats (length seats) recorders stop → HaveAllEnded script recorders stop
all_ended script threads seats recorders stop are seated ended = record {
  seats = seats;
  each = ended.each;
  aware = ended.aware;
  cared = λ thread. elim (cases_lt thread (length seats)) [
    | inl below ↦ ended.cared thread below
    | inr past ↦
        inl
        (no_steps script threads thread are
        (seated.without thread
        (ap (option_and_then (λ o. o)) (slice_get_past seats thread (omega (arith, past))))))
  ];
  apart = ended.threads.apart;
  shares = subst AreAll (ap shares_in (sym (take_all (length seats) seats (omega arith))) ∙ sym ended.shares)
      seated.shares;
  unused = ended.unused;
  low = ended.low;
  origin = ended.origin;
}

-- closed recorders that belong together, and are within the limits of a trace
pub gather_memory : (nests : Bool) (closed : ClosedView) (fault : CallFault) → BelongTogether nests closed
    → IsWithinLimits (gathered closed.buffers) → IsGatherFault nests closed fault → fault ≡ call.Memory
gather_memory nests closed fault together within (not_together never) = absurd (never together)
gather_memory nests closed fault together within (too_many these never) = absurd (never within)
gather_memory nests closed fault together within (out_of_memory these fits) = refl

-- all recorders are of the ledger
pub more_of_ledger : (ledger : TableId) (recorders : List RecorderView) (r : RecorderView)
    → All (λ (q : RecorderView). q.ledger ≡ ledger) recorders → r.ledger ≡ ledger
    → All (λ (q : RecorderView). q.ledger ≡ ledger) (recorders ++ r ∷ [])
more_of_ledger ledger recorders r all is =
    All-append (λ (q : RecorderView). q.ledger ≡ ledger) recorders (r ∷ []) all
    (All-cons (λ (q : RecorderView). q.ledger ≡ ledger) r [] is
    (All-nil (λ (q : RecorderView). q.ledger ≡ ledger)))
