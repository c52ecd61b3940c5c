-- Each step of the lock keeps its rule.
use Rattle.std.proofs.Common.{◌≡◌, ◌≢◌, ◌⊎◌, ℕ, ◌+◌, ◌<◌, ◌≤◌, List, [], ◌∷◌, ◌++◌, length, set}
use Rattle.std.proofs.Common.{Some, true, refl, sym, ap, ◌∙◌, subst, inl, inr, ⊎_elim}
use Rattle.std.proofs.Common.{arith}
use Rattle.std.specs.Prelude.{Result, Ok, Err, IfOk, ◌==◌, slice_index}
use Rattle.std.proofs.lemmas.Bool.{cases_Bool, cases_eq, cases_lt, eqb-true, eq-eqb}
use Rattle.std.proofs.lemmas.List.{append-nil, append_cancel_left}
use mathlib.Core.Option.{some, none, some-injective}
use lib.ListN.{get_elem?}
use prog.Atomic.{either}
use Rattle.atomic_table.specs.Table.{State, Me, Act, keeps, takes, gives, Valid, stepped, carried_after}
use Rattle.atomic_table.specs.Table.{Allows}
use Rattle.atomic_table.proofs.Lists.{set_here}
use Rattle.credit_ledger.specs.declared.entry.Entry.{Entry}
use Rattle.credit_ledger.specs.declared.view.Call.{Call}
use Rattle.credit_ledger.specs.declared.view.Call.TheVariants.{Enter, Look}
use Rattle.credit_ledger.specs.declared.view.Step.{Step}
use Rattle.credit_ledger.specs.declared.view.Stage.TheVariants.{Idle, Waiting, Turn}
use Rattle.credit_ledger.specs.declared.view.View.{View}
use Rattle.credit_ledger.specs.Histories.{after_call, IsPossible, entries_after}
use Rattle.credit_ledger.specs.Seats.{Slot, seat_calls, with_ticket, turn_taken}
use Rattle.credit_ledger.specs.Seats.{with_call, seat_step, has_ticket, Knows, FitsAt, IsHome}
use Rattle.credit_ledger.specs.Seats.{Kept, Drawn, HasTurn, Served, Looked, Entered}
use Rattle.credit_ledger.specs.Seats.{Extends}
use Rattle.credit_ledger.specs.Seats.{AreOfOthers}
use Rattle.credit_ledger.specs.Seats.{is_enter}
use Rattle.credit_ledger.proofs.RuleLemmas.{entries-more, legal-more, calls-own, calls-other, starts-more}
use Rattle.credit_ledger.proofs.RuleLemmas.{fits-next, fits-call, below, not_spent, spent-set, held-set}
use Rattle.credit_ledger.proofs.RuleLemmas.{no_ticket, kept-changed, false_true, idle_turn, ledger_of}
use Rattle.credit_ledger.proofs.RuleLemmas.{head_or, waiting_turn, home-kept, below_next, kept-same}
use Rattle.credit_ledger.proofs.RuleLemmas.{at_words}
use Rattle.credit_ledger.proofs.RuleLemmas.{spent-others}
use Rattle.credit_ledger.proofs.RightLemmas.{rights-same, rights-call, claims-more}

-- ---- the steps

-- how a step of the seat may go on
abbrev GoesOn : State Slot View → ℕ → Me Slot View → ℕ → ℕ → (Me Slot View → Type 0) → Type 0
GoesOn s id me i n tells =
    (w : View) × (a : Act Slot) × Valid s.homes me.1 a × Kept (stepped s i n id me.1 w a)
    × tells (w, carried_after me.1 a)

-- a ticket is taken, or not
pub draws : (id old : ℕ) (v : View) → v.stage ≡ Idle
    → Allows Kept 1 id (v, []) 0 (λ n. either (n == old) (old + 1) n) (λ n m. Drawn old (v, []) n m)
draws id old v idle s (h, next, serving, k, rights) slots at small =
    by_case (cases_eq (slice_index s.words 0) old)
  where
    found : slice_index s.words 0 ≡ next
    found = (at_words s.words next serving k.words).0

    knows : Knows h id v
    knows = subst (λ st. FitsAt st h next serving id v) idle (k.seats id v at)

    by_case : (slice_index s.words 0 ≡ old) ⊎ (slice_index s.words 0 ≢ old)
        → GoesOn s id (v, []) 0 (either (slice_index s.words 0 == old) (old + 1) (slice_index s.words 0))
        (Drawn old (v, []) (slice_index s.words 0))
    by_case (inl is) =
        let is_next : next ≡ old = sym found ∙ is in
        let value : either (slice_index s.words 0 == old) (old + 1) (slice_index s.words 0) ≡ next + 1 =
        ap (λ b. either b (old + 1) (slice_index s.words 0)) (eq-eqb _ _ is)
        ∙ ap (λ n. n + 1) (sym is_next) in
        let words : set s.words 0 (either (slice_index s.words 0 == old) (old + 1) (slice_index s.words 0))
        ≡ (next + 1) ∷ serving ∷ [] =
        ap (λ ws. set ws 0 (either (slice_index s.words 0 == old) (old + 1) (slice_index s.words 0))) k.words
        ∙ ap (λ n. n ∷ serving ∷ []) value in
        let w = with_ticket v old in (
          w,
          keeps,
          tt,
          (
            h,
            next + 1,
            serving,
            kept-changed h next serving s k id v at h (next + 1) serving
                (set s.words 0 (either (slice_index s.words 0 == old) (old + 1) (slice_index s.words 0)))
                s.homes w words
                (omega (arith, k.served)) k.legal
                (λ n u other e. fits-next u.stage h next serving n u (k.seats n u e)) (
                  record {
                    number = knows.number;
                    seen = knows.seen;
                    told = knows.told;
                    own = knows.own;
                  },
                  omega (arith, k.served, is_next),
                  omega (arith, is_next),
                )
                k.strangers
                (λ _ n u other e has same.
                below_next h next serving u.stage n u has (k.seats n u e) (sym same ∙ sym is_next))
                (λ gone. absurd (not_spent v.stage Idle idle refl gone))
                (spent-set s.views id v w at (λ gone. absurd (not_spent v.stage Idle idle refl gone)) v.claims
                (k.gone id v at))
                (λ t low high.
                ⊎_elim
                (λ (less : t < next).
                held-set s.views id v w t at (λ has _. absurd (no_ticket v.stage Idle idle refl has))
                (k.held t low less))
                (λ (past : next ≤ t). (
                  id,
                  w,
                  set_here s.views id w (below s.views id v at),
                  refl,
                  omega (arith, is_next, past, high),
                ))
                (cases_lt t next))
                (k.given id v at)
                (home-kept h s id v w
                (set s.words 0 (either (slice_index s.words 0 == old) (old + 1) (slice_index s.words 0)))
                at (λ turn. absurd (idle_turn (sym idle ∙ turn))) k.home),
            rights-same h s.views id v w rights at refl refl,
          ),
          inl (is, refl),
        )
    by_case (inr other) =
        let value : either (slice_index s.words 0 == old) (old + 1) (slice_index s.words 0)
        ≡ slice_index s.words 0 =
        ap (λ b. either b (old + 1) (slice_index s.words 0))
        (⊎_elim (λ (e : (slice_index s.words 0 == old) ≡ true). absurd (other (eqb-true _ old e)))
        (λ e. e) (cases_Bool (slice_index s.words 0 == old))) in
        let words : set s.words 0 (either (slice_index s.words 0 == old) (old + 1) (slice_index s.words 0))
        ≡ next ∷ serving ∷ [] =
        ap (λ ws. set ws 0 (either (slice_index s.words 0 == old) (old + 1) (slice_index s.words 0))) k.words
        ∙ ap (λ n. n ∷ serving ∷ []) (value ∙ found) in (
          v,
          keeps,
          tt,
          (
            h,
            next,
            serving,
            kept-same h next serving s k id v
                at
                (set s.words 0
                (either (slice_index s.words 0 == old) (old + 1) (slice_index s.words 0)))
                words,
            rights-same h s.views id v v rights at refl refl,
          ),
          inr (other, refl),
        )

-- the ticket is served, or not
pub serves : (id : ℕ) (v : View) → v.stage ≡ Waiting
    → Allows Kept 1 id (v, []) 1 (λ n. n) (λ n m. Served (v, []) n m)
serves id v waiting s (h, next, serving, k, rights) slots at small =
    by_case (cases_eq (slice_index s.words 1) v.ticket)
  where
    found : slice_index s.words 1 ≡ serving
    found = (at_words s.words next serving k.words).1

    fits : FitsAt Waiting h next serving id v
    fits = subst (λ st. FitsAt st h next serving id v) waiting (k.seats id v at)

    words : set s.words 1 (slice_index s.words 1) ≡ next ∷ serving ∷ []
    words = ap (λ ws. set ws 1 (slice_index s.words 1)) k.words ∙ ap (λ n. next ∷ n ∷ []) found

    at_home : v.ticket ≡ serving → IsHome h s → s.homes ≡ some (Some (entries_after h)) ∷ []
    at_home mine (inl there) = there
    at_home mine (inr out) =
        let turn : FitsAt Turn h next serving out.1 out.2 =
        subst (λ st. FitsAt st h next serving out.1 out.2) out.4 (k.seats out.1 out.2 out.3) in
        let same : id ≡ out.1 =
        k.apart id out.1 v out.2 at out.3 (ap has_ticket waiting) (ap has_ticket out.4)
        (mine ∙ sym turn.1) in
        let view : v ≡ out.2 = some-injective v out.2 (sym at ∙ ap (get_elem? s.views) same ∙ out.3) in
        absurd (waiting_turn (sym waiting ∙ ap (λ (z : View). z.stage) view ∙ out.4))

    by_case : (slice_index s.words 1 ≡ v.ticket) ⊎ (slice_index s.words 1 ≢ v.ticket)
        → GoesOn s id (v, []) 1 (slice_index s.words 1) (Served (v, []) (slice_index s.words 1))
    by_case (inl is) =
        let mine : v.ticket ≡ serving = sym is ∙ found in
        let there = at_home mine k.home in
        let w = turn_taken v h in
        let homes : set s.homes 0 none ≡ none ∷ [] = ap (λ hs. set hs 0 none) there in (
          w,
          takes 0 (Some (entries_after h)),
          ap (λ hs. get_elem? hs 0) there,
          (
            h,
            next,
            serving,
            kept-changed h next serving s k id v at h next serving (set s.words 1 (slice_index s.words 1))
                (set s.homes 0 none) w words k.served k.legal
                (λ n u other e. k.seats n u e) (
                  record {
                    number = fits.0.number;
                    seen = ([], sym (append-nil h));
                    told = fits.0.told;
                    own = fits.0.own;
                  },
                  mine,
                  omega (arith, fits.1, fits.2),
                  refl,
                )
                k.strangers
                (λ _ n u other e has same.
                other (sym (k.apart id n v u at e (ap has_ticket waiting) has same)))
                (λ gone. absurd (not_spent v.stage Waiting waiting refl gone))
                (spent-set s.views id v w at (λ gone. absurd (not_spent v.stage Waiting waiting refl gone))
                v.claims (k.gone id v at))
                (λ t low high. held-set s.views id v w t at (λ _ is_t. (refl, is_t)) (k.held t low high))
                (k.given id v at)
                (inr (homes, id, w, set_here s.views id w (below s.views id v at), refl)),
            rights-same h s.views id v w rights at refl refl,
          ),
          inl (
            is,
            h,
            record {
              legal = k.legal;
              seen = fits.0.seen;
              told = fits.0.told;
              own = ap (λ n. seat_calls n h) fits.0.number ∙ fits.0.own;
              claims = (rights.claims id v at).0;
              others =
                  subst (λ n. AreOfOthers n v.claims) (sym fits.0.number)
                  (spent-others s.views id v at (not_spent v.stage Waiting waiting refl) v.claims
                  (k.gone id v at));
            },
            refl,
          ),
        )
    by_case (inr other) = (
      v,
      keeps,
      tt,
      (
        h,
        next,
        serving,
        kept-same h next serving s k id v at (set s.words 1 (slice_index s.words 1)) words,
        rights-same h s.views id v v rights at refl refl,
      ),
      inr (omega (arith, fits.1, found, other), refl),
    )

-- the turn is given back with a call
pub calls : (id : ℕ) (v : View) (call : Call) (es : List Entry) → v.stage ≡ Turn
    → (is_enter call ≡ true → 0 < length v.shares) → es ≡ after_call (entries_after v.seen) call
    → IsPossible (entries_after v.seen) call
    → Allows Kept 1 id (v, (0, Some es) ∷ []) 1 (λ _. v.ticket + 1) (λ _ m. m ≡ (with_call v call, []))
calls id v call es turn may after possible s (h, next, serving, k, rights) slots at small = (
  w,
  gives,
  tt,
  (
    h ++ x ∷ [],
    next,
    serving + 1,
    kept-changed h next serving s k id v at (h ++ x ∷ []) next (serving + 1) (set s.words 1 (v.ticket + 1))
        (set s.homes 0 (some (Some es))) w words (omega (arith, fits.2))
        (legal-more h x k.legal (subst (λ l. IsPossible (entries_after l) call) fits.3 possible)
        (ap (λ l. length (entries_after l)) fits.3))
        (λ n u other e.
        fits-call u.stage h next serving n u x (λ same. other (sym same ∙ fits.0.number))
        (λ has same. other (sym (k.apart id n v u at e (ap has_ticket turn) has (fits.1 ∙ sym same))))
        (k.seats n u e))
        (record {
          number = fits.0.number;
          seen = ([], ap (λ l. l ++ x ∷ []) (sym fits.3) ∙ sym (append-nil (v.seen ++ x ∷ [])));
          told = starts-more h v.told x fits.0.told;
          own = calls-own id h x fits.0.number ∙ ap (λ l. l ++ x ∷ []) fits.0.own;
        })
        (λ n far. calls-other n h x (λ same. below_far n far (sym same ∙ fits.0.number)) ∙ k.strangers n far)
        (λ has. absurd (false_true has))
        (λ gone. absurd (not_spent v.stage Turn turn refl gone))
        (spent-set s.views id v w at (λ gone. absurd (not_spent v.stage Turn turn refl gone)) v.claims
        (k.gone id v at))
        (λ t low high.
        held-set s.views id v w t at (λ _ is. absurd (omega (arith, fits.1, is, low)))
        (k.held t (omega (arith, low)) high))
        (k.given id v at)
        (inl (homes k.home)),
    rights-same (h ++ x ∷ []) s.views id v w
        (rights-call h s.views id v x rights at fits.0.number may
        (λ n u e. spent-others s.views id v at (not_spent v.stage Turn turn refl) u.claims (k.gone n u e)))
        at refl refl,
  ),
  refl,
)
  where
    x : Step
    x = seat_step v call

    w : View
    w = with_call v call

    fits : FitsAt Turn h next serving id v
    fits = subst (λ st. FitsAt st h next serving id v) turn (k.seats id v at)

    words : set s.words 1 (v.ticket + 1) ≡ next ∷ (serving + 1) ∷ []
    words = ap (λ ws. set ws 1 (v.ticket + 1)) k.words ∙ ap (λ t. next ∷ (t + 1) ∷ []) fits.1

    list : es ≡ entries_after (h ++ x ∷ [])
    list = after ∙ ap (λ l. after_call (entries_after l) call) fits.3 ∙ sym (entries-more h x)

    homes : IsHome h s → set s.homes 0 (some (Some es)) ≡ some (Some (entries_after (h ++ x ∷ []))) ∷ []
    homes (inl there) = ap (λ hs. set hs 0 (some (Some es))) there ∙ ap (λ l. some (Some l) ∷ []) list
    homes (inr out) = ap (λ hs. set hs 0 (some (Some es))) out.0 ∙ ap (λ l. some (Some l) ∷ []) list

    below_far : (n : ℕ) → length s.views ≤ n → n ≡ id → ⊥
    below_far n far same = omega (arith, far, same, below s.views id v at)

pub looks : (id : ℕ) (v : View) → v.stage ≡ Turn
    → Allows Kept 1 id (v, (0, Some (entries_after v.seen)) ∷ []) 1 (λ _. v.ticket + 1)
    (λ _ m. Looked (v, (0, Some (entries_after v.seen)) ∷ []) m)
looks id v turn =
    calls id v Look (entries_after v.seen) turn (λ no_enter. absurd (false_true no_enter)) refl tt

-- ---- the steps of a seat as it stands

pub draws_as : (slots id old : ℕ) (me : Me Slot View) → slots ≡ 1 → me.0.stage ≡ Idle → me.1 ≡ []
    → Allows Kept slots id me 0 (λ n. either (n == old) (old + 1) n) (λ n m. Drawn old me n m)
draws_as slots id old me one idle empty =
    subst (λ k. Allows Kept k id me 0 (λ n. either (n == old) (old + 1) n) (λ n m. Drawn old me n m))
    (sym one)
    (subst
    (λ c.
    Allows Kept 1 id (me.0, c) 0 (λ n. either (n == old) (old + 1) n)
    (λ n m. Drawn old (me.0, c) n m))
    (sym empty) (draws id old me.0 idle))

pub serves_as : (slots id : ℕ) (me : Me Slot View) → slots ≡ 1 → me.0.stage ≡ Waiting → me.1 ≡ []
    → Allows Kept slots id me 1 (λ n. n) (λ n m. Served me n m)
serves_as slots id me one waiting empty =
    subst (λ k. Allows Kept k id me 1 (λ n. n) (λ n m. Served me n m)) (sym one)
    (subst (λ c. Allows Kept 1 id (me.0, c) 1 (λ n. n) (λ n m. Served (me.0, c) n m)) (sym empty)
    (serves id me.0 waiting))

pub looks_as : (slots id : ℕ) (me : Me Slot View) (v : View) (t : ℕ) (h : List Step) → slots ≡ 1
    → me ≡ (turn_taken (with_ticket v t) h, (0, Some (entries_after h)) ∷ [])
    → Allows Kept slots id me 1 (λ _. t + 1) (λ _ m. Looked me m)
looks_as slots id me v t h one is =
    subst (λ k. Allows Kept k id me 1 (λ _. t + 1) (λ _ m. Looked me m)) (sym one)
    (subst (λ (x : Me Slot View). Allows Kept 1 id x 1 (λ _. t + 1) (λ _ m. Looked x m)) (sym is)
    (looks id (turn_taken (with_ticket v t) h) refl))

pub calls_as : (slots id : ℕ) (me : Me Slot View) (v : View) (t : ℕ) (h : List Step) (e : Entry) → slots ≡ 1
    → me ≡ (turn_taken (with_ticket v t) h, (0, Some (entries_after h ++ e ∷ [])) ∷ [])
    → 0 < length v.shares → IsPossible (entries_after h) (Enter e)
    → Allows Kept slots id me 1 (λ _. t + 1) (λ _ m. Entered me m)
calls_as slots id me v t h e one is right possible =
    subst (λ k. Allows Kept k id me 1 (λ _. t + 1) (λ _ m. Entered me m)) (sym one)
    (subst (λ (x : Me Slot View). Allows Kept 1 id x 1 (λ _. t + 1) (λ _ m. Entered x m)) (sym is)
    (λ s kept count at small.
    let goes =
    calls id (turn_taken (with_ticket v t) h) (Enter e) (entries_after h ++ e ∷ []) refl (λ _. right) refl
    possible s
    kept count at small in
    (goes.0, goes.1, goes.2, goes.3, (e, refl, goes.4))))

-- what a seat knows after its call
pub extends : (v : View) (t : ℕ) (h : List Step) (call : Call) (reply : ℕ) → HasTurn (with_ticket v t) h
    → IsPossible (entries_after h) call → reply ≡ length (entries_after h)
    → Extends v call reply (with_call (turn_taken (with_ticket v t) h) call)
extends v t h call reply turn possible is =
    subst (λ r. Extends v call r (with_call (turn_taken (with_ticket v t) h) call)) (sym is)
    (record {
      number = refl;
      given = refl;
      shares = refl;
      claims = refl;
      taken =
          claims-more h (seat_step (turn_taken (with_ticket v t) h) call) v.claims turn.others turn.claims;
      legal = legal-more h (seat_step (turn_taken (with_ticket v t) h) call) turn.legal possible refl;
      before = h;
      ends = refl;
      seen = turn.seen;
      told = turn.told;
      own = refl;
      alone =
          calls-own v.number h (seat_step (turn_taken (with_ticket v t) h) call) refl
          ∙ ap (λ l. l ++ seat_step (turn_taken (with_ticket v t) h) call ∷ []) turn.own;
    })

-- the same, for a Look of a seat that has given the turn back
pub looked : (v : View) (t : ℕ) (h : List Step) (reply : ℕ) (drawn served given after : Me Slot View)
    → drawn ≡ (with_ticket v t, []) → HasTurn drawn.0 h
    → served ≡ (turn_taken drawn.0 h, (0, Some (entries_after h)) ∷ []) → given ≡ served
    → Looked given after → reply ≡ length (entries_after h) → Extends v Look reply after.0
looked v t h reply drawn served given after is turn has same gave count =
    subst (λ (w : View). Extends v Look reply w)
    (sym
    (ap (λ m. m.0) gave
    ∙ ap (λ m. with_call m.0 Look)
    (same ∙ has ∙ ap (λ m. (turn_taken m.0 h, (0, Some (entries_after h)) ∷ [])) is)))
    (extends v t h Look reply (subst (λ (m : View). HasTurn m h) (ap (λ m. m.0) is) turn) tt count)

pub looked-list : (given after : Me Slot View) → Looked given after
    → entries_after after.0.seen ≡ entries_after given.0.seen
looked-list given after gave =
    ap (λ m. entries_after m.0.seen) gave ∙ entries-more given.0.seen (seat_step given.0 Look)

-- the view of a seat that has the turn
pub turn_view : (v : View) (t : ℕ) (h : List Step) (drawn served : Me Slot View)
    → drawn ≡ (with_ticket v t, [])
    → served ≡ (turn_taken drawn.0 h, (0, Some (entries_after h)) ∷ [])
    → served ≡ (turn_taken (with_ticket v t) h, (0, Some (entries_after h)) ∷ [])
turn_view v t h drawn served is has = has ∙ ap (λ m. (turn_taken m.0 h, (0, Some (entries_after h)) ∷ [])) is

-- what the slot has that a seat holds
pub has_list : (carried : List (ℕ × Slot)) (es fs : List Entry) (more : List (ℕ × Slot))
    → carried ≡ (0, Some es) ∷ [] → carried ≡ (0, Some fs) ∷ more → es ≡ fs
has_list carried es fs more known seen = sym (ap ledger_of known) ∙ ap ledger_of seen

-- an accepted Enter
pub entered : (v : View) (t : ℕ) (h : List Step) (e : Entry) (reply : ℕ)
    (drawn served given after : Me Slot View)
    → drawn ≡ (with_ticket v t, []) → HasTurn drawn.0 h
    → served ≡ (turn_taken drawn.0 h, (0, Some (entries_after h)) ∷ [])
    → given ≡ (served.0, (0, Some (entries_after h ++ e ∷ [])) ∷ []) → Entered given after
    → reply ≡ length (entries_after h) → IsPossible (entries_after h) (Enter e)
    → Extends v (Enter e) reply after.0
entered v t h e reply drawn served given after is turn has same gave count possible =
    let carried : given ≡ (turn_taken (with_ticket v t) h, (0, Some (entries_after h ++ e ∷ [])) ∷ []) =
    same
    ∙ ap (λ m. (m.0, (0, Some (entries_after h ++ e ∷ [])) ∷ []))
    (has ∙ ap (λ m. (turn_taken m.0 h, (0, Some (entries_after h)) ∷ [])) is) in
    let entries : entries_after h ++ e ∷ [] ≡ entries_after h ++ gave.0 ∷ [] =
    sym (ap held carried) ∙ ap (λ c. held (given.0, c)) gave.1
    ∙ ap (λ m. entries_after m.0.seen ++ gave.0 ∷ []) carried in
    let one : e ∷ [] ≡ gave.0 ∷ [] = append_cancel_left (entries_after h) (e ∷ []) (gave.0 ∷ []) entries in
    let same_entry : gave.0 ≡ e = sym (ap (head_or e) one) in
    subst (λ (w : View). Extends v (Enter e) reply w)
    (sym
    (ap (λ m. m.0) gave.2 ∙ ap (λ (x : Entry). with_call given.0 (Enter x)) same_entry
    ∙ ap (λ m. with_call m.0 (Enter e)) carried))
    (extends v t h (Enter e) reply (subst (λ (m : View). HasTurn m h) (ap (λ m. m.0) is) turn) possible count)
  where
    held : Me Slot View → List Entry
    held m = ledger_of m.1

-- what follows of an Ok
pub if_ok-map : {A E : Type 0} {P Q : A → Type 0} → ((a : A) → P a → Q a) → (r : Result A E) → IfOk r P
    → IfOk r Q
if_ok-map f (Ok a) p = f a p
if_ok-map f (Err e) p = p
