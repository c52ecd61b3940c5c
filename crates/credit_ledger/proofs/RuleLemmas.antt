-- The rule of the lock where one view changes, and what it says of histories, tickets and seats.
use Rattle.std.proofs.Common.{◌≡◌, ◌≢◌, ◌⊎◌, ℕ, zero, suc, ◌+◌, ◌<◌, ◌≤◌, List, [], ◌∷◌, ◌++◌, length, set}
use Rattle.std.proofs.Common.{Some, None, Bool, true, false, refl, sym, ap, ◌∙◌, subst, inl, inr, ⊎_elim}
use Rattle.std.proofs.Common.{arith}
use Rattle.std.specs.Prelude.{◌==◌, slice_index, fold}
use Rattle.std.proofs.lemmas.Bool.{cases_Bool, cases_eq, false≢true, eqb-true, eq-eqb, cond-true}
use Rattle.std.proofs.lemmas.Bool.{cond-false}
use Rattle.std.proofs.lemmas.List.{append_assoc, append-nil, length-set}
use Rattle.std.proofs.lemmas.List.Elements.{filter-append}
use mathlib.Core.Option.{Option as Maybe, some, some-ne-none, some-injective}
use lib.ListN.{get_elem?}
use Rattle.atomic_table.specs.Table.{State}
use Rattle.atomic_table.proofs.Lists.{at_set, at_longer, set_here, set_else}
use Rattle.credit_ledger.specs.declared.entry.Entry.{Entry}
use Rattle.credit_ledger.specs.declared.view.Step.{Step}
use Rattle.credit_ledger.specs.declared.view.Stage.{Stage}
use Rattle.credit_ledger.specs.declared.view.Stage.TheVariants.{Fresh, Idle, Waiting, Turn, Spent}
use Rattle.credit_ledger.specs.declared.view.View.{View}
use Rattle.credit_ledger.specs.declared.view.Claim.{Claim}
use Rattle.credit_ledger.specs.Histories.{after_call, IsPossible, IsLegalFrom, IsLegal, entries_after}
use Rattle.credit_ledger.specs.Seats.{Slot, seat_calls, StartsWith}
use Rattle.credit_ledger.specs.Seats.{has_ticket, Knows, FitsAt, FitsHistory, IsHome}
use Rattle.credit_ledger.specs.Seats.{IsRuleKept}
use Rattle.credit_ledger.specs.Seats.{AreOfOthers, IsSpentAt, IsHeld, AreSpent}

-- ---- histories

-- the entries after these calls, from some that there were
abbrev pub entries_from : List Entry → List Step → List Entry
entries_from entries history = fold (λ (es : List Entry) (s : Step). after_call es s.call) entries history

pub entries_from-more : (entries : List Entry) (h : List Step) (s : Step)
    → entries_from entries (h ++ s ∷ []) ≡ after_call (entries_from entries h) s.call
entries_from-more entries [] s = refl
entries_from-more entries (x ∷ h) s = entries_from-more (after_call entries x.call) h s

pub entries-more : (h : List Step) (s : Step)
    → entries_after (h ++ s ∷ []) ≡ after_call (entries_after h) s.call
entries-more h s = entries_from-more [] h s

pub legal_from-more : (entries : List Entry) (h : List Step) (s : Step) → IsLegalFrom entries h
    → IsPossible (entries_from entries h) s.call → s.reply ≡ length (entries_from entries h)
    → IsLegalFrom entries (h ++ s ∷ [])
legal_from-more entries [] s legal possible reply = (possible, reply, tt)
legal_from-more entries (x ∷ h) s legal possible reply =
    (legal.0, legal.1, legal_from-more (after_call entries x.call) h s legal.2 possible reply)

pub legal-more : (h : List Step) (s : Step) → IsLegal h → IsPossible (entries_after h) s.call
    → s.reply ≡ length (entries_after h) → IsLegal (h ++ s ∷ [])
legal-more h s legal possible reply = legal_from-more [] h s legal possible reply

pub calls-own : (n : ℕ) (h : List Step) (s : Step) → s.seat ≡ n
    → seat_calls n (h ++ s ∷ []) ≡ seat_calls n h ++ s ∷ []
calls-own n h s is =
    filter-append (λ (x : Step). x.seat == n) h (s ∷ [])
    ∙ ap (λ l. seat_calls n h ++ l) (cond-true (s.seat == n) (s ∷ []) [] (eq-eqb s.seat n is))

pub calls-other : (n : ℕ) (h : List Step) (s : Step) → s.seat ≢ n
    → seat_calls n (h ++ s ∷ []) ≡ seat_calls n h
calls-other n h s other =
    filter-append (λ (x : Step). x.seat == n) h (s ∷ [])
    ∙ ap (λ l. seat_calls n h ++ l)
    (cond-false (s.seat == n) (s ∷ []) []
    (⊎_elim (λ (e : (s.seat == n) ≡ true). absurd (other (eqb-true s.seat n e))) (λ e. e)
    (cases_Bool (s.seat == n))))
    ∙ append-nil (seat_calls n h)

pub starts-more : (h first : List Step) (s : Step) → StartsWith h first → StartsWith (h ++ s ∷ []) first
starts-more h first s starts =
    (starts.0 ++ s ∷ [], ap (λ l. l ++ s ∷ []) starts.1 ∙ append_assoc first starts.0 (s ∷ []))

-- ---- what the rule says of a seat, after a step of another one

pub fits-next : (st : Stage) (h : List Step) (next serving n : ℕ) (u : View) → FitsAt st h next serving n u
    → FitsAt st h (next + 1) serving n u
fits-next Fresh h next serving n u f = f
fits-next Idle h next serving n u f = f
fits-next Waiting h next serving n u f = (f.0, f.1, omega (arith, f.2))
fits-next Turn h next serving n u f = (f.0, f.1, omega (arith, f.2), f.3)
fits-next Spent h next serving n u f = f

pub knows-more : (h : List Step) (n : ℕ) (u : View) (s : Step) → s.seat ≢ n → Knows h n u
    → Knows (h ++ s ∷ []) n u
knows-more h n u s other k = record {
  number = k.number;
  seen = starts-more h u.seen s k.seen;
  told = starts-more h u.told s k.told;
  own = calls-other n h s other ∙ k.own;
}

pub fits-call : (st : Stage) (h : List Step) (next serving n : ℕ) (u : View) (s : Step) → s.seat ≢ n
    → (has_ticket st ≡ true → u.ticket ≢ serving) → FitsAt st h next serving n u
    → FitsAt st (h ++ s ∷ []) next (serving + 1) n u
fits-call Fresh h next serving n u s other apart f =
    (starts-more h u.seen s f.0, starts-more h u.told s f.1, f.2, calls-other n h s other ∙ f.3, f.4)
fits-call Idle h next serving n u s other apart f = knows-more h n u s other f
fits-call Waiting h next serving n u s other apart f =
    (knows-more h n u s other f.0, (let ne = apart refl in omega (arith, f.1, ne)), f.2)
fits-call Turn h next serving n u s other apart f = absurd (apart refl f.1)
fits-call Spent h next serving n u s other apart f = f

-- ---- seats that were joined into others

pub below : (views : List View) (id : ℕ) (v : View) → get_elem? views id ≡ some v → id < length views
below [] id v e = absurd (some-ne-none v (sym e))
below (x ∷ xs) zero v e = omega arith
below (x ∷ xs) (suc id) v e = omega (arith, below xs id v e)

abbrev pub is_spent : Stage → Bool
is_spent Fresh = false
is_spent Idle = false
is_spent Waiting = false
is_spent Turn = false
is_spent Spent = true

-- a stage that is another one's is not Spent
pub not_spent : (st other : Stage) → st ≡ other → is_spent other ≡ false → st ≡ Spent → ⊥
not_spent st other is isnt gone = false≢true (sym isnt ∙ ap is_spent (sym is ∙ gone))

-- they stay so where one view changes, if that seat stays so
pub spent-set : (views : List View) (id : ℕ) (v w : View) → get_elem? views id ≡ some v
    → (v.stage ≡ Spent → w.stage ≡ Spent) → (claims : List Claim) → AreSpent views claims
    → AreSpent (set views id w) claims
spent-set views id v w at stays [] f = tt
spent-set views id v w at stays (c ∷ claims) f =
    (here (cases_eq c.number id), spent-set views id v w at stays claims f.1)
  where
    here : (c.number ≡ id) ⊎ (c.number ≢ id) → IsSpentAt (set views id w) c.number
    here (inl is) =
        let same : v ≡ f.0.0 = some-injective v f.0.0 (sym at ∙ ap (get_elem? views) (sym is) ∙ f.0.1) in (
          w,
          ap (get_elem? (set views id w)) is ∙ set_here views id w (below views id v at),
          stays (ap (λ (z : View). z.stage) same ∙ f.0.2),
        )
    here (inr other) = (f.0.0, set_else views id c.number w other ∙ f.0.1, f.0.2)

-- and where a seat comes
pub spent-longer : (views more : List View) (claims : List Claim) → AreSpent views claims
    → AreSpent (views ++ more) claims
spent-longer views more [] f = tt
spent-longer views more (c ∷ claims) f =
    ((f.0.0, at_longer views more c.number f.0.0 f.0.1, f.0.2), spent-longer views more claims f.1)

-- so they are of other seats than one that was joined into none
pub spent-others : (views : List View) (n : ℕ) (w : View) → get_elem? views n ≡ some w → (w.stage ≡ Spent → ⊥)
    → (claims : List Claim) → AreSpent views claims → AreOfOthers n claims
spent-others views n w at live [] f = tt
spent-others views n w at live (c ∷ claims) f = (
  (λ is.
      live
      (ap (λ (z : View). z.stage)
      (some-injective w f.0.0 (sym at ∙ ap (get_elem? views) (sym is) ∙ f.0.1))
      ∙ f.0.2)),
  spent-others views n w at live claims f.1,
)

-- ---- the seats that have tickets

-- a ticket stays with a seat where one view changes, if that seat keeps it
pub held-set : (views : List View) (id : ℕ) (v w : View) (t : ℕ) → get_elem? views id ≡ some v
    → (has_ticket v.stage ≡ true → v.ticket ≡ t → (has_ticket w.stage ≡ true) × (w.ticket ≡ t))
    → IsHeld views t → IsHeld (set views id w) t
held-set views id v w t at stays holder = here (cases_eq holder.0 id)
  where
    here : (holder.0 ≡ id) ⊎ (holder.0 ≢ id) → IsHeld (set views id w) t
    here (inl is) =
        let same : v ≡ holder.1 =
        some-injective v holder.1 (sym at ∙ ap (get_elem? views) (sym is) ∙ holder.2) in
        let kept =
        stays (ap (λ (z : View). has_ticket z.stage) same ∙ holder.3)
        (ap (λ (z : View). z.ticket) same ∙ holder.4) in
        (id, w, set_here views id w (below views id v at), kept.0, kept.1)
    here (inr other) = (holder.0, holder.1, set_else views id holder.0 w other ∙ holder.2, holder.3, holder.4)

-- and where a seat comes
pub held-longer : (views more : List View) (t : ℕ) → IsHeld views t → IsHeld (views ++ more) t
held-longer views more t holder =
    (holder.0, holder.1, at_longer views more holder.0 holder.1 holder.2, holder.3, holder.4)

-- a seat whose stage has no ticket has none
pub no_ticket : (st other : Stage) → st ≡ other → has_ticket other ≡ false → has_ticket st ≡ true → ⊥
no_ticket st other is hasnt has = false≢true (sym hasnt ∙ sym (ap has_ticket is) ∙ has)

-- ---- one view changes

pub kept-changed : (h : List Step) (next serving : ℕ) (s : State Slot View) → IsRuleKept h next serving s
    → (id : ℕ) (v : View) → get_elem? s.views id ≡ some v
    → (h2 : List Step) (next2 serving2 : ℕ) (words : List ℕ) (homes : List (Maybe Slot)) (w : View)
    → words ≡ next2 ∷ serving2 ∷ [] → serving2 ≤ next2 → IsLegal h2
    → ((n : ℕ) (u : View) → n ≢ id → get_elem? s.views n ≡ some u → FitsHistory h2 next2 serving2 n u)
    → FitsHistory h2 next2 serving2 id w
    → ((n : ℕ) → length s.views ≤ n → seat_calls n h2 ≡ [])
    → (has_ticket w.stage ≡ true → (n : ℕ) (u : View) → n ≢ id → get_elem? s.views n ≡ some u
    → has_ticket u.stage ≡ true → w.ticket ≡ u.ticket → ⊥)
    → (v.stage ≡ Spent → w.stage ≡ Spent) → AreSpent (set s.views id w) w.claims
    → ((t : ℕ) → serving2 ≤ t → t < next2 → IsHeld (set s.views id w) t) → w.given ≤ length s.views
    → IsHome h2 (record { words = words; homes = homes; views = set s.views id w })
    → IsRuleKept h2 next2 serving2 (record { words = words; homes = homes; views = set s.views id w })
kept-changed h next serving s k id v at h2 next2 serving2 words homes w words_are served legal others mine
    strangers tickets stays claims held given home =
    record {
      words = words_are;
      served = served;
      legal = legal;
      seats = λ n u e.
          ⊎_elim
          (λ (is : (n ≡ id) × (w ≡ u)).
          subst (λ m. FitsHistory h2 next2 serving2 m u) (sym is.0)
          (subst (FitsHistory h2 next2 serving2 id) is.1 mine))
          (λ (other : (n ≢ id) × (get_elem? s.views n ≡ some u)). others n u other.0 other.1)
          (at_set s.views id n w u e);
      strangers = λ n far. strangers n (omega (arith, far, length-set s.views id w));
      apart = λ m n x y em en tx ty same.
          ⊎_elim
          (λ (mi : (m ≡ id) × (w ≡ x)).
          ⊎_elim
          (λ (ni : (n ≡ id) × (w ≡ y)). mi.0 ∙ sym ni.0)
          (λ (no : (n ≢ id) × (get_elem? s.views n ≡ some y)).
          absurd
          (tickets (ap (λ (z : View). has_ticket z.stage) mi.1 ∙ tx) n y no.0 no.1 ty
          (ap (λ (z : View). z.ticket) mi.1 ∙ same)))
          (at_set s.views id n w y en))
          (λ (mo : (m ≢ id) × (get_elem? s.views m ≡ some x)).
          ⊎_elim
          (λ (ni : (n ≡ id) × (w ≡ y)).
          absurd
          (tickets (ap (λ (z : View). has_ticket z.stage) ni.1 ∙ ty) m x mo.0 mo.1 tx
          (ap (λ (z : View). z.ticket) ni.1 ∙ sym same)))
          (λ (no : (n ≢ id) × (get_elem? s.views n ≡ some y)). k.apart m n x y mo.1 no.1 tx ty same)
          (at_set s.views id n w y en))
          (at_set s.views id m w x em);
      held = held;
      given = λ n u e.
          ⊎_elim
          (λ (is : (n ≡ id) × (w ≡ u)).
          let same = ap (λ (z : View). z.given) is.1 in omega (arith, same, given, length-set s.views id w))
          (λ (other : (n ≢ id) × (get_elem? s.views n ≡ some u)).
          let old = k.given n u other.1 in omega (arith, old, length-set s.views id w))
          (at_set s.views id n w u e);
      gone = λ n u e.
          ⊎_elim
          (λ (is : (n ≡ id) × (w ≡ u)).
          subst (λ (z : View). AreSpent (set s.views id w) z.claims) is.1 claims)
          (λ (other : (n ≢ id) × (get_elem? s.views n ≡ some u)).
          spent-set s.views id v w at stays u.claims (k.gone n u other.1))
          (at_set s.views id n w u e);
      home = home;
    }

pub false_true : false ≡ true → ⊥
false_true e = false≢true e

pub idle_turn : Idle ≡ Turn → ⊥
idle_turn e = false_true (ap has_ticket e)

abbrev pub has_turn : Stage → Bool
has_turn Fresh = false
has_turn Idle = false
has_turn Waiting = false
has_turn Turn = true
has_turn Spent = false

pub fresh_turn : Fresh ≡ Turn → ⊥
fresh_turn e = false_true (ap has_turn e)

pub no_left : (xs ys : List Step) → xs ++ ys ≡ [] → xs ≡ []
no_left [] ys e = refl
no_left (x ∷ xs) ys e = absurd (omega (arith, ap length e))

-- a number of no call is that of no call in what a seat has seen
pub no_calls : (n : ℕ) (h first : List Step) → StartsWith h first → seat_calls n h ≡ []
    → seat_calls n first ≡ []
no_calls n h first starts free =
    no_left (seat_calls n first) (seat_calls n starts.0)
    (sym (filter-append (λ (x : Step). x.seat == n) first starts.0) ∙ sym (ap (seat_calls n) starts.1) ∙ free)

-- what a seat holds
abbrev pub ledger_of : List (ℕ × Slot) → List Entry
ledger_of [] = []
ledger_of ((k, Some es) ∷ rest) = es
ledger_of ((k, None) ∷ rest) = []

abbrev pub head_or : Entry → List Entry → Entry
head_or e [] = e
head_or e (x ∷ xs) = x

pub snoc_at : (l : List View) (a : View) (n : ℕ) (b : View) → get_elem? (l ++ a ∷ []) n ≡ some b
    → (get_elem? l n ≡ some b) ⊎ ((a ≡ b) × (n ≡ length l))
snoc_at [] a zero b e = inr (some-injective a b e, refl)
snoc_at [] a (suc n) b e = absurd (some-ne-none b (sym e))
snoc_at (x ∷ xs) a zero b e = inl e
snoc_at (x ∷ xs) a (suc n) b e =
    ⊎_elim (λ (there : get_elem? xs n ≡ some b). inl there)
    (λ (last : (a ≡ b) × (n ≡ length xs)). inr (last.0, ap suc last.1)) (snoc_at xs a n b e)

pub waiting_turn : Waiting ≡ Turn → ⊥
waiting_turn e = false_true (ap has_turn e)

-- the ledger is at home or out as before, where the views change at a seat that has the turn after it if it
-- had before
pub home-kept : (h : List Step) (s : State Slot View) (id : ℕ) (v w : View) (words : List ℕ)
    → get_elem? s.views id ≡ some v → (v.stage ≡ Turn → w.stage ≡ Turn) → IsHome h s
    → IsHome h (record { words = words; homes = s.homes; views = set s.views id w })
home-kept h s id v w words at stays (inl there) = inl there
home-kept h s id v w words at stays (inr out) = holder (cases_eq out.1 id)
  where
    holder : (out.1 ≡ id) ⊎ (out.1 ≢ id)
        → IsHome h (record { words = words; homes = s.homes; views = set s.views id w })
    holder (inl is) =
        let same : v ≡ out.2 =
        some-injective v out.2 (sym at ∙ subst (λ n. get_elem? s.views n ≡ some out.2) is out.3) in
        inr (
          out.0,
          id,
          w,
          set_here s.views id w (below s.views id v at),
          stays (ap (λ (z : View). z.stage) same ∙ out.4),
        )
    holder (inr other) = inr (out.0, out.1, out.2, set_else s.views id out.1 w other ∙ out.3, out.4)

pub below_next : (h : List Step) (next serving : ℕ) (st : Stage) (n : ℕ) (u : View) → has_ticket st ≡ true
    → FitsAt st h next serving n u → u.ticket ≡ next → ⊥
below_next h next serving Fresh n u has f e = absurd (false_true has)
below_next h next serving Idle n u has f e = absurd (false_true has)
below_next h next serving Waiting n u has f e = omega (arith, f.2, e)
below_next h next serving Turn n u has f e = omega (arith, f.1, f.2, e)
below_next h next serving Spent n u has f e = absurd (false_true has)

-- ---- one step

-- nothing changes
pub kept-same : (h : List Step) (next serving : ℕ) (s : State Slot View) → IsRuleKept h next serving s
    → (id : ℕ) (v : View) → get_elem? s.views id ≡ some v → (words : List ℕ) → words ≡ next ∷ serving ∷ []
    → IsRuleKept h next serving (record { words = words; homes = s.homes; views = set s.views id v })
kept-same h next serving s k id v at words same =
    kept-changed h next serving s k id v at h next serving words s.homes v same k.served k.legal
    (λ n u other e. k.seats n u e) (k.seats id v at) k.strangers
    (λ has n u other e tu ticket. other (sym (k.apart id n v u at e has tu ticket)))
    (λ gone. gone) (spent-set s.views id v v at (λ gone. gone) v.claims (k.gone id v at))
    (λ t low high. held-set s.views id v v t at (λ has is. (has, is)) (k.held t low high)) (k.given id v at)
    (home-kept h s id v v words at (λ turn. turn) k.home)

-- the rule, at words that are read
pub at_words : (words : List ℕ) (next serving : ℕ) → words ≡ next ∷ serving ∷ []
    → (slice_index words 0 ≡ next) × (slice_index words 1 ≡ serving)
at_words words next serving e = (ap (λ ws. slice_index ws 0) e, ap (λ ws. slice_index ws 1) e)
