-- Seats that come and go keep the lock's rule.
use Rattle.std.proofs.Common.{◌≡◌, ◌≢◌, ℕ, zero, suc, ◌+◌, ◌≤◌, List, [], ◌∷◌, ◌++◌, length, set}
use Rattle.std.proofs.Common.{Some, true, false, refl, sym, ap, ◌∙◌, subst, inl, inr, ⊎_elim, arith}
use Rattle.std.proofs.Common.{length-append}
use Rattle.std.specs.Prelude.{slice_index}
use Rattle.std.proofs.lemmas.List.{length-set, set_comm}
use mathlib.Core.Option.{some, some-ne-none, some-injective}
use lib.ListN.{get_elem?}
use Rattle.atomic_table.specs.Table.{State, Me, keeps, opening, Allows, Enters, Splits, Joins}
use Rattle.atomic_table.proofs.Lists.{at_longer, set_here, set_else}
use Rattle.credit_ledger.specs.declared.share.Half.{Half}
use Rattle.credit_ledger.specs.declared.view.Step.{Step}
use Rattle.credit_ledger.specs.declared.view.Claim.{Claim}
use Rattle.credit_ledger.specs.declared.view.Stage.TheVariants.{Fresh, Idle, Turn, Spent}
use Rattle.credit_ledger.specs.declared.view.View.{View}
use Rattle.credit_ledger.specs.Seats.{Slot, seat_calls, with_number, has_ticket, Knows, FitsAt, FitsHistory}
use Rattle.credit_ledger.specs.Seats.{IsHome, IsRuleKept, IsLater, Kept, Settled, Sat, Told, newcomer, halved}
use Rattle.credit_ledger.specs.Seats.{copied, noted, told_of, joined_of, gathered_of, spent, claims_of}
use Rattle.credit_ledger.specs.Seats.{with_given, AreClaims, AreEntersOf, AreSpent}
use Rattle.credit_ledger.proofs.RuleLemmas.{below, not_spent, spent-set, spent-longer, spent-others, held-set}
use Rattle.credit_ledger.proofs.RuleLemmas.{held-longer, no_ticket, kept-changed, false_true}
use Rattle.credit_ledger.proofs.RuleLemmas.{fresh_turn, no_calls, snoc_at, home-kept, kept-same, at_words}
use Rattle.credit_ledger.proofs.RightLemmas.{rights-begin, rights-same, rights-longer, rights-spent}
use Rattle.credit_ledger.proofs.RightLemmas.{rights-split, rights-joined, enters-of}

-- the first seat of an empty ledger
pub begins : Kept (opening (0 ∷ 0 ∷ []) (Some [] ∷ []) newcomer)
begins = (
  [],
  0,
  0,
  record {
    words = refl;
    served = omega arith;
    legal = tt;
    seats = one;
    strangers = λ n far. refl;
    apart = alone;
    held = λ t low high. absurd (omega (arith, high));
    given = none_given;
    gone = none_gone;
    home = inl refl;
  },
  rights-begin,
)
  where
    one : (n : ℕ) (v : View) → get_elem? (newcomer ∷ []) n ≡ some v → FitsHistory [] 0 0 n v
    one zero v e =
        subst (FitsHistory [] 0 0 0) (some-injective newcomer v e) (record {
          number = refl;
          seen = ([], refl);
          told = ([], refl);
          own = refl;
        })
    one (suc n) v e = absurd (some-ne-none v (sym e))

    alone : (m n : ℕ) (v w : View) → get_elem? (newcomer ∷ []) m ≡ some v
        → get_elem? (newcomer ∷ []) n ≡ some w → has_ticket v.stage ≡ true → has_ticket w.stage ≡ true
        → v.ticket ≡ w.ticket → m ≡ n
    alone zero zero v w em en tv tw same = refl
    alone zero (suc n) v w em en tv tw same = absurd (some-ne-none w (sym en))
    alone (suc m) n v w em en tv tw same = absurd (some-ne-none v (sym em))

    none_given : (n : ℕ) (v : View) → get_elem? (newcomer ∷ []) n ≡ some v → v.given ≤ 1
    none_given zero v e =
        let same = ap (λ (z : View). z.given) (some-injective newcomer v e) in omega (arith, same)
    none_given (suc n) v e = absurd (some-ne-none v (sym e))

    none_gone : (n : ℕ) (v : View) → get_elem? (newcomer ∷ []) n ≡ some v → AreSpent (newcomer ∷ []) v.claims
    none_gone zero v e =
        subst (λ (z : View). AreSpent (newcomer ∷ []) z.claims) (some-injective newcomer v e) tt
    none_gone (suc n) v e = absurd (some-ne-none v (sym e))

-- a new seat comes, which has no ticket and has taken in none
longer-kept : (h : List Step) (next serving : ℕ) (s : State Slot View) → IsRuleKept h next serving s
    → (w : View) → has_ticket w.stage ≡ false → w.claims ≡ [] → w.given ≤ length s.views + 1
    → FitsHistory h next serving (length s.views) w
    → IsRuleKept h next serving
    (record { words = s.words; homes = s.homes; views = s.views ++ w ∷ [] })
longer-kept h next serving s kept w no_tickets none few fits = record {
  words = kept.words;
  served = kept.served;
  legal = kept.legal;
  seats = λ n u e.
      ⊎_elim (λ (old : get_elem? s.views n ≡ some u). kept.seats n u old)
      (λ (new : (w ≡ u) × (n ≡ length s.views)).
      subst (λ m. FitsHistory h next serving m u) (sym new.1)
      (subst (FitsHistory h next serving (length s.views)) new.0 fits))
      (snoc_at s.views w n u e);
  strangers = λ n far. kept.strangers n (omega (arith, far, longer));
  apart = λ m n x y em en tx ty same.
      kept.apart m n x y (with_ticket_at m x em tx) (with_ticket_at n y en ty) tx ty same;
  held = λ t low high. held-longer s.views (w ∷ []) t (kept.held t low high);
  given = λ n u e.
      ⊎_elim
      (λ (old : get_elem? s.views n ≡ some u). let less = kept.given n u old in omega (arith, less, longer))
      (λ (new : (w ≡ u) × (n ≡ length s.views)).
      let same = ap (λ (z : View). z.given) new.0 in omega (arith, same, few, longer))
      (snoc_at s.views w n u e);
  gone = λ n u e.
      ⊎_elim
      (λ (old : get_elem? s.views n ≡ some u).
      spent-longer s.views (w ∷ []) u.claims (kept.gone n u old))
      (λ (new : (w ≡ u) × (n ≡ length s.views)).
      subst (AreSpent (s.views ++ w ∷ [])) (sym none ∙ ap (λ (z : View). z.claims) new.0) tt)
      (snoc_at s.views w n u e);
  home = home kept.home;
}
  where
    longer : length (s.views ++ w ∷ []) ≡ length s.views + 1
    longer = length-append s.views (w ∷ [])

    with_ticket_at : (n : ℕ) (u : View) → get_elem? (s.views ++ w ∷ []) n ≡ some u → has_ticket u.stage ≡ true
        → get_elem? s.views n ≡ some u
    with_ticket_at n u e has =
        ⊎_elim (λ (old : get_elem? s.views n ≡ some u). old)
        (λ (new : (w ≡ u) × (n ≡ length s.views)).
        absurd (false_true (sym no_tickets ∙ ap (λ (z : View). has_ticket z.stage) new.0 ∙ has)))
        (snoc_at s.views w n u e)

    home : IsHome h s
        → IsHome h (record { words = s.words; homes = s.homes; views = s.views ++ w ∷ [] })
    home (inl there) = inl there
    home (inr out) = inr (out.0, out.1, out.2, at_longer s.views (w ∷ []) out.1 out.2 out.3, out.4)

-- a new seat comes with some of the shares, and the other one is left with some
split-kept : (h : List Step) (next serving : ℕ) (s : State Slot View) → IsRuleKept h next serving s
    → (id : ℕ) (v : View) → v.stage ≡ Idle → get_elem? s.views id ≡ some v → (left right : List (List Half))
    → IsRuleKept h next serving (record {
      words = s.words;
      homes = s.homes;
      views = set s.views id (record v { shares = left }) ++ record (copied v) { shares = right } ∷ [];
    })
split-kept h next serving s kept id v idle at left right =
    longer-kept h next serving mid mid_kept new refl refl
    (let few = kept.given id v at in omega (arith, few, same_length)) (
      knows.seen,
      knows.seen,
      refl,
      kept.strangers (length (set s.views id old)) (omega (arith, same_length)),
      later,
    )
  where
    old : View
    old = record v { shares = left }

    new : View
    new = record (copied v) { shares = right }

    mid : State Slot View
    mid = record { words = s.words; homes = s.homes; views = set s.views id (record v { shares = left }) }

    same_length : length (set s.views id (record v { shares = left })) ≡ length s.views
    same_length = length-set s.views id (record v { shares = left })

    knows : Knows h id v
    knows = subst (λ st. FitsAt st h next serving id v) idle (kept.seats id v at)

    mid_kept : IsRuleKept h next serving (record {
      words = s.words;
      homes = s.homes;
      views = set s.views id (record v { shares = left });
    })
    mid_kept =
        kept-changed h next serving s kept id v at h next serving s.words s.homes (record v { shares = left })
        kept.words kept.served kept.legal (λ n u _ e. kept.seats n u e)
        (subst (λ st. FitsAt st h next serving id (record v { shares = left })) (sym idle) (record {
          number = knows.number;
          seen = knows.seen;
          told = knows.told;
          own = knows.own;
        }))
        kept.strangers (λ has. absurd (no_ticket v.stage Idle idle refl has))
        (λ gone. absurd (not_spent v.stage Idle idle refl gone))
        (spent-set s.views id v (record v { shares = left }) at
        (λ gone. absurd (not_spent v.stage Idle idle refl gone)) v.claims (kept.gone id v at))
        (λ t low high.
        held-set s.views id v (record v { shares = left }) t at (λ has is. (has, is)) (kept.held t low high))
        (kept.given id v at)
        (home-kept h s id v (record v { shares = left }) s.words at (λ turn. turn) kept.home)

    later : IsLater (record (copied v) { shares = right })
        (length (set s.views id (record v { shares = left })))
    later = record {
      than_given = let few = kept.given id v at in omega (arith, same_length, few);
      than_seat = omega (arith, same_length, knows.number, below s.views id v at);
      than_callers =
          λ m far. no_calls m h v.seen knows.seen (kept.strangers m (omega (arith, far, same_length)));
    }

-- a seat is split
pub copies : (id : ℕ) (v : View) → v.stage ≡ Idle → Splits Kept id v (halved v) (copied v)
copies id v idle s kept at = (
  kept.0,
  kept.1,
  kept.2,
  split-kept kept.0 kept.1 kept.2 s kept.3 id v idle at (halved v).shares (copied v).shares,
  rights-split kept.0 s.views id v (halved v) (copied v) kept.4 at refl refl refl refl,
)

-- a new seat comes without shares
pub notes : (id : ℕ) (v : View) → v.stage ≡ Idle → Splits Kept id v v (noted v)
notes id v idle s kept at = (
  kept.0,
  kept.1,
  kept.2,
  split-kept kept.0 kept.1 kept.2 s kept.3 id v idle at v.shares [],
  rights-longer kept.0 (set s.views id v) (noted v)
      (rights-same kept.0 s.views id v v kept.4 at refl refl) refl refl,
)

-- a new seat learns its number
pub settles : (slots id : ℕ) (me : Me Slot View) → me.0.stage ≡ Fresh → me.1 ≡ []
    → Allows Kept slots id me 0 (λ n. n) (λ _ m. Settled me m)
settles slots id me fresh empty s kept count at small = (
  with_number me.0 id,
  keeps,
  tt,
  (
    kept.0,
    kept.1,
    kept.2,
    kept-changed kept.0 kept.1 kept.2 s kept.3 id me.0 at kept.0 kept.1 kept.2
        (set s.words 0 (slice_index s.words 0)) s.homes (with_number me.0 id)
        (ap (λ ws. set ws 0 (slice_index s.words 0)) kept.3.words
        ∙ ap (λ n. n ∷ kept.2 ∷ []) (at_words s.words kept.1 kept.2 kept.3.words).0)
        kept.3.served kept.3.legal (λ n u other e. kept.3.seats n u e)
        (record { number = refl; seen = fits.0; told = fits.1; own = fits.3 ∙ sym fits.2 })
        kept.3.strangers
        (λ has. absurd (false_true has))
        (λ gone. absurd (not_spent me.0.stage Fresh fresh refl gone))
        (spent-set s.views id me.0 (with_number me.0 id)
        at (λ gone. absurd (not_spent me.0.stage Fresh fresh refl gone)) me.0.claims
        (kept.3.gone id me.0 at))
        (λ t low high.
        held-set s.views id me.0 (with_number me.0 id) t
        at (λ has _. absurd (no_ticket me.0.stage Fresh fresh refl has)) (kept.3.held t low high))
        (omega (arith, below s.views id me.0 at))
        (home-kept kept.0 s id me.0 (with_number me.0 id) (set s.words 0 (slice_index s.words 0))
        at (λ turn. absurd (fresh_turn (sym fresh ∙ turn))) kept.3.home),
    rights-same kept.0 s.views id me.0 (with_number me.0 id) kept.4 at refl refl,
  ),
  (id, no_calls id kept.0 me.0.seen fits.0 fits.3, fits.4, refl),
)
  where
    fits : FitsAt Fresh kept.0 kept.1 kept.2 id me.0
    fits = subst (λ st. FitsAt st kept.0 kept.1 kept.2 id me.0) fresh (kept.3.seats id me.0 at)

-- ---- a seat that is spent

-- a seat that waits for no turn is spent, and another one changes, which keeps its stage and its ticket
joined-kept : (h : List Step) (next serving : ℕ) (s : State Slot View) → IsRuleKept h next serving s
    → (id other : ℕ) (v w both : View) → get_elem? s.views id ≡ some v → get_elem? s.views other ≡ some w
    → other ≢ id → (v.stage ≡ Spent → ⊥) → has_ticket w.stage ≡ false → both.stage ≡ v.stage
    → both.ticket ≡ v.ticket → both.given ≤ length s.views → FitsHistory h next serving id both
    → AreSpent (set s.views other spent) both.claims
    → IsRuleKept h next serving
    (record { words = s.words; homes = s.homes; views = set (set s.views id both) other spent })
joined-kept h next serving s kept id other v w both at there apart live no_tickets stage ticket few fits
    gone =
    subst (λ vs. IsRuleKept h next serving (record { words = s.words; homes = s.homes; views = vs }))
    (set_comm s.views other id spent both apart) both_kept
  where
    mid : State Slot View
    mid = record { words = s.words; homes = s.homes; views = set s.views other spent }

    at_too : get_elem? (set s.views other spent) id ≡ some v
    at_too = set_else s.views other id spent (λ same. apart (sym same)) ∙ at

    hasnt : has_ticket w.stage ≡ true → ⊥
    hasnt has = false_true (sym no_tickets ∙ has)

    mid_kept : IsRuleKept h next serving (record {
      words = s.words;
      homes = s.homes;
      views = set s.views other spent;
    })
    mid_kept =
        kept-changed h next serving s kept other w there h next serving s.words s.homes spent kept.words
        kept.served kept.legal (λ n u _ e. kept.seats n u e) tt kept.strangers
        (λ has. absurd (false_true has)) (λ _. refl) tt
        (λ t low high.
        held-set s.views other w spent t there (λ has _. absurd (hasnt has)) (kept.held t low high))
        (omega arith)
        (home-kept h s other w spent s.words there (λ turn. absurd (hasnt (ap has_ticket turn))) kept.home)

    both_kept : IsRuleKept h next serving (record {
      words = s.words;
      homes = s.homes;
      views = set (set s.views other spent) id both;
    })
    both_kept =
        kept-changed h next serving mid mid_kept id v at_too h next serving s.words s.homes both kept.words
        kept.served kept.legal (λ n u _ e. mid_kept.seats n u e) fits mid_kept.strangers
        (λ mine n u unlike e has same.
        unlike
        (sym (mid_kept.apart id n v u at_too e (sym (ap has_ticket stage) ∙ mine) has (sym ticket ∙ same))))
        (λ is. absurd (live is))
        (spent-set (set s.views other spent) id v both at_too (λ is. absurd (live is)) both.claims gone)
        (λ t low high.
        held-set (set s.views other spent) id v both t at_too
        (λ has is. (ap has_ticket stage ∙ has, ticket ∙ is)) (mid_kept.held t low high))
        (omega (arith, few, length-set s.views other spent))
        (home-kept h mid id v both s.words at_too (λ turn. stage ∙ turn) mid_kept.home)

-- what a seat has taken in stays spent
still-spent : (h : List Step) (next serving : ℕ) (s : State Slot View) → IsRuleKept h next serving s
    → (id other : ℕ) (v w : View) → get_elem? s.views id ≡ some v → get_elem? s.views other ≡ some w
    → AreSpent (set s.views other spent) v.claims
still-spent h next serving s kept id other v w at there =
    spent-set s.views other w spent there (λ _. refl) v.claims (kept.gone id v at)

spent-append : (views : List View) (xs ys : List Claim) → AreSpent views xs → AreSpent views ys
    → AreSpent views (xs ++ ys)
spent-append views [] ys f g = g
spent-append views (x ∷ xs) ys f g = (f.0, spent-append views xs ys f.1 g)

-- and what it takes in is spent
now-spent : (h : List Step) (next serving : ℕ) (s : State Slot View) → IsRuleKept h next serving s
    → (id other : ℕ) (v w : View) → get_elem? s.views id ≡ some v → get_elem? s.views other ≡ some w
    → w.number ≡ other → AreSpent (set s.views other spent) (claims_of w ++ v.claims)
now-spent h next serving s kept id other v w at there number =
    spent-append (set s.views other spent) (claims_of w) v.claims (
      (
        spent,
        ap (get_elem? (set s.views other spent)) number
            ∙ set_here s.views other spent (below s.views other w there),
        refl,
      ),
      still-spent h next serving s kept other other w w there there,
    )
    (still-spent h next serving s kept id other v w at there)

-- a seat as it stands before another one changes
before : (s : State Slot View) (id other : ℕ) (w both : View) → other ≢ id
    → get_elem? (set s.views id both) other ≡ some w → get_elem? s.views other ≡ some w
before s id other w both apart there = sym (set_else s.views id other both apart) ∙ there

-- a seat learns from a new one without shares which numbers are given
pub counts : (id other : ℕ) (v w : View) → v.stage ≡ Idle → w.stage ≡ Fresh → w.shares ≡ []
    → Joins Kept id v other w (with_given v w.given) spent
counts id other v w idle fresh none s kept at apart there_after = (
  kept.0,
  kept.1,
  kept.2,
  joined-kept kept.0 kept.1 kept.2 s kept.3 id other v w (with_given v w.given) at there apart
      (not_spent v.stage Idle idle refl) (ap has_ticket fresh) refl refl (kept.3.given other w there)
      (subst (λ st. FitsAt st kept.0 kept.1 kept.2 id (with_given v w.given)) (sym idle) (record {
        number = knows.number;
        seen = knows.seen;
        told = knows.told;
        own = knows.own;
      }))
      (still-spent kept.0 kept.1 kept.2 s kept.3 id other v w at there),
  rights-spent kept.0 (set s.views id (with_given v w.given)) other w
      (rights-same kept.0 s.views id v (with_given v w.given) kept.4 at refl refl) there_after none,
)
  where
    there : get_elem? s.views other ≡ some w
    there = before s id other w (with_given v w.given) apart there_after

    knows : Knows kept.0 id v
    knows = subst (λ st. FitsAt st kept.0 kept.1 kept.2 id v) idle (kept.3.seats id v at)

-- a seat learns the history that one without shares has seen
pub hears : (id other : ℕ) (v w : View) → v.stage ≡ Idle → w.stage ≡ Idle → w.shares ≡ []
    → Joins Kept id v other w (told_of v w) spent
hears id other v w idle idle_too none s kept at apart there_after = (
  kept.0,
  kept.1,
  kept.2,
  joined-kept kept.0 kept.1 kept.2 s kept.3 id other v w (told_of v w) at there apart
      (not_spent v.stage Idle idle refl) (ap has_ticket idle_too) refl refl
      (let few = kept.3.given id v at in
      let few_too = kept.3.given other w there in omega (arith, few, few_too))
      (subst (λ st. FitsAt st kept.0 kept.1 kept.2 id (told_of v w)) (sym idle) (record {
        number = knows.number;
        seen = knows.seen;
        told = knows_too.seen;
        own = knows.own;
      }))
      (still-spent kept.0 kept.1 kept.2 s kept.3 id other v w at there),
  rights-spent kept.0 (set s.views id (told_of v w)) other w
      (rights-same kept.0 s.views id v (told_of v w) kept.4 at refl refl) there_after none,
)
  where
    there : get_elem? s.views other ≡ some w
    there = before s id other w (told_of v w) apart there_after

    knows : Knows kept.0 id v
    knows = subst (λ st. FitsAt st kept.0 kept.1 kept.2 id v) idle (kept.3.seats id v at)

    knows_too : Knows kept.0 other w
    knows_too = subst (λ st. FitsAt st kept.0 kept.1 kept.2 other w) idle_too (kept.3.seats other w there)

-- a seat takes in another one
pub takes_in : (id other : ℕ) (v w : View) → v.stage ≡ Idle → w.stage ≡ Idle
    → Joins Kept id v other w (joined_of v w) spent
takes_in id other v w idle idle_too s kept at apart there_after = (
  kept.0,
  kept.1,
  kept.2,
  joined-kept kept.0 kept.1 kept.2 s kept.3 id other v w (joined_of v w) at there apart
      (not_spent v.stage Idle idle refl) (ap has_ticket idle_too) refl refl
      (let few = kept.3.given id v at in
      let few_too = kept.3.given other w there in omega (arith, few, few_too))
      (subst (λ st. FitsAt st kept.0 kept.1 kept.2 id (joined_of v w)) (sym idle) (record {
        number = knows.number;
        seen = knows.seen;
        told = knows_too.seen;
        own = knows.own;
      }))
      (now-spent kept.0 kept.1 kept.2 s kept.3 id other v w at there knows_too.number),
  rights-joined kept.0 s.views id other v w (joined_of v w) kept.4 at there apart refl refl knows_too.number
      knows_too.seen (ap (λ n. seat_calls n kept.0) knows_too.number ∙ knows_too.own)
      (λ n u e.
      spent-others s.views other w there (not_spent w.stage Idle idle_too refl) u.claims (kept.3.gone n u e)),
)
  where
    there : get_elem? s.views other ≡ some w
    there = before s id other w (joined_of v w) apart there_after

    knows : Knows kept.0 id v
    knows = subst (λ st. FitsAt st kept.0 kept.1 kept.2 id v) idle (kept.3.seats id v at)

    knows_too : Knows kept.0 other w
    knows_too = subst (λ st. FitsAt st kept.0 kept.1 kept.2 other w) idle_too (kept.3.seats other w there)

-- so does a seat that has the turn
pub gathers : (id other : ℕ) (v w : View) → v.stage ≡ Turn → w.stage ≡ Idle
    → Joins Kept id v other w (gathered_of v w) spent
gathers id other v w turn idle s kept at apart there_after = (
  kept.0,
  kept.1,
  kept.2,
  joined-kept kept.0 kept.1 kept.2 s kept.3 id other v w (gathered_of v w) at there apart
      (not_spent v.stage Turn turn refl) (ap has_ticket idle) refl refl (kept.3.given id v at)
      (subst (λ st. FitsAt st kept.0 kept.1 kept.2 id (gathered_of v w)) (sym turn) (
        record {
          number = fits.0.number;
          seen = fits.0.seen;
          told = fits.0.told;
          own = fits.0.own;
        },
        fits.1,
        fits.2,
        fits.3,
      ))
      (now-spent kept.0 kept.1 kept.2 s kept.3 id other v w at there knows.number),
  rights-joined kept.0 s.views id other v w (gathered_of v w) kept.4 at there apart refl refl knows.number
      knows.seen (ap (λ n. seat_calls n kept.0) knows.number ∙ knows.own)
      (λ n u e.
      spent-others s.views other w there (not_spent w.stage Idle idle refl) u.claims (kept.3.gone n u e)),
)
  where
    there : get_elem? s.views other ≡ some w
    there = before s id other w (gathered_of v w) apart there_after

    fits : FitsAt Turn kept.0 kept.1 kept.2 id v
    fits = subst (λ st. FitsAt st kept.0 kept.1 kept.2 id v) turn (kept.3.seats id v at)

    knows : Knows kept.0 other w
    knows = subst (λ st. FitsAt st kept.0 kept.1 kept.2 other w) idle (kept.3.seats other w there)

-- ---- the end

-- a new seat comes
pub sits : (slots : ℕ) → Enters Kept slots 0 (λ _ w. Sat (w, []))
sits slots s kept count small = (
  new,
  (
    kept.0,
    kept.1,
    kept.2,
    longer-kept kept.0 kept.1 kept.2 s kept.3 new refl refl (omega arith) (record {
      number = refl;
      seen = (kept.0, refl);
      told = (kept.0, refl);
      own = kept.3.strangers (length s.views) (omega arith);
    }),
    rights-longer kept.0 s.views new kept.4 refl refl,
  ),
  record { stage = refl; own = refl; shares = refl; claims = refl },
)
  where
    new : View
    new = record {
      number = length s.views;
      given = length s.views + 1;
      seen = [];
      told = [];
      own = [];
      stage = Idle;
      ticket = 0;
      shares = [];
      claims = [];
    }

-- a seat that has the turn is told of what it took in
pub told_claims : (slots id : ℕ) (me : Me Slot View) → me.0.stage ≡ Turn
    → Allows Kept slots id me 0 (λ n. n) (λ _ m. Told me m)
told_claims slots id me turn s kept count at small = (
  me.0,
  keeps,
  tt,
  (
    kept.0,
    kept.1,
    kept.2,
    kept-same kept.0 kept.1 kept.2 s kept.3 id me.0 at (set s.words 0 (slice_index s.words 0))
        (ap (λ ws. set ws 0 (slice_index s.words 0)) kept.3.words
        ∙ ap (λ n. n ∷ kept.2 ∷ []) (at_words s.words kept.1 kept.2 kept.3.words).0),
    rights-same kept.0 s.views id me.0 me.0 kept.4 at refl refl,
  ),
  record {
    same = refl;
    claims = subst (λ h. AreClaims h me.0.claims) (sym fits.3) (kept.4.claims id me.0 at).0;
    apart = (kept.4.claims id me.0 at).1;
    enters = λ all none.
        subst (AreEntersOf me.0.claims) (sym fits.3)
        (enters-of kept.0 s.views id me.0 kept.4 at (fits.0.own ∙ none) all);
  },
)
  where
    fits : FitsAt Turn kept.0 kept.1 kept.2 id me.0
    fits = subst (λ st. FitsAt st kept.0 kept.1 kept.2 id me.0) turn (kept.3.seats id me.0 at)
