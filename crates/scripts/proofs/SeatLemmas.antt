-- The seats that the threads of a run get.
use Rattle.std.proofs.Common.{ℕ, ◌≡◌, ◌∙◌, ◌++◌, ◌∷◌, ◌+◌, ◌-◌, ◌<◌, ◌≤◌, [], List, Some, None, Option}
use Rattle.std.proofs.Common.{Bool, true}
use Rattle.std.proofs.Common.{false, length, map, refl, sym, ap, subst, take, arith, inl, inr}
use Rattle.std.specs.Prelude.{◌||◌, IfSome, slice_get, option_map, option_and_then}
use Rattle.std.specs.Global.{Vec}
use Rattle.std.specs.List.{list_any}
use Rattle.std.specs.Option.{option_map_or}
use Rattle.std.proofs.lemmas.Bool.{cases_lt}
use Rattle.std.proofs.lemmas.List.{append-nil, append_assoc, length-map, length_push, map-append}
use Rattle.std.proofs.lemmas.List.{same_from_push}
use Rattle.std.proofs.lemmas.List.{take_all}
use Rattle.std.proofs.lemmas.List.Elements.{All-nil, All-cons, All-append}
use Rattle.std.proofs.lemmas.List.Folds.{list_any-append}
use Rattle.std.proofs.lemmas.Grind.{flat_map-append}
use Rattle.std.proofs.lemmas.Option.{none-some, same_Some, slice_get_past}
use Rattle.ompt_events.proofs.ListLemmas.{get_last, get_within, pushed_cases}
use Rattle.callbacks.proofs.GatherLemmas.{get_first}
use Rattle.callbacks.proofs.KnownLaw.{take_next}
use Rattle.credit_ledger.specs.declared.share.Half.{Half}
use Rattle.credit_ledger.specs.Shares.{overlaps, keep_half, give_half}
use Rattle.credit_ledger.specs.declared.view.View.{View}
use Rattle.credit_ledger.specs.Seats.{AreAll, IsCopy, halved, with_given}
use Rattle.credit_ledger.proofs.ShareLemmas.{all-split, all-whole}
use Rattle.task_states.specs.Rows.{row_at, row_items}
use Rattle.atomic_table.specs.Seated.{TableId}
use Rattle.credit_ledger.specs.declared.shared.Seat.{Seat}
use Rattle.credit_ledger.specs.Places.{seat_id, view_of, IsUnused}
use Rattle.scripts.specs.Parts.{AreOfLedger, AreSeats, IsNewSeat, seat_of, shares_in, views_of}

-- the first threads, this many, have their seats, and the others will share the rest of the first seat
pub record AreSeatsOf (threads : List (Vec ℕ)) (n : ℕ) (seats : List (Option View)) (rest : View)
    : Type 0 where
  pub long : length seats ≡ n
  pub without : (thread : ℕ) → thread < n → seat_of seats thread ≡ None → row_at threads thread ≡ []
  pub new : (thread : ℕ) (v : View) → seat_of seats thread ≡ Some v → IsNewSeat v
  pub rest_is_new : IsNewSeat rest
  pub shares : AreAll (shares_in seats ++ rest.shares)

pub none_seated : (threads : List (Vec ℕ)) (first : Seat) → IsUnused first → (view_of first).seen ≡ []
    → (view_of first).shares ≡ [] ∷ [] → AreSeatsOf threads 0 [] (view_of first)
none_seated threads first unused seen all = record {
  long = refl;
  without = λ thread below. absurd (omega (arith, below));
  new = λ thread v is. absurd (none-some v is);
  rest_is_new = record { seen = seen; own = unused.0; claims = unused.1 };
  shares = subst AreAll (sym all) all-whole;
}

seats_pushed : (seats : List (Option View)) (o : Option View)
    → shares_in (seats ++ o ∷ []) ≡ shares_in seats ++ shares_in (o ∷ [])
seats_pushed seats o = flat_map-append (λ p. option_map_or (λ (v : View). v.shares) p []) seats (o ∷ [])

new_pushed : (seats : List (Option View)) (o : Option View) → ((v : View) → o ≡ Some v → IsNewSeat v)
    → ((thread : ℕ) (v : View) → seat_of seats thread ≡ Some v → IsNewSeat v)
    → (thread : ℕ) (v : View) → seat_of (seats ++ o ∷ []) thread ≡ Some v → IsNewSeat v
new_pushed seats o one all thread v is = by (slice_get (seats ++ o ∷ []) thread) refl
  where
    by : (found : Option (Option View)) → slice_get (seats ++ o ∷ []) thread ≡ found → IsNewSeat v
    by None none = absurd (none-some v (ap (option_and_then (λ p. p)) (sym none) ∙ is))
    by (Some p) some =
        let here : p ≡ Some v = ap (option_and_then (λ q. q)) (sym some) ∙ is in
        elim (pushed_cases seats o p thread some) [
          | inl old ↦ all thread v (ap (option_and_then (λ q. q)) old ∙ here)
          | inr (last, same) ↦ one v (same ∙ here)
        ]

-- a thread that is not the last one keeps its seat, or has none
without_pushed : (threads : List (Vec ℕ)) (n : ℕ) (seats : List (Option View)) (o : Option View)
    → length seats ≡ n → (o ≡ None → row_at threads n ≡ [])
    → ((thread : ℕ) → thread < n → seat_of seats thread ≡ None → row_at threads thread ≡ [])
    → (thread : ℕ) → thread < n + 1 → seat_of (seats ++ o ∷ []) thread ≡ None → row_at threads thread ≡ []
without_pushed threads n seats o long last before thread below none = elim (cases_lt thread n) [
  | inl less ↦
      let (p, is) = get_within seats thread (omega (arith, less, long)) in
      before thread less
      (ap (option_and_then (λ q. q)) (is ∙ sym (get_first seats (o ∷ []) thread p is)) ∙ none)
  | inr from ↦
      let here : thread ≡ n = omega (arith, below, from) in
      ap (row_at threads) here
      ∙ last
      (ap (option_and_then (λ p. p)) (sym (get_last seats o n (sym long)))
      ∙ ap (seat_of (seats ++ o ∷ [])) (sym here) ∙ none)
]

-- a thread without a place gets none
pub none_next : (threads : List (Vec ℕ)) (n : ℕ) (seats : List (Option View)) (rest : View)
    → row_at threads n ≡ [] → AreSeatsOf threads n seats rest
    → AreSeatsOf threads (n + 1) (seats ++ None ∷ []) rest
none_next threads n seats rest empty are = record {
  long = length_push seats None ∙ ap (λ k. k + 1) are.long;
  without = without_pushed threads n seats None are.long (λ none. empty) are.without;
  new = new_pushed seats None (λ v none. absurd (none-some v none)) are.new;
  rest_is_new = are.rest_is_new;
  shares =
      subst (λ l. AreAll (l ++ rest.shares))
      (sym (append-nil (shares_in seats)) ∙ sym (seats_pushed seats None)) are.shares;
}

reorder : (a b c : Bool) → ((a || b) || c) ≡ true → ((a || c) || b) ≡ true
reorder true b c is = refl
reorder false true true is = refl
reorder false true false is = refl
reorder false false true is = refl
reorder false false false is = is

-- the order of two parts does not matter
turned : (others one other : List (List Half)) → AreAll ((others ++ one) ++ other)
    → AreAll ((others ++ other) ++ one)
turned others one other all share =
    let test = overlaps share in
    list_any-append test (others ++ other) one
    ∙ ap (λ b. b || list_any test one) (list_any-append test others other)
    ∙ reorder (list_any test others) (list_any test one) (list_any test other)
    (sym
    (list_any-append test (others ++ one) other
    ∙ ap (λ b. b || list_any test other) (list_any-append test others one)) ∙ all share)

-- the shares are cut in two
cut : (others shares : List (List Half)) → AreAll (others ++ shares)
    → AreAll ((others ++ map give_half shares) ++ map keep_half shares)
cut others shares all =
    turned others (map keep_half shares) (map give_half shares)
    (subst AreAll
    (append-nil (others ++ (map keep_half shares ++ map give_half shares))
    ∙ sym (append_assoc others (map keep_half shares) (map give_half shares)))
    (all-split others shares [] (subst AreAll (sym (append-nil (others ++ shares))) all)))

-- another one gets a part of the rest
pub some_next : (threads : List (Vec ℕ)) (n : ℕ) (seats : List (Option View)) (old rest own : View)
    → IsNewSeat own → own.shares ≡ map give_half old.shares → IsNewSeat rest
    → rest.shares ≡ map keep_half old.shares → AreSeatsOf threads n seats old
    → AreSeatsOf threads (n + 1) (seats ++ Some own ∷ []) rest
some_next threads n seats old rest own new gives rest_new keeps are = record {
  long = length_push seats (Some own) ∙ ap (λ k. k + 1) are.long;
  without = without_pushed threads n seats (Some own) are.long (λ none. absurd (none-some own (sym none)))
      are.without;
  new = new_pushed seats (Some own) (λ v is. subst IsNewSeat (same_Some own v is) new) are.new;
  rest_is_new = rest_new;
  shares =
      subst (λ l. AreAll (l ++ rest.shares))
      (ap (λ l. shares_in seats ++ l) (sym (append-nil own.shares)) ∙ sym (seats_pushed seats (Some own)))
      (subst (λ l. AreAll ((shares_in seats ++ own.shares) ++ l)) (sym keeps)
      (subst (λ l. AreAll ((shares_in seats ++ l) ++ map keep_half old.shares)) (sym gives)
      (cut (shares_in seats) old.shares are.shares)));
}

-- the last thread gets the rest
pub all_seated : (threads : List (Vec ℕ)) (n : ℕ) (seats : List (Option View)) (rest : View)
    → length threads ≤ n + 1 → n < 256 → AreSeatsOf threads n seats rest
    → AreSeats threads (seats ++ Some rest ∷ [])
all_seated threads n seats rest last few are = record {
  few = let longer = length_push seats (Some rest) in let long = are.long in omega arith;
  without = λ thread none. elim (cases_lt thread (n + 1)) [
    | inl below ↦
        without_pushed threads n seats (Some rest) are.long (λ is. absurd (none-some rest (sym is)))
        are.without thread below none
    | inr past ↦ ap row_items (slice_get_past threads thread (omega (arith, past, last)))
  ];
  new = new_pushed seats (Some rest) (λ v is. subst IsNewSeat (same_Some rest v is) are.rest_is_new) are.new;
  shares =
      subst AreAll
      (ap (λ l. shares_in seats ++ l) (sym (append-nil rest.shares)) ∙ sym (seats_pushed seats (Some rest)))
      are.shares;
}

-- ---- the loop

-- the seats of one thread more
pub seated_more : (threads : List (Vec ℕ)) (thread : ℕ) (items pushed : List (Option Seat))
    (seat : Option Seat) (rest : View) → 1 ≤ thread → pushed ≡ items ++ seat ∷ []
    → AreSeatsOf threads (thread - 1 + 1) (views_of items ++ option_map view_of seat ∷ []) rest
    → AreSeatsOf threads (thread + 1 - 1) (views_of pushed) rest
seated_more threads thread items pushed seat rest from is are =
    subst (λ n. AreSeatsOf threads n (views_of pushed) rest) (omega (arith, from))
    (subst (λ l. AreSeatsOf threads (thread - 1 + 1) l rest)
    (sym (map-append (option_map view_of) items (seat ∷ [])) ∙ ap views_of (sym is)) are)

-- the seat that is split off, and what is left
pub split_next : (threads : List (Vec ℕ)) (n : ℕ) (seats : List (Option View)) (old own : View) (given : ℕ)
    → IsCopy old own → own.shares ≡ map give_half old.shares → AreSeatsOf threads n seats old
    → AreSeatsOf threads (n + 1) (seats ++ Some own ∷ []) (with_given (halved old) given)
split_next threads n seats old own given copy gives are =
    some_next threads n seats old (with_given (halved old) given) own
    (record {
      seen = copy.seen ∙ are.rest_is_new.seen;
      own = copy.own;
      claims = copy.claims;
    }) gives
    (record {
      seen = are.rest_is_new.seen;
      own = are.rest_is_new.own;
      claims = are.rest_is_new.claims;
    }) refl are

-- all are of the ledger
pub of_ledger_more : (ledger : TableId) (items pushed : List (Option Seat)) (seat : Option Seat)
    → pushed ≡ items ++ seat ∷ [] → IfSome seat (λ own. seat_id own ≡ ledger) → AreOfLedger ledger items
    → AreOfLedger ledger pushed
of_ledger_more ledger items pushed seat is own all =
    let P : Option Seat → Type 0 = λ o. IfSome o (λ it. seat_id it ≡ ledger) in
    subst (AreOfLedger ledger) (sym is)
    (All-append P items (seat ∷ []) all (All-cons P seat [] own (All-nil P)))

-- without the last seat
pub seats_less : (seats : List (Option View)) (all items : List (Option Seat)) (last : Option Seat)
    → views_of all ≡ take (length all) seats → all ≡ items ++ last ∷ []
    → (views_of items ≡ take (length items) seats)
    × (slice_get seats (length items) ≡ Some (option_map view_of last))
seats_less seats all items last views is = elim (cases_lt (length items) (length seats)) [
  | inl within ↦
      let (x, here) = get_within seats (length items) within in
      let (same, last_is) =
      same_from_push (views_of items) (take (length items) seats) (option_map view_of last) x
      (both ∙ take_next seats (length items) x here) in
      (same, here ∙ ap Some (sym last_is))
  | inr past ↦
      let long =
      length_push (views_of items) (option_map view_of last)
      ∙ ap (λ n. n + 1) (length-map items (option_map view_of)) in
      let short = ap length both ∙ ap length (take_all (length items + 1) seats (omega (arith, past))) in
      absurd (omega (arith, long, short, past))
]
  where
    longer : length all ≡ length items + 1
    longer = ap length is ∙ length_push items last

    both : views_of items ++ option_map view_of last ∷ [] ≡ take (length items + 1) seats
    both =
        sym (map-append (option_map view_of) items (last ∷ [])) ∙ ap views_of (sym is) ∙ views
        ∙ ap (λ k. take k seats) longer
