-- What the seats of a run know of the ledger after their calls.
use Rattle.std.proofs.Common.{ℕ, ◌≡◌, ◌∙◌, ◌++◌, ◌∷◌, ◌+◌, ◌<◌, ◌≤◌, [], List, length, refl, sym, ap}
use Rattle.std.proofs.Common.{arith, inl, inr, cond}
use Rattle.std.specs.Prelude.{◌==◌}
use Rattle.std.proofs.lemmas.Bool.{cases_lt, eq-eqb}
use Rattle.std.proofs.lemmas.List.{append_assoc, length-append}
use Rattle.std.proofs.lemmas.List.Elements.{filter-append}
use Rattle.credit_ledger.specs.declared.view.Step.{Step}
use Rattle.credit_ledger.specs.Seats.{StartsWith, seat_calls}
use Rattle.credit_ledger.proofs.ExtendsLemmas.{starts-go_on}
use Rattle.scripts.specs.Parts.{EndsWithCall, HasKnown, IsKnownTo}

-- ---- two beginnings of one history

-- the shorter one begins the longer one
shorter_first : (history one other : List Step) → StartsWith history one → StartsWith history other
    → length one ≤ length other → StartsWith other one
shorter_first history one other (rest, is) (more, also) low = by one other rest more (sym is ∙ also) low
  where
    tail_of : List Step → List Step
    tail_of [] = []
    tail_of (x ∷ xs) = xs

    head_is : (x y : Step) (xs ys : List Step) → x ∷ xs ≡ y ∷ ys → x ≡ y
    head_is x y xs ys same = cc

    by : (one other rest more : List Step) → one ++ rest ≡ other ++ more → length one ≤ length other
        → StartsWith other one
    by [] other rest more same low = (other, refl)
    by (x ∷ one) [] rest more same low = absurd (omega (arith, low))
    by (x ∷ one) (y ∷ other) rest more same low =
        let (z, next) = by one other rest more (ap tail_of same) (omega (arith, low)) in
        (z, ap (λ l. y ∷ l) next ∙ sym (ap (λ h. h ∷ (one ++ z)) (head_is x y _ _ same)))

-- the calls of a seat are no fewer in the longer one
calls_grow : (seat : ℕ) (history first : List Step) → StartsWith history first
    → length (seat_calls seat first) ≤ length (seat_calls seat history)
calls_grow seat history first (more, is) =
    let whole =
    ap (λ h. length (seat_calls seat h)) is
    ∙ ap length (filter-append (λ (s : Step). s.seat == seat) first more)
    ∙ length-append (seat_calls seat first) (seat_calls seat more) in
    omega (arith, whole)

-- a beginning that is shorter than one which ends with a call of the seat has fewer calls of it
fewer_calls : (seat : ℕ) (first last : List Step) → EndsWithCall seat last → StartsWith last first
    → length first < length last → length (seat_calls seat first) < length (seat_calls seat last)
fewer_calls seat first last ends starts less =
    let call = ends.call in
    let whole : length last ≡ length ends.before + 1 =
    ap length ends.is ∙ length-append ends.before (call ∷ []) in
    let begins =
    shorter_first last first ends.before starts (call ∷ [], ends.is) (omega (arith, whole, less)) in
    let grow = calls_grow seat ends.before first begins in
    let counted : length (seat_calls seat last) ≡ length (seat_calls seat ends.before) + 1 =
    ap (λ h. length (seat_calls seat h)) ends.is
    ∙ ap length (filter-append (λ (s : Step). s.seat == seat) ends.before (call ∷ []))
    ∙ length-append (seat_calls seat ends.before) (seat_calls seat (call ∷ []))
    ∙ ap (λ n. length (seat_calls seat ends.before) + n) (one seat call ends.of_seat) in
    omega (arith, grow, counted)
  where
    one : (seat : ℕ) (call : Step) → call.seat ≡ seat → length (seat_calls seat (call ∷ [])) ≡ 1
    one seat call is = ap (λ b. length (cond b (call ∷ []) [])) (eq-eqb call.seat seat is)

-- ---- what is known to others

-- who has seen so many calls of a seat, with a length, knows at least what the seat knew after them
pub known_below : (history mine other : List Step) (seat count low high : ℕ) → StartsWith history mine
    → StartsWith history other → HasKnown mine seat count low → IsKnownTo other seat count high → low ≤ high
known_below history mine other seat count low high in_mine in_other known to =
    elim (cases_lt (length to.moment) (length known.moment)) [
      | inl less ↦ elim known.ends [
        | inl none ↦ absurd (omega (arith, less, ap length none))
        | inr ends ↦
            let begins = shorter_first history to.moment known.moment theirs own (omega (arith, less)) in
            let fewer = fewer_calls seat to.moment known.moment ends begins less in
            absurd (omega (arith, fewer, known.calls, to.calls))
      ]
      | inr long ↦
          let begins = shorter_first history known.moment to.moment own theirs long in
          let grown = starts-go_on to.moment known.moment begins in
          omega (arith, known.low, grown.length_kept, to.high)
    ]
  where
    through : (first : List Step) (rest : List Step) → StartsWith history rest → StartsWith rest first
        → StartsWith history first
    through first rest (more, is) (other, also) =
        (other ++ more, is ∙ ap (λ l. l ++ more) also ∙ append_assoc first other more)

    own : StartsWith history known.moment
    own = through known.moment mine in_mine known.begins

    theirs : StartsWith history to.moment
    theirs = through to.moment other in_other to.begins

-- what was seen is seen later too
pub known_later : (seen later : List Step) (seat count low : ℕ) → StartsWith later seen
    → HasKnown seen seat count low → HasKnown later seat count low
known_later seen later seat count low (more, is) known = record {
  moment = known.moment;
  begins = (
    known.begins.0 ++ more,
    is ∙ ap (λ l. l ++ more) known.begins.1 ∙ append_assoc known.moment known.begins.0 more,
  );
  calls = known.calls;
  ends = known.ends;
  low = known.low;
}

pub known_to_later : (seen later : List Step) (seat count high : ℕ) → StartsWith later seen
    → IsKnownTo seen seat count high → IsKnownTo later seat count high
known_to_later seen later seat count high (more, is) to = record {
  moment = to.moment;
  begins = (
    to.begins.0 ++ more,
    is ∙ ap (λ l. l ++ more) to.begins.1 ∙ append_assoc to.moment to.begins.0 more,
  );
  calls = to.calls;
  high = to.high;
}
