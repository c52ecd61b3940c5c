-- Counts of records, one record on.
use Rattle.std.proofs.Common.{◌≡◌, ◌∙◌, ◌<◌, ◌+◌, ℕ, List, Bool, true, false, length, take, get_or, refl}
use Rattle.std.proofs.Common.{ap, arith, cond, Some, None}
use Rattle.std.proofs.lemmas.List.Sums.{count_by_more_yes, count_by_more_no}
use Rattle.std.proofs.lemmas.Option.{get_or_from_slice_get}
use Rattle.std.specs.Prelude.{count_by, is_some, option_and_then, slice_get}
use Rattle.std.specs.Int.{from_bool}
use Rattle.ompt_events.specs.declared.records.Record.{Record}
use Rattle.ompt_events.specs.declared.records.Body.{Body}
use Rattle.ompt_events.specs.Places.{at}
use Rattle.ompt_events.proofs.ListLemmas.{get_within}

-- one record more is counted where its body passes the test
pub count_one_more : (p : Body → Bool) (rs : List Record) (i n one : ℕ) (passes : Bool) → i < length rs
    → ((body : Body) → at Some rs i ≡ Some body → p body ≡ passes)
    → n ≡ count_by (λ (r : Record). p r.body) (take i rs) → one ≡ from_bool passes
    → n + one ≡ count_by (λ (r : Record). p r.body) (take (i + 1) rs)
count_one_more p rs i n one passes within tested count adds = cases passes refl
  where
    there : (r : Record) × (slice_get rs i ≡ Some r)
    there = get_within rs i within

    r : Record
    r = there.0

    q : Record → Bool
    q x = p x.body

    read : get_or rs i r ≡ r
    read = get_or_from_slice_get rs i r r there.1

    is : q (get_or rs i r) ≡ passes
    is = ap q read ∙ tested r.body (ap (option_and_then (λ (x : Record). Some x.body)) there.1)

    cases : (b : Bool) → passes ≡ b → n + one ≡ count_by q (take (i + 1) rs)
    cases true e =
        let more = count_by_more_yes q rs i r within (is ∙ e) in
        let adds_one : one ≡ 1 = adds ∙ ap from_bool e in
        omega (arith, more, count, adds_one)
    cases false e =
        let more = count_by_more_no q rs i r within (is ∙ e) in
        let adds_none : one ≡ 0 = adds ∙ ap from_bool e in
        omega (arith, more, count, adds_none)

-- whether there is something that is there in one case alone
pub is_some-cond : {X : Type 0} (b : Bool) (x : X) → is_some (cond b (Some x) None) ≡ b
is_some-cond true x = refl
is_some-cond false x = refl
