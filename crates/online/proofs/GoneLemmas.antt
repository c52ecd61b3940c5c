-- Which members of a team have ended, and how many.
use Rattle.std.proofs.Common.{◌≡◌, ◌∙◌, ℕ, zero, suc, ◌≤◌, ◌+◌, Bool, true, false, cond, List, []}
use Rattle.std.proofs.Common.{◌∷◌, ◌++◌, length, Option, Some, None, refl, sym, ap, subst, arith, inr}
use Rattle.std.specs.Prelude.{◌==◌, ◌||◌, slice_get, filter, Contains}
use Rattle.std.specs.Option.{option_map_or}
use Rattle.std.proofs.lemmas.Bool.{eq-eqb, eqb-true, false≢true}
use Rattle.std.proofs.lemmas.List.{length-append}
use Rattle.std.proofs.lemmas.List.Elements.{filter-append}
use Rattle.std.proofs.lemmas.List.Folds.{list_any-append}
use Rattle.std.proofs.lemmas.Option.{none-some, same_Some}
use Rattle.ompt_events.specs.declared.records.Record.{Record}
use Rattle.ompt_events.specs.declared.records.Membership.{Membership}
use Rattle.ompt_events.specs.Records.{ended_root}
use Rattle.ompt_events.specs.Places.{at}
use Rattle.ompt_events.specs.Teams.{members}
use Rattle.ompt_events.proofs.ListLemmas.{contains_get}
use Rattle.online.specs.Waits.{IsOver}
use Rattle.online.specs.Teams.{ends_task, is_gone, gone_of, IsTeamOver}

-- ---- a task that has ended

ended_by : (r : Record) (task : ℕ) → ends_task task r ≡ true → ended_root r.body ≡ Some task
ended_by r task ends = of (ended_root r.body) ends
  where
    of : (o : Option ℕ) → option_map_or (λ t. t == task) o false ≡ true → o ≡ Some task
    of None e = absurd (false≢true e)
    of (Some t) e = ap Some (eqb-true t task e)

-- there is the record that ended it
pub gone_at : (rs : List Record) (task : ℕ) → is_gone rs task ≡ true
    → (k : ℕ) × (at ended_root rs k ≡ Some task)
gone_at [] task gone = absurd (false≢true gone)
gone_at (r ∷ rs) task gone = of (ends_task task r) refl gone (λ rest. gone_at rs task rest)
  where
    of : (b : Bool) → ends_task task r ≡ b → (b || is_gone rs task) ≡ true
        → (is_gone rs task ≡ true → (k : ℕ) × (at ended_root rs k ≡ Some task))
        → (k : ℕ) × (at ended_root (r ∷ rs) k ≡ Some task)
    of true e some next = (0, ended_by r task e)
    of false e some next = let (k, says) = next some in (suc k, says)

pub gone_over : (rs : List Record) (task : ℕ) → is_gone rs task ≡ true → IsOver rs task
gone_over rs task gone = inr (gone_at rs task gone)

pub gone_grows : (rs : List Record) (r : Record) (task : ℕ) → is_gone rs task ≡ true
    → is_gone (rs ++ r ∷ []) task ≡ true
gone_grows rs r task gone =
    list_any-append (ends_task task) rs (r ∷ []) ∙ ap (λ b. b || is_gone (r ∷ []) task) gone

-- the new record ends it
pub gone_last : (rs : List Record) (r : Record) (task : ℕ) → ended_root r.body ≡ Some task
    → is_gone (rs ++ r ∷ []) task ≡ true
gone_last rs r task ends =
    list_any-append (ends_task task) rs (r ∷ []) ∙ ap (λ b. is_gone rs task || (b || false)) here
    ∙ either (is_gone rs task)
  where
    here : ends_task task r ≡ true
    here = ap (λ o. option_map_or (λ t. t == task) o false) ends ∙ eq-eqb task task refl

    either : (b : Bool) → (b || true) ≡ true
    either true = refl
    either false = refl

-- ---- how many members pass a test

pub count_of : (Membership → Bool) → List Membership → ℕ
count_of p ms = length (filter p ms)

count_next : (p : Membership → Bool) (m : Membership) (ms : List Membership) (b : Bool) → p m ≡ b
    → count_of p (m ∷ ms) ≡ (cond b 1 0) + count_of p ms
unfolding count_of
count_next p m ms true is =
    let e : length (m ∷ filter p ms) ≡ 1 + length (filter p ms) = omega arith in
    ap (λ b. length (cond b (m ∷ filter p ms) (filter p ms))) is ∙ e
count_next p m ms false is =
    let e : length (filter p ms) ≡ 0 + length (filter p ms) = omega arith in
    ap (λ b. length (cond b (m ∷ filter p ms) (filter p ms))) is ∙ e

count_most : (p : Membership → Bool) (ms : List Membership) → count_of p ms ≤ length ms
unfolding count_of
count_most p [] = omega arith
count_most p (m ∷ ms) = of (p m) refl (count_most p ms)
  where
    of : (b : Bool) → p m ≡ b → count_of p ms ≤ length ms → count_of p (m ∷ ms) ≤ length (m ∷ ms)
    of true is rest = let e = count_next p m ms true is in omega (arith, e, rest)
    of false is rest = let e = count_next p m ms false is in omega (arith, e, rest)

-- where as many pass as there are, all do
count_all : (p : Membership → Bool) (ms : List Membership) → length ms ≤ count_of p ms → (m : Membership)
    (k : ℕ) → slice_get ms k ≡ Some m → p m ≡ true
count_all p [] all m k at_k = absurd (none-some m at_k)
count_all p (e ∷ ms) all m k at_k = of (p e) refl (λ less j there. count_all p ms less m j there) k at_k
  where
    of : (b : Bool) → p e ≡ b
        → (length ms ≤ count_of p ms → (j : ℕ) → slice_get ms j ≡ Some m → p m ≡ true)
        → (j : ℕ) → slice_get (e ∷ ms) j ≡ Some m → p m ≡ true
    of true is next zero here = ap p (sym (same_Some e m here)) ∙ is
    of true is next (suc j) there =
        let c = count_next p e ms true is in next (omega (arith, all, c)) j there
    of false is next j there =
        let c = count_next p e ms false is in
        let most = count_most p ms in
        absurd (omega (arith, all, c, most))

-- where no fewer pass
count_rises : (p q : Membership → Bool) → ((m : Membership) → p m ≡ true → q m ≡ true)
    → (ms : List Membership) → count_of p ms ≤ count_of q ms
unfolding count_of
count_rises p q more [] = omega arith
count_rises p q more (m ∷ ms) = of (p m) (q m) refl refl (count_rises p q more ms)
  where
    of : (b c : Bool) → p m ≡ b → q m ≡ c → count_of p ms ≤ count_of q ms
        → count_of p (m ∷ ms) ≤ count_of q (m ∷ ms)
    of true true is then rest =
        let e = count_next p m ms true is in
        let f = count_next q m ms true then in omega (arith, e, f, rest)
    of true false is then rest = absurd (false≢true (sym then ∙ more m is))
    of false true is then rest =
        let e = count_next p m ms false is in
        let f = count_next q m ms true then in omega (arith, e, f, rest)
    of false false is then rest =
        let e = count_next p m ms false is in
        let f = count_next q m ms false then in omega (arith, e, f, rest)

-- and one more does
count_more : (p q : Membership → Bool) → ((m : Membership) → p m ≡ true → q m ≡ true)
    → (ms : List Membership) (m : Membership) (k : ℕ) → slice_get ms k ≡ Some m → p m ≡ false → q m ≡ true
    → count_of p ms + 1 ≤ count_of q ms
count_more p q more [] m k at_k was now = absurd (none-some m at_k)
count_more p q more (e ∷ ms) m zero at_k was now =
    let same : e ≡ m = same_Some e m at_k in
    let c = count_next p e ms false (ap p same ∙ was) in
    let d = count_next q e ms true (ap q same ∙ now) in
    let rest = count_rises p q more ms in
    omega (arith, c, d, rest)
count_more p q more (e ∷ ms) m (suc k) at_k was now =
    of (p e) (q e) refl refl (count_more p q more ms m k at_k was now)
  where
    of : (b c : Bool) → p e ≡ b → q e ≡ c → count_of p ms + 1 ≤ count_of q ms
        → count_of p (e ∷ ms) + 1 ≤ count_of q (e ∷ ms)
    of true true is then rest =
        let f = count_next p e ms true is in
        let g = count_next q e ms true then in omega (arith, f, g, rest)
    of true false is then rest = absurd (false≢true (sym then ∙ more e is))
    of false true is then rest =
        let f = count_next p e ms false is in
        let g = count_next q e ms true then in omega (arith, f, g, rest)
    of false false is then rest =
        let f = count_next p e ms false is in
        let g = count_next q e ms false then in omega (arith, f, g, rest)

-- ---- how many members have ended

-- what ended by the first records, ended by all
abbrev pub StaysGone : List Record → List Record → Type 0
StaysGone rs more = (task : ℕ) → is_gone rs task ≡ true → is_gone more task ≡ true

pub gone_rises : (rs more : List Record) → StaysGone rs more → (ms : List Membership)
    → gone_of rs ms ≤ gone_of more ms
unfolding count_of
gone_rises rs more stays ms =
    count_rises (λ (m : Membership). is_gone rs m.member) (λ (m : Membership). is_gone more m.member)
    (λ m gone. stays m.member gone) ms

pub gone_push : (rs : List Record) (ms : List Membership) (m : Membership)
    → gone_of rs ms ≤ gone_of rs (ms ++ m ∷ [])
gone_push rs ms m =
    let p : Membership → Bool = λ x. is_gone rs x.member in
    let e = ap length (filter-append p ms (m ∷ [])) in
    let f = length-append (filter p ms) (filter p (m ∷ [])) in
    omega (arith, e, f)

-- one member more has ended
pub gone_more : (rs more : List Record) → StaysGone rs more → (ms : List Membership) (m : Membership)
    → Contains ms m → is_gone rs m.member ≡ false → is_gone more m.member ≡ true
    → gone_of rs ms + 1 ≤ gone_of more ms
unfolding count_of
gone_more rs more stays ms m has was now =
    let (k, there) = contains_get ms m has in
    count_more (λ (x : Membership). is_gone rs x.member) (λ (x : Membership). is_gone more x.member)
    (λ x gone. stays x.member gone) ms m k there was now

-- where as many have ended as there are members, each has
pub gone_all : (rs : List Record) (ms : List Membership) → length ms ≤ gone_of rs ms → (m : Membership)
    → Contains ms m → is_gone rs m.member ≡ true
unfolding count_of
gone_all rs ms all m has =
    let (k, there) = contains_get ms m has in
    count_all (λ (x : Membership). is_gone rs x.member) ms all m k there

pub gone_few : (rs : List Record) (ms : List Membership) → gone_of rs ms ≤ length ms
unfolding count_of
gone_few rs ms = count_most (λ (x : Membership). is_gone rs x.member) ms

-- ---- a team that is over

pub team_over_moves : (rs more : List Record) (parallel : ℕ) → StaysGone rs more
    → members more parallel ≡ members rs parallel → IsTeamOver rs parallel → IsTeamOver more parallel
team_over_moves rs more parallel stays same is = record {
  whole = λ m has.
      let e = ap length same in
      let h = is.whole m (subst (λ ms. Contains ms m) same has) in
      omega (arith, e, h);
  ended = λ m has. stays m.member (is.ended m (subst (λ ms. Contains ms m) same has));
}
