-- The members of teams among the first records.
use Rattle.std.proofs.Common.{◌≡◌, ◌∙◌, ℕ, zero, suc, ◌<◌, ◌≤◌, ◌+◌, List, [], ◌∷◌, ◌++◌, length, Option}
use Rattle.std.proofs.Common.{Some, None, refl, sym, ap, subst, arith, inl, inr}
use Rattle.std.specs.Prelude.{◌==◌, filter, Contains}
use Rattle.std.specs.List.{filter_map, cons_option, range_with_len}
use Rattle.std.proofs.lemmas.Bool.{cases_lt, eq-eqb, eqb-true}
use Rattle.std.proofs.lemmas.Option.{none-some, same_Some}
use Rattle.std.proofs.lemmas.List.{append-nil, append_assoc}
use Rattle.std.proofs.lemmas.List.Elements.{filter-append, filter_map-append, Contains-append_left}
use Rattle.std.proofs.lemmas.List.Elements.{Contains-append_right, Contains-append_cases}
use Rattle.ompt_events.specs.declared.records.Record.{Record}
use Rattle.ompt_events.specs.declared.records.Membership.{Membership}
use Rattle.ompt_events.specs.Records.{made, joined, begun_initial}
use Rattle.ompt_events.specs.Places.{at}
use Rattle.ompt_events.specs.Teams.{members, members_before, IsTeammate, alone, together}
use Rattle.ompt_events.proofs.PlaceLemmas.{range_more, at_within, Contains-filter}
use Rattle.ompt_events.proofs.RecordLemmas.{at_through, member_made}
use Rattle.online.proofs.ReadLemmas.{IsSameTo, at_same}
use Rattle.online.proofs.NameLemmas.{IsRead, IsMadeBelow, made_low, initial_same}
use Rattle.online.proofs.BarrierLemmas.{filter_from}

-- ---- the records that make members

-- the member begins before the place
pub record IsMemberBefore (rs : List Record) (parallel n : ℕ) (m : Membership) : Type 0 where
  pub place : ℕ
  pub before : place < n
  pub joins : at joined rs place ≡ Some m
  pub same : m.parallel ≡ parallel

-- what the records before n say of members
joined_before : List Record → ℕ → List Membership
joined_before rs n = filter_map (at joined rs) (range_with_len 0 n)

joined_more : (rs : List Record) (n : ℕ)
    → joined_before rs (n + 1) ≡ joined_before rs n ++ cons_option (at joined rs n) []
unfolding joined_before
joined_more rs n =
    ap (filter_map (at joined rs)) (range_more n)
    ∙ filter_map-append (at joined rs) (range_with_len 0 n) (n ∷ [])

in_option : (o : Option Membership) (m : Membership) → o ≡ Some m → Contains (cons_option o []) m
in_option None m is = absurd (none-some m is)
in_option (Some x) m is = (0, omega arith, same_Some x m is)

option_in : (o : Option Membership) (m : Membership) → Contains (cons_option o []) m → o ≡ Some m
option_in None m (k, low, is) = absurd (omega (arith, low))
option_in (Some x) m (zero, low, is) = ap Some is
option_in (Some x) m (suc k, low, is) = absurd (omega (arith, low))

joined_there : (rs : List Record) (n : ℕ) (m : Membership) → Contains (joined_before rs n) m
    → (k : ℕ) × (k < n) × (at joined rs k ≡ Some m)
unfolding joined_before
joined_there rs zero m (k, low, is) = absurd (omega (arith, low))
joined_there rs (suc n) m has =
    let next : suc n ≡ n + 1 = omega arith in
    elim
    (Contains-append_cases (joined_before rs n) (cons_option (at joined rs n) []) m
    (subst (λ l. Contains l m) (ap (joined_before rs) next ∙ joined_more rs n) has)) [
      | inl old ↦
          let found = joined_there rs n m old in
          let low = found.1 in
          (found.0, omega (arith, low), found.2)
      | inr last ↦ (n, omega arith, option_in (at joined rs n) m last)
    ]

there_joined : (rs : List Record) (n k : ℕ) (m : Membership) → k < n → at joined rs k ≡ Some m
    → Contains (joined_before rs n) m
there_joined rs zero k m low joins = absurd (omega (arith, low))
there_joined rs (suc n) k m low joins =
    let next : suc n ≡ n + 1 = omega arith in
    subst (λ l. Contains l m) (sym (ap (joined_before rs) next ∙ joined_more rs n))
    (elim (cases_lt k n) [
      | inl less ↦
          Contains-append_left (joined_before rs n) (cons_option (at joined rs n) []) m
          (there_joined rs n k m less joins)
      | inr past ↦
          let is : k ≡ n = omega (arith, low, past) in
          Contains-append_right (joined_before rs n) (cons_option (at joined rs n) []) m
          (in_option (at joined rs n) m (ap (at joined rs) (sym is) ∙ joins))
    ])

pub member_place : (rs : List Record) (parallel n : ℕ) (m : Membership)
    → Contains (members_before rs parallel n) m → IsMemberBefore rs parallel n m
unfolding joined_before
member_place rs parallel n m has =
    let from = filter_from (λ (x : Membership). x.parallel == parallel) (joined_before rs n) m has in
    let found = joined_there rs n m from.0 in
    record {
      place = found.0;
      before = found.1;
      joins = found.2;
      same = eqb-true m.parallel parallel from.1;
    }

pub place_member : (rs : List Record) (parallel n : ℕ) (m : Membership) → IsMemberBefore rs parallel n m
    → Contains (members_before rs parallel n) m
unfolding joined_before
place_member rs parallel n m is =
    Contains-filter (λ (x : Membership). x.parallel == parallel) (joined_before rs n) m
    (there_joined rs n is.place m is.before is.joins) (eq-eqb m.parallel parallel is.same)

-- ---- one more record

-- what a record adds to the members of a team
abbrev pub added : ℕ → Option Membership → List Membership
added parallel says = filter (λ (m : Membership). m.parallel == parallel) (cons_option says [])

pub members_more : (rs : List Record) (parallel n : ℕ)
    → members_before rs parallel (n + 1) ≡ members_before rs parallel n ++ added parallel (at joined rs n)
members_more rs parallel n =
    ap (λ l. filter (λ (m : Membership). m.parallel == parallel) (filter_map (at joined rs) l)) (range_more n)
    ∙ ap (filter (λ (m : Membership). m.parallel == parallel))
    (filter_map-append (at joined rs) (range_with_len 0 n) (n ∷ []))
    ∙ filter-append (λ (m : Membership). m.parallel == parallel)
    (filter_map (at joined rs) (range_with_len 0 n)) (cons_option (at joined rs n) [])

pub members_same : (n : ℕ) (xs ys : List Record) → IsSameTo n xs ys → (parallel i : ℕ) → i ≤ n
    → members_before xs parallel i ≡ members_before ys parallel i
members_same n xs ys same parallel zero most = refl
members_same n xs ys same parallel (suc i) most =
    let next : suc i ≡ i + 1 = omega arith in
    ap (members_before xs parallel) next ∙ members_more xs parallel i
    ∙ ap (λ l. l ++ added parallel (at joined xs i))
    (members_same n xs ys same parallel i (omega (arith, most)))
    ∙ ap (λ o. members_before ys parallel i ++ added parallel o)
    (at_same joined n xs ys same i (omega (arith, most)))
    ∙ sym (members_more ys parallel i) ∙ ap (members_before ys parallel) (sym next)

-- the members before n come first
pub members_grow : (rs : List Record) (parallel n more : ℕ)
    → (rest : List Membership)
    × (members_before rs parallel (n + more) ≡ members_before rs parallel n ++ rest)
members_grow rs parallel n zero =
    let same : n + zero ≡ n = omega arith in
    ([], ap (members_before rs parallel) same ∙ sym (append-nil (members_before rs parallel n)))
members_grow rs parallel n (suc more) =
    let next : n + suc more ≡ n + more + 1 = omega arith in
    let grown = members_grow rs parallel n more in
    let last = added parallel (at joined rs (n + more)) in (
      grown.0 ++ last,
      ap (members_before rs parallel) next ∙ members_more rs parallel (n + more)
          ∙ ap (λ l. l ++ last) grown.1 ∙ append_assoc (members_before rs parallel n) grown.0 last,
    )

-- ---- teammates

-- a member that one of the first records makes is a member among them
pub member_back : (n : ℕ) (xs ys : List Record) → IsSameTo n xs ys → IsRead n xs → length ys ≡ n
    → (parallel : ℕ) (m : Membership) → IsMadeBelow n xs m.member → Contains (members xs parallel) m
    → Contains (members ys parallel) m
member_back n xs ys same read all parallel m below has =
    let is = member_place xs parallel (length xs) m has in
    let makes = at_through joined made m m.member xs is.place (member_made m) is.joins in
    let low = made_low n xs m.member is.place read below makes in
    place_member ys parallel (length ys) m (record {
      place = is.place;
      before = omega (arith, low, all);
      joins = sym (at_same joined n xs ys same is.place low) ∙ is.joins;
      same = is.same;
    })

pub teammate_back : (n : ℕ) (xs ys : List Record) → IsSameTo n xs ys → IsRead n xs → length ys ≡ n
    → (own member : ℕ) → IsMadeBelow n xs own → IsMadeBelow n xs member → IsTeammate xs own member
    → IsTeammate ys own member
teammate_back n xs ys same read all own _ below other (alone initial) =
    alone (initial_same n xs ys same read own below initial)
teammate_back n xs ys same read all own _ below other (together parallel mine m has is among) =
    together parallel mine m
    (member_back n xs ys same read all parallel mine (subst (IsMadeBelow n xs) (sym is) below) has) is
    (member_back n xs ys same read all parallel m other among)

member_stays : (n : ℕ) (xs ys : List Record) → IsSameTo n xs ys → length xs ≡ n → n ≤ length ys
    → (parallel : ℕ) (m : Membership) → Contains (members xs parallel) m → Contains (members ys parallel) m
member_stays n xs ys same all long parallel m has =
    let is = member_place xs parallel (length xs) m has in
    let before = is.before in
    let low : is.place < n = omega (arith, before, all) in
    place_member ys parallel (length ys) m (record {
      place = is.place;
      before = omega (arith, low, long);
      joins = sym (at_same joined n xs ys same is.place low) ∙ is.joins;
      same = is.same;
    })

pub teammate_stays : (n : ℕ) (xs ys : List Record) → IsSameTo n xs ys → length xs ≡ n → n ≤ length ys
    → (own member : ℕ) → IsTeammate xs own member → IsTeammate ys own member
teammate_stays n xs ys same all long own _ (alone (j, begins)) =
    let inside = at_within begun_initial xs j own begins in
    alone (j, sym (at_same begun_initial n xs ys same j (omega (arith, inside, all))) ∙ begins)
teammate_stays n xs ys same all long own _ (together parallel mine m has is among) =
    together parallel mine m (member_stays n xs ys same all long parallel mine has) is
    (member_stays n xs ys same all long parallel m among)
