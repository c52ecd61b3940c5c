-- When all members of a team are among the first records.
use Rattle.std.proofs.Common.{◌≡◌, ◌≢◌, ◌∙◌, ℕ, zero, suc, ◌<◌, ◌≤◌, ◌+◌, ◌-◌, List, [], ◌∷◌, ◌++◌}
use Rattle.std.proofs.Common.{length, Option}
use Rattle.std.proofs.Common.{Some, None, Bool, true, false, cond, refl, sym, ap, subst, arith, inl, inr, map}
use Rattle.std.proofs.Common.{eqb}
use Rattle.std.specs.Prelude.{◌==◌, Contains}
use Rattle.std.specs.List.{list_any, IsDistinct}
use Rattle.std.proofs.lemmas.Bool.{cases_eq, cases_lt, eqb-true}
use Rattle.std.proofs.lemmas.Cmp.{nat_eq_equiv}
use Rattle.std.proofs.lemmas.Option.{same_Some}
use Rattle.std.proofs.lemmas.List.{append-nil, map-append, length-map, length-append, length_push}
use Rattle.std.proofs.lemmas.List.{nil_from_length}
use Rattle.std.proofs.lemmas.List.Elements.{Contains-append_right, Contains-append_left, Contains-push}
use Rattle.std.proofs.lemmas.Map.Keys.{IsDistinct-push}
use Rattle.std.proofs.lemmas.Map.Views.{Contains-from_any}
use Rattle.std.proofs.lemmas.Map.Steps.{length-le_from_distinct_below}
use Rattle.ompt_events.specs.declared.records.Record.{Record}
use Rattle.ompt_events.specs.declared.records.Membership.{Membership}
use Rattle.ompt_events.specs.Records.{joined}
use Rattle.ompt_events.specs.Places.{at}
use Rattle.ompt_events.specs.Teams.{members, members_before, IsTeammate, alone, together}
use Rattle.ompt_events.specs.declared.cause.Cause.TheVariants.{TeamShort}
use Rattle.ompt_events.specs.Causes as causes
use Rattle.ompt_events.specs.Causes.{IsFreeOf, team_short}
use Rattle.online.specs.Online.{HasWholeTeam}
use Rattle.online.specs.declared.rosters.Rosters.{Rosters}
use Rattle.online.specs.Rosters.{AreWhole, AreRostersOf, outside, same_index, other_size, few}
use Rattle.online.specs.Teams.{FindsRoom}
use Rattle.online.proofs.OpenGroupLemmas.{at_last}
use Rattle.online.proofs.PhaseLemmas.{members_join}
use Rattle.online.proofs.ReadLemmas.{same_append}
use Rattle.online.proofs.NameLemmas.{IsRead, IsMadeBelow, initial_same, whole_long}
use Rattle.online.proofs.TeamLemmas.{member_place, place_member, added, members_more, members_same}
use Rattle.online.proofs.TeamLemmas.{members_grow, member_back}

-- no team lacks a member where no record has the cause
pub whole_of_free : (rs : List Record) → IsFreeOf rs TeamShort → AreWhole rs
whole_of_free rs free i (outside m says high) = free i (team_short (causes.outside m says high))
whole_of_free rs free i (same_index m e says among same) =
    free i (team_short (causes.same_index m e says among same))
whole_of_free rs free i (other_size m e says among differ) =
    free i (team_short (causes.other_size m e says among differ))
whole_of_free rs free i (few m says less) = free i (team_short (causes.few m says less))

-- each member may begin where it does
pub record AreFitting (rs : List Record) : Type 0 where
  pub inside : (i : ℕ) (m : Membership) → at joined rs i ≡ Some m → m.index < m.actual
  pub own_index : (i : ℕ) (m e : Membership) → at joined rs i ≡ Some m
      → Contains (members_before rs m.parallel i) e → e.index ≢ m.index
  pub same_size : (i : ℕ) (m e : Membership) → at joined rs i ≡ Some m
      → Contains (members_before rs m.parallel i) e → e.actual ≡ m.actual

whole_fits : (rs : List Record) → AreWhole rs → AreFitting rs
whole_fits rs free = record {
  inside = λ i m joins. elim (cases_lt m.index m.actual) [
    | inl less ↦ less
    | inr past ↦ absurd (free i (outside m joins past))
  ];
  own_index = λ i m e joins among same. free i (same_index m e joins among same);
  same_size = λ i m e joins among. elim (cases_eq e.actual m.actual) [
    | inl same ↦ same
    | inr apart ↦ absurd (free i (other_size m e joins among apart))
  ];
}

rosters_fit : (rs : List Record) (kept : Rosters) → AreRostersOf rs kept → AreFitting rs
rosters_fit rs kept is = record {
  inside = is.inside;
  own_index = is.own_index;
  same_size = is.same_size;
}

-- ---- the numbers of members

index_of : Membership → ℕ
index_of m = m.index

numbers : List Membership → List ℕ
numbers ms = map index_of ms

numbered : (ms : List Membership) (number : ℕ) → Contains (numbers ms) number
    → (m : Membership) × Contains ms m × (m.index ≡ number)
unfolding numbers index_of
numbered [] number (k, low, is) = absurd (omega (arith, low))
numbered (m ∷ ms) number (zero, low, is) = (m, (0, omega arith, refl), is)
numbered (m ∷ ms) number (suc k, low, is) =
    let found = numbered ms number (k, omega (arith, low), is) in
    (found.0, Contains-append_right (m ∷ []) ms found.0 found.1, found.2)

-- where no team lacks a member, no two members of a team have one number
numbers_apart : (rs : List Record) → AreFitting rs → (parallel n : ℕ)
    → IsDistinct eqb (numbers (members_before rs parallel n))
unfolding numbers index_of IsDistinct
numbers_apart rs fits parallel zero = tt
numbers_apart rs fits parallel (suc n) =
    let next : suc n ≡ n + 1 = omega arith in
    subst (λ l. IsDistinct eqb (numbers l))
    (sym (ap (members_before rs parallel) next ∙ members_more rs parallel n))
    (of (at joined rs n) refl (numbers_apart rs fits parallel n))
  where
    new : (m : Membership) → at joined rs n ≡ Some m → m.parallel ≡ parallel → (b : Bool)
        → list_any (eqb m.index) (numbers (members_before rs parallel n)) ≡ b
        → list_any (eqb m.index) (numbers (members_before rs parallel n)) ≡ false
    new m joins is false none = none
    new m joins is true some =
        let found =
        numbered (members_before rs parallel n) m.index
        (Contains-from_any eqb-true m.index (numbers (members_before rs parallel n)) some) in
        let before = subst (λ p. Contains (members_before rs p n) found.0) (sym is) found.1 in
        absurd (fits.own_index n m found.0 joins before found.2)

    with : (m : Membership) → at joined rs n ≡ Some m → (b : Bool) → (m.parallel == parallel) ≡ b
        → IsDistinct eqb (numbers (members_before rs parallel n))
        → IsDistinct eqb (numbers (members_before rs parallel n ++ cond b (m ∷ []) []))
    with m joins false is apart =
        subst (λ l. IsDistinct eqb (numbers l)) (sym (append-nil (members_before rs parallel n))) apart
    with m joins true is apart =
        subst (IsDistinct eqb) (sym (map-append index_of (members_before rs parallel n) (m ∷ [])))
        (IsDistinct-push nat_eq_equiv (numbers (members_before rs parallel n)) m.index apart
        (new m joins (eqb-true m.parallel parallel is)
        (list_any (eqb m.index) (numbers (members_before rs parallel n))) refl))

    of : (o : Option Membership) → at joined rs n ≡ o
        → IsDistinct eqb (numbers (members_before rs parallel n))
        → IsDistinct eqb (numbers (members_before rs parallel n ++ added parallel o))
    of None is apart =
        subst (λ l. IsDistinct eqb (numbers l)) (sym (append-nil (members_before rs parallel n))) apart
    of (Some m) is apart = with m is (m.parallel == parallel) refl apart

-- and all of them name the same size
size_there : (rs : List Record) → AreFitting rs → (parallel i j : ℕ) (m e : Membership) → i < j
    → at joined rs i ≡ Some e → at joined rs j ≡ Some m → e.parallel ≡ parallel → m.parallel ≡ parallel
    → e.actual ≡ m.actual
size_there rs fits parallel i j m e earlier first second in_first in_second =
    fits.same_size j m e second
    (place_member rs m.parallel j e (record {
      place = i;
      before = earlier;
      joins = first;
      same = in_first ∙ sym in_second;
    }))

size_same : (rs : List Record) → AreFitting rs → (parallel : ℕ) (m e : Membership)
    → Contains (members rs parallel) m → Contains (members rs parallel) e → e.actual ≡ m.actual
size_same rs fits parallel m e has has' =
    let first = member_place rs parallel (length rs) e has' in
    let second = member_place rs parallel (length rs) m has in
    elim (cases_lt first.place second.place) [
      | inl less ↦
          size_there rs fits parallel first.place second.place m e less first.joins second.joins first.same
          second.same
      | inr most ↦ elim (cases_lt second.place first.place) [
        | inl less ↦
            sym
            (size_there rs fits parallel second.place first.place e m less second.joins first.joins
            second.same first.same)
        | inr least ↦
            let place : first.place ≡ second.place = omega (arith, most, least) in
            ap (λ (x : Membership). x.actual)
            (same_Some e m (sym first.joins ∙ ap (at joined rs) place ∙ second.joins))
      ]
    ]

-- so a team has no more members than its size
team_small : (rs : List Record) → AreFitting rs → (parallel : ℕ) (m : Membership)
    → Contains (members rs parallel) m → length (members rs parallel) ≤ m.actual
unfolding numbers index_of
team_small rs fits parallel m has =
    let most =
    length-le_from_distinct_below (numbers (members rs parallel)) m.actual
    (numbers_apart rs fits parallel (length rs)) below in
    let count = length-map (members rs parallel) index_of in
    omega (arith, most, count)
  where
    below : (number : ℕ) → list_any (eqb number) (numbers (members rs parallel)) ≡ true → number < m.actual
    below number some =
        let found =
        numbered (members rs parallel) number
        (Contains-from_any eqb-true number (numbers (members rs parallel)) some) in
        let e = found.0 in
        let size = size_same rs fits parallel m e has found.1 in
        let is = found.2 in
        let there = member_place rs parallel (length rs) e found.1 in
        let less = fits.inside there.place e there.joins in
        omega (arith, size, is, less)

-- ---- a member that begins

-- by rosters that are right with it, it finds room in its team
pub finds_room : (rs : List Record) (r : Record) (kept : Rosters) → AreRostersOf (rs ++ r ∷ []) kept
    → FindsRoom rs r
finds_room rs r kept is = record {
  fewer = λ m joins.
      let here = members_join rs r m joins in
      let among : Contains (members (rs ++ r ∷ []) m.parallel) m =
      subst (λ l. Contains l m) (sym here) (Contains-push (members rs m.parallel) m) in
      let few =
      team_small (rs ++ r ∷ []) (rosters_fit (rs ++ r ∷ []) kept is) m.parallel m among in
      let count = ap length here ∙ length_push (members rs m.parallel) m in
      omega (arith, few, count);
  same = λ m e joins has.
      let before : members_before (rs ++ r ∷ []) m.parallel (length rs) ≡ members rs m.parallel =
      members_same (length rs) (rs ++ r ∷ []) rs (same_append rs (r ∷ [])) m.parallel (length rs)
      (omega arith) in
      is.same_size (length rs) m e (at_last joined rs r ∙ joins)
      (subst (λ l. Contains l e) (sym before) has);
}

-- ---- a team that is whole among the first records

pub members_whole : (before after : List Record) → AreWhole (before ++ after) → (parallel : ℕ)
    (m : Membership)
    → Contains (members before parallel) m → m.actual ≤ length (members before parallel)
    → members (before ++ after) parallel ≡ members before parallel
members_whole before after free parallel m has many =
    let long = whole_long before after in
    let rest : length before + (length (before ++ after) - length before) ≡ length (before ++ after) =
    omega (arith, long) in
    let grown =
    members_grow (before ++ after) parallel (length before) (length (before ++ after) - length before) in
    let all : members (before ++ after) parallel ≡ members before parallel ++ grown.0 =
    sym (ap (members_before (before ++ after) parallel) rest) ∙ grown.1
    ∙ ap (λ l. l ++ grown.0)
    (members_same (length before) (before ++ after) before (same_append before after) parallel (length before)
    (omega arith)) in
    let among : Contains (members (before ++ after) parallel) m =
    subst (λ l. Contains l m) (sym all) (Contains-append_left (members before parallel) grown.0 m has) in
    let few = team_small (before ++ after) (whole_fits (before ++ after) free) parallel m among in
    let sum = ap length all ∙ length-append (members before parallel) grown.0 in
    let none : grown.0 ≡ [] = nil_from_length grown.0 (omega (arith, few, sum, many)) in
    all ∙ ap (λ l. members before parallel ++ l) none ∙ append-nil (members before parallel)

-- the teammates of a task that one of them makes are then teammates there
pub mates_whole : (before after : List Record) → AreWhole (before ++ after)
    → IsRead (length before) (before ++ after) → (own member : ℕ)
    → IsMadeBelow (length before) (before ++ after) own → HasWholeTeam before own
    → IsTeammate (before ++ after) own member → IsTeammate before own member
mates_whole before after free read own _ below whole (alone initial) =
    alone
    (initial_same (length before) (before ++ after) before (same_append before after) read own below initial)
mates_whole before after free read own _ below whole (together parallel mine m has is among) =
    let here =
    member_back (length before) (before ++ after) before (same_append before after) read refl parallel mine
    (subst (IsMadeBelow (length before) (before ++ after)) (sym is) below) has in
    together parallel mine m here is
    (subst (λ l. Contains l m)
    (members_whole before after free parallel mine here (whole parallel mine here is)) among)
