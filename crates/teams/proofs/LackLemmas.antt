-- The members that show that their team lacks a member.
use Rattle.std.proofs.Common.{◌≡◌, ◌≢◌, ◌∙◌, ℕ, ◌<◌, ◌≤◌, ◌+◌, List, [], ◌∷◌, ◌++◌, length, Option, Some}
use Rattle.std.proofs.Common.{None}
use Rattle.std.proofs.Common.{get_or, Bool, true, false, refl, sym, ap, subst, arith, inl, inr, ◌⊎◌}
use Rattle.std.proofs.lemmas.Bool.{cases_eq, cases_lt, false≢true}
use Rattle.std.proofs.lemmas.Option.{none-some, same_Some, slice_get_within, slice_get-get_or}
use Rattle.std.proofs.lemmas.List.{length_push, length-set, length-replicate}
use Rattle.std.proofs.lemmas.List.Elements.{Contains-push, Contains-push_cases, Contains-append_left}
use Rattle.std.proofs.Math.ListN.{set}
use Rattle.std.specs.Global.{Vec}
use Rattle.std.specs.Prelude.{◌↔◌, IsTrue, Contains, is_some, slice_get, replicate}
use Rattle.ompt_events.specs.declared.records.Record.{Record}
use Rattle.ompt_events.specs.declared.records.Membership.{Membership}
use Rattle.ompt_events.specs.declared.cause.Cause.TheVariants.{CreatedTwice}
use Rattle.ompt_events.specs.Records.{joined}
use Rattle.ompt_events.specs.Places.{at}
use Rattle.ompt_events.specs.Causes.{IsFreeOf, IsShort, outside, same_index, other_size, few, missed}
use Rattle.ompt_events.specs.Teams.{members, members_before}
use Rattle.ompt_events.proofs.ListLemmas.{pushed_cases}
use Rattle.index_tables.specs.Numbering.{AreApart}
use Rattle.task_tree.proofs.ChainLemmas.{replicate_get}
use Rattle.task_tree.proofs.LinkLemmas.{get_set_same, get_set_other}
use Rattle.teams.specs.Members.{IsLead}
use Rattle.teams.specs.Missed.{IsBarrierMissed}
use Rattle.teams.specs.Rosters.{AreEnrolled}
use Rattle.teams.specs.Lacks.{LacksThere, AreLacks, HasNumber, HasOtherSize, AreNumbersTaken, AreTaken}
use Rattle.teams.specs.Lacks.{AreMixed}
use Rattle.teams.specs.Lacks.{FindsTaken, IsMisfit}
use Rattle.teams.proofs.MemberLemmas.{never_of, joined_once, members_same, members_pushed, member_place}
use Rattle.teams.proofs.MemberLemmas.{place_member, lead_one, lead_other}
use Rattle.teams.proofs.ShortLemmas.{missed_joins, missed_short, short_cases}

-- ---- one member more

number_cases : (earlier : List Membership) (m : Membership) (number : ℕ)
    → HasNumber (earlier ++ m ∷ []) number
    → HasNumber earlier number ⊎ (m.index ≡ number)
number_cases earlier m number (e, has, is) = elim (Contains-push_cases earlier m e has) [
  | inl before ↦ inl (e, before, is)
  | inr last ↦ inr (ap (λ (x : Membership). x.index) last ∙ is)
]

number_later : (earlier : List Membership) (m : Membership) (number : ℕ) → HasNumber earlier number
    → HasNumber (earlier ++ m ∷ []) number
number_later earlier m number (e, has, is) = (e, Contains-append_left earlier (m ∷ []) e has, is)

size_cases : (earlier : List Membership) (m : Membership) (actual : ℕ)
    → HasOtherSize (earlier ++ m ∷ []) actual → HasOtherSize earlier actual ⊎ (m.actual ≢ actual)
size_cases earlier m actual (e, has, is) = elim (Contains-push_cases earlier m e has) [
  | inl before ↦ inl (e, before, is)
  | inr last ↦ inr (λ same. is (ap (λ (x : Membership). x.actual) (sym last) ∙ same))
]

size_later : (earlier : List Membership) (m : Membership) (actual : ℕ) → HasOtherSize earlier actual
    → HasOtherSize (earlier ++ m ∷ []) actual
size_later earlier m actual (e, has, is) = (e, Contains-append_left earlier (m ∷ []) e has, is)

-- ---- the numbers of one team

-- the member's number was free, and is now taken
numbers_put : (team earlier : List Membership) (slots : List (Option ℕ)) (m : Membership) (own : ℕ)
    → AreNumbersTaken team earlier slots → slice_get slots m.index ≡ Some None
    → AreNumbersTaken team (earlier ++ m ∷ []) (set slots m.index (Some own))
numbers_put team earlier slots m own are free = record {
  long = length-set slots m.index (Some own) ∙ are.long;
  taken = λ number index stands. elim (cases_eq number m.index) [
    | inl same ↦ (m, Contains-push earlier m, sym same)
    | inr other ↦
        number_later earlier m number
        (are.taken number index (sym (get_set_other slots m.index number (Some own) other) ∙ stands))
  ];
  free = λ number stands has. elim (cases_eq number m.index) [
    | inl same ↦
        let now = get_set_same slots m.index (Some own) (slice_get_within slots m.index None free) in
        none-some own
        (same_Some None (Some own)
        (sym stands ∙ ap (slice_get (set slots m.index (Some own))) same ∙ now))
    | inr other ↦ elim (number_cases earlier m number has) [
      | inl before ↦
          are.free number (sym (get_set_other slots m.index number (Some own) other) ∙ stands) before
      | inr here ↦ other (sym here)
    ]
  ];
}

-- the member's number was taken, or there is no slot for it
numbers_stay : (team earlier : List Membership) (slots : List (Option ℕ)) (m : Membership)
    → AreNumbersTaken team earlier slots → (slice_get slots m.index ≡ Some None → ⊥)
    → AreNumbersTaken team (earlier ++ m ∷ []) slots
numbers_stay team earlier slots m are busy = record {
  long = are.long;
  taken = λ number index stands. number_later earlier m number (are.taken number index stands);
  free = λ number stands has. elim (number_cases earlier m number has) [
    | inl before ↦ are.free number stands before
    | inr here ↦ busy (ap (slice_get slots) here ∙ stands)
  ];
}

taken_busy : (slots : List (Option ℕ)) (number : ℕ)
    → (length slots ≤ number) ⊎ ((other : ℕ) × (slice_get slots number ≡ Some (Some other)))
    → slice_get slots number ≡ Some None → ⊥
taken_busy slots number (inl past) stands =
    let inside = slice_get_within slots number None stands in omega (arith, past, inside)
taken_busy slots number (inr (other, is)) stands = none-some other
    (same_Some None (Some other) (sym stands ∙ is))

-- either way
numbers_more : (team earlier : List Membership) (old new : List (Option ℕ)) (m : Membership) (own : ℕ)
    (found : Bool)
    → AreNumbersTaken team earlier old → FindsTaken old new m.index own found
    → AreNumbersTaken team (earlier ++ m ∷ []) new
numbers_more team earlier old new m own true are (same, busy) =
    subst (AreNumbersTaken team (earlier ++ m ∷ [])) (sym same)
    (numbers_stay team earlier old m are (taken_busy old m.index busy))
numbers_more team earlier old new m own false are (free, is) =
    subst (AreNumbersTaken team (earlier ++ m ∷ [])) (sym is) (numbers_put team earlier old m own are free)

-- ---- the numbers of all teams

-- before the first record all slots are empty, but for those of initial tasks
pub taken_start : (rs : List Record) (tasks : List ℕ) (rosters : List (Vec (Option ℕ)))
    → AreEnrolled rs 0 tasks rosters → AreTaken rs 0 tasks rosters
taken_start rs tasks rosters are = record {
  leads = are.leads;
  each = λ parallel lead roster leads stands.
      let slots = are.each parallel lead roster leads stands in
      record {
        long = slots.long;
        taken =
            λ number index is.
            let slot = slots.only number index is in
            let before = slot.before in absurd (omega (arith, before));
        free =
            λ number is has.
            let place = member_place rs parallel 0 has.0 has.1 in
            let before = place.before in omega (arith, before);
      };
}

-- no member begins
pub taken_same : (rs : List Record) (n : ℕ) (tasks : List ℕ) (rosters : List (Vec (Option ℕ)))
    → at joined rs n ≡ None → AreTaken rs n tasks rosters → AreTaken rs (n + 1) tasks rosters
taken_same rs n tasks rosters none are = record {
  leads = are.leads;
  each = λ parallel lead roster leads stands.
      let P : List Membership → Type 0 = λ l. AreNumbersTaken (members rs parallel) l roster.items in
      subst P (sym (members_same rs parallel n (λ m joins same. never_of (at joined rs n) m none joins)))
      (are.each parallel lead roster leads stands);
}

-- the member of one team is none of another
other_team : (rs : List Record) (n : ℕ) (tasks : List ℕ) (m : Membership) (parallel index lead : ℕ)
    → AreApart tasks → at joined rs n ≡ Some m → IsLead rs tasks m.parallel lead
    → IsLead rs tasks parallel index → index ≢ lead
    → (e : Membership) → at joined rs n ≡ Some e → e.parallel ≡ parallel → ⊥
other_team rs n tasks m parallel index lead apart joins leads leads' different e joins' same =
    let is_m : m ≡ e = same_Some m e (sym joins ∙ joins') in
    let P : ℕ → Type 0 = λ p. IsLead rs tasks p lead in
    different
    (lead_one rs tasks parallel index lead apart leads'
    (subst P (ap (λ (x : Membership). x.parallel) is_m ∙ same) leads))

-- a member begins
pub taken_more : (rs : List Record) (n : ℕ) (tasks : List ℕ) (rosters : List (Vec (Option ℕ)))
    (m : Membership) (lead own : ℕ) (old new : Vec (Option ℕ)) (found : Bool)
    → IsFreeOf rs CreatedTwice → AreApart tasks → at joined rs n ≡ Some m → IsLead rs tasks m.parallel lead
    → AreTaken rs n tasks rosters → slice_get rosters lead ≡ Some old
    → FindsTaken old.items new.items m.index own found → AreTaken rs (n + 1) tasks (set rosters lead new)
taken_more rs n tasks rosters m lead own old new found free apart joins leads are stands_old finds = record {
  leads = λ parallel index leads'.
      let inside = are.leads parallel index leads' in
      let long = length-set rosters lead new in omega (arith, inside, long);
  each = λ parallel index roster leads' stands. elim (cases_eq index lead) [
    | inl same ↦
        let P : ℕ → Type 0 = IsLead rs tasks parallel in
        let Q : ℕ → Type 0 =
        λ p. AreNumbersTaken (members rs p) (members_before rs p (n + 1)) roster.items in
        let R : List Membership → Type 0 = λ l. AreNumbersTaken (members rs m.parallel) l roster.items in
        let S : Vec (Option ℕ) → Type 0 =
        λ v. AreNumbersTaken (members rs m.parallel) (members_before rs m.parallel n ++ m ∷ []) v.items in
        let is_parallel : m.parallel ≡ parallel =
        lead_other rs tasks m.parallel parallel lead free leads (subst P same leads') in
        let is_roster : new ≡ roster =
        same_Some new roster
        (sym (get_set_same rosters lead new (slice_get_within rosters lead old stands_old))
        ∙ ap (slice_get (set rosters lead new)) (sym same) ∙ stands) in
        subst Q is_parallel
        (subst R (sym (members_pushed rs m.parallel n m joins refl))
        (subst S is_roster
        (numbers_more (members rs m.parallel) (members_before rs m.parallel n) old.items new.items m own
        found (are.each m.parallel lead old leads stands_old) finds)))
    | inr different ↦
        let P : List Membership → Type 0 = λ l. AreNumbersTaken (members rs parallel) l roster.items in
        subst P
        (sym (members_same rs parallel n (other_team rs n tasks m parallel index lead apart joins leads leads'
        different)))
        (are.each parallel index roster leads'
        (sym (get_set_other rosters lead index new different) ∙ stands))
  ];
}

-- ---- sizes

no_member : (rs : List Record) (parallel : ℕ) (e : Membership) → Contains (members_before rs parallel 0) e → ⊥
no_member rs parallel e has =
    let place = member_place rs parallel 0 e has in let before = place.before in omega (arith, before)

pub mixed_start : (rs : List Record) (tasks : List ℕ) (count : ℕ) (mixed : List Bool)
    → mixed ≡ replicate count false → count ≡ length tasks → AreMixed rs 0 tasks mixed
mixed_start rs tasks count mixed is all = record {
  all = ap length is ∙ length-replicate count false ∙ all;
  each = λ parallel lead differ leads stands. (
    λ yes.
        absurd
        (false≢true (sym (replicate_get count lead false differ
        (ap (λ l. slice_get l lead) (sym is) ∙ stands)) ∙ yes)),
    λ has. absurd (no_member rs parallel has.0 has.1),
  );
}

pub mixed_same : (rs : List Record) (n : ℕ) (tasks : List ℕ) (mixed : List Bool) → at joined rs n ≡ None
    → AreMixed rs n tasks mixed → AreMixed rs (n + 1) tasks mixed
mixed_same rs n tasks mixed none are = record {
  all = are.all;
  each = λ parallel lead differ leads stands.
      let P : List Membership → Type 0 = λ l. IsTrue differ ↔ HasOtherSize l leads.first.actual in
      subst P (sym (members_same rs parallel n (λ m joins same. never_of (at joined rs n) m none joins)))
      (are.each parallel lead differ leads stands);
}

-- ---- whether an earlier member names another size than this one

-- the first member of the team is this one or an earlier one
first_cases : (rs : List Record) (n : ℕ) (tasks : List ℕ) (m : Membership) (lead : ℕ)
    (leads : IsLead rs tasks m.parallel lead)
    → at joined rs n ≡ Some m
    → (leads.first ≡ m) ⊎ Contains (members_before rs m.parallel n) leads.first
first_cases rs n tasks m lead leads joins = elim (cases_lt leads.place n) [
  | inl less ↦ inr (place_member rs m.parallel n leads.place leads.first less leads.joins leads.same)
  | inr not_less ↦ elim (cases_eq leads.place n) [
    | inl same ↦ inl (same_Some leads.first m (sym leads.joins ∙ ap (at joined rs) same ∙ joins))
    | inr apart ↦ absurd (leads.earliest n m (omega (arith, not_less, apart)) joins refl)
  ]
]

-- the lead of a team has one first member
first_at : (rs : List Record) (tasks : List ℕ) (parallel other lead index : ℕ) → IsFreeOf rs CreatedTwice
    → index ≡ lead → (la : IsLead rs tasks parallel lead) → (lb : IsLead rs tasks other index)
    → la.first ≡ lb.first
first_at rs tasks parallel other lead index free same la lb =
    (joined_once rs la.place lb.place la.first lb.first free la.joins lb.joins
    (same_Some la.first.member lb.first.member (sym la.here ∙ ap (slice_get tasks) (sym same) ∙ lb.here))).1

-- the member names the size of the first
pub size_as_first : (rs : List Record) (n : ℕ) (tasks : List ℕ) (mixed : List Bool) (m : Membership)
    (lead : ℕ) (differ : Bool) (leads : IsLead rs tasks m.parallel lead)
    → leads.first.actual ≡ m.actual → slice_get mixed lead ≡ Some differ → AreMixed rs n tasks mixed
    → IsTrue differ ↔ HasOtherSize (members_before rs m.parallel n) m.actual
size_as_first rs n tasks mixed m lead differ leads same stands are =
    let P : ℕ → Type 0 = λ a. IsTrue differ ↔ HasOtherSize (members_before rs m.parallel n) a in
    subst P same (are.each m.parallel lead differ leads stands)

pub mixed_as_first : (rs : List Record) (n : ℕ) (tasks : List ℕ) (mixed : List Bool) (m : Membership)
    (lead : ℕ) (leads : IsLead rs tasks m.parallel lead)
    → IsFreeOf rs CreatedTwice → AreApart tasks → at joined rs n ≡ Some m → leads.first.actual ≡ m.actual
    → AreMixed rs n tasks mixed → AreMixed rs (n + 1) tasks mixed
mixed_as_first rs n tasks mixed m lead leads free apart joins same are = record {
  all = are.all;
  each = λ parallel index differ leads' stands. elim (cases_eq index lead) [
    | inl here ↦ at_lead parallel index differ leads' stands here
    | inr different ↦
        let P : List Membership → Type 0 = λ l. IsTrue differ ↔ HasOtherSize l leads'.first.actual in
        subst P
        (sym (members_same rs parallel n (other_team rs n tasks m parallel index lead apart joins leads leads'
        different)))
        (are.each parallel index differ leads' stands)
  ];
}
  where
    at_lead : (parallel index : ℕ) (differ : Bool) (leads' : IsLead rs tasks parallel index)
        → slice_get mixed index ≡ Some differ → index ≡ lead
        → IsTrue differ ↔ HasOtherSize (members_before rs parallel (n + 1)) leads'.first.actual
    at_lead parallel index differ leads' stands here =
        let P : ℕ → Type 0 = IsLead rs tasks parallel in
        let moved : IsLead rs tasks parallel lead = subst P here leads' in
        let is_parallel : m.parallel ≡ parallel = lead_other rs tasks m.parallel parallel lead free leads
        moved in
        let one = first_at rs tasks m.parallel parallel lead index free here leads leads' in
        let size : m.actual ≡ leads'.first.actual =
        sym same ∙ ap (λ (x : Membership). x.actual) one in
        let earlier = members_before rs parallel n in
        let pushed = members_pushed rs parallel n m joins is_parallel in
        let old = are.each parallel index differ leads' stands in
        let Q : List Membership → Type 0 = λ l. IsTrue differ ↔ HasOtherSize l leads'.first.actual in
        subst Q (sym pushed) (
          λ yes. size_later earlier m leads'.first.actual (old.0 yes),
          λ has. elim (size_cases earlier m leads'.first.actual has) [
            | inl before ↦ old.1 before
            | inr other ↦ absurd (other size)
          ],
        )

-- the member names another size than the first
pub size_unlike_first : (rs : List Record) (n : ℕ) (tasks : List ℕ) (m : Membership) (lead : ℕ)
    (leads : IsLead rs tasks m.parallel lead)
    → at joined rs n ≡ Some m → (leads.first.actual ≡ m.actual → ⊥)
    → HasOtherSize (members_before rs m.parallel n) m.actual
size_unlike_first rs n tasks m lead leads joins different =
    elim (first_cases rs n tasks m lead leads joins) [
      | inl same ↦ absurd (different (ap (λ (x : Membership). x.actual) same))
      | inr has ↦ (leads.first, has, different)
    ]

pub mixed_unlike_first : (rs : List Record) (n : ℕ) (tasks : List ℕ) (mixed : List Bool) (m : Membership)
    (lead : ℕ) (leads : IsLead rs tasks m.parallel lead)
    → IsFreeOf rs CreatedTwice → AreApart tasks → at joined rs n ≡ Some m
    → (leads.first.actual ≡ m.actual → ⊥) → lead < length mixed
    → AreMixed rs n tasks mixed → AreMixed rs (n + 1) tasks (set mixed lead true)
mixed_unlike_first rs n tasks mixed m lead leads free apart joins unlike within are = record {
  all = length-set mixed lead true ∙ are.all;
  each = λ parallel index differ leads' stands. elim (cases_eq index lead) [
    | inl here ↦ at_lead parallel index differ leads' stands here
    | inr different ↦
        let P : List Membership → Type 0 = λ l. IsTrue differ ↔ HasOtherSize l leads'.first.actual in
        subst P
        (sym (members_same rs parallel n (other_team rs n tasks m parallel index lead apart joins leads leads'
        different)))
        (are.each parallel index differ leads' (sym (get_set_other mixed lead index true different) ∙ stands))
  ];
}
  where
    at_lead : (parallel index : ℕ) (differ : Bool) (leads' : IsLead rs tasks parallel index)
        → slice_get (set mixed lead true) index ≡ Some differ → index ≡ lead
        → IsTrue differ ↔ HasOtherSize (members_before rs parallel (n + 1)) leads'.first.actual
    at_lead parallel index differ leads' stands here =
        let P : ℕ → Type 0 = IsLead rs tasks parallel in
        let moved : IsLead rs tasks parallel lead = subst P here leads' in
        let is_parallel : m.parallel ≡ parallel = lead_other rs tasks m.parallel parallel lead free leads
        moved in
        let one = first_at rs tasks m.parallel parallel lead index free here leads leads' in
        let yes : differ ≡ true =
        same_Some differ true
        (sym stands ∙ ap (slice_get (set mixed lead true)) here ∙ get_set_same mixed lead true within) in
        let Q : List Membership → Type 0 = λ l. IsTrue differ ↔ HasOtherSize l leads'.first.actual in
        subst Q (sym (members_pushed rs parallel n m joins is_parallel)) (
          λ holds. (
            m,
            Contains-push (members_before rs parallel n) m,
            λ same. unlike (ap (λ (x : Membership). x.actual) one ∙ sym same),
          ),
          λ has. yes,
        )

-- ---- whether the member shows a lack

-- another size
lack_of_size : (rs : List Record) (i : ℕ) (m : Membership) → at joined rs i ≡ Some m
    → HasOtherSize (members_before rs m.parallel i) m.actual → LacksThere rs i
lack_of_size rs i m joins (e, has, different) = (ap is_some joins, other_size m e joins has different)

-- no slot, or one that is taken
lack_of_number : (rs : List Record) (i : ℕ) (m : Membership) (slots : List (Option ℕ))
    → at joined rs i ≡ Some m
    → AreNumbersTaken (members rs m.parallel) (members_before rs m.parallel i) slots
    → (length slots ≤ m.index) ⊎ ((other : ℕ) × (slice_get slots m.index ≡ Some (Some other)))
    → LacksThere rs i
lack_of_number rs i m slots joins are (inl past) = elim (cases_lt m.index m.actual) [
  | inl inside ↦
      let long = are.long in
      (ap is_some joins, few m joins (omega (arith, inside, past, long)))
  | inr out ↦ (ap is_some joins, outside m joins (omega (arith, out)))
]
lack_of_number rs i m slots joins are (inr (other, stands)) =
    let number = are.taken m.index other stands in
    (ap is_some joins, same_index m number.0 joins number.1 number.2)

-- the team has fewer members than the size, or the number is not below it
lack_of_misfit : (rs : List Record) (i : ℕ) (m : Membership) (count : ℕ) → at joined rs i ≡ Some m
    → count ≡ length (members rs m.parallel) → IsMisfit count m → LacksThere rs i
lack_of_misfit rs i m count joins is (inl less) = (ap is_some joins, few m joins (omega (arith, is, less)))
lack_of_misfit rs i m count joins is (inr out) = (ap is_some joins, outside m joins out)

-- otherwise there is none
lack_cases : (rs : List Record) (i : ℕ) (m : Membership) (count : ℕ) (slots new : List (Option ℕ))
    (own : ℕ) (differs repeats misfit : Bool)
    → at joined rs i ≡ Some m → count ≡ length (members rs m.parallel)
    → AreNumbersTaken (members rs m.parallel) (members_before rs m.parallel i) slots
    → IsTrue differs ↔ HasOtherSize (members_before rs m.parallel i) m.actual
    → FindsTaken slots new m.index own repeats → IsTrue misfit ↔ IsMisfit count m
    → LacksThere rs i → IsTrue differs ⊎ (IsTrue repeats ⊎ IsTrue misfit)
lack_cases rs i m count slots new own differs repeats misfit joins is are sizes finds misfits
    (begins, short) =
    of short
  where
    one : (x : Membership) → at joined rs i ≡ Some x → x ≡ m
    one x joins' = same_Some x m (sym joins' ∙ joins)

    taken : (found : Bool) → FindsTaken slots new m.index own found
        → HasNumber (members_before rs m.parallel i) m.index → IsTrue found
    taken true finds has = refl
    taken false (free, is) has = absurd (are.free m.index free has)

    of : IsShort rs i → IsTrue differs ⊎ (IsTrue repeats ⊎ IsTrue misfit)
    of (outside x joins' out) =
        let same = one x joins' in
        let P : Membership → Type 0 = λ y. y.actual ≤ y.index in
        inr (inr (misfits.1 (inr (subst P same out))))
    of (same_index x e joins' has number) =
        let same = one x joins' in
        let P : Membership → Type 0 = λ y. Contains (members_before rs y.parallel i) e × (e.index ≡ y.index)
        in
        let moved = subst P same (has, number) in
        inr (inl (taken repeats finds (e, moved.0, moved.1)))
    of (other_size x e joins' has different) =
        let same = one x joins' in
        let P : Membership → Type 0 = λ y. Contains (members_before rs y.parallel i) e ×
        (e.actual ≢ y.actual) in
        let moved = subst P same (has, different) in
        inl (sizes.1 (e, moved.0, moved.1))
    of (few x joins' less) =
        let same = one x joins' in
        let P : Membership → Type 0 = λ y. length (members rs y.parallel) < y.actual in
        let fewer = subst P same less in
        inr (inr (misfits.1 (inl (omega (arith, fewer, is)))))
    of (missed task member begin number kind ends barrier numbered mate never) =
        absurd
        (missed_joins rs i (record {
          begin = begin;
          barrier = record { task = task; kind = kind; ends = ends; barrier = barrier };
          number = number;
          numbered = numbered;
          member = member;
          mate = mate;
          never = never;
        })
        begins)

-- what is decided of the member
pub lack_of : (rs : List Record) (i : ℕ) (m : Membership) (count : ℕ) (slots new : List (Option ℕ))
    (own : ℕ) (differs repeats misfit any : Bool)
    → at joined rs i ≡ Some m → count ≡ length (members rs m.parallel)
    → AreNumbersTaken (members rs m.parallel) (members_before rs m.parallel i) slots
    → IsTrue differs ↔ HasOtherSize (members_before rs m.parallel i) m.actual
    → FindsTaken slots new m.index own repeats → IsTrue misfit ↔ IsMisfit count m
    → IsTrue any ↔ (IsTrue differs ⊎ (IsTrue repeats ⊎ IsTrue misfit)) → IsTrue any ↔ LacksThere rs i
lack_of rs i m count slots new own differs repeats misfit any joins is are sizes finds misfits one = (
  λ yes. elim (one.0 yes) [
    | inl other ↦ lack_of_size rs i m joins (sizes.0 other)
    | inr (inl taken) ↦ lack_of_number rs i m slots joins are (busy repeats taken finds)
    | inr (inr bad) ↦ lack_of_misfit rs i m count joins is (misfits.0 bad)
  ],
  λ lacks.
      one.1 (lack_cases rs i m count slots new own differs repeats misfit joins is are sizes finds misfits
      lacks),
)
  where
    busy : (found : Bool) → IsTrue found → FindsTaken slots new m.index own found
        → (length slots ≤ m.index) ⊎ ((other : ℕ) × (slice_get slots m.index ≡ Some (Some other)))
    busy true found (same, is_busy) = is_busy
    busy false found finds' = absurd (false≢true found)

-- ---- the lacks by number

pub lacks_more : (rs : List Record) (n : ℕ) (lacks : List Bool) (lack : Bool) → AreLacks rs n lacks
    → IsTrue lack ↔ LacksThere rs n → AreLacks rs (n + 1) (lacks ++ lack ∷ [])
lacks_more rs n lacks lack are here = record {
  all = length_push lacks lack ∙ ap (λ k. k + 1) are.all;
  each = λ i other stands. elim (pushed_cases lacks lack other i stands) [
    | inl old ↦ are.each i other old
    | inr now ↦
        let P : ℕ → Type 0 = λ k. IsTrue other ↔ LacksThere rs k in
        let Q : Bool → Type 0 = λ b. IsTrue b ↔ LacksThere rs n in
        subst P (sym (now.0 ∙ are.all)) (subst Q now.1 here)
  ];
}

pub lacks_none : (rs : List Record) (lacks : List Bool) → lacks ≡ [] → AreLacks rs 0 lacks
lacks_none rs lacks is = rw is (record {
  all = refl;
  each = λ i lack stands. absurd (none-some lack stands);
})

-- ---- whether a record shows a lack

-- a member that lacks one begins there
pub short_member : (rs : List Record) (n i : ℕ) (lacks : List Bool) → AreLacks rs n lacks → i < n
    → get_or lacks i false ≡ true → IsTrue (get_or lacks i false) ↔ IsShort rs i
short_member rs n i lacks are within is =
    let all = are.all in
    let here = are.each i (get_or lacks i false)
    (slice_get-get_or lacks i false (omega (arith, within, all))) in
    (λ holds. (here.0 holds).1, λ short. is)

-- or a barrier ends that a member misses
pub short_barrier : (rs : List Record) (n i : ℕ) (lacks : List Bool) (missing : Bool) → AreLacks rs n lacks
    → i < n → get_or lacks i false ≡ false → IsTrue missing ↔ IsBarrierMissed rs i
    → IsTrue missing ↔ IsShort rs i
short_barrier rs n i lacks missing are within is misses =
    let all = are.all in
    let here = are.each i (get_or lacks i false)
    (slice_get-get_or lacks i false (omega (arith, within, all))) in (
      λ holds. missed_short rs i (misses.0 holds),
      λ short. elim (short_cases rs i short) [
        | inl joins ↦ absurd (false≢true (sym is ∙ here.1 (joins, short)))
        | inr missed_there ↦ misses.1 missed_there
      ],
    )
