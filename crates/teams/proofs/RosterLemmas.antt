-- The slots of the members of a team.
use Rattle.std.proofs.Common.{◌≡◌, ◌≢◌, ◌∙◌, ℕ, zero, suc, ◌<◌, ◌≤◌, ◌+◌, List, [], ◌∷◌, ◌++◌, length, get_or}
use Rattle.std.proofs.Common.{Option, Some, None, refl, sym, ap, subst, arith, inl, inr, ◌⊎◌}
use Rattle.std.proofs.lemmas.Bool.{cases_eq, cases_lt, cases_order}
use Rattle.std.proofs.lemmas.Option.{none-some, same_Some, slice_get_within, slice_get-get_or}
use Rattle.std.proofs.lemmas.List.{length_push, length-set, length-replicate, get_or-replicate}
use Rattle.std.proofs.Math.ListN.{set}
use Rattle.std.proofs.Math.Nat.{le-max_left, le-max_right}
use Rattle.std.specs.Global.{Vec}
use Rattle.std.specs.Prelude.{is_some, max, slice_get, replicate, Contains}
use Rattle.ompt_events.specs.declared.records.Record.{Record}
use Rattle.ompt_events.specs.declared.records.Membership.{Membership}
use Rattle.ompt_events.specs.declared.cause.Cause.TheVariants.{CreatedTwice}
use Rattle.ompt_events.specs.Records.{made, joined, begun_initial}
use Rattle.ompt_events.specs.Places.{at}
use Rattle.ompt_events.specs.Causes.{IsFreeOf, IsShort, same_index, other_size, few}
use Rattle.ompt_events.specs.Teams.{members_before, IsInitial}
use Rattle.ompt_events.proofs.ListLemmas.{pushed_cases, contains_get}
use Rattle.ompt_events.proofs.PlaceLemmas.{at_within}
use Rattle.task_tree.specs.Makers.{AreNoted}
use Rattle.index_tables.specs.Numbering.{AreApart}
use Rattle.task_tree.proofs.LinkLemmas.{get_set_same, get_set_other}
use Rattle.task_tree.proofs.OnceLemmas.{made_once}
use Rattle.teams.specs.Members.{IsLead, IsLeadAt, IsInTeam, in_own, in_joined, AreInTeams, AreSizes}
use Rattle.teams.specs.Rosters.{empty_slots, IsSlotOf, AreSlots, AreEnrolled, AreFirstSlots, own_slot, empty}
use Rattle.teams.specs.Rosters.{AreFirstRosters, AreTeamsBelow, FitsTeam, HasSlot, LacksNothing}
use Rattle.teams.specs.Rosters.{IsWholeBefore}
use Rattle.teams.proofs.MemberLemmas.{never_of, joined_at_made, initial_at_made, joined_once, own_lead}
use Rattle.teams.proofs.MemberLemmas.{members_pushed, members_same, member_place, place_member, lead_one}
use Rattle.teams.proofs.MemberLemmas.{lead_other, lead_there, lead_within, initial_once}

-- ---- empty slots

empty_set : (slots : List (Option ℕ)) (number index : ℕ) → slice_get slots number ≡ Some None
    → empty_slots (set slots number (Some index)) + 1 ≡ empty_slots slots
empty_set [] number index is = absurd (none-some None is)
empty_set (None ∷ slots) zero index is = omega arith
empty_set (Some other ∷ slots) zero index is = absurd (none-some other (sym (same_Some (Some other) None is)))
empty_set (None ∷ slots) (suc k) index is = let rest = empty_set slots k index is in omega (arith, rest)
empty_set (Some other ∷ slots) (suc k) index is = empty_set slots k index is

empty_all : (slots : List (Option ℕ)) → ((number index : ℕ) → slice_get slots number ≡ Some (Some index) → ⊥)
    → empty_slots slots ≡ length slots
empty_all [] none = refl
empty_all (None ∷ slots) none =
    let rest = empty_all slots (λ number index is. none (suc number) index is) in omega (arith, rest)
empty_all (Some other ∷ slots) none = absurd (none zero other refl)

empty_none : (slots : List (Option ℕ)) (number : ℕ) → empty_slots slots ≡ 0
    → slice_get slots number ≡ Some None → ⊥
empty_none [] number none_left is = none-some None is
empty_none (None ∷ slots) number none_left is = omega (arith, none_left)
empty_none (Some other ∷ slots) zero none_left is = none-some other (sym (same_Some (Some other) None is))
empty_none (Some other ∷ slots) (suc k) none_left is = empty_none slots k none_left is

pub all_taken : (slots : List (Option ℕ)) (number : ℕ) → empty_slots slots ≡ 0 → number < length slots
    → (index : ℕ) × (slice_get slots number ≡ Some (Some index))
all_taken slots number none_left within =
    of (get_or slots number None) (slice_get-get_or slots number None within)
  where
    of : (slot : Option ℕ) → slice_get slots number ≡ Some slot
        → (index : ℕ) × (slice_get slots number ≡ Some (Some index))
    of None is = absurd (empty_none slots number none_left is)
    of (Some index) is = (index, is)

-- ---- a record that lets a member in

slot_later : (rs : List Record) (n : ℕ) (tasks : List ℕ) (parallel number index : ℕ)
    → IsSlotOf rs n tasks parallel number index → IsSlotOf rs (n + 1) tasks parallel number index
slot_later rs n tasks parallel number index is = record {
  place = is.place;
  m = is.m;
  before = let h = is.before in omega (arith, h);
  joins = is.joins;
  same = is.same;
  numbered = is.numbered;
  here = is.here;
}

slots_same : (rs : List Record) (n : ℕ) (tasks : List ℕ) (parallel : ℕ) (slots : List (Option ℕ))
    → ((m : Membership) → at joined rs n ≡ Some m → m.parallel ≡ parallel → ⊥)
    → AreSlots rs n tasks parallel slots → AreSlots rs (n + 1) tasks parallel slots
slots_same rs n tasks parallel slots never are = record {
  long = are.long;
  rest = ap (λ l. empty_slots slots + length l) (members_same rs parallel n never) ∙ are.rest;
  enrolled = λ k index m below joins same is. elim (cases_eq k n) [
    | inl last ↦ absurd (never m (ap (at joined rs) (sym last) ∙ joins) same)
    | inr earlier ↦ are.enrolled k index m (omega (arith, below, earlier)) joins same is
  ];
  only = λ number index is. slot_later rs n tasks parallel number index (are.only number index is);
}

slots_more : (rs : List Record) (n : ℕ) (tasks : List ℕ) (m : Membership) (own : ℕ) (slots : List (Option ℕ))
    → AreApart tasks → at joined rs n ≡ Some m → slice_get tasks own ≡ Some m.member
    → slice_get slots m.index ≡ Some None → AreSlots rs n tasks m.parallel slots
    → AreSlots rs (n + 1) tasks m.parallel (set slots m.index (Some own))
slots_more rs n tasks m own slots apart joins is_own free are = record {
  long = length-set slots m.index (Some own) ∙ are.long;
  rest =
      let fewer = empty_set slots m.index own free in
      let more =
      ap length (members_pushed rs m.parallel n m joins refl)
      ∙ length_push (members_before rs m.parallel n) m in
      let long = length-set slots m.index (Some own) in
      let before = are.rest in
      omega (arith, fewer, more, long, before);
  enrolled = λ k index e below joins' same is. elim (cases_eq k n) [
    | inl last ↦
        let is_m : m ≡ e = same_Some m e (sym joins ∙ ap (at joined rs) (sym last) ∙ joins') in
        let one : own ≡ index =
        apart own index e.member (is_own ∙ ap (λ (x : Membership). Some x.member) is_m) is in
        ap (slice_get (set slots m.index (Some own))) (ap (λ (x : Membership). x.index) (sym is_m))
        ∙ get_set_same slots m.index (Some own) within ∙ ap (λ x. Some (Some x)) one
    | inr earlier ↦
        let old = are.enrolled k index e (omega (arith, below, earlier)) joins' same is in
        get_set_other slots m.index e.index (Some own)
        (λ one.
        none-some index
        (same_Some None (Some index) (sym free ∙ ap (slice_get slots) (sym one) ∙ old)))
        ∙ old
  ];
  only = λ number index stands. elim (cases_eq number m.index) [
    | inl one ↦ record {
      place = n;
      m = m;
      before = omega arith;
      joins = joins;
      same = refl;
      numbered = sym one;
      here =
          ap (slice_get tasks)
          (same_Some index own
          (same_Some (Some index) (Some own)
          (sym stands ∙ ap (slice_get (set slots m.index (Some own))) one
          ∙ get_set_same slots m.index (Some own) within)))
          ∙ is_own;
    }
    | inr different ↦
        slot_later rs n tasks m.parallel number index
        (are.only number index (sym (get_set_other slots m.index number (Some own) different) ∙ stands))
  ];
}
  where
    within : m.index < length slots
    within = slice_get_within slots m.index None free

pub enrolled_same : (rs : List Record) (n : ℕ) (tasks : List ℕ) (rosters : List (Vec (Option ℕ)))
    → AreEnrolled rs n tasks rosters → at joined rs n ≡ None → AreEnrolled rs (n + 1) tasks rosters
enrolled_same rs n tasks rosters are none = record {
  leads = are.leads;
  initials = are.initials;
  each =
      λ parallel lead roster leads stands.
      slots_same rs n tasks parallel roster.items (λ m joins same. never_of (at joined rs n) m none joins)
      (are.each parallel lead roster leads stands);
  own = are.own;
  other = are.other;
}

pub enrolled_more : (rs : List Record) (n : ℕ) (tasks : List ℕ) (rosters : List (Vec (Option ℕ)))
    (m : Membership) (lead own : ℕ) (old new : Vec (Option ℕ))
    → IsFreeOf rs CreatedTwice → AreApart tasks → AreEnrolled rs n tasks rosters → at joined rs n ≡ Some m
    → IsLead rs tasks m.parallel lead → slice_get tasks own ≡ Some m.member
    → slice_get rosters lead ≡ Some old → slice_get old.items m.index ≡ Some None
    → new.items ≡ set old.items m.index (Some own) → AreEnrolled rs (n + 1) tasks (set rosters lead new)
enrolled_more rs n tasks rosters m lead own old new free apart are joins leads is_own stands_old
    is_free is_new =
    record {
      leads = λ parallel index leads'.
          let inside = are.leads parallel index leads' in
          let long = length-set rosters lead new in omega (arith, inside, long);
      initials = λ index task is_task initial.
          let inside = are.initials index task is_task initial in
          let long = length-set rosters lead new in omega (arith, inside, long);
      each = λ parallel index roster leads' stands. elim (cases_eq index lead) [
        | inl same ↦
            let P : ℕ → Type 0 = IsLead rs tasks parallel in
            let is_parallel : m.parallel ≡ parallel =
            lead_other rs tasks m.parallel parallel lead free leads (subst P same leads') in
            let is_roster : new ≡ roster =
            same_Some new roster
            (sym (get_set_same rosters lead new (slice_get_within rosters lead old stands_old))
            ∙ ap (slice_get (set rosters lead new)) (sym same) ∙ stands) in
            let Q : ℕ → Type 0 = λ p. AreSlots rs (n + 1) tasks p roster.items in
            let R : List (Option ℕ) → Type 0 = AreSlots rs (n + 1) tasks m.parallel in
            subst Q is_parallel
            (subst R (sym is_new ∙ ap (λ (v : Vec (Option ℕ)). v.items) is_roster)
            (slots_more rs n tasks m own old.items apart joins is_own is_free
            (are.each m.parallel lead old leads stands_old)))
        | inr different ↦
            slots_same rs n tasks parallel roster.items
            (λ e joins' same.
            let is_m : m ≡ e = same_Some m e (sym joins ∙ joins') in
            let P : ℕ → Type 0 = λ p. IsLead rs tasks p lead in
            different
            (lead_one rs tasks parallel index lead apart leads'
            (subst P (ap (λ (x : Membership). x.parallel) is_m ∙ same) leads)))
            (are.each parallel index roster leads'
            (sym (get_set_other rosters lead index new different) ∙ stands))
      ];
      own = λ index task roster is_task initial stands.
          let different : index ≢ lead =
          λ same.
          own_lead rs tasks initial.0 m.parallel task index lead free is_task initial.1 leads
          (sym same) in
          are.own index task roster is_task initial
          (sym (get_set_other rosters lead index new different) ∙ stands);
      other = λ index roster stands. elim (cases_eq index lead) [
        | inl same ↦
            let P : ℕ → Type 0 = IsLead rs tasks m.parallel in
            inr (inl (m.parallel, subst P (sym same) leads))
        | inr different ↦
            are.other index roster (sym (get_set_other rosters lead index new different) ∙ stands)
      ];
    }

-- ---- whether a member fits

-- before the first record that shows a lack, each member says the same size as the first
pub says_other : (rs : List Record) (i : ℕ) (tasks : List ℕ) (lead : ℕ) (m : Membership)
    (leads : IsLead rs tasks m.parallel lead)
    → at joined rs i ≡ Some m → (leads.first.actual ≡ m.actual → ⊥) → IsShort rs i
says_other rs i tasks lead m leads joins different = elim (cases_order leads.place i) [
  | inl same ↦
      absurd
      (different
      (ap (λ (x : Membership). x.actual)
      (same_Some leads.first m (sym leads.joins ∙ ap (at joined rs) same ∙ joins))))
  | inr (inl less) ↦
      other_size m leads.first joins
      (place_member rs m.parallel i leads.place leads.first less leads.joins leads.same) different
  | inr (inr more) ↦ absurd (leads.earliest i m more joins refl)
]

one_size : (rs : List Record) (i : ℕ) (tasks : List ℕ) (lead : ℕ) (m e : Membership)
    (leads : IsLead rs tasks m.parallel lead)
    → IsWholeBefore rs i → Contains (members_before rs m.parallel i) e → e.actual ≡ leads.first.actual
one_size rs i tasks lead m e leads whole has =
    let place = member_place rs m.parallel i e has in
    let P : ℕ → Type 0 = λ p. IsLead rs tasks p lead in
    elim (cases_eq leads.first.actual e.actual) [
      | inl same ↦ sym same
      | inr different ↦
          absurd (whole place.place place.before (ap is_some place.joins) (
          elim (cases_order leads.place place.place) [
            | inl same ↦
                absurd
                (different
                (ap (λ (x : Membership). x.actual)
                (same_Some leads.first e (sym leads.joins ∙ ap (at joined rs) same ∙ place.joins))))
            | inr (inl less) ↦
                other_size e leads.first place.joins
                (place_member rs e.parallel place.place leads.place leads.first less leads.joins
                (leads.same ∙ sym place.same))
                different
            | inr (inr more) ↦ absurd (leads.earliest place.place e more place.joins place.same)
          ]))
    ]

pub too_small : (rs : List Record) (i : ℕ) (tasks sizes : List ℕ) (lead size : ℕ) (m : Membership)
    → AreSizes rs (length rs) tasks sizes → at joined rs i ≡ Some m → IsLead rs tasks m.parallel lead
    → slice_get sizes lead ≡ Some size → size < m.actual → IsShort rs i
too_small rs i tasks sizes lead size m are joins leads stands less =
    few m joins (let is = are.each m.parallel lead size leads stands in omega (arith, is, less))

pub fits_there : (rs : List Record) (i : ℕ) (tasks sizes : List ℕ) (lead size : ℕ) (m : Membership)
    (leads : IsLead rs tasks m.parallel lead)
    → AreSizes rs (length rs) tasks sizes → IsWholeBefore rs i → slice_get sizes lead ≡ Some size
    → m.actual ≤ size → m.index < m.actual → leads.first.actual ≡ m.actual → FitsTeam rs i m
fits_there rs i tasks sizes lead size m leads are whole stands enough inside same = record {
  inside = inside;
  enough = let is = are.each m.parallel lead size leads stands in omega (arith, is, enough);
  one_size = λ e has. one_size rs i tasks lead m e leads whole has ∙ same;
}

-- ---- whether its slot is empty

pub slot_within : (rs : List Record) (i : ℕ) (tasks : List ℕ) (m : Membership) (slots : List (Option ℕ))
    → FitsTeam rs i m → AreSlots rs i tasks m.parallel slots → m.index < length slots
slot_within rs i tasks m slots fits are =
    let inside = fits.inside in
    let enough = fits.enough in let long = are.long in omega (arith, inside, enough, long)

pub slot_taken : (rs : List Record) (i : ℕ) (tasks : List ℕ) (m : Membership) (slots : List (Option ℕ))
    (other : ℕ)
    → at joined rs i ≡ Some m → AreSlots rs i tasks m.parallel slots
    → slice_get slots m.index ≡ Some (Some other) → IsShort rs i
slot_taken rs i tasks m slots other joins are stands =
    let slot = are.only m.index other stands in
    same_index m slot.m joins
    (place_member rs m.parallel i slot.place slot.m slot.before slot.joins slot.same) slot.numbered

pub slot_free : (rs : List Record) (i : ℕ) (tasks : List ℕ) (m : Membership) (slots : List (Option ℕ))
    → AreNoted made rs (length rs) tasks → at joined rs i ≡ Some m → FitsTeam rs i m
    → AreSlots rs i tasks m.parallel slots → slice_get slots m.index ≡ Some None → LacksNothing rs i
slot_free rs i tasks m slots noted joins fits are free = λ x joins'.
    let is_x : m ≡ x = same_Some m x (sym joins ∙ joins') in
    let P : Membership → Type 0 = HasSlot rs i in
    subst P is_x (record {
      fits = fits;
      alone = λ e has same.
          let place = member_place rs m.parallel i e has in
          let index =
          contains_get tasks e.member
          (noted.each place.place e.member (at_within joined rs place.place e place.joins)
          (joined_at_made rs place.place e place.joins)) in
          let stands = are.enrolled place.place index.0 e place.before place.joins place.same index.1 in
          none-some index.0
          (same_Some None (Some index.0) (sym free ∙ ap (slice_get slots) (sym same) ∙ stands));
    })

pub lacks_none : (rs : List Record) (i : ℕ) → at joined rs i ≡ None → LacksNothing rs i
lacks_none rs i none = λ m joins. absurd (never_of (at joined rs i) m none joins)

-- ---- before the first record

none_in : (size number index : ℕ) (slots : List (Option ℕ)) → slots ≡ replicate size None
    → slice_get slots number ≡ Some (Some index) → ⊥
none_in size number index slots is stands =
    let nothing : Option ℕ = None in
    let long : length slots ≡ size = ap length is ∙ length-replicate size nothing in
    let inside = slice_get_within slots number (Some index) stands in
    let within : number < size = omega (arith, inside, long) in
    let none : slice_get slots number ≡ Some None =
    ap (λ l. slice_get l number) is
    ∙ slice_get-get_or (replicate size None) number None (rw (length-replicate size nothing) within)
    ∙ ap Some (get_or-replicate size number None None within) in
    none-some index (same_Some None (Some index) (sym none ∙ stands))

first_slots : (rs : List Record) (tasks sizes : List ℕ) (parallel lead : ℕ) (slots : List (Option ℕ))
    → IsFreeOf rs CreatedTwice → AreSizes rs (length rs) tasks sizes → IsLead rs tasks parallel lead
    → AreFirstSlots rs tasks sizes lead slots → AreSlots rs 0 tasks parallel slots
first_slots rs tasks sizes parallel lead slots free are leads (own_slot task is_task initial is) =
    absurd (own_lead rs tasks initial.0 parallel task lead lead free is_task initial.1 leads refl)
first_slots rs tasks sizes parallel lead slots free are leads (empty task size is_task not_initial is_size is)
    =
    let nothing : Option ℕ = None in
    let long : length slots ≡ size = ap length is ∙ length-replicate size nothing in
    record {
      long = long ∙ are.each parallel lead size leads is_size;
      rest =
          let all = empty_all slots (λ number index. none_in size number index slots is) in
          omega (arith, all);
      enrolled = λ k index m below. absurd (omega (arith, below));
      only = λ number index stands. absurd (none_in size number index slots is stands);
    }

first_own : (rs : List Record) (tasks sizes : List ℕ) (index task : ℕ) (slots : List (Option ℕ))
    → slice_get tasks index ≡ Some task → IsInitial rs task → AreFirstSlots rs tasks sizes index slots
    → slots ≡ Some index ∷ []
first_own rs tasks sizes index task slots is_task initial (own_slot other is_other initial' is) = is
first_own rs tasks sizes index task slots is_task initial (empty other size is_other not_initial is_size is) =
    let P : ℕ → Type 0 = IsInitial rs in
    absurd (not_initial (subst P (same_Some task other (sym is_task ∙ is_other)) initial))

no_length : {X : Type 0} (xs : List X) → length xs ≡ 0 → xs ≡ []
no_length [] is = refl
no_length (x ∷ xs) is = absurd (omega (arith, is))

first_other : (rs : List Record) (tasks sizes : List ℕ) (index : ℕ) (slots : List (Option ℕ))
    → AreSizes rs (length rs) tasks sizes → AreFirstSlots rs tasks sizes index slots
    → (slots ≡ [])
    ⊎ (((parallel : ℕ) × IsLead rs tasks parallel index)
    ⊎ ((task : ℕ) × (slice_get tasks index ≡ Some task) × IsInitial rs task))
first_other rs tasks sizes index slots are (own_slot task is_task initial is) =
    inr (inr (task, is_task, initial))
first_other rs tasks sizes index slots are (empty task size is_task not_initial is_size is) =
    elim (cases_lt 0 size) [
      | inl some ↦ inr (inl (are.only index size is_size some))
      | inr none ↦
          let nothing : Option ℕ = None in
          let long : length slots ≡ size = ap length is ∙ length-replicate size nothing in
          inl (no_length slots (omega (arith, long, none)))
    ]

pub rosters_more : (rs : List Record) (tasks sizes : List ℕ) (n : ℕ) (rosters : List (Vec (Option ℕ)))
    (last : Vec (Option ℕ))
    → AreFirstRosters rs tasks sizes n rosters → AreFirstSlots rs tasks sizes n last.items
    → AreFirstRosters rs tasks sizes (n + 1) (rosters ++ last ∷ [])
rosters_more rs tasks sizes n rosters last are here = record {
  all = length_push rosters last ∙ ap (λ k. k + 1) are.all;
  each = λ index roster stands. elim (pushed_cases rosters last roster index stands) [
    | inl old ↦ are.each index roster old
    | inr now ↦
        let P : ℕ → Type 0 = λ k. AreFirstSlots rs tasks sizes k roster.items in
        let Q : Vec (Option ℕ) → Type 0 = λ v. AreFirstSlots rs tasks sizes n v.items in
        subst P (sym (now.0 ∙ are.all)) (subst Q now.1 here)
  ];
}

pub lead_of_member : (rs : List Record) (tasks : List ℕ) (i lead : ℕ) (m : Membership)
    → IsLeadAt rs tasks i lead → at joined rs i ≡ Some m → IsLead rs tasks m.parallel lead
lead_of_member rs tasks i lead m is joins =
    let P : Membership → Type 0 = λ x. IsLead rs tasks x.parallel lead in
    subst P (same_Some is.member m (sym is.joins ∙ joins)) is.leads

-- one task more, which is in a team or in none
pub below_more : (teams : List (Option ℕ)) (n count team : ℕ) → AreTeamsBelow teams n count
    → slice_get teams n ≡ Some (Some team) → AreTeamsBelow teams (n + 1) (max count (team + 1))
below_more teams n count team below is = λ index other before stands. elim (cases_eq index n) [
  | inl last ↦
      let same : team ≡ other =
      same_Some team other
      (same_Some (Some team) (Some other) (sym is ∙ ap (slice_get teams) (sym last) ∙ stands)) in
      let less = le-max_right count (team + 1) in omega (arith, same, less)
  | inr earlier ↦
      let less = below index other (omega (arith, before, earlier)) stands in
      let more = le-max_left count (team + 1) in omega (arith, less, more)
]

pub below_same : (teams : List (Option ℕ)) (n count : ℕ) → AreTeamsBelow teams n count
    → slice_get teams n ≡ Some None → AreTeamsBelow teams (n + 1) count
below_same teams n count below is = λ index other before stands. elim (cases_eq index n) [
  | inl last ↦
      absurd
      (none-some other
      (same_Some None (Some other) (sym is ∙ ap (slice_get teams) (sym last) ∙ stands)))
  | inr earlier ↦ below index other (omega (arith, before, earlier)) stands
]

-- the lead of each team is below the count, if the numbers of all teams are
lead_below : (rs : List Record) (tasks : List ℕ) (teams : List (Option ℕ)) (parallel lead count : ℕ)
    → IsFreeOf rs CreatedTwice → AreApart tasks → AreInTeams rs (length rs) tasks teams
    → AreTeamsBelow teams (length teams) count → IsLead rs tasks parallel lead → lead < count
lead_below rs tasks teams parallel lead count free apart are below leads =
    of (get_or teams lead None) (slice_get-get_or teams lead None within)
  where
    within : lead < length teams
    within = lead_within rs tasks teams parallel lead leads are.all

    of : (slot : Option ℕ) → slice_get teams lead ≡ Some slot → lead < count
    of None stands =
        let none =
        lead_there rs tasks teams leads.place lead leads.first None free are leads.joins leads.here stands in
        absurd (never_of (at joined rs leads.place) leads.first none leads.joins)
    of (Some team) stands =
        let there =
        lead_there rs tasks teams leads.place lead leads.first (Some team) free are leads.joins leads.here
        stands in
        let P : ℕ → Type 0 = λ p. IsLead rs tasks p team in
        let same =
        lead_one rs tasks parallel lead team apart leads
        (subst P leads.same (lead_of_member rs tasks leads.place team leads.first there leads.joins)) in
        let less = below lead team within stands in
        omega (arith, same, less)

-- an initial task is the lead of its own team
initial_below : (rs : List Record) (tasks : List ℕ) (teams : List (Option ℕ)) (index task count : ℕ)
    → IsFreeOf rs CreatedTwice → AreInTeams rs (length rs) tasks teams
    → AreTeamsBelow teams (length teams) count → slice_get tasks index ≡ Some task → IsInitial rs task
    → index < count
initial_below rs tasks teams index task count free are below is_task initial =
    of (get_or teams index None) (slice_get-get_or teams index None within)
  where
    within : index < length teams
    within =
        let inside = slice_get_within tasks index task is_task in
        let all = are.all in omega (arith, inside, all)

    of_team : (team : ℕ) → IsInTeam rs (length rs) tasks index task team → team < count → index < count
    of_team team (in_own i before is same) less = omega (arith, same, less)
    of_team team (in_joined i m before joins is leads) less =
        absurd (initial_once rs initial.0 i task m free initial.1 joins is)

    of : (slot : Option ℕ) → slice_get teams index ≡ Some slot → index < count
    of None stands =
        absurd
        ((are.none index task is_task stands).not_initial initial.0
        (at_within begun_initial rs initial.0 task initial.1) initial.1)
    of (Some team) stands =
        of_team team (are.known index task team is_task stands) (below index team within stands)

pub rosters_enrolled : (rs : List Record) (tasks sizes : List ℕ) (teams : List (Option ℕ)) (n : ℕ)
    (rosters : List (Vec (Option ℕ)))
    → IsFreeOf rs CreatedTwice → AreApart tasks → AreSizes rs (length rs) tasks sizes
    → AreInTeams rs (length rs) tasks teams → AreTeamsBelow teams (length teams) n
    → AreFirstRosters rs tasks sizes n rosters → AreEnrolled rs 0 tasks rosters
rosters_enrolled rs tasks sizes teams n rosters free apart sizes_are teams_are below are = record {
  leads =
      λ parallel lead leads.
      let all = are.all in
      let less = lead_below rs tasks teams parallel lead n free apart teams_are below leads in
      omega (arith, all, less);
  initials =
      λ index task is_task initial.
      let all = are.all in
      let less = initial_below rs tasks teams index task n free teams_are below is_task initial in
      omega (arith, all, less);
  each =
      λ parallel lead roster leads stands.
      first_slots rs tasks sizes parallel lead roster.items free sizes_are leads
      (are.each lead roster stands);
  own =
      λ index task roster is_task initial stands.
      first_own rs tasks sizes index task roster.items is_task initial (are.each index roster stands);
  other =
      λ index roster stands.
      first_other rs tasks sizes index roster.items sizes_are (are.each index roster stands);
}

-- an initial task begins by the record that makes it
pub not_initial_there : (rs : List Record) (place task : ℕ) → IsFreeOf rs CreatedTwice
    → at made rs place ≡ Some task → at begun_initial rs place ≡ None → IsInitial rs task → ⊥
not_initial_there rs place task free is_made none initial =
    let same : initial.0 ≡ place =
    made_once rs task initial.0 place free (initial_at_made rs initial.0 task initial.1) is_made in
    never_of (at begun_initial rs place) task none (ap (at begun_initial rs) (sym same) ∙ initial.1)

pub initial_there : (rs : List Record) (place task other : ℕ) → at made rs place ≡ Some task
    → at begun_initial rs place ≡ Some other → IsInitial rs task
initial_there rs place task other is_made is = (place, is ∙ sym (initial_at_made rs place other is) ∙ is_made)

-- ---- the member that begins there

pub same_first : (rs : List Record) (tasks : List ℕ) (lead place there : ℕ) (first found : Membership)
    → IsFreeOf rs CreatedTwice → at made rs there ≡ slice_get tasks lead → at joined rs there ≡ Some found
    → at joined rs place ≡ Some first → slice_get tasks lead ≡ Some first.member → found ≡ first
same_first rs tasks lead place there first found free is_made joins' joins is =
    (joined_once rs there place found first free joins' joins
    (same_Some found.member first.member (sym (joined_at_made rs there found joins') ∙ is_made ∙ is))).1

pub first_joins : (rs : List Record) (tasks : List ℕ) (lead place there : ℕ) (first : Membership)
    → IsFreeOf rs CreatedTwice → at made rs there ≡ slice_get tasks lead → at joined rs place ≡ Some first
    → slice_get tasks lead ≡ Some first.member → at joined rs there ≡ Some first
first_joins rs tasks lead place there first free is_made joins is =
    ap (at joined rs)
    (made_once rs first.member there place free (is_made ∙ is) (joined_at_made rs place first joins))
    ∙ joins
