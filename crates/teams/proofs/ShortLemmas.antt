-- The first place in the file at which a record shows a team or a barrier that lacks a member, and what is
-- known where none does.
use Rattle.std.proofs.Common.{◌≡◌, ◌∙◌, ℕ, ◌<◌, ◌≤◌, ◌+◌, List, [], ◌∷◌, length, get_or, Option, Some, None}
use Rattle.std.proofs.Common.{Bool, true, refl, sym, ap, subst, arith, inl, inr, ◌⊎◌}
use Rattle.std.proofs.lemmas.Bool.{cases_eq, cases_lt, cases_order, false≢true}
use Rattle.std.proofs.lemmas.Option.{none-some, same_Some, slice_get_within, slice_get_past, slice_get-get_or}
use Rattle.std.specs.Global.{Vec}
use Rattle.std.specs.Prelude.{◌↔◌, IsTrue, is_some, slice_get, option_and_then}
use Rattle.std.specs.Option.{unwrap_or, option_or}
use Rattle.ompt_events.specs.declared.records.Record.{Record}
use Rattle.ompt_events.specs.declared.records.Body.{Body}
use Rattle.ompt_events.specs.declared.records.Body.TheVariants.{SyncRegion}
use Rattle.ompt_events.specs.declared.records.Membership.{Membership}
use Rattle.ompt_events.specs.declared.names.Endpoint.{Endpoint}
use Rattle.ompt_events.specs.declared.names.SyncKind.{SyncKind}
use Rattle.ompt_events.specs.declared.cause.Cause.TheVariants.{CreatedTwice, TeamShort}
use Rattle.ompt_events.specs.Records.{joined, region}
use Rattle.ompt_events.specs.Places.{at}
use Rattle.ompt_events.specs.Causes.{IsShort, outside, same_index, other_size, few, missed, HasCause}
use Rattle.ompt_events.specs.Causes.{team_short, IsFreeOf}
use Rattle.ompt_events.specs.Teams.{IsInitial}
use Rattle.ompt_events.proofs.PlaceLemmas.{at_within}
use Rattle.index_tables.specs.Numbering.{AreApart}
use Rattle.task_tree.specs.Own.{OwnView, IsOwn, HasCauseAt, IsFirstPlaceWith}
use Rattle.task_tree.proofs.RenamedCauseLemmas.{short_within}
use Rattle.teams.specs.Tables.{TablesView, AreTables, tables_own}
use Rattle.teams.specs.Fewest.{AreTeamsWithin, AreShort}
use Rattle.teams.specs.Members.{IsInTeam, in_own, in_joined, AreInTeams}
use Rattle.teams.specs.Missed.{IsBarrierMissed}
use Rattle.teams.proofs.MissedLemmas.{AreFewestOf}
use Rattle.teams.specs.Rosters.{IsSlotOf, AreSlots, AreEnrolled, LacksNothing, IsWholeBefore}
use Rattle.task_states.specs.Rows.{row_items, row_at}
use Rattle.teams.specs.Short.{IsFirstLack, AreAllEnrolled, IsMissedAt, IsMissedNowhere}
use Rattle.teams.specs.Short.{FindsMissed, IsSearched}
use Rattle.teams.specs.Teams.{IsMemberNumbered, alone, together, AreRosters, AreBarrierBegins, IsTeams}
use Rattle.teams.proofs.BeginLemmas.{begins_few}
use Rattle.teams.proofs.RegionEndLemmas.{ends_at}
use Rattle.teams.proofs.MemberLemmas.{member_place, place_member, initial_once, joined_once, teams_are}
use Rattle.teams.proofs.RosterLemmas.{all_taken}

-- ---- the first place

-- at the end of a region no member begins
region_joins : (rs : List Record) (i task : ℕ) (kind : SyncKind) (endpoint : Endpoint)
    → at region rs i ≡ Some (task, kind, endpoint) → at joined rs i ≡ None
region_joins rs i task kind endpoint says = there (slice_get rs i) says
  where
    of : (b : Body) → region b ≡ Some (task, kind, endpoint) → joined b ≡ None
    of (SyncRegion sort point parallel own) is = refl
    of _ is = absurd (none-some (task, kind, endpoint) is)

    there : (o : Option Record)
        → option_and_then (λ (r : Record). region r.body) o ≡ Some (task, kind, endpoint)
        → option_and_then (λ (r : Record). joined r.body) o ≡ None
    there None is = refl
    there (Some r) is = of r.body is

pub missed_joins : (rs : List Record) (i : ℕ) → IsBarrierMissed rs i → is_some (at joined rs i) ≡ true → ⊥
missed_joins rs i m joins =
    let ends = ends_at rs i m.barrier.task m.begin m.barrier.kind m.barrier.ends in
    false≢true
    (sym (ap is_some (region_joins rs i m.barrier.task m.barrier.kind ends.endpoint ends.says)) ∙ joins)

-- a record shows a lack where a member begins, or where a barrier ends that a member misses
pub short_cases : (rs : List Record) (i : ℕ) → IsShort rs i
    → (is_some (at joined rs i) ≡ true) ⊎ IsBarrierMissed rs i
short_cases rs i (outside m joins out) = inl (ap is_some joins)
short_cases rs i (same_index m e joins has same) = inl (ap is_some joins)
short_cases rs i (other_size m e joins has different) = inl (ap is_some joins)
short_cases rs i (few m joins less) = inl (ap is_some joins)
short_cases rs i (missed task member begin number kind ends barrier numbered mate never) = inr (record {
  begin = begin;
  barrier = record { task = task; kind = kind; ends = ends; barrier = barrier };
  number = number;
  numbered = numbered;
  member = member;
  mate = mate;
  never = never;
})

-- a record whose member lacks nothing shows no lack
not_short : (rs : List Record) (i : ℕ) → LacksNothing rs i → is_some (at joined rs i) ≡ true → IsShort rs i
    → ⊥
not_short rs i fine begins (outside m joins out) =
    let inside = (fine m joins).fits.inside in omega (arith, inside, out)
not_short rs i fine begins (same_index m e joins has same) = (fine m joins).alone e has same
not_short rs i fine begins (other_size m e joins has different) =
    different ((fine m joins).fits.one_size e has)
not_short rs i fine begins (few m joins less) =
    let enough = (fine m joins).fits.enough in omega (arith, enough, less)
not_short rs i fine begins (missed task member begin number kind ends barrier numbered mate never) =
    missed_joins rs i (record {
      begin = begin;
      barrier = record { task = task; kind = kind; ends = ends; barrier = barrier };
      number = number;
      numbered = numbered;
      member = member;
      mate = mate;
      never = never;
    }) begins

pub missed_short : (rs : List Record) (i : ℕ) → IsBarrierMissed rs i → IsShort rs i
missed_short rs i m =
    missed m.barrier.task m.member m.begin m.number m.barrier.kind m.barrier.ends m.barrier.barrier m.numbered
    m.mate m.never

of_cause : (rs : List Record) (i : ℕ) → HasCause rs i TeamShort → IsShort rs i
of_cause rs i (team_short is) = is

-- what is decided of the cause
pub short_is_cause : (rs : List Record) (i : ℕ) (shows : Bool) → IsTrue shows ↔ IsShort rs i
    → IsTrue shows ↔ HasCause rs i TeamShort
short_is_cause rs i shows is = (λ holds. team_short (is.0 holds), λ has. is.1 (of_cause rs i has))

pub whole_more : (rs : List Record) (n : ℕ) → IsWholeBefore rs n → LacksNothing rs n
    → IsWholeBefore rs (n + 1)
whole_more rs n whole fine = λ k below joins short. elim (cases_eq k n) [
  | inl same ↦
      let P : ℕ → Type 0 = IsShort rs in
      not_short rs n fine (ap (λ j. is_some (at joined rs j)) (sym same) ∙ joins) (subst P same short)
  | inr apart ↦ whole k (omega (arith, below, apart)) joins short
]

-- one more place at which no barrier ends that a member misses
pub nowhere_more : (own : OwnView) (place number : ℕ) → IsOwn own → slice_get own.places number ≡ Some place
    → (IsBarrierMissed own.run.records number → ⊥) → IsMissedNowhere own place
    → IsMissedNowhere own (place + 1)
nowhere_more own place number is stands none before = λ k below there. elim (cases_eq k place) [
  | inl same ↦
      let one : there.0 ≡ number = is.places.apart there.0 number place (there.1 ∙ ap Some same) stands in
      let P : ℕ → Type 0 = IsBarrierMissed own.run.records in
      none (subst P one there.2)
  | inr apart ↦ before k (omega (arith, below, apart)) there
]

-- before the first place in the file at which a member lacks something none does: members keep their order
lack_first : (own : OwnView) (place k number : ℕ) → IsOwn own → IsFirstLack own place → k < place
    → slice_get own.places number ≡ Some k → is_some (at joined own.run.records number) ≡ true
    → IsShort own.run.records number → ⊥
lack_first own place k number is lack below stands joins short = elim (cases_order number lack.number) [
  | inl same ↦
      let e = same_Some k place (sym stands ∙ ap (slice_get own.places) same ∙ lack.stands) in
      omega (arith, e, below)
  | inr (inl less) ↦ lack.first number less joins short
  | inr (inr more) ↦
      let order = is.members lack.number number place k more lack.joins joins lack.stands stands in
      omega (arith, order, below)
]

-- a place below both bounds
first_place : (own : OwnView) (place : ℕ) → HasCauseAt own TeamShort place
    → ((k number : ℕ) → k < place → slice_get own.places number ≡ Some k
    → is_some (at joined own.run.records number) ≡ true → IsShort own.run.records number → ⊥)
    → IsMissedNowhere own place → IsFirstPlaceWith own TeamShort place
first_place own place has whole none = record {
  has = has;
  first = λ k below there.
      let short = of_cause own.run.records there.0 there.2 in
      elim (short_cases own.run.records there.0 short) [
        | inl joins ↦ whole k there.0 below there.1 joins short
        | inr misses ↦ none k below (there.0, there.1, misses)
      ];
}

free_short : (own : OwnView) → IsOwn own → IsWholeBefore own.run.records (length own.run.records)
    → IsMissedNowhere own (length own.run.records) → IsFreeOf own.run.records TeamShort
free_short own is whole none = λ i has.
    let short = of_cause own.run.records i has in
    let inside = short_within own.run.records i short in
    elim (short_cases own.run.records i short) [
      | inl joins ↦ whole i inside joins short
      | inr misses ↦
          let long = is.places.all in
          let stands = slice_get-get_or own.places i 0 (omega (arith, inside, long)) in
          none (get_or own.places i 0) (is.places.below i (get_or own.places i 0) stands) (i, stands, misses)
    ]

missed_at : (own : OwnView) (place : ℕ) → IsMissedAt own place → HasCauseAt own TeamShort place
missed_at own place there = (there.0, there.1, team_short (missed_short own.run.records there.0 there.2))

-- the lesser of both places
pub searched : (own : OwnView) (rosters : List (Vec (Option ℕ))) (lacking found : Option ℕ) → IsOwn own
    → AreAllEnrolled own rosters lacking → FindsMissed own (unwrap_or lacking (length own.run.records)) found
    → IsSearched own rosters (option_or found lacking)
searched own rosters None None is enrolled none = (free_short own is enrolled.0 none, enrolled.1)
searched own rosters (Some place) None is lack none =
    first_place own place (lack.number, lack.stands, team_short lack.short)
    (λ k number below stands joins short. lack_first own place k number is lack below stands joins short)
    none
searched own rosters None (Some place) is enrolled first =
    first_place own place (missed_at own place first.missed)
    (λ k number below stands joins short.
    enrolled.0 number (short_within own.run.records number short) joins short)
    first.first
searched own rosters (Some bound) (Some place) is lack first =
    first_place own place (missed_at own place first.missed)
    (λ k number below stands joins short.
    lack_first own bound k number is lack (let before = first.before in omega (arith, below, before))
    stands joins short)
    first.first

-- ---- the tables

pub teams_within : (rs : List Record) (n : ℕ) (tasks : List ℕ) (teams : List (Option ℕ))
    → AreInTeams rs n tasks teams → AreTeamsWithin teams
teams_within rs n tasks teams are = λ index team stands.
    let inside = slice_get_within teams index (Some team) stands in
    let all = are.all in
    let within : index < length tasks = omega (arith, inside, all) in
    let lead =
    of (are.known index (get_or tasks index 0) team (slice_get-get_or tasks index 0 within) stands)
    within in
    omega (arith, lead, all)
  where
    of : {index task team : ℕ} → IsInTeam rs n tasks index task team → index < length tasks
        → team < length tasks
    of (in_own i below is same) within = omega (arith, within, same)
    of {team = team} (in_joined i m below joins is leads) within =
        slice_get_within tasks team leads.first.member leads.here

pub begins_short : (rs : List Record) (n most : ℕ) (tasks : List ℕ) (begins : List (Vec ℕ))
    → AreBarrierBegins rs n tasks begins → n ≤ most → AreShort begins most
begins_short rs n most tasks begins are less = λ index. elim (cases_lt index (length tasks)) [
  | inl within ↦
      let task = get_or tasks index 0 in
      let long = ap length (are.each index task (slice_get-get_or tasks index 0 within)) in
      let few = begins_few rs task n in
      omega (arith, long, few, less)
  | inr past ↦
      let made = are.within in
      let none : length (row_at begins index) ≡ 0 =
      ap (λ o. length (row_items o)) (slice_get_past begins index (omega (arith, past, made))) in
      omega (arith, none)
]

-- ---- the rosters

-- the member that a slot is of, in the words of the teams
slot_numbered : (rs : List Record) (tasks : List ℕ) (task mate number other i : ℕ) (m : Membership)
    → at joined rs i ≡ Some m → m.member ≡ task → slice_get tasks other ≡ Some mate
    → IsSlotOf rs (length rs) tasks m.parallel number other → IsMemberNumbered rs task number mate
slot_numbered rs tasks task mate number other i m joins is is_mate slot =
    let P : ℕ → Type 0 = λ k. IsMemberNumbered rs task k mate in
    let Q : ℕ → Type 0 = IsMemberNumbered rs task slot.m.index in
    let own = place_member rs m.parallel (length rs) i m (at_within joined rs i m joins) joins refl in
    let mates = place_member rs m.parallel (length rs) slot.place slot.m slot.before slot.joins slot.same in
    subst P slot.numbered
    (subst Q (same_Some slot.m.member mate (sym slot.here ∙ is_mate))
    (together m.parallel m slot.m own is mates))

-- a member's number in the words of the teams
record AreNumbered (rs : List Record) (task number mate : ℕ) : Type 0 where
  own : Membership
  other : Membership
  own_place : ℕ
  other_place : ℕ
  own_joins : at joined rs own_place ≡ Some own
  other_joins : at joined rs other_place ≡ Some other
  own_is : own.member ≡ task
  other_is : other.member ≡ mate
  same : own.parallel ≡ other.parallel
  numbered : other.index ≡ number

numbered_cases : (rs : List Record) (task number mate : ℕ) → IsMemberNumbered rs task number mate
    → (IsInitial rs task × (mate ≡ task) × (number ≡ 0)) ⊎ AreNumbered rs task number mate
numbered_cases rs task number mate (alone initial) = inl (initial, refl, refl)
numbered_cases rs task number mate (together parallel own other has_own is_own has_other) =
    let first = member_place rs parallel (length rs) own has_own in
    let second = member_place rs parallel (length rs) other has_other in
    inr (record {
      own = own;
      other = other;
      own_place = first.place;
      other_place = second.place;
      own_joins = first.joins;
      other_joins = second.joins;
      own_is = is_own;
      other_is = refl;
      same = first.same ∙ sym second.same;
      numbered = refl;
    })

-- the one slot of an initial task
only_slot : (slots : List (Option ℕ)) (index number other : ℕ) → slots ≡ Some index ∷ []
    → slice_get slots number ≡ Some (Some other) → (number ≡ 0) × (other ≡ index)
only_slot slots index number other is stands =
    let one : length slots ≡ 1 = ap length is in
    let inside = slice_get_within slots number (Some other) stands in
    let first : number ≡ 0 = omega (arith, one, inside) in (
      first,
      same_Some other index
          (same_Some (Some other) (Some index)
          (sym stands ∙ ap (slice_get slots) first ∙ ap (λ l. slice_get l 0) is)),
    )

own_numbered : (rs : List Record) (tasks : List ℕ) (index task other mate number : ℕ)
    (slots : List (Option ℕ))
    → IsFreeOf rs CreatedTwice → AreApart tasks → IsInitial rs task → slice_get tasks index ≡ Some task
    → slice_get tasks other ≡ Some mate → slots ≡ Some index ∷ []
    → (slice_get slots number ≡ Some (Some other)) ↔ IsMemberNumbered rs task number mate
own_numbered rs tasks index task other mate number slots free apart initial is_task is_mate is = (
  λ stands.
      let only = only_slot slots index number other is stands in
      let P : ℕ → Type 0 = λ k. IsMemberNumbered rs task k mate in
      let Q : ℕ → Type 0 = IsMemberNumbered rs task 0 in
      let same : task ≡ mate =
      same_Some task mate (sym is_task ∙ ap (slice_get tasks) (sym only.1) ∙ is_mate) in
      subst P (sym only.0) (subst Q same (alone initial)),
  λ numbered. elim (numbered_cases rs task number mate numbered) [
    | inl own ↦
        let same : other ≡ index = apart other index task (is_mate ∙ ap Some own.1) is_task in
        ap (slice_get slots) own.2 ∙ ap (λ l. slice_get l 0) is ∙ ap (λ k. Some (Some k)) (sym same)
    | inr both ↦
        absurd
        (initial_once rs initial.0 both.own_place task both.own free initial.1 both.own_joins both.own_is)
  ],
)

joined_numbered : (rs : List Record) (tasks : List ℕ) (task other mate number i : ℕ) (m : Membership)
    (slots : List (Option ℕ))
    → IsFreeOf rs CreatedTwice → at joined rs i ≡ Some m → m.member ≡ task → slice_get tasks other ≡ Some mate
    → AreSlots rs (length rs) tasks m.parallel slots
    → (slice_get slots number ≡ Some (Some other)) ↔ IsMemberNumbered rs task number mate
joined_numbered rs tasks task other mate number i m slots free joins is is_mate are = (
  λ stands. slot_numbered rs tasks task mate number other i m joins is is_mate (are.only number other stands),
  λ numbered. elim (numbered_cases rs task number mate numbered) [
    | inl own ↦ absurd (initial_once rs own.0.0 i task m free own.0.1 joins is)
    | inr both ↦
        let one =
        (joined_once rs both.own_place i both.own m free both.own_joins joins (both.own_is ∙ sym is)).1 in
        let same : both.other.parallel ≡ m.parallel =
        sym both.same ∙ ap (λ (x : Membership). x.parallel) one in
        ap (slice_get slots) (sym both.numbered)
        ∙ are.enrolled both.other_place other both.other
        (at_within joined rs both.other_place both.other both.other_joins) both.other_joins same
        (is_mate ∙ ap Some (sym both.other_is))
  ],
)

numbered_in : (rs : List Record) (tasks : List ℕ) (rosters : List (Vec (Option ℕ)))
    (index task team other mate number : ℕ) (roster : Vec (Option ℕ))
    → IsFreeOf rs CreatedTwice → AreApart tasks → AreEnrolled rs (length rs) tasks rosters
    → slice_get tasks index ≡ Some task → slice_get rosters team ≡ Some roster
    → slice_get tasks other ≡ Some mate → IsInTeam rs (length rs) tasks index task team
    → (slice_get roster.items number ≡ Some (Some other)) ↔ IsMemberNumbered rs task number mate
numbered_in rs tasks rosters index task team other mate number roster free apart are is_task is_roster is_mate
    (in_own i below is same) =
    own_numbered rs tasks index task other mate number roster.items free apart (i, is) is_task is_mate
    (are.own index task roster is_task (i, is) (ap (slice_get rosters) (sym same) ∙ is_roster))
numbered_in rs tasks rosters index task team other mate number roster free apart are is_task is_roster is_mate
    (in_joined i m below joins is leads) =
    joined_numbered rs tasks task other mate number i m roster.items free joins is is_mate
    (are.each m.parallel team roster leads is_roster)

-- a team has no empty slot where all its members began
full_slots : (rs : List Record) (tasks : List ℕ) (parallel number : ℕ) (slots : List (Option ℕ))
    → AreSlots rs (length rs) tasks parallel slots → number < length slots
    → (other : ℕ) × (slice_get slots number ≡ Some (Some other)) × (other < length tasks)
full_slots rs tasks parallel number slots are within =
    let long = are.long in
    let rest = are.rest in
    let found = all_taken slots number (omega (arith, long, rest)) within in
    let slot = are.only number found.0 found.1 in
    (found.0, found.1, slice_get_within tasks found.0 slot.m.member slot.here)

full_roster : (rs : List Record) (tasks : List ℕ) (rosters : List (Vec (Option ℕ))) (team number : ℕ)
    (roster : Vec (Option ℕ))
    → AreEnrolled rs (length rs) tasks rosters → slice_get rosters team ≡ Some roster
    → number < length roster.items
    → (other : ℕ) × (slice_get roster.items number ≡ Some (Some other)) × (other < length tasks)
full_roster rs tasks rosters team number roster are stands within = elim (are.other team roster stands) [
  | inl none ↦
      let nothing : length roster.items ≡ 0 = ap length none in absurd (omega (arith, nothing, within))
  | inr (inl leads) ↦
      full_slots rs tasks leads.0 number roster.items (are.each leads.0 team roster leads.1 stands) within
  | inr (inr own) ↦
      let is = are.own team own.0 roster own.1 own.2 stands in
      let one : length roster.items ≡ 1 = ap length is in
      let first : number ≡ 0 = omega (arith, one, within) in (
        team,
        ap (slice_get roster.items) first ∙ ap (λ l. slice_get l 0) is,
        slice_get_within tasks team own.0 own.1,
      )
]

-- each team has a roster
team_enrolled : (rs : List Record) (tasks : List ℕ) (teams : List (Option ℕ))
    (rosters : List (Vec (Option ℕ))) (index team : ℕ)
    → AreInTeams rs (length rs) tasks teams → AreEnrolled rs (length rs) tasks rosters
    → slice_get teams index ≡ Some (Some team) → team < length rosters
team_enrolled rs tasks teams rosters index team are enrolled stands =
    of (are.known index task team is_task stands)
  where
    task : ℕ
    task = get_or tasks index 0

    is_task : slice_get tasks index ≡ Some task
    is_task =
        let inside = slice_get_within teams index (Some team) stands in
        let all = are.all in slice_get-get_or tasks index 0 (omega (arith, inside, all))

    of : IsInTeam rs (length rs) tasks index task team → team < length rosters
    of (in_own i below is same) =
        let inside = enrolled.initials index task is_task (i, is) in omega (arith, same, inside)
    of (in_joined i m below joins is leads) = enrolled.leads m.parallel team leads

pub rosters_are : (rs : List Record) (tasks : List ℕ) (teams : List (Option ℕ))
    (rosters : List (Vec (Option ℕ)))
    → IsFreeOf rs CreatedTwice → AreApart tasks → AreInTeams rs (length rs) tasks teams
    → AreEnrolled rs (length rs) tasks rosters → AreRosters rs tasks teams rosters
rosters_are rs tasks teams rosters free apart are enrolled = record {
  within = λ index team stands. team_enrolled rs tasks teams rosters index team are enrolled stands;
  each =
      λ index task team number other mate roster is_task is_team is_roster is_mate.
      numbered_in rs tasks rosters index task team other mate number roster free apart enrolled is_task
      is_roster is_mate (are.known index task team is_task is_team);
  full =
      λ team number roster is_roster within.
      full_roster rs tasks rosters team number roster enrolled is_roster within;
}

-- ---- the tables

pub tables_fewest : (tables : TablesView) → AreTables tables
    → AreFewestOf tables.run.records tables.run.family.tasks tables.teams tables.fewest
tables_fewest tables are = record {
  within =
      teams_within tables.run.records (length tables.run.records) tables.run.family.tasks tables.teams
      are.teams;
  begins = tables.begins;
  are_begins = are.begins;
  are_fewest = are.fewest;
}

-- the teams, where no record shows a lack
pub teams_of : (tables : TablesView) (rosters : List (Vec (Option ℕ))) → AreTables tables
    → IsSearched (tables_own tables) rosters None
    → IsTeams (record {
      run = tables.run;
      places = tables.places;
      teams = tables.teams;
      rosters = rosters;
      begins = tables.begins;
      numbers = tables.numbers;
    })
teams_of tables rosters are found = record {
  run = are.run;
  placed = are.placed;
  teams =
      teams_are tables.run.records tables.run.family.tasks tables.teams are.run.family.once
      are.run.family.makers.apart are.teams;
  rosters =
      rosters_are tables.run.records tables.run.family.tasks tables.teams rosters are.run.family.once
      are.run.family.makers.apart are.teams found.1;
  begins = are.begins;
  numbers = are.numbers;
  whole = found.0;
}
