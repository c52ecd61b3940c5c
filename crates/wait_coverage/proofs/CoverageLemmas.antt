-- The ends of waits, and the credit that each waits for.
use Rattle.std.proofs.Common.{◌≡◌, ◌∙◌, ℕ, ◌<◌, ◌+◌, List, [], ◌∷◌, ◌++◌, length, get_or, Option, Some, None}
use Rattle.std.proofs.Common.{refl, sym, ap, subst, arith, inl, inr}
use Rattle.std.proofs.lemmas.Bool.{cases_eq, cases_lt}
use Rattle.std.specs.Global.{Vec}
use Rattle.std.proofs.lemmas.Option.{same_Some, slice_get_within, slice_get-get_or}
use Rattle.std.proofs.lemmas.List.{length_push}
use Rattle.std.specs.Prelude.{slice_get, take, Contains, MatchOption}
use Rattle.ompt_events.specs.declared.records.Record.{Record}
use Rattle.ompt_events.specs.declared.names.SyncKind.{SyncKind}
use Rattle.ompt_events.specs.declared.names.SyncKind.TheVariants.{Taskwait, Taskgroup}
use Rattle.ompt_events.specs.Regions.{IsRegion, IsBarrierBegin}
use Rattle.ompt_events.specs.Causes.{missed, team_short}
use Rattle.ompt_events.proofs.ListLemmas.{get_pushed, get_last, pushed_cases, get_contains, contains_get}
use Rattle.ompt_events.specs.declared.names.Endpoint.TheVariants.{Begin, BeginEnd}
use Rattle.ompt_events.specs.Records.{region}
use Rattle.ompt_events.specs.Places.{at, seen_at}
use Rattle.ompt_events.specs.Tree.{HasPath}
use Rattle.ompt_events.specs.Regions.{ended, at_once}
use Rattle.ompt_events.proofs.RecordLemmas.{at_through}
use Rattle.ompt_events.proofs.RegionLemmas.{own_begin}
use Rattle.packed_trace.specs.Named.{subject}
use Rattle.task_tree.specs.Family.{FamilyView, IsFamilyOf}
use Rattle.task_tree.proofs.NamedLemmas.{region_subject}
use Rattle.task_tree.proofs.PathLemmas.{root_known}
use Rattle.credit_ledger.specs.declared.entry.Entry.{Entry}
use Rattle.credit_ledger.specs.declared.entry.Span.{Span}
use Rattle.credit_ledger.specs.declared.entry.Cover.{Cover}
use Rattle.credit_ledger.specs.declared.entry.Cover.TheVariants.{Children, Descendants}
use Rattle.credit_ledger.specs.Entries.{IsSpanHeld}
use Rattle.credit_ledger.specs.TraceEntries.{IsLedgerOf, HasRightEntries}
use Rattle.wait_coverage.specs.Spans as spans
use Rattle.wait_coverage.specs.Spans.{AreSpans, AreMemberSpans, IsSpan, IsCoverComplete}
use Rattle.task_tree.specs.Own.{OwnView, IsOwn}
use Rattle.task_tree.specs.Runs.{RunView}
use Rattle.task_tree.specs.Families.{IsOwnOf}
use Rattle.task_states.specs.Regions.{RegionsView}
use Rattle.task_states.specs.States.{StatesView, IsStates}
use Rattle.teams.specs.Teams.{TeamsView, own_of, IsTeams, AreTeams, IsMemberNumbered}
use Rattle.wait_coverage.specs.Waits.{EndsNoWaitAt, IsWaitAt, waits, groups, meets, cover_of}
use Rattle.wait_coverage.specs.Waits.{IsFirstCoveredUnfinished}
use Rattle.wait_coverage.specs.Waits.{waiting}
use Rattle.wait_coverage.specs.Coverage.{IsEnd, IsEndPlace, AreWaitEnds, AreWaits, IsEndNumber}
use Rattle.wait_coverage.specs.Coverage.{IsFirstUnfinishedAnswer}
use Rattle.wait_coverage.specs.Coverage.{IsCoverAt, IsOnly, HasBegun, HaveBegun, IsMemberSpan, AreRosterSpans}
use Rattle.wait_coverage.specs.Coverage.{CoverageView, IsCoverage, AreFirstUnfinished}
use Rattle.wait_coverage.specs.declared.waits.Wait.{Wait}
use Rattle.wait_coverage.specs.declared.waits.Wait.TheVariants.{Taskwait as ForTaskwait}
use Rattle.wait_coverage.specs.declared.waits.Wait.TheVariants.{Taskgroup as ForTaskgroup}
use Rattle.wait_coverage.specs.declared.waits.Wait.TheVariants.{Barrier as ForBarrier}
use Rattle.teams.proofs.RegionEndLemmas.{ends_at}
use Rattle.wait_coverage.specs.Done.{DoneView, records_of, IsDoneView, AreDone, AreChildrenDone}
use Rattle.wait_coverage.proofs.HeldLemmas.{own_children_done}
use Rattle.wait_coverage.proofs.CreditLaw.{held_is_complete}
use Rattle.teams.proofs.BarrierLemmas.{barrier_is_other, begun_subject, begin_says}
use Rattle.wait_coverage.proofs.MateLemmas.{mate_of_number, begin_within}
use Rattle.teams.proofs.MemberLemmas.{mate_index}
use Rattle.wait_coverage.proofs.UnfinishedLemmas.{barrier_waits}
use Rattle.task_states.specs.Rows.{row_at}
use Rattle.task_states.proofs.RowLemmas.{row_there}

-- ---- the run

-- the teams of the states of a trace are those of its run in the tasks' own order
pub build_own : (rs : List Record) (states : StatesView) (regions : RegionsView) (teams : TeamsView)
    → states.run.records ≡ rs → IsStates states → regions ≡ states.regions → teams.run ≡ regions.own.run
    → teams.places ≡ regions.own.places → IsOwnOf rs (own_of teams)
build_own rs states regions teams records is same run places =
    let P : List Record → Type 0 = λ l. IsOwnOf l states.regions.own in
    let Q : OwnView → Type 0 = IsOwnOf rs in
    let own : own_of teams ≡ states.regions.own =
    ap (λ (r : RunView). own_at r teams.places) run ∙ ap (own_at regions.own.run) places
    ∙ ap (λ (r : RegionsView). r.own) same in
    subst Q (sym own) (subst P records is.own)
  where
    own_at : RunView → List ℕ → OwnView
    own_at run places = record { run = run; places = places }

-- ---- the ends

no_end : (rs : List Record) (i : ℕ) → EndsNoWaitAt rs i → IsEnd rs i → ⊥
no_end rs i ends_none (task, begin, kind, there, is) = ends_none task begin kind is there

wait_end : (rs : List Record) (tasks : List ℕ) (i : ℕ) (wait : Wait) → IsWaitAt rs tasks i wait → IsEnd rs i
wait_end rs tasks i wait (waits {parent = parent} {begin = begin} is_parent there) =
    (parent, begin, Taskwait, there, refl)
wait_end rs tasks i wait (groups {parent = parent} {begin = begin} is_parent there) =
    (parent, begin, Taskgroup, there, refl)
wait_end rs tasks i wait (meets {own = own} {begin = begin} {kind = kind} is_own there barrier begins) =
    (own, begin, kind, there, barrier_waits kind barrier)

pub ends_start : (own : OwnView) (ends : List ℕ) → ends ≡ [] → AreWaitEnds own 0 ends
ends_start own ends empty = record {
  each = λ i below is. absurd (omega arith);
  only = λ k i there. absurd (nothing k i there);
  rising = λ k j i after less there then. absurd (nothing k i there);
}
  where
    nothing : (k i : ℕ) → slice_get ends k ≡ Some i → ⊥
    nothing k i there =
        let inside = slice_get_within ends k i there in
        let none = ap length empty in omega (arith, inside, none)

-- the end at a place is the record that stands there
one_end : (own : OwnView) (number place : ℕ) → IsOwn own → slice_get own.places number ≡ Some place
    → IsEndPlace own place → IsEnd own.run.records number
one_end own number place is stands (other, there, end) =
    let P : ℕ → Type 0 = IsEnd own.run.records in
    subst P (is.places.apart other number place there stands) end

pub ends_other : (own : OwnView) (n number : ℕ) (ends : List ℕ) → IsOwn own
    → slice_get own.places number ≡ Some n → AreWaitEnds own n ends → EndsNoWaitAt own.run.records number
    → AreWaitEnds own (n + 1) ends
ends_other own n number ends is_own stands are ends_none = record {
  each = λ i below is. elim (cases_eq i n) [
    | inl same ↦
        absurd
        (let P : ℕ → Type 0 = IsEndPlace own in
        no_end own.run.records number ends_none (one_end own number n is_own stands (subst P same is)))
    | inr apart ↦ are.each i (omega (arith, below, apart)) is
  ];
  only = λ k i there. let old = are.only k i there in let less = old.0 in (omega (arith, less), old.1);
  rising = are.rising;
}

pub ends_more : (own : OwnView) (n number : ℕ) (wait : Wait) (ends : List ℕ)
    → slice_get own.places number ≡ Some n → AreWaitEnds own n ends
    → IsWaitAt own.run.records own.run.family.tasks number wait → AreWaitEnds own (n + 1) (ends ++ n ∷ [])
ends_more own n number wait ends stands are is_wait = record {
  each = λ i below is. elim (cases_eq i n) [
    | inl same ↦
        get_contains (ends ++ n ∷ []) i (length ends)
        (get_last ends n (length ends) refl ∙ ap Some (sym same))
    | inr apart ↦
        let found = contains_get ends i (are.each i (omega (arith, below, apart)) is) in
        get_contains (ends ++ n ∷ []) i found.0 (get_pushed ends n i found.0 found.1)
  ];
  only = λ k i there. elim (pushed_cases ends n i k there) [
    | inl old ↦ let known = are.only k i old in let less = known.0 in (omega (arith, less), known.1)
    | inr last ↦
        let same = last.1 in
        let P : ℕ → Type 0 = IsEndPlace own in (
          omega (arith, same),
          subst P same (number, stands, wait_end own.run.records own.run.family.tasks number wait is_wait),
        )
  ];
  rising = λ k j i after less there then. elim (pushed_cases ends n after j then) [
    | inl old ↦ elim (pushed_cases ends n i k there) [
      | inl before ↦ are.rising k j i after less before old
      | inr last ↦
          let inside = slice_get_within ends j after old in
          let end = last.0 in absurd (omega (arith, inside, end, less))
    ]
    | inr last ↦ elim (pushed_cases ends n i k there) [
      | inl before ↦ let low = (are.only k i before).0 in let same = last.1 in omega (arith, low, same)
      | inr both ↦ let one = both.0 in let other = last.0 in absurd (omega (arith, one, other, less))
    ]
  ];
}

pub waits_start : (own : OwnView) (ends : List ℕ) (found : List Wait) → ends ≡ [] → found ≡ []
    → AreWaits own ends found
waits_start own ends found empty no_wait = record {
  all = ap length no_wait ∙ sym (ap length empty);
  each =
      λ k place number wait there at_place stands.
      absurd
      (let inside = slice_get_within ends k place there in
      let none = ap length empty in omega (arith, inside, none));
}

pub waits_more : (own : OwnView) (n number : ℕ) (wait : Wait) (ends : List ℕ) (found : List Wait) → IsOwn own
    → slice_get own.places number ≡ Some n → AreWaits own ends found
    → IsWaitAt own.run.records own.run.family.tasks number wait
    → AreWaits own (ends ++ n ∷ []) (found ++ wait ∷ [])
waits_more own n number wait ends found is_own at_n are is_wait = record {
  all = length_push found wait ∙ ap (λ k. k + 1) are.all ∙ sym (length_push ends n);
  each = λ k i one other there at_place stands. elim (pushed_cases ends n i k there) [
    | inl old ↦ elim (pushed_cases found wait other k stands) [
      | inl before ↦ are.each k i one other old at_place before
      | inr last ↦
          let inside = slice_get_within ends k i old in
          let end = last.0 in let all = are.all in absurd (omega (arith, inside, end, all))
    ]
    | inr end ↦ elim (pushed_cases found wait other k stands) [
      | inl before ↦
          let inside = slice_get_within found k other before in
          let at_end = end.0 in let all = are.all in absurd (omega (arith, inside, at_end, all))
      | inr last ↦
          let P : ℕ → Type 0 = λ j. IsWaitAt own.run.records own.run.family.tasks j other in
          let Q : Wait → Type 0 = IsWaitAt own.run.records own.run.family.tasks number in
          subst P (is_own.places.apart number one n at_n (at_place ∙ ap Some (sym end.1)))
          (subst Q last.1 is_wait)
    ]
  ];
}

-- ---- the spans

begin_subject : (rs : List Record) (i task begin : ℕ) (kind : SyncKind) → IsRegion rs i task kind begin
    → at subject rs begin ≡ Some task
begin_subject rs i task begin kind (ended ends) =
    let own = own_begin rs i task begin kind ends in
    at_through region subject (task, own.kind, Begin) task rs begin (region_subject task own.kind Begin)
    own.begins
begin_subject rs i task begin kind (at_once says) =
    at_through region subject (task, kind, BeginEnd) task rs i (region_subject task kind BeginEnd) says

end_subject : (rs : List Record) (i task begin : ℕ) (kind : SyncKind) → IsRegion rs i task kind begin
    → at subject rs i ≡ Some task
end_subject rs i task begin kind there =
    let ends = ends_at rs i task begin kind there in
    at_through region subject (task, kind, ends.endpoint) task rs i (region_subject task kind ends.endpoint)
    ends.says

-- the records at which a wait begins and ends have numbers
pub wait_begin : (coverage : CoverageView) (index begin end : ℕ) → IsCoverage coverage
    → IsWaitAt coverage.teams.run.records coverage.teams.run.family.tasks end (ForTaskwait index begin)
    → begin < length coverage.numbers
wait_begin coverage index begin end is (waits {parent = parent} is_parent there) =
    let ends = ends_at coverage.teams.run.records end parent begin Taskwait there in
    let low = ends.below in
    let inside = ends.inside in
    let all = is.numbers.all in
    omega (arith, low, inside, all)

pub group_numbers : (coverage : CoverageView) (index begin last end : ℕ) → IsCoverage coverage
    → IsWaitAt coverage.teams.run.records coverage.teams.run.family.tasks end (ForTaskgroup index begin last)
    → (begin < length coverage.numbers) × (last < length coverage.numbers)
group_numbers coverage index begin last end is (groups {parent = parent} is_parent there) =
    let ends = ends_at coverage.teams.run.records end parent begin Taskgroup there in
    let low = ends.below in
    let inside = ends.inside in
    let all = is.numbers.all in
    (omega (arith, low, inside, all), omega (arith, inside, all))

-- the span of a task stands where the task does
pub span_is : (rs : List Record) (family : FamilyView) (index id : ℕ) (span : Span) → IsFamilyOf rs family
    → slice_get family.tasks index ≡ Some id
    → ((root : ℕ) (path : List ℕ) → HasPath rs root id path → HasPath rs span.root id span.path)
    → IsSpan rs id span.from span.to span
span_is rs family index id span is here stands =
    let known = root_known rs family id index is here in
    record { stands = stands known.0 known.1 known.2; from_there = refl; to_there = refl }

pub wait_spans : (coverage : CoverageView) (index begin to end : ℕ) (list : List Span) → IsCoverage coverage
    → slice_get coverage.numbers begin ≡ Some to
    → ((id : ℕ) → slice_get coverage.teams.run.family.tasks index ≡ Some id
    → IsOnly coverage.teams.run.records id 0 to list)
    → IsWaitAt coverage.teams.run.records coverage.teams.run.family.tasks end (ForTaskwait index begin)
    → AreSpans coverage.teams.run.records end Children list
wait_spans coverage index begin to end list is is_to each (waits {parent = parent} is_parent there) =
    let one = each parent is_parent in
    let P : List Span → Type 0 = AreSpans coverage.teams.run.records end Children in
    subst P (sym one.only) (spans.waited there (record {
      stands = one.is_span.stands;
      from_there = one.is_span.from_there;
      to_there =
          one.is_span.to_there
          ∙ is.numbers.each begin to is_to parent
          (begin_subject coverage.teams.run.records end parent begin Taskwait there);
    }))

pub group_spans : (coverage : CoverageView) (index begin last from to end : ℕ) (list : List Span)
    → IsCoverage coverage → slice_get coverage.numbers begin ≡ Some from
    → slice_get coverage.numbers last ≡ Some to
    → ((id : ℕ) → slice_get coverage.teams.run.family.tasks index ≡ Some id
    → IsOnly coverage.teams.run.records id from to list)
    → IsWaitAt coverage.teams.run.records coverage.teams.run.family.tasks end (ForTaskgroup index begin last)
    → AreSpans coverage.teams.run.records end Descendants list
group_spans coverage index begin last from to end list is is_from is_to each
    (groups {parent = parent} is_parent there) =
    let one = each parent is_parent in
    let P : List Span → Type 0 = AreSpans coverage.teams.run.records end Descendants in
    subst P (sym one.only) (spans.grouped there (record {
      stands = one.is_span.stands;
      from_there =
          one.is_span.from_there
          ∙ is.numbers.each begin from is_from parent
          (begin_subject coverage.teams.run.records end parent begin Taskgroup there);
      to_there =
          one.is_span.to_there
          ∙ is.numbers.each end to is_to parent
          (end_subject coverage.teams.run.records end parent begin Taskgroup there);
    }))

pub barrier_spans : (rs : List Record) (tasks : List ℕ) (index number end : ℕ) (list : List Span)
    → ((id : ℕ) → slice_get tasks index ≡ Some id → AreMemberSpans rs id number list)
    → IsWaitAt rs tasks end (ForBarrier index number) → AreSpans rs end Descendants list
barrier_spans rs tasks index number end list each (meets {own = own} is_own there barrier begins) =
    spans.synchronised number there barrier begins (each own is_own)

-- what ends there
pub wait_cover : (rs : List Record) (tasks : List ℕ) (end : ℕ) (wait : Wait) → IsWaitAt rs tasks end wait
    → IsCoverAt rs end (cover_of wait)
wait_cover rs tasks end wait (waits {parent = parent} {begin = begin} is_parent there) =
    (parent, begin, Taskwait, there, refl, (λ same. refl, λ same. refl))
wait_cover rs tasks end wait (groups {parent = parent} {begin = begin} is_parent there) =
    (parent, begin, Taskgroup, there, refl, (λ same. absurd (cc), λ same. absurd (cc)))
wait_cover rs tasks end wait (meets {own = own} {begin = begin} {kind = kind} is_own there barrier begins) = (
  own,
  begin,
  kind,
  there,
  barrier_waits kind barrier,
  (λ same. absurd (cc), λ same. absurd (barrier_is_other kind Taskwait barrier refl same)),
)

-- ---- the members of a team

-- the place at which a task begins its barrier with a number
pub record IsBarrierStart (rs : List Record) (tasks : List ℕ) (numbers : List ℕ) (index number start : ℕ) :
    Type 0
  where
    pub within : index < length tasks
    pub inside : start < length numbers
    pub begins : (id : ℕ) → slice_get tasks index ≡ Some id → IsBarrierBegin rs id number start

has_start : (coverage : CoverageView) (index number start : ℕ) → IsCoverage coverage
    → slice_get (row_at coverage.teams.begins index) number ≡ Some start
    → IsBarrierStart coverage.teams.run.records coverage.teams.run.family.tasks coverage.numbers index number
    start
has_start coverage index number start is there =
    let rs = coverage.teams.run.records in
    let tasks = coverage.teams.run.family.tasks in
    let row = row_there coverage.teams.begins index number start there in
    let below = slice_get_within coverage.teams.begins index row.0 row.1 in
    let few = is.teams.begins.within in
    let within : index < length tasks = omega (arith, below, few) in
    let first = starts (get_or tasks index 0) (slice_get-get_or tasks index 0 within) in
    let inside = begin_within rs (get_or tasks index 0) number start first in
    let numbers = is.numbers.all in
    record { within = within; inside = omega (arith, inside, numbers); begins = starts }
  where
    starts : (id : ℕ) → slice_get coverage.teams.run.family.tasks index ≡ Some id
        → IsBarrierBegin coverage.teams.run.records id number start
    starts id is_id = ap (λ l. slice_get l number) (sym (is.teams.begins.each index id is_id)) ∙ there

-- the same of what is read in the table
pub read_start : (coverage : CoverageView) (index number : ℕ) (list : List ℕ) → IsCoverage coverage
    → HasBegun coverage.teams.begins number index → list ≡ row_at coverage.teams.begins index
    → IsBarrierStart coverage.teams.run.records coverage.teams.run.family.tasks coverage.numbers index number
    (get_or list number 0)
read_start coverage index number list is begun read =
    let long = ap length read in
    has_start coverage index number (get_or list number 0) is
    (ap (λ l. slice_get l number) (sym read)
    ∙ slice_get-get_or list number 0 (omega (arith, begun, long)))

pub member_span_is : (coverage : CoverageView) (index number start to id : ℕ) (span : Span)
    → IsCoverage coverage
    → IsBarrierStart coverage.teams.run.records coverage.teams.run.family.tasks coverage.numbers index number
    start
    → slice_get coverage.numbers start ≡ Some to → slice_get coverage.teams.run.family.tasks index ≡ Some id
    → IsSpan coverage.teams.run.records id 0 to span → IsMemberSpan coverage.teams.run.records id number span
member_span_is coverage index number start to id span is starts is_to is_id is_span =
    let rs = coverage.teams.run.records in
    let begins = starts.begins id is_id in (
      start,
      begins,
      record {
        stands = is_span.stands;
        from_there = is_span.from_there;
        to_there =
            is_span.to_there
            ∙ is.numbers.each start to is_to id
            (begun_subject rs start id (begin_says rs id number start begins));
      },
    )

-- the member of the task's team with a number: a task in the roster
pub record IsSeated (rs : List Record) (tasks : List ℕ) (own place : ℕ) (roster : List (Option ℕ)) : Type 0
  where
    pub index : ℕ
    pub member : ℕ
    pub here : slice_get roster place ≡ Some (Some index)
    pub is_member : slice_get tasks index ≡ Some member
    pub numbered : IsMemberNumbered rs own place member

seated : (known : TeamsView) (task team own place : ℕ) (roster : Vec (Option ℕ)) → IsTeams known
    → slice_get known.run.family.tasks task ≡ Some own → slice_get known.teams task ≡ Some (Some team)
    → slice_get known.rosters team ≡ Some roster → place < length roster.items
    → IsSeated known.run.records known.run.family.tasks own place roster.items
seated known task team own place roster is is_own is_team is_roster below =
    let full = is.rosters.full team place roster is_roster below in
    let is_member = slice_get-get_or known.run.family.tasks full.0 0 full.2 in
    record {
      index = full.0;
      member = get_or known.run.family.tasks full.0 0;
      here = full.1;
      is_member = is_member;
      numbered =
          (is.rosters.each task own team place full.0 (get_or known.run.family.tasks full.0 0) roster is_own
          is_team is_roster is_member).0
          full.1;
    }

-- no member misses a barrier that ends
pub have_begun : (known : TeamsView) (task team number end : ℕ) (roster : Vec (Option ℕ)) → IsTeams known
    → slice_get known.teams task ≡ Some (Some team) → slice_get known.rosters team ≡ Some roster
    → IsWaitAt known.run.records known.run.family.tasks end (ForBarrier task number)
    → HaveBegun known.begins number roster.items
have_begun known task team number end roster is is_team is_roster
    (meets {own = own} {begin = begin} {kind = kind} is_own there barrier begins) place below =
    let seat = seated known task team own place roster is is_own is_team is_roster below in
    let same = is.begins.each seat.index seat.member seat.is_member in (
      seat.index,
      seat.here,
      elim (cases_lt number (length (row_at known.begins seat.index))) [
        | inl less ↦ less
        | inr more ↦
            absurd (is.whole end (team_short (missed own seat.member begin number kind there barrier begins
            (mate_of_number known.run.records own place seat.member seat.numbered)
            (λ start begun.
            let found =
            slice_get_within (row_at known.begins seat.index) number start
            (ap (λ l. slice_get l number) same ∙ begun) in
            omega (arith, found, more)))))
      ],
    )

pub member_spans_are : (known : TeamsView) (task team own number : ℕ) (roster : Vec (Option ℕ))
    (list : List Span)
    → IsTeams known → slice_get known.run.family.tasks task ≡ Some own
    → slice_get known.teams task ≡ Some (Some team) → slice_get known.rosters team ≡ Some roster
    → AreRosterSpans known.run.records known.run.family.tasks number roster.items (length roster.items) list
    → AreMemberSpans known.run.records own number list
member_spans_are known task team own number roster list is is_own is_team is_roster are = record {
  each = λ place span there.
      let inside = slice_get_within list place span there in
      let count = are.count in
      let seat =
      seated known task team own place roster is is_own is_team is_roster
      (omega (arith, inside, count)) in
      let found = are.each place seat.index seat.member span seat.here seat.is_member there in
      (seat.member, found.0, seat.numbered, found.1, found.2);
  all = λ place member numbered.
      let other =
      mate_index known.run.records known.run.family.tasks task own member is.run.family.noted is_own
      (mate_of_number known.run.records own place member numbered) in
      let there =
      (is.rosters.each task own team place other.0 member roster is_own is_team is_roster other.1).1
      numbered in
      let inside = slice_get_within roster.items place (Some other.0) there in
      let count = are.count in
      omega (arith, inside, count);
}

pub teamless_spans : (rs : List Record) (tasks : List ℕ) (teams : List (Option ℕ)) (task own number : ℕ)
    (list : List Span)
    → AreTeams rs tasks teams → slice_get tasks task ≡ Some own → slice_get teams task ≡ Some None → list ≡ []
    → AreMemberSpans rs own number list
teamless_spans rs tasks teams task own number list are is_own no_team empty = record {
  each =
      λ place span there.
      absurd
      (let inside = slice_get_within list place span there in
      let none = ap length empty in omega (arith, inside, none));
  all =
      λ place member numbered.
      absurd (are.none task own member is_own no_team (mate_of_number rs own place member numbered));
}

pub roster_more : (rs : List Record) (tasks : List ℕ) (number n index : ℕ) (roster : List (Option ℕ))
    (list : List Span) (last : Span)
    → AreRosterSpans rs tasks number roster n list → slice_get roster n ≡ Some (Some index)
    → ((id : ℕ) → slice_get tasks index ≡ Some id → IsMemberSpan rs id number last)
    → AreRosterSpans rs tasks number roster (n + 1) (list ++ last ∷ [])
roster_more rs tasks number n index roster list last are here is = record {
  count = length_push list last ∙ ap (λ k. k + 1) are.count;
  each = λ place other member span seat is_member there. elim (pushed_cases list last span place there) [
    | inl old ↦ are.each place other member span seat is_member old
    | inr new ↦
        let at_n : place ≡ n = new.0 ∙ are.count in
        let same_seat : Some index ≡ Some other =
        same_Some (Some index) (Some other) (sym here ∙ ap (slice_get roster) (sym at_n) ∙ seat) in
        let same = same_Some index other same_seat in
        let P : Span → Type 0 = IsMemberSpan rs member number in
        subst P new.1 (is member (ap (slice_get tasks) same ∙ is_member))
  ];
}

-- ---- what is held is finished

pub held_more : (entries : List Entry) (cover : Cover) (list : List Span) (n : ℕ) (last : Span)
    → ((k : ℕ) (span : Span) → k < n → slice_get list k ≡ Some span → IsSpanHeld entries span cover)
    → slice_get list n ≡ Some last → IsSpanHeld entries last cover → (k : ℕ) (span : Span) → k < n + 1
    → slice_get list k ≡ Some span → IsSpanHeld entries span cover
held_more entries cover list n last before here held k span below there = elim (cases_eq k n) [
  | inl same ↦
      let P : Span → Type 0 = λ s. IsSpanHeld entries s cover in
      subst P (same_Some last span (sym here ∙ ap (slice_get list) (sym same) ∙ there)) held
  | inr apart ↦ before k span (omega (arith, below, apart)) there
]

pub held_complete : (coverage : CoverageView) (entries : List Entry) (end seen : ℕ) (cover : Cover)
    (list : List Span)
    → IsCoverage coverage → HasRightEntries coverage.teams.run.records
    → IsLedgerOf coverage.teams.run.records entries → AreSpans coverage.teams.run.records end cover list
    → seen_at coverage.teams.run.records end ≡ seen
    → ((span : Span) → Contains list span → IsSpanHeld (take seen entries) span cover)
    → IsCoverComplete coverage.teams.run.records end
held_complete coverage entries end seen cover list is right ledger are names held =
    let P : ℕ → Type 0 = λ n. AreHeldBelow n in
    (held_is_complete coverage.teams.run.records entries end cover list is.teams.run.trace right
    is.teams.whole ledger are).1
    (subst P (sym names) held)
  where
    AreHeldBelow : ℕ → Type 0
    AreHeldBelow n = (span : Span) → Contains list span → IsSpanHeld (take n entries) span cover

-- one record is the end with an index
pub one_number_of : (coverage : CoverageView) (index end other : ℕ) → IsCoverage coverage
    → IsEndNumber coverage index end → IsEndNumber coverage index other → end ≡ other
one_number_of coverage index end other is (place, here, stands) (place', here', stands') =
    is.teams.placed.places.apart end other place stands
    (stands' ∙ ap Some (sym (same_Some place place' (sym here ∙ here'))))

-- what the search finds where the lengths are those of the records
pub first_of_unfinished : (known : TeamsView) (done : DoneView) (number end : ℕ) (found : Option ℕ)
    → done.teams ≡ known → IsDoneView done → AreDone done → number ≡ end
    → (AreChildrenDone done
    → MatchOption found (IsCoverComplete (records_of done) number)
    (IsFirstCoveredUnfinished (own_of done.teams) number))
    → MatchOption found (IsCoverComplete known.run.records end) (IsFirstCoveredUnfinished (own_of known) end)
first_of_unfinished known done number end found same is are at_end answer =
    let P : TeamsView → Type 0 =
    λ t.
    MatchOption found (IsCoverComplete t.run.records number) (IsFirstCoveredUnfinished (own_of t) number)
    in
    let Q : ℕ → Type 0 =
    λ e.
    MatchOption found (IsCoverComplete known.run.records e) (IsFirstCoveredUnfinished (own_of known) e) in
    subst Q at_end (subst P same (answer (own_children_done done is are)))

-- ---- several ends

pub none_asked : (coverage : CoverageView) (of : List ℕ) (found : List (Option ℕ)) → found ≡ []
    → AreFirstUnfinished coverage of 0 found
none_asked coverage of found empty = record {
  count = ap length empty;
  each =
      λ k index end answer asked here there.
      absurd
      (let inside = slice_get_within found k answer there in
      let none = ap length empty in omega (arith, inside, none));
}

pub one_more : (coverage : CoverageView) (of : List ℕ) (n index : ℕ) (answer : Option ℕ)
    (found : List (Option ℕ))
    → slice_get of n ≡ Some index → AreFirstUnfinished coverage of n found
    → ((end : ℕ) → IsEndNumber coverage index end → IsFirstUnfinishedAnswer coverage end answer)
    → AreFirstUnfinished coverage of (n + 1) (found ++ answer ∷ [])
one_more coverage of n index answer found asked are is = record {
  count = length_push found answer ∙ ap (λ k. k + 1) are.count;
  each = λ k other end x asked_there here there. elim (pushed_cases found answer x k there) [
    | inl old ↦ are.each k other end x asked_there here old
    | inr last ↦
        let at_n : k ≡ n = last.0 ∙ are.count in
        let same = same_Some other index (sym asked_there ∙ ap (slice_get of) at_n ∙ asked) in
        let P : Option ℕ → Type 0 = IsFirstUnfinishedAnswer coverage end in
        let Q : ℕ → Type 0 = λ k. IsEndNumber coverage k end in
        subst P last.1 (is end (subst Q same here))
  ];
}

-- the task of a wait has an index
pub waiting_within : (rs : List Record) (tasks : List ℕ) (i : ℕ) (wait : Wait) → IsWaitAt rs tasks i wait
    → waiting wait < length tasks
waiting_within rs tasks i wait (waits {parent = parent} {index = index} is_task there) =
    slice_get_within tasks index parent is_task
waiting_within rs tasks i wait (groups {parent = parent} {index = index} is_task there) =
    slice_get_within tasks index parent is_task
waiting_within rs tasks i wait (meets {own = own} {index = index} is_task there barrier begins) =
    slice_get_within tasks index own is_task
