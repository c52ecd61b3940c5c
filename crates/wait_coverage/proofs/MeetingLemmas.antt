-- The least ledger length at which what the end of a barrier covers is finished.
use Rattle.std.proofs.Common.{◌≡◌, ◌∙◌, ℕ, ◌<◌, ◌≤◌, ◌+◌, List, length, get_or, Some, None, refl, sym, ap}
use Rattle.std.proofs.Common.{subst, arith, inl, inr, true}
use Rattle.std.proofs.lemmas.Bool.{cases_eq}
use Rattle.std.proofs.lemmas.Option.{same_Some, slice_get_within, slice_get-get_or}
use Rattle.std.proofs.lemmas.List.{length-set}
use Rattle.std.proofs.Math.ListN.{set}
use Rattle.std.specs.Global.{Vec}
use Rattle.std.specs.Prelude.{slice_get}
use Rattle.ompt_events.specs.declared.records.Record.{Record}
use Rattle.ompt_events.specs.declared.names.SyncKind.{SyncKind}
use Rattle.ompt_events.specs.declared.names.SyncKind.TheVariants.{Taskwait, Taskgroup}
use Rattle.ompt_events.specs.Records.{region}
use Rattle.ompt_events.specs.Places.{at}
use Rattle.ompt_events.specs.Regions.{IsRegion, barrier_begun, IsBarrierBegin, waits_for_tasks}
use Rattle.ompt_events.specs.Coverage.{waited, grouped, synchronised}
use Rattle.ompt_events.specs.Teams.{IsTeammate}
use Rattle.ompt_events.proofs.PlaceLemmas.{at_within}
use Rattle.ompt_events.proofs.TreeLemmas.{child_before}
use Rattle.index_tables.specs.Numbering.{AreApart}
use Rattle.packed_trace.specs.Named.{subject}
use Rattle.task_tree.proofs.LinkLemmas.{get_set_same, get_set_other}
use Rattle.task_tree.proofs.LookupLemmas.{subject_calls}
use Rattle.task_tree.proofs.SubjectLemmas.{call_index}
use Rattle.wait_coverage.specs.Done.{DoneView, records_of, tasks_of}
use Rattle.wait_coverage.specs.Limits.{IsFamiliesLimit, IsWaitLimit, IsEndLimit, AreEndLimits}
use Rattle.wait_coverage.specs.Limits.{IsLeastFor, AreFamiliesEarly, IsEndLeast}
use Rattle.wait_coverage.specs.declared.limits.Node.{Node}
use Rattle.wait_coverage.specs.Meetings.{IsMeeting, AreMet, AreMetEarly, IsLimitRaised, AreMeetingsAdded}
use Rattle.task_states.specs.Rows.{row_at, AreSameRows}
use Rattle.teams.specs.Missed.{EndsBarrier, EndsNoBarrier, IsBarrierEnd}
use Rattle.teams.specs.Teams.{IsTeams}
use Rattle.teams.proofs.BarrierLemmas.{barrier_begins_at, begin_says, begun_subject, begun_region, one_number}
use Rattle.teams.proofs.BarrierLemmas.{barrier_is_other}
use Rattle.teams.proofs.RegionEndLemmas.{IsSameRegion, ends_at, one_region}
use Rattle.wait_coverage.proofs.EndCoverLemmas.{covers_cases}
use Rattle.wait_coverage.proofs.UnfinishedLemmas.{between}
use Rattle.task_states.proofs.RowLemmas.{row_here, row_there, row_set_same, row_set_other}

-- ---- the members' begins, one record more

-- where no member begins a barrier
pub met_other : (done : DoneView) (n : ℕ) (meetings : List (Vec ℕ)) → AreMet done n meetings
    → ((index task team : ℕ) → barrier_begun (at region (records_of done) n) ≡ Some task
    → slice_get (tasks_of done) index ≡ Some task → slice_get done.teams.teams index ≡ Some (Some team)
    → ⊥)
    → AreMet done (n + 1) meetings
met_other done n meetings are none = record {
  each = λ index task team number i is_task in_team starts below. elim (cases_eq i n) [
    | inl same ↦
        absurd
        (none index task team
        (ap (λ k. barrier_begun (at region (records_of done) k)) (sym same)
        ∙ begin_says (records_of done) task number i starts)
        is_task in_team)
    | inr apart ↦ are.each index task team number i is_task in_team starts (omega (arith, below, apart))
  ];
  least = λ team number limit stands m small all.
      are.least team number limit stands m small
      (λ index task i is_task in_team starts below.
      all index task i is_task in_team starts (omega (arith, below)));
}

in_row : (done : DoneView) (task number i : ℕ) (before after : List ℕ) → after ≡ before
    → IsMeeting done task number i before → IsMeeting done task number i after
in_row done task number i before after same meeting =
    let P : List ℕ → Type 0 = IsMeeting done task number i in subst P (sym same) meeting

-- more rows, and nothing in them
met_reached : (done : DoneView) (n : ℕ) (before after : List (Vec ℕ)) → AreSameRows before after
    → AreMet done n before → AreMet done n after
met_reached done n before after same are = record {
  each = λ index task team number i is_task in_team starts below.
      in_row done task number i (row_at before team) (row_at after team) (same team)
      (are.each index task team number i is_task in_team starts below);
  least =
      λ team number limit stands.
      are.least team number limit (sym (ap (λ l. slice_get l number) (same team)) ∙ stands);
}

-- a greater limit is one too
weaker : (done : DoneView) (i task low high : ℕ) → IsFamiliesLimit done i task low → low ≤ high
    → IsFamiliesLimit done i task high
weaker done i task low high limit less c child before creates m t small at_most of =
    limit c child before creates m t small (omega (arith, less, at_most)) of

-- where one does
pub met_more : (done : DoneView) (n own task team number limit : ℕ) (meetings reached : List (Vec ℕ))
    (old new : Vec ℕ)
    → AreApart (tasks_of done) → AreMet done n meetings → AreSameRows meetings reached
    → slice_get (tasks_of done) own ≡ Some task → slice_get done.teams.teams own ≡ Some (Some team)
    → slice_get reached team ≡ Some old → IsBarrierBegin (records_of done) task number n
    → IsFamiliesLimit done n task limit → IsLeastFor (AreFamiliesEarly done 0 n task) limit
    → IsLimitRaised number limit old.items new.items → AreMet done (n + 1) (set reached team new)
met_more done n own task team number limit meetings reached old new apart met same_rows is_own in_team
    row_there begins families least_families raised =
    record {
      each = λ index other t k i is_other other_team starts below. elim (cases_eq i n) [
        | inl last ↦
            let P : ℕ → Type 0 = IsBarrierBegin (records_of done) other k in
            let Q : ℕ → Type 0 = λ x. IsBarrierBegin (records_of done) x k n in
            let starts_here : IsBarrierBegin (records_of done) other k n = subst P last starts in
            let is_task : other ≡ task =
            same_Some other task
            (sym (begin_says (records_of done) other k n starts_here)
            ∙ begin_says (records_of done) task number n begins) in
            let is_number : k ≡ number =
            one_number (records_of done) task k number n (subst Q is_task starts_here) begins in
            let is_index : index ≡ own = apart index own other is_other (is_own ∙ ap Some (sym is_task)) in
            let is_team : t ≡ team =
            same_Some t team
            (same_Some (Some t) (Some team)
            (sym other_team ∙ ap (slice_get done.teams.teams) is_index ∙ in_team)) in
            let R : ℕ → Type 0 = λ x. IsFamiliesLimit done x other raised.raised.0 in
            let S : ℕ → Type 0 = λ x. IsFamiliesLimit done n x raised.raised.0 in
            in_row done other k i new.items (row_at (set reached team new) t) (row_new t is_team) (record {
              limit = raised.raised.0;
              there = ap (slice_get new.items) is_number ∙ raised.raised.1;
              families =
                  subst R (sym last)
                  (subst S (sym is_task) (weaker done n task limit raised.raised.0 families raised.raised.2));
            })
        | inr earlier ↦
            let known =
            are.each index other t k i is_other other_team starts (omega (arith, below, earlier)) in
            elim (cases_eq t team) [
              | inl is_team ↦
                  let kept =
                  raised.kept k known.limit
                  (sym (ap (λ l. slice_get l k) (row_old t is_team)) ∙ known.there) in
                  in_row done other k i new.items (row_at (set reached team new) t) (row_new t is_team)
                  (record {
                    limit = kept.0;
                    there = kept.1;
                    families = weaker done i other known.limit kept.0 known.families kept.2;
                  })
              | inr different ↦
                  in_row done other k i (row_at reached t) (row_at (set reached team new) t)
                  (row_set_other reached team t new different) known
            ]
      ];
      least = λ t k high stands m small all.
          let earlier : AreMetEarly done n t k m =
          λ index other i is_other in_other starts below.
          all index other i is_other in_other starts (omega (arith, below)) in
          elim (cases_eq t team) [
            | inl is_team ↦
                raised.least k high m (sym (ap (λ l. slice_get l k) (row_new t is_team)) ∙ stands)
                (λ was stands_was.
                are.least t k was (ap (λ l. slice_get l k) (row_old t is_team) ∙ stands_was) m small earlier)
                (λ is_number.
                let P : ℕ → Type 0 = λ x. AreMetEarly done (n + 1) x k m in
                let Q : ℕ → Type 0 = λ x. AreMetEarly done (n + 1) team x m in
                least_families m small
                (subst Q is_number (subst P is_team all) own task n is_own in_team begins (omega arith)))
            | inr different ↦
                are.least t k high
                (sym (ap (λ l. slice_get l k) (row_set_other reached team t new different)) ∙ stands) m small
                earlier
          ];
    }
  where
    are : AreMet done n reached
    are = met_reached done n meetings reached same_rows met

    row_new : (t : ℕ) → t ≡ team → row_at (set reached team new) t ≡ new.items
    row_new t is_team =
        ap (row_at (set reached team new)) is_team
        ∙ row_set_same reached team new (slice_get_within reached team old row_there)

    row_old : (t : ℕ) → t ≡ team → row_at reached t ≡ old.items
    row_old t is_team = ap (row_at reached) is_team ∙ row_here reached team old row_there

-- ---- the end of a barrier

-- no barrier ends there
pub plain_limit : (done : DoneView) (i limit : ℕ) → IsWaitLimit done i limit
    → EndsNoBarrier (records_of done) i → IsEndLimit done i limit
plain_limit done i limit noted none m t small low covers = elim (covers_cases (records_of done) i t covers) [
  | inl one ↦ noted.waits one.parent one.begin one.is_region m one.place t small low one.before one.creates
  | inr other ↦ elim other [
    | inl one ↦
        noted.groups one.parent one.begin one.place one.child one.is_region one.from one.before one.creates m
        t small low one.of
    | inr one ↦ absurd (none one.own one.begin one.kind one.is_region one.barrier)
  ]
]

-- and the limit is the least of a taskwait or of a taskgroup that ends there
pub plain_least : (done : DoneView) (i limit : ℕ) → IsWaitLimit done i limit
    → EndsNoBarrier (records_of done) i → IsEndLeast done i limit
plain_least done i limit noted none task begin kind demands there m small all =
    of kind demands there
  where
    of : (kind : SyncKind) → waits_for_tasks kind ≡ true → IsRegion (records_of done) i task kind begin
        → limit ≤ m
    of Taskwait demands there =
        noted.least_of_wait task begin there m small
        (λ c child below creates.
        all child (waited there (child_before (records_of done) task child begin c below creates)))
    of Taskgroup demands there =
        noted.least_of_group task begin there m small
        (λ c child from below creates t of_child.
        let ends = ends_at (records_of done) i task begin Taskgroup there in
        let inside = ends.inside in
        all t
        (grouped there
        (between (records_of done) task begin i c child (omega (arith, inside, below)) from below creates)
        of_child))
    of _ demands there = absurd (none task begin _ there demands)

-- its begin has a number
pub begin_inside : (done : DoneView) (i index begin : ℕ) → IsTeams done.teams
    → IsBarrierEnd done.teams.run i index begin → begin < length done.teams.numbers
begin_inside done i index begin teams ends =
    let barrier = ends.barrier in
    let there = ends_at (records_of done) i barrier.task begin barrier.kind barrier.ends in
    let below = there.below in
    let inside = there.inside in
    let all = teams.numbers.all in
    omega (arith, below, inside, all)

own_begins : (done : DoneView) (i index begin number : ℕ) → IsTeams done.teams
    → (ends : IsBarrierEnd done.teams.run i index begin) → slice_get done.teams.numbers begin ≡ Some number
    → IsBarrierBegin (records_of done) ends.barrier.task number begin
own_begins done i index begin number teams ends numbered =
    let barrier = ends.barrier in
    teams.numbers.each begin number numbered barrier.task
    (barrier_begins_at (records_of done) i barrier.task begin barrier.kind barrier.ends barrier.barrier)

own_limit : (done : DoneView) (i index team begin number : ℕ) (meetings : List (Vec ℕ)) → IsTeams done.teams
    → AreMet done (length (records_of done)) meetings → (ends : IsBarrierEnd done.teams.run i index begin)
    → slice_get done.teams.teams index ≡ Some (Some team) → slice_get done.teams.numbers begin ≡ Some number
    → IsMeeting done ends.barrier.task number begin (row_at meetings team)
own_limit done i index team begin number meetings teams met ends in_team numbered =
    let inside = begin_inside done i index begin teams ends in
    let all = teams.numbers.all in
    met.each index ends.barrier.task team number begin ends.indexed in_team
    (own_begins done i index begin number teams ends numbered) (omega (arith, inside, all))

-- the team has a row, and the barrier's number a limit in it
pub own_row : (done : DoneView) (i index team begin : ℕ) (meetings : List (Vec ℕ)) → IsTeams done.teams
    → AreMet done (length (records_of done)) meetings → IsBarrierEnd done.teams.run i index begin
    → slice_get done.teams.teams index ≡ Some (Some team) → team < length meetings
own_row done i index team begin meetings teams met ends in_team =
    let numbered = slice_get-get_or done.teams.numbers begin 0 (begin_inside done i index begin teams ends) in
    let known =
    own_limit done i index team begin (get_or done.teams.numbers begin 0) meetings teams met ends in_team
    numbered in
    let row = row_there meetings team (get_or done.teams.numbers begin 0) known.limit known.there in
    slice_get_within meetings team row.0 row.1

pub own_meeting : (done : DoneView) (i index team begin number : ℕ) (meetings : List (Vec ℕ)) (row : Vec ℕ)
    → IsTeams done.teams → AreMet done (length (records_of done)) meetings
    → IsBarrierEnd done.teams.run i index begin → slice_get done.teams.teams index ≡ Some (Some team)
    → slice_get done.teams.numbers begin ≡ Some number → slice_get meetings team ≡ Some row
    → number < length row.items
own_meeting done i index team begin number meetings row teams met ends in_team numbered stands =
    let known = own_limit done i index team begin number meetings teams met ends in_team numbered in
    slice_get_within row.items number known.limit
    (sym (ap (λ l. slice_get l number) (row_here meetings team row stands)) ∙ known.there)

pub met_limit : (done : DoneView) (i index team begin number limit : ℕ) (meetings : List (Vec ℕ))
    (row : Vec ℕ)
    → IsTeams done.teams → AreMet done (length (records_of done)) meetings
    → IsBarrierEnd done.teams.run i index begin → slice_get done.teams.teams index ≡ Some (Some team)
    → slice_get done.teams.numbers begin ≡ Some number → slice_get meetings team ≡ Some row
    → slice_get row.items number ≡ Some limit → IsEndLimit done i limit
met_limit done i index team begin number limit meetings row teams met ends in_team numbered stands is_limit m
    t small low covers =
    elim (covers_cases rs i t covers) [
      | inl one ↦
          absurd
          (barrier_is_other kind Taskwait barrier.barrier refl
          (one_region rs i own one.parent begin one.begin kind Taskwait barrier.ends
          one.is_region).kind_is)
      | inr other ↦ elim other [
        | inl one ↦
            absurd
            (barrier_is_other kind Taskgroup barrier.barrier refl
            (one_region rs i own one.parent begin one.begin kind Taskgroup barrier.ends
            one.is_region).kind_is)
        | inr one ↦
            let same = one_region rs i one.own own one.begin begin one.kind kind one.is_region barrier.ends in
            let P : ℕ → Type 0 = λ x. IsBarrierBegin rs x one.number one.begin in
            let Q : ℕ → Type 0 = λ b. IsBarrierBegin rs own one.number b in
            let R : ℕ → Type 0 = λ x. IsTeammate rs x one.member in
            let begins = own_begins done i index begin number teams ends numbered in
            let is_number =
            one_number rs own one.number number begin
            (subst Q same.begin_is (subst P same.task_is one.begins)) begins in
            let says = begin_says rs one.member one.number one.start one.starts in
            let says_region = begun_region rs one.start one.member says in
            let calls = subject_calls rs done.teams.run.family one.start teams.run.family in
            let called =
            call_index (tasks_of done) (at subject rs one.start) _ one.member calls
            (begun_subject rs one.start one.member says) in
            let in_team_too =
            (teams.teams.mates index called.0 own one.member team ends.indexed called.2 in_team).1
            (subst R same.task_is one.mate) in
            let inside =
            at_within region rs one.start (one.member, says_region.0, says_region.1) says_region.2 in
            let meeting =
            met.each called.0 one.member team one.number one.start called.2 in_team_too one.starts inside in
            let is_same : meeting.limit ≡ limit =
            same_Some meeting.limit limit
            (sym meeting.there ∙ ap (λ l. slice_get l one.number) (row_here meetings team row stands)
            ∙ ap (slice_get row.items) is_number ∙ is_limit) in
            meeting.families one.place one.child one.before one.creates m t small
            (omega (arith, is_same, low))
            one.of
      ]
    ]
  where
    rs : List Record
    rs = records_of done

    barrier : EndsBarrier (records_of done) i begin
    barrier = ends.barrier

    own : ℕ
    own = ends.barrier.task

    kind : SyncKind
    kind = ends.barrier.kind

-- and no lesser limit would do
pub met_least : (done : DoneView) (i index team begin number limit : ℕ) (meetings : List (Vec ℕ))
    (row : Vec ℕ)
    → IsTeams done.teams → AreMet done (length (records_of done)) meetings
    → IsBarrierEnd done.teams.run i index begin → slice_get done.teams.teams index ≡ Some (Some team)
    → slice_get done.teams.numbers begin ≡ Some number → slice_get meetings team ≡ Some row
    → slice_get row.items number ≡ Some limit → IsEndLeast done i limit
met_least done i index team begin number limit meetings row teams met ends in_team numbered stands is_limit
    own_task own_start kind demands there m small all =
    let barrier = ends.barrier in
    let begins = own_begins done i index begin number teams ends numbered in
    met.least team number
    limit (ap (λ l. slice_get l number) (row_here meetings team row stands) ∙ is_limit) m
    small
    (λ other member start is_member in_team_too starts below c child from under creates t of.
    let mate =
    (teams.teams.mates index other barrier.task member team ends.indexed is_member in_team).0 in_team_too in
    all t
    (synchronised number barrier.ends barrier.barrier begins mate starts
    (child_before (records_of done) member child start c under creates) of))

-- a task in no team has no teammate
pub teamless_limit : (done : DoneView) (i index begin limit : ℕ) → IsTeams done.teams
    → IsBarrierEnd done.teams.run i index begin → slice_get done.teams.teams index ≡ Some None
    → IsEndLimit done i limit
teamless_limit done i index begin limit teams ends alone m t small low covers =
    elim (covers_cases (records_of done) i t covers) [
      | inl one ↦
          absurd
          (barrier_is_other barrier.kind Taskwait barrier.barrier refl
          (same one.parent one.begin Taskwait one.is_region).kind_is)
      | inr other ↦ elim other [
        | inl one ↦
            absurd
            (barrier_is_other barrier.kind Taskgroup barrier.barrier refl
            (same one.parent one.begin Taskgroup one.is_region).kind_is)
        | inr one ↦
            let is_task = (same one.own one.begin one.kind one.is_region).task_is in
            let R : ℕ → Type 0 = λ x. IsTeammate (records_of done) x one.member in
            absurd
            (teams.teams.none index barrier.task one.member ends.indexed alone
            (subst R (sym is_task) one.mate))
      ]
    ]
  where
    barrier : EndsBarrier (records_of done) i begin
    barrier = ends.barrier

    same : (other start : ℕ) (kind : SyncKind) → IsRegion (records_of done) i other kind start
        → IsSameRegion barrier.task other begin start barrier.kind kind
    same other start kind there =
        one_region (records_of done) i barrier.task other begin start barrier.kind kind barrier.ends there

-- ---- one record more

-- where no barrier ends
pub added_other : (done : DoneView) (n : ℕ) (nodes : List Node) → AreMeetingsAdded done n nodes
    → EndsNoBarrier (records_of done) n → AreMeetingsAdded done (n + 1) nodes
added_other done n nodes are none = record {
  count = are.count;
  known = λ i node below there. elim (cases_eq i n) [
    | inl same ↦
        let P : ℕ → Type 0 = λ k. IsEndLimit done k node.limit in
        let Q : ℕ → Type 0 = λ k. IsWaitLimit done k node.limit in
        subst P (sym same)
        (plain_limit done n node.limit (subst Q same (are.noted i node (omega (arith, same)) there)) none)
    | inr apart ↦ are.known i node (omega (arith, below, apart)) there
  ];
  least = λ i node below there. elim (cases_eq i n) [
    | inl same ↦
        let P : ℕ → Type 0 = λ k. IsEndLeast done k node.limit in
        let Q : ℕ → Type 0 = λ k. IsWaitLimit done k node.limit in
        subst P (sym same)
        (plain_least done n node.limit (subst Q same (are.noted i node (omega (arith, same)) there)) none)
    | inr apart ↦ are.least i node (omega (arith, below, apart)) there
  ];
  noted = λ i node past there. are.noted i node (omega (arith, past)) there;
}

-- where one does
pub added_more : (done : DoneView) (n : ℕ) (nodes : List Node) (new : Node) → AreMeetingsAdded done n nodes
    → n < length (records_of done) → IsEndLimit done n new.limit → IsEndLeast done n new.limit
    → AreMeetingsAdded done (n + 1) (set nodes n new)
added_more done n nodes new are below limit least = record {
  count = length-set nodes n new ∙ are.count;
  known = λ i node low there. elim (cases_eq i n) [
    | inl same ↦
        let P : ℕ → Type 0 = λ k. IsEndLimit done k node.limit in
        let Q : Node → Type 0 = λ x. IsEndLimit done n x.limit in
        let is : new ≡ node =
        same_Some new node
        (sym (get_set_same nodes n new within) ∙ ap (slice_get (set nodes n new)) (sym same)
        ∙ there) in
        subst P (sym same) (subst Q is limit)
    | inr apart ↦
        are.known i node (omega (arith, low, apart)) (sym (get_set_other nodes n i new apart) ∙ there)
  ];
  least = λ i node low there. elim (cases_eq i n) [
    | inl same ↦
        let P : ℕ → Type 0 = λ k. IsEndLeast done k node.limit in
        let Q : Node → Type 0 = λ x. IsEndLeast done n x.limit in
        let is : new ≡ node =
        same_Some new node
        (sym (get_set_same nodes n new within) ∙ ap (slice_get (set nodes n new)) (sym same)
        ∙ there) in
        subst P (sym same) (subst Q is least)
    | inr apart ↦
        are.least i node (omega (arith, low, apart)) (sym (get_set_other nodes n i new apart) ∙ there)
  ];
  noted =
      λ i node past there.
      are.noted i node (omega (arith, past))
      (sym (get_set_other nodes n i new (λ same. absurd (omega (arith, same, past)))) ∙ there);
}
  where
    within : n < length nodes
    within = rw are.count below

-- at all records
pub added_all : (done : DoneView) (n : ℕ) (nodes : List Node) → AreMeetingsAdded done n nodes
    → length (records_of done) ≤ n → AreEndLimits done nodes
added_all done n nodes are whole = record {
  count = are.count;
  known = λ i node there.
      let within = slice_get_within nodes i node there in
      let count = are.count in
      are.known i node (omega (arith, whole, within, count)) there;
  least = λ i node there.
      let within = slice_get_within nodes i node there in
      let count = are.count in
      are.least i node (omega (arith, whole, within, count)) there;
}
