-- What is complete where a barrier ends.
use Rattle.std.proofs.Common.{◌≡◌, ◌≢◌, ◌∙◌, ℕ, ◌<◌, ◌≤◌, ◌+◌, Bool, true, false, List, [], ◌∷◌, ◌++◌}
use Rattle.std.proofs.Common.{length, Option, Some, None, refl, sym, ap, subst, arith, inl, inr, ◌⊎◌}
use Rattle.std.specs.Prelude.{Contains, slice_get}
use Rattle.std.proofs.Common.{cond}
use Rattle.std.proofs.lemmas.List.{length_push}
use Rattle.std.proofs.lemmas.Bool.{cases_lt, cases_eq, false≢true}
use Rattle.std.proofs.lemmas.Option.{none-some, same_Some, slice_get_within}
use Rattle.ompt_events.specs.declared.records.Record.{Record}
use Rattle.ompt_events.specs.declared.records.Body.{Body}
use Rattle.ompt_events.specs.declared.records.Body.TheVariants.{ImplicitTask}
use Rattle.ompt_events.specs.declared.records.Membership.{Membership}
use Rattle.ompt_events.specs.declared.names.SyncKind.TheVariants.{Taskwait, Taskgroup}
use Rattle.ompt_events.specs.declared.names.Endpoint.TheVariants.{Begin}
use Rattle.ompt_events.specs.Records.{made, joined, begun_initial, running, region}
use Rattle.ompt_events.specs.Places.{at, seen_at}
use Rattle.ompt_events.specs.Tree.{IsCreatedAt, IsParent, children_before}
use Rattle.ompt_events.specs.Teams.{members, IsTeammate, alone, together, IsInitial}
use Rattle.ompt_events.specs.Regions.{is_barrier, IsRegion, IsBarrierBegin, barrier_begins}
use Rattle.ompt_events.specs.Completion.{IsCompleteAt}
use Rattle.ompt_events.specs.Coverage.{Covers, waited, grouped, synchronised}
use Rattle.ompt_events.specs.Flags as flag
use Rattle.ompt_events.specs.Flags.{has_flag}
use Rattle.ompt_events.specs.declared.cause.Cause.TheVariants.{CreatedTwice}
use Rattle.ompt_events.specs.Coverage.{IsFamily}
use Rattle.ompt_events.specs.Causes.{IsFreeOf, created_twice}
use Rattle.ompt_events.proofs.RecordLemmas.{at_through, member_made, initial_made}
use Rattle.ompt_events.proofs.PlaceLemmas.{at_within, get_at}
use Rattle.ompt_events.proofs.ListLemmas.{get_within}
use Rattle.ompt_events.proofs.TreeLemmas.{before_child}
use Rattle.online.specs.declared.kin.Kin.{Kin}
use Rattle.online.specs.declared.team.Team.{Team}
use Rattle.online.specs.Waits.{is_kept, IsSettled, IsWaitsOf, MayFollow}
use Rattle.online.specs.Teams.{phase_at, IsMemberOf, IsInTeams, IsInPhase, EndsBarrierAt, AreSettledUpTo}
use Rattle.online.specs.Teams.{IsTeamOf, IsTeamOver, AreEndsOver, AreTeamsBefore, AreTeamsOf, HasEnded}
use Rattle.online.specs.Teams.{HasBegunAll, AreBarriersBegun, EndsIn, EndsBarrier, HasBarrierEnded}
use Rattle.online.proofs.BarrierLemmas.{barrier_runs}
use Rattle.online.proofs.ScopeLemmas.{scope_empty}
use Rattle.online.proofs.PhaseLemmas.{phase_number}
use Rattle.online.proofs.PhaseSteps.{settled_less}
use Rattle.online.proofs.TeamLemmas.{member_place}
use Rattle.online.proofs.CoverLemmas.{region_says}
use Rattle.online.proofs.EndLemmas.{IsSame, region_is, seen_last, complete_at}

-- ---- a barrier ends

-- what is settled below the length at the place is complete there
settled_at : (rs : List Record) (r : Record) (n first task : ℕ) → n ≤ r.seen
    → IsSettled (rs ++ r ∷ []) n first → IsFamily (rs ++ r ∷ []) first task
    → IsCompleteAt (rs ++ r ∷ []) task (length rs)
settled_at rs r n first task most settled family =
    let seen = seen_last rs r in
    complete_at (rs ++ r ∷ []) task (length rs) n (omega (arith, most, seen)) (settled task family)

-- what the end of a barrier covers is the family of a child that a teammate created before its begin
pub record BarrierCovers (more : List Record) (own task : ℕ) : Type 0 where
  pub number : ℕ
  pub begin : ℕ
  pub member : ℕ
  pub start : ℕ
  pub first : ℕ
  pub begins : IsBarrierBegin more own number begin
  pub mate : IsTeammate more own member
  pub starts : IsBarrierBegin more member number start
  pub has : Contains (children_before more member start) first
  pub family : IsFamily more first task

barrier_covers : (rs : List Record) (r : Record) (own seen task : ℕ) → EndsBarrier own seen r
    → Covers (rs ++ r ∷ []) (length rs) task → BarrierCovers (rs ++ r ∷ []) own task
barrier_covers rs r own seen task ends (waited {parent = parent} {begin = begin} is has) =
    let same = region_is rs r own parent begin ends.kind Taskwait ends.endpoint ends.says is in
    absurd (false≢true (ap is_barrier same.kind_is ∙ ends.barrier))
barrier_covers rs r own seen task ends (grouped {parent = parent} {begin = begin} is has family) =
    let same = region_is rs r own parent begin ends.kind Taskgroup ends.endpoint ends.says is in
    absurd (false≢true (ap is_barrier same.kind_is ∙ ends.barrier))
barrier_covers rs r own seen task ends
    (synchronised {own = other} {begin = begin} {member = member} {start = start} {child = first}
    {kind = kind} number is barrier begins mate starts has family) =
    let same = region_is rs r own other begin ends.kind kind ends.endpoint ends.says is in
    let P : ℕ → Type 0 = λ t. IsBarrierBegin (rs ++ r ∷ []) t number begin in
    let Q : ℕ → Type 0 = λ t. IsTeammate (rs ++ r ∷ []) t member in
    record {
      number = number;
      begin = begin;
      member = member;
      start = start;
      first = first;
      begins = subst P same.task_is begins;
      mate = subst Q same.task_is mate;
      starts = starts;
      has = has;
      family = family;
    }

-- a begin with a number there is one of fewer than the task has begun
number_low : (rs : List Record) (task number begin : ℕ) → IsBarrierBegin rs task number begin
    → number < phase_at rs task (length rs)
number_low rs task number begin begins = slice_get_within (barrier_begins rs task) number begin begins

-- and where a task has begun more there is one
start_there : (rs : List Record) (task number : ℕ) → number < phase_at rs task (length rs)
    → (start : ℕ) × IsBarrierBegin rs task number start
start_there rs task number low = get_within (barrier_begins rs task) number low

-- a task is made at one place
one_place : (rs : List Record) → IsFreeOf rs CreatedTwice → (i j task : ℕ) → at made rs i ≡ Some task
    → at made rs j ≡ Some task → i ≡ j
one_place rs once i j task first second = elim (cases_lt i j) [
  | inl less ↦ absurd (once j (created_twice (task, i, less, first, second)))
  | inr most ↦ elim (cases_lt j i) [
    | inl less ↦ absurd (once i (created_twice (task, j, less, second, first)))
    | inr least ↦ omega (arith, most, least)
  ]
]

pub initial_joined : (task : ℕ) (m : Membership) (b : Body) → begun_initial b ≡ Some task
    → joined b ≡ Some m → ⊥
initial_joined task m (ImplicitTask Begin actual index flags parallel root) begins joins =
    of (has_flag flags.0 flag.initial) begins joins
  where
    of : (b : Bool) → cond b (Some root) None ≡ Some task
        → cond b None (Some (record { parallel = parallel; actual = actual; index = index; member = root }))
        ≡ Some m → ⊥
    of true e f = none-some m f
    of false e f = none-some task e
initial_joined task m _ begins joins = cc

-- an initial task is no member
initial_outside : (rs : List Record) (parallel task : ℕ) → IsFreeOf rs CreatedTwice → IsInitial rs task
    → IsMemberOf rs parallel task → ⊥
initial_outside rs parallel task once (i, begins) (m, has, same) =
    let is = member_place rs parallel (length rs) m has in
    let made_member = at_through joined made m m.member rs is.place (member_made m) is.joins in
    let made_initial = at_through begun_initial made task task rs i (initial_made task) begins in
    let here : i ≡ is.place = one_place rs once i is.place task made_initial (made_member ∙ ap Some same) in
    let (q, there, says) = get_at begun_initial rs i task begins in
    let (p, stands, tells) = get_at joined rs is.place m is.joins in
    let e : q ≡ p = same_Some q p (sym there ∙ ap (slice_get rs) here ∙ stands) in
    initial_joined task m q.body says (ap (λ (t : Record). joined t.body) e ∙ tells)

-- ---- of a member of a team

-- the end of such a barrier
pub record EndsHere (rs : List Record) (r : Record) (own seen parallel number : ℕ) (table : ℕ → Option Kin)
    (teams after : ℕ → Option Team) : Type 0 where
  pub kin : Kin
  pub kept : table own ≡ Some kin
  pub mine : kin.team ≡ Some parallel
  pub last : kin.barriers ≡ number + 1
  pub ends : EndsBarrier own seen r
  pub waits : IsWaitsOf (rs ++ r ∷ []) table
  pub were : AreTeamsBefore (rs ++ r ∷ []) (length rs) table teams
  pub changes : EndsIn number seen parallel teams after

-- what is kept of the team behind it
record HasAfter (number seen parallel : ℕ) (teams after : ℕ → Option Team) : Type 0 where
  pub was : Team
  pub team : Team
  pub found : teams parallel ≡ Some was
  pub here : after parallel ≡ Some team
  pub ended : HasEnded number seen was team

has_after : (number seen parallel : ℕ) (teams after : ℕ → Option Team)
    → EndsIn number seen parallel teams after → HasAfter number seen parallel teams after
has_after number seen parallel teams after is =
    let (team, here, ended) = is.changes.present is.was is.found in
    record { was = is.was; team = team; found = is.found; here = here; ended = ended }

-- the barrier that ends there is one of this task, with a number up to this one, and its team is this one
record IsThatEnd (more : List Record) (own parallel number region' number' : ℕ) : Type 0 where
  pub begin : ℕ
  pub begins : IsBarrierBegin more own number' begin
  pub team_is : parallel ≡ region'
  pub low : number' ≤ number

that_end : (rs : List Record) (r : Record) (own seen parallel number : ℕ) (table : ℕ → Option Kin)
    (teams after : ℕ → Option Team) → EndsHere rs r own seen parallel number table teams after
    → (region' number' : ℕ) → EndsBarrierAt (rs ++ r ∷ []) region' number' (length rs)
    → IsThatEnd (rs ++ r ∷ []) own parallel number region' number'
that_end rs r own seen parallel number table teams after is region' number' there = record {
  begin = there.begin;
  begins = begins;
  team_is = same_Some parallel region' (sym is.mine ∙ place.team region' (subst Q same.task_is there.member));
  low =
      let h = number_low (rs ++ r ∷ []) own number' there.begin begins in
      let e = place.barriers in
      let f = is.last in
      omega (arith, h, e, f);
}
  where
    same : IsSame own there.own is.ends.kind there.kind
    same =
        region_is rs r own there.own there.begin is.ends.kind there.kind is.ends.endpoint is.ends.says
        there.ends

    place : IsInTeams (rs ++ r ∷ []) own is.kin
    place = is.were.places own is.kin is.kept

    Q : ℕ → Type 0
    Q t = IsMemberOf (rs ++ r ∷ []) region' t

    begins : IsBarrierBegin (rs ++ r ∷ []) own number' there.begin
    begins = subst (λ t. IsBarrierBegin (rs ++ r ∷ []) t number' there.begin) same.task_is there.begins

-- all that was created in the phases up to a number of this end is settled there
ended_below : (rs : List Record) (r : Record) (own seen parallel number : ℕ) (table : ℕ → Option Kin)
    (teams after : ℕ → Option Team) → EndsHere rs r own seen parallel number table teams after → (number' : ℕ)
    → number' ≤ number → AreSettledUpTo (rs ++ r ∷ []) parallel number' seen
ended_below rs r own seen parallel number table teams after is number' low =
    let a = has_after number seen parallel teams after is.changes in
    settled_less (rs ++ r ∷ []) parallel number number' seen seen low (omega arith)
    (a.ended.settled (rs ++ r ∷ []) (is_kept table) parallel (is.were.each parallel a.was a.found))

-- the ends of barriers, with this one
ends_here : (rs : List Record) (r : Record) (own seen parallel number : ℕ) (table : ℕ → Option Kin)
    (teams after : ℕ → Option Team) → EndsHere rs r own seen parallel number table teams after
    → AreEndsOver (rs ++ r ∷ []) (length (rs ++ r ∷ [])) after
ends_here rs r own seen parallel number table teams after is = record {
  settled = λ i region' number' less there. elim (cases_lt i (length rs)) [
    | inl before ↦ is.were.ends.settled i region' number' before there
    | inr least ↦
        let e = length_push rs r in
        let here : i ≡ length rs = omega (arith, e, less, least) in
        let P : ℕ → Type 0 = λ k. EndsBarrierAt (rs ++ r ∷ []) region' number' k in
        settled region' number' i here (subst P here there)
  ];
  over = λ i region' number' team less there kept. elim (cases_lt i (length rs)) [
    | inl before ↦ earlier i region' number' team before there kept (cases_eq region' parallel)
    | inr least ↦
        let e = length_push rs r in
        let here : i ≡ length rs = omega (arith, e, less, least) in
        let P : ℕ → Type 0 = λ k. EndsBarrierAt (rs ++ r ∷ []) region' number' k in
        now region' number' team (subst P here there) kept
  ];
  gone = λ i region' number' m less there none has. elim (cases_lt i (length rs)) [
    | inl before ↦
        is.were.ends.gone i region' number' m before there (absent region' none (cases_eq region' parallel))
        has
    | inr least ↦
        let e = length_push rs r in
        let here : i ≡ length rs = omega (arith, e, less, least) in
        let P : ℕ → Type 0 = λ k. EndsBarrierAt (rs ++ r ∷ []) region' number' k in
        let that = that_end rs r own seen parallel number table teams after is region' number'
        (subst P here there) in
        absurd (none-some a.team (sym none ∙ ap after (sym that.team_is) ∙ a.here))
  ];
}
  where
    a : HasAfter number seen parallel teams after
    a = has_after number seen parallel teams after is.changes

    absent : (region' : ℕ) → after region' ≡ None → (region' ≡ parallel) ⊎ (region' ≢ parallel)
        → teams region' ≡ None
    absent region' none (inl e) = absurd (none-some a.team (sym none ∙ ap after e ∙ a.here))
    absent region' none (inr apart) = sym (is.changes.changes.others region' apart) ∙ none

    settled : (region' number' i : ℕ) → i ≡ length rs
        → EndsBarrierAt (rs ++ r ∷ []) region' number' (length rs)
        → AreSettledUpTo (rs ++ r ∷ []) region' number' (seen_at (rs ++ r ∷ []) i)
    settled region' number' i here there =
        let that = that_end rs r own seen parallel number table teams after is region' number' there in
        let P : ℕ → Type 0 = λ p. AreSettledUpTo (rs ++ r ∷ []) p number' seen in
        let e = seen_last rs r in
        let f = is.ends.seen_is in
        let g = ap (seen_at (rs ++ r ∷ [])) here in
        settled_less (rs ++ r ∷ []) region' number' number' seen (seen_at (rs ++ r ∷ []) i) (omega arith)
        (omega (arith, e, f, g))
        (subst P that.team_is
        (ended_below rs r own seen parallel number table teams after is number' that.low))

    now : (region' number' : ℕ) (team : Team) → EndsBarrierAt (rs ++ r ∷ []) region' number' (length rs)
        → after region' ≡ Some team → number' < team.over
    now region' number' team there kept =
        let that = that_end rs r own seen parallel number table teams after is region' number' there in
        let same : a.team ≡ team = same_Some a.team team (sym a.here ∙ ap after that.team_is ∙ kept) in
        let e = ap (λ (t : Team). t.over) same in
        let h = a.ended.ends.over in
        let l = that.low in
        omega (arith, e, h, l)

    earlier : (i region' number' : ℕ) (team : Team) → i < length rs
        → EndsBarrierAt (rs ++ r ∷ []) region' number' i → after region' ≡ Some team
        → (region' ≡ parallel) ⊎ (region' ≢ parallel) → number' < team.over
    earlier i region' number' team before there kept (inl e) =
        let same : a.team ≡ team = same_Some a.team team (sym a.here ∙ ap after (sym e) ∙ kept) in
        let f = ap (λ (t : Team). t.over) same in
        let h = is.were.ends.over i region' number' a.was before there (ap teams e ∙ a.found) in
        let l = a.ended.ends.rises in
        omega (arith, f, h, l)
    earlier i region' number' team before there kept (inr apart) =
        is.were.ends.over i region' number' team before there
        (sym (is.changes.changes.others region' apart) ∙ kept)

teams_here : (rs : List Record) (r : Record) (own seen parallel number : ℕ) (table : ℕ → Option Kin)
    (teams after : ℕ → Option Team) → EndsHere rs r own seen parallel number table teams after
    → AreTeamsOf (rs ++ r ∷ []) table after
teams_here rs r own seen parallel number table teams after is = record {
  places = is.were.places;
  each = λ region' team there. each region' team there (cases_eq region' parallel);
  absent = λ region' none. absent region' none (cases_eq region' parallel);
  ends = ends_here rs r own seen parallel number table teams after is;
}
  where
    a : HasAfter number seen parallel teams after
    a = has_after number seen parallel teams after is.changes

    each : (region' : ℕ) (team : Team) → after region' ≡ Some team
        → (region' ≡ parallel) ⊎ (region' ≢ parallel) → IsTeamOf (rs ++ r ∷ []) (is_kept table) region' team
    each region' team there (inl e) =
        let same : a.team ≡ team = same_Some a.team team (sym a.here ∙ ap after (sym e) ∙ there) in
        let P : ℕ → Type 0 = λ p. IsTeamOf (rs ++ r ∷ []) (is_kept table) p a.team in
        let Q : Team → Type 0 = λ t. IsTeamOf (rs ++ r ∷ []) (is_kept table) region' t in
        subst Q same
        (subst P (sym e)
        (a.ended.ends.same (rs ++ r ∷ []) (is_kept table) parallel (is.were.each parallel a.was a.found)))
    each region' team there (inr apart) =
        is.were.each region' team (sym (is.changes.changes.others region' apart) ∙ there)

    absent : (region' : ℕ) → after region' ≡ None → (region' ≡ parallel) ⊎ (region' ≢ parallel)
        → IsTeamOver (rs ++ r ∷ []) region'
    absent region' none (inl e) = absurd (none-some a.team (sym none ∙ ap after e ∙ a.here))
    absent region' none (inr apart) =
        is.were.absent region' (sym (is.changes.changes.others region' apart) ∙ none)

-- each teammate of a member is a member of the team
mates_in : (more : List Record) (own parallel : ℕ) (kin : Kin) → IsFreeOf more CreatedTwice
    → IsInTeams more own kin → kin.team ≡ Some parallel → (member : ℕ) → IsTeammate more own member
    → IsMemberOf more parallel member
mates_in more own parallel kin once place mine member (alone single) =
    absurd (initial_outside more parallel own once single (place.member parallel mine))
mates_in more own parallel kin once place mine member (together region' first other has same has_other) =
    let e : parallel ≡ region' =
    same_Some parallel region' (sym mine ∙ place.team region' (first, has, same)) in
    let P : ℕ → Type 0 = λ t. Contains (members more t) other in
    (other, subst P (sym e) has_other, refl)

-- what a member created before its barrier begin with a number, it created in a phase up to that
created_before : (more : List Record) (parallel member number start first : ℕ)
    → IsMemberOf more parallel member → IsBarrierBegin more member number start
    → Contains (children_before more member start) first
    → IsInPhase more parallel (λ k. k ≤ number) first
created_before more parallel member number start first is starts has =
    let (i, early, creates) = before_child more member first start has in
    let inside = at_within running more start member (barrier_runs more member number start starts) in
    let phase = phase_number more member number start i starts (omega (arith, early)) inside in
    (i, member, is, creates, phase)

pub member_barrier : (rs : List Record) (r : Record) (own seen parallel number : ℕ) (table : ℕ → Option Kin)
    (teams after : ℕ → Option Team) → MayFollow rs r
    → EndsHere rs r own seen parallel number table teams after → HasBarrierEnded rs r table after
member_barrier rs r own seen parallel number table teams after follows is = record {
  waits = is.waits;
  teams_are = teams_here rs r own seen parallel number table teams after is;
  complete = λ task covers. complete task (barrier_covers rs r own seen task is.ends covers);
}
  where
    place : IsInTeams (rs ++ r ∷ []) own is.kin
    place = is.were.places own is.kin is.kept

    complete : (task : ℕ) → BarrierCovers (rs ++ r ∷ []) own task
        → IsCompleteAt (rs ++ r ∷ []) task (length rs)
    complete task b =
        let low = number_low (rs ++ r ∷ []) own b.number b.begin b.begins in
        let e = place.barriers in
        let f = is.last in
        let g = is.ends.seen_is in
        let member =
        mates_in (rs ++ r ∷ []) own parallel is.kin follows.once place is.mine b.member b.mate in
        let settled =
        ended_below rs r own seen parallel number table teams after is b.number (omega (arith, low, e, f))
        b.first
        (created_before (rs ++ r ∷ []) parallel b.member b.number b.start b.first member b.starts b.has) in
        settled_at rs r seen b.first task (omega (arith, g)) settled b.family

-- ---- of an initial task

pub initial_barrier : (rs : List Record) (r : Record) (own seen : ℕ) (table : ℕ → Option Kin)
    (teams : ℕ → Option Team) (kin : Kin) → EndsBarrier own seen r → IsWaitsOf (rs ++ r ∷ []) table
    → AreTeamsBefore (rs ++ r ∷ []) (length rs) table teams → table own ≡ Some kin → kin.team ≡ None
    → kin.family.left ≡ 0 → kin.family.greatest ≤ seen → HasBarrierEnded rs r table teams
initial_barrier rs r own seen table teams kin ends waits is kept free none most = record {
  waits = waits;
  teams_are = record {
    places = is.places;
    each = is.each;
    absent = is.absent;
    ends = record {
      settled = λ i region' number less there. elim (cases_lt i (length rs)) [
        | inl before ↦ is.ends.settled i region' number before there
        | inr least ↦ absurd (outside i region' number less least there)
      ];
      over = λ i region' number team less there found. elim (cases_lt i (length rs)) [
        | inl before ↦ is.ends.over i region' number team before there found
        | inr least ↦ absurd (outside i region' number less least there)
      ];
      gone = λ i region' number m less there absent has. elim (cases_lt i (length rs)) [
        | inl before ↦ is.ends.gone i region' number m before there absent has
        | inr least ↦ absurd (outside i region' number less least there)
      ];
    };
  };
  complete = λ task covers. complete task (barrier_covers rs r own seen task ends covers);
}
  where
    place : IsInTeams (rs ++ r ∷ []) own kin
    place = is.places own kin kept

    -- the barrier that ends there is of no member
    outside : (i region' number : ℕ) → i < length (rs ++ r ∷ []) → length rs ≤ i
        → EndsBarrierAt (rs ++ r ∷ []) region' number i → ⊥
    outside i region' number less least there =
        let e = length_push rs r in
        let here : i ≡ length rs = omega (arith, e, less, least) in
        let P : ℕ → Type 0 = λ k. IsRegion (rs ++ r ∷ []) k there.own there.kind there.begin in
        let same =
        region_is rs r own there.own there.begin ends.kind there.kind ends.endpoint ends.says
        (subst P here there.ends) in
        let Q : ℕ → Type 0 = λ t. IsMemberOf (rs ++ r ∷ []) region' t in
        none-some region' (sym free ∙ place.team region' (subst Q same.task_is there.member))

    mates : (member : ℕ) → IsTeammate (rs ++ r ∷ []) own member → member ≡ own
    mates member (alone single) = refl
    mates member (together region' first other has same has_other) =
        absurd (none-some region' (sym free ∙ place.team region' (first, has, same)))

    complete : (task : ℕ) → BarrierCovers (rs ++ r ∷ []) own task
        → IsCompleteAt (rs ++ r ∷ []) task (length rs)
    complete task b =
        let (i, early, creates) = before_child (rs ++ r ∷ []) b.member b.first b.start b.has in
        let P : ℕ → Type 0 = λ t. IsCreatedAt (rs ++ r ∷ []) i t b.first in
        let (gone, settled) =
        scope_empty (length (rs ++ r ∷ [])) (IsParent (rs ++ r ∷ []) own) (is_kept table)
        (IsSettled (rs ++ r ∷ [])) kin.family (waits.each own kin kept).family none b.first
        (i, subst P (mates b.member b.mate) creates) in
        let e = ends.seen_is in
        settled_at rs r kin.family.greatest b.first task (omega (arith, e, most)) settled b.family

-- ---- at the end

-- a barrier that ends at a place belongs to a member, whose teammates have all begun it
pub barriers_begun : (rs : List Record) (table : ℕ → Option Kin) (teams : ℕ → Option Team)
    → AreTeamsOf rs table teams
    → ((parallel : ℕ) (team : Team) → teams parallel ≡ Some team → HasBegunAll team) → AreBarriersBegun rs
barriers_begun rs table teams is all i own begin member number kind ends barrier begins (alone single) =
    (begin, begins)
barriers_begun rs table teams is all i own begin member number kind ends barrier begins
    (together parallel first other has same has_other) = of (teams parallel) refl
  where
    inside : i < length rs
    inside =
        let (endpoint, says) = region_says rs i own kind begin ends in
        at_within region rs i (own, kind, endpoint) says

    there : EndsBarrierAt rs parallel number i
    there = record {
      own = own;
      begin = begin;
      kind = kind;
      ends = ends;
      barrier = barrier;
      begins = begins;
      member = (first, has, same);
    }

    of : (o : Option Team) → teams parallel ≡ o
        → (start : ℕ) × IsBarrierBegin rs other.member number start
    of None none =
        start_there rs other.member number (is.ends.gone i parallel number other inside there none has_other)
    of (Some team) found =
        let over = is.ends.over i parallel number team inside there found in
        let reached =
        all parallel team found rs (is_kept table) parallel (is.each parallel team found) other has_other in
        start_there rs other.member number (omega (arith, over, reached))
