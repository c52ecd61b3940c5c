-- The teams of tasks, their leads and their members.
use Rattle.std.proofs.Common.{◌≡◌, ◌∙◌, ℕ, zero, suc, ◌<◌, ◌≤◌, ◌+◌, List, [], ◌∷◌, ◌++◌, length, get_or}
use Rattle.std.proofs.Common.{Option, Some, None, Bool, true, false, cond, refl, sym, ap, subst, arith, inl}
use Rattle.std.proofs.Common.{inr, ◌⊎◌, add-one}
use Rattle.std.proofs.lemmas.Bool.{cases_eq, cases_order, eq-eqb, ne_eqb}
use Rattle.std.proofs.lemmas.Option.{none-some, same_Some, slice_get_within, slice_get-get_or}
use Rattle.std.proofs.lemmas.List.{length_push, length-set, length-replicate, append-nil}
use Rattle.std.proofs.lemmas.List.Elements.{filter-append, filter_map-append, Contains-push}
use Rattle.std.proofs.lemmas.List.Elements.{Contains-push_cases, Contains-append_left}
use Rattle.std.proofs.Math.ListN.{set}
use Rattle.indexmap.specs.IndexMap.{get, IsEmpty}
use Rattle.std.specs.List.{filter_map, range_with_len, cons_option}
use Rattle.std.specs.Prelude.{◌==◌, nat_eq, slice_get, filter, Contains, MatchOption, option_and_then}
use Rattle.std.specs.Prelude.{if◌then◌else◌, replicate}
use Rattle.ompt_events.specs.declared.records.Record.{Record}
use Rattle.ompt_events.specs.declared.records.Body.{Body}
use Rattle.ompt_events.specs.declared.records.Body.TheVariants.{ImplicitTask}
use Rattle.ompt_events.specs.declared.records.Membership.{Membership}
use Rattle.ompt_events.specs.declared.names.Endpoint.TheVariants.{Begin}
use Rattle.ompt_events.specs.declared.cause.Cause.TheVariants.{CreatedTwice}
use Rattle.ompt_events.specs.Flags as flag
use Rattle.ompt_events.specs.Flags.{has_flag}
use Rattle.ompt_events.specs.Records.{made, joined, begun_initial, begun_root}
use Rattle.ompt_events.specs.Places.{at}
use Rattle.ompt_events.specs.Causes.{IsFreeOf}
use Rattle.ompt_events.specs.Teams.{members_before, IsInitial, IsTeammate, alone, together}
use Rattle.ompt_events.proofs.ListLemmas.{contains_get}
use Rattle.ompt_events.proofs.PlaceLemmas.{range_more, at_within}
use Rattle.ompt_events.proofs.RecordLemmas.{at_through, member_made, initial_made, member_begun}
use Rattle.ompt_events.proofs.RecordLemmas.{initial_begun}
use Rattle.task_tree.specs.Makers.{AreNoted}
use Rattle.index_tables.specs.Numbering.{AreApart}
use Rattle.packed_trace.specs.Named.{subject}
use Rattle.task_tree.proofs.ChainLemmas.{replicate_get}
use Rattle.task_tree.proofs.LinkLemmas.{get_set_same, get_set_other}
use Rattle.task_tree.proofs.NamedLemmas.{joined_subject, begun_initial_subject}
use Rattle.task_tree.proofs.OnceLemmas.{made_once}
use Rattle.task_tree.specs.Runs.{RunView}
use Rattle.teams.specs.declared.members.Members.{Members}
use Rattle.teams.specs.Members.{AreMembers, IsLead, AreLeads, IsLeadOf, old_lead, new_lead, IsTeamThere}
use Rattle.teams.specs.Members.{there_alone, there_joined, IsInTeam, in_own, in_joined, IsInNone, AreInTeams}
use Rattle.teams.specs.Members.{IsLeadAt, AreSizes, Leads, HasRegionHashers}
use Rattle.teams.specs.Teams.{AreTeams}

-- ---- the record by which a task begins

none_of : {X : Type 0} (o : Option X) → ((x : X) → o ≡ Some x → ⊥) → o ≡ None
none_of None never = refl
none_of (Some x) never = absurd (never x refl)

pub never_of : {X : Type 0} (o : Option X) (x : X) → o ≡ None → o ≡ Some x → ⊥
never_of o x none is = none-some x (sym none ∙ is)

not_root_and_initial : (m x : Membership) (task own : ℕ) (b : Bool) → (if b then None else Some x) ≡ Some m
    → (if b then Some own else None) ≡ Some task → ⊥
not_root_and_initial m x task own true is is' = none-some m is
not_root_and_initial m x task own false is is' = none-some task is'

not_both_body : (m : Membership) (task : ℕ) (b : Body) → joined b ≡ Some m → begun_initial b ≡ Some task → ⊥
not_both_body m task (ImplicitTask Begin actual number flags parallel own) is is' =
    not_root_and_initial m (record { parallel = parallel; actual = actual; index = number; member = own })
    task own
    (has_flag flags.0 flag.initial) is is'
not_both_body m task _ is is' = none-some m is

pub joined_or_initial : (rs : List Record) (i task : ℕ) (m : Membership) → at joined rs i ≡ Some m
    → at begun_initial rs i ≡ Some task → ⊥
joined_or_initial rs i task m is is' = there (slice_get rs i) is is'
  where
    there : (o : Option Record) → option_and_then (λ (r : Record). joined r.body) o ≡ Some m
        → option_and_then (λ (r : Record). begun_initial r.body) o ≡ Some task → ⊥
    there None says says' = none-some m says
    there (Some r) says says' = not_both_body m task r.body says says'

pub joined_at_made : (rs : List Record) (i : ℕ) (m : Membership) → at joined rs i ≡ Some m
    → at made rs i ≡ Some m.member
joined_at_made rs i m = at_through joined made m m.member rs i (member_made m)

pub initial_at_made : (rs : List Record) (i task : ℕ) → at begun_initial rs i ≡ Some task
    → at made rs i ≡ Some task
initial_at_made rs i task = at_through begun_initial made task task rs i (initial_made task)

pub joined_at_subject : (rs : List Record) (i : ℕ) (m : Membership) → at joined rs i ≡ Some m
    → at subject rs i ≡ Some m.member
joined_at_subject rs i m = at_through joined subject m m.member rs i (joined_subject m)

pub initial_at_subject : (rs : List Record) (i task : ℕ) → at begun_initial rs i ≡ Some task
    → at subject rs i ≡ Some task
initial_at_subject rs i task = at_through begun_initial subject task task rs i (begun_initial_subject task)

root_subject : (task : ℕ) (b : Body) → begun_root b ≡ Some task → subject b ≡ Some task
root_subject task (ImplicitTask Begin actual number flags parallel own) is = is
root_subject task _ is = absurd (none-some task is)

alone_or : (x : Membership) (own : ℕ) (b : Bool) → (if b then None else Some x) ≡ None
    → (if b then Some own else None) ≡ Some own
alone_or x own true none = refl
alone_or x own false none = absurd (none-some x (sym none))

root_initial : (task : ℕ) (b : Body) → begun_root b ≡ Some task → joined b ≡ None
    → begun_initial b ≡ Some task
root_initial task (ImplicitTask Begin actual number flags parallel own) is none =
    alone_or (record { parallel = parallel; actual = actual; index = number; member = own }) own
    (has_flag flags.0 flag.initial) none
    ∙ is
root_initial task _ is none = absurd (none-some task is)

pub joined_at_root : (rs : List Record) (i : ℕ) (m : Membership) → at joined rs i ≡ Some m
    → at begun_root rs i ≡ Some m.member
joined_at_root rs i m = at_through joined begun_root m m.member rs i (member_begun m)

pub initial_at_root : (rs : List Record) (i task : ℕ) → at begun_initial rs i ≡ Some task
    → at begun_root rs i ≡ Some task
initial_at_root rs i task = at_through begun_initial begun_root task task rs i (initial_begun task)

pub root_at_subject : (rs : List Record) (i task : ℕ) → at begun_root rs i ≡ Some task
    → at subject rs i ≡ Some task
root_at_subject rs i task = at_through begun_root subject task task rs i (root_subject task)

pub root_at_initial : (rs : List Record) (i task : ℕ) → at begun_root rs i ≡ Some task → at joined rs i ≡ None
    → at begun_initial rs i ≡ Some task
root_at_initial rs i task = there (slice_get rs i)
  where
    there : (o : Option Record) → option_and_then (λ (r : Record). begun_root r.body) o ≡ Some task
        → option_and_then (λ (r : Record). joined r.body) o ≡ None
        → option_and_then (λ (r : Record). begun_initial r.body) o ≡ Some task
    there None is none = absurd (none-some task is)
    there (Some r) is none = root_initial task r.body is none

-- a task begins once
pub joined_once : (rs : List Record) (i k : ℕ) (m e : Membership) → IsFreeOf rs CreatedTwice
    → at joined rs i ≡ Some m → at joined rs k ≡ Some e → m.member ≡ e.member → (i ≡ k) × (m ≡ e)
joined_once rs i k m e free here there is =
    let same : i ≡ k =
    made_once rs m.member i k free (joined_at_made rs i m here)
    (joined_at_made rs k e there ∙ ap Some (sym is)) in
    (same, same_Some m e (sym here ∙ ap (at joined rs) same ∙ there))

pub initial_once : (rs : List Record) (i k task : ℕ) (m : Membership) → IsFreeOf rs CreatedTwice
    → at begun_initial rs i ≡ Some task → at joined rs k ≡ Some m → m.member ≡ task → ⊥
initial_once rs i k task m free here there is =
    let same : i ≡ k =
    made_once rs task i k free (initial_at_made rs i task here)
    (joined_at_made rs k m there ∙ ap Some is) in
    joined_or_initial rs k task m there (ap (at begun_initial rs) (sym same) ∙ here)

-- ---- the members before a place

members_step : (rs : List Record) (parallel n : ℕ)
    → members_before rs parallel (n + 1)
    ≡ members_before rs parallel n
    ++ filter (λ (m : Membership). m.parallel == parallel) (cons_option (at joined rs n) [])
members_step rs parallel n =
    ap (λ l. filter (λ (m : Membership). m.parallel == parallel) (filter_map (at joined rs) l)) (range_more n)
    ∙ ap (filter (λ (m : Membership). m.parallel == parallel))
    (filter_map-append (at joined rs) (range_with_len 0 n) (n ∷ []))
    ∙ filter-append (λ (m : Membership). m.parallel == parallel)
    (filter_map (at joined rs) (range_with_len 0 n)) (cons_option (at joined rs n) [])

pub members_pushed : (rs : List Record) (parallel n : ℕ) (m : Membership) → at joined rs n ≡ Some m
    → m.parallel ≡ parallel → members_before rs parallel (n + 1) ≡ members_before rs parallel n ++ m ∷ []
members_pushed rs parallel n m joins is =
    members_step rs parallel n
    ∙ ap
    (λ o.
    members_before rs parallel n
    ++ filter (λ (x : Membership). x.parallel == parallel) (cons_option o []))
    joins
    ∙ ap (λ b. members_before rs parallel n ++ cond b (m ∷ []) []) (eq-eqb m.parallel parallel is)

pub members_same : (rs : List Record) (parallel n : ℕ)
    → ((m : Membership) → at joined rs n ≡ Some m → m.parallel ≡ parallel → ⊥)
    → members_before rs parallel (n + 1) ≡ members_before rs parallel n
members_same rs parallel n never =
    members_step rs parallel n ∙ ap (λ l. members_before rs parallel n ++ l) (nothing (at joined rs n) refl)
    ∙ append-nil (members_before rs parallel n)
  where
    nothing : (o : Option Membership) → at joined rs n ≡ o
        → filter (λ (m : Membership). m.parallel == parallel) (cons_option o []) ≡ []
    nothing None e = refl
    nothing (Some m) e = ap (λ b. cond b (m ∷ []) []) (ne_eqb m.parallel parallel (never m e))

-- a record adds one member or none
pub record IsAdded (rs : List Record) (parallel n : ℕ) : Type 0 where
  pub m : Membership
  pub joins : at joined rs n ≡ Some m
  pub same : m.parallel ≡ parallel
  pub more : members_before rs parallel (n + 1) ≡ members_before rs parallel n ++ m ∷ []

pub members_cases : (rs : List Record) (parallel n : ℕ)
    → (members_before rs parallel (n + 1) ≡ members_before rs parallel n) ⊎ IsAdded rs parallel n
members_cases rs parallel n = there (at joined rs n) refl
  where
    there : (o : Option Membership) → at joined rs n ≡ o
        → (members_before rs parallel (n + 1) ≡ members_before rs parallel n) ⊎ IsAdded rs parallel n
    there None e = inl (members_same rs parallel n (λ m joins is. none-some m (sym e ∙ joins)))
    there (Some m) e = elim (cases_eq m.parallel parallel) [
      | inl same ↦
          inr (record { m = m; joins = e; same = same; more = members_pushed rs parallel n m e same })
      | inr apart ↦
          inl
          (members_same rs parallel n
          (λ x joins is.
          apart (ap (λ (y : Membership). y.parallel) (same_Some m x (sym e ∙ joins)) ∙ is)))
    ]

-- the member begins there
pub record IsMemberAt (rs : List Record) (parallel n : ℕ) (m : Membership) : Type 0 where
  pub place : ℕ
  pub before : place < n
  pub joins : at joined rs place ≡ Some m
  pub same : m.parallel ≡ parallel

member_later : (rs : List Record) (parallel n : ℕ) (m : Membership) → IsMemberAt rs parallel n m
    → IsMemberAt rs parallel (n + 1) m
member_later rs parallel n m is = record {
  place = is.place;
  before = let h = is.before in omega (arith, h);
  joins = is.joins;
  same = is.same;
}

pub member_place : (rs : List Record) (parallel n : ℕ) (m : Membership)
    → Contains (members_before rs parallel n) m → IsMemberAt rs parallel n m
member_place rs parallel zero m (k, below, is) = absurd (omega arith)
member_place rs parallel (suc n) m found =
    let P : ℕ → Type 0 = λ k. Contains (members_before rs parallel k) m → IsMemberAt rs parallel k m in
    subst P (add-one n) (more (member_place rs parallel n m) (members_cases rs parallel n)) found
  where
    more : (Contains (members_before rs parallel n) m → IsMemberAt rs parallel n m)
        → (members_before rs parallel (n + 1) ≡ members_before rs parallel n) ⊎ IsAdded rs parallel n
        → Contains (members_before rs parallel (n + 1)) m → IsMemberAt rs parallel (n + 1) m
    more old (inl same) has =
        let P : List Membership → Type 0 = λ l. Contains l m in
        member_later rs parallel n m (old (subst P same has))
    more old (inr added) has =
        let P : List Membership → Type 0 = λ l. Contains l m in
        let Q : Membership → Type 0 = IsMemberAt rs parallel (n + 1) in
        elim (Contains-push_cases (members_before rs parallel n) added.m m (subst P added.more has)) [
          | inl before ↦ member_later rs parallel n m (old before)
          | inr last ↦
              subst Q last (record {
                place = n;
                before = omega arith;
                joins = added.joins;
                same = added.same;
              })
        ]

pub place_member : (rs : List Record) (parallel n k : ℕ) (m : Membership) → k < n → at joined rs k ≡ Some m
    → m.parallel ≡ parallel → Contains (members_before rs parallel n) m
place_member rs parallel zero k m below joins is = absurd (omega (arith, below))
place_member rs parallel (suc n) k m below joins is =
    let P : ℕ → Type 0 = λ x. Contains (members_before rs parallel x) m in
    let Q : List Membership → Type 0 = λ l. Contains l m in
    elim (cases_eq k n) [
      | inl same ↦
          let here = ap (at joined rs) (sym same) ∙ joins in
          subst P (add-one n)
          (subst Q (sym (members_pushed rs parallel n m here is))
          (Contains-push (members_before rs parallel n) m))
      | inr apart ↦
          subst P (add-one n)
          (stays (place_member rs parallel n k m (omega (arith, below, apart)) joins is)
          (members_cases rs parallel n))
    ]
  where
    stays : Contains (members_before rs parallel n) m
        → (members_before rs parallel (n + 1) ≡ members_before rs parallel n) ⊎ IsAdded rs parallel n
        → Contains (members_before rs parallel (n + 1)) m
    stays old (inl same) = let Q : List Membership → Type 0 = λ l. Contains l m in subst Q (sym same) old
    stays old (inr added) =
        let Q : List Membership → Type 0 = λ l. Contains l m in
        subst Q (sym added.more) (Contains-append_left (members_before rs parallel n) (added.m ∷ []) m old)

pub members_few : (rs : List Record) (parallel n : ℕ) → length (members_before rs parallel n) ≤ n
members_few rs parallel zero = omega arith
members_few rs parallel (suc n) =
    let P : ℕ → Type 0 = λ k. length (members_before rs parallel k) ≤ k in
    subst P (add-one n) (more (members_few rs parallel n) (members_cases rs parallel n))
  where
    more : length (members_before rs parallel n) ≤ n
        → (members_before rs parallel (n + 1) ≡ members_before rs parallel n) ⊎ IsAdded rs parallel n
        → length (members_before rs parallel (n + 1)) ≤ n + 1
    more few (inl same) = let is = ap length same in omega (arith, few, is)
    more few (inr added) =
        let longer = ap length added.more ∙ length_push (members_before rs parallel n) added.m in
        omega (arith, few, longer)

-- ---- leads

-- a team has one lead, and a task leads one team
pub lead_one : (rs : List Record) (tasks : List ℕ) (parallel a b : ℕ) → AreApart tasks
    → IsLead rs tasks parallel a → IsLead rs tasks parallel b → a ≡ b
lead_one rs tasks parallel a b apart la lb = elim (cases_order la.place lb.place) [
  | inl same ↦
      apart a b la.first.member la.here
      (lb.here
      ∙ ap (λ (m : Membership). Some m.member)
      (same_Some lb.first la.first (sym lb.joins ∙ ap (at joined rs) (sym same) ∙ la.joins)))
  | inr (inl less) ↦ absurd (lb.earliest la.place la.first less la.joins la.same)
  | inr (inr more) ↦ absurd (la.earliest lb.place lb.first more lb.joins lb.same)
]

pub lead_other : (rs : List Record) (tasks : List ℕ) (parallel other lead : ℕ) → IsFreeOf rs CreatedTwice
    → IsLead rs tasks parallel lead → IsLead rs tasks other lead → parallel ≡ other
lead_other rs tasks parallel other lead free lp lq =
    let same =
    joined_once rs lp.place lq.place lp.first lq.first free lp.joins lq.joins
    (same_Some lp.first.member lq.first.member (sym lp.here ∙ lq.here)) in
    sym lp.same ∙ ap (λ (m : Membership). m.parallel) same.1 ∙ lq.same

-- no team and no member by no record
pub members_start : (run : RunView) (count : ℕ) (members : Members) → count ≡ length run.family.tasks
    → members.teams.items ≡ replicate count None → members.sizes.items ≡ replicate count 0
    → AreMembers run 0 members
members_start run count members all teams sizes = record {
  teams = record {
    all = ap length teams ∙ length-replicate count None ∙ all;
    known =
        λ index task team is stands.
        absurd (none-some team (sym (replicate_get count index None (Some team) (rw teams at stands))));
    none = λ index task is stands. record {
      not_initial = λ i below. absurd (omega (arith, below));
      not_joined = λ i m below. absurd (omega (arith, below));
    };
  };
  sizes = record {
    all = ap length sizes ∙ length-replicate count 0 ∙ all;
    each = λ parallel lead size leads stands. replicate_get count lead 0 size (rw sizes at stands);
    only =
        λ index size stands some.
        let zero_size = replicate_get count index 0 size (rw sizes at stands) in
        absurd (omega (arith, zero_size, some));
  };
}

pub leads_start : (rs : List Record) (tasks : List ℕ) (leads : Leads) → IsEmpty leads
    → AreLeads rs 0 tasks leads
leads_start rs tasks leads empty = record {
  known = λ parallel lead found. absurd (none-some lead (rw empty at found));
  none = λ parallel k m missing below. absurd (omega (arith, below));
}

lead_new : (rs : List Record) (n : ℕ) (tasks : List ℕ) (leads : Leads) (m : Membership) (index : ℕ)
    → AreLeads rs n tasks leads → at joined rs n ≡ Some m → slice_get tasks index ≡ Some m.member
    → get nat_eq leads m.parallel ≡ None → IsLead rs tasks m.parallel index
lead_new rs n tasks leads m index are joins here missing = record {
  place = n;
  first = m;
  joins = joins;
  same = refl;
  earliest = λ k e below joins' is. are.none m.parallel k e missing below joins' is;
  here = here;
}

pub lead_of_is : (rs : List Record) (n : ℕ) (tasks : List ℕ) (old new : Leads) (m : Membership)
    (index lead : ℕ)
    → AreLeads rs n tasks old → at joined rs n ≡ Some m → slice_get tasks index ≡ Some m.member
    → IsLeadOf old new m.parallel index lead → IsLead rs tasks m.parallel lead
lead_of_is rs n tasks old new m index lead are joins here (old_lead found same) =
    are.known m.parallel lead found
lead_of_is rs n tasks old new m index lead are joins here (new_lead missing is updates _) =
    let P : ℕ → Type 0 = IsLead rs tasks m.parallel in
    subst P (sym is) (lead_new rs n tasks old m index are joins here missing)

-- a lead that is noted leaves the hashers
pub hashers_stay : (run : RunView) (old new : Leads) (parallel index lead : ℕ) → HasRegionHashers run old
    → IsLeadOf old new parallel index lead → HasRegionHashers run new
hashers_stay run old new parallel index lead has (old_lead found same) = rw same has
hashers_stay run old new parallel index lead has (new_lead missing is updates still) = still ∙ has

-- ---- the teams of tasks

in_later : (rs : List Record) (n : ℕ) (tasks : List ℕ) (index task team : ℕ)
    → IsInTeam rs n tasks index task team → IsInTeam rs (n + 1) tasks index task team
in_later rs n tasks index task team (in_own i below is same) = in_own i (omega (arith, below)) is same
in_later rs n tasks index task team (in_joined i m below joins is leads) =
    in_joined i m (omega (arith, below)) joins is leads

none_more : (rs : List Record) (n task : ℕ) → IsInNone rs n task → (at begun_initial rs n ≡ Some task → ⊥)
    → ((m : Membership) → at joined rs n ≡ Some m → m.member ≡ task → ⊥) → IsInNone rs (n + 1) task
none_more rs n task old no_initial no_joined = record {
  not_initial = λ i below is. elim (cases_eq i n) [
    | inl same ↦ no_initial (ap (at begun_initial rs) (sym same) ∙ is)
    | inr apart ↦ old.not_initial i (omega (arith, below, apart)) is
  ];
  not_joined = λ i m below joins is. elim (cases_eq i n) [
    | inl same ↦ no_joined m (ap (at joined rs) (sym same) ∙ joins) is
    | inr apart ↦ old.not_joined i m (omega (arith, below, apart)) joins is
  ];
}

pub teams_same : (rs : List Record) (n : ℕ) (tasks : List ℕ) (teams : List (Option ℕ))
    → AreInTeams rs n tasks teams → ((task : ℕ) → at begun_initial rs n ≡ Some task → ⊥)
    → ((m : Membership) → at joined rs n ≡ Some m → ⊥) → AreInTeams rs (n + 1) tasks teams
teams_same rs n tasks teams are no_initial no_joined = record {
  all = are.all;
  known =
      λ index task team is_task stands.
      in_later rs n tasks index task team (are.known index task team is_task stands);
  none =
      λ index task is_task stands.
      none_more rs n task (are.none index task is_task stands) (no_initial task)
      (λ m joins is. no_joined m joins);
}

there_in : (rs : List Record) (n : ℕ) (tasks : List ℕ) (own task team : ℕ) → at subject rs n ≡ Some task
    → IsTeamThere rs tasks n own (Some team) → IsInTeam rs (n + 1) tasks own task team
there_in rs n tasks own task team is_subject (there_alone other is same) =
    in_own n (omega arith) (is ∙ sym (initial_at_subject rs n other is) ∙ is_subject) same
there_in rs n tasks own task team is_subject (there_joined m joins leads) =
    in_joined n m (omega arith) joins
    (same_Some m.member task (sym (joined_at_subject rs n m joins) ∙ is_subject)) leads

pub teams_more : (rs : List Record) (n own task team : ℕ) (tasks : List ℕ) (teams : List (Option ℕ))
    → AreApart tasks → AreInTeams rs n tasks teams → slice_get tasks own ≡ Some task
    → at subject rs n ≡ Some task → IsTeamThere rs tasks n own (Some team)
    → AreInTeams rs (n + 1) tasks (set teams own (Some team))
teams_more rs n own task team tasks teams apart are is_own is_subject there = record {
  all = length-set teams own (Some team) ∙ are.all;
  known = λ index other number is_other stands. elim (cases_eq index own) [
    | inl same ↦
        let is_task : task ≡ other =
        same_Some task other (sym is_own ∙ ap (slice_get tasks) (sym same) ∙ is_other) in
        let is_team : team ≡ number =
        same_Some team number
        (same_Some (Some team) (Some number)
        (sym (get_set_same teams own (Some team) within)
        ∙ ap (slice_get (set teams own (Some team))) (sym same) ∙ stands)) in
        let P : ℕ → Type 0 = λ k. IsInTeam rs (n + 1) tasks k other number in
        let Q : ℕ → Type 0 = λ t. IsInTeam rs (n + 1) tasks own t number in
        let R : ℕ → Type 0 = IsInTeam rs (n + 1) tasks own task in
        subst P (sym same)
        (subst Q is_task (subst R is_team (there_in rs n tasks own task team is_subject there)))
    | inr different ↦
        in_later rs n tasks index other number
        (are.known index other number is_other
        (sym (get_set_other teams own index (Some team) different) ∙ stands))
  ];
  none = λ index other is_other stands. elim (cases_eq index own) [
    | inl same ↦
        absurd
        (none-some team
        (same_Some None (Some team)
        (sym stands ∙ ap (slice_get (set teams own (Some team))) same
        ∙ get_set_same teams own (Some team) within)))
    | inr different ↦
        none_more rs n other
        (are.none index other is_other
        (sym (get_set_other teams own index (Some team) different) ∙ stands))
        (λ is.
        different
        (apart index own task (is_other ∙ sym (initial_at_subject rs n other is) ∙ is_subject)
        is_own))
        (λ m joins is.
        different
        (apart index own task
        (is_other ∙ ap Some (sym is) ∙ sym (joined_at_subject rs n m joins) ∙ is_subject) is_own))
  ];
}
  where
    within : own < length teams
    within = let inside = slice_get_within tasks own task is_own in omega (arith, inside, are.all)

-- the member that begins at a place is in the team of its lead
pub lead_there : (rs : List Record) (tasks : List ℕ) (teams : List (Option ℕ)) (i index : ℕ) (m : Membership)
    (slot : Option ℕ)
    → IsFreeOf rs CreatedTwice → AreInTeams rs (length rs) tasks teams → at joined rs i ≡ Some m
    → slice_get tasks index ≡ Some m.member → slice_get teams index ≡ Some slot
    → MatchOption slot (at joined rs i ≡ None) (IsLeadAt rs tasks i)
lead_there rs tasks teams i index m None free are joins is stands =
    absurd ((are.none index m.member is stands).not_joined i m (at_within joined rs i m joins) joins refl)
lead_there rs tasks teams i index m (Some team) free are joins is stands =
    in_team (are.known index m.member team is stands)
  where
    in_team : IsInTeam rs (length rs) tasks index m.member team → IsLeadAt rs tasks i team
    in_team (in_own k below initial same) = absurd (initial_once rs k i m.member m free initial joins refl)
    in_team (in_joined k e below joins' is' leads) =
        let P : Membership → Type 0 = λ x. IsLead rs tasks x.parallel team in
        record {
          member = m;
          joins = joins;
          leads = subst P (joined_once rs k i e m free joins' joins is').1 leads;
        }

-- ---- two tasks are in one team

-- a task and a teammate by the records by which they begin
record AreMates (rs : List Record) (task mate : ℕ) : Type 0 where
  own : Membership
  other : Membership
  own_place : ℕ
  other_place : ℕ
  own_joins : at joined rs own_place ≡ Some own
  other_joins : at joined rs other_place ≡ Some other
  own_is : own.member ≡ task
  other_is : other.member ≡ mate
  same : own.parallel ≡ other.parallel

mate_cases : (rs : List Record) (task mate : ℕ) → IsTeammate rs task mate
    → (IsInitial rs task × (mate ≡ task)) ⊎ AreMates rs task mate
mate_cases rs task mate (alone initial) = inl (initial, refl)
mate_cases rs task mate (together parallel own other has_own is_own has_other) =
    let first = member_place rs parallel (length rs) own has_own in
    let second = member_place rs parallel (length rs) other has_other in
    inr (record {
      own = own;
      other = other;
      own_place = first.place;
      other_place = second.place;
      own_joins = first.joins;
      other_joins = second.joins;
      own_is = is_own;
      other_is = refl;
      same = first.same ∙ sym second.same;
    })

mates_together : (rs : List Record) (task mate i k : ℕ) (own other : Membership) → at joined rs i ≡ Some own
    → at joined rs k ≡ Some other → own.member ≡ task → other.member ≡ mate → own.parallel ≡ other.parallel
    → IsTeammate rs task mate
mates_together rs task mate i k own other joins joins' is is' same =
    let P : ℕ → Type 0 = IsTeammate rs task in
    subst P is'
    (together own.parallel own other
    (place_member rs own.parallel (length rs) i own (at_within joined rs i own joins) joins refl) is
    (place_member rs own.parallel (length rs) k other (at_within joined rs k other joins') joins'
    (sym same)))

-- a task that is alone leads no team
pub own_lead : (rs : List Record) (tasks : List ℕ) (i parallel task index lead : ℕ) → IsFreeOf rs CreatedTwice
    → slice_get tasks index ≡ Some task → at begun_initial rs i ≡ Some task → IsLead rs tasks parallel lead
    → lead ≡ index → ⊥
own_lead rs tasks i parallel task index lead free is_task is leads same =
    initial_once rs i leads.place task leads.first free is leads.joins
    (same_Some leads.first.member task (sym leads.here ∙ ap (slice_get tasks) same ∙ is_task))

same_team : (rs : List Record) (n : ℕ) (tasks : List ℕ) (index other task mate team : ℕ)
    → IsFreeOf rs CreatedTwice → slice_get tasks index ≡ Some task → slice_get tasks other ≡ Some mate
    → IsInTeam rs n tasks index task team → IsInTeam rs n tasks other mate team → IsTeammate rs task mate
same_team rs n tasks index other task mate team free is_task is_mate (in_own i below is same)
    (in_own k below' is' same') =
    let P : ℕ → Type 0 = IsTeammate rs task in
    let one : task ≡ mate =
    same_Some task mate (sym is_task ∙ ap (slice_get tasks) (sym same ∙ same') ∙ is_mate) in
    subst P one (alone (i, is))
same_team rs n tasks index other task mate team free is_task is_mate (in_own i below is same)
    (in_joined k e below' joins' is' leads') =
    absurd (own_lead rs tasks i e.parallel task index team free is_task is leads' same)
same_team rs n tasks index other task mate team free is_task is_mate (in_joined i m below joins is leads)
    (in_own k below' is' same') =
    absurd (own_lead rs tasks k m.parallel mate other team free is_mate is' leads same')
same_team rs n tasks index other task mate team free is_task is_mate (in_joined i m below joins is leads)
    (in_joined k e below' joins' is' leads') =
    mates_together rs task mate i k m e joins joins' is is'
    (lead_other rs tasks m.parallel e.parallel team free leads leads')

-- a task that joined is in the team of its lead
pub joined_lead : (rs : List Record) (n : ℕ) (tasks : List ℕ) (index task team i : ℕ) (m : Membership)
    → IsFreeOf rs CreatedTwice → IsInTeam rs n tasks index task team → at joined rs i ≡ Some m
    → m.member ≡ task → IsLead rs tasks m.parallel team
joined_lead rs n tasks index task team i m free (in_own k below is same) joins is_task =
    absurd (initial_once rs k i task m free is joins is_task)
joined_lead rs n tasks index task team i m free (in_joined k e below joins' is leads) joins is_task =
    let P : Membership → Type 0 = λ x. IsLead rs tasks x.parallel team in
    subst P (joined_once rs k i e m free joins' joins (is ∙ sym is_task)).1 leads

pub teams_are : (rs : List Record) (tasks : List ℕ) (teams : List (Option ℕ)) → IsFreeOf rs CreatedTwice
    → AreApart tasks → AreInTeams rs (length rs) tasks teams → AreTeams rs tasks teams
teams_are rs tasks teams free apart are = record {
  all = are.all;
  mates = λ index other task mate team is_task is_mate stands. (
    λ there.
        same_team rs (length rs) tasks index other task mate team free is_task is_mate
        (are.known index task team is_task stands) (are.known other mate team is_mate there),
    λ is. elim (mate_cases rs task mate is) [
      | inl own ↦ ap (slice_get teams) (apart other index task (is_mate ∙ ap Some own.1) is_task) ∙ stands
      | inr both ↦
          of_mate index other task mate team is_task is_mate stands both (get_or teams other None)
          (slice_get-get_or teams other None (inside other mate is_mate))
    ],
  );
  none = λ index task mate is_task stands is.
      let never = are.none index task is_task stands in
      elim (mate_cases rs task mate is) [
        | inl own ↦ never.not_initial own.0.0 (at_within begun_initial rs own.0.0 task own.0.1) own.0.1
        | inr both ↦
            never.not_joined both.own_place both.own
            (at_within joined rs both.own_place both.own both.own_joins) both.own_joins both.own_is
      ];
}
  where
    inside : (other mate : ℕ) → slice_get tasks other ≡ Some mate → other < length teams
    inside other mate is = let within = slice_get_within tasks other mate is in omega (arith, within, are.all)

    of_mate : (index other task mate team : ℕ) → slice_get tasks index ≡ Some task
        → slice_get tasks other ≡ Some mate → slice_get teams index ≡ Some (Some team) → AreMates rs task mate
        → (slot : Option ℕ) → slice_get teams other ≡ Some slot → slice_get teams other ≡ Some (Some team)
    of_mate index other task mate team is_task is_mate stands both None there =
        absurd
        ((are.none other mate is_mate there).not_joined both.other_place both.other
        (at_within joined rs both.other_place both.other both.other_joins) both.other_joins
        both.other_is)
    of_mate index other task mate team is_task is_mate stands both (Some number) there =
        let own =
        joined_lead rs (length rs) tasks index task team both.own_place both.own free
        (are.known index task team is_task stands) both.own_joins both.own_is in
        let mates =
        joined_lead rs (length rs) tasks other mate number both.other_place both.other free
        (are.known other mate number is_mate there) both.other_joins both.other_is in
        let P : ℕ → Type 0 = λ p. IsLead rs tasks p number in
        there
        ∙ ap (λ t. Some (Some t))
        (lead_one rs tasks both.own.parallel number team apart (subst P (sym both.same) mates) own)

-- ---- how many members a team has

pub sizes_same : (rs : List Record) (n : ℕ) (tasks sizes : List ℕ) → AreSizes rs n tasks sizes
    → at joined rs n ≡ None → AreSizes rs (n + 1) tasks sizes
sizes_same rs n tasks sizes are none = record {
  all = are.all;
  each =
      λ parallel lead size leads stands.
      are.each parallel lead size leads stands
      ∙ ap length
      (sym (members_same rs parallel n (λ m joins is. never_of (at joined rs n) m none joins)));
  only = are.only;
}

pub sizes_more : (rs : List Record) (n : ℕ) (tasks sizes : List ℕ) (lead old : ℕ) → IsFreeOf rs CreatedTwice
    → AreApart tasks → AreSizes rs n tasks sizes → IsLeadAt rs tasks n lead → slice_get sizes lead ≡ Some old
    → AreSizes rs (n + 1) tasks (set sizes lead (old + 1))
sizes_more rs n tasks sizes lead old free apart are here stands_old = record {
  all = length-set sizes lead (old + 1) ∙ are.all;
  each = λ parallel other size leads stands. elim (cases_eq other lead) [
    | inl same ↦
        let P : ℕ → Type 0 = IsLead rs tasks parallel in
        let is_parallel : parallel ≡ here.member.parallel =
        lead_other rs tasks parallel here.member.parallel lead free (subst P same leads) here.leads in
        let is_size : size ≡ old + 1 =
        same_Some size (old + 1)
        (sym stands ∙ ap (slice_get (set sizes lead (old + 1))) same
        ∙ get_set_same sizes lead (old + 1) (slice_get_within sizes lead old stands_old)) in
        is_size ∙ ap (λ k. k + 1) (are.each here.member.parallel lead old here.leads stands_old)
        ∙ sym (length_push (members_before rs here.member.parallel n) here.member)
        ∙ ap length (sym (members_pushed rs here.member.parallel n here.member here.joins refl))
        ∙ ap (λ p. length (members_before rs p (n + 1))) (sym is_parallel)
    | inr different ↦
        are.each parallel other size leads (sym (get_set_other sizes lead other (old + 1) different) ∙ stands)
        ∙ ap length (sym (members_same rs parallel n (λ m joins is.
        let P : ℕ → Type 0 = λ p. IsLead rs tasks p lead in
        let is_parallel : here.member.parallel ≡ parallel =
        ap (λ (x : Membership). x.parallel) (same_Some here.member m (sym here.joins ∙ joins)) ∙ is in
        different (lead_one rs tasks parallel other lead apart leads (subst P is_parallel here.leads)))))
  ];
  only = λ index size stands more. elim (cases_eq index lead) [
    | inl same ↦
        let P : ℕ → Type 0 = λ k. (parallel : ℕ) × IsLead rs tasks parallel k in
        subst P (sym same) (here.member.parallel, here.leads)
    | inr different ↦
        are.only index size (sym (get_set_other sizes lead index (old + 1) different) ∙ stands) more
  ];
}

pub size_few : (rs : List Record) (n : ℕ) (tasks sizes : List ℕ) (lead size : ℕ) → AreSizes rs n tasks sizes
    → IsLeadAt rs tasks n lead → slice_get sizes lead ≡ Some size → size ≤ n
size_few rs n tasks sizes lead size are here stands =
    let is = are.each here.member.parallel lead size here.leads stands in
    let few = members_few rs here.member.parallel n in
    omega (arith, is, few)

-- a lead is the index of a task
pub lead_within : {X : Type 0} (rs : List Record) (tasks : List ℕ) (table : List X) (parallel lead : ℕ)
    → IsLead rs tasks parallel lead → length table ≡ length tasks → lead < length table
lead_within rs tasks table parallel lead leads all =
    let inside = slice_get_within tasks lead leads.first.member leads.here in omega (arith, inside, all)

-- ---- one record more

pub members_none : (run : RunView) (n : ℕ) (members : Members) → AreMembers run n members
    → at begun_root run.records n ≡ None → AreMembers run (n + 1) members
members_none run n members are none = record {
  teams =
      teams_same run.records n run.family.tasks members.teams.items are.teams
      (λ task is.
      never_of (at begun_root run.records n) task none (initial_at_root run.records n task is))
      (λ m joins.
      never_of (at begun_root run.records n) m.member none (joined_at_root run.records n m joins));
  sizes =
      sizes_same run.records n run.family.tasks members.sizes.items are.sizes
      (none_of (at joined run.records n)
      (λ m joins.
      never_of (at begun_root run.records n) m.member none
      (joined_at_root run.records n m joins)));
}

-- the team of the root that begins there, alone or with the members of its region
pub team_put : (rs : List Record) (n own task team : ℕ) (slot : Option ℕ) (tasks : List ℕ)
    (teams : List (Option ℕ))
    → AreApart tasks → AreInTeams rs n tasks teams → slice_get tasks own ≡ Some task
    → at begun_root rs n ≡ Some task → IsTeamThere rs tasks n own (Some team) → slot ≡ Some team
    → AreInTeams rs (n + 1) tasks (set teams own slot)
team_put rs n own task team slot tasks teams apart are is_own begins there is_slot =
    let Q : Option ℕ → Type 0 = λ s. AreInTeams rs (n + 1) tasks (set teams own s) in
    subst Q (sym is_slot)
    (teams_more rs n own task team tasks teams apart are is_own (root_at_subject rs n task begins) there)

-- a teammate of a task is a task
pub mate_index : (rs : List Record) (tasks : List ℕ) (index task mate : ℕ)
    → AreNoted made rs (length rs) tasks → slice_get tasks index ≡ Some task → IsTeammate rs task mate
    → (other : ℕ) × (slice_get tasks other ≡ Some mate)
mate_index rs tasks index task mate noted is_task is = elim (mate_cases rs task mate is) [
  | inl own ↦ (index, is_task ∙ ap Some (sym own.1))
  | inr both ↦
      contains_get tasks mate
      (noted.each both.other_place mate (at_within joined rs both.other_place both.other both.other_joins)
      (joined_at_made rs both.other_place both.other both.other_joins ∙ ap Some both.other_is))
]
