-- The end of a region covers the task that the search finds.
use Rattle.std.proofs.Common.{◌≡◌, ◌≢◌, ◌∙◌, ℕ, zero, suc, ◌<◌, ◌≤◌, ◌+◌, ◌-◌, true, List, [], ◌∷◌, ◌++◌}
use Rattle.std.proofs.Common.{length, Option, Some, refl, sym, ap, subst, arith, inl, inr}
use Rattle.std.specs.Prelude.{Contains, drop, slice_get, option_map}
use Rattle.std.proofs.lemmas.Bool.{cases_eq, cases_lt}
use Rattle.std.proofs.lemmas.Option.{none-some, same_Some, slice_get_within}
use Rattle.ompt_events.specs.declared.records.Record.{Record}
use Rattle.ompt_events.specs.declared.records.Part.{Part}
use Rattle.ompt_events.specs.declared.records.Part.TheVariants.{Whole, Body, Event}
use Rattle.ompt_events.specs.declared.names.SyncKind.{SyncKind}
use Rattle.ompt_events.specs.declared.names.SyncKind.TheVariants.{Taskwait, Taskgroup}
use Rattle.ompt_events.specs.declared.names.Endpoint.{Endpoint}
use Rattle.ompt_events.specs.declared.names.Endpoint.TheVariants.{Begin, End, BeginEnd}
use Rattle.ompt_events.specs.Records.{creation, finish, region}
use Rattle.ompt_events.specs.Places.{at, seen_at}
use Rattle.ompt_events.specs.Teams.{IsTeammate, together}
use Rattle.ompt_events.specs.Tree.{IsCreatedAt, children_before, children_between, child_number}
use Rattle.ompt_events.specs.Tree.{IsDescendant, child, deeper}
use Rattle.ompt_events.specs.Regions.{EndsRegion, ended, at_once, kind_at, open_regions, is_barrier}
use Rattle.ompt_events.specs.Regions.{barrier_begins, IsBarrierBegin}
use Rattle.ompt_events.specs.Coverage.{IsFamily, Covers, waited, grouped, synchronised}
use Rattle.ompt_events.proofs.ListLemmas.{get_contains, get_last, get_within}
use Rattle.ompt_events.proofs.PlaceLemmas.{at_within, get_at}
use Rattle.ompt_events.proofs.RegionLemmas.{IsOwnBegin, own_begin}
use Rattle.ompt_events.proofs.TreeLemmas.{child_before, children_more, children_stay}
use Rattle.online.specs.declared.kin.Kin.{Kin}
use Rattle.online.specs.declared.missed.Awaited.{Awaited}
use Rattle.online.specs.declared.missed.Awaited.TheVariants.{Children, Group, Team}
use Rattle.online.specs.Missed.{AreCreatedOutside, AreTasksLeft, IsChildIn, IsAwaitedChild}
use Rattle.online.specs.Missed.{IsBelowAwaited, here, below}
use Rattle.online.specs.Missed.{IsReached, AreInGroup, AreInTeam, AreAwaitedAt, at_taskwait, at_taskgroup}
use Rattle.online.specs.Missed.{at_barrier}
use Rattle.online.specs.Teams.{phase_at, IsMemberOf, IsInTeams}
use Rattle.online.specs.Waits.{IsWaitsOf, IsCompleteBelow, open_groups, number_before}
use Rattle.online.proofs.BarrierLemmas.{begins_before, begins_sooner, barrier_begin_stays}
use Rattle.online.proofs.ChildLemmas.{number_rises, descendant_high}
use Rattle.online.proofs.CurrentLemmas.{open_same}
use Rattle.online.proofs.GrowLemmas.{said_grows}
use Rattle.online.proofs.NameLemmas.{whole_long}
use Rattle.online.proofs.OpenGroupLemmas.{at_last, groups_ended, number_most, number_past}
use Rattle.online.proofs.OpenedLemmas.{HaveBegins, HasEndedBarrier, open_since, barrier_region, last_barrier}
use Rattle.online.proofs.ReadLemmas.{IsSameTo, same_append, same_whole, at_same}
use Rattle.online.proofs.StayLemmas.{creation_region}
use Rattle.online.proofs.TeamLemmas.{teammate_stays}

-- ---- a record more

grown : (rs : List Record) (r : Record) → IsSameTo (length rs) (rs ++ r ∷ []) rs
grown rs r = same_append rs (r ∷ [])

-- what is open just before the last record is what is open behind the others
opened_there : (rs : List Record) (r : Record) (task i : ℕ) → i ≤ length rs
    → open_regions (rs ++ r ∷ []) task i ≡ open_regions rs task i
opened_there rs r task i most = open_same (length rs) (rs ++ r ∷ []) rs (grown rs r) task i most

region_there : (rs : List Record) (r : Record) (i : ℕ) → i < length rs
    → at region (rs ++ r ∷ []) i ≡ at region rs i
region_there rs r i low = at_same region (length rs) (rs ++ r ∷ []) rs (grown rs r) i low

kind_there : (rs : List Record) (r : Record) (i : ℕ) → i < length rs
    → kind_at (rs ++ r ∷ []) i ≡ kind_at rs i
kind_there rs r i low = ap (option_map (λ (q : ℕ × SyncKind × Endpoint). q.1)) (region_there rs r i low)

-- a record does not create a task and begin or end a region
not_both : (rs : List Record) (i parent task own : ℕ) (kind : SyncKind) (endpoint : Endpoint)
    → IsCreatedAt rs i parent task → at region rs i ≡ Some (own, kind, endpoint) → ⊥
not_both rs i parent task own kind endpoint creates says =
    let (q, there, makes) = get_at creation rs i (parent, task) creates in
    let (p, stands, tells) = get_at region rs i (own, kind, endpoint) says in
    let same : q ≡ p = same_Some q p (sym there ∙ stands) in
    none-some (own, kind, endpoint)
    (sym (creation_region parent task q.body makes) ∙ ap (λ (x : Record). region x.body) same ∙ tells)

-- ---- a taskwait

-- a child that no task creates inside a taskwait of its own was created before the taskwait began
created_early : (rs : List Record) (r : Record) (own begin i task : ℕ) → AreCreatedOutside rs
    → EndsRegion (rs ++ r ∷ []) (length rs) own Taskwait begin → IsCreatedAt rs i own task → i < begin
created_early rs r own begin i task outside ends creates = elim (cases_lt i begin) [
  | inl less ↦ less
  | inr most ↦ elim (cases_eq begin i) [
    | inl same ↦
        let says = sym (region_there rs r begin opens.before) ∙ opens.begins in
        absurd
        (not_both rs i own task own opens.kind Begin creates (ap (at region rs) (sym same) ∙ says))
    | inr apart ↦
        let less : begin < i = omega (arith, most, apart) in
        let rest : i + (length rs - i) ≡ length rs = omega (arith, low) in
        let P : List ℕ → Type 0 = λ l. Contains l begin in
        let Q : ℕ → Type 0 = λ n. Contains (open_regions (rs ++ r ∷ []) own n) begin in
        let open_now = get_contains (open_regions (rs ++ r ∷ []) own (length rs)) begin 0 ends.innermost in
        let open_then =
        open_since (rs ++ r ∷ []) own begin i (length rs - i) (subst Q (sym rest) open_now) less in
        absurd
        (outside i own task begin creates
        (subst P (opened_there rs r own i (omega (arith, low))) open_then)
        (sym (kind_there rs r begin opens.before) ∙ ends.same_kind))
  ]
]
  where
    opens : IsOwnBegin (rs ++ r ∷ []) own (length rs) begin
    opens = own_begin (rs ++ r ∷ []) (length rs) own begin Taskwait ends

    low : i < length rs
    low = at_within creation rs i (own, task) creates

-- what is created before a place of the records is created there among all
created_there : (rs : List Record) (r : Record) (i parent task : ℕ) → IsCreatedAt rs i parent task
    → IsCreatedAt (rs ++ r ∷ []) i parent task
created_there rs r i parent task creates = said_grows creation rs r i (parent, task) creates

-- the parent that is kept created the task
parent_there : (rs : List Record) (table : ℕ → Option Kin) (parent task : ℕ) → IsWaitsOf rs table
    → IsChildIn table parent task → (i : ℕ) × IsCreatedAt rs i parent task
parent_there rs table parent task waits (kin, found, above) =
    ((waits.each task kin found).place.parent parent above).0

wait_covered : (rs : List Record) (r : Record) (table : ℕ → Option Kin) (own task : ℕ) (endpoint : Endpoint)
    → AreTasksLeft rs r table → AreCreatedOutside rs → region r.body ≡ Some (own, Taskwait, endpoint)
    → endpoint ≢ Begin → IsChildIn table own task → Covers (rs ++ r ∷ []) (length rs) task
wait_covered rs r table own task endpoint refused outside says apart is_child = of endpoint says apart
  where
    made : (i : ℕ) × IsCreatedAt rs i own task
    made = parent_there rs table own task refused.waits is_child

    low : made.0 < length rs
    low = at_within creation rs made.0 (own, task) made.1

    of : (e : Endpoint) → region r.body ≡ Some (own, Taskwait, e) → e ≢ Begin
        → Covers (rs ++ r ∷ []) (length rs) task
    of Begin is other = absurd (other refl)
    of BeginEnd is other =
        waited (at_once (at_last region rs r ∙ is))
        (child_before (rs ++ r ∷ []) own task (length rs) made.0 low
        (created_there rs r made.0 own task made.1))
    of End is other =
        let (begin, ends) = refused.follows.ends own Taskwait is in
        waited (ended ends)
        (child_before (rs ++ r ∷ []) own task begin made.0
        (created_early rs r own begin made.0 task outside ends made.1)
        (created_there rs r made.0 own task made.1))

-- ---- families

descendant_there : (rs : List Record) (r : Record) (first task : ℕ) → IsFamily rs first task
    → IsFamily (rs ++ r ∷ []) first task
descendant_there rs r first task (inl is) = inl is
descendant_there rs r first task (inr is) =
    inr
    (descendant_high (length rs) rs (rs ++ r ∷ []) (same_whole rs (r ∷ [])) (omega arith) first task is)

-- one of the children, whose family the task is of
record IsOfAwaited (rs : List Record) (table : ℕ → Option Kin) (awaited : Awaited) (task : ℕ) : Type 0 where
  pub first : ℕ
  pub is_one : IsAwaitedChild table awaited first
  pub family : IsFamily rs first task

under_family : (rs : List Record) (table : ℕ → Option Kin) (awaited : Awaited) (task : ℕ) → IsWaitsOf rs table
    → IsBelowAwaited table awaited task → IsOfAwaited rs table awaited task
under_family rs table awaited task waits (here is) =
    record { first = task; is_one = is; family = inl refl }
under_family rs table awaited task waits (below parent is up) =
    let above = under_family rs table awaited parent waits up in
    let (i, creates) = parent_there rs table parent task waits is in
    record {
      first = above.first;
      is_one = above.is_one;
      family = inr (of above.first above.family i creates);
    }
  where
    of : (first : ℕ) → IsFamily rs first parent → (i : ℕ) → IsCreatedAt rs i parent task
        → IsDescendant rs first task
    of first (inl same) i creates =
        let P : ℕ → Type 0 = λ t. IsCreatedAt rs i t task in child i (subst P same creates)
    of first (inr is_below) i creates = deeper i is_below creates

-- ---- a taskgroup

get_drop : (xs : List ℕ) (from k : ℕ) → slice_get (drop from xs) k ≡ slice_get xs (from + k)
get_drop xs zero k = let e : k ≡ 0 + k = omega arith in ap (slice_get xs) e
get_drop [] (suc from) k = refl
get_drop (x ∷ xs) (suc from) k =
    let e : suc (from + k) ≡ suc from + k = omega arith in get_drop xs from k ∙ ap (slice_get (x ∷ xs)) e

-- a child keeps its number behind later records
children_later : (rs : List Record) (parent n more number task : ℕ)
    → slice_get (children_before rs parent n) number ≡ Some task
    → slice_get (children_before rs parent (n + more)) number ≡ Some task
children_later rs parent n zero number task is =
    let e : n ≡ n + zero = omega arith in
    ap (λ m. slice_get (children_before rs parent m) number) (sym e) ∙ is
children_later rs parent n (suc more) number task is =
    let e : n + suc more ≡ n + more + 1 = omega arith in
    ap (λ m. slice_get (children_before rs parent m) number) e
    ∙ children_stay rs parent (n + more) number task (children_later rs parent n more number task is)

-- a child that is created between two places
between : (rs : List Record) (parent task begin k i : ℕ) → begin < k → k < i → IsCreatedAt rs k parent task
    → Contains (children_between rs parent begin i) task
between rs parent task begin k i later sooner creates =
    get_contains (drop from (children_before rs parent i)) task (number - from)
    (get_drop (children_before rs parent i) from (number - from)
    ∙ ap (slice_get (children_before rs parent i)) (omega (arith, rises, up)) ∙ there)
  where
    from : ℕ
    from = child_number rs parent begin

    number : ℕ
    number = child_number rs parent k

    rises : child_number rs parent begin ≤ child_number rs parent (begin + (k - begin))
    rises = number_rises rs parent begin (k - begin)

    up : child_number rs parent (begin + (k - begin)) ≡ child_number rs parent k
    up = ap (child_number rs parent) (omega (arith, later))

    there : slice_get (children_before rs parent i) (child_number rs parent k) ≡ Some task
    there =
        let e : k + 1 + (i - (k + 1)) ≡ i = omega (arith, sooner) in
        ap (λ m. slice_get (children_before rs parent m) (child_number rs parent k)) (sym e)
        ∙ children_later rs parent (k + 1) (i - (k + 1)) (child_number rs parent k) task
        (ap (λ l. slice_get l (child_number rs parent k)) (children_more rs parent task k creates)
        ∙ get_last (children_before rs parent k) task (child_number rs parent k) refl)

group_covered : (rs : List Record) (r : Record) (table : ℕ → Option Kin) (own number task : ℕ)
    → AreTasksLeft rs r table → region r.body ≡ Some (own, Taskgroup, End)
    → AreInGroup table own (Group own number) → IsBelowAwaited table (Group own number) task
    → Covers (rs ++ r ∷ []) (length rs) task
group_covered rs r table own number task refused says (same, kin, found, many) is =
    let (begin, ends) = refused.follows.ends own Taskgroup says in
    let opens = groups_ended rs r own begin ends in
    let family = under_family rs table (Group own number) task refused.waits is in
    let (first, there, above, in_it) = family.is_one in
    let (i, creates) = parent_there rs table own family.first refused.waits (first, there, above) in
    grouped (ended ends)
    (between (rs ++ r ∷ []) own family.first begin i (length rs)
    (inside begin (open_groups (rs ++ r ∷ []) own) i
    (ap (λ l. number_before l i) (sym opens)
    ∙ sym ((refused.waits.each family.first first there).place.group i own kin creates found) ∙ in_it ∙ many
    ∙ (refused.waits.groups own kin found).as_many ∙ ap length opens))
    (at_within creation rs i (own, family.first) creates)
    (created_there rs r i own family.first creates))
    (descendant_there rs r family.first task family.family)
  where
    inside : (begin : ℕ) (others : List ℕ) (i : ℕ)
        → number_before (begin ∷ others) i ≡ length (begin ∷ others) → begin < i
    inside begin others i all = elim (cases_lt begin i) [
      | inl less ↦ less
      | inr most ↦
          let past = number_past begin others i most in
          let few = number_most others i in
          absurd (omega (arith, past, few, all))
    ]

-- ---- a barrier

-- what a member created in a phase up to the number of a barrier of its, it created before that began
created_before : (rs : List Record) (member number start i task : ℕ) → IsBarrierBegin rs member number start
    → IsCreatedAt rs i member task → phase_at rs member i ≤ number → i < start
created_before rs member number start i task starts creates few = elim (cases_lt i start) [
  | inl less ↦ less
  | inr most ↦ elim (cases_eq start i) [
    | inl same ↦
        let (kind, endpoint, says) = barrier_region rs member number start starts in
        absurd (not_both rs i member task member kind endpoint creates (ap (at region rs) (sym same) ∙ says))
    | inr apart ↦
        let low = at_within creation rs i (member, task) creates in
        let rest : i + (length rs - i) ≡ length rs = omega (arith, low) in
        let sooner =
        begins_sooner rs member i (length rs - i) number start (omega (arith, most, apart))
        (ap (λ m. slice_get (begins_before rs member m) number) rest ∙ starts) in
        let many = slice_get_within (begins_before rs member i) number start sooner in
        absurd (omega (arith, many, few))
  ]
]

-- two members of a team are teammates
mates : (rs : List Record) (parallel own member : ℕ) → IsMemberOf rs parallel own
    → IsMemberOf rs parallel member → IsTeammate rs own member
mates rs parallel own member (m, has, is) (other, among, same) =
    let P : ℕ → Type 0 = λ t. IsTeammate rs own t in subst P same (together parallel m other has is among)

-- a child of a member of the team that is counted for the barrier with the number
record IsOfTeam (rs : List Record) (parallel number task : ℕ) : Type 0 where
  pub parent : ℕ
  pub place : ℕ
  pub start : ℕ
  pub member : IsMemberOf rs parallel parent
  pub creates : IsCreatedAt rs place parent task
  pub phase : phase_at rs parent place ≤ number
  pub starts : IsBarrierBegin rs parent number start

of_team : (rs : List Record) (r : Record) (table : ℕ → Option Kin) (parallel number task : ℕ)
    → AreTasksLeft rs r table → IsAwaitedChild table (Team parallel number) task
    → IsOfTeam rs parallel number task
of_team rs r table parallel number task refused
    (kin, found, team, low, (parent, above, is_parent, there, more)) =
    let place = refused.places task kin found in
    let (i, creates) = parent_there rs table parent task refused.waits (kin, found, is_parent) in
    let (j, other, creates_too, member) = place.parent_member parallel team in
    let same : other ≡ parent =
    same_Some other parent
    (sym ((refused.waits.each task kin found).place.created j other creates_too) ∙ is_parent) in
    let many = (refused.places parent above there).barriers in
    let (start, starts) = get_within (barrier_begins rs parent) number (omega (arith, more, many)) in
    let P : ℕ → Type 0 = λ t. IsMemberOf rs parallel t in
    let phase = place.phase i parent creates in
    record {
      parent = parent;
      place = i;
      start = start;
      member = subst P same member;
      creates = creates;
      phase = omega (arith, low, phase);
      starts = starts;
    }

-- a task that no record finishes, whole or by its event, is not complete
not_complete : (rs : List Record) (task n : ℕ)
    → ((k : ℕ) (part : Part) → at finish rs k ≡ Some (task, part) → part ≡ Body)
    → IsCompleteBelow rs n task → ⊥
not_complete rs task n unfinished (inl (k, says, counts)) = absurd (apart (unfinished k Whole says))
  where
    apart : Whole ≡ Body → ⊥
    apart e = cc
not_complete rs task n unfinished (inr (body, (k, says, counts))) = absurd (apart (unfinished k Event says))
  where
    apart : Event ≡ Body → ⊥
    apart e = cc

team_covered : (rs : List Record) (r : Record) (table : ℕ → Option Kin) (own parallel number task : ℕ)
    (kind : SyncKind) → AreTasksLeft rs r table → HaveBegins rs → region r.body ≡ Some (own, kind, End)
    → is_barrier kind ≡ true → AreInTeam table own (Team parallel number)
    → IsBelowAwaited table (Team parallel number) task
    → ((k : ℕ) (part : Part) → at finish rs k ≡ Some (task, part) → part ≡ Body)
    → Covers (rs ++ r ∷ []) (length rs) task
team_covered rs r table own parallel number task kind refused begins says barrier (kin, found, mine, last) is
    unfinished =
    let (begin, ends) = refused.follows.ends own kind says in
    let opens = own_begin (rs ++ r ∷ []) (length rs) own begin kind ends in
    let same_kind : opens.kind ≡ kind =
    same_Some opens.kind kind
    (sym (ap (option_map (λ (q : ℕ × SyncKind × Endpoint). q.1)) opens.begins) ∙ ends.same_kind) in
    let (start, starts) =
    get_within (barrier_begins rs own) number
    (let many = place.barriers in omega (arith, many, last)) in
    elim
    (last_barrier rs own number start begin kind begins (sym place.barriers ∙ last) starts
    (ap (λ l. slice_get l 0) (sym (opened_there rs r own (length rs) (omega arith))) ∙ ends.innermost)
    (sym (region_there rs r begin opens.before) ∙ opens.begins
    ∙ ap (λ k. Some (own, k, Begin)) same_kind)
    barrier) [
      | inl same ↦
          let P : ℕ → Type 0 = λ b. IsBarrierBegin rs own number b in
          synchronised number (ended ends) barrier (stays own begin (subst P (sym same) starts))
          (teammate_stays (length rs) rs (rs ++ r ∷ []) (same_whole rs (r ∷ [])) refl
          (whole_long rs (r ∷ [])) own child_of.parent
          (mates rs parallel own child_of.parent (place.member parallel mine) child_of.member))
          (stays child_of.parent child_of.start child_of.starts)
          (child_before (rs ++ r ∷ []) child_of.parent family.first child_of.start child_of.place
          (created_before rs child_of.parent number child_of.start child_of.place family.first child_of.starts
          child_of.creates child_of.phase)
          (created_there rs r child_of.place child_of.parent family.first child_of.creates))
          (descendant_there rs r family.first task family.family)
      | inr over ↦ absurd (never start starts over)
    ]
  where
    place : IsInTeams rs own kin
    place = refused.places own kin found

    family : IsOfAwaited rs table (Team parallel number) task
    family = under_family rs table (Team parallel number) task refused.waits is

    child_of : IsOfTeam rs parallel number family.first
    child_of = of_team rs r table parallel number family.first refused family.is_one

    stays : (member begin : ℕ) → IsBarrierBegin rs member number begin
        → IsBarrierBegin (rs ++ r ∷ []) member number begin
    stays member begin =
        barrier_begin_stays (length rs) rs (rs ++ r ∷ []) (same_whole rs (r ∷ [])) refl
        (whole_long rs (r ∷ [])) member number begin

    -- where the task's last barrier has ended, what it covers is complete
    never : (start : ℕ) → IsBarrierBegin rs own number start → HasEndedBarrier rs own start → ⊥
    never start starts over =
        not_complete rs task (seen_at rs over.place) unfinished
        (refused.settled over.place parallel number over.before (record {
          own = own;
          begin = start;
          kind = over.kind;
          ends = over.ends;
          barrier = over.barrier;
          begins = starts;
          member = place.member parallel mine;
        })
        family.first
        (child_of.place, child_of.parent, child_of.member, child_of.creates, child_of.phase) task
        family.family)

-- ---- any of them

pub reached_covered : (rs : List Record) (r : Record) (table : ℕ → Option Kin) (own task : ℕ)
    (kind : SyncKind) (endpoint : Endpoint) (awaited : Awaited) → AreTasksLeft rs r table → HaveBegins rs
    → (kind ≡ Taskwait → AreCreatedOutside rs) → region r.body ≡ Some (own, kind, endpoint)
    → AreAwaitedAt table own kind endpoint awaited → IsReached table awaited task
    → ((k : ℕ) (part : Part) → at finish rs k ≡ Some (task, part) → part ≡ Body)
    → Covers (rs ++ r ∷ []) (length rs) task
reached_covered rs r table own task _ endpoint _ refused begins outside says (at_taskwait apart) is
    unfinished =
    wait_covered rs r table own task endpoint refused (outside refl) says apart is
reached_covered rs r table own task _ _ (Group parent number) refused begins outside says
    (at_taskgroup (same, kin, found, many)) is
    unfinished =
    let P : ℕ → Type 0 = λ p. IsBelowAwaited table (Group p number) task in
    group_covered rs r table own number task refused says (refl, kin, found, many) (subst P same is)
reached_covered rs r table own task kind _ (Team parallel number) refused begins outside says
    (at_barrier barrier inside) is unfinished =
    team_covered rs r table own parallel number task kind refused begins says barrier inside is unfinished
reached_covered rs r table own task _ _ (Children parent) refused begins outside says (at_taskgroup never) is
    unfinished =
    absurd never
reached_covered rs r table own task _ _ (Team parallel number) refused begins outside says
    (at_taskgroup never) is
    unfinished =
    absurd never
reached_covered rs r table own task kind _ (Children parent) refused begins outside says
    (at_barrier barrier never) is unfinished =
    absurd never
reached_covered rs r table own task kind _ (Group parent number) refused begins outside says
    (at_barrier barrier never) is unfinished =
    absurd never
