-- Barriers that end and that a member of the team doesn't begin.
use Rattle.std.proofs.Common.{◌≡◌, ◌∙◌, ℕ, ◌<◌, ◌≤◌, ◌^◌, List, length, get_or, Option, Some, None, false}
use Rattle.std.proofs.Common.{sym, ap, subst, arith, inl, inr}
use Rattle.std.proofs.lemmas.Bool.{cases_lt, false≢true}
use Rattle.std.proofs.lemmas.Option.{same_Some, slice_get_within, slice_get-get_or}
use Rattle.std.specs.Prelude.{slice_get}
use Rattle.ompt_events.specs.declared.records.Record.{Record}
use Rattle.ompt_events.specs.declared.names.Endpoint.{Endpoint}
use Rattle.ompt_events.specs.declared.names.SyncKind.{SyncKind}
use Rattle.ompt_events.specs.Records.{region, made}
use Rattle.ompt_events.specs.Places.{at}
use Rattle.ompt_events.specs.Regions.{is_barrier, barrier_begins, IsBarrierBegin, IsRegion}
use Rattle.ompt_events.specs.Teams.{IsTeammate}
use Rattle.ompt_events.proofs.ListLemmas.{get_within}
use Rattle.task_tree.specs.Makers.{AreNoted}
use Rattle.task_states.specs.Rows.{row_at}
use Rattle.teams.specs.Teams.{AreTeams, AreBarrierBegins, AreBeginNumbers}
use Rattle.std.specs.Global.{Vec}
use Rattle.teams.specs.Missed.{EndsBarrier, EndsNoBarrier, IsBarrierMissed}
use Rattle.teams.specs.Fewest.{AreFewest, AreTeamsWithin}
use Rattle.teams.proofs.BeginLemmas.{begins_few}
use Rattle.teams.proofs.RegionEndLemmas.{ends_at, one_region}
use Rattle.teams.proofs.MemberLemmas.{mate_index}
use Rattle.teams.proofs.BarrierLemmas.{barrier_begins_at, one_number}

-- ---- where a barrier began that ends

pub other_kind : (rs : List Record) (i own : ℕ) (kind : SyncKind) (endpoint : Endpoint)
    → at region rs i ≡ Some (own, kind, endpoint) → is_barrier kind ≡ false → EndsNoBarrier rs i
other_kind rs i own kind endpoint says no_barrier = λ task begin another ends barrier.
    let is = ends_at rs i task begin another ends in
    let same : kind ≡ another =
    ap (λ (p : ℕ × SyncKind × Endpoint). p.1)
    (same_Some (own, kind, endpoint) (task, another, is.endpoint) (sym says ∙ is.says)) in
    false≢true (sym no_barrier ∙ ap is_barrier same ∙ barrier)

pub begin_within : (rs : List Record) (i task begin : ℕ) (kind : SyncKind) → IsRegion rs i task kind begin
    → begin < length rs
begin_within rs i task begin kind ends =
    let is = ends_at rs i task begin kind ends in
    let below = is.below in let inside = is.inside in omega (arith, below, inside)

-- ---- the numbers of barriers

-- ---- a member that begins too few

-- by number of the team the least number of barriers that a member begins
pub record AreFewestOf (rs : List Record) (tasks : List ℕ) (teams : List (Option ℕ)) (fewest : List ℕ) : Type
    0 where
  pub within : AreTeamsWithin teams
  pub begins : List (Vec ℕ)
  pub are_begins : AreBarrierBegins rs (length rs) tasks begins
  pub are_fewest : AreFewest teams begins (length teams) fewest

pub record IsCompared (rs : List Record) (tasks : List ℕ) (teams : List (Option ℕ)) (fewest numbers : List ℕ)
    (i begin index team count number : ℕ) : Type 0 where
  pub few : length rs ≤ 2 ^ 22
  pub made_all : AreNoted made rs (length rs) tasks
  pub are_teams : AreTeams rs tasks teams
  pub are_fewest : AreFewestOf rs tasks teams fewest
  pub are_numbers : AreBeginNumbers rs (length rs) numbers
  pub barrier : EndsBarrier rs i begin
  pub is_task : slice_get tasks index ≡ Some barrier.task
  pub is_team : slice_get teams index ≡ Some (Some team)
  pub is_count : slice_get fewest team ≡ Some count
  pub is_number : slice_get numbers begin ≡ Some number

numbered_there : (rs : List Record) (tasks : List ℕ) (teams : List (Option ℕ)) (fewest numbers : List ℕ)
    (i begin index team count number : ℕ)
    (c : IsCompared rs tasks teams fewest numbers i begin index team count number)
    → IsBarrierBegin rs c.barrier.task number begin
numbered_there rs tasks teams fewest numbers i begin index team count number c =
    c.are_numbers.each begin number c.is_number c.barrier.task
    (barrier_begins_at rs i c.barrier.task begin c.barrier.kind c.barrier.ends c.barrier.barrier)

pub too_few : (rs : List Record) (tasks : List ℕ) (teams : List (Option ℕ)) (fewest numbers : List ℕ)
    (i begin index team count number : ℕ)
    → IsCompared rs tasks teams fewest numbers i begin index team count number → count ≤ number
    → IsBarrierMissed rs i
too_few rs tasks teams fewest numbers i begin index team count number c less =
    elim (c.are_fewest.are_fewest.reached team count c.is_count) [
      | inl most ↦
          let below = slice_get_within (barrier_begins rs c.barrier.task) number begin numbered in
          let short : length (barrier_begins rs c.barrier.task) ≤ length rs =
          begins_few rs c.barrier.task (length rs) in
          let few = c.few in
          absurd (omega (arith, most, below, short, few, less))
      | inr is ↦
          let inside = slice_get_within teams is.index (Some team) is.in_team in
          let all = c.are_teams.all in
          let found = get_within tasks is.index (omega (arith, inside, all)) in
          let places = c.are_fewest.are_begins.each is.index found.0 found.1 in
          let long : length (row_at c.are_fewest.begins is.index) ≡ length (barrier_begins rs found.0) =
          ap length places in
          record {
            begin = begin;
            barrier = c.barrier;
            number = number;
            numbered = numbered;
            member = found.0;
            mate =
                (c.are_teams.mates index is.index c.barrier.task found.0 team c.is_task found.1 c.is_team).0
                is.in_team;
            never = λ start begins.
                let within = slice_get_within (barrier_begins rs found.0) number start begins in
                let fewer = is.few in
                omega (arith, within, long, fewer, less);
          }
    ]
  where
    numbered : IsBarrierBegin rs c.barrier.task number begin
    numbered = numbered_there rs tasks teams fewest numbers i begin index team count number c

-- the missed barrier is that which ends there
pub missed_mate : (rs : List Record) (i begin : ℕ) (b : EndsBarrier rs i begin) (m : IsBarrierMissed rs i)
    → IsTeammate rs b.task m.member × IsBarrierBegin rs b.task m.number begin
missed_mate rs i begin b m =
    let same =
    one_region rs i m.barrier.task b.task m.begin begin m.barrier.kind b.kind m.barrier.ends b.ends in
    let P : ℕ → Type 0 = λ t. IsTeammate rs t m.member in
    let Q : ℕ → Type 0 = λ t. IsBarrierBegin rs t m.number m.begin in
    let R : ℕ → Type 0 = IsBarrierBegin rs b.task m.number in
    (subst P same.task_is m.mate, subst R same.begin_is (subst Q same.task_is m.numbered))

pub missed_few : (rs : List Record) (tasks : List ℕ) (teams : List (Option ℕ)) (fewest numbers : List ℕ)
    (i begin index team count number : ℕ)
    → IsCompared rs tasks teams fewest numbers i begin index team count number → IsBarrierMissed rs i
    → count ≤ number
missed_few rs tasks teams fewest numbers i begin index team count number c m =
    let mate = missed_mate rs i begin c.barrier m in
    let same : number ≡ m.number =
    one_number rs c.barrier.task number m.number begin
    (numbered_there rs tasks teams fewest numbers i begin index team count number c) mate.1 in
    let member = mate_index rs tasks index c.barrier.task m.member c.made_all c.is_task mate.0 in
    let in_team =
    (c.are_teams.mates index member.0 c.barrier.task m.member team c.is_task member.1 c.is_team).1
    mate.0 in
    let inside = slice_get_within tasks member.0 m.member member.1 in
    let all_teams = c.are_teams.all in
    let low =
    c.are_fewest.are_fewest.low member.0 team count (omega (arith, inside, all_teams)) in_team
    c.is_count in
    let long : length (row_at c.are_fewest.begins member.0) ≡ length (barrier_begins rs m.member) =
    ap length (c.are_fewest.are_begins.each member.0 m.member member.1) in
    elim (cases_lt m.number (length (barrier_begins rs m.member))) [
      | inl begins ↦
          absurd
          (m.never (get_or (barrier_begins rs m.member) m.number 0)
          (slice_get-get_or (barrier_begins rs m.member) m.number 0 begins))
      | inr never ↦ omega (arith, low, long, never, same)
    ]

-- a task of no team has no teammate that could miss its barrier
pub no_team_missed : (rs : List Record) (tasks : List ℕ) (teams : List (Option ℕ)) (i begin index : ℕ)
    (b : EndsBarrier rs i begin)
    → AreTeams rs tasks teams → slice_get tasks index ≡ Some b.task → slice_get teams index ≡ Some None
    → IsBarrierMissed rs i → ⊥
no_team_missed rs tasks teams i begin index b are is_task none m =
    are.none index b.task m.member is_task none (missed_mate rs i begin b m).0
