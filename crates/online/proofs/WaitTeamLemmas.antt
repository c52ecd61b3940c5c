-- What each step of the code leaves of what is kept of teams.
use Rattle.std.proofs.Common.{◌≡◌, ◌∙◌, ℕ, ◌<◌, ◌+◌, ◌^◌, true, List, [], ◌∷◌, ◌++◌}
use Rattle.std.proofs.Common.{length, Option, Some, None, refl, sym, ap, subst, arith, inl, inr, ◌⊎◌}
use Rattle.std.specs.Prelude.{nat_eq}
use Rattle.std.specs.HashMap.{HashMap, get, IsUnchanged}
use Rattle.std.specs.Map.{lookup}
use Rattle.std.proofs.lemmas.Option.{none-some, same_Some}
use Rattle.std.proofs.lemmas.List.{length_push}
use Rattle.ompt_events.specs.declared.records.Record.{Record}
use Rattle.ompt_events.specs.declared.records.Body.{Body}
use Rattle.ompt_events.specs.declared.records.Membership.{Membership}
use Rattle.ompt_events.specs.declared.names.SyncKind.TheVariants.{Taskgroup}
use Rattle.ompt_events.specs.declared.names.Endpoint.TheVariants.{Begin, End}
use Rattle.ompt_events.specs.Records.{made, joined, creation, region}
use Rattle.ompt_events.specs.Regions.{barrier_begun}
use Rattle.ompt_events.specs.Teams.{members}
use Rattle.ompt_events.proofs.RecordLemmas.{member_made, member_begun, initial_begun}
use Rattle.online.specs.declared.kin.Kin.{Kin}
use Rattle.online.specs.declared.kin.Place.{Place}
use Rattle.online.specs.declared.team.Team.{Team}
use Rattle.online.specs.Waits.{ChangesAt, ChangesAbove, CountsChild, CompletesChild, SettlesChild, Completes}
use Rattle.online.specs.Waits.{BeginsGroup, EndsGroup, IsNew, Puts, Removes, MayFollow, Follows}
use Rattle.online.specs.Waits.{KeepsTold, EndsRoot, CreatesTask, CompletesTask, BeginsTaskgroup}
use Rattle.online.specs.Waits.{EndsTaskgroup, is_kept}
use Rattle.online.specs.Teams.{IsTold, IsPlaceIn, CountsBarrier, CountsBegin, IsCreatedIn, IsSettledIn}
use Rattle.online.specs.Teams.{AreTeamsBefore, TeamsFollow}
use Rattle.online.specs.Teams.{ChangesTeamOf, JoinsTeam, LeavesTeam, BeginsInitial, Joins, BeginsBarrier}
use Rattle.online.specs.Teams.{KeepsTeams, SaysNothing, TeamsJoin}
use Rattle.ompt_events.proofs.PlaceLemmas.{some_of}
use Rattle.online.proofs.ViewLemmas.{IsFrom, changed_from, kept_same}
use Rattle.online.proofs.StayLemmas.{made_none, by_none, waits_stay, root_waits}
use Rattle.online.proofs.DoneLemmas.{Finishes, finish_waits, kept_all, told_before}
use Rattle.online.proofs.TaskgroupLemmas.{region_made}
use Rattle.online.proofs.RosterLemmas.{IsSilent, IsToldBefore, told_same, teams_grow, teams_same}
use Rattle.online.proofs.RosterLemmas.{teams_move, grows_one}
use Rattle.online.proofs.PhaseLemmas.{phase_stays, members_stay}
use Rattle.online.proofs.EndedLemmas.{ends_grow, teams_stay}
use Rattle.online.proofs.LeaveLemmas.{leave_teams}
use Rattle.online.proofs.GrowLemmas.{said_before}
use Rattle.online.proofs.TeamStepLemmas.{settle_teams}
use Rattle.online.proofs.TeamCreateLemmas.{create_teams}
use Rattle.online.proofs.RootTeamLemmas.{initial_teams}
use Rattle.online.proofs.TeamJoinLemmas.{join_teams}
use Rattle.online.proofs.TeamBarrierLemmas.{barrier_made, barrier_grouped, begin_teams}
use Rattle.online.proofs.BarrierEndLemmas.{initial_joined}
use Rattle.online.proofs.WaitLemmas.{live_kept, create_case, finish_case, root_end_case, finish_made}
use Rattle.online.proofs.WaitLemmas.{finish_region}
use Rattle.online.proofs.WaitLemmas.{ended_made, ended_region, regroup_keeps}

-- ---- records that say nothing of teams

made_joined : (b : Body) → made b ≡ None → joined b ≡ None
made_joined b none = of (joined b) refl
  where
    of : (o : Option Membership) → joined b ≡ o → o ≡ None
    of None e = refl
    of (Some m) e = absurd (none-some m.member (sym none ∙ member_made m b e))

silent : (r : Record) → made r.body ≡ None → barrier_begun (region r.body) ≡ None → IsSilent r
silent r none begins = record {
  creates = made_none r.body none;
  joins = made_joined r.body none;
  begins = begins;
}

same_told : (table : ℕ → Option Kin) (task : ℕ) (after : Kin) → table task ≡ Some after
    → IsToldBefore table task after
same_told table task after kept = (after, kept, refl, told_same after)

pub quiet_teams : (table : ℕ → Option Kin) (teams : ℕ → Option Team)
    → TeamsFollow SaysNothing table teams table teams
quiet_teams table teams rs r (none, begins) follows waits is =
    teams_grow rs r table table teams follows (silent r none begins) (same_told table) (λ task. refl) is

-- ---- a settled task is taken out

pub settle_teams_then : (old without new : ℕ → Option Kin) (teams after : ℕ
    → Option Team) (task : ℕ) (was : Kin)
    → old task ≡ Some was → was.done ≡ true → was.family.left ≡ 0 → Removes task old without
    → ChangesAbove (SettlesChild was.group was.family.greatest) was.parent without new
    → ChangesTeamOf (IsSettledIn was.phase was.family.greatest) was.parent_team teams after
    → KeepsTeams old teams new after
settle_teams_then old without new teams after task was found done none removes above changes rs n once small
    waits is =
    settle_teams rs n task old without new was
    (record {
      once = once;
      found = found;
      done = done;
      none = none;
      removes = removes;
      above = above;
      before = waits;
    })
    teams after changes is

keeps_teams_same : (old new : ℕ → Option Kin) (teams : ℕ → Option Team) → new ≡ old
    → KeepsTeams old teams new teams
keeps_teams_same old new teams same rs n once small waits is =
    let P : (ℕ → Option Kin) → Type 0 = λ t. AreTeamsBefore rs n t teams in subst P (sym same) is

pub teams_unchanged : {S : Type 0} (old new : HashMap ℕ Kin S) (teams : ℕ → Option Team) → IsUnchanged old new
    → KeepsTeams (get nat_eq old) teams (get nat_eq new) teams
teams_unchanged old new teams same =
    let f : List (ℕ × Kin) → ℕ → Option Kin = λ es task. lookup (nat_eq task) es in
    keeps_teams_same (get nat_eq old) (get nat_eq new) teams (ap f same)

-- ---- a task is complete, and a root ends

small_more : (rs : List Record) (r : Record) → MayFollow rs r → length (rs ++ r ∷ []) < 2 ^ 64
small_more rs r follows = let e = length_push rs r in let h = follows.few in omega (arith, e, h)

-- of the records with the new one, by which a task is over
finished_teams : (rs : List Record) (r : Record) (task n : ℕ) (old marked done new : ℕ → Option Kin)
    (teams after : ℕ → Option Team) (kin : Kin) → MayFollow rs r
    → Finishes (rs ++ r ∷ []) task n old marked done kin → KeepsTeams done teams new after
    → AreTeamsBefore (rs ++ r ∷ []) (length rs) old teams
    → AreTeamsBefore (rs ++ r ∷ []) (length rs) new after
finished_teams rs r task n old marked done new teams after kin follows f keeps is =
    keeps (rs ++ r ∷ []) (length rs) follows.once (small_more rs r follows)
    (finish_waits (rs ++ r ∷ []) task n old marked done kin f)
    (teams_same (rs ++ r ∷ []) (length rs) old done teams
    (told_before (rs ++ r ∷ []) task n old marked done kin f)
    (kept_all (rs ++ r ∷ []) task n old marked done kin f) is)

pub finish_teams_then : (old marked done new : ℕ → Option Kin) (teams after : ℕ → Option Team) (task seen : ℕ)
    (parent : Option ℕ) → ChangesAt (Completes (seen + 1)) task old marked
    → ((kin : Kin) → old task ≡ Some kin → parent ≡ kin.parent)
    → ChangesAbove (CompletesChild (seen + 1)) parent marked done → KeepsTeams done teams new after
    → TeamsFollow (CompletesTask task seen) old teams new after
finish_teams_then old marked done new teams after task seen parent marks parents above keeps rs r says follows
    waits is =
    let ((part, finishes, apart), is_seen) = says in
    let (kin, f) = finish_case old marked done task seen parent marks parents above rs r says follows waits in
    finished_teams rs r task (seen + 1) old marked done new teams after kin follows f keeps
    (quiet_teams old teams rs r
    (finish_made task part r.body finishes, ap barrier_begun (finish_region task part r.body finishes))
    follows waits is)

pub root_end_teams_then : (old marked new : ℕ → Option Kin) (teams left after : ℕ → Option Team) (root : ℕ)
    (team : Option ℕ) → ((kin : Kin) → old root ≡ Some kin → kin.parent ≡ None)
    → ((kin : Kin) → old root ≡ Some kin → team ≡ kin.team) → LeavesTeam team teams left
    → ChangesAt (Completes 0) root old marked → KeepsTeams marked left new after
    → TeamsFollow (EndsRoot root) old teams new after
root_end_teams_then old marked new teams left after root team rooted in_team leaves marks keeps rs r says
    follows waits is =
    let (kin, f) = root_end_case old marked root rooted marks rs r says follows waits in
    let unmade = ended_made root r.body says in
    finished_teams rs r root 0 old marked marked new left after kin follows f keeps
    (leave_teams rs r root old teams left team kin says follows (made_joined r.body unmade) f.found
    (in_team kin f.found) leaves is
    (quiet_teams old teams rs r (unmade, ap barrier_begun (ended_region root r.body says)) follows waits is))

pub root_end_teams_never : (table : ℕ → Option Kin) (teams : ℕ → Option Team) (root : ℕ)
    → TeamsFollow (EndsRoot root) table teams table teams
root_end_teams_never table teams root rs r says follows waits is =
    quiet_teams table teams rs r
    (ended_made root r.body says, ap barrier_begun (ended_region root r.body says)) follows waits is

-- ---- a task creates a child

pub create_teams_then : (old with_child new : ℕ → Option Kin) (teams after : ℕ → Option Team)
    (parent child : ℕ) (place : Place) (kin : Kin)
    → ((above : Kin) → old parent ≡ Some above → IsPlaceIn above place)
    → IsNew (Some parent) place.group kin → IsTold None place.team place.barriers kin
    → Puts child kin old with_child → ChangesAt CountsChild parent with_child new
    → ChangesTeamOf (IsCreatedIn place.barriers) place.team teams after
    → TeamsFollow (CreatesTask parent child) old teams new after
create_teams_then old with_child new teams after parent child place kin places fresh told puts counts changes
    rs r says follows waits is =
    let (above, c) =
    create_case old with_child new parent child place.group kin (λ above found. (places above
    found).group) fresh
    puts counts rs r says follows waits in
    let there = places above c.found in
    let P : Option ℕ → Type 0 = λ t. IsTold None t above.barriers kin in
    let P' : ℕ → Type 0 = λ n. IsTold None place.team n kin in
    let Q : Option ℕ → Type 0 = λ t. ChangesTeamOf (IsCreatedIn above.barriers) t teams after in
    let Q' : ℕ → Type 0 = λ n. ChangesTeamOf (IsCreatedIn n) place.team teams after in
    create_teams rs r parent child old with_child new above kin c
    (subst P there.team (subst P' there.barriers told)) teams after
    (subst Q there.team (subst Q' there.barriers changes)) is

pub create_teams_never : (old new : ℕ → Option Kin) (teams after : ℕ → Option Team) (parent child : ℕ)
    → old parent ≡ None → TeamsFollow (CreatesTask parent child) old teams new after
create_teams_never old new teams after parent child none rs r says follows waits is =
    let (above, found, going) = live_kept rs old parent waits (follows.creates parent child says) in
    absurd (none-some above (sym none ∙ found))

-- ---- taskgroups

pub begin_teams_then : (old new : ℕ → Option Kin) (teams : ℕ → Option Team) (task : ℕ)
    → ChangesAt BeginsGroup task old new → TeamsFollow (BeginsTaskgroup task) old teams new teams
begin_teams_then old new teams task changes rs r says follows waits is =
    teams_grow rs r old new teams follows
    (silent r (region_made task Taskgroup Begin r.body says) (ap barrier_begun says))
    (λ other after kept. of (changed_from BeginsGroup task old new changes other after kept))
    (kept_same BeginsGroup task old new changes) is
  where
    of : {X : Type 0} {other : ℕ} {after : Kin} → IsFrom BeginsGroup X old other after
        → IsToldBefore old other after
    of {other = other} {after = after} from = by from.how
      where
        by : {Y : Type 0} → (Y × BeginsGroup from.was after) ⊎ ((Y → ⊥) × (from.was ≡ after))
            → IsToldBefore old other after
        by (inl (here, changed)) = (from.was, from.kept, sym changed.rest.place.parent, changed.told)
        by (inr (apart, same)) =
            let P : Kin → Type 0 = λ k. (from.was.parent ≡ k.parent) × KeepsTold from.was k in
            let (parents, told) = subst P same (refl, told_same from.was) in
            (from.was, from.kept, parents, told)

pub end_teams_then : (old new : ℕ → Option Kin) (teams : ℕ → Option Team) (task seen : ℕ)
    → ChangesAt (EndsGroup seen) task old new → TeamsFollow (EndsTaskgroup task seen) old teams new teams
end_teams_then old new teams task seen changes rs r (says, is_seen) follows waits is =
    teams_grow rs r old new teams follows
    (silent r (region_made task Taskgroup End r.body says) (ap barrier_begun says))
    (λ other after kept. of (changed_from (EndsGroup seen) task old new changes other after kept))
    (kept_same (EndsGroup seen) task old new changes) is
  where
    of : {X : Type 0} {other : ℕ} {after : Kin} → IsFrom (EndsGroup seen) X old other after
        → IsToldBefore old other after
    of {other = other} {after = after} from = by from.how
      where
        by : {Y : Type 0} → (Y × EndsGroup seen from.was after) ⊎ ((Y → ⊥) × (from.was ≡ after))
            → IsToldBefore old other after
        by (inl (here, changed)) = (from.was, from.kept, sym changed.rest.place.parent, changed.told)
        by (inr (apart, same)) =
            let P : Kin → Type 0 = λ k. (from.was.parent ≡ k.parent) × KeepsTold from.was k in
            let (parents, told) = subst P same (refl, told_same from.was) in
            (from.was, from.kept, parents, told)

-- ---- roots

pub initial_then : (old new : ℕ → Option Kin) (root : ℕ) (kin : Kin) → IsNew None 0 kin
    → Puts root kin old new
    → Follows (BeginsInitial root) old new
initial_then old new root kin fresh puts rs r begins follows is =
    root_waits rs r old new root kin follows (initial_begun root r.body begins) fresh puts is

pub initial_teams_then : (old new : ℕ → Option Kin) (teams : ℕ → Option Team) (root : ℕ) (kin : Kin)
    → IsNew None 0 kin → IsTold None None 0 kin → Puts root kin old new
    → TeamsFollow (BeginsInitial root) old teams new teams
initial_teams_then old new teams root kin fresh told puts rs r begins follows waits is =
    initial_teams rs r root old new kin teams
    (record {
      begins = initial_begun root r.body begins;
      follows = follows;
      fresh = fresh;
      told = told;
      puts = puts;
      before = waits;
    })
    begins (alone (joined r.body) refl) is
  where
    alone : (o : Option Membership) → joined r.body ≡ o → joined r.body ≡ None
    alone None e = e
    alone (Some m) e = absurd (initial_joined root m r.body begins e)

pub join_then : (old new : ℕ → Option Kin) (root parallel size : ℕ) (kin : Kin) → IsNew None 0 kin
    → Puts root kin old new → Follows (Joins root parallel size) old new
join_then old new root parallel size kin fresh puts rs r (m, joins, is_root, is_parallel, is_size) follows
    is =
    root_waits rs r old new root kin follows (member_begun m r.body joins ∙ ap Some is_root) fresh puts is

pub join_teams_then : (old new : ℕ → Option Kin) (teams after : ℕ → Option Team) (root parallel size : ℕ)
    (kin : Kin) → IsNew None 0 kin → IsTold (Some parallel) None 0 kin → Puts root kin old new
    → JoinsTeam parallel size teams after → TeamsJoin root parallel size old teams new after
join_teams_then old new teams after root parallel size kin fresh told puts enters rs r
    (m, joins, is_root, is_parallel, is_size) follows room waits is =
    let P : ℕ → Type 0 = λ t. Puts t kin old new in
    let Q : ℕ → Type 0 = λ t. IsTold (Some t) None 0 kin in
    let R : ℕ → Type 0 = λ t. JoinsTeam t size teams after in
    let R' : ℕ → Type 0 = λ n. JoinsTeam m.parallel n teams after in
    join_teams rs r m old new kin teams after
    (record {
      begins = member_begun m r.body joins;
      follows = follows;
      fresh = fresh;
      told = subst Q (sym is_parallel) told;
      puts = subst P (sym is_root) puts;
      before = waits;
    })
    joins (subst R' (sym is_size) (subst R (sym is_parallel) enters)) room is

-- ---- a barrier begins

pub barrier_then : (old new : ℕ → Option Kin) (task : ℕ) → ChangesAt CountsBarrier task old new
    → Follows (BeginsBarrier task) old new
barrier_then old new task changes rs r begins follows is =
    regroup_keeps CountsBarrier old new task (λ was after changed. changed.rest)
    (λ was after changed. changed.groups) changes (rs ++ r ∷ []) follows.once
    (waits_stay rs r old follows.ends (barrier_made task r.body begins).0
    (barrier_grouped task r.body begins) is)

pub barrier_teams_then : (old new : ℕ → Option Kin) (teams after : ℕ → Option Team) (task : ℕ) (was : Kin)
    → old task ≡ Some was → ChangesAt CountsBarrier task old new
    → ChangesTeamOf (CountsBegin was.barriers) was.team teams after
    → TeamsFollow (BeginsBarrier task) old teams new after
barrier_teams_then old new teams after task was found changes begins rs r says follows waits is =
    begin_teams rs r task old new was teams after says follows found changes begins is

-- by what is told of the place of a child there
pub barrier_teams_case : (old new : ℕ → Option Kin) (teams after : ℕ → Option Team) (task : ℕ) (place : Place)
    → ((kin : Kin) → old task ≡ Some kin → IsPlaceIn kin place) → ChangesAt CountsBarrier task old new
    → ChangesTeamOf (CountsBegin place.barriers) place.team teams after → is_kept old task ≡ true
    → TeamsFollow (BeginsBarrier task) old teams new after
barrier_teams_case old new teams after task place places changes begins kept =
    let (was, found) = some_of (old task) kept in
    let there = places was found in
    let P : Option ℕ → Type 0 = λ t. ChangesTeamOf (CountsBegin was.barriers) t teams after in
    let Q : ℕ → Type 0 = λ n. ChangesTeamOf (CountsBegin n) place.team teams after in
    barrier_teams_then old new teams after task was found changes
    (subst P there.team (subst Q there.barriers begins))

pub barrier_never : (table : ℕ → Option Kin) (task : ℕ) → Follows (BeginsBarrier task) table table
barrier_never table task rs r begins follows is =
    waits_stay rs r table follows.ends (barrier_made task r.body begins).0 (barrier_grouped task r.body
    begins) is

-- where nothing is kept of the task
pub barrier_teams_never : (table : ℕ → Option Kin) (teams : ℕ → Option Team) (task : ℕ) → table task ≡ None
    → TeamsFollow (BeginsBarrier task) table teams table teams
barrier_teams_never table teams task absent rs r begins follows waits is =
    teams_move rs (rs ++ r ∷ []) (length rs) (length rs) table table teams
    (grows_one rs r (by_none rs r none)) same
    (λ i parent child. said_before creation rs r none i (parent, child))
    (λ other after there. phase_stays rs r other (λ e. apart other after there (same_Some task other (sym
    begins ∙ e))))
    (same_told table) (λ other. refl)
    (ends_grow rs r table teams teams follows
    (λ parent child parallel team creates. absurd (none-some (parent, child) (sym none ∙ creates)))
    (teams_stay rs r teams same) is)
    is
  where
    same : (parallel : ℕ) → members (rs ++ r ∷ []) parallel ≡ members rs parallel
    same parallel =
        members_stay rs r parallel
        (λ m joins. absurd (none-some m (sym (barrier_made task r.body begins).1 ∙ joins)))

    none : creation r.body ≡ None
    none = made_none r.body (barrier_made task r.body begins).0

    apart : (other : ℕ) (after : Kin) → table other ≡ Some after → task ≡ other → ⊥
    apart other after there same = none-some after (sym absent ∙ ap table same ∙ there)
