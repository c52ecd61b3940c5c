-- What is kept of teams where a root begins, and where it is an initial task.
use Rattle.std.proofs.Common.{◌≡◌, ◌≢◌, ◌∙◌, ℕ, List, [], ◌∷◌, ◌++◌}
use Rattle.std.proofs.Common.{length, Option, Some, None, refl, sym, ap, subst, inl, inr}
use Rattle.std.specs.Prelude.{is_some, Contains}
use Rattle.std.proofs.lemmas.Bool.{cases_eq}
use Rattle.std.proofs.lemmas.Option.{none-some, same_Some}
use Rattle.ompt_events.specs.declared.records.Record.{Record}
use Rattle.ompt_events.specs.Records.{joined, begun_initial, begun_root, creation}
use Rattle.ompt_events.specs.Tree.{IsCreatedAt}
use Rattle.ompt_events.specs.Teams.{members, IsInitial}
use Rattle.ompt_events.specs.Regions.{barrier_begun}
use Rattle.ompt_events.specs.Causes.{IsMade}
use Rattle.ompt_events.proofs.RecordLemmas.{begun_made}
use Rattle.online.specs.declared.kin.Kin.{Kin}
use Rattle.online.specs.declared.team.Team.{Team}
use Rattle.online.specs.Waits.{IsNew, Puts, is_kept, IsWaitsOf}
use Rattle.online.specs.Waits.{MayFollow}
use Rattle.online.specs.Teams.{IsTold, phase_at}
use Rattle.online.specs.Teams.{IsMemberOf, IsInTeams, IsTeamOf, AreTeamsBefore, AreTeamsOf}
use Rattle.online.proofs.OpenGroupLemmas.{at_last}
use Rattle.online.proofs.GrowLemmas.{said_before, created_fresh}
use Rattle.online.proofs.StayLemmas.{root_creation, root_region, creator_made, child_made, by_none}
use Rattle.online.proofs.PhaseLemmas.{phase_stays, members_stay}
use Rattle.online.proofs.PhaseLemmas.{member_is_made}
use Rattle.online.proofs.EndedLemmas.{ends_grow, teams_stay}
use Rattle.online.proofs.GoneLemmas.{team_over_moves}
use Rattle.online.proofs.RosterLemmas.{Grows, grows_one, team_same, team_moves, tells_moves, told_same}
use Rattle.online.proofs.UnmadeLemmas.{unmade_phase}

-- ---- a root begins

-- a root begins: what is kept before it and behind it, of tasks
pub record Roots (rs : List Record) (r : Record) (root : ℕ) (team : Option ℕ) (old new : ℕ → Option Kin)
    (kin : Kin) : Type 0 where
  pub begins : begun_root r.body ≡ Some root
  pub follows : MayFollow rs r
  pub fresh : IsNew None 0 kin
  pub told : IsTold team None 0 kin
  pub puts : Puts root kin old new
  pub before : IsWaitsOf rs old

module _ (rs : List Record) (r : Record) (root : ℕ) (team : Option ℕ) (old new : ℕ → Option Kin) (kin : Kin)
    (o : Roots rs r root team old new kin) where
  pub none : creation r.body ≡ None
  none = root_creation root r.body o.begins

  pub unmade : IsMade rs root → ⊥
  unmade = created_fresh rs r o.follows.once root (begun_made root r.body o.begins)

  pub away : (task : ℕ) → IsMade rs task → task ≢ root
  away task found same = let P : ℕ → Type 0 = λ t. IsMade rs t in unmade (subst P same found)

  pub grows : Grows rs (rs ++ r ∷ [])
  grows = grows_one rs r (by_none rs r none)

  pub same_barriers : (task : ℕ)
      → phase_at (rs ++ r ∷ []) task (length (rs ++ r ∷ [])) ≡ phase_at rs task (length rs)
  same_barriers task =
      phase_stays rs r task
      (λ e. none-some task (sym (ap barrier_begun (root_region root r.body o.begins)) ∙ e))

  pub kept_child : (i parent child : ℕ) → IsCreatedAt rs i parent child
      → is_kept new child ≡ is_kept old child
  kept_child i parent child creates =
      ap is_some (o.puts.others child (away child (child_made rs i parent child creates)))

  pub uncreated : (i parent : ℕ) → IsCreatedAt (rs ++ r ∷ []) i parent root → ⊥
  uncreated i parent creates =
      unmade (child_made rs i parent root (said_before creation rs r none i (parent, root) creates))

  -- who is a member and was made before was one before
  abbrev pub KeepsMates : Type 0
  KeepsMates =
      (parallel task : ℕ) → IsMade rs task → IsMemberOf (rs ++ r ∷ []) parallel task
      → IsMemberOf rs parallel task

  abbrev pub GivesMates : Type 0
  GivesMates = (parallel task : ℕ) → IsMemberOf rs parallel task → IsMemberOf (rs ++ r ∷ []) parallel task

  pub root_place : ((parallel : ℕ) → IsMemberOf (rs ++ r ∷ []) parallel root → team ≡ Some parallel)
      → ((parallel : ℕ) → team ≡ Some parallel → IsMemberOf (rs ++ r ∷ []) parallel root)
      → (team ≡ None → IsInitial (rs ++ r ∷ []) root) → IsInTeams (rs ++ r ∷ []) root kin
  root_place back forth initial = record {
    barriers = o.told.none ∙ sym (same_barriers root ∙ unmade_phase rs r o.follows.watchable root unmade);
    team = λ parallel member. o.told.team_is ∙ back parallel member;
    member = λ parallel e. forth parallel (sym o.told.team_is ∙ e);
    initial = λ alone free. initial (sym o.told.team_is ∙ free);
    phase = λ i parent creates. absurd (uncreated i parent creates);
    parent_team = λ i parent parallel creates member. absurd (uncreated i parent creates);
    parent_member = λ parallel e. absurd (none-some parallel (sym o.told.parent_team_is ∙ e));
  }

  pub places : KeepsMates → GivesMates → ((task : ℕ) (was : Kin) → old task ≡ Some was
      → IsInTeams rs task was)
      → IsInTeams (rs ++ r ∷ []) root kin → (task : ℕ) (after : Kin) → new task ≡ Some after
      → IsInTeams (rs ++ r ∷ []) task after
  places keeps gives were here task after kept = elim (cases_eq task root) [
    | inl same ↦
        let e : kin ≡ after = same_Some kin after (sym o.puts.here ∙ ap new (sym same) ∙ kept) in
        let P : ℕ → Type 0 = λ t. IsInTeams (rs ++ r ∷ []) t after in
        let Q : Kin → Type 0 = λ k. IsInTeams (rs ++ r ∷ []) root k in
        subst P (sym same) (subst Q e here)
    | inr apart ↦
        let there = sym (o.puts.others task apart) ∙ kept in
        tells_moves rs (rs ++ r ∷ []) task after after grows
        (record {
          own = λ i parent. said_before creation rs r none i (parent, task);
          barriers = same_barriers task;
          back = λ parallel member. keeps parallel task (o.before.made task after there) member;
          forth = λ parallel other member. gives parallel other member;
          above = λ i parent parallel creates member.
              keeps parallel parent (creator_made rs r o.follows.watchable i parent task creates) member;
        })
        refl (told_same after) (were task after there)
  ]

  -- of a team that keeps its members
  pub same_team : (parallel : ℕ) (it : Team) → members (rs ++ r ∷ []) parallel ≡ members rs parallel
      → IsTeamOf rs (is_kept old) parallel it → IsTeamOf (rs ++ r ∷ []) (is_kept new) parallel it
  same_team parallel it same is =
      team_moves rs (rs ++ r ∷ []) parallel (is_kept old) (is_kept new) it it grows same
      (λ i parent child member creates.
      let (m, has, e) = member in
      record {
        member = (m, subst (λ ms. Contains ms m) same has, e);
        creates = said_before creation rs r none i (parent, child) creates;
      })
      (λ i parent child member creates. kept_child i parent child creates) (team_same it) is

-- an initial task begins
pub initial_teams : (rs : List Record) (r : Record) (root : ℕ) (old new : ℕ → Option Kin) (kin : Kin)
    (teams : ℕ → Option Team) → Roots rs r root None old new kin → begun_initial r.body ≡ Some root
    → joined r.body ≡ None → AreTeamsOf rs old teams → AreTeamsBefore (rs ++ r ∷ []) (length rs) new teams
initial_teams rs r root old new kin teams o begins alone is = record {
  places =
      places rs r root None old new kin o (λ parallel task found member. back parallel task member)
      (λ parallel task member. forth parallel task member) is.places
      (root_place rs r root None old new kin o
      (λ parallel member. absurd (outside parallel (back parallel root member)))
      (λ parallel e. absurd (none-some parallel e))
      (λ e. (length rs, at_last begun_initial rs r ∙ begins)));
  each = λ parallel team there.
      same_team rs r root None old new kin o parallel team (same parallel) (is.each parallel team there);
  absent = λ parallel none'.
      team_over_moves rs (rs ++ r ∷ []) parallel (grows rs r root None old new kin o).gone (same parallel)
      (is.absent parallel none');
  ends =
      ends_grow rs r old teams teams o.follows
      (λ parent child parallel team creates member found.
      absurd (none-some (parent, child) (sym (none rs r root None old new kin o) ∙ creates)))
      (teams_stay rs r teams same) is;
}
  where
    same : (parallel : ℕ) → members (rs ++ r ∷ []) parallel ≡ members rs parallel
    same parallel = members_stay rs r parallel (λ m joins. absurd (none-some m (sym alone ∙ joins)))

    back : (parallel task : ℕ) → IsMemberOf (rs ++ r ∷ []) parallel task → IsMemberOf rs parallel task
    back parallel task (m, has, e) = (m, subst (λ ms. Contains ms m) (same parallel) has, e)

    forth : (parallel task : ℕ) → IsMemberOf rs parallel task → IsMemberOf (rs ++ r ∷ []) parallel task
    forth parallel task (m, has, e) = (m, subst (λ ms. Contains ms m) (sym (same parallel)) has, e)

    outside : (parallel : ℕ) → IsMemberOf rs parallel root → ⊥
    outside parallel (m, has, e) =
        let P : ℕ → Type 0 = λ t. IsMade rs t in
        unmade rs r root None old new kin o (subst P e (member_is_made rs parallel m has))
