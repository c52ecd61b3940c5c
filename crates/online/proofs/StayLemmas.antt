-- Records that change nothing of what is kept, and the begin of a root.
use Rattle.std.proofs.Common.{◌≡◌, ◌≢◌, ◌∙◌, ℕ, zero, suc, ◌<◌, ◌≤◌, ◌+◌, false, List, [], ◌∷◌}
use Rattle.std.proofs.Common.{◌++◌, length, Option, Some, None, refl, sym, ap, subst, arith, inl, inr}
use Rattle.std.specs.Prelude.{filter, is_some, not, slice_get}
use Rattle.std.specs.Option.{option_map_or}
use Rattle.std.proofs.lemmas.Bool.{cases_eq, false≢true}
use Rattle.std.proofs.lemmas.Option.{none-some, same_Some}
use Rattle.ompt_events.specs.declared.records.Record.{Record}
use Rattle.ompt_events.specs.declared.records.Body.{Body}
use Rattle.ompt_events.specs.declared.records.Body.TheVariants.{ImplicitTask, TaskCreate}
use Rattle.ompt_events.specs.declared.names.SyncKind.{SyncKind}
use Rattle.ompt_events.specs.declared.names.Endpoint.{Endpoint}
use Rattle.ompt_events.specs.Records.{made, begun_root, creation, region, running}
use Rattle.ompt_events.specs.Places.{at}
use Rattle.ompt_events.specs.Tree.{IsCreatedAt, IsParent}
use Rattle.ompt_events.specs.Regions.{open_regions, kind_at}
use Rattle.ompt_events.specs.Causes.{IsMade}
use Rattle.ompt_events.proofs.PlaceLemmas.{at_within}
use Rattle.ompt_events.proofs.RecordLemmas.{at_through, begun_made, created_made, creation_created}
use Rattle.ompt_events.proofs.RecordLemmas.{created_at_made, creation_at_created, creation_at_running}
use Rattle.ompt_events.proofs.RecordLemmas.{region_running}
use Rattle.ompt_events.proofs.RegionLemmas.{open_none, open_other}
use Rattle.online.specs.Online.{IsWatchable}
use Rattle.online.specs.declared.scope.Scope.{Scope}
use Rattle.online.specs.declared.kin.Kin.{Kin}
use Rattle.online.specs.Waits.{IsNew, Puts, is_kept, is_going, is_taskgroup, open_groups}
use Rattle.online.specs.Waits.{IsScopeOf, IsSettled, IsCompleteBelow, AreGroups, IsPlaceOf, IsKinOf}
use Rattle.online.specs.Waits.{IsWaitsOf}
use Rattle.online.specs.Waits.{MayFollow, number_before}
use Rattle.online.proofs.NameLemmas.{running_named}
use Rattle.online.proofs.CurrentLemmas.{named_by}
use Rattle.online.proofs.ScopeLemmas.{scope_none}
use Rattle.online.proofs.OpenGroupLemmas.{HasBegin, grouped, groups_kept, at_last}
use Rattle.online.proofs.GrowLemmas.{IsByLive, said_grows, said_before, said_cases, made_grows, over_grows}
use Rattle.online.proofs.GrowLemmas.{created_fresh}
use Rattle.online.proofs.KinLemmas.{Moves, moves_grows, SaysNoMore, KeepsChildren, groups_same, kin_moves}
use Rattle.online.proofs.KinLemmas.{groups_move, KeepsNumber}

-- ---- what a record says

pub creation_made : (parent task : ℕ) (b : Body) → creation b ≡ Some (parent, task) → made b ≡ Some task
creation_made parent task b creates = created_made task b (creation_created parent task b creates)

-- a record that makes no task creates none
pub made_none : (b : Body) → made b ≡ None → creation b ≡ None
made_none b none = of (creation b) refl
  where
    of : (o : Option (ℕ × ℕ)) → creation b ≡ o → o ≡ None
    of None e = refl
    of (Some (parent, task)) e = absurd (none-some task (sym none ∙ creation_made parent task b e))

pub root_creation : (root : ℕ) (b : Body) → begun_root b ≡ Some root → creation b ≡ None
root_creation root (ImplicitTask endpoint actual index flags parallel task) begins = refl
root_creation root _ begins = cc

pub root_region : (root : ℕ) (b : Body) → begun_root b ≡ Some root → region b ≡ None
root_region root (ImplicitTask endpoint actual index flags parallel task) begins = refl
root_region root _ begins = cc

pub creation_region : (parent child : ℕ) (b : Body) → creation b ≡ Some (parent, child) → region b ≡ None
creation_region parent child (TaskCreate deps flags task other) creates = refl
creation_region parent child _ creates = cc

-- ---- tasks are named behind the record that makes them

pub runner_made : (rs : List Record) → IsWatchable rs → (i task : ℕ) → at running rs i ≡ Some task
    → (k : ℕ) × (k ≤ i) × (at made rs k ≡ Some task)
runner_made rs watchable i task runs = watchable.named i task (named_by running running_named rs i task runs)

-- a creator was made before the new record, where one of the first creates
pub creator_made : (rs : List Record) (r : Record) → IsWatchable (rs ++ r ∷ []) → (i parent task : ℕ)
    → IsCreatedAt rs i parent task → IsMade rs parent
creator_made rs r watchable i parent task creates =
    let (k, low, says) =
    runner_made (rs ++ r ∷ []) watchable i parent
    (creation_at_running parent task (rs ++ r ∷ []) i (grown creates)) in
    let within = at_within creation rs i (parent, task) creates in
    elim (said_cases made rs r k parent says) [
      | inl old ↦ (k, old)
      | inr new ↦ let e = new.0 in absurd (omega (arith, e, low, within))
    ]
  where
    grown : IsCreatedAt rs i parent task → IsCreatedAt (rs ++ r ∷ []) i parent task
    grown = said_grows creation rs r i (parent, task)

pub child_made : (rs : List Record) (i parent task : ℕ) → IsCreatedAt rs i parent task → IsMade rs task
child_made rs i parent task creates =
    (i, created_at_made task rs i (creation_at_created parent task rs i creates))

-- a task with no region has none open
no_regions : (rs : List Record) (task n : ℕ)
    → ((k : ℕ) (kind : SyncKind) (endpoint : Endpoint) → k < n → at region rs k ≢ Some (task, kind, endpoint))
    → open_regions rs task n ≡ []
no_regions rs task zero none = refl
no_regions rs task (suc n) none =
    let e : suc n ≡ n + 1 = omega arith in
    ap (open_regions rs task) e
    ∙ of (at region rs n) refl
    ∙ no_regions rs task n (λ k kind endpoint low. none k kind endpoint (omega (arith, low)))
  where
    of : (o : Option (ℕ × SyncKind × Endpoint)) → at region rs n ≡ o
        → open_regions rs task (n + 1) ≡ open_regions rs task n
    of None says = open_none rs task n says
    of (Some (own, kind, endpoint)) says = elim (cases_eq task own) [
      | inl same ↦
          absurd
          (none n kind endpoint (omega arith) (says ∙ ap (λ t. Some (t, kind, endpoint)) (sym same)))
      | inr apart ↦ open_other rs task own n kind endpoint says apart
    ]

-- a task that the new record makes has no open taskgroup
pub no_groups : (rs : List Record) (r : Record) → IsWatchable (rs ++ r ∷ []) → (task : ℕ)
    → (IsMade rs task → ⊥) → region r.body ≡ None → open_groups (rs ++ r ∷ []) task ≡ []
no_groups rs r watchable task fresh none =
    ap (filter (λ b. is_taskgroup (kind_at (rs ++ r ∷ []) b)))
    (no_regions (rs ++ r ∷ []) task (length (rs ++ r ∷ [])) says)
  where
    says : (k : ℕ) (kind : SyncKind) (endpoint : Endpoint) → k < length (rs ++ r ∷ [])
        → at region (rs ++ r ∷ []) k ≢ Some (task, kind, endpoint)
    says k kind endpoint low is =
        let here = said_before region rs r none k (task, kind, endpoint) is in
        let within = at_within region rs k (task, kind, endpoint) here in
        let (j, early, makes) =
        runner_made (rs ++ r ∷ []) watchable k task
        (at_through region running (task, kind, endpoint) task (rs ++ r ∷ []) k
        (region_running task kind endpoint) is) in
        elim (said_cases made rs r j task makes) [
          | inl old ↦ fresh (j, old)
          | inr new ↦ let e = new.0 in absurd (omega (arith, e, early, within))
        ]

-- ---- a record that creates no task

pub no_creation : (rs : List Record) (r : Record) → creation r.body ≡ None → (task : ℕ)
    → SaysNoMore rs (rs ++ r ∷ []) task
no_creation rs r none task = record {
  own = λ i parent. said_before creation rs r none i (parent, task);
  kids = λ i child. said_before creation rs r none i (task, child);
}

pub by_none : (rs : List Record) (r : Record) → creation r.body ≡ None → IsByLive rs r
by_none rs r none parent task creates = absurd (none-some (parent, task) (sym none ∙ creates))

-- one that makes none, and begins and ends no taskgroup, changes nothing
pub waits_stay : (rs : List Record) (r : Record) (table : ℕ → Option Kin) → HasBegin rs r
    → made r.body ≡ None → grouped (region r.body) ≡ None → IsWaitsOf rs table
    → IsWaitsOf (rs ++ r ∷ []) table
waits_stay rs r table ends none apart is = record {
  made = λ task kin kept. made_grows rs r task (is.made task kin kept);
  gone = λ task makes absent.
      let (k, says) = makes in
      over_grows rs r task (is.gone task (k, said_before made rs r none k task says) absent);
  each = λ task kin kept.
      kin_moves rs (rs ++ r ∷ []) table table task kin kin moves
      (no_creation rs r (made_none r.body none) task)
      (record { kept = λ child created. refl; going = λ child created. refl })
      (λ i parent above creates kept'. ((above, kept'), ap (λ bs. number_before bs i) (same parent)))
      (groups_same kin) (is.each task kin kept);
  groups = λ task kin kept.
      groups_move rs (rs ++ r ∷ []) table table task kin.groups.items moves
      (no_creation rs r (made_none r.body none) task)
      (record { kept = λ child created. refl; going = λ child created. refl }) (same task)
      (is.groups task kin kept);
}
  where
    moves : Moves rs (rs ++ r ∷ [])
    moves = moves_grows rs r (by_none rs r (made_none r.body none))

    same : (task : ℕ) → open_groups (rs ++ r ∷ []) task ≡ open_groups rs task
    same task = groups_kept rs r task ends (λ e. none-some task (sym apart ∙ e))

-- ---- what is kept of a new task

-- of a task that the new record makes nothing was counted
pub new_kin : (rs : List Record) (table : ℕ → Option Kin) (task : ℕ) (parent : Option ℕ) (group : ℕ)
    (kin : Kin) → IsNew parent group kin → ((i child : ℕ) → IsCreatedAt rs i task child → ⊥)
    → IsPlaceOf rs table task kin
    → IsKinOf rs table task kin
new_kin rs table task parent group kin new childless place = record {
  place = place;
  family =
      let P : Scope → Type 0 =
      λ s. IsScopeOf (length rs) (IsParent rs task) (is_kept table) (IsSettled rs) s in
      subst P (sym new.family)
      (scope_none (length rs) (IsParent rs task) (is_kept table) (IsSettled rs)
      (λ child has. childless has.0 child has.1));
  children =
      let P : Scope → Type 0 =
      λ s. IsScopeOf (length rs) (IsParent rs task) (is_going table) (IsCompleteBelow rs) s in
      subst P (sym new.children)
      (scope_none (length rs) (IsParent rs task) (is_going table) (IsCompleteBelow rs)
      (λ child has. childless has.0 child has.1));
}

pub new_groups : (rs : List Record) (table : ℕ → Option Kin) (task : ℕ) (groups : List Scope) → groups ≡ []
    → open_groups rs task ≡ [] → AreGroups rs table task groups
new_groups rs table task groups empty none = record {
  as_many = ap length empty ∙ sym (ap length none);
  each = λ place s at_place.
      absurd (none-some s (sym (ap (λ (l : List Scope). slice_get l place) empty) ∙ at_place));
}

-- ---- a root begins

pub root_waits : (rs : List Record) (r : Record) (old new : ℕ → Option Kin) (root : ℕ) (kin : Kin)
    → MayFollow rs r → begun_root r.body ≡ Some root → IsNew None 0 kin → Puts root kin old new
    → IsWaitsOf rs old → IsWaitsOf (rs ++ r ∷ []) new
root_waits rs r old new root kin follows begins fresh puts is = record {
  made = λ task after kept. elim (cases_eq task root) [
    | inl same ↦ (length rs, at_last made rs r ∙ makes ∙ ap Some (sym same))
    | inr apart ↦ made_grows rs r task (is.made task after (sym (puts.others task apart) ∙ kept))
  ];
  gone = λ task found absent. elim (cases_eq task root) [
    | inl same ↦ absurd (none-some kin (sym absent ∙ ap new same ∙ puts.here))
    | inr apart ↦
        let (k, says) = found in
        elim (said_cases made rs r k task says) [
          | inl early ↦
              over_grows rs r task (is.gone task (k, early) (sym (puts.others task apart) ∙ absent))
          | inr late ↦ absurd (apart (same_Some task root (sym late.1 ∙ makes)))
        ]
  ];
  each = λ task after kept. elim (cases_eq task root) [
    | inl same ↦
        let e : kin ≡ after = same_Some kin after (sym puts.here ∙ ap new (sym same) ∙ kept) in
        let P : ℕ → Type 0 = λ t. IsKinOf (rs ++ r ∷ []) new t after in
        let Q : Kin → Type 0 = λ k. IsKinOf (rs ++ r ∷ []) new root k in
        subst P (sym same) (subst Q e root_kin)
    | inr apart ↦
        kin_moves rs (rs ++ r ∷ []) old new task after after moves (no_creation rs r none task)
        (keeps task) (number task) (groups_same after)
        (is.each task after (sym (puts.others task apart) ∙ kept))
  ];
  groups = λ task after kept. elim (cases_eq task root) [
    | inl same ↦
        let e : kin ≡ after = same_Some kin after (sym puts.here ∙ ap new (sym same) ∙ kept) in
        let P : ℕ → Type 0 = λ t. AreGroups (rs ++ r ∷ []) new t after.groups.items in
        let Q : Kin → Type 0 = λ k. AreGroups (rs ++ r ∷ []) new root k.groups.items in
        subst P (sym same)
        (subst Q e
        (new_groups (rs ++ r ∷ []) new root kin.groups.items fresh.groups
        (no_groups rs r follows.watchable root unmade (root_region root r.body begins))))
    | inr apart ↦
        groups_move rs (rs ++ r ∷ []) old new task after.groups.items moves (no_creation rs r none task)
        (keeps task) (same_groups task)
        (is.groups task after (sym (puts.others task apart) ∙ kept))
  ];
}
  where
    makes : made r.body ≡ Some root
    makes = begun_made root r.body begins

    none : creation r.body ≡ None
    none = root_creation root r.body begins

    unmade : IsMade rs root → ⊥
    unmade = created_fresh rs r follows.once root makes

    moves : Moves rs (rs ++ r ∷ [])
    moves = moves_grows rs r (by_none rs r none)

    same_groups : (task : ℕ) → open_groups (rs ++ r ∷ []) task ≡ open_groups rs task
    same_groups task =
        groups_kept rs r task follows.ends
        (λ e. none-some task (sym (ap grouped (root_region root r.body begins)) ∙ e))

    away : (task : ℕ) → IsMade rs task → task ≢ root
    away task found same = let P : ℕ → Type 0 = λ t. IsMade rs t in unmade (subst P same found)

    keeps : (task : ℕ) → KeepsChildren rs task old new
    keeps task = record {
      kept = λ child created.
          ap is_some (puts.others child (away child (child_made rs created.0 task child created.1)));
      going = λ child created.
          ap (λ o. option_map_or (λ (k : Kin). not k.done) o false)
          (puts.others child (away child (child_made rs created.0 task child created.1)));
    }

    number : (task : ℕ) → KeepsNumber rs (rs ++ r ∷ []) task old new
    number task i parent above creates kept =
        let apart = away parent (creator_made rs r follows.watchable i parent task creates) in (
          (above, sym (puts.others parent apart) ∙ kept),
          ap (λ bs. number_before bs i) (same_groups parent),
        )

    uncreated : (i parent : ℕ) → IsCreatedAt (rs ++ r ∷ []) i parent root → ⊥
    uncreated i parent creates =
        unmade (child_made rs i parent root (said_before creation rs r none i (parent, root) creates))

    root_kin : IsKinOf (rs ++ r ∷ []) new root kin
    root_kin =
        new_kin (rs ++ r ∷ []) new root None 0 kin fresh
        (λ i child creates.
        unmade
        (creator_made rs r follows.watchable i root child
        (said_before creation rs r none i (root, child) creates)))
        (record {
          created = λ i parent creates. absurd (uncreated i parent creates);
          parent = λ parent e. absurd (none-some parent (sym fresh.parent_is ∙ e));
          group = λ i parent above creates kept. absurd (uncreated i parent creates);
          over = λ done. absurd (false≢true (sym fresh.done ∙ done));
          complete = λ done explicit. absurd (false≢true (sym fresh.done ∙ done));
        })
