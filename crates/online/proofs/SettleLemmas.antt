-- What is kept where a settled task is taken out.
use Rattle.std.proofs.Common.{◌≡◌, ◌≢◌, ◌∙◌, ℕ, ◌+◌, true, false, List, length, Option, Some}
use Rattle.std.proofs.Common.{refl, sym, ap, subst, arith, inl, inr, ◌⊎◌}
use Rattle.std.specs.Prelude.{is_some, not, slice_get}
use Rattle.std.specs.Option.{option_map_or}
use Rattle.std.proofs.lemmas.Bool.{cases_eq}
use Rattle.std.proofs.lemmas.Option.{none-some}
use Rattle.ompt_events.specs.declared.records.Record.{Record}
use Rattle.ompt_events.specs.declared.cause.Cause.TheVariants.{CreatedTwice}
use Rattle.ompt_events.specs.Tree.{IsCreatedAt, IsParent, IsExplicit}
use Rattle.ompt_events.specs.Causes.{IsFreeOf}
use Rattle.ompt_events.proofs.RecordLemmas.{creation_at_created}
use Rattle.online.specs.declared.scope.Scope.{Scope}
use Rattle.online.specs.declared.kin.Kin.{Kin}
use Rattle.online.specs.Waits.{without_task, ChangesAbove, SettlesChild, Removes, KeepsTold, is_kept}
use Rattle.online.specs.Waits.{is_going}
use Rattle.online.specs.Waits.{open_groups}
use Rattle.online.specs.Waits.{number_before, IsInGroup, IsScopeOf, IsSettled, IsCompleteBelow, IsOver}
use Rattle.online.specs.Waits.{AreGroups, IsKinOf, IsWaitsOf}
use Rattle.online.proofs.ScopeLemmas.{scope_same, scope_leave, scope_empty}
use Rattle.online.proofs.GrowLemmas.{creation_once, settled_rises, settled_from}
use Rattle.online.proofs.ViewLemmas.{IsFrom, above_from, kept_above, going_above, going_of, none_from}
use Rattle.online.proofs.KinLemmas.{moves_same, groups_same}
use Rattle.online.proofs.KinLemmas.{place_moves, children_move, kin_moves, groups_move}
use Rattle.online.proofs.DoneLemmas.{says_same, number_same}

-- a task that is done, of whose children none is kept, is taken out: what is kept before it, without the
-- task, and behind it
pub record Settles (rs : List Record) (task : ℕ) (old without new : ℕ → Option Kin) (was : Kin) : Type 0 where
  pub once : IsFreeOf rs CreatedTwice
  pub found : old task ≡ Some was
  pub done : was.done ≡ true
  pub none : was.family.left ≡ 0
  pub removes : Removes task old without
  pub above : ChangesAbove (SettlesChild was.group was.family.greatest) was.parent without new
  pub before : IsWaitsOf rs old

module _ (rs : List Record) (task : ℕ) (old without new : ℕ → Option Kin) (was : Kin)
    (f : Settles rs task old without new was) where
  is : IsKinOf rs old task was
  is = f.before.each task was f.found

  pub settled : IsExplicit rs task → IsSettled rs was.family.greatest task
  settled explicit =
      settled_from rs task was.family.greatest (is.place.complete f.done explicit)
      (λ child created.
      (scope_empty (length rs) (IsParent rs task) (is_kept old) (IsSettled rs) was.family is.family f.none
      child created).1)

  kept_above_same : (other : ℕ) → is_kept new other ≡ is_kept without other
  kept_above_same other =
      kept_above (SettlesChild was.group was.family.greatest) was.parent without new f.above other

  pub kept_was : is_kept old task ≡ true
  kept_was = ap is_some f.found

  pub kept_here : is_kept new task ≡ false
  kept_here = kept_above_same task ∙ ap is_some f.removes.here

  pub kept_apart : (other : ℕ) → other ≢ task → is_kept new other ≡ is_kept old other
  kept_apart other apart = kept_above_same other ∙ ap is_some (f.removes.others other apart)

  going_all : (other : ℕ) → is_going new other ≡ is_going old other
  going_all other =
      going_above (SettlesChild was.group was.family.greatest) was.parent without new f.above
      (λ before after h. h.done) other
      ∙ of (cases_eq other task)
    where
      of : (other ≡ task) ⊎ (other ≢ task) → is_going without other ≡ is_going old other
      of (inl same) =
          ap (is_going without) same
          ∙ ap (λ o. option_map_or (λ (k : Kin). not k.done) o false) f.removes.here
          ∙ sym (going_of old task was f.found ∙ ap not f.done) ∙ ap (is_going old) (sym same)
      of (inr apart) =
          ap (λ o. option_map_or (λ (k : Kin). not k.done) o false) (f.removes.others other apart)

  -- the task is a child of its own parent alone
  pub parents_apart : (other : ℕ) → was.parent ≢ Some other → (child : ℕ) → IsParent rs other child
      → child ≢ task
  parents_apart other apart child (i, creates) same =
      let P : ℕ → Type 0 = λ t. IsCreatedAt rs i other t in
      apart (is.place.created i other (subst P same creates))

  -- ---- whose entry it is

  data Whose (other : ℕ) (after : Kin) : Type 0 where
    parents : (before : Kin) → was.parent ≡ Some other → old other ≡ Some before
        → SettlesChild was.group was.family.greatest before after → Whose other after
    others : was.parent ≢ Some other → old other ≡ Some after → Whose other after

  whose : (other : ℕ) (after : Kin) → new other ≡ Some after → Whose other after
  whose other after kept =
      of
      (above_from (SettlesChild was.group was.family.greatest) was.parent without new f.above other after
      kept)
    where
      of : IsFrom (SettlesChild was.group was.family.greatest) (was.parent ≡ Some other) without other after
          → Whose other after
      of from = by from.how
        where
          there : old other ≡ Some from.was
          there = elim (cases_eq other task) [
            | inl same ↦
                absurd (none-some from.was (sym f.removes.here ∙ ap without (sym same) ∙ from.kept))
            | inr apart ↦ sym (f.removes.others other apart) ∙ from.kept
          ]

          by : ((was.parent ≡ Some other) × SettlesChild was.group was.family.greatest from.was after)
              ⊎ ((was.parent ≡ Some other → ⊥) × (from.was ≡ after)) → Whose other after
          by (inl (above, changed)) = parents from.was above there changed
          by (inr (apart, same)) = others apart (there ∙ ap Some same)

  back : (other : ℕ) (after : Kin) → new other ≡ Some after → (before : Kin) × (old other ≡ Some before)
  back other after kept = of (whose other after kept)
    where
      of : Whose other after → (before : Kin) × (old other ≡ Some before)
      of (parents before above there changed) = (before, there)
      of (others apart there) = (after, there)

  pub told_before : (other : ℕ) (after : Kin) → new other ≡ Some after
      → (before : Kin) × (old other ≡ Some before) × (before.parent ≡ after.parent) × KeepsTold before after
  told_before other after kept = of (whose other after kept)
    where
      of : Whose other after
          → (before : Kin) × (old other ≡ Some before) × (before.parent ≡ after.parent)
          × KeepsTold before after
      of (parents before above there changed) = (before, there, sym changed.place.parent, changed.told)
      of (others apart there) =
          (after, there, refl, record { team = refl; parent_team = refl; phase = refl; barriers = refl })

  -- ---- the parent

  parent_kin : (other : ℕ) (before after : Kin) → was.parent ≡ Some other → old other ≡ Some before
      → SettlesChild was.group was.family.greatest before after → IsKinOf rs new other after
  parent_kin other before after above kept changed = record {
    place =
        place_moves rs rs old new other before after (moves_same rs) (λ i parent creates. creates)
        (number_same rs other old new back)
        (record {
          place = changed.place;
          done = changed.done;
          greatest = let e = ap (λ (s : Scope). s.greatest) changed.family in omega (arith, e);
        })
        (f.before.each other before kept).place;
    family =
        let P : Scope → Type 0 =
        λ s. IsScopeOf (length rs) (IsParent rs other) (is_kept new) (IsSettled rs) s in
        let ((i, creates), apart) = is.place.parent other above in
        subst P (sym changed.family)
        (scope_leave (length rs) (IsParent rs other) (is_kept old) (is_kept new) (IsSettled rs)
        before.family task was.family.greatest (f.before.each other before kept).family (settled_rises rs)
        (i, creates) kept_was kept_here (settled (i, creation_at_created other task rs i creates))
        (λ child created away. kept_apart child away));
    children =
        let P : Scope → Type 0 =
        λ s. IsScopeOf (length rs) (IsParent rs other) (is_going new) (IsCompleteBelow rs) s in
        subst P (sym changed.children)
        (children_move rs rs old new other before.children (moves_same rs) (λ i child creates. creates)
        (λ child created. going_all child) (f.before.each other before kept).children);
  }

  parent_groups : (other : ℕ) (before after : Kin) → was.parent ≡ Some other → old other ≡ Some before
      → SettlesChild was.group was.family.greatest before after → AreGroups rs new other after.groups.items
  parent_groups other before after above kept changed = record {
    as_many = changed.groups.as_many ∙ were.as_many;
    each = λ place s at_place. of place s (changed.groups.each place s at_place);
  }
    where
      were : AreGroups rs old other before.groups.items
      were = f.before.groups other before kept

      created : IsParent rs other task
      created = (is.place.parent other above).0

      number_here : was.group ≡ number_before (open_groups rs other) created.0
      number_here = is.place.group created.0 other before created.1 kept

      of : (place : ℕ) (s : Scope)
          → (first : Scope) × (slice_get before.groups.items place ≡ Some first)
          × (place + 1 ≡ was.group → s ≡ without_task was.family.greatest first)
          × (place + 1 ≢ was.group → s ≡ first)
          → IsScopeOf (length rs) (IsInGroup rs other (place + 1)) (is_kept new) (IsSettled rs) s
      of place s (first, at_place, changes, stays) = elim (cases_eq (place + 1) was.group) [
        | inl here ↦
            let P : Scope → Type 0 =
            λ t. IsScopeOf (length rs) (IsInGroup rs other (place + 1)) (is_kept new) (IsSettled rs) t in
            subst P (sym (changes here))
            (scope_leave (length rs) (IsInGroup rs other (place + 1)) (is_kept old) (is_kept new)
            (IsSettled rs) first task was.family.greatest (were.each place first at_place) (settled_rises rs)
            (created.0, created.1, sym number_here ∙ sym here) kept_was kept_here
            (settled (created.0, creation_at_created other task rs created.0 created.1))
            (λ child has away. kept_apart child away))
        | inr apart ↦
            let P : Scope → Type 0 =
            λ t. IsScopeOf (length rs) (IsInGroup rs other (place + 1)) (is_kept new) (IsSettled rs) t in
            subst P (sym (stays apart))
            (scope_same (length rs) (length rs) (IsInGroup rs other (place + 1))
            (IsInGroup rs other (place + 1)) (is_kept old) (is_kept new) (IsSettled rs) (IsSettled rs) first
            (were.each place first at_place) (omega arith) (λ child has. has)
            (λ child has. kept_apart child (outside apart child has)) (λ child m has late. late))
      ]
        where
          outside : place + 1 ≢ was.group → (child : ℕ) → IsInGroup rs other (place + 1) child → child ≢ task
          outside apart child (i, creates, number) same =
              let P : ℕ → Type 0 = λ t. IsCreatedAt rs i other t in
              let e =
              (creation_once rs f.once i created.0 other other task (subst P same creates) created.1).0 in
              apart (sym number ∙ ap (number_before (open_groups rs other)) e ∙ sym number_here)

  pub settle_waits : IsWaitsOf rs new
  settle_waits = record {
    made = λ other after kept.
        let (before, there) = back other after kept in f.before.made other before there;
    gone = λ other found absent. elim (cases_eq other task) [
      | inl same ↦ subst (IsOver rs) (sym same) (is.place.over f.done)
      | inr apart ↦
          f.before.gone other found
          (none_from old other (sym (kept_apart other apart) ∙ ap is_some absent))
    ];
    each = λ other after kept. each_of other after (whose other after kept);
    groups = λ other after kept. groups_of other after (whose other after kept);
  }
    where
      each_of : (other : ℕ) (after : Kin) → Whose other after → IsKinOf rs new other after
      each_of other after (parents before above kept changed) =
          parent_kin other before after above kept changed
      each_of other after (others apart kept) =
          kin_moves rs rs old new other after after (moves_same rs) (says_same rs other)
          (record {
            kept = λ child created. kept_apart child (parents_apart other apart child created);
            going = λ child created. going_all child;
          })
          (number_same rs other old new back) (groups_same after) (f.before.each other after kept)

      groups_of : (other : ℕ) (after : Kin) → Whose other after → AreGroups rs new other after.groups.items
      groups_of other after (parents before above kept changed) =
          parent_groups other before after above kept changed
      groups_of other after (others apart kept) =
          groups_move rs rs old new other after.groups.items (moves_same rs) (says_same rs other)
          (record {
            kept = λ child created. kept_apart child (parents_apart other apart child created);
            going = λ child created. going_all child;
          })
          refl (f.before.groups other after kept)
