-- What is kept where a task creates a child.
use Rattle.std.proofs.Common.{◌≡◌, ◌≢◌, ◌∙◌, ℕ, ◌<◌, ◌+◌, ◌^◌, true, false, List, [], ◌∷◌, ◌++◌, length}
use Rattle.std.proofs.Common.{Option, Some, None, sym, ap, subst, arith, inl, inr, ◌⊎◌}
use Rattle.std.specs.Prelude.{is_some, not, slice_get}
use Rattle.std.specs.Option.{option_map_or}
use Rattle.std.proofs.lemmas.Bool.{cases_eq, false≢true}
use Rattle.std.proofs.lemmas.Option.{none-some, same_Some}
use Rattle.std.proofs.lemmas.List.{length_push}
use Rattle.ompt_events.specs.declared.records.Record.{Record}
use Rattle.ompt_events.specs.Records.{made, creation, region}
use Rattle.ompt_events.specs.Tree.{IsCreatedAt, IsParent}
use Rattle.ompt_events.specs.Causes.{IsMade}
use Rattle.ompt_events.proofs.PlaceLemmas.{some_of}
use Rattle.online.specs.declared.scope.Scope.{Scope}
use Rattle.online.specs.declared.kin.Kin.{Kin}
use Rattle.online.specs.Waits.{with_task, ChangesAt, CountsChild, IsNew, Puts, is_kept, is_going, open_groups}
use Rattle.online.specs.Waits.{number_before, IsInGroup, IsScopeOf, IsSettled, IsCompleteBelow, AreGroups}
use Rattle.online.specs.Waits.{IsOver, IsKinOf, IsWaitsOf, MayFollow}
use Rattle.online.proofs.ScopeLemmas.{scope_enter, scope_same}
use Rattle.online.proofs.OpenGroupLemmas.{grouped, groups_kept, groups_falling, number_all, at_last}
use Rattle.online.proofs.GrowLemmas.{IsByLive, said_cases, made_grows, over_grows, created_fresh}
use Rattle.online.proofs.ViewLemmas.{IsFrom, changed_from, kept_same, going_same, none_from}
use Rattle.online.proofs.KinLemmas.{Moves, moves_grows, groups_same, place_moves, kin_moves, groups_move}
use Rattle.online.proofs.KinLemmas.{KeepsChildren, KeepsNumber}
use Rattle.online.proofs.StayLemmas.{creation_made, creation_region, creator_made, child_made, no_groups}
use Rattle.online.proofs.StayLemmas.{new_kin, new_groups}

-- the record creates a child for a task that is kept: what is kept before it, with the child, and behind it
pub record Creates (rs : List Record) (r : Record) (parent child : ℕ) (old with_child new : ℕ → Option Kin)
    (above kin : Kin) : Type 0 where
  pub says : creation r.body ≡ Some (parent, child)
  pub follows : MayFollow rs r
  pub found : old parent ≡ Some above
  pub fresh : IsNew (Some parent) (length above.groups.items) kin
  pub puts : Puts child kin old with_child
  pub counts : ChangesAt CountsChild parent with_child new
  pub before : IsWaitsOf rs old

module _ (rs : List Record) (r : Record) (parent child : ℕ) (old with_child new : ℕ → Option Kin)
    (above kin : Kin) (c : Creates rs r parent child old with_child new above kin) where
  makes : made r.body ≡ Some child
  makes = creation_made parent child r.body c.says

  pub no_region : region r.body ≡ None
  no_region = creation_region parent child r.body c.says

  pub unmade : IsMade rs child → ⊥
  unmade = created_fresh rs r c.follows.once child makes

  pub away : (task : ℕ) → IsMade rs task → task ≢ child
  away task found same = let P : ℕ → Type 0 = λ t. IsMade rs t in unmade (subst P same found)

  pub parent_apart : parent ≢ child
  parent_apart = away parent (c.before.made parent above c.found)

  pub live : IsByLive rs r
  live task other creates = (c.follows.creates task other creates).1

  moves : Moves rs (rs ++ r ∷ [])
  moves = moves_grows rs r live

  same_groups : (task : ℕ) → open_groups (rs ++ r ∷ []) task ≡ open_groups rs task
  same_groups task =
      groups_kept rs r task c.follows.ends (λ e. none-some task (sym (ap grouped no_region) ∙ e))

  -- ---- what is kept

  pub kept_here : is_kept new child ≡ true
  kept_here = kept_same CountsChild parent with_child new c.counts child ∙ ap is_some c.puts.here

  pub kept_other : (task : ℕ) → IsMade rs task → is_kept new task ≡ is_kept old task
  kept_other task found =
      kept_same CountsChild parent with_child new c.counts task
      ∙ ap is_some (c.puts.others task (away task found))

  going_counts : (task : ℕ) → is_going new task ≡ is_going with_child task
  going_counts task = going_same CountsChild parent with_child new c.counts (λ was after h. h.done) task

  going_here : is_going new child ≡ true
  going_here =
      going_counts child ∙ ap (λ o. option_map_or (λ (k : Kin). not k.done) o false) c.puts.here
      ∙ ap not c.fresh.done

  going_other : (task : ℕ) → IsMade rs task → is_going new task ≡ is_going old task
  going_other task found =
      going_counts task
      ∙ ap (λ o. option_map_or (λ (k : Kin). not k.done) o false) (c.puts.others task (away task found))

  -- ---- who is created

  -- no other task than the child is created
  pub own_back : (task : ℕ) → task ≢ child → (i by : ℕ) → IsCreatedAt (rs ++ r ∷ []) i by task
      → IsCreatedAt rs i by task
  own_back task apart i by creates = elim (said_cases creation rs r i (by, task) creates) [
    | inl early ↦ early
    | inr late ↦
        absurd
        (apart
        (sym (ap (λ (p : ℕ × ℕ). p.1) (same_Some (parent, child) (by, task) (sym c.says ∙ late.1)))))
  ]

  -- no other task than the parent creates one
  pub kids_back : (task : ℕ) → task ≢ parent → (i other : ℕ) → IsCreatedAt (rs ++ r ∷ []) i task other
      → IsCreatedAt rs i task other
  kids_back task apart i other creates = elim (said_cases creation rs r i (task, other) creates) [
    | inl early ↦ early
    | inr late ↦
        absurd
        (apart
        (sym (ap (λ (p : ℕ × ℕ). p.0) (same_Some (parent, child) (task, other) (sym c.says ∙ late.1)))))
  ]

  -- a child of the parent is an earlier one, or the new one
  pub kids_cases : (i other : ℕ) → IsCreatedAt (rs ++ r ∷ []) i parent other
      → IsCreatedAt rs i parent other ⊎ ((i ≡ length rs) × (other ≡ child))
  kids_cases i other creates = elim (said_cases creation rs r i (parent, other) creates) [
    | inl early ↦ inl early
    | inr late ↦
        inr (
          late.0,
          sym (ap (λ (p : ℕ × ℕ). p.1) (same_Some (parent, child) (parent, other) (sym c.says ∙ late.1))),
        )
  ]

  keeps : (task : ℕ) → KeepsChildren rs task old new
  keeps task = record {
    kept = λ other created. kept_other other (child_made rs created.0 task other created.1);
    going = λ other created. going_other other (child_made rs created.0 task other created.1);
  }

  number : (task : ℕ) → KeepsNumber rs (rs ++ r ∷ []) task old new
  number task i by after creates kept =
      let known = creator_made rs r c.follows.watchable i by task creates in (
        some_of (old by) (sym (kept_other by known) ∙ ap is_some kept),
        ap (λ bs. number_before bs i) (same_groups by),
      )

  -- ---- the parent

  pub longer : length rs + 1 ≡ length (rs ++ r ∷ [])
  longer = sym (length_push rs r)

  pub small : length (rs ++ r ∷ []) < 2 ^ 64
  small = let e = longer in let h = c.follows.few in omega (arith, e, h)

  parent_kin : (after : Kin) → CountsChild above after → IsKinOf (rs ++ r ∷ []) new parent after
  parent_kin after changed = record {
    place =
        place_moves rs (rs ++ r ∷ []) old new parent above after moves (own_back parent parent_apart)
        (number parent)
        (record {
          place = changed.place;
          done = changed.done;
          greatest = let e = ap (λ (s : Scope). s.greatest) changed.family in omega (arith, e);
        })
        was.place;
    family =
        let P : Scope → Type 0 =
        λ s.
        IsScopeOf (length (rs ++ r ∷ [])) (IsParent (rs ++ r ∷ []) parent) (is_kept new)
        (IsSettled (rs ++ r ∷ [])) s in
        subst P (sym changed.family)
        (scope_enter (length rs) (length (rs ++ r ∷ [])) (IsParent rs parent)
        (IsParent (rs ++ r ∷ []) parent) (is_kept old) (is_kept new) (IsSettled rs)
        (IsSettled (rs ++ r ∷ [])) above.family child was.family longer small kept_here within
        (λ task has. kept_other task (child_made rs has.0 parent task has.1))
        (λ task n has. moves.settled task n));
    children =
        let P : Scope → Type 0 =
        λ s.
        IsScopeOf (length (rs ++ r ∷ [])) (IsParent (rs ++ r ∷ []) parent) (is_going new)
        (IsCompleteBelow (rs ++ r ∷ [])) s in
        subst P (sym changed.children)
        (scope_enter (length rs) (length (rs ++ r ∷ [])) (IsParent rs parent)
        (IsParent (rs ++ r ∷ []) parent) (is_going old) (is_going new) (IsCompleteBelow rs)
        (IsCompleteBelow (rs ++ r ∷ [])) above.children child was.children longer small going_here within
        (λ task has. going_other task (child_made rs has.0 parent task has.1))
        (λ task n has. moves.complete task n));
  }
    where
      was : IsKinOf rs old parent above
      was = c.before.each parent above c.found

      within : (task : ℕ) → IsParent (rs ++ r ∷ []) parent task → IsParent rs parent task ⊎ (task ≡ child)
      within task (i, creates) = elim (kids_cases i task creates) [
        | inl early ↦ inl (i, early)
        | inr late ↦ inr late.1
      ]

  parent_groups : (after : Kin) → CountsChild above after
      → AreGroups (rs ++ r ∷ []) new parent after.groups.items
  parent_groups after changed = record {
    as_many = changed.groups.as_many ∙ was.as_many ∙ ap length (sym (same_groups parent));
    each = λ place s at_place. of place s (changed.groups.each place s at_place);
  }
    where
      was : AreGroups rs old parent above.groups.items
      was = c.before.groups parent above c.found

      -- the number of the new child is that of the innermost taskgroup
      innermost : number_before (open_groups (rs ++ r ∷ []) parent) (length rs) ≡ length above.groups.items
      innermost =
          ap (λ bs. number_before bs (length rs)) (same_groups parent)
          ∙ number_all (length rs) (open_groups rs parent) (length rs) (groups_falling rs parent)
          (omega arith)
          ∙ sym was.as_many

      within : (place task : ℕ) → IsInGroup (rs ++ r ∷ []) parent (place + 1) task
          → IsInGroup rs parent (place + 1) task
          ⊎ ((task ≡ child) × (place + 1 ≡ length above.groups.items))
      within place task (i, creates, numbers) = elim (kids_cases i task creates) [
        | inl early ↦ inl (i, early, ap (λ bs. number_before bs i) (sym (same_groups parent)) ∙ numbers)
        | inr late ↦
            inr (
              late.1,
              sym numbers ∙ ap (number_before (open_groups (rs ++ r ∷ []) parent)) late.0 ∙ innermost,
            )
      ]

      of : (place : ℕ) (s : Scope)
          → (before : Scope) × (slice_get above.groups.items place ≡ Some before)
          × (place + 1 ≡ length above.groups.items → s ≡ with_task before)
          × (place + 1 ≢ length above.groups.items → s ≡ before)
          → IsScopeOf (length (rs ++ r ∷ [])) (IsInGroup (rs ++ r ∷ []) parent (place + 1)) (is_kept new)
          (IsSettled (rs ++ r ∷ [])) s
      of place s (before, at_place, changes, stays) =
          elim (cases_eq (place + 1) (length above.groups.items)) [
            | inl here ↦
                let P : Scope → Type 0 =
                λ t.
                IsScopeOf (length (rs ++ r ∷ [])) (IsInGroup (rs ++ r ∷ []) parent (place + 1)) (is_kept new)
                (IsSettled (rs ++ r ∷ [])) t in
                subst P (sym (changes here))
                (scope_enter (length rs) (length (rs ++ r ∷ [])) (IsInGroup rs parent (place + 1))
                (IsInGroup (rs ++ r ∷ []) parent (place + 1)) (is_kept old) (is_kept new) (IsSettled rs)
                (IsSettled (rs ++ r ∷ [])) before child (was.each place before at_place) longer small
                kept_here (λ task has. first (within place task has))
                (λ task has. kept_other task (child_made rs has.0 parent task has.1))
                (λ task n has. moves.settled task n))
            | inr apart ↦
                let P : Scope → Type 0 =
                λ t.
                IsScopeOf (length (rs ++ r ∷ [])) (IsInGroup (rs ++ r ∷ []) parent (place + 1)) (is_kept new)
                (IsSettled (rs ++ r ∷ [])) t in
                subst P (sym (stays apart))
                (scope_same (length rs) (length (rs ++ r ∷ [])) (IsInGroup rs parent (place + 1))
                (IsInGroup (rs ++ r ∷ []) parent (place + 1)) (is_kept old) (is_kept new) (IsSettled rs)
                (IsSettled (rs ++ r ∷ [])) before (was.each place before at_place) moves.longer
                (λ task has. only apart (within place task has))
                (λ task has.
                let (i, creates, e) = only apart (within place task has) in
                kept_other task (child_made rs i parent task creates))
                (λ task n has. moves.settled task n))
          ]
        where
          first : {task : ℕ}
              → IsInGroup rs parent (place + 1) task
              ⊎ ((task ≡ child) × (place + 1 ≡ length above.groups.items))
              → IsInGroup rs parent (place + 1) task ⊎ (task ≡ child)
          first (inl early) = inl early
          first (inr late) = inr late.0

          only : {task : ℕ} → place + 1 ≢ length above.groups.items
              → IsInGroup rs parent (place + 1) task
              ⊎ ((task ≡ child) × (place + 1 ≡ length above.groups.items))
              → IsInGroup rs parent (place + 1) task
          only apart (inl early) = early
          only apart (inr late) = absurd (apart late.1)

  -- ---- the child

  -- it creates nothing
  pub childless : (i other : ℕ) → IsCreatedAt (rs ++ r ∷ []) i child other → ⊥
  childless i other creates =
      unmade
      (creator_made rs r c.follows.watchable i child other
      (kids_back child (λ e. parent_apart (sym e)) i other creates))

  pub child_by : (i by : ℕ) → IsCreatedAt (rs ++ r ∷ []) i by child → (i ≡ length rs) × (by ≡ parent)
  child_by i by creates = elim (said_cases creation rs r i (by, child) creates) [
    | inl early ↦ absurd (unmade (child_made rs i by child early))
    | inr late ↦ (
      late.0,
      sym (ap (λ (p : ℕ × ℕ). p.0) (same_Some (parent, child) (by, child) (sym c.says ∙ late.1))),
    )
  ]

  child_kin : IsKinOf (rs ++ r ∷ []) new child kin
  child_kin =
      new_kin (rs ++ r ∷ []) new child (Some parent) (length above.groups.items) kin c.fresh childless
      (record {
        created = λ i by creates. c.fresh.parent_is ∙ ap Some (sym (child_by i by creates).1);
        parent = λ by e.
            let same : parent ≡ by = same_Some parent by (sym c.fresh.parent_is ∙ e) in
            let P : ℕ → Type 0 = λ t. IsParent (rs ++ r ∷ []) t child × (t ≢ child) in
            subst P same ((length rs, at_last creation rs r ∙ c.says), parent_apart);
        group = λ i by after creates kept.
            let (here, same) = child_by i by creates in
            c.fresh.group_is
            ∙ (c.before.groups parent above c.found).as_many
            ∙ sym
            (number_all (length rs) (open_groups rs parent) (length rs) (groups_falling rs parent)
            (omega arith))
            ∙ ap (λ bs. number_before bs (length rs)) (sym (same_groups parent))
            ∙ ap (number_before (open_groups (rs ++ r ∷ []) parent)) (sym here)
            ∙ ap (λ t. number_before (open_groups (rs ++ r ∷ []) t) i) (sym same);
        over = λ done. absurd (false≢true (sym c.fresh.done ∙ done));
        complete = λ done explicit. absurd (false≢true (sym c.fresh.done ∙ done));
      })

  child_groups : AreGroups (rs ++ r ∷ []) new child kin.groups.items
  child_groups =
      new_groups (rs ++ r ∷ []) new child kin.groups.items c.fresh.groups
      (no_groups rs r c.follows.watchable child unmade no_region)

  -- ---- all tasks

  -- what is kept behind the record is the parent's, the child's, or another one's
  pub data Whose (task : ℕ) (after : Kin) : Type 0 where
    parents : task ≡ parent → CountsChild above after → Whose task after
    childs : task ≡ child → kin ≡ after → Whose task after
    others : task ≢ parent → task ≢ child → old task ≡ Some after → Whose task after

  pub whose : (task : ℕ) (after : Kin) → new task ≡ Some after → Whose task after
  whose task after kept = of (changed_from CountsChild parent with_child new c.counts task after kept)
    where
      of : IsFrom CountsChild (task ≡ parent) with_child task after → Whose task after
      of from = by from.how
        where
          by : ((task ≡ parent) × CountsChild from.was after) ⊎ ((task ≡ parent → ⊥) × (from.was ≡ after))
              → Whose task after
          by (inl (same, changed)) =
              let e : from.was ≡ above =
              same_Some from.was above
              (sym from.kept ∙ ap with_child same ∙ c.puts.others parent parent_apart ∙ c.found) in
              let P : Kin → Type 0 = λ k. CountsChild k after in
              parents same (subst P e changed)
          by (inr (apart, stays)) = elim (cases_eq task child) [
            | inl same ↦
                childs same
                (same_Some kin from.was (sym c.puts.here ∙ ap with_child (sym same) ∙ from.kept) ∙ stays)
            | inr away' ↦
                others apart away' (sym (c.puts.others task away') ∙ from.kept ∙ ap Some stays)
          ]

  pub create_waits : IsWaitsOf (rs ++ r ∷ []) new
  create_waits = record {
    made = λ task after kept. made_of task after (whose task after kept);
    gone = λ task found absent. gone_of task found absent;
    each = λ task after kept. each_of task after (whose task after kept);
    groups = λ task after kept. groups_of task after (whose task after kept);
  }
    where
      made_of : (task : ℕ) (after : Kin) → Whose task after → IsMade (rs ++ r ∷ []) task
      made_of task after (parents same changed) =
          let P : ℕ → Type 0 = λ t. IsMade (rs ++ r ∷ []) t in
          subst P (sym same) (made_grows rs r parent (c.before.made parent above c.found))
      made_of task after (childs same e) = (length rs, at_last made rs r ∙ makes ∙ ap Some (sym same))
      made_of task after (others apart away' kept) = made_grows rs r task (c.before.made task after kept)

      gone_of : (task : ℕ) → IsMade (rs ++ r ∷ []) task → new task ≡ None → IsOver (rs ++ r ∷ []) task
      gone_of task (k, says) absent = elim (said_cases made rs r k task says) [
        | inl early ↦
            over_grows rs r task
            (c.before.gone task (k, early)
            (none_from old task (sym (kept_other task (k, early)) ∙ ap is_some absent)))
        | inr late ↦
            let e : child ≡ task = same_Some child task (sym makes ∙ late.1) in
            absurd (false≢true (sym (ap is_some absent) ∙ ap (is_kept new) (sym e) ∙ kept_here))
      ]

      each_of : (task : ℕ) (after : Kin) → Whose task after → IsKinOf (rs ++ r ∷ []) new task after
      each_of task after (parents same changed) =
          let P : ℕ → Type 0 = λ t. IsKinOf (rs ++ r ∷ []) new t after in
          subst P (sym same) (parent_kin after changed)
      each_of task after (childs same e) =
          let P : ℕ → Type 0 = λ t. IsKinOf (rs ++ r ∷ []) new t after in
          let Q : Kin → Type 0 = λ k. IsKinOf (rs ++ r ∷ []) new child k in
          subst P (sym same) (subst Q e child_kin)
      each_of task after (others apart away' kept) =
          kin_moves rs (rs ++ r ∷ []) old new task after after moves
          (record { own = own_back task away'; kids = kids_back task apart }) (keeps task) (number task)
          (groups_same after) (c.before.each task after kept)

      groups_of : (task : ℕ) (after : Kin) → Whose task after
          → AreGroups (rs ++ r ∷ []) new task after.groups.items
      groups_of task after (parents same changed) =
          let P : ℕ → Type 0 = λ t. AreGroups (rs ++ r ∷ []) new t after.groups.items in
          subst P (sym same) (parent_groups after changed)
      groups_of task after (childs same e) =
          let P : ℕ → Type 0 = λ t. AreGroups (rs ++ r ∷ []) new t after.groups.items in
          let Q : Kin → Type 0 = λ k. AreGroups (rs ++ r ∷ []) new child k.groups.items in
          subst P (sym same) (subst Q e child_groups)
      groups_of task after (others apart away' kept) =
          groups_move rs (rs ++ r ∷ []) old new task after.groups.items moves
          (record { own = own_back task away'; kids = kids_back task apart }) (keeps task)
          (same_groups task) (c.before.groups task after kept)
