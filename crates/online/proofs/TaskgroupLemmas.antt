-- What is kept where a task begins a taskgroup, or ends one in which all is settled.
use Rattle.std.proofs.Common.{◌≡◌, ◌≢◌, ◌∙◌, ℕ, ◌<◌, ◌≤◌, ◌+◌, false, List, [], ◌∷◌, ◌++◌, length}
use Rattle.std.proofs.Common.{Option, Some, None, refl, sym, ap, subst, arith, inl, inr, ◌⊎◌}
use Rattle.std.specs.Prelude.{is_some, slice_get}
use Rattle.std.proofs.lemmas.Bool.{cases_eq, cases_lt, false≢true}
use Rattle.std.proofs.lemmas.Option.{same_Some}
use Rattle.std.proofs.lemmas.List.{length_push}
use Rattle.ompt_events.specs.declared.records.Record.{Record}
use Rattle.ompt_events.specs.declared.records.Body.{Body}
use Rattle.ompt_events.specs.declared.records.Body.TheVariants.{SyncRegion}
use Rattle.ompt_events.specs.declared.names.SyncKind.{SyncKind}
use Rattle.ompt_events.specs.declared.names.SyncKind.TheVariants.{Taskgroup}
use Rattle.ompt_events.specs.declared.names.Endpoint.{Endpoint}
use Rattle.ompt_events.specs.declared.names.Endpoint.TheVariants.{Begin, End}
use Rattle.ompt_events.specs.Records.{made, creation, region}
use Rattle.ompt_events.specs.Tree.{IsCreatedAt}
use Rattle.ompt_events.specs.Regions.{EndsRegion}
use Rattle.ompt_events.proofs.PlaceLemmas.{at_within}
use Rattle.ompt_events.proofs.ListLemmas.{get_pushed, get_last, pushed_cases}
use Rattle.online.specs.declared.scope.Scope.{Scope}
use Rattle.online.specs.declared.kin.Kin.{Kin}
use Rattle.online.specs.Waits.{no_tasks, raised, ChangesGroups, ChangesAt, BeginsGroup, EndsGroup, is_kept}
use Rattle.online.specs.Waits.{open_groups, number_before, IsInGroup, IsScopeOf, IsSettled, AreGroups}
use Rattle.online.specs.Waits.{IsKinOf, IsWaitsOf}
use Rattle.online.proofs.ScopeLemmas.{scope_none, scope_same, scope_raise, scope_empty}
use Rattle.online.proofs.OpenGroupLemmas.{IsFalling, HasBegin, grouped, groups_begun, groups_ended}
use Rattle.online.proofs.OpenGroupLemmas.{groups_kept}
use Rattle.online.proofs.OpenGroupLemmas.{groups_falling, number_most, number_less, number_past, number_all}
use Rattle.online.proofs.GrowLemmas.{said_before, made_grows, over_grows, settled_rises}
use Rattle.online.proofs.ViewLemmas.{IsFrom, changed_from, kept_same, going_same, none_from, KeepsDone}
use Rattle.online.proofs.KinLemmas.{Moves, moves_grows, KeepsChildren, KeepsNumber, groups_same, kin_moves}
use Rattle.online.proofs.KinLemmas.{groups_move}
use Rattle.online.proofs.StayLemmas.{made_none, no_creation, by_none}

pub region_made : (task : ℕ) (kind : SyncKind) (endpoint : Endpoint) (b : Body)
    → region b ≡ Some (task, kind, endpoint) → made b ≡ None
region_made task kind endpoint (SyncRegion k e parallel own) says = refl
region_made task kind endpoint _ says = cc

-- ---- a record that makes no task changes only what is kept of the taskgroups of one

-- what has to be shown of the task whose taskgroups change, and of the numbers of the children
pub record Regroups (rs : List Record) (r : Record) (task : ℕ) (change : Kin → Kin → Type 0)
    (old new : ℕ → Option Kin) : Type 0 where
  pub begins : HasBegin rs r
  pub makes_none : made r.body ≡ None
  pub only : (other : ℕ) → other ≢ task → grouped (region r.body) ≢ Some other
  pub changes : ChangesAt change task old new
  pub rest : (was after : Kin) → change was after → ChangesGroups was after
  pub before : IsWaitsOf rs old
  pub number : (i child : ℕ) (kin : Kin) → IsCreatedAt rs i task child → old child ≡ Some kin
      → number_before (open_groups (rs ++ r ∷ []) task) i ≡ number_before (open_groups rs task) i
  pub groups : (was after : Kin) → old task ≡ Some was → change was after
      → AreGroups (rs ++ r ∷ []) new task after.groups.items

module _ (rs : List Record) (r : Record) (task : ℕ) (change : Kin → Kin → Type 0) (old new : ℕ → Option Kin)
    (g : Regroups rs r task change old new) where
  none : creation r.body ≡ None
  none = made_none r.body g.makes_none

  moves : Moves rs (rs ++ r ∷ [])
  moves = moves_grows rs r (by_none rs r none)

  kept_all : (other : ℕ) → is_kept new other ≡ is_kept old other
  kept_all other = kept_same change task old new g.changes other

  keeps_done : KeepsDone change
  keeps_done was after changed = (g.rest was after changed).done

  keeps : (other : ℕ) → KeepsChildren rs other old new
  keeps other = record {
    kept = λ child created. kept_all child;
    going = λ child created. going_same change task old new g.changes keeps_done child;
  }

  number : (child : ℕ) (kin : Kin) → old child ≡ Some kin → KeepsNumber rs (rs ++ r ∷ []) child old new
  number child kin there i parent above creates kept =
      (found (changed_from change task old new g.changes parent above kept), of (cases_eq parent task))
    where
      found : IsFrom change (parent ≡ task) old parent above → (was : Kin) × (old parent ≡ Some was)
      found from = (from.was, from.kept)

      of : (parent ≡ task) ⊎ (parent ≢ task)
          → number_before (open_groups (rs ++ r ∷ []) parent) i ≡ number_before (open_groups rs parent) i
      of (inl same) =
          let P : ℕ → Type 0 = λ t. IsCreatedAt rs i t child in
          ap (λ t. number_before (open_groups (rs ++ r ∷ []) t) i) same
          ∙ g.number i child kin (subst P same creates) there
          ∙ ap (λ t. number_before (open_groups rs t) i) (sym same)
      of (inr apart) = ap (λ bs. number_before bs i) (groups_kept rs r parent g.begins (g.only parent apart))

  pub regroup_waits : IsWaitsOf (rs ++ r ∷ []) new
  regroup_waits = record {
    made = λ other after kept.
        let from = changed_from change task old new g.changes other after kept in
        made_grows rs r other (g.before.made other from.was from.kept);
    gone = λ other found absent.
        let (k, says) = found in
        over_grows rs r other
        (g.before.gone other (k, said_before made rs r g.makes_none k other says)
        (none_from old other (sym (kept_all other) ∙ ap is_some absent)));
    each = λ other after kept.
        each_of other after (changed_from change task old new g.changes other after kept);
    groups = λ other after kept.
        groups_of other after (changed_from change task old new g.changes other after kept);
  }
    where
      each_of : (other : ℕ) (after : Kin) → IsFrom change (other ≡ task) old other after
          → IsKinOf (rs ++ r ∷ []) new other after
      each_of other after from =
          kin_moves rs (rs ++ r ∷ []) old new other from.was after moves (no_creation rs r none other)
          (keeps other) (number other from.was from.kept) (how from.how)
          (g.before.each other from.was from.kept)
        where
          how : ((other ≡ task) × change from.was after) ⊎ ((other ≡ task → ⊥) × (from.was ≡ after))
              → ChangesGroups from.was after
          how (inl (same, changed)) = g.rest from.was after changed
          how (inr (apart, same)) =
              let P : Kin → Type 0 = λ k. ChangesGroups from.was k in subst P same (groups_same from.was)

      groups_of : (other : ℕ) (after : Kin) → IsFrom change (other ≡ task) old other after
          → AreGroups (rs ++ r ∷ []) new other after.groups.items
      groups_of other after from = how from.how
        where
          how : ((other ≡ task) × change from.was after) ⊎ ((other ≡ task → ⊥) × (from.was ≡ after))
              → AreGroups (rs ++ r ∷ []) new other after.groups.items
          how (inl (same, changed)) =
              let P : ℕ → Type 0 = λ t. AreGroups (rs ++ r ∷ []) new t after.groups.items in
              subst P (sym same) (g.groups from.was after (ap old (sym same) ∙ from.kept) changed)
          how (inr (apart, same)) =
              let P : Kin → Type 0 = λ k. AreGroups (rs ++ r ∷ []) new other k.groups.items in
              subst P same
              (groups_move rs (rs ++ r ∷ []) old new other from.was.groups.items moves
              (no_creation rs r none other) (keeps other)
              (groups_kept rs r other g.begins (g.only other apart))
              (g.before.groups other from.was from.kept))

-- ---- a taskgroup begins

pub begin_waits : (rs : List Record) (r : Record) (task : ℕ) (old new : ℕ → Option Kin) → HasBegin rs r
    → region r.body ≡ Some (task, Taskgroup, Begin) → ChangesAt BeginsGroup task old new → IsWaitsOf rs old
    → IsWaitsOf (rs ++ r ∷ []) new
begin_waits rs r task old new begins says changes before =
    regroup_waits rs r task BeginsGroup old new (record {
      begins = begins;
      makes_none = region_made task Taskgroup Begin r.body says;
      only = λ other apart e. apart (sym (same_Some task other (sym (ap grouped says) ∙ e)));
      changes = changes;
      rest = λ was after changed. changed.rest;
      before = before;
      number = λ i child kin creates kept. number_early i (at_within creation rs i (task, child) creates);
      groups = groups_here;
    })
  where
    bs : open_groups (rs ++ r ∷ []) task ≡ length rs ∷ open_groups rs task
    bs = groups_begun rs r task says

    number_early : (i : ℕ) → i < length rs
        → number_before (open_groups (rs ++ r ∷ []) task) i ≡ number_before (open_groups rs task) i
    number_early i low =
        ap (λ l. number_before l i) bs ∙ number_past (length rs) (open_groups rs task) i (omega (arith, low))

    no_creations : creation r.body ≡ None
    no_creations = made_none r.body (region_made task Taskgroup Begin r.body says)

    moves' : Moves rs (rs ++ r ∷ [])
    moves' = moves_grows rs r (by_none rs r no_creations)

    back : (number child : ℕ) → IsInGroup (rs ++ r ∷ []) task number child → IsInGroup rs task number child
    back number child (i, creates, is) =
        let here = said_before creation rs r no_creations i (task, child) creates in
        (i, here, sym (number_early i (at_within creation rs i (task, child) here)) ∙ is)

    groups_here : (was after : Kin) → old task ≡ Some was → BeginsGroup was after
        → AreGroups (rs ++ r ∷ []) new task after.groups.items
    groups_here was after kept changed = record {
      as_many =
          let longer = length_push was.groups.items no_tasks in
          ap length changed.groups ∙ longer ∙ ap (λ n. n + 1) were.as_many ∙ one_more ∙ sym (ap length bs);
      each = λ place s at_place.
          of place s
          (pushed_cases was.groups.items no_tasks s place
          (ap (λ (l : List Scope). slice_get l place) (sym changed.groups) ∙ at_place));
    }
      where
        were : AreGroups rs old task was.groups.items
        were = before.groups task was kept

        one_more : length (open_groups rs task) + 1 ≡ length (length rs ∷ open_groups rs task)
        one_more = omega arith

        of : (place : ℕ) (s : Scope)
            → (slice_get was.groups.items place ≡ Some s)
            ⊎ ((place ≡ length was.groups.items) × (no_tasks ≡ s))
            → IsScopeOf (length (rs ++ r ∷ [])) (IsInGroup (rs ++ r ∷ []) task (place + 1)) (is_kept new)
            (IsSettled (rs ++ r ∷ [])) s
        of place s (inl there) =
            scope_same (length rs) (length (rs ++ r ∷ [])) (IsInGroup rs task (place + 1))
            (IsInGroup (rs ++ r ∷ []) task (place + 1)) (is_kept old) (is_kept new) (IsSettled rs)
            (IsSettled (rs ++ r ∷ [])) s (were.each place s there) moves'.longer
            (λ child has. back (place + 1) child has)
            (λ child has. kept_same BeginsGroup task old new changes child)
            (λ child n has late. moves'.settled child n late)
        of place s (inr (last, empty)) =
            let P : Scope → Type 0 =
            λ t.
            IsScopeOf (length (rs ++ r ∷ [])) (IsInGroup (rs ++ r ∷ []) task (place + 1)) (is_kept new)
            (IsSettled (rs ++ r ∷ [])) t in
            subst P empty
            (scope_none (length (rs ++ r ∷ [])) (IsInGroup (rs ++ r ∷ []) task (place + 1)) (is_kept new)
            (IsSettled (rs ++ r ∷ []))
            (λ child has.
            let (i, creates, number) = back (place + 1) child has in
            let most = number_most (open_groups rs task) i in
            let many = were.as_many in
            omega (arith, number, most, many, last)))

-- ---- a taskgroup ends

-- the taskgroup that ends is the innermost one of the task, and all that is counted in it is settled
pub record Ends (rs : List Record) (r : Record) (task begin n : ℕ) (old new : ℕ → Option Kin) : Type 0 where
  pub begins : HasBegin rs r
  pub region_ends : EndsRegion (rs ++ r ∷ []) (length rs) task Taskgroup begin
  pub says : region r.body ≡ Some (task, Taskgroup, End)
  pub changes : ChangesAt (EndsGroup n) task old new
  pub before : IsWaitsOf rs old

module _ (rs : List Record) (r : Record) (task begin n : ℕ) (old new : ℕ → Option Kin)
    (e : Ends rs r task begin n old new) where
  bs : open_groups rs task ≡ begin ∷ open_groups (rs ++ r ∷ []) task
  bs = groups_ended rs r task begin e.region_ends

  falls : IsFalling (length rs) (begin ∷ open_groups (rs ++ r ∷ []) task)
  falls = let P : List ℕ → Type 0 = λ l. IsFalling (length rs) l in subst P bs (groups_falling rs task)

  no_creations : creation r.body ≡ None
  no_creations = made_none r.body (region_made task Taskgroup End r.body e.says)

  moves_end : Moves rs (rs ++ r ∷ [])
  moves_end = moves_grows rs r (by_none rs r no_creations)

  -- of a child created before the taskgroup began
  number_early : (i : ℕ) → i ≤ begin
      → number_before (open_groups rs task) i ≡ number_before (open_groups (rs ++ r ∷ []) task) i
  number_early i low =
      ap (λ l. number_before l i) bs ∙ number_past begin (open_groups (rs ++ r ∷ []) task) i low

  -- of one created in it
  number_late : (i : ℕ) → begin < i
      → number_before (open_groups (rs ++ r ∷ []) task) i ≡ length (open_groups (rs ++ r ∷ []) task)
  number_late i low = number_all begin (open_groups (rs ++ r ∷ []) task) i falls.1 (omega (arith, low))

  number_inside : (i : ℕ) → begin < i
      → number_before (open_groups rs task) i ≡ length (open_groups (rs ++ r ∷ []) task) + 1
  number_inside i low =
      ap (λ l. number_before l i) bs ∙ number_less begin (open_groups (rs ++ r ∷ []) task) i low
      ∙ ap (λ m. m + 1) (number_late i low)

  -- the scopes outside the taskgroup are as many as the other open taskgroups
  outside : (was after : Kin) → old task ≡ Some was → (changed : EndsGroup n was after)
      → length changed.others ≡ length (open_groups (rs ++ r ∷ []) task)
  outside was after kept changed =
      let many = (e.before.groups task was kept).as_many in
      let longer = ap length changed.were ∙ length_push changed.others changed.inner in
      let shorter = ap length bs in
      omega (arith, many, longer, shorter)

  -- what was created in it is settled, and not kept
  inside : (was after : Kin) → old task ≡ Some was → (changed : EndsGroup n was after) → (i child : ℕ)
      → IsCreatedAt rs i task child → begin < i
      → (is_kept old child ≡ false) × IsSettled rs changed.inner.greatest child
  inside was after kept changed i child creates low =
      scope_empty (length rs) (IsInGroup rs task (length changed.others + 1)) (is_kept old) (IsSettled rs)
      changed.inner
      ((e.before.groups task was kept).each (length changed.others) changed.inner
      (ap (λ (l : List Scope). slice_get l (length changed.others)) changed.were
      ∙ get_last changed.others changed.inner (length changed.others) refl))
      changed.none_left child
      (i, creates, number_inside i low ∙ ap (λ m. m + 1) (sym (outside was after kept changed)))

  pub covered : (was after : Kin) → old task ≡ Some was → (changed : EndsGroup n was after) → (i child : ℕ)
      → IsCreatedAt rs i task child → begin < i → IsSettled rs n child
  covered was after kept changed i child creates low =
      settled_rises rs child changed.inner.greatest n changed.greatest
      (inside was after kept changed i child creates low).1

  groups_here : (was after : Kin) → old task ≡ Some was → EndsGroup n was after
      → AreGroups (rs ++ r ∷ []) new task after.groups.items
  groups_here was after kept changed = record {
    as_many = changed.groups.as_many ∙ outside was after kept changed;
    each = λ place s at_place. of place s (changed.groups.each place s at_place);
  }
    where
      cases : (place child : ℕ) → IsInGroup (rs ++ r ∷ []) task (place + 1) child
          → IsInGroup rs task (place + 1) child
          ⊎ ((place + 1 ≡ length changed.others) × (is_kept old child ≡ false)
          × IsSettled rs changed.inner.greatest child)
      cases place child (i, creates, number) =
          let here = said_before creation rs r no_creations i (task, child) creates in
          elim (cases_lt begin i) [
            | inl late ↦
                let (gone, settled) = inside was after kept changed i child here late in
                inr
                (sym number ∙ number_late i late ∙ sym (outside was after kept changed), gone, settled)
            | inr early ↦ inl (i, here, number_early i early ∙ number)
          ]

      was_there : (place : ℕ) (first : Scope) → slice_get changed.others place ≡ Some first
          → IsScopeOf (length rs) (IsInGroup rs task (place + 1)) (is_kept old) (IsSettled rs) first
      was_there place first at_place =
          (e.before.groups task was kept).each place first
          (ap (λ (l : List Scope). slice_get l place) changed.were
          ∙ get_pushed changed.others changed.inner first place at_place)

      grown : (place : ℕ) (s : Scope)
          → IsScopeOf (length rs) (IsInGroup (rs ++ r ∷ []) task (place + 1)) (is_kept old) (IsSettled rs) s
          → IsScopeOf (length (rs ++ r ∷ [])) (IsInGroup (rs ++ r ∷ []) task (place + 1)) (is_kept new)
          (IsSettled (rs ++ r ∷ [])) s
      grown place s is =
          scope_same (length rs) (length (rs ++ r ∷ [])) (IsInGroup (rs ++ r ∷ []) task (place + 1))
          (IsInGroup (rs ++ r ∷ []) task (place + 1)) (is_kept old) (is_kept new) (IsSettled rs)
          (IsSettled (rs ++ r ∷ [])) s is moves_end.longer (λ child has. has)
          (λ child has. kept_same (EndsGroup n) task old new e.changes child)
          (λ child m has late. moves_end.settled child m late)

      of : (place : ℕ) (s : Scope)
          → (first : Scope) × (slice_get changed.others place ≡ Some first)
          × (place + 1 ≡ length changed.others → s ≡ raised changed.inner.greatest first)
          × (place + 1 ≢ length changed.others → s ≡ first)
          → IsScopeOf (length (rs ++ r ∷ [])) (IsInGroup (rs ++ r ∷ []) task (place + 1)) (is_kept new)
          (IsSettled (rs ++ r ∷ [])) s
      of place s (first, at_place, changes, stays) = elim (cases_eq (place + 1) (length changed.others)) [
        | inl here ↦
            let P : Scope → Type 0 =
            λ t.
            IsScopeOf (length (rs ++ r ∷ [])) (IsInGroup (rs ++ r ∷ []) task (place + 1)) (is_kept new)
            (IsSettled (rs ++ r ∷ [])) t in
            subst P (sym (changes here))
            (grown place (raised changed.inner.greatest first)
            (scope_raise (length rs) (IsInGroup rs task (place + 1))
            (IsInGroup (rs ++ r ∷ []) task (place + 1)) (is_kept old) (IsSettled rs) first
            changed.inner.greatest (was_there place first at_place) (settled_rises rs)
            (λ child has. merged (cases place child has))))
        | inr apart ↦
            let P : Scope → Type 0 =
            λ t.
            IsScopeOf (length (rs ++ r ∷ [])) (IsInGroup (rs ++ r ∷ []) task (place + 1)) (is_kept new)
            (IsSettled (rs ++ r ∷ [])) t in
            subst P (sym (stays apart))
            (grown place first
            (scope_same (length rs) (length rs) (IsInGroup rs task (place + 1))
            (IsInGroup (rs ++ r ∷ []) task (place + 1)) (is_kept old) (is_kept old) (IsSettled rs)
            (IsSettled rs) first (was_there place first at_place) (omega arith)
            (λ child has. only apart (cases place child has)) (λ child has. refl)
            (λ child m has late. late)))
      ]
        where
          merged : {child : ℕ}
              → IsInGroup rs task (place + 1) child
              ⊎ ((place + 1 ≡ length changed.others) × (is_kept old child ≡ false)
              × IsSettled rs changed.inner.greatest child)
              → IsInGroup rs task (place + 1) child
              ⊎ ((is_kept old child ≡ false) × IsSettled rs changed.inner.greatest child)
          merged (inl has) = inl has
          merged (inr (last, gone, settled)) = inr (gone, settled)

          only : {child : ℕ} → place + 1 ≢ length changed.others
              → IsInGroup rs task (place + 1) child
              ⊎ ((place + 1 ≡ length changed.others) × (is_kept old child ≡ false)
              × IsSettled rs changed.inner.greatest child)
              → IsInGroup rs task (place + 1) child
          only apart (inl has) = has
          only apart (inr (last, gone, settled)) = absurd (apart last)

  pub end_waits : (was : Kin) → old task ≡ Some was → IsWaitsOf (rs ++ r ∷ []) new
  end_waits was kept =
      regroup_waits rs r task (EndsGroup n) old new (record {
        begins = e.begins;
        makes_none = region_made task Taskgroup End r.body e.says;
        only = λ other apart is. apart (sym (same_Some task other (sym (ap grouped e.says) ∙ is)));
        changes = e.changes;
        rest = λ before after changed. changed.rest;
        before = e.before;
        number = number_kept;
        groups = groups_here;
      })
    where
      number_kept : (i child : ℕ) (kin : Kin) → IsCreatedAt rs i task child → old child ≡ Some kin
          → number_before (open_groups (rs ++ r ∷ []) task) i ≡ number_before (open_groups rs task) i
      number_kept i child kin creates there = elim (cases_lt begin i) [
        | inl late ↦
            let (after, now, changed) = e.changes.present was kept in
            let gone = (inside was after kept changed i child creates late).0 in
            absurd (false≢true (sym gone ∙ ap is_some there))
        | inr early ↦ sym (number_early i early)
      ]
