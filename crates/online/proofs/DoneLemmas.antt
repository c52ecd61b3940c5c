-- What is kept where a task is complete, or ends as a root.
use Rattle.std.proofs.Common.{◌≡◌, ◌≢◌, ◌∙◌, ℕ, ◌+◌, true, false, List, length, Option, Some}
use Rattle.std.proofs.Common.{refl, sym, ap, subst, arith, inl, inr, ◌⊎◌}
use Rattle.std.specs.Prelude.{is_some, not}
use Rattle.std.proofs.lemmas.Bool.{cases_eq}
use Rattle.std.proofs.lemmas.Option.{same_Some}
use Rattle.ompt_events.specs.declared.records.Record.{Record}
use Rattle.ompt_events.specs.Tree.{IsCreatedAt, IsParent, IsExplicit}
use Rattle.ompt_events.proofs.PlaceLemmas.{some_of}
use Rattle.ompt_events.proofs.RecordLemmas.{creation_at_created}
use Rattle.online.specs.declared.scope.Scope.{Scope}
use Rattle.online.specs.declared.kin.Kin.{Kin}
use Rattle.online.specs.Waits.{ChangesAt, ChangesAbove, CompletesChild, Completes}
use Rattle.online.specs.Waits.{is_kept, is_going, IsScopeOf, IsSettled, IsCompleteBelow, IsOver}
use Rattle.online.specs.Waits.{KeepsTold, AreGroups, IsInGroup, IsKinOf, IsWaitsOf}
use Rattle.online.proofs.ScopeLemmas.{scope_same, scope_leave, scope_raise}
use Rattle.online.proofs.GrowLemmas.{complete_rises, settled_rises}
use Rattle.online.proofs.ViewLemmas.{IsFrom, above_from, kept_same, kept_above, going_above}
use Rattle.online.proofs.ViewLemmas.{going_other, going_of, none_from}
use Rattle.online.proofs.KinLemmas.{moves_same, KeepsNumber, SaysNoMore, groups_same}
use Rattle.online.proofs.KinLemmas.{place_moves, family_moves, children_move, kin_moves}

-- nothing more is said by the same records
pub says_same : (rs : List Record) (task : ℕ) → SaysNoMore rs rs task
says_same rs task = record { own = λ i parent creates. creates; kids = λ i child creates. creates }

-- of who is kept the same is kept of whoever is a parent
pub number_same : (rs : List Record) (task : ℕ) (old new : ℕ → Option Kin)
    → ((other : ℕ) (after : Kin) → new other ≡ Some after → (was : Kin) × (old other ≡ Some was))
    → KeepsNumber rs rs task old new
number_same rs task old new back i parent above creates kept = (back parent above kept, refl)

-- a task of which something is kept is complete by these records, from the length on, or ends as a root: what
-- is kept before it, with it, and behind it
pub record Finishes (rs : List Record) (task n : ℕ) (old marked new : ℕ → Option Kin) (was : Kin)
    : Type 0 where
  pub found : old task ≡ Some was
  pub going : was.done ≡ false
  pub over : IsOver rs task
  pub complete : IsExplicit rs task → IsCompleteBelow rs n task
  pub marks : ChangesAt (Completes n) task old marked
  pub above : ChangesAbove (CompletesChild n) was.parent marked new
  pub before : IsWaitsOf rs old

module _ (rs : List Record) (task n : ℕ) (old marked new : ℕ → Option Kin) (was : Kin)
    (f : Finishes rs task n old marked new was) where
  is : IsKinOf rs old task was
  is = f.before.each task was f.found

  pub kept_all : (other : ℕ) → is_kept new other ≡ is_kept old other
  kept_all other =
      kept_above (CompletesChild n) was.parent marked new f.above other
      ∙ kept_same (Completes n) task old marked f.marks other

  going_above_same : (other : ℕ) → is_going new other ≡ is_going marked other
  going_above_same other =
      going_above (CompletesChild n) was.parent marked new f.above (λ before after h. h.done) other

  going_apart : (other : ℕ) → other ≢ task → is_going new other ≡ is_going old other
  going_apart other apart =
      going_above_same other ∙ going_other (Completes n) task old marked f.marks other apart

  going_was : is_going old task ≡ true
  going_was = going_of old task was f.found ∙ ap not f.going

  going_here : is_going new task ≡ false
  going_here =
      let (then, there, changed) = f.marks.present was f.found in
      going_above_same task ∙ going_of marked task then there ∙ ap not changed.done

  -- the task is a child of its own parent alone
  parents_apart : (other : ℕ) → was.parent ≢ Some other → (child : ℕ) → IsParent rs other child → child ≢ task
  parents_apart other apart child (i, creates) same =
      let P : ℕ → Type 0 = λ t. IsCreatedAt rs i other t in
      apart (is.place.created i other (subst P same creates))

  no_loop : was.parent ≢ Some task
  no_loop e = (is.place.parent task e).1 refl

  back : (other : ℕ) (after : Kin) → new other ≡ Some after → (before : Kin) × (old other ≡ Some before)
  back other after kept = some_of (old other) (sym (kept_all other) ∙ ap is_some kept)

  -- ---- whose entry it is

  data Whose (other : ℕ) (after : Kin) : Type 0 where
    parents : (before : Kin) → was.parent ≡ Some other → old other ≡ Some before
        → CompletesChild n before after → Whose other after
    own : other ≡ task → Completes n was after → Whose other after
    others : other ≢ task → was.parent ≢ Some other → old other ≡ Some after → Whose other after

  whose : (other : ℕ) (after : Kin) → new other ≡ Some after → Whose other after
  whose other after kept = of (above_from (CompletesChild n) was.parent marked new f.above other after kept)
    where
      of : IsFrom (CompletesChild n) (was.parent ≡ Some other) marked other after → Whose other after
      of from = by from.how
        where
          by : ((was.parent ≡ Some other) × CompletesChild n from.was after)
              ⊎ ((was.parent ≡ Some other → ⊥) × (from.was ≡ after)) → Whose other after
          by (inl (above, changed)) =
              let apart : other ≢ task = (is.place.parent other above).1 in
              parents from.was above (sym (f.marks.others other apart) ∙ from.kept) changed
          by (inr (apart, same)) = elim (cases_eq other task) [
            | inl here ↦
                let (then, there, changed) = f.marks.present was f.found in
                let e : then ≡ after =
                same_Some then from.was (sym there ∙ ap marked (sym here) ∙ from.kept) ∙ same in
                let P : Kin → Type 0 = λ k. Completes n was k in
                own here (subst P e changed)
            | inr away ↦
                others away apart (sym (f.marks.others other away) ∙ from.kept ∙ ap Some same)
          ]

  pub told_before : (other : ℕ) (after : Kin) → new other ≡ Some after
      → (before : Kin) × (old other ≡ Some before) × (before.parent ≡ after.parent) × KeepsTold before after
  told_before other after kept = of (whose other after kept)
    where
      of : Whose other after
          → (before : Kin) × (old other ≡ Some before) × (before.parent ≡ after.parent)
          × KeepsTold before after
      of (parents before above there changed) = (before, there, sym changed.place.parent, changed.told)
      of (own same changed) = (was, ap old same ∙ f.found, sym changed.place.parent, changed.told)
      of (others away apart there) =
          (after, there, refl, record { team = refl; parent_team = refl; phase = refl; barriers = refl })

  -- ---- the parent, and the task itself

  parent_kin : (other : ℕ) (before after : Kin) → was.parent ≡ Some other → old other ≡ Some before
      → CompletesChild n before after → IsKinOf rs new other after
  parent_kin other before after above kept changed = record {
    place =
        place_moves rs rs old new other before after (moves_same rs) (λ i parent creates. creates)
        (number_same rs other old new back)
        (record {
          place = changed.place;
          done = changed.done;
          greatest = let e = ap (λ (s : Scope). s.greatest) changed.family in omega (arith, e);
        })
        (f.before.each other before kept).place;
    family =
        let P : Scope → Type 0 =
        λ s. IsScopeOf (length rs) (IsParent rs other) (is_kept new) (IsSettled rs) s in
        subst P (sym changed.family)
        (family_moves rs rs old new other before.family (moves_same rs) (λ i child creates. creates)
        (λ child created. kept_all child) (f.before.each other before kept).family);
    children =
        let P : Scope → Type 0 =
        λ s. IsScopeOf (length rs) (IsParent rs other) (is_going new) (IsCompleteBelow rs) s in
        let ((i, creates), apart) = is.place.parent other above in
        subst P (sym changed.children)
        (scope_leave (length rs) (IsParent rs other) (is_going old) (is_going new) (IsCompleteBelow rs)
        before.children task n (f.before.each other before kept).children (complete_rises rs) (i, creates)
        going_was going_here (f.complete (i, creation_at_created other task rs i creates))
        (λ child created away. going_apart child away));
  }

  own_kin : (after : Kin) → Completes n was after → IsKinOf rs new task after
  own_kin after changed = record {
    place = record {
      created = λ i parent creates. changed.place.parent ∙ is.place.created i parent creates;
      parent = λ parent e. is.place.parent parent (sym changed.place.parent ∙ e);
      group = λ i parent above creates kept.
          let (before, there) = back parent above kept in
          changed.place.group ∙ is.place.group i parent before creates there;
      over = λ done. f.over;
      complete = λ done explicit.
          let e = ap (λ (s : Scope). s.greatest) changed.family in
          complete_rises rs task n after.family.greatest (omega (arith, e)) (f.complete explicit);
    };
    family =
        let P : Scope → Type 0 =
        λ s. IsScopeOf (length rs) (IsParent rs task) (is_kept new) (IsSettled rs) s in
        subst P (sym changed.family)
        (scope_raise (length rs) (IsParent rs task) (IsParent rs task) (is_kept new) (IsSettled rs)
        was.family n
        (family_moves rs rs old new task was.family (moves_same rs) (λ i child creates. creates)
        (λ child created. kept_all child) is.family)
        (settled_rises rs) (λ child created. inl created));
    children =
        let P : Scope → Type 0 =
        λ s. IsScopeOf (length rs) (IsParent rs task) (is_going new) (IsCompleteBelow rs) s in
        subst P (sym changed.children)
        (children_move rs rs old new task was.children (moves_same rs) (λ i child creates. creates)
        (λ child created. going_apart child (parents_apart task no_loop child created)) is.children);
  }

  -- ---- the taskgroups

  same_groups : (other : ℕ) (groups : List Scope) → AreGroups rs old other groups
      → AreGroups rs new other groups
  same_groups other groups are = record {
    as_many = are.as_many;
    each = λ place s at_place.
        scope_same (length rs) (length rs) (IsInGroup rs other (place + 1)) (IsInGroup rs other (place + 1))
        (is_kept old) (is_kept new) (IsSettled rs) (IsSettled rs) s (are.each place s at_place) (omega arith)
        (λ child has. has) (λ child has. kept_all child) (λ child m has late. late);
  }

  pub finish_waits : IsWaitsOf rs new
  finish_waits = record {
    made = λ other after kept.
        let (before, there) = back other after kept in f.before.made other before there;
    gone = λ other found absent.
        f.before.gone other found (none_from old other (sym (kept_all other) ∙ ap is_some absent));
    each = λ other after kept. each_of other after (whose other after kept);
    groups = λ other after kept. groups_of other after (whose other after kept);
  }
    where
      each_of : (other : ℕ) (after : Kin) → Whose other after → IsKinOf rs new other after
      each_of other after (parents before above kept changed) =
          parent_kin other before after above kept changed
      each_of other after (own same changed) =
          let P : ℕ → Type 0 = λ t. IsKinOf rs new t after in
          subst P (sym same) (own_kin after changed)
      each_of other after (others away apart kept) =
          kin_moves rs rs old new other after after (moves_same rs) (says_same rs other)
          (record {
            kept = λ child created. kept_all child;
            going = λ child created. going_apart child (parents_apart other apart child created);
          })
          (number_same rs other old new back) (groups_same after) (f.before.each other after kept)

      groups_of : (other : ℕ) (after : Kin) → Whose other after → AreGroups rs new other after.groups.items
      groups_of other after (parents before above kept changed) =
          let P : List Scope → Type 0 = λ gs. AreGroups rs new other gs in
          subst P (sym changed.groups)
          (same_groups other before.groups.items (f.before.groups other before kept))
      groups_of other after (own same changed) =
          let P : ℕ → Type 0 = λ t. AreGroups rs new t after.groups.items in
          let Q : List Scope → Type 0 = λ gs. AreGroups rs new task gs in
          subst P (sym same)
          (subst Q (sym changed.groups)
          (same_groups task was.groups.items (f.before.groups task was f.found)))
      groups_of other after (others away apart kept) =
          same_groups other after.groups.items (f.before.groups other after kept)
