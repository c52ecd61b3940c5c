-- What stays of one task where the records grow, or what is kept of another one changes.
use Rattle.std.proofs.Common.{◌≡◌, ◌∙◌, ℕ, ◌≤◌, ◌+◌, List, [], ◌∷◌, ◌++◌, length}
use Rattle.std.proofs.Common.{Option, Some, refl, sym, ap, subst, arith}
use Rattle.std.proofs.lemmas.List.{length_push}
use Rattle.ompt_events.specs.declared.records.Record.{Record}
use Rattle.ompt_events.specs.Records.{creation}
use Rattle.ompt_events.specs.Tree.{IsCreatedAt, IsParent, IsExplicit}
use Rattle.ompt_events.proofs.RecordLemmas.{created_at_creation, creation_at_created}
use Rattle.online.specs.declared.scope.Scope.{Scope}
use Rattle.online.specs.declared.kin.Kin.{Kin}
use Rattle.online.specs.Waits.{IsCompleteBelow, IsSettled, IsOver, IsScopeOf, ChangesGroups, is_kept}
use Rattle.online.specs.Waits.{is_going}
use Rattle.online.specs.Waits.{KeepsPlace, open_groups, number_before, IsInGroup, AreGroups, IsPlaceOf}
use Rattle.online.specs.Waits.{IsKinOf}
use Rattle.online.proofs.ScopeLemmas.{scope_same}
use Rattle.online.proofs.GrowLemmas.{said_grows, over_grows, complete_grows, complete_rises, settled_grows}
use Rattle.online.proofs.GrowLemmas.{IsByLive}

-- what the records rs say, the records more say
pub record Moves (rs more : List Record) : Type 0 where
  pub longer : length rs ≤ length more
  pub creates : (i parent task : ℕ) → IsCreatedAt rs i parent task → IsCreatedAt more i parent task
  pub over : (task : ℕ) → IsOver rs task → IsOver more task
  pub complete : (task n : ℕ) → IsCompleteBelow rs n task → IsCompleteBelow more n task
  pub settled : (task n : ℕ) → IsSettled rs n task → IsSettled more n task

pub moves_same : (rs : List Record) → Moves rs rs
moves_same rs = record {
  longer = omega arith;
  creates = λ i parent task creates. creates;
  over = λ task is. is;
  complete = λ task n is. is;
  settled = λ task n is. is;
}

pub moves_grows : (rs : List Record) (r : Record) → IsByLive rs r → Moves rs (rs ++ r ∷ [])
moves_grows rs r live = record {
  longer = let e = length_push rs r in omega (arith, e);
  creates = λ i parent task creates. said_grows creation rs r i (parent, task) creates;
  over = λ task is. over_grows rs r task is;
  complete = λ task n is. complete_grows rs r task n is;
  settled = λ task n is. settled_grows rs r live task n is;
}

-- nothing more is said of the creation of a task, and of those that it creates
pub record SaysNoMore (rs more : List Record) (task : ℕ) : Type 0 where
  pub own : (i parent : ℕ) → IsCreatedAt more i parent task → IsCreatedAt rs i parent task
  pub kids : (i child : ℕ) → IsCreatedAt more i task child → IsCreatedAt rs i task child

-- the same children are kept, and the same are not complete
pub record KeepsChildren (rs : List Record) (task : ℕ) (old new : ℕ → Option Kin) : Type 0 where
  pub kept : (child : ℕ) → IsParent rs task child → is_kept new child ≡ is_kept old child
  pub going : (child : ℕ) → IsParent rs task child → is_going new child ≡ is_going old child

-- the parent has the same taskgroups, as far as the creation of the task goes
abbrev pub KeepsNumber : List Record → List Record → ℕ → (ℕ → Option Kin) → (ℕ → Option Kin) → Type 0
KeepsNumber rs more task old new =
    (i parent : ℕ) (above : Kin) → IsCreatedAt rs i parent task → new parent ≡ Some above
    → ((was : Kin) × (old parent ≡ Some was))
    × (number_before (open_groups more parent) i ≡ number_before (open_groups rs parent) i)

pub explicit_back : (rs more : List Record) (task : ℕ)
    → ((i parent : ℕ) → IsCreatedAt more i parent task → IsCreatedAt rs i parent task)
    → IsExplicit more task → IsExplicit rs task
explicit_back rs more task own (i, creates) =
    let (parent, by) = created_at_creation task more i creates in
    (i, creation_at_created parent task rs i (own i parent by))

-- what is counted of a task has no smaller length behind a change, and the task is as it was
pub record KeepsSelf (was after : Kin) : Type 0 where
  pub place : KeepsPlace was after
  pub done : after.done ≡ was.done
  pub greatest : was.family.greatest ≤ after.family.greatest

pub place_moves : (rs more : List Record) (old new : ℕ → Option Kin) (task : ℕ) (was after : Kin)
    → Moves rs more
    → ((i parent : ℕ) → IsCreatedAt more i parent task → IsCreatedAt rs i parent task)
    → KeepsNumber rs more task old new → KeepsSelf was after → IsPlaceOf rs old task was
    → IsPlaceOf more new task after
place_moves rs more old new task was after moves own number same is = record {
  created = λ i parent creates. same.place.parent ∙ is.created i parent (own i parent creates);
  parent = λ parent e.
      let ((i, creates), apart) = is.parent parent (sym same.place.parent ∙ e) in
      ((i, moves.creates i parent task creates), apart);
  group = λ i parent above creates kept.
      let here = own i parent creates in
      let ((before, kept_before), numbers) = number i parent above here kept in
      same.place.group ∙ is.group i parent before here kept_before ∙ sym numbers;
  over = λ done. moves.over task (is.over (sym same.done ∙ done));
  complete = λ done explicit.
      complete_rises more task was.family.greatest after.family.greatest same.greatest
      (moves.complete task was.family.greatest
      (is.complete (sym same.done ∙ done) (explicit_back rs more task own explicit)));
}

pub family_moves : (rs more : List Record) (old new : ℕ → Option Kin) (task : ℕ) (s : Scope)
    → Moves rs more
    → ((i child : ℕ) → IsCreatedAt more i task child → IsCreatedAt rs i task child)
    → ((child : ℕ) → IsParent rs task child → is_kept new child ≡ is_kept old child)
    → IsScopeOf (length rs) (IsParent rs task) (is_kept old) (IsSettled rs) s
    → IsScopeOf (length more) (IsParent more task) (is_kept new) (IsSettled more) s
family_moves rs more old new task s moves kids keeps is =
    scope_same (length rs) (length more) (IsParent rs task) (IsParent more task) (is_kept old) (is_kept new)
    (IsSettled rs) (IsSettled more) s is moves.longer back
    (λ child created. keeps child (back child created)) (λ child n created. moves.settled child n)
  where
    back : (child : ℕ) → IsParent more task child → IsParent rs task child
    back child (i, creates) = (i, kids i child creates)

pub children_move : (rs more : List Record) (old new : ℕ → Option Kin) (task : ℕ) (s : Scope)
    → Moves rs more
    → ((i child : ℕ) → IsCreatedAt more i task child → IsCreatedAt rs i task child)
    → ((child : ℕ) → IsParent rs task child → is_going new child ≡ is_going old child)
    → IsScopeOf (length rs) (IsParent rs task) (is_going old) (IsCompleteBelow rs) s
    → IsScopeOf (length more) (IsParent more task) (is_going new) (IsCompleteBelow more) s
children_move rs more old new task s moves kids keeps is =
    scope_same (length rs) (length more) (IsParent rs task) (IsParent more task) (is_going old) (is_going new)
    (IsCompleteBelow rs) (IsCompleteBelow more) s is moves.longer back
    (λ child created. keeps child (back child created)) (λ child n created. moves.complete child n)
  where
    back : (child : ℕ) → IsParent more task child → IsParent rs task child
    back child (i, creates) = (i, kids i child creates)

pub groups_same : (was : Kin) → ChangesGroups was was
groups_same was = record {
  place = record { parent = refl; group = refl };
  done = refl;
  family = refl;
  children = refl;
}

pub kin_moves : (rs more : List Record) (old new : ℕ → Option Kin) (task : ℕ) (was after : Kin)
    → Moves rs more → SaysNoMore rs more task → KeepsChildren rs task old new
    → KeepsNumber rs more task old new → ChangesGroups was after → IsKinOf rs old task was
    → IsKinOf more new task after
kin_moves rs more old new task was after moves no_more keeps number same is = record {
  place =
      place_moves rs more old new task was after moves no_more.own number
      (record {
        place = same.place;
        done = same.done;
        greatest = let e = ap (λ (s : Scope). s.greatest) same.family in omega (arith, e);
      })
      is.place;
  family =
      let P : Scope → Type 0 =
      λ s. IsScopeOf (length more) (IsParent more task) (is_kept new) (IsSettled more) s in
      subst P (sym same.family)
      (family_moves rs more old new task was.family moves no_more.kids keeps.kept is.family);
  children =
      let P : Scope → Type 0 =
      λ s. IsScopeOf (length more) (IsParent more task) (is_going new) (IsCompleteBelow more) s in
      subst P (sym same.children)
      (children_move rs more old new task was.children moves no_more.kids keeps.going is.children);
}

pub groups_move : (rs more : List Record) (old new : ℕ → Option Kin) (task : ℕ) (groups : List Scope)
    → Moves rs more → SaysNoMore rs more task → KeepsChildren rs task old new
    → open_groups more task ≡ open_groups rs task → AreGroups rs old task groups
    → AreGroups more new task groups
groups_move rs more old new task groups moves no_more keeps same is = record {
  as_many = is.as_many ∙ ap length (sym same);
  each = λ place s at_place.
      scope_same (length rs) (length more) (IsInGroup rs task (place + 1)) (IsInGroup more task (place + 1))
      (is_kept old) (is_kept new) (IsSettled rs) (IsSettled more) s (is.each place s at_place) moves.longer
      (λ child has. back (place + 1) child has)
      (λ child has. let (i, creates, number) = has in keeps.kept child (i, no_more.kids i child creates))
      (λ child n has. moves.settled child n);
}
  where
    back : (number child : ℕ) → IsInGroup more task number child → IsInGroup rs task number child
    back number child (i, creates, is') =
        (i, no_more.kids i child creates, ap (λ bs. number_before bs i) (sym same) ∙ is')
