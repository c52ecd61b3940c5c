-- Records in another order: the tree of tasks, dependences and teams.
use Rattle.std.proofs.Common.{◌≡◌, ◌∙◌, ℕ, List, length, Some, None, true, sym, ap, subst, arith, inl, inr}
use Rattle.std.specs.Prelude.{if◌then◌else◌, ◌==◌, slice_get, option_and_then, is_some, filter, Contains}
use Rattle.std.specs.List.{range_with_len, filter_map}
use Rattle.ompt_events.specs.declared.records.Record.{Record}
use Rattle.ompt_events.specs.declared.records.Membership.{Membership}
use Rattle.ompt_events.specs.declared.deps.Dep.{Dep}
use Rattle.ompt_events.specs.Records.{begun_root, begun_initial, created, creation, joined, dependences}
use Rattle.ompt_events.specs.Places.{at, is_own, own_before}
use Rattle.ompt_events.specs.Tree.{IsRoot, IsExplicit, IsCreatedAt, IsRooted, root, child, IsDescendant}
use Rattle.ompt_events.specs.Tree.{deeper, child_at, children_before, children, IsChild, HasPath, top, below}
use Rattle.ompt_events.specs.Dependences.{DependsOn, IsPredecessor}
use Rattle.ompt_events.specs.Teams.{members_before, members, IsMember, IsInitial, IsTeammate, alone, together}
use Rattle.ompt_events.specs.Coverage.{IsFamily}
use Rattle.ompt_events.proofs.PlaceLemmas.{some_within}
use Rattle.task_tree.proofs.RisingListLemmas.{filter_in, IsCut, IsSameTest, cut_at, cut_places}
use Rattle.task_tree.proofs.RisingListLemmas.{filter_map-map, filter_map-filter}
use Rattle.task_tree.proofs.BlindLemmas.{blind_begun_initial, blind_begun_root, blind_created, blind_creation}
use Rattle.task_tree.proofs.BlindLemmas.{blind_dependences, blind_joined}
use Rattle.task_tree.proofs.RenamedPlaceLemmas.{IsReordered, same_at, moved_at, own_within, past_cut}
use Rattle.task_tree.proofs.RenamedPlaceLemmas.{DoMembersRise, own_before_cut, own_in, reordered_back}

-- ---- the tree

same_child : {rs ss : List Record} {to back : ℕ → ℕ} → IsReordered rs ss to back → (parent i : ℕ)
    → is_own rs parent i ≡ true → child_at ss parent (to i) ≡ child_at rs parent i
same_child {rs} r parent i own =
    ap (option_and_then (λ (p : ℕ × ℕ). if p.0 == parent then Some p.1 else None))
    (same_at creation blind_creation r i (own_within rs parent i own))

pub children_cut : {rs ss : List Record} {to back : ℕ → ℕ} → IsReordered rs ss to back → (parent n m : ℕ)
    → IsCut (is_own rs parent) to n m → children_before ss parent m ≡ children_before rs parent n
children_cut {rs} {ss} {to} r parent n m cut =
    ap (filter_map (child_at ss parent)) (own_before_cut r parent n m cut)
    ∙ filter_map-map to (child_at ss parent) (child_at rs parent) (own_before rs parent n)
    (λ i is. same_child r parent i (own_in rs parent n i is))

pub same_children : {rs ss : List Record} {to back : ℕ → ℕ} → IsReordered rs ss to back → (parent : ℕ)
    → children ss parent ≡ children rs parent
same_children {rs} {ss} r parent =
    children_cut r parent (length rs) (length ss)
    (past_cut r parent (length rs) (length ss) (omega arith) (omega arith))

pub moved_root : {rs ss : List Record} {to back : ℕ → ℕ} → IsReordered rs ss to back → (task : ℕ)
    → IsRoot rs task → IsRoot ss task
moved_root {to = to} r task (i, says) = (to i, moved_at begun_root blind_begun_root task r i says)

pub moved_explicit : {rs ss : List Record} {to back : ℕ → ℕ} → IsReordered rs ss to back → (task : ℕ)
    → IsExplicit rs task → IsExplicit ss task
moved_explicit {to = to} r task (i, says) = (to i, moved_at created blind_created task r i says)

pub moved_creation : {rs ss : List Record} {to back : ℕ → ℕ} → IsReordered rs ss to back → (i parent task : ℕ)
    → IsCreatedAt rs i parent task → IsCreatedAt ss (to i) parent task
moved_creation r i parent task says = moved_at creation blind_creation (parent, task) r i says

pub moved_rooted : {rs ss : List Record} {to back : ℕ → ℕ} → IsReordered rs ss to back → (task : ℕ)
    → IsRooted rs task → IsRooted ss task
moved_rooted r task (root is) = root (moved_root r task is)
moved_rooted {to = to} r task (child i {parent = parent} creates above) =
    child (to i) (moved_creation r i parent task creates) (moved_rooted r parent above)

pub moved_descendant : {rs ss : List Record} {to back : ℕ → ℕ} → IsReordered rs ss to back
    → (ancestor task : ℕ) → IsDescendant rs ancestor task → IsDescendant ss ancestor task
moved_descendant {to = to} r ancestor task (child i creates) =
    child (to i) (moved_creation r i ancestor task creates)
moved_descendant {to = to} r ancestor task (deeper i {parent = parent} above creates) =
    deeper (to i) (moved_descendant r ancestor parent above) (moved_creation r i parent task creates)

pub moved_family : {rs ss : List Record} {to back : ℕ → ℕ} → IsReordered rs ss to back → (elder task : ℕ)
    → IsFamily rs elder task → IsFamily ss elder task
moved_family r elder task (inl same) = inl same
moved_family r elder task (inr is) = inr (moved_descendant r elder task is)

pub moved_child : {rs ss : List Record} {to back : ℕ → ℕ} → IsReordered rs ss to back
    → (parent number task : ℕ) → IsChild rs parent number task → IsChild ss parent number task
moved_child r parent number task is = ap (λ l. slice_get l number) (same_children r parent) ∙ is

pub moved_path : {rs ss : List Record} {to back : ℕ → ℕ} → IsReordered rs ss to back
    → (first task : ℕ) (path : List ℕ) → HasPath rs first task path → HasPath ss first task path
moved_path r first task path (top is) = top (moved_root r first is)
moved_path r first task path (below number {parent = parent} {path = above} stands is) =
    below number (moved_path r first parent above stands) (moved_child r parent number task is)

-- ---- dependences

pub moved_depends : {rs ss : List Record} {to back : ℕ → ℕ} → IsReordered rs ss to back
    → (task : ℕ) (dep : Dep) → DependsOn rs task dep → DependsOn ss task dep
moved_depends {to = to} r task dep (i, list, says, has) =
    (to i, list, moved_at dependences blind_dependences (task, list) r i says, has)

pub moved_predecessor : {rs ss : List Record} {to back : ℕ → ℕ} → IsReordered rs ss to back
    → (task predecessor : ℕ) → IsPredecessor rs task predecessor → IsPredecessor ss task predecessor
moved_predecessor r task predecessor is = record {
  parent = is.parent;
  number = is.number;
  is_child = moved_child r is.parent is.number task is.is_child;
  earlier = is.earlier;
  sibling = moved_child r is.parent is.earlier predecessor is.sibling;
  smaller = is.smaller;
  item = is.item;
  depends = moved_depends r task is.item is.depends;
  other = is.other;
  other_depends = moved_depends r predecessor is.other is.other_depends;
  same_location = is.same_location;
  conflicting = is.conflicting;
}

-- ---- teams

member_test : {rs ss : List Record} {to back : ℕ → ℕ} → IsReordered rs ss to back → DoMembersRise rs to
    → IsSameTest (λ i. is_some (at joined rs i)) (λ j. is_some (at joined ss j)) to back
member_test {rs} {ss} r rise = record {
  kept = λ k says. ap is_some (same_at joined blind_joined r k (some_within joined rs k says)) ∙ says;
  given =
      λ j says.
      ap is_some (same_at joined blind_joined (reordered_back r) j (some_within joined ss j says)) ∙ says;
  to_back = λ j says. r.to_back j (some_within joined ss j says);
  rises = rise;
}

members_cut : {rs ss : List Record} {to back : ℕ → ℕ} → IsReordered rs ss to back → DoMembersRise rs to
    → (parallel n m : ℕ)
    → IsCut (λ i. is_some (at joined rs i)) to n m
    → members_before ss parallel m ≡ members_before rs parallel n
members_cut {rs} {ss} {to} r rise parallel n m cut =
    ap (filter (λ (e : Membership). e.parallel == parallel)) (
    sym (filter_map-filter (at joined ss) (range_with_len 0 m))
    ∙ ap (filter_map (at joined ss)) (cut_places (member_test r rise) n m cut)
    ∙ filter_map-map to (at joined ss) (at joined rs)
    (filter (λ i. is_some (at joined rs i)) (range_with_len 0 n))
    (λ i is.
    same_at joined blind_joined r i
    (some_within joined rs i
    (filter_in (λ i. is_some (at joined rs i)) i (range_with_len 0 n) is).1))
    ∙ filter_map-filter (at joined rs) (range_with_len 0 n)
    )

-- the members that begin before a member
pub same_members_before : {rs ss : List Record} {to back : ℕ → ℕ} → IsReordered rs ss to back
    → DoMembersRise rs to → (parallel i : ℕ) → is_some (at joined rs i) ≡ true
    → members_before ss parallel (to i) ≡ members_before rs parallel i
same_members_before {to = to} r rise parallel i says =
    members_cut r rise parallel i (to i) (cut_at (member_test r rise) i says)

pub same_members : {rs ss : List Record} {to back : ℕ → ℕ} → IsReordered rs ss to back → DoMembersRise rs to
    → (parallel : ℕ) → members ss parallel ≡ members rs parallel
same_members {rs} {ss} r rise parallel = members_cut r rise parallel (length rs) (length ss) (record {
  forth = λ k says below. r.to_within k (some_within joined rs k says);
  back = λ k says below. some_within joined rs k says;
})

pub moved_member : {rs ss : List Record} {to back : ℕ → ℕ} → IsReordered rs ss to back → (task : ℕ)
    → IsMember rs task → IsMember ss task
moved_member {to = to} r task (i, m, says, same) = (to i, m, moved_at joined blind_joined m r i says, same)

pub moved_initial : {rs ss : List Record} {to back : ℕ → ℕ} → IsReordered rs ss to back → (task : ℕ)
    → IsInitial rs task → IsInitial ss task
moved_initial {to = to} r task (i, says) = (to i, moved_at begun_initial blind_begun_initial task r i says)

pub moved_teammate : {rs ss : List Record} {to back : ℕ → ℕ} → IsReordered rs ss to back
    → DoMembersRise rs to → (task other : ℕ) → IsTeammate rs task other → IsTeammate ss task other
moved_teammate r rise task other (alone is) = alone (moved_initial r task is)
moved_teammate {rs} {ss} r rise task other (together parallel own mate has_own same has_mate) =
    together parallel own mate (kept own has_own) same (kept mate has_mate)
  where
    kept : (m : Membership) → Contains (members rs parallel) m → Contains (members ss parallel) m
    kept m has =
        let P : List Membership → Type 0 = λ l. Contains l m in
        subst P (sym (same_members r rise parallel)) has
