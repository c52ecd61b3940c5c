-- Entries that share no credit, and what a live task's value would still enter.
use Rattle.std.proofs.Common.{ℕ, ◌≡◌, ◌≢◌, ◌∙◌, ◌++◌, ◌∷◌, [], List, Bool, true, false, refl, sym, ap}
use Rattle.std.proofs.Common.{subst, inl, inr, length, replicate}
use Rattle.std.specs.Prelude.{◌==◌, ◌||◌}
use Rattle.std.proofs.lemmas.Bool.{cases_Bool, and_parts, or_cases, or_left, eqb-true, false≢true}
use Rattle.std.proofs.lemmas.Bool.{false_from_ne_true}
use Rattle.std.proofs.lemmas.List.{append_assoc, append-nil}
use Rattle.ompt_events.specs.declared.records.Part.{Part}
use Rattle.ompt_events.specs.declared.records.Part.TheVariants.{Whole, Body, Event}
use Rattle.ompt_events.specs.declared.flags.TaskFlags.{TaskFlags}
use Rattle.credit_ledger.specs.declared.share.Half.{Half}
use Rattle.credit_ledger.specs.declared.share.Half.TheVariants.{Keep, Give}
use Rattle.credit_ledger.specs.Shares.{begins_with, overlaps, start_share, finish_share, keep_half, give_half}
use Rattle.credit_ledger.proofs.HalvedLemmas.{begins_with-longer}
use Rattle.credit_ledger.proofs.RunLemmas.{finish_share-keep, finish_share-give}
use Rattle.credit_ledger.specs.declared.entry.Entry.{Entry}
use Rattle.credit_ledger.specs.Entries.{part_halves, tree_share, parent_and_number, is_same_path}
use Rattle.credit_ledger.specs.Entries.{overlaps_in_pool, is_overlap}
use Rattle.credit_ledger.proofs.CodeLemmas.{same_path-true}
use Rattle.credit_ledger.proofs.OverlapLemmas.{overlaps_in_pool-root, overlaps_in_pool-other}
use Rattle.credit_ledger.proofs.OverlapLemmas.{overlaps_in_pool-same}
use Rattle.credit_ledger.proofs.ShareLemmas.{overlaps-swap, overlaps-shorter, halves-apart}
use Rattle.callbacks.specs.Tasks.{TaskView, is_detached, child_of, with_child}

-- ---- entries that share no credit

-- of one root, their shares do not overlap, nor their parts where they are of one path
pub record AreDisjoint (e f : Entry) : Type 0 where
  pub tree : e.root ≡ f.root → overlaps (tree_share e) (tree_share f) ≡ true → ⊥
  pub parts : e.root ≡ f.root → e.path ≡ f.path → overlaps (part_halves e.part) (part_halves f.part) ≡ true
      → ⊥

pub disjoint_swap : (e f : Entry) → AreDisjoint e f → AreDisjoint f e
disjoint_swap e f are = record {
  tree = λ root on. are.tree (sym root) (overlaps-swap (tree_share f) (tree_share e) on);
  parts = λ root path on.
      are.parts (sym root) (sym path) (overlaps-swap (part_halves f.part) (part_halves e.part) on);
}

-- of two roots
pub disjoint_roots : (e f : Entry) → e.root ≢ f.root → AreDisjoint e f
disjoint_roots e f other = record {
  tree = λ root on. other root;
  parts = λ root path on. other root;
}

-- such entries do not overlap
pub disjoint_apart : (e f : Entry) → AreDisjoint e f → is_overlap e f ≡ false
disjoint_apart e f are = false_from_ne_true (is_overlap e f) (λ on.
    let split =
    and_parts (e.root == f.root) (overlaps (tree_share e) (tree_share f) || in_one) on in
    let root = eqb-true e.root f.root split.0 in
    elim (or_cases (overlaps (tree_share e) (tree_share f)) in_one split.1) [
      | inl tree ↦ are.tree root tree
      | inr pool ↦ in_pool root pool
    ])
  where
    in_one : Bool
    in_one = overlaps_in_pool (parent_and_number e.path) e.part (parent_and_number f.path) f.part

    in_pool : e.root ≡ f.root → in_one ≡ true → ⊥
    in_pool root on = elim (cases_Bool (is_same_path e.path f.path)) [
      | inr other ↦ false≢true (sym (overlaps_in_pool-other e.path f.path e.part f.part other) ∙ on)
      | inl same ↦
          let deep : length e.path ≡ 0 → ⊥ =
          λ top.
          false≢true
          (sym (overlaps_in_pool-root e.path (parent_and_number f.path) e.part f.part top) ∙ on) in
          are.parts root (same_path-true e.path f.path same)
          (sym (overlaps_in_pool-same e.path f.path e.part f.part deep same) ∙ on)
    ]

-- ---- an entry that brings back no more than another one

pub record IsWithin (e f : Entry) : Type 0 where
  pub root : e.root ≡ f.root
  pub path : e.path ≡ f.path
  pub tree : (s : List Half) → overlaps s (tree_share e) ≡ true → overlaps s (tree_share f) ≡ true
  pub parts : (s : List Half) → overlaps s (part_halves e.part) ≡ true
      → overlaps s (part_halves f.part) ≡ true

pub within_itself : (e : Entry) → IsWithin e e
within_itself e = record { root = refl; path = refl; tree = λ s on. on; parts = λ s on. on }

pub disjoint_within : (e f g : Entry) → IsWithin e f → AreDisjoint g f → AreDisjoint g e
disjoint_within e f g within are = record {
  tree = λ root on. are.tree (root ∙ within.root) (within.tree (tree_share g) on);
  parts = λ root path on.
      are.parts (root ∙ within.root) (path ∙ within.path) (within.parts (part_halves g.part) on);
}

pub disjoint_both : (e f g h : Entry) → IsWithin e f → IsWithin g h → AreDisjoint f h → AreDisjoint e g
disjoint_both e f g h within also are =
    disjoint_within g h e also (disjoint_swap h e (disjoint_within e f h within (disjoint_swap f h are)))

-- all of what a task has left, or a part of it
pub within_whole : (e f : Entry) → e.root ≡ f.root → e.path ≡ f.path → e.kept ≡ f.kept → f.part ≡ Whole
    → IsWithin e f
within_whole e f root path kept whole = record {
  root = root;
  path = path;
  tree = λ s on.
      let left : finish_share e.path e.kept ≡ finish_share f.path f.kept =
      ap (λ p. finish_share p e.kept) path ∙ ap (finish_share f.path) kept in
      subst (λ p. overlaps s (finish_share f.path f.kept ++ part_halves p) ≡ true) (sym whole)
      (subst (λ x. overlaps s x ≡ true) (sym (append-nil (finish_share f.path f.kept)))
      (overlaps-shorter s (finish_share f.path f.kept) (part_halves e.part)
      (subst (λ x. overlaps s (x ++ part_halves e.part) ≡ true) left on)));
  parts = λ s on.
      subst (λ p. overlaps s (part_halves p) ≡ true) (sym whole)
      (overlaps-shorter s [] (part_halves e.part) on);
}

-- the same part
pub within_same : (e f : Entry) → e.root ≡ f.root → e.path ≡ f.path → e.kept ≡ f.kept → e.part ≡ f.part
    → IsWithin e f
within_same e f root path kept part = record {
  root = root;
  path = path;
  tree = λ s on.
      let share : tree_share e ≡ tree_share f =
      ap (λ p. finish_share p e.kept ++ part_halves e.part) path
      ∙ ap (λ k. finish_share f.path k ++ part_halves e.part) kept
      ∙ ap (λ p. finish_share f.path f.kept ++ part_halves p) part in
      subst (λ x. overlaps s x ≡ true) share on;
  parts = λ s on. subst (λ p. overlaps s (part_halves p) ≡ true) part on;
}

-- ---- what a live task would still enter

abbrev pub part_left : Bool → Part
part_left true = Event
part_left false = Whole

-- all that it has left, or, once its body has ended, the half of its event
abbrev pub pending : TaskView → Entry
pending t = record {
  thread = 0;
  part = part_left (is_detached t.state);
  kept = t.claim.kept;
  task = t.id;
  root = t.claim.root;
  path = t.claim.path;
}

-- of a task that is not detached, all that it has left
pub pending_whole : (t : TaskView) → is_detached t.state ≡ false
    → tree_share (pending t) ≡ finish_share t.claim.path t.claim.kept
pending_whole t alive =
    ap (λ b. finish_share t.claim.path t.claim.kept ++ part_halves (part_left b)) alive
    ∙ append-nil (finish_share t.claim.path t.claim.kept)

-- a task that creates another one keeps a half..
creator_share : (t : TaskView) → is_detached t.state ≡ false
    → tree_share (pending (with_child t)) ≡ tree_share (pending t) ++ Keep ∷ []
creator_share t alive =
    pending_whole (with_child t) alive ∙ finish_share-keep t.claim.path t.claim.kept
    ∙ ap keep_half (sym (pending_whole t alive))

pub creator_within : (t : TaskView) → is_detached t.state ≡ false
    → IsWithin (pending (with_child t)) (pending t)
creator_within t alive = record {
  root = refl;
  path = refl;
  tree = λ s on.
      overlaps-shorter s (tree_share (pending t)) (Keep ∷ [])
      (subst (λ x. overlaps s x ≡ true) (creator_share t alive) on);
  parts = λ s on. on;
}

-- ..and the child starts with the other one
child_share : (t : TaskView) (id : ℕ) (given : TaskFlags) → is_detached t.state ≡ false
    → tree_share (pending (child_of t id given)) ≡ tree_share (pending t) ++ Give ∷ []
child_share t id given alive =
    pending_whole (child_of t id given) refl ∙ finish_share-give t.claim.path t.claim.kept
    ∙ ap give_half (sym (pending_whole t alive))

-- no entry is of the child's path that shares no credit with its creator
child_alone : (t : TaskView) (f : Entry) → is_detached t.state ≡ false
    → f.path ≡ t.claim.path ++ t.claim.kept ∷ [] → overlaps (tree_share f) (tree_share (pending t)) ≡ true
child_alone t f alive path =
    let left : List Half = finish_share t.claim.path t.claim.kept in
    let rest : List Half = replicate f.kept Keep ++ part_halves f.part in
    let start : start_share f.path ≡ left ++ Give ∷ [] =
    ap start_share path ∙ sym (append-nil (start_share (t.claim.path ++ t.claim.kept ∷ [])))
    ∙ finish_share-give t.claim.path t.claim.kept in
    let share : tree_share f ≡ left ++ (Give ∷ rest) =
    append_assoc (start_share f.path) (replicate f.kept Keep) (part_halves f.part)
    ∙ ap (λ x. x ++ rest) start ∙ append_assoc left (Give ∷ []) rest in
    subst (λ x. overlaps (tree_share f) x ≡ true) (sym (pending_whole t alive))
    (subst (λ x. overlaps x left ≡ true) (sym share)
    (or_left (begins_with (left ++ (Give ∷ rest)) left) (begins_with left (left ++ (Give ∷ rest)))
    (begins_with-longer left (Give ∷ rest))))

pub child_disjoint : (t : TaskView) (id : ℕ) (given : TaskFlags) (f : Entry) → is_detached t.state ≡ false
    → AreDisjoint (pending t) f → AreDisjoint (pending (child_of t id given)) f
child_disjoint t id given f alive are = record {
  tree = λ root on.
      are.tree root
      (overlaps-swap (tree_share f) (tree_share (pending t))
      (overlaps-shorter (tree_share f) (tree_share (pending t)) (Give ∷ [])
      (subst (λ x. overlaps (tree_share f) x ≡ true) (child_share t id given alive)
      (overlaps-swap (tree_share (pending (child_of t id given))) (tree_share f) on))));
  parts = λ root path on.
      are.tree root
      (overlaps-swap (tree_share f) (tree_share (pending t)) (child_alone t f alive (sym path)));
}

-- a path is not one that goes on behind it
longer_path : (p : List ℕ) (n : ℕ) → p ++ n ∷ [] ≢ p
longer_path [] n same = cc
longer_path (m ∷ p) n same = longer_path p n (let tail : p ++ n ∷ [] ≡ p = cc in tail)

pub siblings_disjoint : (t : TaskView) (id : ℕ) (given : TaskFlags) → is_detached t.state ≡ false
    → AreDisjoint (pending (child_of t id given)) (pending (with_child t))
siblings_disjoint t id given alive = record {
  tree = λ root on.
      false≢true
      (halves-apart (tree_share (pending t))
      (overlaps-swap (give_half (tree_share (pending t))) (keep_half (tree_share (pending t)))
      (subst (λ x. overlaps (give_half (tree_share (pending t))) x ≡ true) (creator_share t alive)
      (subst (λ x. overlaps x (tree_share (pending (with_child t))) ≡ true)
      (child_share t id given alive) on))));
  parts = λ root path on. longer_path t.claim.path t.claim.kept path;
}

-- ---- an entry of the body of a task, and its event

pub halves_disjoint : (e f : Entry) → e.path ≡ f.path → e.kept ≡ f.kept → e.part ≡ Body → f.part ≡ Event
    → AreDisjoint e f
halves_disjoint e f path kept body event = record {
  tree = λ root on.
      false≢true
      (halves-apart left
      (subst (λ p. overlaps (keep_half left) (left ++ part_halves p) ≡ true) event
      (subst (λ p. overlaps (left ++ part_halves p) (tree_share f) ≡ true) body
      (subst (λ x. overlaps (x ++ part_halves e.part) (tree_share f) ≡ true) same on))));
  parts = λ root own on.
      false≢true
      (subst (λ p. overlaps (Keep ∷ []) (part_halves p) ≡ true) event
      (subst (λ p. overlaps (part_halves p) (part_halves f.part) ≡ true) body on));
}
  where
    left : List Half
    left = finish_share f.path f.kept

    same : finish_share e.path e.kept ≡ left
    same = ap (λ p. finish_share p e.kept) path ∙ ap (finish_share f.path) kept
