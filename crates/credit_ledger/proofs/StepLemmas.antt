-- One level of the walk up, and the tree to which a share is added.
use Rattle.std.proofs.Common.{◌≡◌, ℕ, ◌+◌, ◌^◌, ◌<◌, ◌≤◌, List, [], ◌∷◌, ◌++◌, length, set, refl, sym, ◌∙◌}
use Rattle.std.proofs.Common.{ap, subst, arith}
use Rattle.std.specs.Prelude.{Some}
use Rattle.credit_ledger.specs.declared.share.Half.{Half}
use Rattle.credit_ledger.specs.declared.tree.Progress.{Progress}
use Rattle.credit_ledger.specs.declared.tree.Tree.{Tree}
use Rattle.credit_ledger.specs.Paths.{path_of}
use Rattle.credit_ledger.specs.Trees.{node_at, child, place, progress_at, with_run, with_since}
use Rattle.credit_ledger.specs.Trees.{with_held_child}
use Rattle.credit_ledger.specs.Trees.{IsTreeLinked}
use Rattle.credit_ledger.specs.Trees.{AreRunsCounted, IsTreeKnown, IsSettling, IsFull}
use Rattle.credit_ledger.proofs.PathLemmas.{keeps-path_of}
use Rattle.credit_ledger.proofs.SettleLemmas.{IsMarked, IsFree, IsRunPut, IsSettling-entered}
use Rattle.credit_ledger.proofs.SettleLemmas.{IsSettling-parent}
use Rattle.credit_ledger.proofs.SettleLemmas.{IsTreeKnown-root}
use Rattle.credit_ledger.proofs.TreeLemmas.{progress_at-place}
use Rattle.credit_ledger.proofs.UpdateLemmas.{IsUpdated, place-parent, place-within, updated-place}
use Rattle.credit_ledger.proofs.UpdateLemmas.{updated-parent}
use Rattle.credit_ledger.proofs.UpdateLemmas.{updated-length, IsTreeLinked-updated, progress_at-updated}
use Rattle.credit_ledger.proofs.UpdateLemmas.{progress_at-kept, progress_at-field, held_children-small}

module _ (shares : List (List Half)) (old new : Tree) (index : ℕ) (linked : IsTreeLinked old)
    (some : 0 < length old.nodes.items)
    (nodes : new.nodes.items ≡ set old.nodes.items index (with_since (node_at old index) (length shares)))
    (links : new.links ≡ old.links) where
  -- a node was marked
  marked-update : (up : List ℕ) → place (child old) up ≡ Some index
      → IsUpdated old new index (with_since (node_at old index) (length shares))
  marked-update up here = record {
    inside = place-within old linked some up index here;
    nodes = nodes;
    links = links;
    parent = refl;
    reach = refl;
  }

  pub IsTreeLinked-marked : (up : List ℕ) → place (child old) up ≡ Some index → IsTreeLinked new
  IsTreeLinked-marked up here =
      IsTreeLinked-updated old new index (with_since (node_at old index) (length shares))
      (marked-update up here)
      linked

  pub length-marked : (up : List ℕ) → place (child old) up ≡ Some index
      → length new.nodes.items ≡ length old.nodes.items
  length-marked up here =
      updated-length old new index (with_since (node_at old index) (length shares)) (marked-update up here)

  pub IsMarked-mark : (up : List ℕ) → place (child old) up ≡ Some index
      → IsMarked (progress_at old) (progress_at new) up (length shares)
  IsMarked-mark up here = record {
    mark =
        ap (λ (p : Progress). p.since)
        (progress_at-updated old new index (with_since (node_at old index) (length shares))
        (marked-update up here) up here);
    run =
        progress_at-field old new index (with_since (node_at old index) (length shares))
        (marked-update up here) (λ p. p.run) linked up here refl;
    since =
        λ q other.
        ap (λ (p : Progress). p.since)
        (progress_at-kept old new index (with_since (node_at old index) (length shares))
        (marked-update up here) linked up here q other);
  }

  pub held-marked : (up : List ℕ) → place (child old) up ≡ Some index → (q : List ℕ)
      → (progress_at new q).held_children ≡ (progress_at old q).held_children
  held-marked up here =
      progress_at-field old new index (with_since (node_at old index) (length shares)) (marked-update up here)
      (λ p. p.held_children) linked up here refl

  -- the node above it
  pub place-above : (n : ℕ) (up : List ℕ) → place (child old) (n ∷ up) ≡ Some index
      → place (child new) up ≡ Some (node_at new index).parent
  place-above n up here =
      updated-place old new index (with_since (node_at old index) (length shares))
      (marked-update (n ∷ up) here) up
      ∙ place-parent old linked n up index here
      ∙ ap (λ k. Some k)
      (sym
      (updated-parent old new index (with_since (node_at old index) (length shares))
      (marked-update (n ∷ up) here) index))

  pub count-small : (n : ℕ) (up : List ℕ) → place (child old) (n ∷ up) ≡ Some index
      → AreRunsCounted shares (progress_at old)
      → (node_at new (node_at new index).parent).progress.held_children ≤ 2 ^ 48 + 1
  count-small n up here counted =
      let above = place-above n up here in
      let was =
      updated-place old new index (with_since (node_at old index) (length shares))
      (marked-update (n ∷ up) here) up in
      let small =
      held_children-small shares old linked counted up (node_at new index).parent (sym was ∙ above) in
      let seen : (progress_at old up).held_children
      ≡ (node_at old (node_at new index).parent).progress.held_children =
      ap (λ (p : Progress). p.held_children)
      (progress_at-place old up (node_at new index).parent (sym was ∙ above)) in
      let now : (progress_at new up).held_children
      ≡ (node_at new (node_at new index).parent).progress.held_children =
      ap (λ (p : Progress). p.held_children)
      (progress_at-place new up (node_at new index).parent above) in
      omega (arith, small, seen, now, held-marked (n ∷ up) here up)

  full-there : (up : List ℕ) → place (child old) up ≡ Some index → IsFull (node_at old index).progress
      → IsFull (progress_at old up)
  full-there up here is_full = subst (λ p. IsFull p) (sym (progress_at-place old up index here)) is_full

  pub IsTreeKnown-top : place (child old) [] ≡ Some index → IsSettling shares (progress_at old) []
      → IsFull (node_at old index).progress → IsTreeKnown shares (progress_at new)
  IsTreeKnown-top here was is_full =
      IsTreeKnown-root shares (progress_at old) (progress_at new) was (full-there [] here is_full)
      (IsMarked-mark [] here) (held-marked [] here)

  -- and its parent counted it
  module _ (last : Tree) (n : ℕ) (up : List ℕ) (here : place (child old) (n ∷ up) ≡ Some index)
      (nodes_last : last.nodes.items
      ≡ set new.nodes.items (node_at new index).parent
      (with_held_child (node_at new (node_at new index).parent)))
      (links_last : last.links ≡ new.links) where
    parent : ℕ
    parent = (node_at new index).parent

    above : place (child new) up ≡ Some (node_at new index).parent
    above = place-above n up here

    linked_new : IsTreeLinked new
    linked_new = IsTreeLinked-marked (n ∷ up) here

    counted-update : IsUpdated new last (node_at new index).parent
        (with_held_child (node_at new (node_at new index).parent))
    counted-update = record {
      inside =
          place-within new linked_new (omega (arith, some, length-marked (n ∷ up) here)) up
          (node_at new index).parent above;
      nodes = nodes_last;
      links = links_last;
      parent = refl;
      reach = refl;
    }

    pub IsLinked-counted : IsTreeLinked last
    IsLinked-counted =
        IsTreeLinked-updated new last (node_at new index).parent
        (with_held_child (node_at new (node_at new index).parent)) counted-update linked_new

    pub place-counted : place (child last) up ≡ Some (node_at new index).parent
    place-counted =
        updated-place new last (node_at new index).parent
        (with_held_child (node_at new (node_at new index).parent)) counted-update up
        ∙ above

    pub length-counted : length last.nodes.items ≡ length old.nodes.items
    length-counted =
        updated-length new last (node_at new index).parent
        (with_held_child (node_at new (node_at new index).parent)) counted-update
        ∙ length-marked (n ∷ up) here

    counted-field : {X : Type 0} (field : Progress → X)
        → field (with_held_child (node_at new (node_at new index).parent)).progress
        ≡ field (node_at new (node_at new index).parent).progress
        → (q : List ℕ) → field (progress_at last q) ≡ field (progress_at new q)
    counted-field field same q =
        progress_at-field new last (node_at new index).parent
        (with_held_child (node_at new (node_at new index).parent)) counted-update field linked_new up above
        same q

    IsMarked-counted : IsMarked (progress_at old) (progress_at last) (n ∷ up) (length shares)
    IsMarked-counted =
        let marked = IsMarked-mark (n ∷ up) here in record {
          mark = counted-field (λ p. p.since) refl (n ∷ up) ∙ marked.mark;
          run = λ q. counted-field (λ p. p.run) refl q ∙ marked.run q;
          since = λ q other. counted-field (λ p. p.since) refl q ∙ marked.since q other;
        }

    pub IsSettling-counted : IsSettling shares (progress_at old) (n ∷ up)
        → IsFull (node_at old index).progress → IsSettling shares (progress_at last) up
    IsSettling-counted was is_full =
        IsSettling-parent shares (progress_at old) (progress_at last) n up was
        (full-there (n ∷ up) here is_full) IsMarked-counted
        (ap (λ (p : Progress). p.held_children)
        (progress_at-updated new last (node_at new index).parent
        (with_held_child (node_at new (node_at new index).parent)) counted-update up above)
        ∙ ap (λ k. k + 1)
        (sym
        (ap (λ (p : Progress). p.held_children)
        (progress_at-place new up (node_at new index).parent above))
        ∙ held-marked (n ∷ up) here up))
        (λ q other.
        ap (λ (p : Progress). p.held_children)
        (progress_at-kept new last (node_at new index).parent
        (with_held_child (node_at new (node_at new index).parent)) counted-update linked_new up above q
        other)
        ∙ held-marked (n ∷ up) here q)

-- a run was put down at the node of a share that overlaps no other one
module _ (shares : List (List Half)) (old new : Tree) (index : ℕ) (s : List Half) (linked : IsTreeLinked old)
    (here : place (child old) (path_of s).0 ≡ Some index) (inside : index < length old.nodes.items)
    (nodes : new.nodes.items
    ≡ set old.nodes.items index
    (with_run (node_at old index) (record { keeps = (path_of s).1; time = length shares })))
    (links : new.links ≡ old.links) where
  put-update : IsUpdated old new index
      (with_run (node_at old index) (record { keeps = (path_of s).1; time = length shares }))
  put-update = record { inside = inside; nodes = nodes; links = links; parent = refl; reach = refl }

  pub IsTreeLinked-put : IsTreeLinked new
  IsTreeLinked-put =
      IsTreeLinked-updated old new index
      (with_run (node_at old index) (record { keeps = (path_of s).1; time = length shares })) put-update
      linked

  IsRunPut-put : IsRunPut (progress_at old) (progress_at new) (path_of s).0 (record {
    keeps = (path_of s).1;
    time = length shares;
  })
  IsRunPut-put = record {
    put =
        ap (λ (p : Progress). p.run)
        (progress_at-updated old new index
        (with_run (node_at old index) (record { keeps = (path_of s).1; time = length shares }))
        put-update (path_of s).0 here);
    other =
        λ q other.
        ap (λ (p : Progress). p.run)
        (progress_at-kept old new index
        (with_run (node_at old index) (record { keeps = (path_of s).1; time = length shares }))
        put-update linked (path_of s).0 here q other);
    since =
        progress_at-field old new index
        (with_run (node_at old index) (record { keeps = (path_of s).1; time = length shares })) put-update
        (λ p. p.since) linked (path_of s).0 here refl;
    count =
        progress_at-field old new index
        (with_run (node_at old index) (record { keeps = (path_of s).1; time = length shares })) put-update
        (λ p. p.held_children) linked (path_of s).0 here refl;
  }

  pub IsSettling-put : IsTreeKnown shares (progress_at old) → IsFree shares s
      → IsSettling (shares ++ s ∷ []) (progress_at new) (path_of s).0
  IsSettling-put known free =
      subst (λ x. IsSettling (shares ++ x ∷ []) (progress_at new) (path_of s).0) (keeps-path_of s)
      (IsSettling-entered shares (progress_at old) (progress_at new) (path_of s).0 (path_of s).1 known
      (subst (λ x. IsFree shares x) (sym (keeps-path_of s)) free) IsRunPut-put)
