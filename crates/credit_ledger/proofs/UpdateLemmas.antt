-- What a change of one node changes.
use Rattle.std.proofs.Common.{◌≡◌, ◌≢◌, ℕ, ◌+◌, ◌^◌, ◌<◌, ◌≤◌, true, List, [], ◌∷◌, length, set, get_or, refl}
use Rattle.std.proofs.Common.{sym, ◌∙◌, ap, subst, arith, ⊎_elim}
use Rattle.std.specs.Prelude.{Option, Some, None, is_some}
use Rattle.std.specs.Option.{option_and_then}
use Rattle.std.proofs.lemmas.Bool.{cases_eq, false≢true}
use Rattle.std.proofs.lemmas.List.{length-set, get_or-set_same, get_or-set_other}
use Rattle.credit_ledger.specs.declared.share.Half.{Half}
use Rattle.credit_ledger.specs.declared.tree.Progress.{Progress}
use Rattle.credit_ledger.specs.declared.tree.Node.{Node}
use Rattle.credit_ledger.specs.declared.tree.Tree.{Tree}
use Rattle.credit_ledger.specs.Links.{spot_of, found, AreLinksRising}
use Rattle.credit_ledger.specs.Trees.{empty_node, node_at, child, place, progress_at, IsTreeLinked}
use Rattle.credit_ledger.specs.Trees.{AreRunsCounted}
use Rattle.credit_ledger.proofs.KnownLemmas.{none_some, same_some}
use Rattle.credit_ledger.proofs.SettleLemmas.{same_path}
use Rattle.credit_ledger.proofs.TreeLemmas.{place-child, progress_at-place, progress_at-none}
use Rattle.credit_ledger.proofs.GrowLemmas.{node_at-get}
use Rattle.credit_ledger.proofs.CountLemmas.{count_below-le}

-- the child by which a path goes on
data IsPathStep (tree : Tree) (n : ℕ) (up : List ℕ) (k : ℕ) : Type 0 where
  step : (i : ℕ) → place (child tree) up ≡ Some i → child tree i n ≡ Some k → IsPathStep tree n up k

IsPathStep-from : (tree : Tree) (n : ℕ) (up : List ℕ) (k : ℕ) → place (child tree) (n ∷ up) ≡ Some k
    → IsPathStep tree n up k
IsPathStep-from tree n up k e = by_parent (place (child tree) up) refl
  where
    by_parent : (o : Option ℕ) → place (child tree) up ≡ o → IsPathStep tree n up k
    by_parent None f = absurd (none_some k (sym (ap (option_and_then (λ i. child tree i n)) f) ∙ e))
    by_parent (Some i) f = step i f (sym (place-child (child tree) n up i f) ∙ e)

-- a node's parent is the node above it
pub place-parent : (tree : Tree) → IsTreeLinked tree → (n : ℕ) (up : List ℕ) (k : ℕ)
    → place (child tree) (n ∷ up) ≡ Some k → place (child tree) up ≡ Some (node_at tree k).parent
place-parent tree linked n up k e = by_step (IsPathStep-from tree n up k e)
  where
    by_step : IsPathStep tree n up k → place (child tree) up ≡ Some (node_at tree k).parent
    by_step (step i f g) = f ∙ ap (λ j. Some j) (sym (linked.back i n k g))

pub place-within : (tree : Tree) → IsTreeLinked tree → 0 < length tree.nodes.items → (up : List ℕ) (k : ℕ)
    → place (child tree) up ≡ Some k → k < length tree.nodes.items
place-within tree linked some [] k e = let same : 0 ≡ k = same_some 0 k e in omega (arith, same)
place-within tree linked some (n ∷ up) k e = by_step (IsPathStep-from tree n up k e)
  where
    by_step : IsPathStep tree n up k → k < length tree.nodes.items
    by_step (step i f g) = (linked.within i n k g).1

-- each node stands at one path
pub place-apart : (tree : Tree) → IsTreeLinked tree → (p q : List ℕ) (k : ℕ) → place (child tree) p ≡ Some k
    → place (child tree) q ≡ Some k → p ≡ q
place-apart tree linked [] [] k e f = refl
place-apart tree linked [] (n ∷ q) k e f = below (IsPathStep-from tree n q k f)
  where
    below : IsPathStep tree n q k → [] ≡ n ∷ q
    below (step i g h) =
        let w = linked.within i n k h in
        let same : 0 ≡ k = same_some 0 k e in absurd (omega (arith, w.0, same))
place-apart tree linked (n ∷ p) [] k e f = below (IsPathStep-from tree n p k e)
  where
    below : IsPathStep tree n p k → n ∷ p ≡ []
    below (step i g h) =
        let w = linked.within i n k h in
        let same : 0 ≡ k = same_some 0 k f in absurd (omega (arith, w.0, same))
place-apart tree linked (m ∷ p) (n ∷ q) k e f =
    both (place-apart tree linked p q) (IsPathStep-from tree m p k e) (IsPathStep-from tree n q k f)
  where
    both : ((j : ℕ) → place (child tree) p ≡ Some j → place (child tree) q ≡ Some j → p ≡ q)
        → IsPathStep tree m p k → IsPathStep tree n q k → m ∷ p ≡ n ∷ q
    both above (step i g h) (step j a b) =
        let parents : i ≡ j = sym (linked.back i m k h) ∙ linked.back j n k b in
        let ups : p ≡ q = above j (g ∙ ap (λ x. Some x) parents) a in
        let numbers : m ≡ n = linked.apart j m n k (ap (λ x. child tree x m) (sym parents) ∙ h) b in
        cc

-- one node is another one now, at the same place
pub record IsUpdated (old new : Tree) (index : ℕ) (node : Node) : Type 0 where
  pub inside : index < length old.nodes.items
  pub nodes : new.nodes.items ≡ set old.nodes.items index node
  pub links : new.links ≡ old.links
  pub parent : node.parent ≡ (node_at old index).parent
  pub reach : node.reach ≡ (node_at old index).reach

module _ (old new : Tree) (index : ℕ) (node : Node) (updated : IsUpdated old new index node) where
  pub updated-here : node_at new index ≡ node
  updated-here =
      node_at-get new index ∙ ap (λ xs. get_or xs index (empty_node 0)) updated.nodes
      ∙ get_or-set_same old.nodes.items index node (empty_node 0) updated.inside

  updated-other : (i : ℕ) → i ≢ index → node_at new i ≡ node_at old i
  updated-other i other =
      node_at-get new i ∙ ap (λ xs. get_or xs i (empty_node 0)) updated.nodes
      ∙ get_or-set_other old.nodes.items index i node (empty_node 0) other ∙ sym (node_at-get old i)

  updated-child : (i n : ℕ) → child new i n ≡ child old i n
  updated-child i n = ap (λ xs. found (spot_of xs i n)) (ap (λ v. v.items) updated.links)

  pub updated-parent : (i : ℕ) → (node_at new i).parent ≡ (node_at old i).parent
  updated-parent i =
      ⊎_elim
      (λ (same : i ≡ index).
      ap (λ j. (node_at new j).parent) same ∙ ap (λ (x : Node). x.parent) updated-here ∙ updated.parent
      ∙ ap (λ j. (node_at old j).parent) (sym same))
      (λ (other : i ≢ index). ap (λ (x : Node). x.parent) (updated-other i other))
      (cases_eq i index)

  updated-reach : (i : ℕ) → (node_at new i).reach ≡ (node_at old i).reach
  updated-reach i =
      ⊎_elim
      (λ (same : i ≡ index).
      ap (λ j. (node_at new j).reach) same ∙ ap (λ (x : Node). x.reach) updated-here ∙ updated.reach
      ∙ ap (λ j. (node_at old j).reach) (sym same))
      (λ (other : i ≢ index). ap (λ (x : Node). x.reach) (updated-other i other))
      (cases_eq i index)

  pub updated-length : length new.nodes.items ≡ length old.nodes.items
  updated-length = ap length updated.nodes ∙ length-set old.nodes.items index node

  pub updated-place : (up : List ℕ) → place (child new) up ≡ place (child old) up
  updated-place up = ap (λ xs. place (λ i n. found (spot_of xs i n)) up) (ap (λ v. v.items) updated.links)

  pub IsTreeLinked-updated : IsTreeLinked old → IsTreeLinked new
  IsTreeLinked-updated linked = record {
    rising = subst AreLinksRising (sym (ap (λ v. v.items) updated.links)) linked.rising;
    aligned = ap (λ v. length v.items) updated.links ∙ linked.aligned ∙ sym updated-length;
    within =
        λ i n k e.
        let w = linked.within i n k (sym (updated-child i n) ∙ e) in
        (w.0, omega (arith, w.1, updated-length));
    back = λ i n k e. updated-parent k ∙ linked.back i n k (sym (updated-child i n) ∙ e);
    apart = λ i m n k e f. linked.apart i m n k (sym (updated-child i m) ∙ e) (sym (updated-child i n) ∙ f);
    reach = λ i n k e. omega (arith, linked.reach i n k (sym (updated-child i n) ∙ e), updated-reach i);
    small = λ i. omega (arith, linked.small i, updated-reach i);
  }

  pub progress_at-updated : (p : List ℕ) → place (child old) p ≡ Some index
      → progress_at new p ≡ node.progress
  progress_at-updated p here =
      progress_at-place new p index (updated-place p ∙ here) ∙ ap (λ (x : Node). x.progress) updated-here

  pub progress_at-kept : IsTreeLinked old → (p : List ℕ) → place (child old) p ≡ Some index → (q : List ℕ)
      → q ≢ p
      → progress_at new q ≡ progress_at old q
  progress_at-kept linked p here q apart = by_place (place (child old) q) refl
    where
      by_place : (o : Option ℕ) → place (child old) q ≡ o → progress_at new q ≡ progress_at old q
      by_place None e = progress_at-none new q (updated-place q ∙ e) ∙ sym (progress_at-none old q e)
      by_place (Some i) e =
          progress_at-place new q i (updated-place q ∙ e)
          ∙ ap (λ (x : Node). x.progress)
          (updated-other i
          (λ same. apart (place-apart old linked q p index (e ∙ ap (λ x. Some x) same) here)))
          ∙ sym (progress_at-place old q i e)

  -- what the change leaves of a node's progress, it leaves everywhere
  pub progress_at-field : {X : Type 0} (field : Progress → X) → IsTreeLinked old → (p : List ℕ)
      → place (child old) p ≡ Some index → field node.progress ≡ field (node_at old index).progress
      → (q : List ℕ) → field (progress_at new q) ≡ field (progress_at old q)
  progress_at-field field linked p here same q =
      ⊎_elim
      (λ (is : q ≡ p).
      ap (λ r. field (progress_at new r)) is ∙ ap field (progress_at-updated p here) ∙ same
      ∙ sym (ap field (progress_at-place old p index here))
      ∙ ap (λ r. field (progress_at old r)) (sym is))
      (λ (other : q ≢ p). ap field (progress_at-kept linked p here q other))
      (same_path q p)

-- the counts are small: each held child stands below the node's reach
pub held_children-small : (shares : List (List Half)) (tree : Tree) → IsTreeLinked tree
    → AreRunsCounted shares (progress_at tree) → (up : List ℕ) (k : ℕ) → place (child tree) up ≡ Some k
    → (node_at tree k).progress.held_children ≤ 2 ^ 48 + 1
held_children-small shares tree linked counted up k here =
    let count = counted.count up (node_at tree k).reach below in
    let same : (progress_at tree up).held_children ≡ (node_at tree k).progress.held_children =
    ap (λ (p : Progress). p.held_children) (progress_at-place tree up k here) in
    omega (
      arith,
      count,
      same,
      linked.small k,
      count_below-le (node_at tree k).reach (λ n. is_some (progress_at tree (n ∷ up)).since),
    )
  where
    below : (n : ℕ) → is_some (progress_at tree (n ∷ up)).since ≡ true → n < (node_at tree k).reach
    below n some = by_place (place (child tree) (n ∷ up)) refl
      where
        by_place : (o : Option ℕ) → place (child tree) (n ∷ up) ≡ o → n < (node_at tree k).reach
        by_place None e =
            absurd
            (false≢true
            (sym (ap (λ (p : Progress). is_some p.since) (progress_at-none tree (n ∷ up) e)) ∙ some))
        by_place (Some j) e = linked.reach k n j (sym (place-child (child tree) n up k here) ∙ e)
