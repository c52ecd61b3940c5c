use Rattle.std.proofs.Common.{◌≡◌, ◌∷◌, [], ℕ, ◌+◌, ◌-◌, ◌<◌, ◌≤◌, Some, List, length, set, get_or, take, ap}
use Rattle.std.proofs.Common.{sym, ◌∙◌, subst, arith}
use Rattle.std.specs.Prelude.{reverse}
use Rattle.std.proofs.lemmas.Bool.{both_ways}
use Rattle.credit_ledger.specs.declared.tree.Node.{Node}
use Rattle.credit_ledger.specs.Trees.{child, place, node_at, with_held_child, progress_at, IsSettling, IsFull}
use Rattle.credit_ledger.proofs.TreeLemmas.{reverse_take_more, progress_at-place}
use Rattle.credit_ledger.proofs.SettleLemmas.{IsTreeKnown-stopped}
use Rattle.credit_ledger.proofs.UpdateLemmas.{place-within}
use Rattle.credit_ledger.proofs.StepLemmas.{IsTreeLinked-marked, length-marked, place-above, count-small}
use Rattle.credit_ledger.proofs.StepLemmas.{IsTreeKnown-top}
use Rattle.credit_ledger.proofs.StepLemmas.{IsLinked-counted, place-counted, length-counted}
use Rattle.credit_ledger.proofs.StepLemmas.{IsSettling-counted}
use Rattle.credit_ledger.proofs.purse.settle.Goals as goal

-- the path at a depth that is not 0
path-more : (runs : List ℕ) (depth : ℕ) → 0 < depth → depth ≤ length runs
    → reverse (take depth runs) ≡ get_or runs (depth - 1) 0 ∷ reverse (take (depth - 1) runs)
path-more runs depth some within =
    let e : depth ≡ (depth - 1) + 1 = omega arith in
    ap (λ k. reverse (take k runs)) e ∙ reverse_take_more runs (depth - 1) 0 (omega arith)

path-none : (runs : List ℕ) (depth : ℕ) → depth ≡ 0 → reverse (take depth runs) ≡ []
path-none runs depth e = ap (λ k. reverse (take k runs)) e

pub mark-requires : goal.mark-requires
mark-requires c =
    place-within c.levels.tree c.levels.invariant.linked c.levels.invariant.within
    (reverse (take c.levels.depth c.args.runs.now)) c.levels.index c.levels.invariant.place

pub returns-then-depth-eq0-clause-linked : goal.returns-then-depth-eq0-clause-linked
returns-then-depth-eq0-clause-linked c =
    IsTreeLinked-marked c.args.shares.now c.levels.tree c.mark.new.self c.levels.index
    c.levels.invariant.linked
    c.levels.invariant.within c.mark.ensures.nodes c.mark.ensures.links
    (reverse (take c.levels.depth c.args.runs.now)) c.levels.invariant.place

pub returns-then-depth-eq0-clause-known : goal.returns-then-depth-eq0-clause-known
returns-then-depth-eq0-clause-known c =
    let none = path-none c.args.runs.now c.levels.depth c.if-depth-eq0.true in
    IsTreeKnown-top c.args.shares.now c.levels.tree c.mark.new.self c.levels.index c.levels.invariant.linked
    c.levels.invariant.within c.mark.ensures.nodes c.mark.ensures.links
    (ap (place (child c.levels.tree)) (sym none) ∙ c.levels.invariant.place)
    (subst (λ p. IsSettling c.args.shares.now (progress_at c.levels.tree) p) none c.levels.invariant.settling)
    (subst (λ (x : Node). IsFull x.progress) c.node.ensures (c.is_full.ensures.0 c.levels-test.true))

pub returns-clause-known : goal.returns-clause-known
returns-clause-known c =
    IsTreeKnown-stopped c.args.shares.now (progress_at c.levels.tree)
    (reverse (take c.levels.depth c.args.runs.now)) c.levels.invariant.settling
    (λ is_full. both_ways c.is_full.result c.levels-test.false
    (c.is_full.ensures.1
    (subst (λ (x : Node). IsFull x.progress) (sym c.node.ensures)
    (subst (λ p. IsFull p)
    (progress_at-place c.levels.tree (reverse (take c.levels.depth c.args.runs.now)) c.levels.index
    c.levels.invariant.place)
    is_full))))

pub count_child-requires-clause-within : goal.count_child-requires-clause-within
count_child-requires-clause-within c =
    let n : ℕ = get_or c.args.runs.now (c.levels.depth - 1) 0 in
    let up : List ℕ = reverse (take (c.levels.depth - 1) c.args.runs.now) in
    let more : reverse (take c.levels.depth c.args.runs.now) ≡ n ∷ up =
    path-more c.args.runs.now c.levels.depth (omega arith) c.levels.invariant.depth in
    let here : place (child c.levels.tree) (n ∷ up) ≡ Some c.levels.index =
    ap (place (child c.levels.tree)) (sym more) ∙ c.levels.invariant.place in
    let e : c.node-index.result.parent ≡ (node_at c.mark.new.self c.levels.index).parent =
    ap (λ (x : Node). x.parent) c.node-index.ensures in
    let long =
    length-marked c.args.shares.now c.levels.tree c.mark.new.self c.levels.index c.levels.invariant.linked
    c.levels.invariant.within c.mark.ensures.nodes c.mark.ensures.links (n ∷ up) here in
    let inside = place-within c.mark.new.self
    (IsTreeLinked-marked c.args.shares.now c.levels.tree c.mark.new.self c.levels.index
    c.levels.invariant.linked
    c.levels.invariant.within c.mark.ensures.nodes c.mark.ensures.links (n ∷ up) here)
    (omega (arith, long, c.levels.invariant.within)) up (node_at c.mark.new.self c.levels.index).parent
    (place-above c.args.shares.now c.levels.tree c.mark.new.self c.levels.index c.levels.invariant.linked
    c.levels.invariant.within c.mark.ensures.nodes c.mark.ensures.links n up here) in
    omega (arith, inside, e)

pub count_child-requires-clause-small : goal.count_child-requires-clause-small
count_child-requires-clause-small c =
    let n : ℕ = get_or c.args.runs.now (c.levels.depth - 1) 0 in
    let up : List ℕ = reverse (take (c.levels.depth - 1) c.args.runs.now) in
    let more : reverse (take c.levels.depth c.args.runs.now) ≡ n ∷ up =
    path-more c.args.runs.now c.levels.depth (omega arith) c.levels.invariant.depth in
    let here : place (child c.levels.tree) (n ∷ up) ≡ Some c.levels.index =
    ap (place (child c.levels.tree)) (sym more) ∙ c.levels.invariant.place in
    let e :
    (node_at c.mark.new.self c.node-index.result.parent).progress.held_children
    ≡ (node_at c.mark.new.self
    (node_at c.mark.new.self c.levels.index).parent).progress.held_children =
    ap (λ (x : Node). (node_at c.mark.new.self x.parent).progress.held_children) c.node-index.ensures in
    let small =
    count-small c.args.shares.now c.levels.tree c.mark.new.self c.levels.index c.levels.invariant.linked
    c.levels.invariant.within c.mark.ensures.nodes c.mark.ensures.links n up here
    c.levels.invariant.settling.counted in
    omega (arith, small, e)

pub levels-preserved : goal.levels-preserved
levels-preserved c =
    let n : ℕ = get_or c.args.runs.now (c.levels.depth - 1) 0 in
    let up : List ℕ = reverse (take (c.levels.depth - 1) c.args.runs.now) in
    let more : reverse (take c.levels.depth c.args.runs.now) ≡ n ∷ up =
    path-more c.args.runs.now c.levels.depth (omega arith) c.levels.invariant.depth in
    let here : place (child c.levels.tree) (n ∷ up) ≡ Some c.levels.index =
    ap (place (child c.levels.tree)) (sym more) ∙ c.levels.invariant.place in
    let e : c.node-index.result.parent ≡ (node_at c.mark.new.self c.levels.index).parent =
    ap (λ (x : Node). x.parent) c.node-index.ensures in
    let nodes : c.count_child.new.self.nodes.items
    ≡ set c.mark.new.self.nodes.items (node_at c.mark.new.self c.levels.index).parent
    (with_held_child (node_at c.mark.new.self (node_at c.mark.new.self c.levels.index).parent)) =
    subst
    (λ p.
    c.count_child.new.self.nodes.items
    ≡ set c.mark.new.self.nodes.items p (with_held_child (node_at c.mark.new.self p))) e
    c.count_child.ensures.nodes in
    let long =
    length-counted c.args.shares.now c.levels.tree c.mark.new.self c.levels.index
    c.levels.invariant.linked c.levels.invariant.within c.mark.ensures.nodes c.mark.ensures.links
    c.count_child.new.self n up here nodes c.count_child.ensures.links in
    record {
      linked =
          IsLinked-counted c.args.shares.now c.levels.tree c.mark.new.self c.levels.index
          c.levels.invariant.linked c.levels.invariant.within c.mark.ensures.nodes c.mark.ensures.links
          c.count_child.new.self n up here nodes c.count_child.ensures.links;
      place =
          place-counted c.args.shares.now c.levels.tree c.mark.new.self c.levels.index
          c.levels.invariant.linked c.levels.invariant.within c.mark.ensures.nodes c.mark.ensures.links
          c.count_child.new.self n up here nodes c.count_child.ensures.links
          ∙ ap (λ k. Some k) (sym e);
      settling =
          IsSettling-counted c.args.shares.now c.levels.tree c.mark.new.self c.levels.index
          c.levels.invariant.linked c.levels.invariant.within c.mark.ensures.nodes c.mark.ensures.links
          c.count_child.new.self n up here nodes c.count_child.ensures.links
          (subst (λ p. IsSettling c.args.shares.now (progress_at c.levels.tree) p) more
          c.levels.invariant.settling)
          (subst (λ (x : Node). IsFull x.progress) c.node.ensures (c.is_full.ensures.0 c.levels-test.true));
      within = omega (arith, long, c.levels.invariant.within);
      depth = omega arith;
      links = c.count_child.ensures.links ∙ c.mark.ensures.links ∙ c.levels.invariant.links;
      nodes = omega (arith, long, c.levels.invariant.nodes);
    }
