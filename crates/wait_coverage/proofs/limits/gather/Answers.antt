use Rattle.std.proofs.Common.{◌≡◌, ◌∙◌, ◌<◌, length, get_or, Some, sym, ap, arith, rules}
use Rattle.std.proofs.lemmas.Option.{same_Some, slice_get-get_or}
use Rattle.std.specs.Prelude.{max, slice_get}
use Rattle.wait_coverage.specs.declared.limits.Node.{Node}
use Rattle.wait_coverage.proofs.ChainLemmas.{gathered_start, gathered_more, least_start, least_more}
use Rattle.wait_coverage.proofs.ChainLemmas.{smaller_next}
use Rattle.wait_coverage.proofs.ChainLemmas.{gathers}
use Rattle.wait_coverage.proofs.limits.gather.Goals as goal

pub nodes-init : goal.nodes-init
nodes-init c = record {
  gathered = rw c.zero-limit.ensures (gathered_start c.args.nodes.now c.args.head c.args.begin);
  least = rw c.zero-limit.ensures (least_start c.args.nodes.now c.args.head c.args.begin);
  known = c.requires.known;
}

pub offset_bounds-nodes-number : goal.offset_bounds-nodes-number
offset_bounds-nodes-number c =
    let within : c.in-Some.number < length c.args.nodes.now =
    c.nodes.invariant.known c.in-Some.number ((c.later.ensures c.in-Some.number).0 c.in-Some.is).0 in
    search rules

pub offset_bounds-nodes-number-in-Some : goal.offset_bounds-nodes-number-in-Some
offset_bounds-nodes-number-in-Some c =
    let within : c.in-Some.number < length c.args.nodes.now =
    c.nodes.invariant.known c.in-Some.number ((c.later.ensures c.in-Some.number).0 c.in-Some.is).0 in
    search rules

pub bounds-nodes-number : goal.bounds-nodes-number
bounds-nodes-number c =
    c.nodes.invariant.known c.in-Some.number ((c.later.ensures c.in-Some.number).0 c.in-Some.is).0

pub bounds-nodes-number-in-Some : goal.bounds-nodes-number-in-Some
bounds-nodes-number-in-Some c =
    c.nodes.invariant.known c.in-Some.number ((c.later.ensures c.in-Some.number).0 c.in-Some.is).0

pub bounds-nodes-number-in-Some-2 : goal.bounds-nodes-number-in-Some-2
bounds-nodes-number-in-Some-2 c =
    c.nodes.invariant.known c.in-Some.number ((c.later.ensures c.in-Some.number).0 c.in-Some.is).0

pub bounds-nodes-number-in-Some-3 : goal.bounds-nodes-number-in-Some-3
bounds-nodes-number-in-Some-3 c =
    c.nodes.invariant.known c.in-Some.number ((c.later.ensures c.in-Some.number).0 c.in-Some.is).0

pub nodes-smaller : goal.nodes-smaller
nodes-smaller c =
    let nodes = c.args.nodes.now in
    let number = c.in-Some.number in
    let known = (c.later.ensures number).0 c.in-Some.is in
    let inside : number < length nodes = c.nodes.invariant.known number known.0 in
    let node : Node = get_or nodes number c.index-nodes-number-in-Some.result in
    smaller_next nodes c.nodes.rest number node c.requires.falling known.0
    (slice_get-get_or nodes number c.index-nodes-number-in-Some.result inside)

pub nodes-preserved : goal.nodes-preserved
nodes-preserved c =
    let nodes = c.args.nodes.now in
    let number = c.in-Some.number in
    let known = (c.later.ensures number).0 c.in-Some.is in
    let inside : number < length nodes = c.nodes.invariant.known number known.0 in
    let node : Node = get_or nodes number c.index-nodes-number-in-Some.result in
    let there : slice_get nodes number ≡ Some node =
    slice_get-get_or nodes number c.index-nodes-number-in-Some.result inside in
    let read =
    same_Some (get_or nodes number c.index-nodes-number.result) node
    (sym (slice_get-get_or nodes number c.index-nodes-number.result inside) ∙ there) in
    let limit = c.max-limit.ensures ∙ ap (λ (n : Node). max c.nodes.limit n.limit) read in
    record {
      gathered =
          rw limit
          (gathered_more nodes c.args.head c.nodes.rest c.args.begin c.nodes.limit number node
          c.nodes.invariant.gathered known.0 known.1 there);
      least =
          rw limit
          (least_more nodes c.args.head c.nodes.rest c.args.begin c.nodes.limit number node
          c.nodes.invariant.least known.0 known.1 there);
      known =
          λ next is. let less = c.requires.falling number next node there is in omega (arith, less, inside);
    }

pub returns : goal.returns
returns c =
    gathers c.args.nodes.now c.args.head c.nodes.rest c.args.begin c.nodes.limit c.requires.falling
    c.nodes.invariant.gathered c.nodes.invariant.least c.nodes.invariant.known
    (λ number is less. c.in_default.not-Some number ((c.later.ensures number).1 (is, less)))
