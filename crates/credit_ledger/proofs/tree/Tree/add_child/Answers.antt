use Rattle.std.proofs.Common.{◌≡◌, ℕ, Some, length, ap, sym, subst, ◌∙◌, arith, length-append, ◌∷◌, [], set}
use Rattle.credit_ledger.specs.Links.{leaf_link, link_at, with_link, spot_of}
use Rattle.credit_ledger.specs.declared.links.Side.TheVariants.{First}
use Rattle.credit_ledger.specs.declared.links.Spot.TheVariants.{Missing}
use Rattle.credit_ledger.proofs.LinkLemmas.{missing-at}
use Rattle.credit_ledger.proofs.GrowLemmas.{IsGrown-made}
use Rattle.credit_ledger.proofs.tree.Tree.add_child.Goals as goal

pub put_link-requires-clause-within : goal.put_link-requires-clause-within
put_link-requires-clause-within c =
    let ended =
    missing-at c.args.self.now.links.items c.requires.linked.rising (length c.args.self.now.links.items)
    c.args.index c.args.number c.args.number c.args.index First c.args.at c.args.side
    (omega (arith, c.requires.within, c.requires.linked.aligned)) (omega arith) c.requires.missing in
    let long : length c.push.new.self.links.items ≡ _ =
    ap length c.push.ensures.links
    ∙ length-append c.args.self.now.links.items (leaf_link c.args.index c.args.number ∷ []) in
    omega (arith, ended.0, long)

pub returns : goal.returns
returns c =
    let made : c.len-made.result ≡ length c.args.self.now.nodes.items = omega arith in
    let grown =
    IsGrown-made c.args.self.now c.push.new.self c.put_link.new.self c.reach_to.new.self c.args.index
    c.args.number c.args.at c.args.side c.requires.linked c.requires.within c.requires.small
    c.requires.missing
    c.push.ensures.nodes c.push.ensures.links c.put_link.ensures.nodes
    (c.put_link.ensures.links
    ∙ ap
    (λ k.
    set c.push.new.self.links.items c.args.at
    (with_link (link_at c.push.new.self.links.items c.args.at) c.args.side k))
    made)
    c.reach_to.ensures.nodes c.reach_to.ensures.links in
    let there = grown.1 ∙ ap (λ k. Some k) (sym made) in
    record {
      grown = grown.0;
      made = there;
      inside = (grown.0.linked.within c.args.index c.args.number c.len-made.result there).1;
      fresh =
          subst (λ k. (next : ℕ) → spot_of c.reach_to.new.self.links.items k next ≡ Missing k First)
          (sym made) grown.2;
    }
