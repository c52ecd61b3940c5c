use Rattle.std.proofs.Common.{◌≡◌, ◌+◌, ◌-◌, ◌/◌, length, sym, ◌∙◌, ap, arith}
use Rattle.credit_ledger.specs.declared.links.Link.{Link}
use Rattle.credit_ledger.specs.Links.{link_behind, is_link_of, spot_within}
use Rattle.credit_ledger.proofs.LinkLemmas.{search-missing, search-found, search-on}
use Rattle.credit_ledger.proofs.links.search.Goals as goal

pub returns-then-next-eq0 : goal.returns-then-next-eq0
returns-then-next-eq0 c =
    sym
    (search-missing c.args.links.now (length c.args.links.now - c.links.counter) c.args.index c.args.number
    c.links.digits c.links.at c.behind-next.result c.links.side (omega arith)
    (c.behind-next.ensures ∙ ap (λ (l : Link). link_behind l c.links.side) c.links.invariant.link)
    c.if-next-eq0.true)
    ∙ c.links.invariant.spot

pub returns-then-is_of : goal.returns-then-is_of
returns-then-is_of c =
    sym
    (search-found c.args.links.now (length c.args.links.now - c.links.counter) c.args.index c.args.number
    c.links.digits c.links.at c.behind-next.result c.links.side (omega arith)
    (c.behind-next.ensures ∙ ap (λ (l : Link). link_behind l c.links.side) c.links.invariant.link)
    (λ f. omega (arith, f, c.if-next-eq0.false))
    (ap (is_link_of c.args.index c.args.number) (sym c.link_of-sibling.ensures) ∙ sym c.is_of.ensures
    ∙ c.if-is_of.true))
    ∙ c.links.invariant.spot

pub links-preserved : goal.links-preserved
links-preserved c =
    let steps : length c.args.links.now - (c.links.counter + 1)
    ≡ length c.args.links.now - c.links.counter - 1 =
    omega arith in
    record {
      spot =
          ap
          (λ k.
          spot_within c.args.links.now k c.args.index c.args.number (c.links.digits / 4)
          c.behind-next.result c.side_of-side.result)
          steps
          ∙ ap
          (spot_within c.args.links.now (length c.args.links.now - c.links.counter - 1) c.args.index
          c.args.number (c.links.digits / 4) c.behind-next.result)
          c.side_of-side.ensures
          ∙ sym
          (search-on c.args.links.now (length c.args.links.now - c.links.counter) c.args.index c.args.number
          c.links.digits c.links.at c.behind-next.result c.links.side (omega arith)
          (c.behind-next.ensures ∙ ap (λ (l : Link). link_behind l c.links.side) c.links.invariant.link)
          (λ f. omega (arith, f, c.if-next-eq0.false))
          (ap (is_link_of c.args.index c.args.number) (sym c.link_of-sibling.ensures) ∙ sym c.is_of.ensures
          ∙ c.if-is_of.false))
          ∙ c.links.invariant.spot;
      link = c.link_of-sibling.ensures;
    }
