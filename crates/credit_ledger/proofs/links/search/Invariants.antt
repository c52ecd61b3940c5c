use Rattle.std.proofs.Common.{◌≡◌, ◌-◌, length}
use Rattle.credit_ledger.specs.Links.{link_at, spot_within, spot_of}
use Rattle.credit_ledger.proofs.links.search.Given as goal

abbrev pub invariant-links : goal.invariant-links
invariant-links l = record {
  spot : spot_within l.links (length l.links - l.counter) l.index l.number l.digits l.at l.side
      ≡ spot_of l.links l.index l.number;
  link : l.link ≡ link_at l.links l.at;
}
