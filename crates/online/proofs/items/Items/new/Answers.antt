use Rattle.std.proofs.Common.{[], refl}
use Rattle.std.specs.Prelude.{nat_eq}
use Rattle.std.specs.HashMap.{get}
use Rattle.online.proofs.ListingLemmas.{listings_none}
use Rattle.online.proofs.items.Items.new.Goals as goal

pub returns : goal.returns
returns c = (
  [],
  [],
  [],
  c.new.ensures,
  listings_none (λ p. get nat_eq c.new-2.result p) (λ n. rw
      c.new-2.ensures.empty refl),
)
