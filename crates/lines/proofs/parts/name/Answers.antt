use Rattle.std.proofs.Common.{[]}
use Rattle.lines.proofs.ItemLemmas.{quoted-plain}
use Rattle.lines.proofs.TakeLemmas.{Takes-both, Takes-same}
use Rattle.lines.proofs.parts.name.Goals as goal

pub returns : goal.returns
returns c =
    Takes-same _ _ _ _ (quoted-plain [] c.args.name.now c.requires)
    (Takes-both _ _ _ _ _ c.in_ok-rest.ensures
    (Takes-both _ _ _ _ _ c.in_ok-rest-2.ensures c.in_ok-behind.ensures))
