use Rattle.std.proofs.Common.{[], sym}
use Rattle.lines.proofs.ItemLemmas.{quoted-plain}
use Rattle.lines.proofs.TakeLemmas.{Takes-both, Takes-same, Takes-taken}
use Rattle.lines.proofs.written.take_plain_text.Goals as goal

pub returns-clause-takes : goal.returns-clause-takes
returns-clause-takes c =
    let is = c.in-Ok.ensures.cases.0 in
    Takes-same _ _ _ _ (quoted-plain [] c.in-Ok.text.now (rw is c.plain_len-len.ensures.plain))
    (Takes-both _ _ _ _ _ c.in_ok-rest.ensures
    (Takes-both _ _ _ _ _ (Takes-taken c.in_ok-rest.rest.now c.in-Ok.text.now c.plain_len-len.result (sym is))
    c.in_ok-behind.ensures))
