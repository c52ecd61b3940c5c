use Rattle.std.proofs.Common.{[], take, refl}
use Rattle.serde_json.specs.Data.{string}
use Rattle.lines.proofs.ItemLemmas.{quoted-plain}
use Rattle.lines.proofs.TakeLemmas.{Takes-both, Takes-same, Takes-taken}
use Rattle.lines.proofs.others.past_text.Goals as goal

pub returns : goal.returns
returns c =
    let text = take c.plain_len-len.result c.in_ok-text.text.now in
    record {
      value = string text;
      plain = c.plain_len-len.ensures.plain;
      takes =
          Takes-same _ _ _ _ (quoted-plain [] text c.plain_len-len.ensures.plain)
          (Takes-both _ _ _ _ _ c.in_ok-text.ensures
          (Takes-both _ _ _ _ _ (Takes-taken c.in_ok-text.text.now text c.plain_len-len.result refl)
          c.in_ok-behind.ensures));
    }
