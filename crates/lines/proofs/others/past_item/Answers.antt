use Rattle.lines.specs.Objects.{item_data}
use Rattle.lines.proofs.JsonLemmas.{IsPlain-deeper}
use Rattle.lines.proofs.others.past_item.Goals as goal

pub returns : goal.returns
returns c =
    let item = c.in_ok-_item.ensures in
    record {
      value = item_data c.in_ok-_item._item;
      plain = IsPlain-deeper (item_data c.in_ok-_item._item) 1 item.plain;
      takes = item.takes;
    }
