use Rattle.lines.specs.Objects.{item_data}
use Rattle.lines.proofs.JsonLemmas.{IsPlain-deeper}
use Rattle.lines.proofs.written.take_single.Goals as goal

pub returns : goal.returns
returns c =
    let item = c.in_ok-item.ensures in
    record { takes = item.takes; plain = IsPlain-deeper (item_data c.in_ok-item.item) 1 item.plain }
