use Rattle.std.proofs.Common.{◌∙◌, sym}
use Rattle.taskaudit.specs.FindingTexts.{shown_line}
use Rattle.taskaudit.proofs.FindingLemmas.{line_more}
use Rattle.taskaudit.proofs.finding_texts.put_places.Goals as goal

pub loop-index-preserved : goal.loop-index-preserved
loop-index-preserved c =
    c.in_ok-put_place.ensures
    ∙ rw c.loop-index.invariant
    (line_more (shown_line c.args.trace.now.records) c.args.text.now.items c.args.places.now
    c.loop-index.index
    c.unwrap-at.result (sym c.at.ensures ∙ c.unwrap-at.ensures))
