use Rattle.lines.proofs.FrontLemmas.{front-line}
use Rattle.lines.proofs.KnownLemmas.{front-says, front-shorter, line-of-version, with_nests}
use Rattle.lines.proofs.record_lines.record_in_front.Goals as goal

pub overflow_sub-len : goal.overflow_sub-len
overflow_sub-len c = front-shorter c.args.text.now c.in_ok-event.event c.in_ok-event.behind.now
    c.in_ok-event.ensures

pub returns-then-is_sound_in-clause-line : goal.returns-then-is_sound_in-clause-line
returns-then-is_sound_in-clause-line c =
    let front =
    line-of-version c.args.version c.args.text.now c.in_ok-event.event c.nests_in.result
    c.in_ok-event.behind.now c.nests_in.ensures c.read_numbers.ensures
    (c.is_sound_in.ensures.0 c.if-is_sound_in.true) c.in_ok-event.ensures in
    let feed = c.begins_with_line_feed.ensures c.if-begins_with_line_feed.true in
    front-line c.args.text.now front.line c.in_ok-event.behind.now front.unbroken front.takes feed.0 feed.1

pub returns-then-is_sound_in-clause-says : goal.returns-then-is_sound_in-clause-says
returns-then-is_sound_in-clause-says c =
    front-says c.args.version c.args.text.now (with_nests c.nests_in.result c.in_ok-event.event)
    c.in_ok-event.behind.now
    (line-of-version c.args.version c.args.text.now c.in_ok-event.event c.nests_in.result
    c.in_ok-event.behind.now c.nests_in.ensures c.read_numbers.ensures
    (c.is_sound_in.ensures.0 c.if-is_sound_in.true) c.in_ok-event.ensures)
