use Rattle.wait_coverage.proofs.MeetingLemmas.{added_other, added_more}
use Rattle.wait_coverage.proofs.meetings.add_meeting.Goals as goal

pub returns-in-Some : goal.returns-in-Some
returns-in-Some c =
    added_more c.args.done.now c.args.at c.args.nodes.now.items _ c.requires.nodes c.requires.within
    c.end_limit.ensures.limit c.end_limit.ensures.least

pub returns-in_default : goal.returns-in_default
returns-in_default c =
    added_other c.args.done.now c.args.at c.args.nodes.now.items c.requires.nodes c.in_default.ensures
