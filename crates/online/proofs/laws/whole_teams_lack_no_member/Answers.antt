use Rattle.online.proofs.RosterLaw.{short_cases, none_lacks}
use Rattle.online.proofs.laws.whole_teams_lack_no_member.Goals as goal

pub returns : goal.returns
returns c = record {
  cases = short_cases;
  free = none_lacks;
}
