use Rattle.online.proofs.team.Team.is_over.Goals as goal

pub returns : goal.returns
returns c = λ yes. record {
  whole = c.if-ended-self.false;
  all = c.if-ended-self-2.false;
  begun = c.has_begun_all.ensures yes;
}
