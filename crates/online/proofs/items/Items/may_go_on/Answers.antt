use Rattle.online.proofs.items.Items.may_go_on.Goals as goal

pub returns-clause-ready : goal.returns-clause-ready
returns-clause-ready c = λ yes. (
  c.has_lists.ensures.listed c.if-not-has_lists.false,
  c.in_ok-ready.ensures.ready yes,
)
