use Rattle.depend_edges.proofs.latest.Lengths.items_at.Goals as goal

pub returns : goal.returns
returns c = rw (← c.self.view_is) c.items_at.ensures
