use Rattle.std.proofs.Common.{◌∙◌, sym}
use Rattle.std.proofs.lemmas.Bool.{false≢true}
use Rattle.task_tree.proofs.ClimbLemmas.{standing_there, standing_none, path_by}
use Rattle.task_tree.proofs.family.Family.has_path.Goals as goal

pub returns-in_default : goal.returns-in_default
returns-in_default c = λ records are task here. (
  λ no. absurd (false≢true no),
  λ stands.
      absurd
      (standing_none records c.args.self.now c.args.index task c.args.root c.args.path.now
      c.standing_at.result are here c.standing_at.ensures c.in_default.is stands),
)

pub returns-then-standing-root : goal.returns-then-standing-root
returns-then-standing-root c = λ records are task here. (
  λ no. absurd (false≢true no),
  λ stands.
      absurd
      (c.if-standing-root.true
      (standing_there records c.args.self.now c.args.index task c.args.root c.args.path.now
      c.standing_at.result c.in-Some.standing are here c.standing_at.ensures c.in-Some.is
      stands).0),
)

pub returns-then-standing-len : goal.returns-then-standing-len
returns-then-standing-len c = λ records are task here. (
  λ no. absurd (false≢true no),
  λ stands.
      absurd
      (c.if-standing-len.true
      ((standing_there records c.args.self.now c.args.index task c.args.root c.args.path.now
      c.standing_at.result c.in-Some.standing are here c.standing_at.ensures c.in-Some.is
      stands).1
      ∙ sym c.len.ensures)),
)

pub returns : goal.returns
returns c = λ records are task here.
    path_by records c.args.self.now c.args.index task c.args.root c.args.path.now c.standing_at.result
    c.in-Some.standing c.climbs.result are here c.standing_at.ensures c.in-Some.is
    c.if-standing-root.false (c.if-standing-len.false ∙ c.len.ensures)
    (λ root whole stands long. c.climbs.ensures records are root task whole here stands long)
