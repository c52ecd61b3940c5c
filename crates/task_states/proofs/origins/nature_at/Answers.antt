use Rattle.std.proofs.Common.{◌∙◌, sym}
use Rattle.std.proofs.lemmas.Bool.{false≢true}
use Rattle.task_states.proofs.OriginLemmas.{made_within, root_nature, explicit_nature}
use Rattle.task_states.proofs.origins.nature_at.Goals as goal

pub returns-then-not-is_explicit : goal.returns-then-not-is_explicit
returns-then-not-is_explicit c = λ task stands.
    let run = c.args.run.now in
    let (place, at_index, within, makes) = c.requires.is_run.family.makers.each c.args.index task stands in
    sym
    (root_nature run.records run.family.tasks c.args.index task place c.requires.is_run.family.once
    (makes ∙ sym stands) stands
    (λ explicit.
    false≢true (sym c.if-not-is_explicit.true ∙ (c.is_explicit.ensures task stands).1 explicit)))

pub makes_wait-requires : goal.makes_wait-requires
makes_wait-requires c =
    made_within c.args.run.now.records c.args.run.now.family.tasks c.args.index c.made_at.result
    c.requires.within c.made_at.ensures

pub returns-then-makes_wait : goal.returns-then-makes_wait
returns-then-makes_wait c = λ task stands.
    let run = c.args.run.now in
    sym
    (explicit_nature run.records run.family.tasks c.args.index task c.made_at.result _
    c.requires.is_run.family.once c.made_at.ensures stands
    ((c.is_explicit.ensures task stands).0 c.if-not-is_explicit.false)
    (sym c.makes_wait.ensures ∙ c.if-makes_wait.true))

pub returns-else-makes_wait : goal.returns-else-makes_wait
returns-else-makes_wait c = λ task stands.
    let run = c.args.run.now in
    sym
    (explicit_nature run.records run.family.tasks c.args.index task c.made_at.result _
    c.requires.is_run.family.once c.made_at.ensures stands
    ((c.is_explicit.ensures task stands).0 c.if-not-is_explicit.false)
    (sym c.makes_wait.ensures ∙ c.if-makes_wait.false))
