use Rattle.std.proofs.Common.{rules, inl, map}
use Rattle.taskaudit.specs.Commands.{AsksFor, AsksOf, by_dash}
use Rattle.taskaudit.specs.Programs.{world_of}
use Rattle.taskaudit.proofs.ServingLemmas.{standard_refused}
use Rattle.taskaudit.proofs.program.serve.Goals as goal

pub returns-in-Ok-Standard-clause-refused : goal.returns-in-Ok-Standard-clause-refused
returns-in-Ok-Standard-clause-refused g c =
    let at = c.args.console.now in
    let world =
    world_of (g.C.Console.made at) (g.C.Inputs.opens at) (g.C.Inputs.sits at) g.C.File.Source.remaining in
    let words = map g.S.AsStr.text c.args.words.now in
    let asked : AsksFor words c.in-Ok-Standard.field-0.job = search rules in
    let dash : AsksOf words by_dash = search rules in
    standard_refused world words _ _ _ _ _ _ asked (inl dash) c.ending_of-in-Ok-Standard.ensures
    c.do_job-in-Ok-Standard.ensures.leaves
