use Rattle.std.proofs.Common.{◌≡◌, ◌<◌, ◌∙◌, length, sym, ap, arith, rules}
use Rattle.std.proofs.lemmas.Option.{none-some}
use Rattle.std.specs.Option.{option_map_or}
use Rattle.task_tree.specs.declared.roots.Standing.{Standing}
use Rattle.task_tree.proofs.FamilyLemmas.{standing_here}
use Rattle.task_tree.proofs.PathLemmas.{climb_start, climb_more, climb_link, climbed_all}
use Rattle.task_tree.proofs.paths.path_of.Goals as goal
use Rattle.task_tree.proofs.paths.path_of.Goals.{in-Some+in_ok-push, in_default}

pub loop-step-init : goal.loop-step-init
loop-step-init c =
    λ records are root task path here stands.
    climb_start records c.args.family.now.tasks root task c.args.index path c.new-numbers.result.items
    here stands c.new-numbers.ensures.items

pub loop-step-preserved : goal.loop-step-preserved
loop-step-preserved c = λ records are root task path here stands.
    let climbed = c.loop-step.invariant records are root task path here stands in
    let standing =
    standing_here records c.args.family.now c.args.index task c.standing_at.result are here
    c.standing_at.ensures root path stands in
    let deep : c.map_or-depth.result ≡ option_map_or (λ (s : Standing). s.depth) c.standing_at.result 0 =
    search rules in
    let depth : c.map_or-depth.result ≡ length path =
    deep ∙ ap (λ o. option_map_or (λ (s : Standing). s.depth) o 0) standing.1 ∙ standing.3 in
    let short : c.loop-step._step < length path = omega (arith, depth, c.loop-step-test.true) in
    elim c.match-link_at.branch [
      | in-Some+in_ok-push w ↦
          rw (w.current-is, w.numbers-is, w.in_ok-push.ensures.items)
          (climb_more records c.args.family.now root c.loop-step.current c.loop-step._step path
          c.loop-step.numbers.items w.in-Some.link are climbed short
          ((c.link_at.ensures w.in-Some.link).0 w.in-Some.is))
      | in_default w ↦
          let link =
          climb_link records c.args.family.now root c.loop-step.current c.loop-step._step path
          c.loop-step.numbers.items are climbed short in
          absurd (none-some link.0 (sym w.in_default.is ∙ (c.link_at.ensures link.0).1 link.1))
    ]

pub returns : goal.returns
returns c = λ records are root task path here stands.
    let climbed = c.loop-step.invariant records are root task path here stands in
    let standing =
    standing_here records c.args.family.now c.args.index task c.standing_at.result are here
    c.standing_at.ensures root path stands in
    let deep : c.map_or-depth.result ≡ option_map_or (λ (s : Standing). s.depth) c.standing_at.result 0 =
    search rules in
    let depth : c.map_or-depth.result ≡ length path =
    deep ∙ ap (λ o. option_map_or (λ (s : Standing). s.depth) o 0) standing.1 ∙ standing.3 in
    c.reverse.ensures.items
    ∙ climbed_all records c.args.family.now.tasks root c.loop-step.current c.loop-step._step path
    c.loop-step.numbers.items climbed (omega (arith, depth, c.loop-step-test.false))
