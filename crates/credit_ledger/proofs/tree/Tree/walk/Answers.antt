use Rattle.std.proofs.Common.{sym, ◌∙◌, ap, get_or, arith}
use Rattle.credit_ledger.specs.declared.tree.Node.{Node}
use Rattle.credit_ledger.specs.Links.{spot_of, found}
use Rattle.credit_ledger.specs.Trees.{child, time_within}
use Rattle.credit_ledger.proofs.TreeLemmas.{place-missing, time_above-found, time_above-stopped}
use Rattle.credit_ledger.proofs.tree.Tree.walk.Goals as goal

pub returns-in-Some : goal.returns-in-Some
returns-in-Some c =
    (time_above-found c.args.self.now c.args.runs.now c.runs.depth c.runs.index c.in-Some.time (omega arith)
    c.runs.invariant.place c.runs.invariant.none
    (ap (λ (node : Node). time_within node.progress.run (get_or c.args.runs.now c.runs.depth 0))
    (sym c.node.ensures)
    ∙ sym c.ended_within.ensures ∙ c.in-Some.is))

pub returns-in-Missing : goal.returns-in-Missing
returns-in-Missing c =
    let spot =
    ap (λ links. spot_of links c.runs.index (get_or c.args.runs.now c.runs.depth 0))
    (sym c.as_slice.ensures.value)
    ∙ sym c.search.ensures ∙ c.in-Missing.is in (
      time_above-stopped c.args.self.now c.args.runs.now c.runs.depth c.runs.index (omega arith)
          c.runs.invariant.place c.runs.invariant.none
          (ap (λ (node : Node). time_within node.progress.run (get_or c.args.runs.now c.runs.depth 0))
          (sym c.node.ensures)
          ∙ sym c.ended_within.ensures ∙ c.in_default.is)
          (ap found spot),
      place-missing (child c.args.self.now) c.args.runs.now c.runs.depth c.runs.index (omega arith)
          c.runs.invariant.place (ap found spot),
      (c.runs.invariant.depth, c.runs.invariant.place, λ less. spot),
    )
