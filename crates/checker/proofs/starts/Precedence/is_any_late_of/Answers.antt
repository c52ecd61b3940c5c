use Rattle.std.proofs.Common.{◌≡◌, ◌∙◌, ◌<◌, length, sym, arith}
use Rattle.std.proofs.lemmas.Bool.{ltb-true, lt-ltb}
use Rattle.std.proofs.lemmas.List.{get_or_default}
use Rattle.std.specs.Prelude.{slice_index}
use Rattle.checker.proofs.FindingsLemmas.{late_by_latest}
use Rattle.checker.proofs.starts.Precedence.is_any_late_of.Goals as goal

pub returns : goal.returns
returns c =
    let run = c.self.inside.own.now.run in
    let known = c.self.invariant in
    let latest = c.self.inside.latest.items in
    let within : c.args.index < length run.family.tasks = rw (← c.self.view_is) at c.requires in
    let all = known.latest.all in
    let read : slice_index latest c.args.index ≡ c.index.result.now =
    get_or_default latest c.args.index 0 c.index.result.now (omega (arith, within, all))
    ∙ sym c.index.ensures in
    rw (← c.self.view_is, c.from.ensures, ← read)
    (λ task there.
    let exact =
    late_by_latest run.records run.family.tasks c.self.inside.lengths.now latest c.args.index task
    c.args.bound known.is_own.run.family.noted known.lengths known.latest there c.ranges.bound.fits in
    (λ more. exact.0 (ltb-true _ _ more), λ late. lt-ltb _ _ (exact.1 late)))
