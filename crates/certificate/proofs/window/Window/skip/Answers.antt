use Rattle.std.proofs.Common.{◌≤◌, ◌+◌, length, drop, arith, ap, ◌∙◌}
use Rattle.certificate.proofs.WindowLemmas.{length-slice_range, slice_range-skip}
use Rattle.certificate.proofs.window.Window.skip.Goals as goal

pub returns : goal.returns
returns c =
    let w = c.self.inside in
    let within : w.start + c.args.count ≤ w.end =
    omega
    (arith, length-slice_range w.bytes.items w.start w.end (omega arith), ap length c.self.view_is) in
    slice_range-skip w.bytes.items w.start w.end c.args.count within ∙ ap (drop c.args.count) c.self.view_is
