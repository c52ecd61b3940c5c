use Rattle.std.proofs.Common.{ap, arith}
use Rattle.certificate.specs.Blocks.{BlockView}
use Rattle.certificate.proofs.WindowLemmas.{Keeps-filled}
use Rattle.certificate.proofs.blocks.Block.read.Goals as goal

pub returns-clause-bytes : goal.returns-clause-bytes
returns-clause-bytes g c =
    let w = c.self.inside in
    Keeps-filled (g.S.Source.remaining c.args.source.now) (g.S.Source.remaining c.read_at.new.source)
    c.args.self.now.waiting w.bytes.items c.read_at.new.bytes.items 0 w.end c.in_ok-count.count
    (omega arith) c.read_at.ensures.front (ap (λ (v : BlockView). v.waiting) c.self.view_is)
    c.in_ok-count.ensures.bytes.0
