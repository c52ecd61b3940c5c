use Rattle.std.proofs.Common.{◌∙◌, arith}
use Rattle.certificate.proofs.WindowLemmas.{Keeps-filled, slice_range-filled_none}
use Rattle.certificate.proofs.window.Window.fill.Goals as goal

pub returns-clause-bytes : goal.returns-clause-bytes
returns-clause-bytes g c =
    let r = c.make_room-start.result in
    Keeps-filled (g.S.Source.remaining c.args.source.now) (g.S.Source.remaining c.read_at.new.source)
    c.args.self.now c.make_room-start.new.bytes.items c.read_at.new.bytes.items r.0 r.2
    c.in_ok-count.count
    (omega (arith, c.make_room-start.ensures.window.low, c.make_room-start.ensures.window.middle))
    c.read_at.ensures.front (c.make_room-start.ensures.same ∙ c.self.view_is) c.in_ok-count.ensures.bytes.0

pub returns-clause-none : goal.returns-clause-none
returns-clause-none g c =
    let r = c.make_room-start.result in
    λ none.
    slice_range-filled_none c.args.self.now c.make_room-start.new.bytes.items c.read_at.new.bytes.items
    r.0 r.2 c.in_ok-count.count
    (omega (arith, c.make_room-start.ensures.window.low, c.make_room-start.ensures.window.middle))
    c.read_at.ensures.front (c.make_room-start.ensures.same ∙ c.self.view_is) (cc)
