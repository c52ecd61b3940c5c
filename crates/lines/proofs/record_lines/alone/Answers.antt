use Rattle.std.proofs.Common.{◌≡◌, ◌∙◌, [], refl, subst, sym, ap}
use Rattle.lines.specs.RecordLines.{line_says}
use Rattle.lines.specs.Texts.{Takes}
use Rattle.lines.proofs.FrontLemmas.{nothing_behind}
use Rattle.lines.proofs.KnownLemmas.{line-of-version}
use Rattle.lines.proofs.TakeLemmas.{Takes-whole}
use Rattle.lines.proofs.record_lines.alone.Goals as goal

pub returns-then-is_sound_in : goal.returns-then-is_sound_in
returns-then-is_sound_in c =
    let front =
    line-of-version c.args.version c.args.line.now c.args.event c.nests_in.result c.args.behind.now
    c.nests_in.ensures c.read_numbers.ensures (c.is_sound_in.ensures.0 c.if-is_sound_in.true) c.requires in
    let none : c.args.behind.now ≡ [] =
    nothing_behind c.args.behind.now (sym c.is_empty.ensures ∙ c.if-is_empty.true) in
    let whole : c.args.line.now ≡ front.line =
    Takes-whole c.args.line.now front.line front.line refl
    (subst (λ bytes. Takes c.args.line.now front.line bytes) none front.takes) in
    ap (line_says c.args.version) whole ∙ front.says
