use Rattle.std.proofs.Common.{sym}
use Rattle.lines.proofs.SoundLemmas.{line_says-sound}
use Rattle.certificate.proofs.laws.lines_are_sound.Goals as goal

pub returns : goal.returns
returns c = λ version line event says. line_says-sound version line event (sym says)
