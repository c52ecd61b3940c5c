use Rattle.json.specs.Print.{escape_byte}
use Rattle.lines.specs.Texts.{flag_names}
use Rattle.lines.proofs.parts.explicit_alone.Goals as goal

pub returns : goal.returns
unfolding flag_names escape_byte
returns c = c.after.ensures
