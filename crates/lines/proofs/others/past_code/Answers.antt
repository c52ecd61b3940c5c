use Rattle.std.proofs.Common.{codes, refl}
use Rattle.json.specs.Print.{escape_byte}
use Rattle.lines.specs.MemberNames.{all_members}
use Rattle.lines.specs.Members.{value_named}
use Rattle.lines.proofs.others.past_code.Goals as goal

pub returns : goal.returns
unfolding all_members value_named escape_byte
returns c = record { name = codes "codeptr"; other = refl; plain = refl; takes = c.in_ok-behind.ensures }
