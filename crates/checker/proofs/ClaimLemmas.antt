-- Which records have a wrong claim.
use Rattle.std.proofs.Common.{ℕ, List, Bool}
use Rattle.std.specs.Prelude.{◌↔◌, IsTrue}
use Rattle.ompt_events.specs.declared.records.Record.{Record}
use Rattle.ompt_events.specs.declared.cause.Cause.TheVariants.{ShareWrong}
use Rattle.ompt_events.specs.Causes.{HasCause, HasWrongShare, share_wrong}

wrong : (rs : List Record) (i : ℕ) → HasCause rs i ShareWrong → HasWrongShare rs i
wrong rs i (share_wrong has) = has

-- what is decided of the claim is decided of the cause
pub wrong_is_cause : (rs : List Record) (i : ℕ) (shows : Bool) → IsTrue shows ↔ HasWrongShare rs i
    → IsTrue shows ↔ HasCause rs i ShareWrong
wrong_is_cause rs i shows is = (λ holds. share_wrong (is.0 holds), λ has. is.1 (wrong rs i has))
