-- What an answer of std's says here.
use Rattle.std.specs.Prelude.{ℕ, ◌≡◌, ◌↔◌, Result, Ok, Err}
use Rattle.std.specs.Result.{result_map_both}
use Rattle.std.specs.IoError.{error_kind}
use Rattle.std.specs.declared.io.Error.{Error}
use Rattle.std.specs.declared.io.ErrorKind.{ErrorKind}
use Rattle.std.specs.declared.io.ErrorKind.TheVariants.{Interrupted}
use Rattle.certificate.specs.declared.device.DeviceFault.{DeviceFault}
use Rattle.certificate.specs.declared.device.DeviceFault.TheVariants.{Again}

-- an answer of std's, of an error its kind
abbrev pub answer_of : Result ℕ Error → Result ℕ ErrorKind
answer_of answer = result_map_both (λ n. n) error_kind answer

-- the same answer here: an interrupted call may be made again, and after any other error the device is broken
abbrev pub Tells : Result ℕ ErrorKind → Result ℕ DeviceFault → Type 0
Tells (Ok n) (Ok count) = count ≡ n
Tells (Err kind) (Err fault) = (fault ≡ Again) ↔ (kind ≡ Interrupted)
Tells _ _ = ⊥
