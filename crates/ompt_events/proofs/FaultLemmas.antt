-- What is known once causes are looked for one after another.
use Rattle.std.proofs.Common.{ℕ, zero, suc, ◌<◌, List, [], ◌∷◌, refl, ap, subst, arith}
use Rattle.std.specs.Prelude.{Contains}
use Rattle.ompt_events.specs.declared.records.Record.{Record}
use Rattle.ompt_events.specs.declared.cause.Cause.{Cause}
use Rattle.ompt_events.specs.declared.fault.Fault.{Fault}
use Rattle.ompt_events.specs.declared.fault.Fault.TheVariants.{Memory, Malformed}
use Rattle.ompt_events.specs.CauseNames.{cause_number}
use Rattle.ompt_events.specs.Causes.{IsFreeOf, IsFirstWith, IsMalformed}
use Rattle.ompt_events.specs.Faults.{IsFault}

-- the first record with the only cause that is looked for
pub malformed_alone : (rs : List Record) (cause : Cause) (i : ℕ) → IsFirstWith rs cause i
    → IsMalformed rs (cause ∷ []) i cause
malformed_alone rs cause i first = record {
  sought_for = (0, omega arith, refl);
  found = first;
  least = alone;
}
  where
    alone : (other : Cause) → Contains (cause ∷ []) other → cause_number other < cause_number cause
        → IsFreeOf rs other
    alone other (zero, below, is) less = absurd (let e = ap cause_number is in omega arith)
    alone other (suc k, below, is) less = absurd (omega arith)

-- a cause that is looked for once the one before it does not occur
pub fault_next : (rs : List Record) (cause : Cause) (rest : List Cause) (fault : Fault) → IsFreeOf rs cause
    → IsFault rs rest fault → IsFault rs (cause ∷ rest) fault
fault_next rs cause rest Memory free is = tt
fault_next rs cause rest (Malformed i told) free is = record {
  sought_for = one is.sought_for;
  found = is.found;
  least = least;
}
  where
    one : Contains rest told → Contains (cause ∷ rest) told
    one (k, below, same) = (suc k, omega arith, same)

    least : (other : Cause) → Contains (cause ∷ rest) other → cause_number other < cause_number told
        → IsFreeOf rs other
    least other (zero, below, same) less = let P : Cause → Type 0 = IsFreeOf rs in subst P same free
    least other (suc k, below, same) less = is.least other (k, omega arith, same) less
