-- What the trace shows once causes are looked for one after another.
use Rattle.std.proofs.Common.{◌≡◌, ℕ, zero, suc, ◌<◌, List, [], ◌∷◌, sym, ap, subst, arith}
use Rattle.std.specs.Prelude.{◌↔◌, Contains}
use Rattle.ompt_events.specs.declared.records.Record.{Record}
use Rattle.ompt_events.specs.declared.cause.Cause.{Cause}
use Rattle.ompt_events.specs.declared.fault.Fault.{Fault}
use Rattle.ompt_events.specs.declared.fault.Fault.TheVariants.{Memory, Malformed}
use Rattle.ompt_events.specs.CauseNames.{cause_number}
use Rattle.ompt_events.specs.Causes.{HasCause, Shows, ShowsNowhere}
use Rattle.ompt_events.specs.Faults.{IsFault, IsShownFault}

-- the only cause that is looked for
one : (cause told : Cause) → Contains (cause ∷ []) told → cause ≡ told
one cause told (zero, below, same) = same
one cause told (suc k, below, same) = absurd (omega arith)

-- a cause that the trace shows where a record has it
pub shown_alone : (rs : List Record) (cause : Cause) (fault : Fault)
    → ((i : ℕ) → Shows rs i cause ↔ HasCause rs i cause) → IsFault rs (cause ∷ []) fault
    → IsShownFault rs (cause ∷ []) fault
shown_alone rs cause Memory same is = tt
shown_alone rs cause (Malformed i told) same is = record {
  sought_for = is.sought_for;
  found = record {
    within = is.found.within;
    shown = (alike i).1 is.found.has;
    first = λ k below shown. is.found.first k below ((alike k).0 shown);
  };
  least =
      λ other has less.
      absurd
      (let e = ap cause_number (one cause told is.sought_for) in
      let f = ap cause_number (one cause other has) in omega (arith, e, f, less));
}
  where
    alike : (k : ℕ) → Shows rs k told ↔ HasCause rs k told
    alike k =
        let P : Cause → Type 0 = λ c. Shows rs k c ↔ HasCause rs k c in
        subst P (one cause told is.sought_for) (same k)

-- a cause that is looked for first, then others
pub shown_before : (rs : List Record) (cause : Cause) (rest : List Cause) (fault : Fault)
    → ((other : Cause) → Contains rest other → cause_number other < cause_number cause → ⊥)
    → IsShownFault rs (cause ∷ []) fault → IsShownFault rs (cause ∷ rest) fault
shown_before rs cause rest Memory above is = tt
shown_before rs cause rest (Malformed i told) above is = record {
  sought_for = (0, omega arith, one cause told is.sought_for);
  found = is.found;
  least = least;
}
  where
    least : (other : Cause) → Contains (cause ∷ rest) other → cause_number other < cause_number told
        → ShowsNowhere rs other
    least other (zero, below, same) less =
        absurd
        (let e = ap cause_number (sym same) in
        let f = ap cause_number (sym (one cause told is.sought_for)) in omega (arith, e, f, less))
    least other (suc k, below, same) less =
        absurd
        (above other (k, omega arith, same)
        (let f = ap cause_number (one cause told is.sought_for) in omega (arith, f, less)))

-- a cause that is looked for once the trace does not show the one before it
pub shown_after : (rs : List Record) (cause : Cause) (rest : List Cause) (fault : Fault)
    → ShowsNowhere rs cause → IsShownFault rs rest fault → IsShownFault rs (cause ∷ rest) fault
shown_after rs cause rest Memory free is = tt
shown_after rs cause rest (Malformed i told) free is = record {
  sought_for = more is.sought_for;
  found = is.found;
  least = least;
}
  where
    more : Contains rest told → Contains (cause ∷ rest) told
    more (k, below, same) = (suc k, omega arith, same)

    least : (other : Cause) → Contains (cause ∷ rest) other → cause_number other < cause_number told
        → ShowsNowhere rs other
    least other (zero, below, same) less = let P : Cause → Type 0 = ShowsNowhere rs in subst P same free
    least other (suc k, below, same) less = is.least other (k, omega arith, same) less
