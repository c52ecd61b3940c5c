-- What a call of `upgrade` answers.
use Rattle.std.specs.Prelude.{ℕ, ◌≡◌, ◌≢◌, List}
use Rattle.ompt_events.specs.declared.records.Record.{Record}
use Rattle.ompt_events.specs.Traces.{TraceView}
use Rattle.ompt_events.specs.Upgrades.{MovesFirst, MovesNowhere, IsUpgrade, IsRelabelled}
use Rattle.certificate.specs.declared.faults.UpgradeFault.{UpgradeFault}
use Rattle.certificate.specs.declared.faults.UpgradeFault.TheVariants.{Memory, Moved}

-- a trace, and what it is in version 2
pub data IsUpgraded (old new : TraceView) : Type 0 where
  already : old.version ≢ 1 → new ≡ old → IsUpgraded old new
  upgraded : old.version ≡ 1 → new.version ≡ 2 → MovesNowhere old.records → IsUpgrade old.records new.records
      → IsUpgraded old new

-- a trace, and what it is in version 3 where it is of version 2
pub data IsInVersion3 (old new : TraceView) : Type 0 where
  as_it_was : old.version ≢ 2 → new ≡ old → IsInVersion3 old new
  relabelled : old.version ≡ 2 → new.version ≡ 3 → IsRelabelled old.records new.records
      → IsInVersion3 old new

-- a trace, and what it is in this version, 2 or 3, or a newer one
pub data IsUpgradedTo (version : ℕ) (old new : TraceView) : Type 0 where
  second : version ≡ 2 → IsUpgraded old new → IsUpgradedTo version old new
  third : version ≡ 3 → (between : TraceView) → IsUpgraded old between → IsInVersion3 between new
      → IsUpgradedTo version old new

-- why the records of version 1 are not upgraded
pub data IsRefusal (rs : List Record) : UpgradeFault → Type 0 where
  memory : IsRefusal rs Memory
  moved : (at : ℕ) → MovesFirst rs at → IsRefusal rs (Moved at)
