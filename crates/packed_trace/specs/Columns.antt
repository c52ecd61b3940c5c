-- When columns are those of records.
use Rattle.std.specs.Prelude.{ℕ, ◌≡◌, List, map}
use Rattle.ompt_events.specs.declared.records.Record.{Record}
use Rattle.ompt_events.specs.Records.{claim}
use Rattle.ompt_events.specs.Traces.{IsTraceOf}
use Rattle.packed_trace.specs.declared.columns.Columns.{Columns}
use Rattle.packed_trace.specs.Packed.{ids_of, listed_deps, numbers_of, packed}
use Rattle.packed_trace.specs.Sparse.{AreSparse}

-- each column has what it keeps of each record
pub record AreColumns (rs : List Record) (columns : Columns) : Type 0 where
  pub events : columns.events.items ≡ map packed rs
  pub ids : columns.ids ≡ map (λ (r : Record). ids_of r.body) rs
  pub numbers : columns.numbers.items ≡ map (λ (r : Record). numbers_of r.body) rs
  pub seqs : columns.seqs.items ≡ map (λ (r : Record). r.seq) rs
  pub claims : AreSparse claim rs columns.claims.places.items columns.claims.items.items
  pub lists : AreSparse listed_deps rs columns.lists.places.items columns.lists.items.items

-- the records are a trace of the version, and the columns are theirs
pub record IsPacked (version : ℕ) (rs : List Record) (columns : Columns) : Type 0 where
  pub trace : IsTraceOf version rs
  pub are : AreColumns rs columns
