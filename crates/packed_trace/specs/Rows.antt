-- What the columns have of one record.
use Rattle.std.specs.Prelude.{◌≡◌}
use Rattle.ompt_events.specs.declared.records.Body.{Body}
use Rattle.ompt_events.specs.Traces.{HasItsNext}
use Rattle.packed_trace.specs.Packed.{act_of, ids_of, numbers_of}
use Rattle.packed_trace.specs.declared.row.Row.{Row}

-- it is that of the body
pub record IsRowOf (body : Body) (row : Row) : Type 0 where
  pub act : act_of body ≡ row.act
  pub ids : ids_of body ≡ row.ids
  pub numbers : numbers_of body ≡ row.numbers
  -- there is a next task exactly where the status demands one
  pub next : HasItsNext body
