-- When the tables of a family are those of the records, whether or not these name only tasks with roots.
use Rattle.std.specs.Prelude.{◌≡◌, List, length, IsTrue}
use Rattle.ompt_events.specs.declared.records.Record.{Record}
use Rattle.ompt_events.specs.declared.cause.Cause.TheVariants.{CreatedTwice}
use Rattle.ompt_events.specs.Records.{made}
use Rattle.ompt_events.specs.Causes.{IsFreeOf}
use Rattle.packed_trace.specs.Named.{subject, object}
use Rattle.packed_trace.specs.Packed.{forked_region}
use Rattle.task_tree.specs.Subjects.{AreFound}
use Rattle.task_tree.specs.Makers.{AreNoted, AreMade, begun_regions}
use Rattle.task_tree.specs.Links.{AreLinks}
use Rattle.task_tree.specs.Rows.{AreChildren}
use Rattle.task_tree.specs.Roots.{AreRoots}
use Rattle.task_tree.specs.Rootless.{AllNameKnown}
use Rattle.task_tree.specs.declared.tables.Tables.{Tables}

-- each table is right for all records, which make each task and each parallel region once
pub record AreTablesOf (rs : List Record) (tables : Tables) : Type 0 where
  pub noted : AreNoted made rs (length rs) tables.tasks
  pub makers : AreMade rs (length rs) tables.tasks tables.places.items
  pub regions : AreNoted forked_region rs (length rs) tables.regions
  pub begun : tables.regions ≡ begun_regions rs
  pub subjects : AreFound subject rs (length rs) tables.tasks tables.named.subjects.items
  pub objects : AreFound object rs (length rs) tables.tasks tables.named.objects.items
  pub known : IsTrue tables.named.known → AllNameKnown rs (length rs) tables.tasks tables.regions
  pub children : AreChildren rs tables.tasks tables.rows
  pub links : AreLinks rs (length rs) tables.tasks tables.links.items
  pub roots : AreRoots rs tables.tasks tables.roots.items
  pub once : IsFreeOf rs CreatedTwice
