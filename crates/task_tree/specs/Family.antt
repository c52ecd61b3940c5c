-- When a family is that of the records.
use Rattle.std.specs.Prelude.{ℕ, ◌≡◌, ◌<◌, ◌+◌, List, length, Option, Some, slice_get}
use Rattle.std.specs.declared.hash.FoldHasher.{FoldHasher}
use Rattle.ompt_events.specs.declared.records.Record.{Record}
use Rattle.ompt_events.specs.declared.cause.Cause.TheVariants.{CreatedTwice, Rootless}
use Rattle.ompt_events.specs.Records.{made}
use Rattle.ompt_events.specs.Places.{at}
use Rattle.packed_trace.specs.Named.{subject, object}
use Rattle.task_tree.specs.Subjects.{AreFound}
use Rattle.ompt_events.specs.Causes.{IsFreeOf}
use Rattle.task_tree.specs.declared.links.Link.{Link}
use Rattle.task_tree.specs.declared.roots.Standing.{Standing}
use Rattle.task_tree.specs.Makers.{AreNoted, AreMade, begun_regions}
use Rattle.task_tree.specs.Links.{AreLinks}
use Rattle.index_tables.specs.Rows.{RowsView}
use Rattle.index_tables.specs.Seeded.{hasher_of}
use Rattle.task_tree.specs.Rows.{AreChildren}
use Rattle.task_tree.specs.Roots.{AreRoots}

-- the view of a family: the tasks in the order in which they are made; by index of the task the place of
-- the record that makes it, the row of its children, its link to its parent and its root; by place of the
-- record the indices of the tasks that it names; and the hashers of a table of the
-- regions that begin
pub record FamilyView : Type 0 where
  pub tasks : List ℕ
  pub places : List ℕ
  pub subjects : List (Option ℕ)
  pub objects : List (Option ℕ)
  pub rows : RowsView
  pub links : List (Option Link)
  pub roots : List (Option Standing)
  pub region_hashers : FoldHasher

-- there is one entry for each task
abbrev pub AreAligned : List ℕ → List ℕ → RowsView → List (Option Link) → List (Option Standing) → Type 0
AreAligned tasks places rows links roots =
    (length rows.offsets ≡ length tasks + 1) × (length links ≡ length tasks) × (length roots ≡ length tasks)
    × (length places ≡ length tasks)

-- each table is right for all records, which make each task once and name only tasks with roots
pub record IsFamilyOf (rs : List Record) (family : FamilyView) : Type 0 where
  pub noted : AreNoted made rs (length rs) family.tasks
  pub makers : AreMade rs (length rs) family.tasks family.places
  pub subjects : AreFound subject rs (length rs) family.tasks family.subjects
  pub objects : AreFound object rs (length rs) family.tasks family.objects
  pub children : AreChildren rs family.tasks family.rows
  pub links : AreLinks rs (length rs) family.tasks family.links
  pub roots : AreRoots rs family.tasks family.roots
  pub once : IsFreeOf rs CreatedTwice
  pub rooted : IsFreeOf rs Rootless

-- the hashers of a table of regions have the seed of those that the records begin
abbrev pub HasRegionSeed : List Record → FamilyView → Type 0
HasRegionSeed rs family = family.region_hashers ≡ hasher_of (begun_regions rs)

-- the tasks are in the order in which the records make them
abbrev pub AreInFileOrder : List Record → List ℕ → Type 0
AreInFileOrder rs tasks =
    (a b first second place later : ℕ) → a < b → slice_get tasks a ≡ Some first
    → slice_get tasks b ≡ Some second
    → at made rs place ≡ Some first → at made rs later ≡ Some second → place < later

-- what the tables say of a task
abbrev pub IsLinkOf : FamilyView → ℕ → Link → Type 0
IsLinkOf family task link =
    (index : ℕ) × (slice_get family.tasks index ≡ Some task)
    × (slice_get family.links index ≡ Some (Some link))

abbrev pub IsStandingOf : FamilyView → ℕ → Standing → Type 0
IsStandingOf family task standing =
    (index : ℕ) × (slice_get family.tasks index ≡ Some task)
    × (slice_get family.roots index ≡ Some (Some standing))
