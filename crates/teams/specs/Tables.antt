-- What is known of the teams of a run before it is known that no member is missing.
use Rattle.std.specs.Prelude.{ℕ, List, length, Option}
use Rattle.std.specs.Global.{Vec}
use Rattle.task_tree.specs.Runs.{RunView, IsRun}
use Rattle.task_tree.specs.Own.{OwnView, IsOwn}
use Rattle.teams.specs.Teams.{AreBarrierBegins, AreBeginNumbers}
use Rattle.teams.specs.Members.{AreInTeams, AreSizes}
use Rattle.teams.specs.Fewest.{AreFewest}

-- the view of the tables: the run, whose records are in the tasks' own order; by number of a record its
-- place in the file; by index of the task the number of its team; by number of the team how many members it
-- has; by index of the task the places at which it begins barriers; by place of a record that begins one
-- how many its task began before; and by number of the team the least number of barriers that a member
-- begins
pub record TablesView : Type 0 where
  pub run : RunView
  pub places : List ℕ
  pub teams : List (Option ℕ)
  pub sizes : List ℕ
  pub begins : List (Vec ℕ)
  pub numbers : List ℕ
  pub fewest : List ℕ

-- the run with the places of its records
abbrev pub tables_own : TablesView → OwnView
tables_own tables = record { run = tables.run; places = tables.places }

-- all are those of the run
pub record AreTables (tables : TablesView) : Type 0 where
  pub run : IsRun tables.run
  pub placed : IsOwn (tables_own tables)
  pub teams : AreInTeams tables.run.records (length tables.run.records) tables.run.family.tasks tables.teams
  pub sizes : AreSizes tables.run.records (length tables.run.records) tables.run.family.tasks tables.sizes
  pub begins : AreBarrierBegins tables.run.records (length tables.run.records) tables.run.family.tasks
      tables.begins
  pub numbers : AreBeginNumbers tables.run.records (length tables.run.records) tables.numbers
  pub fewest : AreFewest tables.teams tables.begins (length tables.teams) tables.fewest
