use Rattle.credit_ledger.specs.Places.{ledger_id}
use Rattle.scripts.specs.Parts.{views_of}
use Rattle.scripts.proofs.running.run.Given as goal

-- the run is of this ledger, this script and these seats
abbrev pub ghosts-recorded : goal.ghosts-recorded
ghosts-recorded g a = record {
  ledger = ledger_id a.ahead.ledger;
  script = a.ahead.script;
  seats = views_of a.ahead.seats.items;
}
