use Rattle.probe.proofs.recorders.random.run.Given as goal

-- the notes are of the program's ledger
abbrev pub ghosts-recorded : goal.ghosts-recorded
ghosts-recorded g a = record { ledger = a.ledger.now.board.shared.table_id }
