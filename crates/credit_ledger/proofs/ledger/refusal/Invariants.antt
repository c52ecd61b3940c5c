use Rattle.std.proofs.Common.{◌≡◌, take, false}
use Rattle.std.specs.List.{list_any}
use Rattle.credit_ledger.specs.Entries.{is_overlap}
use Rattle.credit_ledger.proofs.ledger.refusal.Given as goal

abbrev pub invariant-entries : goal.invariant-entries
invariant-entries l = list_any (is_overlap l.entry) (take l.index l.entries) ≡ false
