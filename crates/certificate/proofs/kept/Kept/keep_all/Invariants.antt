use Rattle.std.proofs.Common.{◌≡◌, ◌++◌, List, length}
use Rattle.std.specs.Vec.Iter.{into_iter_items, into_iter_len}
use Rattle.ompt_events.specs.declared.records.Record.{Record}
use Rattle.certificate.specs.Keeping.{HaveRoom}
use Rattle.certificate.proofs.kept.Kept.keep_all.Given as goal

-- the first records are kept, and the others are still to come
abbrev pub invariant-records : goal.invariant-records
invariant-records g l = record {
  first : List Record;
  parts : l.fn.records.items ≡ first ++ into_iter_items l.rest;
  counted : l.count ≡ length first;
  room : HaveRoom l.fn.self.records first;
  kept : l.self ≡ record { version = l.fn.self.version; records = l.fn.self.records ++ first };
}

abbrev pub decreases-records : goal.decreases-records
decreases-records g l = into_iter_len l.rest
