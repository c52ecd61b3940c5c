use Rattle.std.proofs.Common.{◌++◌, ◌∷◌, [], arith, length-append}
use Rattle.std.specs.Vec.Iter.{into_iter_items}
use Rattle.ompt_events.specs.Traces.{FitsIn}
use Rattle.certificate.proofs.RoomLemmas.{HaveRoom-length, kept_first, kept_more, next_so, parts_more}
use Rattle.certificate.proofs.kept.Kept.keep_all.Goals as goal

pub keep-requires : goal.keep-requires
keep-requires g c =
    let now = c.records.invariant in
    rw now.kept
    (next_so (FitsIn c.args.self.now.version) c.args.records.items now.first (into_iter_items c.records.rest)
    (into_iter_items c.next.new.self) c.in-Some.event c.requires now.parts c.in-Some.ensures.items)

pub records-preserved : goal.records-preserved
records-preserved g c =
    let now = c.records.invariant in
    let later = into_iter_items c.next.new.self in
    let event = c.in-Some.event in
    let more =
    kept_more c.args.self.now c.records.self c.keep.new.self now.first event now.kept now.room
    c.in_default-keep.ensures in
    record {
      first = now.first ++ event ∷ [];
      parts =
          parts_more c.args.records.items now.first (into_iter_items c.records.rest) later event now.parts
          c.in-Some.ensures.items;
      counted = omega (arith, now.counted, length-append now.first (event ∷ []));
      room = more.0;
      kept = more.1;
    }

pub returns-in-Err-clause-first : goal.returns-in-Err-clause-first
returns-in-Err-clause-first g c =
    let now = c.records.invariant in
    kept_first c.args.self.now c.records.self c.keep.new.self c.args.records.items now.first
    (into_iter_items c.records.rest) (into_iter_items c.next.new.self) c.in-Some.event c.records.count
    c.in-Err.cause now.parts c.in-Some.ensures.items now.counted now.room now.kept c.in-Err.ensures

pub returns-in-Err-clause-few : goal.returns-in-Err-clause-few
returns-in-Err-clause-few g c =
    let now = c.records.invariant in
    λ few.
    let all = HaveRoom-length c.args.self.now.records now.first few now.room in
    omega (arith, all, now.counted)

pub returns-clause-few : goal.returns-clause-few
returns-clause-few g c =
    let now = c.records.invariant in
    λ few.
    let all = HaveRoom-length c.args.self.now.records now.first few now.room in
    omega (arith, all, now.counted)
