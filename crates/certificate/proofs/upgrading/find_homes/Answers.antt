use Rattle.std.proofs.Common.{below_more, arith}
use Rattle.ompt_events.specs.Records.{started}
use Rattle.ompt_events.proofs.PlaceLemmas.{read_get, at_within}
use Rattle.certificate.specs.Upgrading.{memory, moved}
use Rattle.certificate.proofs.TaskTurnLemmas.{homes_more, moves, stays_home}
use Rattle.certificate.proofs.upgrading.find_homes.Goals as goal

pub returns-in-Ok-false-clause-refused : goal.returns-in-Ok-false-clause-refused
returns-in-Ok-false-clause-refused c =
    let rs = c.args.records.now in
    let i = c.loop-at.at in
    let r = c.index-records-at.result in
    let stands = read_get rs i r c.loop-at-test.true c.index-records-at.is in
    moved i (record {
      moves =
          moves rs i r c.loop-at.table c.note_begin.new.table stands c.loop-at.invariant.homes c.in-Ok.ensures
          (c.in-Ok-false.ensures.moves c.in-Ok-false.field-0-test);
      first = c.loop-at.invariant.stay;
    })

pub loop-at-preserved : goal.loop-at-preserved
loop-at-preserved c =
    let rs = c.args.records.now in
    let i = c.loop-at.at in
    let r = c.index-records-at.result in
    let stands = read_get rs i r c.loop-at-test.true c.index-records-at.is in
    record {
      homes =
          homes_more rs i r c.loop-at.table c.note_begin.new.table c.note_start.new.table stands
          c.loop-at.invariant.homes c.in-Ok.ensures (c.in-Ok-true.ensures.stays c.in-Ok-true.field-0-test)
          (c.in-Ok-true.ensures.noted c.in-Ok-true.field-0-test);
      stay =
          below_more _ _ c.loop-at.invariant.stay
          (stays_home rs i r c.loop-at.table c.note_begin.new.table stands c.loop-at.invariant.homes
          c.in-Ok.ensures (c.in-Ok-true.ensures.stays c.in-Ok-true.field-0-test));
    }

pub returns-clause-stay : goal.returns-clause-stay
returns-clause-stay c =
    λ i move.
    c.loop-at.invariant.stay i
    (let within = at_within started c.args.records.now i move.task move.next in
    omega (arith, within, c.loop-at-test.false))
    move

pub returns-in-Err-clause-refused : goal.returns-in-Err-clause-refused
returns-in-Err-clause-refused c = memory

pub returns-in-Err-note_start-clause-refused : goal.returns-in-Err-note_start-clause-refused
returns-in-Err-note_start-clause-refused c = memory
