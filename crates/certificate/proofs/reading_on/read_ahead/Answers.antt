use Rattle.std.proofs.Common.{◌≡◌, Ok, Some, None, refl, arith, ap}
use Rattle.certificate.specs.Blocks.{BlockView}
use Rattle.certificate.specs.Formats.{fault_in}
use Rattle.certificate.specs.ReadingOn.{room_of}
use Rattle.certificate.proofs.CountLemmas.{TakesTurns-none}
use Rattle.certificate.proofs.EndLemmas.{answer_trace, answer_fault}
use Rattle.certificate.proofs.AheadLemmas.{reads_ahead}
use Rattle.certificate.proofs.reading_on.read_ahead.Goals as goal

pub returns-in_default-clause-device : goal.returns-in_default-clause-device
returns-in_default-clause-device g c =
    (0, record { met = None; taken = TakesTurns-none 0 _ (omega arith); broken = refl; told_after = tt })

pub returns-in_default-new-clause-device : goal.returns-in_default-new-clause-device
returns-in_default-new-clause-device g c =
    (0, record { met = None; taken = TakesTurns-none 0 _ (omega arith); broken = refl; told_after = tt })

pub returns-in-Err-clause-file : goal.returns-in-Err-clause-file
returns-in-Err-clause-file g c =
    let room = room_of c.args.hands.now.workers c.args.hands.now.block in
    let limit : c.in-Ok.front.limit ≡ c.limit_of-limit.result =
    ap (λ (b : BlockView). b.limit) c.in-Ok.ensures in
    answer_fault (g.S.Source.remaining c.args.source.now) room
    (fault_in c.start.new.ahead.line c.in-Err.cause) (g.S.Source.remaining c.start.new.source)
    (c.in-Err.ensures.after room (rw limit c.limit_of-limit.ensures.room))

pub rounds-preserved : goal.rounds-preserved
rounds-preserved g c =
    let now = c.rounds.invariant in
    let call = c.in-Ok-true.ensures in
    let known = g.S.Source.remaining c.args.source.now in
    record {
      ready = call.ready (ap Ok c.in-Ok-true.field-0-test);
      waits =
          rw c.in-Ok-true.field-0-test
          at (call.after known (room_of c.args.hands.now.workers c.args.hands.now.block) now.room now.waits);
      room = rw call.limit now.room;
      met = call.met 0 (g.S.Source.agains c.args.source.now) (g.S.Source.breaks c.args.source.now) now.met;
    }

pub returns-in-Ok-false-clause-file : goal.returns-in-Ok-false-clause-file
returns-in-Ok-false-clause-file g c =
    let now = c.rounds.invariant in
    let known = g.S.Source.remaining c.args.source.now in
    let room = room_of c.args.hands.now.workers c.args.hands.now.block in
    let ended =
    rw c.in-Ok-false.field-0-test at (c.in-Ok-false.ensures.after known room now.room now.waits) in
    answer_trace known room c.round.new.ahead.kept (g.S.Source.remaining c.round.new.source) ended

pub returns-in-Ok-false-clause-device : goal.returns-in-Ok-false-clause-device
returns-in-Ok-false-clause-device g c =
    let call = c.in-Ok-false.ensures in
    let agains = g.S.Source.agains c.args.source.now in
    let breaks = g.S.Source.breaks c.args.source.now in
    reads_ahead None c.round.new.ahead agains breaks (g.S.Source.agains c.round.new.source)
    (g.S.Source.breaks c.round.new.source) (call.met 0 agains breaks c.rounds.invariant.met)
    (call.ended (ap Ok c.in-Ok-false.field-0-test))

pub returns-in-Err-round-clause-file : goal.returns-in-Err-round-clause-file
returns-in-Err-round-clause-file g c =
    let now = c.rounds.invariant in
    let known = g.S.Source.remaining c.args.source.now in
    let room = room_of c.args.hands.now.workers c.args.hands.now.block in
    answer_fault known room (fault_in c.round.new.ahead.line c.in-Err-round.cause)
    (g.S.Source.remaining c.round.new.source)
    (c.in-Err-round.ensures.after known room now.room now.waits)

pub returns-in-Err-round-clause-device : goal.returns-in-Err-round-clause-device
returns-in-Err-round-clause-device g c =
    let call = c.in-Err-round.ensures in
    let agains = g.S.Source.agains c.args.source.now in
    let breaks = g.S.Source.breaks c.args.source.now in
    reads_ahead (Some c.in-Err-round.cause) c.round.new.ahead agains breaks
    (g.S.Source.agains c.round.new.source) (g.S.Source.breaks c.round.new.source)
    (call.met 0 agains breaks c.rounds.invariant.met) call.told
