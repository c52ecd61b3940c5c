use Rattle.std.proofs.Common.{◌≡◌, ◌∙◌, ◌+◌, ◌<◌, length, sym, subst, arith, Some}
use Rattle.std.specs.Prelude.{slice_get, slice_set}
use Rattle.std.proofs.lemmas.Option.{slice_get_within, get_or_from_slice_get}
use Rattle.ompt_events.specs.declared.records.Record.{Record}
use Rattle.ompt_events.specs.Traces.{IsSound}
use Rattle.ompt_events.proofs.PlaceLemmas.{read_get}
use Rattle.certificate.specs.TaskTurns.{AreEnded, IsUpgradedUpTo}
use Rattle.certificate.proofs.TaskTurnLemmas.{is_noted, turns_more, ended_more}
use Rattle.certificate.proofs.UpgradeLemmas.{upgraded_more, upgraded_all, trace_of_two}
use Rattle.certificate.proofs.upgrading.tell_all.Goals as goal

pub tell-requires-clause-known : goal.tell-requires-clause-known
tell-requires-clause-known c =
    let rs = c.args.records.items in
    let i = c.loop-at.at in
    let r = c.index_mut.result.now in
    let within : i < length c.loop-at.records.items =
    omega (
      arith,
      c.loop-at-test.true,
      c.len-at-end.ensures,
      c.args.records.ok,
      c.loop-at.invariant.upgraded.all,
    ) in
    let stands : slice_get rs i ≡ Some r =
    sym (c.loop-at.invariant.upgraded.rest i (omega arith))
    ∙ read_get c.loop-at.records.items i r within c.index_mut.ensures.value in
    is_noted rs i r c.loop-at.table stands c.loop-at.invariant.turns

pub loop-at-preserved : goal.loop-at-preserved
loop-at-preserved c =
    let rs = c.args.records.items in
    let now = c.loop-at.records.items in
    let i = c.loop-at.at in
    let r = c.index_mut.result.now in
    let within : i < length now =
    omega (
      arith,
      c.loop-at-test.true,
      c.len-at-end.ensures,
      c.args.records.ok,
      c.loop-at.invariant.upgraded.all,
    ) in
    let stands : slice_get rs i ≡ Some r =
    sym (c.loop-at.invariant.upgraded.rest i (omega arith))
    ∙ read_get now i r within c.index_mut.ensures.value in
    let trace = c.requires.trace.is_trace in
    let sound : IsSound r.body =
    subst (λ (q : Record). IsSound q.body) (get_or_from_slice_get rs i r r stands)
    (trace.sound i r (slice_get_within rs i r stands)) in
    let told = sym c.tell.ensures.told in
    record {
      turns =
          turns_more rs i r c.loop-at.table c.tell.new.table stands c.loop-at.invariant.turns
          c.tell.ensures.noted;
      ended =
          subst (λ (s : Record). AreEnded (slice_set now i s) (i + 1) c.tell.new.table) told
          (ended_more rs now i r c.loop-at.table c.tell.new.table stands within c.loop-at.invariant.turns
          c.loop-at.invariant.ended c.tell.ensures.noted);
      upgraded =
          subst (λ (s : Record). IsUpgradedUpTo rs (i + 1) (slice_set now i s)) told
          (upgraded_more rs now i r c.loop-at.table stands trace.few_records sound
          c.loop-at.invariant.turns c.loop-at.invariant.ended c.loop-at.invariant.upgraded);
    }

pub from_parts-requires : goal.from_parts-requires
from_parts-requires c =
    trace_of_two c.args.records.items c.loop-at.records.items c.loop-at.at c.requires.trace
    (omega (
      arith,
      c.loop-at-test.false,
      c.len-at-end.ensures,
      c.args.records.ok,
      c.loop-at.invariant.upgraded.all,
    ))
    c.loop-at.invariant.upgraded

pub returns-clause-upgrade : goal.returns-clause-upgrade
returns-clause-upgrade c =
    let up =
    upgraded_all c.args.records.items c.loop-at.records.items c.loop-at.at
    (omega (
      arith,
      c.loop-at-test.false,
      c.len-at-end.ensures,
      c.args.records.ok,
      c.loop-at.invariant.upgraded.all,
    ))
    c.loop-at.invariant.upgraded in
    rw c.from_parts.ensures up
