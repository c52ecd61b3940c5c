use Rattle.std.proofs.Common.{◌≡◌, ◌∙◌, ◌<◌, ◌≤◌, ◌+◌, ◌++◌, ◌∷◌, [], ℕ, List, length, take, Some, ap, arith}
use Rattle.std.proofs.Common.{sym}
use Rattle.std.specs.Prelude.{slice_get}
use Rattle.std.proofs.lemmas.List.{take_all, take_more}
use Rattle.std.proofs.lemmas.Option.{get_or_from_slice_get}
use Rattle.ompt_events.specs.declared.records.Record.{Record}
use Rattle.ompt_events.specs.Traces.{IsTraceOf, TraceView}
use Rattle.ompt_events.specs.Turns.{in_own_order, own_places}
use Rattle.ompt_events.proofs.ListLemmas.{get_within}
use Rattle.packed_trace.proofs.TraceLemmas.{first_trace}
use Rattle.task_tree.proofs.ArrangedLemmas.{arranged_trace}
use Rattle.task_tree.proofs.OwnOrderLemmas.{arranged_at, arranged_length, own_all_places}
use Rattle.task_tree.proofs.families.arranged_trace.Goals as goal

-- with the next record the copies are one more of the records in own order
one_more : (rs copies : List Record) (number place : ℕ) (r : Record) → copies ≡ take number (in_own_order rs)
    → slice_get (own_places rs) number ≡ Some place → slice_get rs place ≡ Some r → number < length rs
    → copies ++ r ∷ [] ≡ take (number + 1) (in_own_order rs)
one_more rs copies number place r are is stands within =
    let own = in_own_order rs in
    let there : slice_get own number ≡ Some r = arranged_at rs number place is ∙ stands in
    let long : number < length own = rw (arranged_length rs) within in
    ap (λ l. l ++ r ∷ []) are
    ∙ ap (λ q. take number own ++ q ∷ []) (sym (get_or_from_slice_get own number r r there))
    ∙ sym (take_more own number r long)

pub place-requires : goal.place-requires
place-requires c =
    let rs = c.args.trace.now.records in
    let all = (own_all_places rs).all in
    let within : c.loop-number.number < length (own_places rs) =
    omega (arith, all, c.loop-number-test.true, c.len-number-end.ensures.value) in
    rw c.requires within

pub push_from-requires-clause-within : goal.push_from-requires-clause-within
push_from-requires-clause-within c =
    let rs = c.args.trace.now.records in
    (own_all_places rs).below c.loop-number.number c.place.result (rw c.requires at c.place.ensures)

pub push_from-requires-clause-trace : goal.push_from-requires-clause-trace
push_from-requires-clause-trace c = λ r stands.
    let rs = c.args.trace.now.records in
    let own = in_own_order rs in
    let number = c.loop-number.number in
    let within : number < length rs = omega (arith, c.loop-number-test.true, c.len-number-end.ensures.value)
    in
    let more =
    one_more rs c.loop-number.copies.records number c.place.result r c.loop-number.invariant.records
    (rw c.requires at c.place.ensures) stands within in
    let long = arranged_length rs in
    let trace : IsTraceOf c.args.trace.now.version own =
    arranged_trace c.args.trace.now.version rs c.len-number-end.ensures.is_trace in
    rw (c.loop-number.invariant.version, more)
    (first_trace c.args.trace.now.version own (number + 1) (omega (arith, within, long)) trace)

pub loop-number-preserved : goal.loop-number-preserved
loop-number-preserved c =
    let rs = c.args.trace.now.records in
    let number = c.loop-number.number in
    let within : number < length rs = omega (arith, c.loop-number-test.true, c.len-number-end.ensures.value)
    in
    let is = rw c.requires at c.place.ensures in
    let (r, stands) = get_within rs c.place.result ((own_all_places rs).below number c.place.result is) in
    let grown = c.in_ok-push_from.ensures r stands in
    record {
      version = ap (λ (t : TraceView). t.version) grown ∙ c.loop-number.invariant.version;
      records =
          ap (λ (t : TraceView). t.records) grown
          ∙ one_more rs c.loop-number.copies.records number c.place.result r c.loop-number.invariant.records
          is
          stands within;
    }

pub returns-clause-records : goal.returns-clause-records
returns-clause-records c =
    let rs = c.args.trace.now.records in
    let long = arranged_length rs in
    let past : length (in_own_order rs) ≤ c.loop-number.number =
    omega (arith, long, c.loop-number-test.false, c.len-number-end.ensures.value) in
    c.loop-number.invariant.records ∙ take_all c.loop-number.number (in_own_order rs) past
