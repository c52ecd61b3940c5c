use Rattle.std.proofs.Common.{◌≡◌, ◌∙◌, ◌++◌, ◌∷◌, [], ap}
use Rattle.std.specs.Prelude.{OnOk, option_to_list}
use Rattle.ompt_events.proofs.ListLemmas.{get_within}
use Rattle.ompt_events.specs.Traces.{IsTraceOf}
use Rattle.packed_trace.specs.Columns.{AreColumns}
use Rattle.packed_trace.proofs.trace.PackedTrace.push_from.Goals as goal

pub invariant_of-self : goal.invariant_of-self
invariant_of-self c =
    let rs = c.self.inside.listed.records in
    let others = c.other.inside.listed.records in
    let (r, there) = get_within others c.args.at (rw (← c.other.view_is) at c.requires.within) in
    let behind : c.with_one_of-listed.result.records ≡ rs ++ r ∷ [] =
    c.with_one_of-listed.ensures ∙ ap (λ o. rs ++ option_to_list o) there in
    let grown : OnOk c.add_from.result (AreColumns (rs ++ r ∷ []) c.add_from.new.self) =
    c.add_from.ensures rs others r c.other.invariant.are there c.self.invariant.are in
    let trace : IsTraceOf c.self.inside.version (rs ++ r ∷ []) =
    rw (← c.self.view_is) at (c.requires.trace r (rw (← c.other.view_is) there)) in
    rw behind (record {
      trace = trace;
      are = rw c.in-Ok.is at grown;
    })
