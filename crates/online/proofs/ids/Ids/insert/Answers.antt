use Rattle.std.proofs.Common.{sym, ◌∙◌, Result, Ok, Err, OnOk, OnErr}
use Rattle.std.specs.BTreeMap.{IsUnchanged}
use Rattle.online.specs.Spans.{last_from, AreSpans, AreApart, IsJoined}
use Rattle.online.proofs.SpanLemmas.{AddsId, in_joined, absent_id, joined_within, joined_apart}
use Rattle.online.proofs.SpanLemmas.{unchanged_within, unchanged_apart}
use Rattle.online.proofs.ids.Ids.insert.Goals as goal

by_result : {T E : Type 0} (r : Result T E) (A B P : Type 0) → OnOk r A → OnErr r B → (A → P) → (B → P) → P
by_result (Ok x) A B P ok err to from = to ok
by_result (Err e) A B P ok err to from = from err

pub invariant_of-self : goal.invariant_of-self
invariant_of-self c =
    let old = c.args.self.now.spans in
    let new = c.join.new.spans in
    let first = c.first_with-first.result in
    let last = c.last_with-last.result in
    let Joined = IsJoined (last_from old) (last_from new) first c.args.id last in
    let adds : Joined → AddsId (last_from old) (last_from new) first c.args.id last = λ joined. record {
      within = c.args.self.now.within;
      apart = c.args.self.now.apart;
      absent =
          absent_id old c.join.ensures.was_ordered c.args.id (sym c.contains.ensures ∙ c.if-contains.false);
      small = c.ranges.id.fits;
      first_with = c.first_with-first.ensures;
      last_with = c.last_with-last.ensures;
      joined = joined;
    } in
    record {
      within =
          by_result c.join.result Joined (IsUnchanged old new) (AreSpans (last_from new))
          c.join.ensures.joined c.join.ensures.unchanged
          (λ joined. joined_within (last_from old) (last_from new) first c.args.id last (adds joined))
          (λ same. unchanged_within old new same c.args.self.now.within);
      apart =
          by_result c.join.result Joined (IsUnchanged old new) (AreApart (last_from new))
          c.join.ensures.joined c.join.ensures.unchanged
          (λ joined. joined_apart (last_from old) (last_from new) first c.args.id last (adds joined))
          (λ same. unchanged_apart old new same c.args.self.now.apart);
    }

pub returns-clause-kept : goal.returns-clause-kept
returns-clause-kept c =
    let old = c.args.self.now.spans in
    let new = c.join.new.spans in
    let first = c.first_with-first.result in
    let last = c.last_with-last.result in
    in_joined old new first c.args.id last c.join.ensures.was_ordered c.in_ok-join.ensures.ordered (record {
      within = c.args.self.now.within;
      apart = c.args.self.now.apart;
      absent =
          absent_id old c.join.ensures.was_ordered c.args.id (sym c.contains.ensures ∙ c.if-contains.false);
      small = c.ranges.id.fits;
      first_with = c.first_with-first.ensures;
      last_with = c.last_with-last.ensures;
      joined = c.in_ok-join.ensures.joined;
    })
