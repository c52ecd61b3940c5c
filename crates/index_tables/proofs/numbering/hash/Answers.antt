use Rattle.std.proofs.Common.{◌≡◌, ◌∙◌, ◌++◌, ◌∷◌, [], below_more, sym, ap, true, false, nat_eq, take, arith}
use Rattle.std.proofs.lemmas.List.{take_more}
use Rattle.std.proofs.lemmas.Bool.{not-false, not-true}
use Rattle.std.specs.Prelude.{slice_index}
use Rattle.std.specs.List.{list_any}
use Rattle.index_tables.proofs.NumberingLemmas.{again_here, not_again, apart_if, insert_key_new}
use Rattle.index_tables.proofs.numbering.hash.Goals as goal

pub returns-then-not-is_new-clause-again : goal.returns-then-not-is_new-clause-again
returns-then-not-is_new-clause-again c =
    let ids = c.args.ids.now in
    let i = c.loop-index.index in
    let found : list_any (nat_eq (slice_index ids i)) (take i ids) ≡ true =
    rw c.loop-index.invariant.same at
    (not-false (list_any (nat_eq (slice_index ids i)) c.loop-index.known.keys)
    (sym c.in_ok-is_new.ensures.added ∙ c.if-not-is_new.true)) in
    record { again = again_here ids i c.loop-index-test.true found; first = c.loop-index.invariant.once }

pub loop-index-preserved : goal.loop-index-preserved
loop-index-preserved c =
    let ids = c.args.ids.now in
    let i = c.loop-index.index in
    let none : list_any (nat_eq (slice_index ids i)) (take i ids) ≡ false =
    rw c.loop-index.invariant.same at
    (not-true (list_any (nat_eq (slice_index ids i)) c.loop-index.known.keys)
    (sym c.in_ok-is_new.ensures.added ∙ c.if-not-is_new.false)) in
    let absent : list_any (nat_eq (slice_index ids i)) c.loop-index.known.keys ≡ false =
    rw c.loop-index.invariant.same none in
    record {
      same =
          c.in_ok-is_new.ensures.keys ∙ insert_key_new c.loop-index.known.keys (slice_index ids i) absent
          ∙ ap (λ l. l ++ slice_index ids i ∷ []) c.loop-index.invariant.same
          ∙ sym (take_more ids i 0 c.loop-index-test.true);
      seeded = c.in_ok-is_new.ensures.hasher ∙ c.loop-index.invariant.seeded;
      once = below_more _ _ c.loop-index.invariant.once (λ again. not_again ids i none again);
    }

pub returns-clause-apart : goal.returns-clause-apart
returns-clause-apart c =
    apart_if c.args.ids.now
    (λ index within again.
    let past = c.loop-index-test.false in
    c.loop-index.invariant.once index (omega (arith, within, past)) again)
