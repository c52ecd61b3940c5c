use Rattle.std.proofs.Common.{◌≡◌, ◌∙◌, ℕ, sym, subst, arith, inl, inr}
use Rattle.std.proofs.lemmas.Bool.{cases_eq, cases_lt}
use Rattle.std.proofs.lemmas.List.{get_or_default}
use Rattle.std.specs.Prelude.{Contains, slice_index}
use Rattle.checker.proofs.FrontLemmas.{more_then, more_refl}
use Rattle.checker.proofs.front.Front.offer_list.Goals as goal

pub list-init : goal.list-init
list-init c = record {
  more = more_refl c.args.self.now.run.now.records c.args.self.now.placed.now c.args.ready.now;
  offered = λ of lists.
      let firsts = c.args.lists.now.firsts.items in
      let read : slice_index firsts c.args.key ≡ c.index.result.now =
      get_or_default firsts c.args.key 0 c.index.result.now c.requires.key ∙ sym c.index.ensures in
      let first = lists.first c.args.key c.requires.key in
      rw (← read) (λ i below is may. absurd (first.none i (omega arith) below is), first.found);
}

pub list-preserved : goal.list-preserved
list-preserved c = record {
  more =
      more_then c.args.self.now.run.now.records c.args.self.now.placed.now c.args.ready.now c.list.ready
      c.offer.new.ready c.list.invariant.more c.in_ok-offer.ensures.more;
  offered = λ of lists.
      let rs = c.args.self.now.run.now.records in
      let place = c.list.place in
      let inside = rw c.len.ensures.value at c.list-test.true in
      let nexts = c.args.lists.now.nexts.items in
      let before = c.list.invariant.offered of lists in
      let here = before.1 inside in
      let read : slice_index nexts place ≡ c.index-in-list.result.now =
      get_or_default nexts place 0 c.index-in-list.result.now (rw c.requires.rising.all inside)
      ∙ sym c.index-in-list.ensures in
      let next = lists.next place c.args.key (omega arith) inside here in
      let P : ℕ → Type 0 = λ j. Contains c.offer.new.ready j in
      rw (← read) (
        λ i below is may. elim (cases_lt i place) [
          | inl earlier ↦ c.in_ok-offer.ensures.more.kept i (before.0 i earlier is may)
          | inr later ↦ elim (cases_eq i place) [
            | inl same ↦ subst P (sym same) (c.in_ok-offer.ensures.offered (rw same at may))
            | inr apart ↦ absurd (next.none i (omega (arith, later, apart)) below is)
          ]
        ],
        next.found,
      );
}
