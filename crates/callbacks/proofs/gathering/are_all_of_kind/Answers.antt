use Rattle.std.proofs.Common.{◌≡◌, ◌∙◌, Some, refl, sym, ap, subst, arith, inl, inr}
use Rattle.std.specs.Prelude.{slice_get}
use Rattle.std.proofs.lemmas.Bool.{false≢true, cases_lt}
use Rattle.std.proofs.lemmas.Option.{slice_get_within, slice_get-get_or, same_Some}
use Rattle.ompt_events.specs.declared.records.Record.{Record}
use Rattle.callbacks.specs.Logs.{AreOfKind}
use Rattle.callbacks.proofs.GatherLemmas.{all_gathered, all_of_buffer}
use Rattle.callbacks.proofs.gathering.are_all_of_kind.Goals as goal

pub returns-then-not-are_of_kind : goal.returns-then-not-are_of_kind
returns-then-not-are_of_kind c = (
  λ no. absurd (false≢true no),
  λ all.
      let buffers = c.args.buffers.now in
      let b = c.index-buffers-index.result in
      let here : slice_get buffers c.buffers.index ≡ Some b =
      slice_get-get_or buffers c.buffers.index b c.buffers-test.true
      ∙ ap Some (sym c.index-buffers-index.is) in
      sym c.if-not-are_of_kind.true
      ∙ c.are_of_kind.ensures.1 (subst (AreOfKind c.args.nests) (sym c.records.ensures)
      (all_of_buffer (λ (r : Record). r.nests ≡ c.args.nests) buffers c.buffers.index b here all)),
)

pub buffers-preserved : goal.buffers-preserved
buffers-preserved c i b low is = elim (cases_lt i c.buffers.index) [
  | inl less ↦ c.buffers.invariant i b less is
  | inr last ↦
      let buffers = c.args.buffers.now in
      let x = c.index-buffers-index.result in
      let same : i ≡ c.buffers.index = omega (arith, low, last) in
      let here : slice_get buffers c.buffers.index ≡ Some x =
      slice_get-get_or buffers c.buffers.index x c.buffers-test.true
      ∙ ap Some (sym c.index-buffers-index.is) in
      let one = same_Some x b (sym here ∙ ap (slice_get buffers) (sym same) ∙ is) in
      subst (λ v. AreOfKind c.args.nests v.records) one
      (subst (AreOfKind c.args.nests) c.records.ensures (c.are_of_kind.ensures.0 c.if-not-are_of_kind.false))
]

pub returns : goal.returns
returns c = (
  λ yes. all_gathered (λ (r : Record). r.nests ≡ c.args.nests) c.args.buffers.now
      (λ i b is. c.buffers.invariant i b
      (omega (arith, slice_get_within c.args.buffers.now i b is, c.buffers-test.false)) is),
  λ all. refl,
)
