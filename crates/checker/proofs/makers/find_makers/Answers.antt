use Rattle.std.proofs.Common.{◌≡◌, ◌∙◌, ℕ, length, subst, arith}
use Rattle.ompt_events.specs.Causes.{RepeatsEntry, entry_twice}
use Rattle.ompt_events.proofs.ShownLemmas.{noted}
use Rattle.checker.specs.Entries.{AreEntryPlaces}
use Rattle.checker.proofs.EntryLemmas.{all_repeats, makers_next}
use Rattle.checker.proofs.makers.find_makers.Goals as goal

pub loop-at-preserved : goal.loop-at-preserved
loop-at-preserved c =
    let rs = c.args.run.now.records in
    let old = c.loop-at.invariant in
    record {
      long = c.in_ok-again.ensures.long ∙ old.long;
      named = c.in_ok-again.ensures.named;
      makers =
          makers_next rs c.loop-at.at c.in_ok-again.again c.loop-at.named.makers.items
          c.repeats_entry.new.named.makers.items c.in_ok-again.ensures.repeats c.in_ok-again.ensures.makers
          old.makers;
      repeats =
          noted (RepeatsEntry rs) c.loop-at.at c.in_ok-again.again c.loop-at.repeats c.note.new.self
          c.in_ok-again.ensures.repeats c.in_ok-note.ensures old.repeats;
    }

pub returns-clause-repeats : goal.returns-clause-repeats
returns-clause-repeats c =
    all_repeats c.args.run.now.records c.loop-at.at c.loop-at.repeats
    (omega (arith, c.loop-at-test.false, c.loop-at.auto.at-end, c.len-at-end.ensures.value))
    c.loop-at.invariant.repeats

pub returns-clause-makers : goal.returns-clause-makers
returns-clause-makers c = λ free.
    let rs = c.args.run.now.records in
    let last : c.loop-at.at ≡ length rs =
    omega (arith, c.loop-at-test.false, c.loop-at.auto.at-end, c.len-at-end.ensures.value) in
    let P : ℕ → Type 0 = λ n. AreEntryPlaces rs n c.loop-at.named.makers.items in
    subst P last (c.loop-at.invariant.makers (λ k below is. free k (entry_twice is)))
