-- The places of all records that have a cause, as the searches here list them.
use Rattle.std.proofs.Common.{◌≡◌, ℕ, ◌<◌, List, [], length, sym, subst}
use Rattle.std.proofs.lemmas.List.Elements.{All-nil}
use Rattle.ompt_events.specs.declared.records.Record.{Record}
use Rattle.ompt_events.specs.declared.cause.Cause.{Cause}
use Rattle.ompt_events.specs.Causes.{HasCause, IsFreeOf}
use Rattle.ompt_events.specs.Shown.{AreAllBelow, AreAllWith}
use Rattle.ompt_events.proofs.ShownLemmas.{none_below}

-- before the first record there are none, and none are in the list
pub none_yet : (holds : ℕ → Type 0) (places : List ℕ) → places ≡ [] → AreAllBelow holds 0 places
none_yet holds places empty = subst (AreAllBelow holds 0) (sym empty) (none_below holds)

-- where no record has the cause
pub none_with : (rs : List Record) (cause : Cause) (places : List ℕ) → places ≡ [] → IsFreeOf rs cause
    → AreAllWith rs cause places
none_with rs cause places empty free =
    let P : List ℕ → Type 0 = AreAllWith rs cause in
    subst P (sym empty) (record {
      rising = (none_below (λ i. HasCause rs i cause)).rising;
      within = All-nil (λ place. place < length rs);
      hold = All-nil (λ i. HasCause rs i cause);
      complete = λ i has. absurd (free i has);
    })
