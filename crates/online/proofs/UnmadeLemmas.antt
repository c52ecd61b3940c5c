-- A task that is not made yet.
use Rattle.std.proofs.Common.{◌≡◌, ℕ, zero, suc, ◌<◌, List, []}
use Rattle.std.proofs.Common.{◌∷◌, ◌++◌, length, refl, arith, inl, inr}
use Rattle.std.specs.List.{range_with_len}
use Rattle.ompt_events.specs.declared.records.Record.{Record}
use Rattle.ompt_events.specs.Records.{made, running}
use Rattle.ompt_events.specs.Places.{at, is_own, own_before}
use Rattle.ompt_events.specs.Regions.{begins_barrier}
use Rattle.ompt_events.specs.Causes.{IsMade}
use Rattle.ompt_events.proofs.PlaceLemmas.{own_below, is_the_task}
use Rattle.ompt_events.proofs.ListLemmas.{get_within, get_contains}
use Rattle.online.specs.Online.{IsWatchable}
use Rattle.online.specs.Teams.{phase_at}
use Rattle.online.proofs.GrowLemmas.{said_grows, said_cases}
use Rattle.online.proofs.BarrierLemmas.{begins_before, filter_from}
use Rattle.online.proofs.StayLemmas.{runner_made}

-- a task that is not made yet has begun no barrier
pub unmade_phase : (rs : List Record) (r : Record) → IsWatchable (rs ++ r ∷ []) → (task : ℕ)
    → (IsMade rs task → ⊥) → phase_at rs task (length rs) ≡ 0
unmade_phase rs r watchable task fresh = of (phase_at rs task (length rs)) refl
  where
    first : 0 < phase_at rs task (length rs) → ⊥
    first more =
        let (x, at_x) = get_within (begins_before rs task (length rs)) 0 more in
        let own =
        (filter_from (begins_barrier rs task) (own_before rs task (length rs)) x
        (get_contains (begins_before rs task (length rs)) x 0 at_x)).0 in
        let low = own_below rs task (length rs) x own in
        let runs =
        is_the_task task (at running rs x)
        (filter_from (is_own rs task) (range_with_len 0 (length rs)) x own).1 in
        let (k, early, says) =
        runner_made (rs ++ r ∷ []) watchable x task (said_grows running rs r x task runs) in
        elim (said_cases made rs r k task says) [
          | inl old ↦ fresh (k, old)
          | inr new ↦ let e = new.0 in omega (arith, e, early, low)
        ]

    of : (n : ℕ) → phase_at rs task (length rs) ≡ n → phase_at rs task (length rs) ≡ 0
    of zero e = e
    of (suc n) e = absurd (first (omega (arith, e)))
