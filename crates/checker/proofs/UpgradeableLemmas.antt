-- A trace of version 1 that shows no cause can be upgraded: none of its tasks moves.
use Rattle.std.proofs.Common.{◌≡◌, ◌∙◌, ℕ, List, Some, None, sym, ap, arith, inl, inr}
use Rattle.std.proofs.lemmas.Option.{none-some, same_Some}
use Rattle.std.specs.Prelude.{Contains}
use Rattle.ompt_events.specs.declared.records.Record.{Record}
use Rattle.ompt_events.specs.declared.records.Body.{Body}
use Rattle.ompt_events.specs.declared.records.Body.TheVariants.{TaskSchedule}
use Rattle.ompt_events.specs.declared.cause.Cause.TheVariants.{CreatedTwice, Rootless, NotCurrent, Moved}
use Rattle.ompt_events.specs.Traces.{IsTraceOf}
use Rattle.ompt_events.specs.Records.{started, named, begun_root, created, made}
use Rattle.ompt_events.specs.Places.{thread_at}
use Rattle.ompt_events.specs.Tree.{IsRoot, IsExplicit}
use Rattle.ompt_events.specs.Causes.{IsMade, unmade, rootless, moved}
use Rattle.ompt_events.specs.Upgrades.{Moves, MovesNowhere}
use Rattle.ompt_events.proofs.PlaceLemmas.{get_at, at_get}
use Rattle.ompt_events.proofs.RecordLemmas.{made_cases}
use Rattle.ompt_events.proofs.TurnLemmas.{first_version_tells_none}
use Rattle.checker.specs.Readings.{by_task}
use Rattle.checker.specs.Verdicts.{ShowsNone}
use Rattle.checker.proofs.UpgradeWalkLemmas.{root_from, begun_once}

-- where no cause is shown, a root runs next only on the thread on which it began
root_stays : (rs : List Record) (m : ℕ) → ShowsNone (by_task rs) → (is : Moves rs m) → IsRoot rs is.task → ⊥
root_stays rs m none is root =
    let now = root_from rs m is.task (λ i. none i NotCurrent) root is.next in
    let before = root_from rs is.earlier is.task (λ i. none i NotCurrent) root is.next_before in
    let (a, a_low, begins, there) = now.is_known in
    let (b, b_low, begins', there') = before.is_known in
    let same = begun_once rs is.task b a (λ i. none i CreatedTwice) begins' begins in
    is.elsewhere (before.on ∙ sym there' ∙ ap (thread_at rs) same ∙ there ∙ sym now.on)

-- and an explicit task runs next on one thread alone
explicit_stays : (rs : List Record) (m : ℕ) → IsTraceOf 1 rs → ShowsNone (by_task rs) → (is : Moves rs m)
    → IsExplicit rs is.task → ⊥
explicit_stays rs m trace none is explicit =
    none m Moved (moved (
      is.task,
      is.earlier,
      explicit,
      is.next,
      is.before,
      is.next_before,
      is.elsewhere,
      first_version_tells_none rs trace m,
    ))

started_named : (task : ℕ) (b : Body) → started b ≡ Some task → Contains (named b) task
started_named task (TaskSchedule status turns prior (Some next) claimed) is =
    (1, omega arith, same_Some next task is)
started_named task (TaskSchedule status turns prior None claimed) is = absurd (none-some task is)
started_named task _ is = absurd (none-some task is)

pub moves_nowhere : (rs : List Record) → IsTraceOf 1 rs → ShowsNone (by_task rs) → MovesNowhere rs
moves_nowhere rs trace none m is =
    let (r, stands, starts) = get_at started rs m is.task is.next in
    none m Rootless (rootless (unmade is.task (r, stands, started_named is.task r.body starts) unmade_task))
  where
    unmade_task : IsMade rs is.task → ⊥
    unmade_task (k, makes) =
        let (q, stands, is_made) = get_at made rs k is.task makes in
        elim (made_cases is.task q.body is_made) [
          | inl begins ↦ root_stays rs m none is (k, at_get begun_root rs k q stands ∙ begins)
          | inr creates ↦ explicit_stays rs m trace none is (k, at_get created rs k q stands ∙ creates)
        ]
