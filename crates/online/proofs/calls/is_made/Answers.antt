use Rattle.std.proofs.Common.{◌≡◌, ◌∙◌, true, false, Some, None, refl, sym, ap, subst}
use Rattle.std.specs.Prelude.{Bool, not}
use Rattle.std.proofs.lemmas.Bool.{false≢true}
use Rattle.ompt_events.specs.declared.records.Body.{Body}
use Rattle.callbacks.specs.Schedules.{ScheduleView, may_schedule, is_last_turn, schedule_of}
use Rattle.scripts.specs.Progress.{value, recorder_with}
use Rattle.online.specs.Tasks.{value_of}
use Rattle.online.specs.Replays.{max_replayed, Makes, MayTake}
use Rattle.online.proofs.CallLemmas.{told_makes}
use Rattle.online.proofs.calls.is_made.Goals as goal
use Rattle.online.proofs.calls.is_made.Goals.{in-None, in-Some-next+in-Some-get, then-is_allowed}
use Rattle.online.proofs.calls.is_made.Goals.{else-is_allowed}

pub returns-then-not-is_last_turn-clause-made : goal.returns-then-not-is_last_turn-clause-made
returns-then-not-is_last_turn-clause-made c is own may =
    let found = c.in-TaskSchedule in
    let tasks = c.args.tasks.now in
    let place = c.args.place.now in
    let t = c.in-Some.prior.now in
    let s : ScheduleView = c.match-next.schedule in
    let r = recorder_with max_replayed place.state.now.nests place.number own in
    let allowed = c.is_allowed.ensures r refl (c.standing.ensures.own own may.left) in
    let P : Body → Type 0 = λ b. MayTake own place b
    → Makes place.state.now.nests place.number own (value_of tasks) b in
    elim c.if-is_allowed.branch [
      | else-is_allowed v ↦
          absurd (false≢true (sym v.if-is_allowed.false ∙ sym v.value-is ∙ c.if-not-is_last_turn.true))
      | then-is_allowed v ↦
          let may_be : may_schedule r s ≡ true = sym allowed ∙ v.if-is_allowed.true in
          let more : is_last_turn s ≡ false =
          sym v.is_last_turn.ensures
          ∙ untrue v.is_last_turn.result (sym v.value-is ∙ c.if-not-is_last_turn.true) in
          subst P (sym found.is) (elim c.match-next.branch [
            | in-None w ↦
                let s_is : s ≡ schedule_of t found.status None = w.schedule-is ∙ w.of-schedule.ensures in
                told_makes own place tasks s t found.status found.turns found.prior found.next found.claim
                (sym c.in-Some.ensures) (ap (λ (q : ScheduleView). q.prior) s_is)
                (ap (value (value_of tasks)) w.in-None.is ∙ sym (ap (λ (q : ScheduleView). q.next) s_is))
                may_be
                more (c.tells.ensures is ∙ found.is)
            | in-Some-next+in-Some-get w ↦
                let n = w.in-Some-get.next.now in
                let s_is : s ≡ schedule_of t found.status (Some n) = w.schedule-is
                ∙ w.before-in-Some-get.ensures in
                told_makes own place tasks s t found.status found.turns found.prior found.next found.claim
                (sym c.in-Some.ensures) (ap (λ (q : ScheduleView). q.prior) s_is)
                (ap (value (value_of tasks)) w.in-Some-next.is ∙ sym w.in-Some-get.ensures
                ∙ sym (ap (λ (q : ScheduleView). q.next) s_is)) may_be
                more (c.tells.ensures is ∙ found.is)
          ]) may
    ]
  where
    untrue : (b : Bool) → not b ≡ true → b ≡ false
    untrue true e = absurd (false≢true e)
    untrue false e = refl
