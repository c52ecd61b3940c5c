-- Where the order of the file is a linearization, and by it no record has a cause and all that must be
-- complete at a record is complete there, the verdict is yes with that order.
use Rattle.std.proofs.Common.{zero-add, ◌≡◌, ◌∙◌, ℕ, ◌<◌, List, length, Some, sym, arith, inl, inr, ◌⊎◌}
use Rattle.std.proofs.Common.{true, false, Option, None, refl, ap, subst, get_or}
use Rattle.std.proofs.lemmas.Bool.{cases_lt}
use Rattle.std.proofs.lemmas.List.FromFn.{length-range_with_len, get_or-range_with_len}
use Rattle.std.specs.Prelude.{◌&&◌, All, is_some, ltb, option_and_then, slice_get}
use Rattle.ompt_events.specs.declared.records.Record.{Record}
use Rattle.ompt_events.specs.declared.cause.Cause.{Cause}
use Rattle.ompt_events.specs.declared.cause.Cause.TheVariants.{CreatedTwice, NotCurrent, TurnGap, StatusOrder}
use Rattle.ompt_events.specs.Records.{running, started, told_turns}
use Rattle.ompt_events.specs.Places.{at, thread_at, places}
use Rattle.ompt_events.specs.Traces.{IsKnown, IsSound, FitsIn}
use Rattle.ompt_events.specs.Turns.{TellsNoTurns, turn_at}
use Rattle.ompt_events.specs.HappensBefore.{IsStep, step}
use Rattle.ompt_events.specs.Linearization.{IsEarlier, IsLinearization}
use Rattle.ompt_events.specs.Completion.{IsCompleteAt}
use Rattle.ompt_events.specs.Violations.{IsRequired}
use Rattle.ompt_events.specs.Causes.{HasCause}
use Rattle.ompt_events.proofs.FileOrderLemmas.{file_greedy}
use Rattle.ompt_events.proofs.ListLemmas.{all_get}
use Rattle.task_tree.specs.Rising.{TurnsRise}
use Rattle.task_tree.proofs.RisingLemmas.{own_running, untold_rise}
use Rattle.task_tree.proofs.SuspendedLemmas.{TellsStarts}
use Rattle.checker.specs.declared.verdict.Verdict.TheVariants.{Yes}
use Rattle.checker.specs.Readings.{by_task, by_file}
use Rattle.checker.specs.Verdicts.{IsVerdict}
use Rattle.checker.proofs.UpgradeWalkLemmas.{same_or_not}
use Rattle.checker.proofs.OngoingLemmas.{HasOrderlyTurns}
use Rattle.checker.proofs.OwnTurnLemmas.{later_turn_later}
use Rattle.checker.proofs.KeptOrderLemmas.{turn_kept}
use Rattle.checker.proofs.VerdictLemmas.{approved}
use Rattle.checker.proofs.ReadingLemmas.{alike_back, alike_verdict, rising_alike, file_required}

-- what is known of such records: no turns are recorded, or each record at which a task runs next has them
pub record IsApprovedByFile (rs : List Record) : Type 0 where
  pub turns : TellsNoTurns rs ⊎ TellsStarts rs
  pub sound : All (λ r. IsSound r.body) rs
  pub none : (i : ℕ) (cause : Cause) → HasCause rs i cause → ⊥
  pub complete : (i task : ℕ) → IsRequired rs i task → IsCompleteAt rs task i
  pub linear : IsLinearization rs (places rs)

-- what is earlier in the order of the file has a smaller place
earlier_less : (rs : List Record) (a b : ℕ) → IsEarlier (places rs) a b → a < b
earlier_less rs a b is =
    let apart = is.apart in
    let inside = is.within in
    let within : is.second < length rs = rw (length-range_with_len 0 (length rs)) at inside in
    let one : is.first ≡ a =
    sym (get_or-range_with_len 0 (length rs) is.first 0 (omega (arith, apart, within)) ∙ zero-add is.first)
    ∙ is.a_stands in
    let other : is.second ≡ b =
    sym (get_or-range_with_len 0 (length rs) is.second 0 within ∙ zero-add is.second) ∙ is.b_stands in
    omega (arith, apart, one, other)

steps_lead : (rs : List Record) → IsLinearization rs (places rs) → (a b : ℕ) → IsStep rs a b → a < b
steps_lead rs linear a b is = earlier_less rs a b (linear.rising a b (step is))

-- ---- no task's turns fall

orderly_file : (rs : List Record) → IsApprovedByFile rs → TellsStarts rs → HasOrderlyTurns rs
orderly_file rs known told = record {
  sound = known.sound;
  told = told;
  once = λ n. known.none n CreatedTwice;
  current = λ n. known.none n NotCurrent;
  gap = λ n. known.none n TurnGap;
  ordered = λ n. known.none n StatusOrder;
}

-- a record of a later turn is later in the file: on one thread by the order of the thread, and else since it
-- happens after
told_later : (rs : List Record) (task i k : ℕ) → IsApprovedByFile rs → TellsStarts rs
    → at running rs i ≡ Some task → at running rs k ≡ Some task → turn_at rs i < turn_at rs k → i < k
told_later rs task i k known told one other less = elim (same_or_not (thread_at rs i) (thread_at rs k)) [
  | inl same ↦ later_turn_later rs task i k told (λ n. known.none n TurnGap) one other same less
  | inr apart ↦
      earlier_less rs i k
      (known.linear.rising i k
      (turn_kept rs task i k (orderly_file rs known told) one other apart less))
]

turns_rise : (rs : List Record) → IsApprovedByFile rs → TurnsRise rs
turns_rise rs known = elim known.turns [
  | inl untold ↦ untold_rise rs untold
  | inr told ↦ λ task i k one other below. elim (cases_lt (turn_at rs k) (turn_at rs i)) [
    | inr rises ↦ rises
    | inl falls ↦
        let after =
        told_later rs task k i known told (own_running rs task k other) (own_running rs task i one) falls in
        absurd (omega (arith, below, after))
  ]
]

-- ---- a yes

pub yes_by_file : (rs : List Record) → IsApprovedByFile rs → IsVerdict rs (Yes (places rs))
yes_by_file rs known =
    alike_verdict (by_file rs) (by_task rs) (Yes (places rs))
    (alike_back (by_task rs) (by_file rs) (rising_alike rs (turns_rise rs known)))
    (approved (by_file rs) (places rs) known.none known.linear
    (file_greedy rs (steps_lead rs known.linear))
    (λ i task required. known.complete i task ((file_required rs i task).0 required)))

none_of : {X : Type 0} (o : Option X) → is_some o ≡ false → o ≡ None
none_of None e = refl
none_of (Some x) e = cc

-- the version alone tells whether turns are recorded
pub turns_of : (version : ℕ) (rs : List Record) → IsKnown version → All (FitsIn version) rs
    → TellsNoTurns rs ⊎ TellsStarts rs
turns_of version rs known fit = elim known [
  | inl first ↦ inl (tells_none rs (subst (λ v. All (FitsIn v) rs) first fit))
  | inr later ↦ elim later [
    | inl second ↦ inr (tells_starts 2 rs refl (subst (λ v. All (FitsIn v) rs) second fit))
    | inr third ↦ inr (tells_starts 3 rs refl (subst (λ v. All (FitsIn v) rs) third fit))
  ]
]
  where
    tells_starts : (v : ℕ) (ss : List Record) → ltb 1 v ≡ true → All (FitsIn v) ss → TellsStarts ss
    tells_starts v ss late fits i r within =
        let own = get_or ss i r in
        (fits i r within).0.1 ∙ ap (λ b. b && is_some (started own.body)) late

    tells_none : (ss : List Record) → All (FitsIn 1) ss → TellsNoTurns ss
    tells_none ss fits i = there (slice_get ss i) refl
      where
        there : (o : Option Record) → slice_get ss i ≡ o
            → option_and_then (λ (r : Record). told_turns r.body) o ≡ None
        there None is = refl
        there (Some r) is = none_of (told_turns r.body) (all_get (FitsIn 1) ss i r fits is).0.1

pub sound_of : (version : ℕ) (rs : List Record) → All (FitsIn version) rs → All (λ r. IsSound r.body) rs
sound_of version rs fit i r within = (fit i r within).0.0

pub file_yes : (version : ℕ) (rs : List Record) → IsKnown version → All (FitsIn version) rs
    → ((i : ℕ) (cause : Cause) → HasCause rs i cause → ⊥)
    → ((i task : ℕ) → IsRequired rs i task → IsCompleteAt rs task i) → IsLinearization rs (places rs)
    → IsVerdict rs (Yes (places rs))
file_yes version rs known fit none complete linear = yes_by_file rs (record {
  turns = turns_of version rs known fit;
  sound = sound_of version rs fit;
  none = none;
  complete = complete;
  linear = linear;
})
