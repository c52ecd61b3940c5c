-- Records are watchable exactly where each passes the tests with those before it.
use Rattle.std.proofs.Common.{◌≡◌, ◌∙◌, ℕ, ◌<◌, ◌≤◌, ◌+◌, ◌⊎◌, List, take, length, Option}
use Rattle.std.proofs.Common.{Some, None, Bool, true, false, sym, ap, arith, inl, inr}
use Rattle.std.specs.Prelude.{◌↔◌, slice_get, is_some, Contains, if◌then◌else◌}
use Rattle.std.specs.Option.{option_map_or}
use Rattle.std.proofs.lemmas.Bool.{cases_lt}
use Rattle.std.proofs.lemmas.Option.{none-some, same_Some, slice_get_within}
use Rattle.ompt_events.specs.declared.records.Record.{Record}
use Rattle.ompt_events.specs.declared.records.Body.{Body}
use Rattle.ompt_events.specs.declared.records.Body.TheVariants.{TaskCreate, TaskSchedule, Cancel}
use Rattle.ompt_events.specs.declared.names.Status.TheVariants.{EarlyFulfill, LateFulfill}
use Rattle.ompt_events.specs.declared.cause.Cause.TheVariants.{CreatedTwice}
use Rattle.ompt_events.specs.Flags as flag
use Rattle.ompt_events.specs.Flags.{has_flag}
use Rattle.ompt_events.specs.Records.{made, created, started, discarded, fulfilled, finish, named, begun_turn}
use Rattle.ompt_events.specs.Records.{suspended_turn}
use Rattle.ompt_events.specs.Places.{at, seen_at}
use Rattle.ompt_events.specs.HappensBefore.{IsResumption}
use Rattle.ompt_events.specs.Causes.{IsFreeOf, IsNamedAt, IsMade, created_twice}
use Rattle.ompt_events.proofs.ListLemmas.{get_within}
use Rattle.ompt_events.proofs.PlaceLemmas.{at_get, get_at}
use Rattle.ompt_events.proofs.HappensBeforeLemmas.{finishing_within}
use Rattle.ompt_events.proofs.RecordLemmas.{created_at_made}
use Rattle.ompt_events.proofs.TurnLemmas.{start_starts}
use Rattle.online.specs.Online.{IsInOrder, IsWatchable, EachRecord, ComesAfter}
use Rattle.online.proofs.ReadLemmas.{at_same}
use Rattle.online.proofs.NameLemmas.{started_named}
use Rattle.online.proofs.CurrentLemmas.{named_by}
use Rattle.online.proofs.PassLemmas.{same_first, first_says}

-- ---- what a task is named for

discarded_named : (task : ℕ) (b : Body) → discarded b ≡ Some task → Contains (named b) task
discarded_named task (Cancel flags own claimed) says =
    (0, omega arith, of (has_flag flags.0 flag.discarded_task) says)
  where
    of : (b : Bool) → (if b then Some own else None) ≡ Some task → own ≡ task
    of true is = same_Some own task is
    of false is = absurd (none-some task is)
discarded_named task _ says = absurd (none-some task says)

fulfilled_named : (task : ℕ) (b : Body) → fulfilled b ≡ Some task → Contains (named b) task
fulfilled_named task (TaskSchedule EarlyFulfill turns prior next claimed) says =
    (0, omega arith, same_Some prior task says)
fulfilled_named task (TaskSchedule LateFulfill turns prior next claimed) says =
    (0, omega arith, same_Some prior task says)
fulfilled_named task _ says = absurd (none-some task says)

-- a record that creates a task starts, discards and fulfils none
creates_alone : (task other : ℕ) (b : Body) → created b ≡ Some task
    → (started b ≡ Some other) ⊎ ((discarded b ≡ Some other) ⊎ (fulfilled b ≡ Some other)) → ⊥
creates_alone task other (TaskCreate deps flags parent child) creates (inl is) = none-some other is
creates_alone task other (TaskCreate deps flags parent child) creates (inr (inl is)) = none-some other is
creates_alone task other (TaskCreate deps flags parent child) creates (inr (inr is)) = none-some other is
creates_alone task other _ creates is = none-some task creates

-- ---- by the tests

seen_get : (rs : List Record) (i : ℕ) (r : Record) → slice_get rs i ≡ Some r → seen_at rs i ≡ r.seen
seen_get rs i r here = ap (λ o. option_map_or (λ (q : Record). q.seen) o 0) here

made_by : (rs : List Record) → EachRecord ComesAfter rs → (i task : ℕ) → IsNamedAt rs i task
    → (k : ℕ) × (k ≤ i) × (at made rs k ≡ Some task)
made_by rs comes i task (r, here, has) =
    let within = slice_get_within rs i r here in
    elim ((comes i r here).known task has) [
      | inl (k, makes) ↦
          let first = first_says made i rs k task (omega (arith, within)) makes in
          (k, (let low = first.0 in omega (arith, low)), first.1)
      | inr makes ↦ (i, omega arith, at_get made rs i r here ∙ makes)
    ]

-- a task is created before a record that names it and creates none
created_first : (rs : List Record) → IsFreeOf rs CreatedTwice → EachRecord ComesAfter rs
    → (f : Body → Option ℕ) → ((task : ℕ) (b : Body) → f b ≡ Some task → Contains (named b) task)
    → ((task other : ℕ) (b : Body) → created b ≡ Some task → f b ≡ Some other → ⊥) → (a b task : ℕ)
    → at created rs a ≡ Some task → at f rs b ≡ Some task → a < b
created_first rs once comes f names alone a b task creates says =
    let (k, early, makes) = made_by rs comes b task (named_by f names rs b task says) in
    elim (cases_lt a b) [
      | inl less ↦ less
      | inr most ↦ elim (cases_lt k a) [
        | inl again ↦
            absurd (once a (created_twice (task, k, again, makes, created_at_made task rs a creates)))
        | inr least ↦
            let same : b ≡ a = omega (arith, most, early, least) in
            let (r, here, makes_there) = get_at created rs a task creates in
            absurd
            (alone task task r.body makes_there
            (sym (at_get f rs a r here) ∙ ap (at f rs) (sym same) ∙ says))
      ]
    ]

in_order_from_each : (rs : List Record) → IsFreeOf rs CreatedTwice → EachRecord ComesAfter rs → IsInOrder rs
in_order_from_each rs once comes = record {
  enters = λ i makes.
      let (r, here) = get_within rs i (finishing_within rs i makes) in
      seen_get rs i r here
      ∙ (comes i r here).enters (sym (ap is_some (at_get finish rs i r here)) ∙ makes);
  names = λ i inside.
      let (r, here) = get_within rs i inside in
      let same = seen_get rs i r here in
      let most = (comes i r here).names in omega (arith, same, most);
  starts = λ a b task creates start.
      created_first rs once comes started started_named
      (λ t other body makes is. creates_alone t other body makes (inl is)) a b task creates
      (start_starts rs b task start);
  discards = λ a b task creates gone.
      created_first rs once comes discarded discarded_named
      (λ t other body makes is. creates_alone t other body makes (inr (inl is))) a b task creates gone;
  fulfils = λ a b task creates done.
      created_first rs once comes fulfilled fulfilled_named
      (λ t other body makes is. creates_alone t other body makes (inr (inr is))) a b task creates done;
  resumes = resumes;
}
  where
    resumes : (a b : ℕ) → IsResumption rs a b → a < b
    resumes a b again = elim (cases_lt a b) [
      | inl less ↦ less
      | inr most ↦ elim (cases_lt b a) [
        | inl back ↦
            let (r, here, suspends) = get_at suspended_turn rs a (again.task, again.turn) again.suspends in
            let within = slice_get_within rs a r here in
            absurd
            ((comes a r here).suspends again.task again.turn b suspends
            (sym (at_same begun_turn a rs (take a rs) (same_first a rs (omega (arith, within))) b back)
            ∙ again.resumes))
        | inr least ↦ absurd (again.another (omega (arith, most, least)))
      ]
    ]

watchable_each : (rs : List Record) → IsWatchable rs → EachRecord ComesAfter rs
watchable_each rs watchable i r here = record {
  enters = λ makes.
      sym (seen_get rs i r here)
      ∙ watchable.in_order.enters i (ap is_some (at_get finish rs i r here) ∙ makes);
  names =
      let same = seen_get rs i r here in
      let most = watchable.in_order.names i within in omega (arith, same, most);
  known = known;
  suspends = λ task turn k suspends begins.
      let first = first_says begun_turn i rs k (task, turn + 1) (omega (arith, within)) begins in
      let low = first.0 in
      let later = watchable.in_order.resumes i k (record {
        task = task;
        turn = turn;
        suspends = at_get suspended_turn rs i r here ∙ suspends;
        resumes = first.1;
        another = λ same. absurd (omega (arith, low, same));
      }) in
      absurd (omega (arith, low, later));
}
  where
    within : i < length rs
    within = slice_get_within rs i r here

    known : (task : ℕ) → Contains (named r.body) task → IsMade (take i rs) task ⊎ (made r.body ≡ Some task)
    known task has =
        let (k, early, makes) = watchable.named i task (r, here, has) in
        elim (cases_lt k i) [
          | inl less ↦
              inl (
                k,
                sym (at_same made i rs (take i rs) (same_first i rs (omega (arith, within))) k less)
                    ∙ makes,
              )
          | inr most ↦
              let same : i ≡ k = omega (arith, early, most) in
              inr (sym (at_get made rs i r here) ∙ ap (at made rs) same ∙ makes)
        ]

pub watchable_exactly : (rs : List Record) → IsFreeOf rs CreatedTwice
    → EachRecord ComesAfter rs ↔ IsWatchable rs
watchable_exactly rs once = (
  λ comes. record { in_order = in_order_from_each rs once comes; named = made_by rs comes },
  watchable_each rs,
)
