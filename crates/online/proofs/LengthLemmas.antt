-- The ledger lengths that are kept, behind one record more.
use Rattle.std.proofs.Common.{◌≡◌, ◌∙◌, ℕ, ◌<◌, ◌≤◌, ◌+◌, ◌⊎◌, Bool, true, false, List, [], ◌∷◌}
use Rattle.std.proofs.Common.{◌++◌, length, Option, Some, None, refl, sym, ap, arith, inl, inr, cond}
use Rattle.std.specs.Prelude.{slice_get, is_some, option_map, option_and_then, max, Contains}
use Rattle.std.specs.Option.{option_map_or}
use Rattle.std.proofs.lemmas.Bool.{cases_lt, cases_eq, false≢true}
use Rattle.std.proofs.lemmas.Option.{same_Some, none-some, slice_get_within}
use Rattle.std.proofs.lemmas.List.{length_push}
use Rattle.std.proofs.Math.Nat.{le-max_left, le-max_right}
use Rattle.std.proofs.lemmas.List.Sums.{sum_by_push}
use Rattle.ompt_events.specs.declared.records.Record.{Record}
use Rattle.ompt_events.specs.declared.records.Body.{Body}
use Rattle.ompt_events.specs.declared.records.Body.TheVariants.{ImplicitTask, TaskCreate, TaskSchedule}
use Rattle.ompt_events.specs.declared.names.Status.TheVariants.{Yield, Switch}
use Rattle.ompt_events.specs.declared.names.Endpoint.TheVariants.{Begin}
use Rattle.ompt_events.specs.declared.cause.Cause.TheVariants.{EntryTwice, LengthBack, CreatedTwice}
use Rattle.ompt_events.specs.Records.{made, created, discarded, fulfilled, finish, suspended, begun_turn}
use Rattle.ompt_events.specs.Records.{suspended_turn, prior_turn, named}
use Rattle.ompt_events.specs.Places.{at, thread_at, seen_at}
use Rattle.ompt_events.specs.States.{is_task}
use Rattle.ompt_events.specs.HappensBefore.{IsFinishing, IsProgramStep, thread_order, creation, resumption}
use Rattle.ompt_events.specs.HappensBefore.{discard, fulfilment}
use Rattle.ompt_events.specs.Causes.{HasCause, entries_in, known_after, IsBehind, entry_twice}
use Rattle.ompt_events.specs.Causes.{length_back, created_twice, IsFreeOf}
use Rattle.ompt_events.proofs.ListLemmas.{get_last, pushed_cases}
use Rattle.ompt_events.proofs.PlaceLemmas.{at_within, thread_get, is_the_task, the_task}
use Rattle.ompt_events.proofs.PlaceLemmas.{some_and, some_within}
use Rattle.ompt_events.proofs.RecordLemmas.{at_through, created_made, created_at_made}
use Rattle.callbacks.specs.Logs.{known_from}
use Rattle.task_tree.proofs.LinkLemmas.{get_set_same, get_set_other}
use Rattle.online.specs.Online.{IsWatchable}
use Rattle.online.specs.declared.lengths.Known.{Known}
use Rattle.online.specs.declared.lengths.Lengths.{Lengths}
use Rattle.online.specs.Lengths.{KeptTable, kept_of, IsLengthsOf, MayFollow, NamesLength, NamesEntry}
use Rattle.online.specs.Lengths.{ReachesTasks, ReachesCreation, IsAdvancedBy, AddsSuspension, AddsMade}
use Rattle.online.specs.Lengths.{with_suspension}
use Rattle.online.proofs.ReadLemmas.{same_append, at_same, seen_same, thread_same, get_left}
use Rattle.online.proofs.PushLemmas.{at_pushed, at_last, at_stays}
use Rattle.online.proofs.CurrentLemmas.{named_by}

-- ---- what is known after a record, with one record more

known_there : (rs : List Record) (r : Record) (k : ℕ) → k < length rs
    → known_after (rs ++ r ∷ []) k ≡ known_after rs k
known_there rs r k low =
    ap (λ (o : Option Record).
    cond (is_some (option_and_then (λ (q : Record). finish q.body) o))
    (option_map_or (λ (q : Record). q.seen) o 0 + 1) (option_map_or (λ (q : Record). q.seen) o 0))
    (get_left rs (r ∷ []) k low)

known_last : (rs : List Record) (r : Record)
    → known_after (rs ++ r ∷ []) (length rs) ≡ known_from r.seen r.body
known_last rs r =
    ap (λ (o : Option Record).
    cond (is_some (option_and_then (λ (q : Record). finish q.body) o))
    (option_map_or (λ (q : Record). q.seen) o 0 + 1) (option_map_or (λ (q : Record). q.seen) o 0))
    (get_last rs r (length rs) refl)

seen_last : (rs : List Record) (r : Record) → seen_at (rs ++ r ∷ []) (length rs) ≡ r.seen
seen_last rs r =
    ap (λ (o : Option Record). option_map_or (λ (q : Record). q.seen) o 0) (get_last rs r (length rs) refl)

seen_there : (rs : List Record) (r : Record) (k : ℕ) → k < length rs
    → seen_at (rs ++ r ∷ []) k ≡ seen_at rs k
seen_there rs r k low = seen_same (length rs) (rs ++ r ∷ []) rs (same_append rs (r ∷ [])) k low

entries_pushed : (rs : List Record) (r : Record)
    → entries_in (rs ++ r ∷ []) + r.seen ≡ entries_in rs + known_from r.seen r.body
entries_pushed rs r =
    let more : entries_in (rs ++ r ∷ []) ≡ entries_in rs + cond (is_some (finish r.body)) 1 0 =
    sum_by_push (λ (q : Record). cond (is_some (finish q.body)) 1 0) rs r in
    of (is_some (finish r.body)) more
  where
    of : (b : Bool) → entries_in (rs ++ r ∷ []) ≡ entries_in rs + cond b 1 0
        → entries_in (rs ++ r ∷ []) + r.seen ≡ entries_in rs + cond b (r.seen + 1) r.seen
    of true more = omega (arith, more)
    of false more = omega (arith, more)

known_high : (seen : ℕ) (body : Body) → seen ≤ known_from seen body
known_high seen body = of (is_some (finish body))
  where
    of : (b : Bool) → seen ≤ cond b (seen + 1) seen
    of true = omega arith
    of false = omega arith

-- ---- what records of one kind do not say

suspended_of : (body : Body) (task turn : ℕ) → suspended_turn body ≡ Some (task, turn)
    → suspended body ≡ Some task
suspended_of body task turn says = of (prior_turn body) (suspended body) says
  where
    of : (n : ℕ) (o : Option ℕ) → option_map {U = ℕ × ℕ} (λ (t : ℕ). (t, n)) o ≡ Some (task, turn)
        → o ≡ Some task
    of n None says = absurd (none-some (task, turn) says)
    of n (Some t) says = ap Some (ap (λ (q : ℕ × ℕ). q.0) (same_Some (t, n) (task, turn) says))

creates_alone : (task : ℕ) (b : Body) → created b ≡ Some task
    → (begun_turn b ≡ None) × (discarded b ≡ None) × (fulfilled b ≡ None)
creates_alone task (TaskCreate deps flags own child) says = (refl, refl, refl)
creates_alone task _ says = absurd (none-some task says)

makes_alone : (task : ℕ) (b : Body) → made b ≡ Some task → suspended b ≡ None
makes_alone task (ImplicitTask Begin actual index flags parallel root) says = refl
makes_alone task (TaskCreate deps flags own child) says = refl
makes_alone task _ says = absurd (none-some task says)

thread_pushed : (rs : List Record) (r : Record) (k thread : ℕ) → thread_at (rs ++ r ∷ []) k ≡ Some thread
    → ((k < length rs) × (thread_at rs k ≡ Some thread)) ⊎ ((k ≡ length rs) × (r.thread ≡ thread))
thread_pushed rs r k thread says = of (slice_get (rs ++ r ∷ []) k) refl says
  where
    of : (o : Option Record) → slice_get (rs ++ r ∷ []) k ≡ o
        → option_map (λ (q : Record). q.thread) o ≡ Some thread
        → ((k < length rs) × (thread_at rs k ≡ Some thread)) ⊎ ((k ≡ length rs) × (r.thread ≡ thread))
    of None is says = absurd (none-some thread says)
    of (Some q) is says = elim (pushed_cases rs r q k is) [
      | inl old ↦ inl (slice_get_within rs k q old, thread_get rs k q old ∙ says)
      | inr (last, same) ↦
          inr (last, ap (λ (p : Record). p.thread) same ∙ same_Some q.thread thread says)
    ]

-- a place of the longer list is one of the shorter, or the last
place_cases : (rs : List Record) (r : Record) (k : ℕ) → k < length (rs ++ r ∷ [])
    → (k < length rs) ⊎ (k ≡ length rs)
place_cases rs r k low = let long = length_push rs r in elim (cases_lt k (length rs)) [
  | inl is ↦ inl is
  | inr past ↦ inr (omega (arith, past, low, long))
]

-- ---- the tests of the length that the record names

-- no length is less than one known at a step before
behind_none : (rs : List Record) (r : Record) (kept : Lengths) (before : ℕ) → IsLengthsOf rs kept
    → slice_get kept.threads.items r.thread ≡ Some before → before ≤ r.seen
    → ReachesTasks kept.tasks r.body r.seen → IsBehind (rs ++ r ∷ []) (length rs) → ⊥
behind_none rs r kept before is here enough reaches (k, steps, less) = of steps
  where
    after : List Record
    after = rs ++ r ∷ []

    last : ℕ
    last = length rs

    known : (place : ℕ) → place < last → known_after rs place ≤ r.seen → place ≡ k → ⊥
    known place low most same =
        let there = known_there rs r place low in
        let named = seen_last rs r in
        let own = ap (known_after after) same in
        omega (arith, there, named, own, most, less)

    handed : (task : ℕ) → at created rs k ≡ Some task → ReachesCreation kept.tasks task r.seen → ⊥
    handed task creates reached =
        let (q, there, most) =
        some_and (kept_of kept.tasks task) (λ (q : Known). q.created ≤ r.seen) reached in
        let own = is.creations k task q creates there in
        known k (at_within created rs k task creates) (omega (arith, own, most)) refl

    says_here : {X : Type 0} (f : Body → Option X) (x : X) → at f after last ≡ Some x → f r.body ≡ Some x
    says_here f x says = sym (at_last f rs r) ∙ says

    of : IsProgramStep after k last → ⊥
    of (thread_order low within same) =
        let own : thread_at rs k ≡ Some r.thread =
        sym (thread_same last after rs (same_append rs (r ∷ [])) k low) ∙ same
        ∙ thread_get after last r (get_last rs r last refl) in
        let most = is.threads k r.thread before own here in
        known k low (omega (arith, most, enough)) refl
    of (creation task creates start) =
        let starts = says_here begun_turn (task, 0) start.starts in
        elim (at_pushed created rs r k task creates) [
          | inl there ↦ handed task there (reaches.next.starts task starts)
          | inr (own, makes) ↦ none-some (task, 0) (sym (creates_alone task r.body makes).0 ∙ starts)
        ]
    of (resumption again) =
        let task = again.task in
        let turn = again.turn in
        let resumes = says_here begun_turn (task, turn + 1) again.resumes in
        elim (at_pushed suspended_turn rs r k (task, turn) again.suspends) [
          | inl there ↦
              let (q, stands, most) =
              some_and (kept_of kept.tasks task) (λ (q : Known). q.suspended ≤ r.seen)
              (reaches.next.resumes task turn resumes) in
              let own =
              is.suspensions k task q
              (at_through suspended_turn suspended (task, turn) task rs k (λ b. suspended_of b task turn)
              there)
              stands in
              known k (at_within suspended_turn rs k (task, turn) there) (omega (arith, own, most)) refl
          | inr (own, suspends) ↦ again.another own
        ]
    of (discard task creates gone) =
        let discards = says_here discarded task gone in
        elim (at_pushed created rs r k task creates) [
          | inl there ↦ handed task there (reaches.discards task discards)
          | inr (own, makes) ↦ none-some task (sym (creates_alone task r.body makes).1 ∙ discards)
        ]
    of (fulfilment task creates done) =
        let fulfils = says_here fulfilled task done in
        elim (at_pushed created rs r k task creates) [
          | inl there ↦ handed task there (reaches.fulfils task fulfils)
          | inr (own, makes) ↦ none-some task (sym (creates_alone task r.body makes).2 ∙ fulfils)
        ]

pub names_length : (rs : List Record) (r : Record) (kept : Lengths) (before : ℕ) → IsLengthsOf rs kept
    → slice_get kept.threads.items r.thread ≡ Some before → before ≤ r.seen
    → ReachesTasks kept.tasks r.body r.seen → NamesEntry kept.entries r → NamesLength rs r
names_length rs r kept before is here enough reaches names = record {
  enters = λ makes. names.enters makes ∙ is.entries;
  names = let most = names.names in let all = is.entries in omega (arith, most, all);
  not_back = of_back;
  not_twice = of_twice;
}
  where
    of_back : HasCause (rs ++ r ∷ []) (length rs) LengthBack → ⊥
    of_back (length_back h) = behind_none rs r kept before is here enough reaches h

    of_twice : HasCause (rs ++ r ∷ []) (length rs) EntryTwice → ⊥
    of_twice (entry_twice (k, low, first, again, same)) =
        let makes : IsFinishing rs k =
        ap is_some (sym (at_same finish (length rs) (rs ++ r ∷ []) rs (same_append rs (r ∷ [])) k low))
        ∙ first in
        let own : is_some (finish r.body) ≡ true = ap is_some (sym (at_last finish rs r)) ∙ again in
        let less = is.below k makes in
        let one = seen_there rs r k low in
        let other = seen_last rs r in
        let entry = names.enters own in
        let all = is.entries in
        omega (arith, less, one, other, entry, all, same)

-- ---- what is kept behind the record

-- what is kept of a task behind the record
kept_cases : (old noted new : KeptTable) (body : Body) (known : ℕ)
    → AddsSuspension old noted (suspended body) known → AddsMade noted new (made body) known
    → (task : ℕ) (q : Known) → kept_of new task ≡ Some q
    → ((made body ≡ Some task) × (q.created ≡ known))
    ⊎ ((made body ≡ Some task → ⊥) × (p : Known) × (kept_of old task ≡ Some p) × (p.created ≤ q.created)
    × (p.suspended ≤ q.suspended) × (suspended body ≡ Some task → known ≤ q.suspended))
kept_cases old noted new body known suspends makes task q is =
    of_made (is_task task (made body)) refl (sym (makes task) ∙ is)
  where
    Goal : Type 0
    Goal =
        ((made body ≡ Some task) × (q.created ≡ known))
        ⊎ ((made body ≡ Some task → ⊥) × (p : Known) × (kept_of old task ≡ Some p) × (p.created ≤ q.created)
        × (p.suspended ≤ q.suspended) × (suspended body ≡ Some task → known ≤ q.suspended))

    of_old : (o : Option Known) → kept_of old task ≡ o → (made body ≡ Some task → ⊥)
        → option_map (with_suspension known) o ≡ Some q → Goal
    of_old None there none e = absurd (none-some q e)
    of_old (Some p) there none e =
        let same = same_Some (with_suspension known p) q e in
        let kept : p.created ≡ q.created = ap (λ (k : Known). k.created) same in
        let raised : max p.suspended known ≡ q.suspended = ap (λ (k : Known). k.suspended) same in
        let left = le-max_left p.suspended known in
        let right = le-max_right p.suspended known in
        inr (
          none,
          p,
          there,
          omega (arith, kept),
          omega (arith, raised, left),
          λ _. omega (arith, raised, right),
        )

    of_suspended : (b : Bool) → is_task task (suspended body) ≡ b → (made body ≡ Some task → ⊥)
        → cond b (option_map (with_suspension known) (kept_of old task)) (kept_of old task) ≡ Some q → Goal
    of_suspended true own none e = of_old (kept_of old task) refl none e
    of_suspended false own none e =
        inr (
          none,
          q,
          e,
          omega arith,
          omega arith,
          λ says. absurd (false≢true (sym own ∙ the_task task (suspended body) says)),
        )

    of_made : (b : Bool) → is_task task (made body) ≡ b
        → cond b (Some (record { created = known; suspended = 0 })) (kept_of noted task) ≡ Some q → Goal
    of_made true own e =
        inl (
          is_the_task task (made body) own,
          sym (ap (λ (k : Known). k.created) (same_Some (record { created = known; suspended = 0 }) q e)),
        )
    of_made false own e =
        of_suspended (is_task task (suspended body)) refl
        (λ says. false≢true (sym own ∙ the_task task (made body) says)) (sym (suspends task) ∙ e)

pub lengths_more : (rs : List Record) (r : Record) (old next : Lengths) (noted new : KeptTable)
    → IsLengthsOf rs old → MayFollow rs r → NamesEntry old.entries r
    → IsAdvancedBy old next r.thread r.seen (known_from r.seen r.body)
    → AddsSuspension old.tasks noted (suspended r.body) (known_from r.seen r.body)
    → AddsMade noted new (made r.body) (known_from r.seen r.body)
    → IsLengthsOf (rs ++ r ∷ [])
    (record { entries = next.entries; threads = next.threads; tasks = new })
lengths_more rs r old next noted new is may names goes suspends makes = record {
  entries =
      let grown = entries_pushed rs r in
      let own = is.entries in
      let count = goes.entries in
      omega (arith, grown, own, count);
  below = of_below;
  threads = of_threads;
  creations = of_creations;
  suspensions = of_suspensions;
}
  where
    after : List Record
    after = rs ++ r ∷ []

    known : ℕ
    known = known_from r.seen r.body

    high : r.seen ≤ known
    high = known_high r.seen r.body

    same_place : (k : ℕ) → k ≡ length rs → known_after after k ≡ known
    same_place k last = ap (known_after after) last ∙ known_last rs r

    of_below : (k : ℕ) → IsFinishing after k → seen_at after k < entries_in after
    of_below k finishes = elim (place_cases rs r k (some_within finish after k finishes)) [
      | inl low ↦
          let makes : IsFinishing rs k =
          ap is_some (sym (at_same finish (length rs) after rs (same_append rs (r ∷ [])) k low)) ∙ finishes in
          let less = is.below k makes in
          let there = seen_there rs r k low in
          let grown = entries_pushed rs r in
          let up = high in
          omega (arith, less, there, grown, up)
      | inr last ↦
          let own : is_some (finish r.body) ≡ true =
          ap is_some (sym (at_last finish rs r)) ∙ ap (λ j. is_some (at finish after j)) (sym last)
          ∙ finishes in
          let more : known ≡ r.seen + 1 = ap (λ b. cond b (r.seen + 1) r.seen) own in
          let grown = entries_pushed rs r in
          let entry = names.enters own in
          let all = is.entries in
          let here : seen_at after k ≡ r.seen = ap (seen_at after) last ∙ seen_last rs r in
          omega (arith, more, grown, entry, all, here)
    ]

    of_threads : (k thread length_then : ℕ) → thread_at after k ≡ Some thread
        → slice_get next.threads.items thread ≡ Some length_then → known_after after k ≤ length_then
    of_threads k thread length_then says stands = elim (thread_pushed rs r k thread says) [
      | inl (low, there) ↦ elim (cases_eq thread r.thread) [
        | inl same ↦
            let now = known_now thread length_then same stands in
            let most =
            is.threads k thread goes.before there (ap (slice_get old.threads.items) same ∙ goes.here) in
            let kept = known_there rs r k low in
            let enough = goes.enough in
            let up = high in
            omega (arith, now, most, kept, enough, up)
        | inr apart ↦
            let most =
            is.threads k thread length_then there
            (sym (get_set_other old.threads.items r.thread thread known apart)
            ∙ ap (λ l. slice_get l thread) (sym goes.threads) ∙ stands) in
            let kept = known_there rs r k low in
            omega (arith, most, kept)
      ]
      | inr (last, same) ↦
          let now = known_now thread length_then (sym same) stands in
          let own = same_place k last in
          omega (arith, now, own)
    ]
      where
        known_now : (thread length_then : ℕ) → thread ≡ r.thread
            → slice_get next.threads.items thread ≡ Some length_then → known ≡ length_then
        known_now thread length_then same stands =
            same_Some known length_then
            (sym (get_set_same old.threads.items r.thread known
            (slice_get_within old.threads.items r.thread goes.before goes.here))
            ∙ ap (λ l. slice_get l r.thread) (sym goes.threads)
            ∙ ap (slice_get next.threads.items) (sym same) ∙ stands)

    of_creations : (k task : ℕ) (q : Known) → at created after k ≡ Some task → kept_of new task ≡ Some q
        → known_after after k ≤ q.created
    of_creations k task q says stands =
        elim (kept_cases old.tasks noted new r.body known suspends makes task q stands) [
          | inl (own, is_known) ↦ elim (at_pushed created rs r k task says) [
            | inl there ↦ absurd (may.new_one task own (k, created_at_made task rs k there))
            | inr (last, creates) ↦ let here = same_place k last in omega (arith, here, is_known)
          ]
          | inr (none, p, there, up, most_then, own) ↦ elim (at_pushed created rs r k task says) [
            | inl before ↦
                let most = is.creations k task p before there in
                let kept = known_there rs r k (at_within created rs k task before) in
                omega (arith, most, kept, up)
            | inr (last, creates) ↦ absurd (none (created_made task r.body creates))
          ]
        ]

    of_suspensions : (k task : ℕ) (q : Known) → at suspended after k ≡ Some task → kept_of new task ≡ Some q
        → known_after after k ≤ q.suspended
    of_suspensions k task q says stands =
        elim (kept_cases old.tasks noted new r.body known suspends makes task q stands) [
          | inl (own, is_known) ↦ elim (at_pushed suspended rs r k task says) [
            | inl there ↦ absurd (may.new_one task own (may.made_before k task there))
            | inr (last, stops) ↦ absurd (none-some task (sym (makes_alone task r.body own) ∙ stops))
          ]
          | inr (none, p, there, up, most_then, own) ↦ elim (at_pushed suspended rs r k task says) [
            | inl before ↦
                let most = is.suspensions k task p before there in
                let kept = known_there rs r k (at_within suspended rs k task before) in
                omega (arith, most, kept, most_then)
            | inr (last, stops) ↦
                let here = same_place k last in
                let enough = own stops in
                omega (arith, here, enough)
          ]
        ]

-- ---- where a record may follow

suspended_named : (task : ℕ) (b : Body) → suspended b ≡ Some task → Contains (named b) task
suspended_named task (TaskSchedule Yield turns prior next claimed) says =
    (0, omega arith, same_Some prior task says)
suspended_named task (TaskSchedule Switch turns prior next claimed) says =
    (0, omega arith, same_Some prior task says)
suspended_named task _ says = absurd (none-some task says)

-- where records are watchable, and no task is made twice
pub may_follow : (rs : List Record) (r : Record) → IsWatchable rs → IsFreeOf (rs ++ r ∷ []) CreatedTwice
    → MayFollow rs r
may_follow rs r watchable once = record {
  made_before = λ k task says.
      let (j, low, makes) = watchable.named k task (named_by suspended suspended_named rs k task says) in
      (j, makes);
  new_one = λ task makes (k, made_there).
      once (length rs)
      (created_twice (
        task,
        k,
        at_within made rs k task made_there,
        at_stays made rs r k task made_there,
        at_last made rs r ∙ makes,
      ));
}
