-- A record more in the records of one thread.
use Rattle.std.proofs.Common.{◌≡◌, ◌∙◌, ℕ, ◌≤◌, ◌<◌, true, List, [], ◌∷◌, ◌++◌, length, take, refl}
use Rattle.std.proofs.Common.{sym, ap, subst, arith, inl, inr}
use Rattle.std.proofs.lemmas.List.{length_push, take-append-le}
use Rattle.std.proofs.lemmas.List.Sums.{fold_push}
use Rattle.std.proofs.lemmas.Option.{slice_get_within}
use Rattle.ompt_events.specs.declared.records.Record.{Record}
use Rattle.ompt_events.specs.Limits.{max_records}
use Rattle.ompt_events.specs.Traces.{IsSoundIn, IsInRange}
use Rattle.ompt_events.proofs.ListLemmas.{pushed_cases}
use Rattle.callbacks.specs.Standing.{standing_at_start, next_standing, standing_of, allows}
use Rattle.callbacks.specs.declared.thread_state.ThreadState.{ThreadState}
use Rattle.callbacks.specs.Logs.{LogView, known_from, known_of, Follows, AreOrderly, AreRecorded, IsLeft}

take-all : (own : List Record) → take (length own) own ≡ own
take-all [] = refl
take-all (r ∷ own) = ap (λ l. r ∷ l) (take-all own)

pub take-pushed : (own : List Record) (r : Record) (i : ℕ) → i ≤ length own
    → take i (own ++ r ∷ []) ≡ take i own
take-pushed own r i small = take-append-le i own (r ∷ []) small

pub orderly-pushed : (thread : ℕ) (own : List Record) (r : Record) → AreOrderly thread own
    → Follows thread own r → AreOrderly thread (own ++ r ∷ [])
orderly-pushed thread own r orderly follows i x is = elim (pushed_cases own r x i is) [
  | inl old ↦ subst (λ l. Follows thread l x) (sym
      (take-pushed own r i (omega (arith, slice_get_within own i x old)))) (orderly i x old)
  | inr last ↦
      let all : take i (own ++ r ∷ []) ≡ own = take-pushed own r i (omega (arith, last.0))
      ∙ ap (λ n. take n own) last.0 ∙ take-all own in
      subst (λ l. Follows thread l x) (sym all) (subst (Follows thread own) last.1 follows)
]

pub standing-pushed : (own : List Record) (r : Record)
    → standing_of (own ++ r ∷ []) ≡ next_standing r.nests (standing_of own) r.body
standing-pushed own r = fold_push (λ s (q : Record). next_standing q.nests s q.body) standing_at_start own r

pub known-pushed : (own : List Record) (r : Record) → known_of (own ++ r ∷ []) ≡ known_from r.seen r.body
known-pushed own r = fold_push (λ k (q : Record). known_from q.seen q.body) 0 own r

-- the records of a thread with one more
pub recorded-pushed : (thread known : ℕ) (own : List Record) (r : Record) → AreRecorded thread own known
    → length own < max_records
    → known ≤ r.seen → allows r.nests own r.body ≡ true → IsSoundIn 2 r.body → IsInRange r
    → r.thread ≡ thread
    → r.seq ≡ length own → AreRecorded thread (own ++ r ∷ []) (known_from r.seen r.body)
recorded-pushed thread known own r recorded few rises allowed sound in_range is_thread is_seq =
    let follows : Follows thread own r = record {
      thread_is = is_thread;
      seq_is = is_seq;
      seen_rises = omega (arith, recorded.known_rises, rises);
      allowed = allowed;
      sound = sound;
      in_range = in_range;
    } in
    record {
      few = omega (arith, length_push own r, few);
      orderly = orderly-pushed thread own r recorded.orderly follows;
      known_rises = omega (arith, known-pushed own r);
    }

-- the log with one more record
pub log-pushed : (v later : LogView) (next : ThreadState) (r : Record)
    → AreRecorded v.thread v.records v.known → length v.records < max_records → v.known ≤ r.seen
    → allows v.nests v.records r.body ≡ true → IsSoundIn 2 r.body → IsInRange r → r.thread ≡ v.thread
    → r.nests ≡ v.nests → r.seq ≡ length v.records → later.thread ≡ v.thread
    → later.records ≡ v.records ++ r ∷ [] → later.known ≡ known_from r.seen r.body
    → IsLeft (v.records ++ r ∷ []) next
    → AreRecorded later.thread later.records later.known × IsLeft later.records next
log-pushed v later next r recorded few rises allowed sound in_range is_thread is_kind is_seq same is_later
    is_known left =
    let may = subst (λ n. allows n v.records r.body ≡ true) (sym is_kind) allowed in
    let all = recorded-pushed v.thread v.known v.records r recorded few rises may sound in_range is_thread
    is_seq in (
      subst (λ t. AreRecorded t later.records later.known) (sym same)
          (subst (λ l. AreRecorded v.thread l later.known) (sym is_later)
          (subst (AreRecorded v.thread (v.records ++ r ∷ [])) (sym is_known) all)),
      subst (λ l. IsLeft l next) (sym is_later) left,
    )
