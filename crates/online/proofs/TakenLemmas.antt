-- What is kept of the records so far, behind one record more.
use Rattle.std.proofs.Common.{◌≡◌, ◌≢◌, ◌∙◌, ◌==◌, ℕ, ◌<◌, ◌+◌, true, false, cond, List, [], ◌∷◌}
use Rattle.std.proofs.Common.{◌++◌}
use Rattle.std.proofs.Common.{length, set, Vec, Global, Option, Some, None, refl, sym, ap, subst, arith, inl}
use Rattle.std.proofs.Common.{inr}
use Rattle.std.specs.Prelude.{is_some, slice_get, map, fold, ◌||◌, ◌^◌}
use Rattle.std.proofs.lemmas.Bool.{cases_eq, eq-eqb, ne_eqb, false≢true}
use Rattle.std.proofs.lemmas.Option.{same_Some, slice_get_within}
use Rattle.std.proofs.lemmas.List.{length_push, map-append, append-nil}
use Rattle.std.proofs.lemmas.List.Elements.{filter-append}
use Rattle.std.proofs.lemmas.List.Sums.{fold_push}
use Rattle.ompt_events.specs.declared.records.Record.{Record}
use Rattle.ompt_events.specs.Records.{made}
use Rattle.ompt_events.specs.States.{is_task}
use Rattle.scripts.specs.declared.script.Step.{Step}
use Rattle.scripts.specs.declared.lives.Life.{Life}
use Rattle.scripts.specs.Scripts.{life, life_after, step_of, may_follow}
use Rattle.scripts.specs.Progress.{thread_records, without_seen}
use Rattle.scripts.specs.RunCalls.{first_given}
use Rattle.task_tree.proofs.LinkLemmas.{get_set_same, get_set_other}
use Rattle.online.specs.declared.thread.Thread.{Thread}
use Rattle.online.specs.declared.replay.Replay.{Replay}
use Rattle.online.specs.Ids.{has}
use Rattle.online.specs.ThreadStates.{IsThreadOf}
use Rattle.online.specs.Tasks.{value_of}
use Rattle.online.specs.Replays.{call_of, calls_of, and_call, own_of, Takes, IsReplayed, IsReplayOf}
use Rattle.online.specs.Replays.{IsNextThere, IsCalled, IsNoted, IsAdvanced}
use Rattle.online.proofs.ReplayLemmas.{calls_more, next_step, replayed_more}
use Rattle.online.proofs.LiveLemmas.{live_after, used_after, may_follow_live}

-- ---- the calls so far

pub calls_long : (rs : List Record) → length (calls_of rs) ≡ length rs
calls_long rs = let all = on rs [] in omega (arith, all)
  where
    on : (rs : List Record) (steps : List Step) → length (fold and_call steps rs) ≡ length steps + length rs
    on [] steps = omega arith
    on (r ∷ rs) steps =
        let rest = on rs (and_call steps r) in
        let one = length_push steps (next_of steps r) in omega (arith, rest, one)
      where
        next_of : List Step → Record → Step
        next_of steps r = step_of steps r.thread None (call_of r.body)

-- what has become of a task
life_more : (rs : List Record) (r : Record) (task : ℕ)
    → life (calls_of (rs ++ r ∷ [])) task ≡ life_after (life (calls_of rs) task) (call_of r.body) task
life_more rs r task =
    ap (λ (l : List Step). life l task) (calls_more rs r)
    ∙ fold_push (λ (before : Option Life) (s : Step). life_after before s.body task) None (calls_of rs)
    (next_step rs r)

-- ---- the records of a thread

own_more : (rs : List Record) (r : Record) (thread : ℕ)
    → own_of (rs ++ r ∷ []) thread
    ≡ own_of rs thread ++ cond (r.thread == thread) (without_seen r ∷ []) []
own_more rs r thread =
    ap (λ l. thread_records l thread) (map-append without_seen rs (r ∷ []))
    ∙ filter-append (λ (q : Record). q.thread == thread) (map without_seen rs) (without_seen r ∷ [])

own_here : (rs : List Record) (r : Record) (thread : ℕ) → r.thread ≡ thread
    → own_of (rs ++ r ∷ []) thread ≡ own_of rs thread ++ without_seen r ∷ []
own_here rs r thread same =
    own_more rs r thread
    ∙ ap (λ b. own_of rs thread ++ cond b (without_seen r ∷ []) []) (eq-eqb r.thread thread same)

own_there : (rs : List Record) (r : Record) (thread : ℕ) → r.thread ≢ thread
    → own_of (rs ++ r ∷ []) thread ≡ own_of rs thread
own_there rs r thread other =
    own_more rs r thread
    ∙ ap (λ b. own_of rs thread ++ cond b (without_seen r ∷ []) []) (ne_eqb r.thread thread other)
    ∙ append-nil (own_of rs thread)

-- ---- one record more

-- how the table changes when the record is taken
pub record IsTaken (old later : Replay) (r : Record) (t next : Thread) : Type 0 where
  pub here : slice_get old.threads.items r.thread ≡ Some t
  pub kind : r.nests ≡ old.nests
  pub seq : r.seq ≡ t.count
  pub room : old.count < 2 ^ 63
  pub takes : (own : List Record) → IsThreadOf own t → t.state.nests ≡ old.nests
      → Takes old.nests r.thread own r.body old.tasks later.tasks
  pub next_of : (own : List Record) → IsThreadOf own t → IsThreadOf (own ++ without_seen r ∷ []) next
  pub next_kind : next.state.nests ≡ t.state.nests
  pub threads : later.threads.items ≡ set old.threads.items r.thread next
  pub used : (task : ℕ) → has later.used task
      ≡ (is_task task (made r.body) || has old.used task)
  pub new : (task : ℕ) → made r.body ≡ Some task → has old.used task ≡ false
  pub nests : later.nests ≡ old.nests
  pub count : later.count ≡ old.count + 1

pub replay_taken : (rs : List Record) (old later : Replay) (r : Record) (t next : Thread) → IsReplayOf rs old
    → IsTaken old later r t next → IsReplayOf (rs ++ r ∷ []) later
replay_taken rs old later r t next kept taken = record {
  replayed =
      subst (λ n. IsReplayed n (rs ++ r ∷ []) (value_of later.tasks)) (sym taken.nests)
      (replayed_more old.nests rs (value_of old.tasks) (value_of later.tasks) r kept.replayed taken.kind
      (taken.seq ∙ of_thread.1) follows takes.made takes.left);
  threads = λ thread x there. elim (cases_eq r.thread thread) [
    | inl same ↦
        subst (λ own. IsThreadOf own x) (sym (own_here rs r thread same))
        (subst (λ y. IsThreadOf (own_of rs thread ++ without_seen r ∷ []) y) (at_here thread x same there)
        (subst (λ k. IsThreadOf (own_of rs k ++ without_seen r ∷ []) next) same
        (taken.next_of (own_of rs r.thread) of_thread)))
    | inr other ↦
        subst (λ own. IsThreadOf own x) (sym (own_there rs r thread other))
        (kept.threads thread x (at_there thread x other there))
  ];
  all_nest = λ thread x there. elim (cases_eq r.thread thread) [
    | inl same ↦
        ap (λ (y : Thread). y.state.nests) (sym (at_here thread x same there)) ∙ taken.next_kind
        ∙ kept.all_nest r.thread t taken.here ∙ sym taken.nests
    | inr other ↦ kept.all_nest thread x (at_there thread x other there) ∙ sym taken.nests
  ];
  live = λ task is.
      life_more rs r task
      ∙ live_after (value_of old.tasks) (life (calls_of rs)) r.thread r.body kept.live task
      (ap is_some (sym (takes.left task)) ∙ is);
  used = λ task.
      taken.used task
      ∙ ap (λ b. is_task task (made r.body) || b) (kept.used task)
      ∙ sym (used_after (life (calls_of rs)) r.body first_had task)
      ∙ sym (ap is_some (life_more rs r task));
  count = taken.count ∙ (let more = length_push rs r in omega (arith, more, kept.count));
  few = omega (arith, taken.count, taken.room);
}
  where
    of_thread : IsThreadOf (own_of rs r.thread) t
    of_thread = kept.threads r.thread t taken.here

    takes : Takes old.nests r.thread (own_of rs r.thread) r.body old.tasks later.tasks
    takes = taken.takes (own_of rs r.thread) of_thread (kept.all_nest r.thread t taken.here)

    first_had : (task : ℕ) → first_given (call_of r.body) ≡ Some task
        → is_some (life (calls_of rs) task) ≡ true
    first_had task given = ap is_some (kept.live task (takes.first task given))

    unused : (o : Option Life) → is_some o ≡ false → o ≡ None
    unused None is = refl
    unused (Some l) is = absurd (false≢true (sym is))

    follows : may_follow (calls_of rs) None (call_of r.body) ≡ true
    follows =
        may_follow_live (calls_of rs) r.body (λ task given. kept.live task (takes.first task given))
        (λ task given. kept.live task (takes.second task given))
        (λ task makes. unused (life (calls_of rs) task) (sym (kept.used task) ∙ taken.new task makes))
        takes.apart

    within : r.thread < length old.threads.items
    within = slice_get_within old.threads.items r.thread t taken.here

    at_here : (thread : ℕ) (x : Thread) → r.thread ≡ thread → slice_get later.threads.items thread ≡ Some x
        → next ≡ x
    at_here thread x same there =
        same_Some next x
        (sym (get_set_same old.threads.items r.thread next within)
        ∙ ap (slice_get (set old.threads.items r.thread next)) same
        ∙ sym (ap (λ l. slice_get l thread) taken.threads) ∙ there)

    at_there : (thread : ℕ) (x : Thread) → r.thread ≢ thread → slice_get later.threads.items thread ≡ Some x
        → slice_get old.threads.items thread ≡ Some x
    at_there thread x other there =
        sym (get_set_other old.threads.items r.thread thread next (λ e. other (sym e)))
        ∙ sym (ap (λ l. slice_get l thread) taken.threads) ∙ there

-- the same by what the steps of taking it do
pub replay_more : (rs : List Record) (old called noted later : Replay) (r : Record) → IsReplayOf rs old
    → r.nests ≡ old.nests → IsNextThere old r → IsCalled old called r
    → IsNoted called noted (made r.body) → IsAdvanced noted later r → IsReplayOf (rs ++ r ∷ []) later
replay_more rs old called noted later r kept kind (t, here, is_next) calls notes advanced =
    replay_taken rs old later r t advanced.next kept (record {
      here = here;
      kind = kind;
      seq = is_next.seq;
      room = omega (arith, advanced.few, notes.count, calls.count);
      takes = λ own of nests.
          subst (λ n. Takes n r.thread own r.body old.tasks later.tasks) nests
          (subst (Takes t.state.nests r.thread own r.body old.tasks)
          (sym (advanced.tasks ∙ notes.tasks))
          (calls.takes t own here of.0 (is_next.allowed own of.0)
          (let few = is_next.few in let long = of.1 in omega (arith, few, long))));
      next_of = λ own of.
          advanced.of own (without_seen r) refl
          (kind ∙ sym (kept.all_nest r.thread t here) ∙ sym (ap (λ (x : Thread). x.state.nests) same))
          (subst (IsThreadOf own) (sym same) of);
      next_kind = advanced.kind ∙ ap (λ (x : Thread). x.state.nests) same;
      threads = advanced.threads ∙ ap (λ (v : List Thread). set v r.thread advanced.next) unchanged;
      used = λ task.
          ap (λ s. has s task) advanced.used ∙ notes.used task
          ∙ ap (λ s. is_task task (made r.body) || has s task) calls.used;
      new = λ task makes.
          sym (ap (λ s. has s task) calls.used) ∙ notes.new_one task makes;
      nests = advanced.nests ∙ notes.nests ∙ calls.nests;
      count = advanced.count ∙ ap (λ n. n + 1) (notes.count ∙ calls.count);
    })
  where
    unchanged : noted.threads.items ≡ old.threads.items
    unchanged =
        ap (λ (v : Vec Thread Global). v.items) (notes.threads ∙ calls.threads)

    same : advanced.t ≡ t
    same =
        same_Some advanced.t t
        (sym advanced.here ∙ ap (λ (l : List Thread). slice_get l r.thread) unchanged ∙ here)
