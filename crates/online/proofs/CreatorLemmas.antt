-- No task of watchable records creates itself: what runs on a thread is named before.
use Rattle.std.proofs.Common.{◌≡◌, ◌∙◌, ℕ, zero, suc, ◌<◌, ◌≤◌, Bool, true, false, List, [], ◌∷◌}
use Rattle.std.proofs.Common.{length, take, drop, get_or, Option, Some, None, refl, sym, ap, arith, inl, inr}
use Rattle.std.specs.Prelude.{slice_get, filter, ◌==◌, All, Contains, if◌then◌else◌}
use Rattle.std.specs.List.{fold}
use Rattle.std.proofs.lemmas.Bool.{cases_eq}
use Rattle.std.proofs.lemmas.Option.{none-some, same_Some, slice_get-get_or, slice_get_within}
use Rattle.std.proofs.lemmas.List.{length-take, get_or-take}
use Rattle.std.proofs.lemmas.List.Elements.{All-filter}
use Rattle.ompt_events.specs.declared.records.Record.{Record}
use Rattle.ompt_events.specs.declared.records.Body.{Body}
use Rattle.ompt_events.specs.declared.records.Body.TheVariants.{ImplicitTask, TaskSchedule}
use Rattle.ompt_events.specs.declared.names.Endpoint.TheVariants.{Begin, End}
use Rattle.ompt_events.specs.declared.cause.Cause.TheVariants.{CreatedTwice, NotCurrent}
use Rattle.ompt_events.specs.Names.{demands_next}
use Rattle.ompt_events.specs.Records.{running, named}
use Rattle.ompt_events.specs.Tree.{IsCreatedAt}
use Rattle.ompt_events.specs.Threads.{Walk, at_start, uncovered, after_body, after_record, walk_of, MisfitsAt}
use Rattle.ompt_events.specs.Threads.{not_running}
use Rattle.ompt_events.specs.Causes.{IsFreeOf, IsNamedAt, created_twice, not_current}
use Rattle.ompt_events.proofs.PlaceLemmas.{get_at}
use Rattle.ompt_events.proofs.RecordLemmas.{creation_at_running, creation_at_created, created_at_made}
use Rattle.online.specs.Online.{IsWatchable}
use Rattle.online.proofs.NameLemmas.{started_named}
use Rattle.online.proofs.NestingLemmas.{get_drop}

-- ---- the tasks of a walk are named by its records

record Knows (P : ℕ → Type 0) (walk : Walk) : Type 0 where
  pub roots : (q task : ℕ) → slice_get walk.roots q ≡ Some task → P task
  pub outer : (q task : ℕ) → get_or walk.outer q None ≡ Some task → P task
  pub current : (task : ℕ) → walk.current ≡ Some task → P task

outer_drop : (xs : List (Option ℕ)) (q : ℕ) → get_or (drop 1 xs) q None ≡ get_or xs (suc q) None
outer_drop [] q = refl
outer_drop (x ∷ xs) q = refl

after_knows : (P : ℕ → Type 0) (nests : Bool) (walk : Walk) (b : Body)
    → ((task : ℕ) → Contains (named b) task → P task) → Knows P walk → Knows P (after_body nests walk b)
after_knows P nests walk (ImplicitTask Begin actual index flags parallel own) names knows = record {
  roots = roots;
  outer = outer;
  current = λ task is. names task (0, omega arith, same_Some own task is);
}
  where
    roots : (q task : ℕ) → slice_get (own ∷ walk.roots) q ≡ Some task → P task
    roots zero task is = names task (0, omega arith, same_Some own task is)
    roots (suc q) task is = knows.roots q task is

    outer : (q task : ℕ) → get_or (walk.current ∷ walk.outer) q None ≡ Some task → P task
    outer zero task is = knows.current task is
    outer (suc q) task is = knows.outer q task is
after_knows P nests walk (ImplicitTask End actual index flags parallel own) names knows = record {
  roots = λ q task is. knows.roots (suc q) task (sym (get_drop walk.roots q) ∙ is);
  outer = λ q task is. knows.outer (suc q) task (sym (outer_drop walk.outer q) ∙ is);
  current = current nests;
}
  where
    current : (b : Bool) (task : ℕ) → uncovered b walk ≡ Some task → P task
    current true task is = knows.outer 0 task is
    current false task is = knows.roots 1 task is
after_knows P nests walk (TaskSchedule status turns prior next claimed) names knows =
    of (demands_next status)
  where
    of : (b : Bool)
        → Knows P (if b then record { roots = walk.roots; outer = walk.outer; current = next } else walk)
    of true = record {
      roots = knows.roots;
      outer = knows.outer;
      current = λ task is.
          names task (started_named task (TaskSchedule status turns prior next claimed) is);
    }
    of false = knows
after_knows P nests walk _ names knows = knows

abbrev Names : (ℕ → Type 0) → Record → Type 0
Names P r = (task : ℕ) → Contains (named r.body) task → P task

fold_knows : (P : ℕ → Type 0) (rs : List Record) (walk : Walk) → All (Names P) rs → Knows P walk
    → Knows P (fold after_record walk rs)
fold_knows P [] walk names knows = knows
fold_knows P (r ∷ rs) walk names knows =
    fold_knows P rs (after_record walk r) (λ i d low. names (suc i) d (omega (arith, low)))
    (after_knows P r.nests walk r.body (names 0 r (omega arith)) knows)

-- the task that runs on a thread is named by an earlier record
current_named : (rs : List Record) (thread i task : ℕ) → i ≤ length rs
    → (walk_of thread (take i rs)).current ≡ Some task → (k : ℕ) × (k < i) × IsNamedAt rs k task
current_named rs thread i task most is =
    (fold_knows P (filter (λ (r : Record). r.thread == thread) (take i rs)) at_start
    (All-filter (λ (r : Record). r.thread == thread) (Names P) (take i rs) below) none).current task is
  where
    P : ℕ → Type 0
    P task = (k : ℕ) × (k < i) × IsNamedAt rs k task

    below : All (Names P) (take i rs)
    below k d low task has =
        let len = length-take i rs in
        let first : k < i = omega (arith, low, len) in (
          k,
          first,
          (
            get_or (take i rs) k d,
            slice_get-get_or rs k d (omega (arith, first, most))
                ∙ ap Some (sym (get_or-take i rs k d first)),
            has,
          ),
        )

    none : Knows P at_start
    none = record {
      roots = λ q task is. absurd (none-some task is);
      outer = λ q task is. absurd (none-some task is);
      current = λ task is. absurd (none-some task is);
    }

-- ---- no task creates itself

fits : (rs : List Record) → IsFreeOf rs NotCurrent → (n i : ℕ) → i < n → MisfitsAt rs i → ⊥
fits rs free zero i low misfits = absurd (omega (arith, low))
fits rs free (suc n) i low misfits =
    free i
    (not_current (record {
      misfits = misfits;
      first = λ k less same other. fits rs free n k (omega (arith, less, low)) other;
    }))

pub none_of_itself : (rs : List Record) → IsWatchable rs → IsFreeOf rs CreatedTwice → IsFreeOf rs NotCurrent
    → (i task : ℕ) → IsCreatedAt rs i task task → ⊥
none_of_itself rs watchable once free i task creates =
    let (r, here, runs) = get_at running rs i task (creation_at_running task task rs i creates) in
    of r here runs (walk_of r.thread (take i rs)).current refl
  where
    named_first : (k : ℕ) × (k < i) × IsNamedAt rs k task → ⊥
    named_first (k, low, name) =
        let (j, early, makes) = watchable.named k task name in
        once i
        (created_twice (
          task,
          j,
          omega (arith, early, low),
          makes,
          created_at_made task rs i (creation_at_created task task rs i creates),
        ))

    other : (r : Record) → slice_get rs i ≡ Some r → running r.body ≡ Some task
        → ((walk_of r.thread (take i rs)).current ≡ Some task → ⊥) → ⊥
    other r here runs apart =
        fits rs free (suc i) i (omega arith) (record {
          the_record = r;
          stands = here;
          misfits = not_running task runs apart;
        })

    of : (r : Record) → slice_get rs i ≡ Some r → running r.body ≡ Some task → (o : Option ℕ)
        → (walk_of r.thread (take i rs)).current ≡ o → ⊥
    of r here runs None is = other r here runs (λ same. none-some task (sym is ∙ same))
    of r here runs (Some own) is = elim (cases_eq own task) [
      | inl same ↦
          let within = slice_get_within rs i r here in
          named_first
          (current_named rs r.thread i task (omega (arith, within)) (is ∙ ap Some same))
      | inr apart ↦ other r here runs (λ same. apart (same_Some own task (sym is ∙ same)))
    ]
