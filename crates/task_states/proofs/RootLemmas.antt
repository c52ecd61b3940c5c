-- A root runs on the thread on which it begins, and where each task runs.
use Rattle.std.proofs.Common.{◌≡◌, ◌≢◌, ◌∙◌, ℕ, zero, suc, ◌+◌, List, [], ◌∷◌, take, Option, Some, None, Bool}
use Rattle.std.proofs.Common.{true, false, refl, sym, ap, arith, inl, inr}
use Rattle.std.proofs.lemmas.Bool.{cases_eq, eq-eqb, eqb-true, or_parts, false≢true}
use Rattle.std.proofs.lemmas.Option.{none-some, same_Some}
use Rattle.std.specs.Prelude.{◌==◌, if◌then◌else◌, filter, fold, slice_get, option_and_then, option_map}
use Rattle.std.specs.List.{list_any}
use Rattle.ompt_events.specs.declared.records.Record.{Record}
use Rattle.ompt_events.specs.declared.records.Body.{Body}
use Rattle.ompt_events.specs.declared.records.Body.TheVariants.{ImplicitTask, TaskSchedule}
use Rattle.ompt_events.specs.declared.names.Endpoint.TheVariants.{Begin, End}
use Rattle.ompt_events.specs.declared.cause.Cause.TheVariants.{NotCurrent, CreatedTwice}
use Rattle.ompt_events.specs.Names.{demands_next}
use Rattle.ompt_events.specs.Records.{made, started, begun_root}
use Rattle.ompt_events.specs.Places.{at, thread_at}
use Rattle.ompt_events.specs.Threads.{Walk, at_start, after_body, after_record, walk_of, other_root}
use Rattle.ompt_events.specs.Tree.{IsRoot, IsExplicit}
use Rattle.ompt_events.specs.States.{is_on, home_of, has_moved}
use Rattle.ompt_events.specs.Causes.{IsFreeOf}
use Rattle.ompt_events.proofs.EveryLemmas.{Every, every_filter, every_take, every_passes, every_weaker}
use Rattle.ompt_events.proofs.EveryLemmas.{every_get, every_rest}
use Rattle.ompt_events.proofs.PlaceLemmas.{get_at}
use Rattle.task_tree.specs.Family.{FamilyView, IsFamilyOf}
use Rattle.packed_trace.specs.Named.{object}
use Rattle.task_tree.proofs.SubjectLemmas.{call_index}
use Rattle.task_tree.proofs.LookupLemmas.{object_calls}
use Rattle.task_tree.proofs.SuspendedLemmas.{no_misfit_below}
use Rattle.task_tree.proofs.NamedLemmas.{started_object}
use Rattle.task_states.specs.declared.homes.Home.{Home}
use Rattle.task_states.specs.declared.homes.Home.TheVariants.{On}
use Rattle.task_states.specs.Homes.{home_told, home_at}
use Rattle.task_states.specs.Progress.{is_many, AreHomes}
use Rattle.task_states.proofs.OriginLemmas.{root_home, root_begins, home_there}
use Rattle.task_states.proofs.PassLemmas.{many_is}
use Rattle.task_states.proofs.HomeLemmas.{has_not_moved, on_thread}

-- ---- no record misfits

-- ---- the open roots of a thread began on it

-- the root begins on the thread
abbrev IsBegunOn : List Record → ℕ → ℕ → Type 0
IsBegunOn rs thread task = (i : ℕ) × (at begun_root rs i ≡ Some task) × (thread_at rs i ≡ Some thread)

-- a record of the thread stands in the list, and if it begins a root, the root begins on the thread
abbrev BeginsOn : List Record → ℕ → Record → Type 0
BeginsOn rs thread r = (task : ℕ) → begun_root r.body ≡ Some task → IsBegunOn rs thread task

every_zip : {X : Type 0} (P Q : X → Type 0) (xs : List X) → Every P xs → Every Q xs
    → Every (λ x. P x × Q x) xs
every_zip P Q [] first second = first
every_zip P Q (x ∷ xs) first second = ((first.0, second.0), every_zip P Q xs first.1 second.1)

-- each record stands at some place
every_placed : (rs : List Record) → Every (λ r. (i : ℕ) × (slice_get rs i ≡ Some r)) rs
every_placed [] = tt
every_placed (r ∷ rs) = (
  (0, refl),
  every_weaker (λ q. (i : ℕ) × (slice_get rs i ≡ Some q))
      (λ q. (i : ℕ) × (slice_get (r ∷ rs) i ≡ Some q)) (λ q (i, stands). (suc i, stands)) rs
      (every_placed rs),
)

roots_after : (rs : List Record) (thread : ℕ) (nests : Bool) (walk : Walk) (b : Body)
    → Every (IsBegunOn rs thread) walk.roots
    → ((task : ℕ) → begun_root b ≡ Some task → IsBegunOn rs thread task)
    → Every (IsBegunOn rs thread) (after_body nests walk b).roots
roots_after rs thread nests walk (ImplicitTask Begin actual index flags parallel task) each begins =
    (begins task refl, each)
roots_after rs thread nests walk (ImplicitTask End actual index flags parallel task) each begins =
    every_rest (IsBegunOn rs thread) walk.roots each
roots_after rs thread nests walk (TaskSchedule status turns prior next claimed) each begins =
    by (demands_next status)
  where
    by : (b : Bool)
        → Every (IsBegunOn rs thread)
        (if b then record { roots = walk.roots; outer = walk.outer; current = next } else walk).roots
    by true = each
    by false = each
roots_after rs thread nests walk _ each begins = each

roots_begun : (rs : List Record) (thread : ℕ) (qs : List Record) (walk : Walk)
    → Every (IsBegunOn rs thread) walk.roots → Every (BeginsOn rs thread) qs
    → Every (IsBegunOn rs thread) (fold after_record walk qs).roots
roots_begun rs thread [] walk each begins = each
roots_begun rs thread (q ∷ qs) walk each begins =
    roots_begun rs thread qs (after_record walk q) (roots_after rs thread q.nests walk q.body each begins.0)
    begins.1

walk_begun : (rs : List Record) (thread i : ℕ)
    → Every (IsBegunOn rs thread) (walk_of thread (take i rs)).roots
walk_begun rs thread i =
    roots_begun rs thread part at_start tt (every_weaker
    (λ r. ((k : ℕ) × (slice_get rs k ≡ Some r)) × (r.thread == thread ≡ true)) (BeginsOn rs thread) begins
    part
    (every_zip (λ r. (k : ℕ) × (slice_get rs k ≡ Some r)) (λ r. r.thread == thread ≡ true) part
    (every_filter (λ r. (k : ℕ) × (slice_get rs k ≡ Some r)) (λ r. r.thread == thread) (take i rs)
    (every_take (λ r. (k : ℕ) × (slice_get rs k ≡ Some r)) i rs (every_placed rs)))
    (every_passes (λ r. r.thread == thread) (take i rs))))
  where
    part : List Record
    part = filter (λ r. r.thread == thread) (take i rs)

    begins : (r : Record) → ((k : ℕ) × (slice_get rs k ≡ Some r)) × (r.thread == thread ≡ true)
        → BeginsOn rs thread r
    begins r ((k, stands), own) task begun = (
      k,
      ap (option_and_then (λ (q : Record). begun_root q.body)) stands ∙ begun,
      ap (option_map (λ (q : Record). q.thread)) stands ∙ ap Some (eqb-true r.thread thread own),
    )

-- ---- a root never moves

-- a root that runs next is the innermost open one, which began on the thread
pub root_runs_home : (rs : List Record) (task i : ℕ) → IsFreeOf rs NotCurrent → IsFreeOf rs CreatedTwice
    → IsRoot rs task → at started rs i ≡ Some task → is_on rs (home_of rs task) i ≡ true
root_runs_home rs task i current once root starts =
    let (r, stands, is) = get_at started rs i task starts in
    let roots = (walk_of r.thread (take i rs)).roots in
    let misfit = λ (other : slice_get roots 0 ≢ Some task).
    no_misfit_below rs current (i + 1) i (omega arith)
    (record { the_record = r; stands = stands; misfits = other_root task is root other }) in
    let (k, begins, there) =
    every_get (IsBegunOn rs r.thread) roots 0 task (walk_begun rs r.thread i)
    (innermost (slice_get roots 0) (slice_get roots 0) refl task misfit) in
    on_thread rs (home_of rs task) i r.thread r.thread (root_home rs task k once begins r.thread there)
    (ap (option_map (λ (q : Record). q.thread)) stands)
    ∙ eq-eqb r.thread r.thread refl
  where
    innermost : (o top : Option ℕ) → top ≡ o → (own : ℕ) → (top ≢ Some own → ⊥) → top ≡ Some own
    innermost None top e own not_other = absurd (not_other (λ is. none-some own (sym e ∙ is)))
    innermost (Some found) top e own not_other = elim (cases_eq found own) [
      | inl same ↦ e ∙ ap Some same
      | inr apart ↦ absurd (not_other (λ is. apart (same_Some found own (sym e ∙ is))))
    ]

-- a root runs on the thread of the record that makes it
pub root_told : (rs : List Record) (tasks : List ℕ) (index task place thread : ℕ) → IsFreeOf rs NotCurrent
    → IsFreeOf rs CreatedTwice → at made rs place ≡ slice_get tasks index → slice_get tasks index ≡ Some task
    → (IsExplicit rs task → ⊥) → thread_at rs place ≡ Some thread → On thread ≡ home_at rs task
root_told rs tasks index task place thread current once is stands not_explicit there =
    let root : IsRoot rs task = (place, root_begins rs tasks index task place is stands not_explicit) in
    let still : has_moved rs task ≡ false =
    has_not_moved rs task (λ i starts tells. root_runs_home rs task i current once root starts) in
    let own : Some thread ≡ home_of rs task =
    sym there ∙ home_there rs tasks index task place once is stands not_explicit in
    ap (home_told false) own ∙ ap (λ b. home_told b (home_of rs task)) (sym still)

-- ---- whether any task has moved

not_any : {X : Type 0} (p : X → Bool) (xs : List X) (i : ℕ) (x : X) → list_any p xs ≡ false
    → slice_get xs i ≡ Some x → p x ≡ false
not_any p [] i x none stands = absurd (none-some x stands)
not_any p (y ∷ ys) zero x none stands =
    ap p (sym (same_Some y x stands)) ∙ (or_parts (p y) (list_any p ys) none).0
not_any p (y ∷ ys) (suc i) x none stands = not_any p ys i x (or_parts (p y) (list_any p ys) none).1 stands

-- a task that runs next has an index
started_index : (rs : List Record) (family : FamilyView) (i task : ℕ) → IsFamilyOf rs family
    → at started rs i ≡ Some task → (index : ℕ) × (slice_get family.tasks index ≡ Some task)
started_index rs family i task are starts =
    let (r, stands, is) = get_at started rs i task starts in
    let (index, found, there) =
    call_index family.tasks (at object rs i) _ task (object_calls rs family i are)
    (ap (option_and_then (λ (q : Record). object q.body)) stands ∙ started_object task r.body is) in
    (index, there)

pub none_moved : (rs : List Record) (family : FamilyView) (homes : List Home) → IsFamilyOf rs family
    → AreHomes rs family.tasks homes → list_any is_many homes ≡ false → (task : ℕ) → has_moved rs task ≡ false
none_moved rs family homes are homes_are none task = by (has_moved rs task) refl
  where
    by : (b : Bool) → has_moved rs task ≡ b → has_moved rs task ≡ false
    by false e = e
    by true e = has_not_moved rs task (λ i starts tells. absurd (never i starts e))
      where
        never : (i : ℕ) → at started rs i ≡ Some task → has_moved rs task ≡ true → ⊥
        never i starts moves =
            let (index, there) = started_index rs family i task are starts in
            let many : is_many (home_at rs task) ≡ true = many_is rs task (home_at rs task) refl ∙ moves in
            false≢true
            (sym (not_any is_many homes index (home_at rs task) none (homes_are index task there)) ∙ many)
