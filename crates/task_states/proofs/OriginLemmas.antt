-- What each task is, and where it is at home.
use Rattle.std.proofs.Common.{◌≡◌, ◌∙◌, ℕ, zero, suc, ◌<◌, ◌≤◌, ◌+◌, List, [], ◌∷◌, ◌++◌, length, get_or}
use Rattle.std.proofs.Common.{Option, Some, None, Bool, true, false, cond, refl, sym, ap, subst, arith, inl}
use Rattle.std.proofs.Common.{inr}
use Rattle.std.proofs.lemmas.Bool.{eq-eqb, eqb-true, false≢true}
use Rattle.std.proofs.lemmas.Option.{none-some, same_Some, slice_get_within, slice_get-get_or}
use Rattle.std.proofs.lemmas.Option.{get_or_from_slice_get}
use Rattle.std.proofs.lemmas.List.{length_push}
use Rattle.std.proofs.Math.ListN.{set}
use Rattle.std.specs.Prelude.{◌==◌, ◌&&◌, if◌then◌else◌, is_some, find, slice_get, Contains, option_and_then}
use Rattle.std.specs.Option.{option_map_or}
use Rattle.ompt_events.specs.declared.records.Record.{Record}
use Rattle.ompt_events.specs.declared.records.Body.{Body}
use Rattle.ompt_events.specs.declared.records.Body.TheVariants.{ImplicitTask, TaskCreate}
use Rattle.ompt_events.specs.declared.names.Endpoint.TheVariants.{Begin}
use Rattle.ompt_events.specs.declared.cause.Cause.TheVariants.{CreatedTwice}
use Rattle.ompt_events.specs.Causes.{IsFreeOf}
use Rattle.ompt_events.specs.Flags as flag
use Rattle.ompt_events.specs.Flags.{has_flag}
use Rattle.ompt_events.specs.Records.{begun_root, created, made, flags as says_flags}
use Rattle.ompt_events.specs.Places.{at, thread_at, places}
use Rattle.ompt_events.specs.Tree.{IsRoot, IsExplicit}
use Rattle.ompt_events.specs.States.{Nature, Root, Wait, Plain, is_task, creates_wait, is_made_so, nature_of}
use Rattle.ompt_events.specs.States.{begun_on, run_on, home_of}
use Rattle.ompt_events.proofs.PlaceLemmas.{thread_none, contains_place, at_within, at_get, is_the_task}
use Rattle.ompt_events.proofs.PlaceLemmas.{the_task}
use Rattle.ompt_events.proofs.RecordLemmas.{begun_made, made_cases, begun_at_made}
use Rattle.ompt_events.proofs.ListLemmas.{pushed_cases, contains_get}
use Rattle.packed_trace.specs.Packed.{made_with, makes_with}
use Rattle.task_tree.proofs.OnceLemmas.{made_once}
use Rattle.task_tree.proofs.SuspendedLemmas.{explicit_not_root}
use Rattle.task_states.specs.declared.homes.Home.{Home}
use Rattle.task_states.specs.declared.homes.Home.TheVariants.{Nowhere}
use Rattle.task_states.specs.Homes.{home_at}
use Rattle.task_states.specs.declared.moves.Nature as code
use Rattle.task_states.specs.declared.moves.Nature.TheVariants as variants
use Rattle.task_states.specs.Progress.{first_start, the_nature, AreNatures, AreHomes}

-- ---- the first that passes a test

pub found_some : {X : Type 0} (p : X → Bool) (xs : List X) (x : X) → Contains xs x → p x ≡ true
    → is_some (find p xs) ≡ true
found_some p [] x (i, low, is) passes = absurd (omega arith)
found_some p (y ∷ ys) x (zero, low, is) passes =
    ap (λ b. is_some (cond b (Some y) (find p ys))) (ap p is ∙ passes)
found_some p (y ∷ ys) x (suc i, low, is) passes = by (p y) (found_some p ys x (i, omega arith, is) passes)
  where
    by : (b : Bool) → is_some (find p ys) ≡ true → is_some (cond b (Some y) (find p ys)) ≡ true
    by true rest = refl
    by false rest = rest

pub found_passes : {X : Type 0} (p : X → Bool) (xs : List X) (x : X) → find p xs ≡ Some x
    → (p x ≡ true) × Contains xs x
found_passes p [] x is = absurd (none-some x is)
found_passes p (y ∷ ys) x is = by (p y) refl (found_passes p ys x) is
  where
    by : (b : Bool) → p y ≡ b → (find p ys ≡ Some x → (p x ≡ true) × Contains ys x)
        → cond b (Some y) (find p ys) ≡ Some x → (p x ≡ true) × Contains (y ∷ ys) x
    by true passes more same = let e = same_Some y x same in (ap p (sym e) ∙ passes, (0, omega arith, e))
    by false fails more rest =
        let (passes, (i, low, at_i)) = more rest in (passes, (suc i, omega (arith, low), at_i))

-- nothing is found where nothing passes
pub found_none : {X : Type 0} (p : X → Bool) (xs : List X) → ((x : X) → p x ≡ true → ⊥) → find p xs ≡ None
found_none p xs none = of (find p xs) refl
  where
    of : (o : Option _) → find p xs ≡ o → o ≡ None
    of None e = refl
    of (Some x) e = absurd (none x (found_passes p xs x e).0)

-- ---- what a task is

-- only the record that makes a task begins or creates it
same_record : (rs : List Record) (task place i : ℕ) (r q : Record) → IsFreeOf rs CreatedTwice
    → slice_get rs place ≡ Some r → slice_get rs i ≡ Some q → made r.body ≡ Some task
    → made q.body ≡ Some task → r ≡ q
same_record rs task place i r q once stands stands' makes makes' =
    let same : place ≡ i =
    made_once rs task place i once (at_get made rs place r stands ∙ makes)
    (at_get made rs i q stands' ∙ makes') in
    same_Some r q (sym stands ∙ ap (slice_get rs) same ∙ stands')

contains_record : (rs : List Record) (i : ℕ) (r : Record) → slice_get rs i ≡ Some r → Contains rs r
contains_record rs i r stands =
    let within = slice_get_within rs i r stands in (i, within, get_or_from_slice_get rs i r r stands)

creates_made : (task : ℕ) (b : Body) → creates_wait task b ≡ true → made b ≡ Some task
creates_made task (TaskCreate deps flags parent child) is =
    ap Some (eqb-true child task (first (child == task) (has_flag flags.0 flag.taskwait) is))
  where
    first : (a b : Bool) → a && b ≡ true → a ≡ true
    first true b is = refl
    first false b is = absurd (false≢true is)
creates_made task _ is = absurd (false≢true is)

-- the nature of the task that a record makes
abbrev pub nature_made : Body → Nature
nature_made (ImplicitTask endpoint actual index flags parallel task) = Root
nature_made (TaskCreate deps flags task child) =
    if has_flag flags.0 flag.taskwait then Wait else Plain
nature_made _ = Plain

-- the task's nature is what its maker says
pub nature_is : (rs : List Record) (task place : ℕ) (r : Record) → IsFreeOf rs CreatedTwice
    → slice_get rs place ≡ Some r → made r.body ≡ Some task → nature_of rs task ≡ nature_made r.body
nature_is rs task place r once stands makes = of r.body refl makes
  where
    begins : Record → Bool
    begins q = is_task task (begun_root q.body)

    waits : Record → Bool
    waits q = creates_wait task q.body

    no_root : (b : Body) → r.body ≡ b → begun_root b ≡ None → find begins rs ≡ None
    no_root b e none = none_found (find begins rs) refl
      where
        none_found : (o : Option Record) → find begins rs ≡ o → o ≡ None
        none_found None e' = refl
        none_found (Some q) e' =
            let (passes, has) = found_passes begins rs q e' in
            let root : begun_root q.body ≡ Some task = is_the_task task (begun_root q.body) passes in
            let (i, stands') = contains_get rs q has in
            let same =
            same_record rs task place i r q once stands stands' makes (begun_made task q.body root) in
            absurd
            (none-some task
            (sym none ∙ ap begun_root (sym e) ∙ ap (λ (p : Record). begun_root p.body) same ∙ root))

    of : (b : Body) → r.body ≡ b → made b ≡ Some task → nature_of rs task ≡ nature_made b
    of (ImplicitTask Begin actual index flags parallel root) e is =
        ap (λ c. if c then Root else if is_made_so (creates_wait task) rs then Wait else Plain)
        (found_some begins rs r (contains_record rs place r stands)
        (the_task task (begun_root r.body) (ap begun_root e ∙ is)))
    of (TaskCreate deps flags parent child) e is =
        ap
        (λ (o : Option Record).
        if is_some o then Root else if is_made_so (creates_wait task) rs then Wait else Plain)
        (no_root (TaskCreate deps flags parent child) e refl)
        ∙ ap (λ c. if c then Wait else Plain) (wait (has_flag flags.0 flag.taskwait) refl)
      where
        here : waits r ≡ has_flag flags.0 flag.taskwait
        here =
            ap (creates_wait task) e
            ∙ ap (λ c. c && has_flag flags.0 flag.taskwait) (eq-eqb child task (same_Some child task is))

        wait : (c : Bool) → has_flag flags.0 flag.taskwait ≡ c → is_some (find waits rs) ≡ c
        wait true set = found_some waits rs r (contains_record rs place r stands) (here ∙ set)
        wait false clear = ap is_some (none_found (find waits rs) refl)
          where
            none_found : (o : Option Record) → find waits rs ≡ o → o ≡ None
            none_found None e' = refl
            none_found (Some q) e' =
                let (passes, has) = found_passes waits rs q e' in
                let (i, stands') = contains_get rs q has in
                let same =
                same_record rs task place i r q once stands stands' makes
                (creates_made task q.body passes) in
                absurd (false≢true (sym clear ∙ sym here ∙ ap waits same ∙ passes))
    of _ e is = absurd (none-some task is)

-- ---- where a task is at home

-- a root is at home where it begins
pub root_home : (rs : List Record) (task place : ℕ) → IsFreeOf rs CreatedTwice
    → at begun_root rs place ≡ Some task → (thread : ℕ) → thread_at rs place ≡ Some thread
    → home_of rs task ≡ Some thread
root_home rs task place once begins thread is = of (find p (places rs)) refl
  where
    p : ℕ → Bool
    p i = is_task task (at begun_root rs i)

    of : (o : Option ℕ) → find p (places rs) ≡ o → home_of rs task ≡ Some thread
    of None e =
        absurd
        (false≢true
        (ap is_some (sym e)
        ∙ found_some p (places rs) place
        (contains_place rs place (at_within begun_root rs place task begins))
        (the_task task (at begun_root rs place) begins)))
    of (Some i) e =
        let begins' : at begun_root rs i ≡ Some task =
        is_the_task task (at begun_root rs i) (found_passes p (places rs) i e).0 in
        let same : i ≡ place =
        made_once rs task i place once (begun_at_made task rs i begins')
        (begun_at_made task rs place begins) in
        let there : begun_on rs task ≡ Some thread =
        ap (option_and_then (thread_at rs)) e ∙ ap (thread_at rs) same ∙ is in
        ap (λ o. if is_some o then o else run_on rs task) there

-- an explicit task where it first runs
pub explicit_home : (rs : List Record) (task : ℕ) → (IsRoot rs task → ⊥)
    → home_of rs task ≡ option_and_then (thread_at rs) (first_start rs (length rs) task)
explicit_home rs task no_root =
    ap
    (λ (o : Option ℕ).
    let begun = option_and_then (thread_at rs) o in if is_some begun then begun else run_on rs task)
    (found_none (λ i. is_task task (at begun_root rs i)) (places rs)
    (λ i passes. no_root (i, is_the_task task (at begun_root rs i) passes)))

-- ---- tables that are filled in the order of the indices

pub record IsFilled {X : Type 0} (says : ℕ → X → Type 0) (n : ℕ) (table : List X) : Type 0 where
  pub all : length table ≡ n
  pub each : (i : ℕ) (x : X) → slice_get table i ≡ Some x → says i x

pub filled_more : {X : Type 0} (says : ℕ → X → Type 0) (n : ℕ) (table : List X) (x : X)
    → IsFilled says n table → says n x → IsFilled says (n + 1) (table ++ x ∷ [])
filled_more says n table x filled here = record {
  all = length_push table x ∙ ap (λ m. m + 1) filled.all;
  each = λ i y stands. elim (pushed_cases table x y i stands) [
    | inl old ↦ filled.each i y old
    | inr (last, same) ↦ subst (λ j. says j y) (sym (last ∙ filled.all)) (subst (says n) same here)
  ];
}

-- the tables of natures and homes, once all indices were gone over
pub natures_are : (rs : List Record) (tasks : List ℕ) (n : ℕ) (natures : List code.Nature)
    → IsFilled
    (λ (i : ℕ) (nature : code.Nature).
    (task : ℕ) → slice_get tasks i ≡ Some task → the_nature nature ≡ nature_of rs task) n
    natures
    → length tasks ≤ n → AreNatures rs tasks natures
natures_are rs tasks n natures filled all index task stands =
    let within = slice_get_within tasks index task stands in
    let here = slice_get-get_or natures index variants.Plain (omega (arith, within, all, filled.all)) in (
      get_or natures index variants.Plain,
      here,
      filled.each index (get_or natures index variants.Plain) here task stands,
    )

pub homes_are : (rs : List Record) (tasks : List ℕ) (n : ℕ) (homes : List Home)
    → IsFilled (λ (i : ℕ) (home : Home). (task : ℕ) → slice_get tasks i ≡ Some task → home ≡ home_at rs task)
    n homes
    → length tasks ≤ n → AreHomes rs tasks homes
homes_are rs tasks n homes filled all index task stands =
    let within = slice_get_within tasks index task stands in
    let here = slice_get-get_or homes index Nowhere (omega (arith, within, all, filled.all)) in
    here ∙ ap Some (filled.each index (get_or homes index Nowhere) here task stands)

-- ---- the steps of the loops

pub made_within : (rs : List Record) (tasks : List ℕ) (index place : ℕ) → index < length tasks
    → at made rs place ≡ slice_get tasks index → place < length rs
made_within rs tasks index place within is =
    at_within made rs place (get_or tasks index 0) (is ∙ slice_get-get_or tasks index 0 within)

begun_nature : (task : ℕ) (b : Body) → begun_root b ≡ Some task → nature_made b ≡ Root
begun_nature task (ImplicitTask Begin actual index flags parallel own) is = refl
begun_nature task _ is = absurd (none-some task is)

created_nature : (task : ℕ) (b : Body) → created b ≡ Some task
    → nature_made b
    ≡ (if option_map_or (λ bits. has_flag bits flag.taskwait) (says_flags b) false then Wait else Plain)
created_nature task (TaskCreate deps flags parent child) is = refl
created_nature task _ is = absurd (none-some task is)

pub root_nature : (rs : List Record) (tasks : List ℕ) (index task place : ℕ) → IsFreeOf rs CreatedTwice
    → at made rs place ≡ slice_get tasks index → slice_get tasks index ≡ Some task → (IsExplicit rs task → ⊥)
    → nature_of rs task ≡ Root
root_nature rs tasks index task place once is is_task not_explicit = there (slice_get rs place) refl
  where
    there : (o : Option Record) → slice_get rs place ≡ o → nature_of rs task ≡ Root
    there None e =
        absurd (none-some task (sym (ap (option_and_then (λ (r : Record). made r.body)) e) ∙ is ∙ is_task))
    there (Some r) e =
        let makes : made r.body ≡ Some task = sym (at_get made rs place r e) ∙ is ∙ is_task in
        nature_is rs task place r once e makes ∙ elim (made_cases task r.body makes) [
          | inl begins ↦ begun_nature task r.body begins
          | inr creates ↦ absurd (not_explicit (place, at_get created rs place r e ∙ creates))
        ]

pub explicit_nature : (rs : List Record) (tasks : List ℕ) (index task place : ℕ) (wait : Bool)
    → IsFreeOf rs CreatedTwice → at made rs place ≡ slice_get tasks index → slice_get tasks index ≡ Some task
    → IsExplicit rs task → makes_with flag.taskwait rs place ≡ wait → nature_of rs task ≡
    (if wait then Wait else Plain)
explicit_nature rs tasks index task place wait once is is_task explicit waits =
    there (slice_get rs place) refl
  where
    there : (o : Option Record) → slice_get rs place ≡ o → nature_of rs task ≡ (if wait then Wait else Plain)
    there None e =
        absurd (none-some task (sym (ap (option_and_then (λ (r : Record). made r.body)) e) ∙ is ∙ is_task))
    there (Some r) e =
        let makes : made r.body ≡ Some task = sym (at_get made rs place r e) ∙ is ∙ is_task in
        nature_is rs task place r once e makes ∙ elim (made_cases task r.body makes) [
          | inl begins ↦
              absurd
              (explicit_not_root rs task once explicit (place, at_get begun_root rs place r e ∙ begins))
          | inr creates ↦ created_nature task r.body creates
              ∙ ap (λ c. if c then Wait else Plain)
              (sym
              (ap (λ o. option_map_or (λ (q : Record). made_with flag.taskwait q.body) o false) e
              ∙ ap
              (λ (o : Option ℕ).
              option_map_or
              (λ _. option_map_or (λ bits. has_flag bits flag.taskwait) (says_flags r.body) false) o false)
              makes)
              ∙ waits)
        ]

root_made : (rs : List Record) (task place : ℕ) → at made rs place ≡ Some task
    → (at created rs place ≡ Some task → ⊥) → at begun_root rs place ≡ Some task
root_made rs task place makes not = there (slice_get rs place) refl
  where
    there : (o : Option Record) → slice_get rs place ≡ o → at begun_root rs place ≡ Some task
    there None e =
        absurd (none-some task (sym (ap (option_and_then (λ (r : Record). made r.body)) e) ∙ makes))
    there (Some r) e = elim (made_cases task r.body (sym (at_get made rs place r e) ∙ makes)) [
      | inl begins ↦ at_get begun_root rs place r e ∙ begins
      | inr creates ↦ absurd (not (at_get created rs place r e ∙ creates))
    ]

pub root_begins : (rs : List Record) (tasks : List ℕ) (index task place : ℕ)
    → at made rs place ≡ slice_get tasks index → slice_get tasks index ≡ Some task → (IsExplicit rs task → ⊥)
    → at begun_root rs place ≡ Some task
root_begins rs tasks index task place is is_task not_explicit =
    root_made rs task place (is ∙ is_task) (λ creates. not_explicit (place, creates))

pub home_there : (rs : List Record) (tasks : List ℕ) (index task place : ℕ) → IsFreeOf rs CreatedTwice
    → at made rs place ≡ slice_get tasks index → slice_get tasks index ≡ Some task → (IsExplicit rs task → ⊥)
    → thread_at rs place ≡ home_of rs task
home_there rs tasks index task place once is is_task not_explicit = of (thread_at rs place) refl
  where
    makes : at made rs place ≡ Some task
    makes = is ∙ is_task

    begins : at begun_root rs place ≡ Some task
    begins = root_begins rs tasks index task place is is_task not_explicit

    of : (o : Option ℕ) → thread_at rs place ≡ o → o ≡ home_of rs task
    of None e = absurd (none-some task (sym (thread_none made rs place e) ∙ makes))
    of (Some thread) e = sym (root_home rs task place once begins thread e)
