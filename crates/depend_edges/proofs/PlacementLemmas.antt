-- How the creations and their lists are marked.
use Rattle.std.proofs.Common.{◌≡◌, ◌≢◌, ◌∙◌, ℕ, ◌<◌, ◌≤◌, ◌+◌, List, length, get_or, Option, Some, None, Bool}
use Rattle.std.proofs.Common.{IsTrue, true, false, refl, sym, ap, subst, arith, inl, inr, ◌⊎◌, set}
use Rattle.std.proofs.lemmas.Bool.{cases_eq, cases_lt, eq-eqb, eqb-true, false≢true}
use Rattle.std.proofs.lemmas.Option.{none-some, same_Some, slice_get_within, slice_get_read, slice_get-get_or}
use Rattle.std.proofs.lemmas.List.{length-set, length-replicate, get_or-replicate}
use Rattle.std.specs.Prelude.{◌↔◌, nat_eq, slice_get, slice_index_or, is_some, replicate, option_and_then}
use Rattle.ompt_events.specs.declared.records.Record.{Record}
use Rattle.ompt_events.specs.declared.records.Body.{Body}
use Rattle.ompt_events.specs.declared.records.Body.TheVariants.{TaskCreate}
use Rattle.ompt_events.specs.declared.deps.Dep.{Dep}
use Rattle.ompt_events.specs.declared.cause.Cause.TheVariants.{DepsPlace}
use Rattle.ompt_events.specs.Records.{created_with_deps, dependences}
use Rattle.ompt_events.specs.Places.{at, thread_at}
use Rattle.ompt_events.specs.Causes.{IsNextInThread, AreFollowed, HasMisplacedDeps, stray, missing, HasCause}
use Rattle.ompt_events.specs.Causes.{deps_place}
use Rattle.ompt_events.specs.Shown.{AreAllBelow, AreAllWith}
use Rattle.ompt_events.proofs.PlaceLemmas.{at_within}
use Rattle.ompt_events.proofs.ShownLemmas.{all_with}
use Rattle.task_tree.proofs.LinkLemmas.{get_set_same, get_set_other}
use Rattle.task_tree.specs.Runs.{RunView, IsRun, IsIndexOf, AreDependences}
use Rattle.task_tree.proofs.SubjectLemmas.{call_task}
use Rattle.depend_edges.specs.Placement.{IsLastOfThread, AreLastOfThreads, BelongTogether, HasDependences}
use Rattle.depend_edges.specs.Placement.{HasNoneAt, IsListMarked}
use Rattle.depend_edges.specs.Placement.{AreListsMarked}

-- ---- the last record of each thread

pub no_slot : (n k : ℕ) (slots : List (Option ℕ)) → slots ≡ replicate n None → k < n
    → slice_get slots k ≡ Some None
no_slot n k slots are below =
    let long = ap length are ∙ length-replicate n None in
    slice_get-get_or slots k None (omega (arith, below, long))
    ∙ ap Some (ap (λ l. get_or l k None) are ∙ get_or-replicate n k None None below)

pub slots_long : (n : ℕ) (slots : List (Option ℕ)) → slots ≡ replicate n None → length slots ≡ n
slots_long n slots are = ap length are ∙ length-replicate n None

pub last_none : (rs : List Record) (last : List (Option ℕ)) → last ≡ replicate 256 None
    → AreLastOfThreads rs 0 last
last_none rs last are = record {
  all = slots_long 256 last are;
  each = λ thread a below. (
    λ stands.
        absurd (none-some a (same_Some None (Some a) (sym (no_slot 256 thread last are below) ∙ stands))),
    λ is. absurd (let before = is.before in omega (arith, before)),
  );
}

last_here : (rs : List Record) (i thread : ℕ) → thread_at rs i ≡ Some thread
    → IsLastOfThread rs (i + 1) thread i
last_here rs i thread runs = record {
  before = omega arith;
  runs = runs;
  last = λ k after before. absurd (omega arith);
}

last_same : (rs : List Record) (i thread a : ℕ) → thread_at rs i ≡ Some thread
    → IsLastOfThread rs (i + 1) thread a
    → i ≡ a
last_same rs i thread a runs is = elim (cases_lt a i) [
  | inl less ↦ absurd (is.last i less (omega arith) runs)
  | inr more ↦ let before = is.before in omega (arith, before)
]

last_stays : (rs : List Record) (i thread a : ℕ) → thread_at rs i ≢ Some thread → IsLastOfThread rs i thread a
    → IsLastOfThread rs (i + 1) thread a
last_stays rs i thread a apart is = record {
  before = let before = is.before in omega (arith, before);
  runs = is.runs;
  last = λ k after before. elim (cases_lt k i) [
    | inl less ↦ is.last k after less
    | inr more ↦ let same : k ≡ i = omega arith in λ e. apart (ap (thread_at rs) (sym same) ∙ e)
  ];
}

last_back : (rs : List Record) (i thread a : ℕ) → thread_at rs i ≢ Some thread
    → IsLastOfThread rs (i + 1) thread a
    → IsLastOfThread rs i thread a
last_back rs i thread a apart is = record {
  before = elim (cases_lt a i) [
    | inl less ↦ less
    | inr more ↦
        let before = is.before in
        let same : i ≡ a = omega (arith, before) in absurd (apart (ap (thread_at rs) same ∙ is.runs))
  ];
  runs = is.runs;
  last = λ k after before. is.last k after (omega arith);
}

pub last_more : (rs : List Record) (i own : ℕ) (last : List (Option ℕ)) → thread_at rs i ≡ Some own
    → own < 256 → AreLastOfThreads rs i last → AreLastOfThreads rs (i + 1) (set last own (Some i))
last_more rs i own last runs low are = record {
  all = length-set last own (Some i) ∙ are.all;
  each = λ thread a below. elim (cases_eq thread own) [
    | inl same ↦
        let P : ℕ → Type 0 =
        λ t. (slice_get (set last own (Some i)) t ≡ Some (Some a)) ↔ IsLastOfThread rs (i + 1) t a in
        subst P (sym same) (here a)
    | inr apart ↦
        let other : thread_at rs i ≢ Some thread = λ e. apart (same_Some thread own (sym e ∙ runs)) in (
          λ stands.
              last_stays rs i thread a other
              ((are.each thread a below).0 (sym (get_set_other last own thread (Some i) apart) ∙ stands)),
          λ is.
              get_set_other last own thread (Some i) apart
              ∙ (are.each thread a below).1 (last_back rs i thread a other is),
        )
  ];
}
  where
    stood : slice_get (set last own (Some i)) own ≡ Some (Some i)
    stood = get_set_same last own (Some i) (rw are.all low)

    here : (a : ℕ) → (slice_get (set last own (Some i)) own ≡ Some (Some a)) ↔ IsLastOfThread rs (i + 1) own a
    here a = (
      λ stands. let same : i ≡ a =
          same_Some i a (same_Some (Some i) (Some a) (sym stood ∙ stands)) in let P : ℕ → Type 0 =
          IsLastOfThread rs (i + 1) own in subst P same (last_here rs i own runs),
      λ is. stood ∙ ap (λ b. Some (Some b)) (last_same rs i own a runs is),
    )

-- so the record that a thread has next after another is found
next_last : (rs : List Record) (i own a : ℕ) (last : List (Option ℕ)) → thread_at rs i ≡ Some own → own < 256
    → AreLastOfThreads rs i last → IsNextInThread rs a i → slice_get last own ≡ Some (Some a)
next_last rs i own a last runs low are is = (are.each own a low).1 (record {
  before = is.later;
  runs = is.same_thread ∙ runs;
  last = λ k after before e. is.next k after before (e ∙ sym (is.same_thread ∙ runs));
})

last_next : (rs : List Record) (i own a : ℕ) (last : List (Option ℕ)) → i < length rs
    → thread_at rs i ≡ Some own → own < 256 → AreLastOfThreads rs i last → slice_get last own ≡ Some (Some a)
    → IsNextInThread rs a i
last_next rs i own a last within runs low are stands =
    let is = (are.each own a low).0 stands in
    record {
      later = is.before;
      within = within;
      same_thread = is.runs ∙ sym runs;
      next = λ k after before e. is.last k after before (e ∙ is.runs);
    }

pub next_is : (rs : List Record) (i own : ℕ) (last : List (Option ℕ)) (slot : Option ℕ) → i < length rs
    → thread_at rs i ≡ Some own → own < 256 → AreLastOfThreads rs i last → slot ≡ get_or last own slot
    → (a : ℕ)
    → (slot ≡ Some a) ↔ IsNextInThread rs a i
next_is rs i own last slot within runs low are read a =
    let stands : slice_get last own ≡ Some slot = slice_get_read last 256 own slot (sym are.all) low read in (
      λ is. last_next rs i own a last within runs low are (stands ∙ ap Some is),
      λ is. same_Some slot (Some a) (sym stands ∙ next_last rs i own a last runs low are is),
    )

-- ---- the marks

pub marked_none : (rs : List Record) (marks : List Bool) → marks ≡ replicate (length rs) false
    → AreListsMarked rs 0 marks
marked_none rs marks are = record {
  all = ap length are ∙ length-replicate (length rs) false;
  each = λ a b below. absurd (omega arith);
  only = λ i stands. absurd (nothing i (sym (ap (λ l. slice_get l i) are) ∙ stands));
}
  where
    nothing : (i : ℕ) → slice_get (replicate (length rs) false) i ≡ Some true → ⊥
    nothing i stands =
        let within = slice_get_within (replicate (length rs) false) i true stands in
        let inside : i < length rs = rw (length-replicate (length rs) false) at within in
        false≢true
        (sym (get_or-replicate (length rs) i false false inside)
        ∙ same_Some (get_or (replicate (length rs) false) i false) true
        (sym (slice_get-get_or (replicate (length rs) false) i false within) ∙ stands))

-- a record before which its thread has none that belongs to it
pub marked_other : (rs : List Record) (i : ℕ) (marks : List Bool) → ((a : ℕ) → AreFollowed rs a i → ⊥)
    → AreListsMarked rs i marks → AreListsMarked rs (i + 1) marks
marked_other rs i marks none are = record {
  all = are.all;
  each = λ a b below is. elim (cases_lt b i) [
    | inl less ↦ are.each a b less is
    | inr more ↦
        let same : b ≡ i = omega arith in
        absurd (none a (let P : ℕ → Type 0 = AreFollowed rs a in subst P same is))
  ];
  only = are.only;
}

mark_stays : (marks : List Bool) (i k : ℕ) → IsListMarked marks k → IsListMarked (set marks i true) k
mark_stays marks i k stands = elim (cases_eq k i) [
  | inl same ↦
      let P : ℕ → Type 0 = IsListMarked (set marks i true) in
      subst P (sym same) (get_set_same marks i true (rw (← same) (slice_get_within marks k true stands)))
  | inr apart ↦ get_set_other marks i k true apart ∙ stands
]

mark_cases : (marks : List Bool) (i k : ℕ) → IsListMarked (set marks i true) k
    → IsListMarked marks k ⊎ (k ≡ i)
mark_cases marks i k stands = elim (cases_eq k i) [
  | inl same ↦ inr same
  | inr apart ↦ inl (sym (get_set_other marks i k true apart) ∙ stands)
]

-- a record that lists nothing follows no creation
pub marked_unlisted : (rs : List Record) (i : ℕ) (marks : List Bool) (listed : Bool)
    → IsTrue listed ↔ (is_some (at dependences rs i) ≡ true) → listed ≡ false → AreListsMarked rs i marks
    → AreListsMarked rs (i + 1) marks
marked_unlisted rs i marks listed tells not_listed are =
    marked_other rs i marks (λ a followed. false≢true (sym not_listed ∙ tells.1 (ap is_some followed.listed)))
    are

-- one that follows the creation of its task
pub marked_more : (rs : List Record) (i before : ℕ) (marks : List Bool)
    → ((a : ℕ) → AreFollowed rs a i → before ≡ a) → AreFollowed rs before i → AreListsMarked rs i marks
    → AreListsMarked rs (i + 1) (set (set marks before true) i true)
marked_more rs i before marks one here are = record {
  all = length-set (set marks before true) i true ∙ length-set marks before true ∙ are.all;
  each = λ a b below is. elim (cases_lt b i) [
    | inl less ↦ let old = are.each a b less is in (stays a old.0, stays b old.1)
    | inr more ↦
        let same : b ≡ i = omega arith in
        let own : before ≡ a = one a (let P : ℕ → Type 0 = AreFollowed rs a in subst P same is) in
        let P : ℕ → Type 0 = IsListMarked (set (set marks before true) i true) in
        (subst P own create, subst P (sym same) list)
  ];
  only = λ k stands. elim (mark_cases (set marks before true) i k stands) [
    | inr same ↦ let P : ℕ → Type 0 = λ j. AreFollowed rs before j in inl (before, subst P (sym same) here)
    | inl more ↦ elim (mark_cases marks before k more) [
      | inr same ↦ let P : ℕ → Type 0 = λ j. AreFollowed rs j i in inr (i, subst P (sym same) here)
      | inl old ↦ are.only k old
    ]
  ];
}
  where
    stays : (k : ℕ) → IsListMarked marks k → IsListMarked (set (set marks before true) i true) k
    stays k stands = mark_stays (set marks before true) i k (mark_stays marks before k stands)

    within : i < length marks
    within = let inside = here.next.within in rw are.all inside

    list : IsListMarked (set (set marks before true) i true) i
    list = get_set_same (set marks before true) i true (rw (length-set marks before true) within)

    create : IsListMarked (set (set marks before true) i true) before
    create =
        mark_stays (set marks before true) i before
        (get_set_same marks before true (let later = here.next.later in omega (arith, later, within)))

-- what the two records say
pub followed_together : (rs : List Record) (a b : ℕ) → AreFollowed rs a b → BelongTogether rs a b
followed_together rs a b is = (is.task, is.items, is.is_created, is.listed)

pub together_followed : (rs : List Record) (a b : ℕ) → BelongTogether rs a b → IsNextInThread rs a b
    → AreFollowed rs a b
together_followed rs a b (task, items, creates, lists) next = record {
  task = task;
  items = items;
  is_created = creates;
  listed = lists;
  next = next;
}

pub unfollowed_apart : (rs : List Record) (i before : ℕ) → ((a : ℕ) → AreFollowed rs a i → before ≡ a)
    → (BelongTogether rs before i → ⊥) → (a : ℕ) → AreFollowed rs a i → ⊥
unfollowed_apart rs i before one none a is =
    let P : ℕ → Type 0 = λ k. AreFollowed rs k i in
    none (followed_together rs before i (subst P (sym (one a is)) is))

-- ---- the records without a mark

-- no record does both
never_both : (rs : List Record) (i : ℕ) → is_some (at created_with_deps rs i) ≡ true
    → is_some (at dependences rs i) ≡ true → ⊥
never_both rs i = there (slice_get rs i)
  where
    here : (b : Body) → is_some (created_with_deps b) ≡ true → is_some (dependences b) ≡ true → ⊥
    here (TaskCreate deps flags task child) creates lists = false≢true lists
    here _ creates lists = false≢true creates

    there : (o : Option Record)
        → is_some (option_and_then (λ (r : Record). created_with_deps r.body) o) ≡ true
        → is_some (option_and_then (λ (r : Record). dependences r.body) o) ≡ true → ⊥
    there None creates lists = false≢true lists
    there (Some r) creates lists = here r.body creates lists

pub misplaced_unmarked : (rs : List Record) (i : ℕ) (marks : List Bool) → AreListsMarked rs (length rs) marks
    → HasMisplacedDeps rs i → IsListMarked marks i → ⊥
misplaced_unmarked rs i marks are (stray lists none) stands = elim (are.only i stands) [
  | inl (a, is) ↦ none a is
  | inr (b, is) ↦ never_both rs i (ap is_some is.is_created) lists
]
misplaced_unmarked rs i marks are (missing creates none) stands = elim (are.only i stands) [
  | inl (a, is) ↦ never_both rs i creates (ap is_some is.listed)
  | inr (b, is) ↦ none b is
]

pub misplaced_says : (rs : List Record) (i : ℕ) → HasMisplacedDeps rs i → HasDependences rs i
misplaced_says rs i (stray lists none) = inr lists
misplaced_says rs i (missing creates none) = inl creates

pub unmarked_misplaced : (rs : List Record) (i : ℕ) (marks : List Bool) → AreListsMarked rs (length rs) marks
    → (IsListMarked marks i → ⊥) → HasDependences rs i → HasMisplacedDeps rs i
unmarked_misplaced rs i marks are none (inl creates) =
    missing creates (λ b is. none (are.each i b is.next.within is).0)
unmarked_misplaced rs i marks are none (inr lists) =
    stray lists (λ a is. none (are.each a i (followed_within a is) is).1)
  where
    followed_within : (a : ℕ) → AreFollowed rs a i → i < length rs
    followed_within a is = is.next.within

-- ---- the cause

misplaced_of : (rs : List Record) (i : ℕ) → HasCause rs i DepsPlace → HasMisplacedDeps rs i
misplaced_of rs i (deps_place has) = has

pub misplaced_within : (rs : List Record) (i : ℕ) → HasMisplacedDeps rs i → i < length rs
misplaced_within rs i (stray lists none) = said_within dependences lists
  where
    said_within : {X : Type 0} (f : Body → Option X) → is_some (at f rs i) ≡ true → i < length rs
    said_within f says = there f (at f rs i) refl says
      where
        there : {X : Type 0} (g : Body → Option X) (o : Option X) → at g rs i ≡ o → is_some o ≡ true
            → i < length rs
        there g None e is = absurd (false≢true is)
        there g (Some x) e is = at_within g rs i x e
misplaced_within rs i (missing creates none) = there (at created_with_deps rs i) refl creates
  where
    there : (o : Option ℕ) → at created_with_deps rs i ≡ o → is_some o ≡ true → i < length rs
    there None e is = absurd (false≢true is)
    there (Some x) e is = at_within created_with_deps rs i x e

pub all_misplaced : (rs : List Record) (n : ℕ) (places : List ℕ) → length rs ≡ n
    → AreAllBelow (HasMisplacedDeps rs) n places → AreAllWith rs DepsPlace places
all_misplaced rs n places long are =
    all_with rs DepsPlace (HasMisplacedDeps rs) n places long (λ i here. deps_place here) (λ i has.
    let here = misplaced_of rs i has in
    (let within = misplaced_within rs i here in omega (arith, within, long), here)) are

-- ---- a mark that was read

pub unmark_here : (marks : List Bool) (i : ℕ) → slice_index_or marks i false ≡ false → IsListMarked marks i
    → ⊥
unmark_here marks i read stands =
    let within = slice_get_within marks i true stands in
    let is : slice_index_or marks i false ≡ true =
    same_Some (get_or marks i false) true (sym (slice_get-get_or marks i false within) ∙ stands) in
    false≢true (sym read ∙ is)

pub mark_here : (rs : List Record) (marks : List Bool) (i : ℕ) → i < length rs → length marks ≡ length rs
    → slice_index_or marks i false ≡ true → IsListMarked marks i
mark_here rs marks i within all read = slice_get-get_or marks i false (rw all within) ∙ ap Some read

-- ---- no dependences at all

pub none_here : (rs : List Record) (i : ℕ) → (HasDependences rs i → ⊥) → HasNoneAt rs i
none_here rs i none = record {
  creates = never (is_some (at created_with_deps rs i)) (λ is. none (inl is));
  lists = never (is_some (at dependences rs i)) (λ is. none (inr is));
}
  where
    never : (b : Bool) → (b ≡ true → ⊥) → b ≡ false
    never true not_true = absurd (not_true refl)
    never false not_true = refl

nothing_past : {X : Type 0} (f : Body → Option X) (rs : List Record) (i : ℕ) → length rs ≤ i
    → is_some (at f rs i) ≡ false
nothing_past {X} f rs i past_end = of (at f rs i) refl
  where
    of : (o : Option X) → at f rs i ≡ o → is_some o ≡ false
    of None is = refl
    of (Some x) is = absurd (let within = at_within f rs i x is in omega (arith, within, past_end))

-- past the last record there is nothing either
pub none_anywhere : (rs : List Record) (n : ℕ) → ((k : ℕ) → k < n → HasNoneAt rs k) → length rs ≤ n → (i : ℕ)
    → HasNoneAt rs i
none_anywhere rs n none end i = elim (cases_lt i n) [
  | inl less ↦ none i less
  | inr past ↦
      record {
        creates = nothing_past created_with_deps rs i (omega (arith, past, end));
        lists = nothing_past dependences rs i (omega (arith, past, end));
      }
]

-- ---- by the indices of the tasks

-- the two records name the same task where they name the same index
pub together_is : (run : RunView) (create list task listed : ℕ) (items : List Dep) → IsRun run
    → IsIndexOf run created_with_deps create (Some task) → AreDependences run list listed items
    → IsTrue (nat_eq task listed) ↔ BelongTogether run.records create list
together_is run create list task listed items is creates lists = (
  λ same.
      let one : id.0 ≡ lists.task =
      same_Some id.0 lists.task
      (sym id.2 ∙ ap (slice_get run.family.tasks) (eqb-true task listed same) ∙ lists.indexed) in
      (id.0, items, id.1, lists.says ∙ ap (λ t. Some (t, items)) (sym one)),
  λ (own, its, created, listed_there).
      let one : id.0 ≡ own = same_Some id.0 own (sym id.1 ∙ created) in
      let two : lists.task ≡ own =
      ap (λ (p : ℕ × List Dep). p.0)
      (same_Some (lists.task, items) (own, its) (sym lists.says ∙ listed_there)) in
      eq-eqb task listed
      (is.family.makers.apart task listed own (id.2 ∙ ap Some one) (lists.indexed ∙ ap Some two)),
)
  where
    id : (t : ℕ) × (at created_with_deps run.records create ≡ Some t)
        × (slice_get run.family.tasks task ≡ Some t)
    id = call_task run.family.tasks (at created_with_deps run.records create) (Some task) task creates refl
