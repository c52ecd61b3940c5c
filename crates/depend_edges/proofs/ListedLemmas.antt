-- Where the dependences of each task are listed.
use Rattle.std.proofs.Common.{◌≡◌, ◌∙◌, ℕ, ◌<◌, ◌+◌, List, length, get_or, replicate, Option, Some, None}
use Rattle.std.proofs.Common.{true, false, sym, ap, subst, arith, inl, inr, set}
use Rattle.std.proofs.lemmas.Bool.{cases_eq, cases_lt, cases_order, false≢true}
use Rattle.std.proofs.lemmas.Option.{none-some, same_Some, slice_get_within, slice_get-get_or}
use Rattle.std.proofs.lemmas.List.{length-set}
use Rattle.std.specs.Prelude.{slice_get, is_some, option_and_then}
use Rattle.ompt_events.specs.declared.records.Record.{Record}
use Rattle.ompt_events.specs.declared.records.Body.{Body}
use Rattle.ompt_events.specs.declared.records.Body.TheVariants.{TaskCreate}
use Rattle.ompt_events.specs.declared.deps.Dep.{Dep}
use Rattle.ompt_events.specs.declared.cause.Cause.TheVariants.{CreatedTwice, DepsPlace}
use Rattle.ompt_events.specs.Records.{created_with_deps, dependences, made}
use Rattle.ompt_events.specs.Places.{at}
use Rattle.ompt_events.specs.Causes.{IsNextInThread, AreFollowed, stray, deps_place, IsFreeOf}
use Rattle.ompt_events.proofs.PlaceLemmas.{at_within}
use Rattle.ompt_events.proofs.RecordLemmas.{at_through}
use Rattle.index_tables.specs.Numbering.{AreApart}
use Rattle.task_tree.proofs.OnceLemmas.{made_once}
use Rattle.task_tree.proofs.LinkLemmas.{get_set_same, get_set_other}
use Rattle.task_tree.specs.Own.{OwnView, IsOwn}
use Rattle.task_tree.specs.Families.{IsOwnOf}
use Rattle.task_tree.proofs.ShownLemmas.{own_record}
use Rattle.depend_edges.specs.Lists.{AreListed, AreListedOnce}
use Rattle.depend_edges.specs.Placement.{HasNoneAt}
use Rattle.depend_edges.proofs.PlacementLemmas.{no_slot, slots_long}

-- ---- a task has one list

with_deps_made : (task : ℕ) (b : Body) → created_with_deps b ≡ Some task → made b ≡ Some task
with_deps_made task (TaskCreate true flags parent child) says = says
with_deps_made task (TaskCreate false flags parent child) says = absurd (none-some task says)
with_deps_made task _ says = absurd (none-some task says)

-- a thread has one next record after each
one_next : (rs : List Record) (a i k : ℕ) → IsNextInThread rs a i → IsNextInThread rs a k → i ≡ k
one_next rs a i k first second = elim (cases_order i k) [
  | inl same ↦ same
  | inr (inl less) ↦ absurd (second.next i first.later less (sym first.same_thread))
  | inr (inr more) ↦ absurd (first.next k second.later more (sym second.same_thread))
]

same_list : (rs : List Record) (a b i k task : ℕ) (items other : List Dep) → IsFreeOf rs CreatedTwice
    → at dependences rs i ≡ Some (task, items) → at dependences rs k ≡ Some (task, other) → AreFollowed rs a i
    → AreFollowed rs b k → i ≡ k
same_list rs a b i k task items other once lists another first second =
    let own : first.task ≡ task =
    ap (λ (p : ℕ × List Dep). p.0)
    (same_Some (first.task, first.items) (task, items) (sym first.listed ∙ lists)) in
    let its : second.task ≡ task =
    ap (λ (p : ℕ × List Dep). p.0)
    (same_Some (second.task, second.items) (task, other) (sym second.listed ∙ another)) in
    let here : at made rs a ≡ Some task =
    at_through created_with_deps made first.task first.task rs a (with_deps_made first.task)
    first.is_created
    ∙ ap Some own in
    let there : at made rs b ≡ Some task =
    at_through created_with_deps made second.task second.task rs b (with_deps_made second.task)
    second.is_created
    ∙ ap Some its in
    let same : b ≡ a = made_once rs task b a once there here in
    let P : ℕ → Type 0 = λ c. IsNextInThread rs c k in
    one_next rs a i k first.next (subst P same second.next)

one_list : (rs : List Record) → IsFreeOf rs CreatedTwice → IsFreeOf rs DepsPlace → AreListedOnce rs
one_list rs once placed i k task items other lists another = elim (cases_eq i k) [
  | inl same ↦ same
  | inr apart ↦
      absurd
      (placed i
      (deps_place
      (stray (ap is_some lists)
      (λ a first.
      placed k
      (deps_place
      (stray (ap is_some another)
      (λ b second.
      apart
      (same_list rs a b i k task items other once lists another first
      second))))))))
]

-- ---- in the tasks' own order, which has the same records

listed_in_file : (rs : List Record) (own : OwnView) (number : ℕ) (list : ℕ × List Dep) → IsOwnOf rs own
    → IsOwn own → at dependences own.run.records number ≡ Some list
    → (place : ℕ) × (slice_get own.places number ≡ Some place) × (at dependences rs place ≡ Some list)
listed_in_file rs own number list of is says =
    let within : number < length own.places =
    let below = at_within dependences own.run.records number list says in rw is.places.all below in
    let stands = slice_get-get_or own.places number 0 within in (
      get_or own.places number 0,
      stands,
      ap (option_and_then (λ (r : Record). dependences r.body))
          (sym (own_record rs own of number (get_or own.places number 0) stands))
          ∙ says,
    )

-- a task has one list there too
pub own_lists_once : (rs : List Record) (own : OwnView) → IsOwnOf rs own → IsOwn own
    → IsFreeOf rs CreatedTwice → IsFreeOf rs DepsPlace → AreListedOnce own.run.records
own_lists_once rs own of is once placed i k task items other lists another =
    let first = listed_in_file rs own i (task, items) of is lists in
    let second = listed_in_file rs own k (task, other) of is another in
    let same : first.0 ≡ second.0 =
    one_list rs once placed first.0 second.0 task items other first.2 second.2 in
    is.places.apart i k first.0 first.1 (second.1 ∙ ap Some (sym same))

-- and none has one where the file has none
pub own_lists_none : (rs : List Record) (own : OwnView) (lists : List (Option ℕ)) → IsOwnOf rs own → IsOwn own
    → ((i : ℕ) → HasNoneAt rs i) → lists ≡ replicate (length own.run.family.tasks) None
    → AreListed own.run.records (length own.run.records) own.run.family.tasks lists
own_lists_none rs own lists of is none are = record {
  all = slots_long (length own.run.family.tasks) lists are;
  each = λ index task i items stands below says.
      let found = listed_in_file rs own i (task, items) of is says in
      absurd (false≢true (sym (none found.0).lists ∙ ap is_some found.2));
  only = λ index i stands.
      let within = slice_get_within lists index (Some i) stands in
      let long = slots_long (length own.run.family.tasks) lists are in
      absurd
      (none-some i
      (same_Some None (Some i)
      (sym (no_slot (length own.run.family.tasks) index lists are (omega (arith, within, long)))
      ∙ stands)));
}

-- ---- the lists so far

pub listed_more : (rs : List Record) (n own task : ℕ) (items : List Dep) (tasks : List ℕ)
    (lists : List (Option ℕ))
    → AreApart tasks → AreListedOnce rs → at dependences rs n ≡ Some (task, items)
    → slice_get tasks own ≡ Some task → AreListed rs n tasks lists
    → AreListed rs (n + 1) tasks (set lists own (Some n))
listed_more rs n own task items tasks lists distinct once lists_here is_own are = record {
  all = length-set lists own (Some n) ∙ are.all;
  each = λ index other i list is below says. elim (cases_lt i n) [
    | inl less ↦ elim (cases_eq index own) [
      | inl same ↦
          let its : task ≡ other = same_Some task other (sym is_own ∙ ap (slice_get tasks) (sym same) ∙ is) in
          let one : i ≡ n = once i n task list items (says ∙ ap (λ t. Some (t, list)) (sym its)) lists_here in
          absurd (omega arith)
      | inr apart ↦ get_set_other lists own index (Some n) apart ∙ are.each index other i list is less says
    ]
    | inr more ↦
        let here : n ≡ i = omega arith in
        let its : task ≡ other =
        ap (λ (p : ℕ × List Dep). p.0)
        (same_Some (task, items) (other, list)
        (sym lists_here ∙ ap (at dependences rs) here ∙ says)) in
        let same : index ≡ own = distinct index own other is (is_own ∙ ap Some its) in
        ap (slice_get (set lists own (Some n))) same ∙ stood ∙ ap (λ k. Some (Some k)) here
  ];
  only = λ index i stands. elim (cases_eq index own) [
    | inl same ↦
        let here : n ≡ i =
        same_Some n i
        (same_Some (Some n) (Some i)
        (sym stood ∙ ap (slice_get (set lists own (Some n))) (sym same) ∙ stands)) in
        (task, items, ap (slice_get tasks) same ∙ is_own, ap (at dependences rs) (sym here) ∙ lists_here)
    | inr apart ↦ are.only index i (sym (get_set_other lists own index (Some n) apart) ∙ stands)
  ];
}
  where
    stood : slice_get (set lists own (Some n)) own ≡ Some (Some n)
    stood =
        get_set_same lists own (Some n)
        (let within = slice_get_within tasks own task is_own in omega (arith, within, are.all))
