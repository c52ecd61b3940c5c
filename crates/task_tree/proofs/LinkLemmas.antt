-- How the counts of children and the links grow.
use Rattle.std.proofs.Common.{◌≡◌, ◌≢◌, ◌∙◌, ℕ, ◌<◌, ◌≤◌, ◌+◌, ◌*◌, List, length, get_or, Option, Some, None}
use Rattle.std.proofs.Common.{sym, ap, subst, arith, inl, inr, set}
use Rattle.std.proofs.lemmas.Bool.{cases_eq, cases_lt}
use Rattle.std.proofs.lemmas.Option.{none-some, same_Some, slice_get_within, slice_get-get_or, slice_get_past}
use Rattle.std.proofs.lemmas.List.{get_or-set_same, get_or-set_other, length-set, length-replicate}
use Rattle.std.proofs.lemmas.List.{get_or-replicate, get_or_default, length_push}
use Rattle.std.proofs.lemmas.List.Sums.{sum_by-set}
use Rattle.std.proofs.lemmas.List.Folds.{sum_by-replicate}
use Rattle.std.specs.Prelude.{IfSome, slice_get, slice_index, replicate, sum}
use Rattle.task_tree.specs.declared.links.Link.{Link}
use Rattle.ompt_events.specs.declared.records.Record.{Record}
use Rattle.ompt_events.specs.declared.cause.Cause.TheVariants.{CreatedTwice}
use Rattle.ompt_events.specs.Records.{creation}
use Rattle.ompt_events.specs.Places.{at}
use Rattle.ompt_events.specs.Tree.{children_before, child_at}
use Rattle.ompt_events.specs.Causes.{created_twice, IsFreeOf}
use Rattle.ompt_events.proofs.RecordLemmas.{created_at_made, creation_at_created}
use Rattle.ompt_events.proofs.ListLemmas.{get_last}
use Rattle.ompt_events.proofs.TreeLemmas.{children_same, children_more, children_few, children_stay}
use Rattle.ompt_events.proofs.TreeLemmas.{child_at_none, child_at_other}
use Rattle.task_tree.specs.Links.{AreChildCounts, IsLink, AreLinks, IsIndex, IsSlotOf, IsChildLinked, unmade}
use Rattle.task_tree.specs.Links.{counted}
use Rattle.task_tree.specs.Links.{linked}

-- what stands at an index of a list in which one element was written
pub get_set_same : {X : Type 0} (xs : List X) (i : ℕ) (x : X) → i < length xs
    → slice_get (set xs i x) i ≡ Some x
get_set_same xs i x within =
    slice_get-get_or (set xs i x) i x (rw (length-set xs i x) within)
    ∙ ap Some (get_or-set_same xs i x x within)

pub get_set_other : {X : Type 0} (xs : List X) (i k : ℕ) (x : X) → k ≢ i
    → slice_get (set xs i x) k ≡ slice_get xs k
get_set_other xs i k x apart = elim (cases_lt k (length xs)) [
  | inl within ↦
      slice_get-get_or (set xs i x) k x (rw (length-set xs i x) within)
      ∙ ap Some (get_or-set_other xs i k x x apart) ∙ sym (slice_get-get_or xs k x within)
  | inr past ↦ slice_get_past (set xs i x) k (rw (length-set xs i x) past) ∙ sym (slice_get_past xs k past)
]

-- the index in the slot of a task is that of the task
pub slot_index : (tasks : List ℕ) (task k : ℕ) (slot : Option ℕ) → IsSlotOf tasks task slot → slot ≡ Some k
    → IsIndex tasks task k
slot_index tasks task k slot is holds = record {
  here = (is k).0 holds;
  alone = λ other stands. sym (same_Some k other (sym holds ∙ (is other).1 stands));
}

pub slot_empty : (tasks : List ℕ) (task : ℕ) (slot : Option ℕ) → IsSlotOf tasks task slot → slot ≡ None
    → (k : ℕ) → slice_get tasks k ≡ Some task → ⊥
slot_empty tasks task slot is none k stands = none-some k (sym none ∙ (is k).1 stands)

-- what is said of the slot is so of its index
pub some_holds : (o : Option ℕ) (P : ℕ → Type 0) (k : ℕ) → IfSome o P → o ≡ Some k → P k
some_holds None P k all is = absurd (none-some k is)
some_holds (Some x) P k all is = subst P (same_Some x k is) all

-- the number that was read is the parent's count
pub number_read : (counts : List ℕ) (parent : Option ℕ) (up number : ℕ)
    → IfSome parent (λ k. k < length counts) → parent ≡ Some up → number ≡ get_or counts up number
    → number ≡ slice_index counts up
number_read counts parent up number within is read =
    read ∙ sym (get_or_default counts up 0 number (some_holds parent (λ k. k < length counts) up within is))

-- what one more child changes, by the number that was read
pub linked_read : (tasks : List ℕ) (parent child up own number : ℕ) (counts : List ℕ)
    (links : List (Option Link))
    → IsIndex tasks parent up → IsIndex tasks child own → number ≡ slice_index counts up
    → IsChildLinked tasks parent child counts links (set counts up (number + 1))
    (set links own (Some (record { number = number; parent = up })))
linked_read tasks parent child up own number counts links is_up is_own read =
    let P : ℕ → Type 0 =
    λ k.
    IsChildLinked tasks parent child counts links (set counts up (k + 1))
    (set links own (Some (record { number = k; parent = up }))) in
    subst P (sym read) (linked up own is_up is_own)

pub counted_read : (tasks : List ℕ) (parent child up number : ℕ) (counts : List ℕ)
    (links : List (Option Link))
    → IsIndex tasks parent up → ((own : ℕ) → slice_get tasks own ≡ Some child → ⊥)
    → number ≡ slice_index counts up
    → IsChildLinked tasks parent child counts links (set counts up (number + 1)) links
counted_read tasks parent child up number counts links is_up none read =
    let P : ℕ → Type 0 = λ k. IsChildLinked tasks parent child counts links (set counts up (k + 1)) links in
    subst P (sym read) (counted up is_up none)

-- ---- the counts

pub counts_start : (rs : List Record) (tasks counts : List ℕ) → counts ≡ replicate (length tasks) 0
    → AreChildCounts rs 0 tasks counts
counts_start rs tasks counts are = record {
  all = ap length are ∙ length-replicate (length tasks) 0;
  few =
      let total = ap sum are ∙ sum_by-replicate (λ (x : ℕ). x) (length tasks) 0 in
      let nothing : length tasks * 0 ≡ 0 = omega arith in omega (arith, total, nothing);
  each =
      λ index task is.
      ap (λ l. slice_index l index) are
      ∙ get_or-replicate (length tasks) index 0 0 (slice_get_within tasks index task is);
}

-- a record that creates no child of a task in the list
pub counts_same : (rs : List Record) (n : ℕ) (tasks counts : List ℕ) → AreChildCounts rs n tasks counts
    → ((index task : ℕ) → slice_get tasks index ≡ Some task → child_at rs task n ≡ None)
    → AreChildCounts rs (n + 1) tasks counts
counts_same rs n tasks counts are none = record {
  all = are.all;
  few = let few = are.few in omega (arith, few);
  each =
      λ index task is.
      are.each index task is ∙ ap length (sym (children_same rs task n (none index task is)));
}

pub counts_other : (rs : List Record) (n : ℕ) (tasks counts : List ℕ) → AreChildCounts rs n tasks counts
    → at creation rs n ≡ None → AreChildCounts rs (n + 1) tasks counts
counts_other rs n tasks counts are none =
    counts_same rs n tasks counts are (λ index task is. child_at_none rs task n none)

-- one that does
counts_more : (rs : List Record) (n : ℕ) (tasks counts : List ℕ) (parent child up : ℕ)
    → AreChildCounts rs n tasks counts → at creation rs n ≡ Some (parent, child) → IsIndex tasks parent up
    → AreChildCounts rs (n + 1) tasks (set counts up (slice_index counts up + 1))
counts_more rs n tasks counts parent child up are creates is_up = record {
  all = length-set counts up (slice_index counts up + 1) ∙ are.all;
  few =
      let one = sum_by-set (λ (x : ℕ). x) counts up (slice_index counts up + 1) 0 within in
      let few = are.few in omega (arith, one, few);
  each = λ index task is. elim (cases_eq index up) [
    | inl same ↦
        let same_task : task ≡ parent =
        same_Some task parent (sym is ∙ ap (slice_get tasks) same ∙ is_up.here) in
        ap (slice_index (set counts up (slice_index counts up + 1))) same
        ∙ get_or-set_same counts up (slice_index counts up + 1) 0 within
        ∙ ap (λ k. k + 1) (are.each up parent is_up.here)
        ∙ sym (length_push (children_before rs parent n) child)
        ∙ ap length (sym (children_more rs parent child n creates))
        ∙ ap (λ t. length (children_before rs t (n + 1))) (sym same_task)
    | inr apart ↦
        get_or-set_other counts up index (slice_index counts up + 1) 0 apart ∙ are.each index task is
        ∙ ap length
        (sym
        (children_same rs task n
        (child_at_other rs task parent child n creates
        (λ same. apart (is_up.alone index (is ∙ ap Some (sym same)))))))
  ];
}
  where
    within : up < length counts
    within = let inside = slice_get_within tasks up parent is_up.here in omega (arith, inside, are.all)

pub counts_linked : (rs : List Record) (n : ℕ) (tasks : List ℕ) (parent child : ℕ) (counts : List ℕ)
    (links : List (Option Link)) (counts_now : List ℕ) (links_now : List (Option Link))
    → AreChildCounts rs n tasks counts → at creation rs n ≡ Some (parent, child)
    → IsChildLinked tasks parent child counts links counts_now links_now
    → AreChildCounts rs (n + 1) tasks counts_now
counts_linked rs n tasks parent child counts links counts_now links_now are creates (unmade none) =
    counts_same rs n tasks counts are
    (λ index task is.
    child_at_other rs task parent child n creates (λ same. none index (is ∙ ap Some (sym same))))
counts_linked rs n tasks parent child counts links counts_now links_now are creates (counted up is_up none) =
    counts_more rs n tasks counts parent child up are creates is_up
counts_linked rs n tasks parent child counts links counts_now links_now are creates
    (linked up own is_up is_own) =
    counts_more rs n tasks counts parent child up are creates is_up

-- counts are small where there are few records
pub count_small : (rs : List Record) (n : ℕ) (tasks counts : List ℕ) (parent up : ℕ)
    → AreChildCounts rs n tasks counts → slice_get tasks up ≡ Some parent → slice_index counts up ≤ n
count_small rs n tasks counts parent up are is =
    let count = are.each up parent is in
    let few = children_few rs parent n in
    omega (arith, count, few)

-- ---- the links

pub links_start : (rs : List Record) (tasks : List ℕ) (links : List (Option Link))
    → links ≡ replicate (length tasks) None → AreLinks rs 0 tasks links
links_start rs tasks links are = record {
  all = ap length are ∙ length-replicate (length tasks) None;
  linked = λ i parent task index up below. absurd (omega arith);
  only = λ index task link is stands.
      let within = slice_get_within tasks index task is in
      let nothing : Option Link = None in
      let none : slice_get links index ≡ Some None =
      ap (λ l. slice_get l index) are
      ∙ slice_get-get_or (replicate (length tasks) None) index None
      (rw (length-replicate (length tasks) nothing) within)
      ∙ ap Some (get_or-replicate (length tasks) index None None within) in
      absurd (none-some link (same_Some None (Some link) (sym none ∙ stands)));
}

link_stays : (rs : List Record) (n : ℕ) (tasks : List ℕ) (task : ℕ) (link : Link)
    → IsLink rs n tasks task link → IsLink rs (n + 1) tasks task link
link_stays rs n tasks task link (parent, is, stands) =
    (parent, is, children_stay rs parent n link.number task stands)

-- where the links stay, no task in the list has one more
links_same : (rs : List Record) (n : ℕ) (tasks : List ℕ) (links : List (Option Link))
    → AreLinks rs n tasks links
    → ((parent task index up : ℕ) → at creation rs n ≡ Some (parent, task) → slice_get tasks index ≡ Some task
    → slice_get tasks up ≡ Some parent → ⊥)
    → AreLinks rs (n + 1) tasks links
links_same rs n tasks links are none = record {
  all = are.all;
  linked = λ i parent task index up below creates is is_up. elim (cases_eq i n) [
    | inl same ↦ absurd (none parent task index up (ap (at creation rs) (sym same) ∙ creates) is is_up)
    | inr apart ↦ are.linked i parent task index up (omega arith) creates is is_up
  ];
  only = λ index task link is stands. link_stays rs n tasks task link (are.only index task link is stands);
}

pub links_other : (rs : List Record) (n : ℕ) (tasks : List ℕ) (links : List (Option Link))
    → AreLinks rs n tasks links → at creation rs n ≡ None → AreLinks rs (n + 1) tasks links
links_other rs n tasks links are none =
    links_same rs n tasks links are
    (λ parent task index up creates is is_up. none-some (parent, task) (sym none ∙ creates))

-- no task is created twice
created_once : (rs : List Record) (task i k own other : ℕ) → IsFreeOf rs CreatedTwice → i < k
    → at creation rs i ≡ Some (own, task) → at creation rs k ≡ Some (other, task) → ⊥
created_once rs task i k own other once below here there =
    once k
    (created_twice (
      task,
      i,
      below,
      created_at_made task rs i (creation_at_created own task rs i here),
      created_at_made task rs k (creation_at_created other task rs k there),
    ))

links_more : (rs : List Record) (n : ℕ) (tasks counts : List ℕ) (links : List (Option Link))
    (parent child up own : ℕ)
    → IsFreeOf rs CreatedTwice → AreChildCounts rs n tasks counts → AreLinks rs n tasks links
    → at creation rs n ≡ Some (parent, child) → IsIndex tasks parent up → IsIndex tasks child own
    → AreLinks rs (n + 1) tasks
    (set links own (Some (record { number = slice_index counts up; parent = up })))
links_more rs n tasks counts links parent child up own once counts_are are creates is_up is_own = record {
  all = length-set links own (Some new) ∙ are.all;
  linked = λ i p task index above below creates_it is is_above. elim (cases_eq i n) [
    | inl same ↦
        let pair =
        same_Some (p, task) (parent, child) (sym creates_it ∙ ap (at creation rs) same ∙ creates) in
        let here : index ≡ own = is_own.alone index (is ∙ ap Some (ap (λ (x : ℕ × ℕ). x.1) pair)) in (
          new,
          ap (slice_get (set links own (Some new))) here ∙ get_set_same links own (Some new) within,
          sym (is_up.alone above (is_above ∙ ap Some (ap (λ (x : ℕ × ℕ). x.0) pair))),
        )
    | inr apart ↦ elim (cases_eq task child) [
      | inl same ↦
          absurd
          (created_once rs child i n p parent once (omega arith) (creates_it ∙ ap (λ t. Some (p, t)) same)
          creates)
      | inr other ↦
          let found = are.linked i p task index above (omega arith) creates_it is is_above in (
            found.0,
            get_set_other links own index (Some new) (λ e. other (elsewhere index task is e)) ∙ found.1,
            found.2,
          )
    ]
  ];
  only = λ index task link is stands. elim (cases_eq index own) [
    | inl here ↦
        let same : new ≡ link =
        same_Some new link
        (same_Some (Some new) (Some link)
        (sym (get_set_same links own (Some new) within)
        ∙ ap (slice_get (set links own (Some new))) (sym here) ∙ stands)) in
        let P : Link → Type 0 = IsLink rs (n + 1) tasks task in
        subst P same (
          parent,
          is_up.here,
          ap (λ l. slice_get l (slice_index counts up)) (children_more rs parent child n creates)
              ∙ get_last (children_before rs parent n) child (slice_index counts up)
              (counts_are.each up parent is_up.here)
              ∙ ap Some (sym (elsewhere index task is here)),
        )
    | inr apart ↦
        link_stays rs n tasks task link
        (are.only index task link is (sym (get_set_other links own index (Some new) apart) ∙ stands))
  ];
}
  where
    new : Link
    new = record { number = slice_index counts up; parent = up }

    within : own < length links
    within = let inside = slice_get_within tasks own child is_own.here in omega (arith, inside, are.all)

    elsewhere : (index task : ℕ) → slice_get tasks index ≡ Some task → index ≡ own → task ≡ child
    elsewhere index task is same = same_Some task child (sym is ∙ ap (slice_get tasks) same ∙ is_own.here)

pub links_linked : (rs : List Record) (n : ℕ) (tasks : List ℕ) (parent child : ℕ) (counts : List ℕ)
    (links : List (Option Link)) (counts_now : List ℕ) (links_now : List (Option Link))
    → IsFreeOf rs CreatedTwice → AreChildCounts rs n tasks counts → AreLinks rs n tasks links
    → at creation rs n ≡ Some (parent, child)
    → IsChildLinked tasks parent child counts links counts_now links_now
    → AreLinks rs (n + 1) tasks links_now
links_linked rs n tasks parent child counts links counts_now links_now once counts_are are creates
    (unmade none) =
    links_same rs n tasks links are
    (λ p task index up creates_it is is_up.
    none up
    (is_up
    ∙ ap Some
    (ap (λ (x : ℕ × ℕ). x.0)
    (same_Some (p, task) (parent, child) (sym creates_it ∙ creates)))))
links_linked rs n tasks parent child counts links counts_now links_now once counts_are are creates
    (counted up is_up none) =
    links_same rs n tasks links are
    (λ p task index above creates_it is is_above.
    none index
    (is
    ∙ ap Some
    (ap (λ (x : ℕ × ℕ). x.1)
    (same_Some (p, task) (parent, child) (sym creates_it ∙ creates)))))
links_linked rs n tasks parent child counts links counts_now links_now once counts_are are creates
    (linked up own is_up is_own) =
    links_more rs n tasks counts links parent child up own once counts_are are creates is_up is_own
