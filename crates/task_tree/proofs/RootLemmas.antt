-- How the tree is gone down from its roots.
use Rattle.std.proofs.Common.{◌≡◌, ◌≢◌, ◌∙◌, ℕ, zero, suc, ◌<◌, ◌≤◌, ◌+◌, List, [], ◌∷◌, ◌++◌, length, get_or}
use Rattle.std.proofs.Common.{set, Option, Some, None, refl, sym, ap, subst, arith, inl, inr}
use Rattle.std.proofs.lemmas.Bool.{cases_eq, false≢true, true≢false}
use Rattle.std.proofs.lemmas.Option.{none-some, same_Some, slice_get_within, slice_get-get_or}
use Rattle.std.proofs.lemmas.List.{length-set, length_push, length-replicate, get_or-replicate}
use Rattle.std.proofs.lemmas.List.Elements.{Contains-push, Contains-push_cases, Contains-append_left}
use Rattle.std.specs.Prelude.{slice_get, Contains, replicate, is_some, ◌↔◌, true, false}
use Rattle.ompt_events.specs.declared.records.Record.{Record}
use Rattle.ompt_events.specs.Records.{made, begun_root, creation}
use Rattle.ompt_events.specs.Places.{at}
use Rattle.ompt_events.specs.Tree.{IsRooted, root, child, top, below, children}
use Rattle.ompt_events.proofs.PlaceLemmas.{at_within}
use Rattle.ompt_events.proofs.RecordLemmas.{begun_at_made, created_at_made, creation_at_created}
use Rattle.ompt_events.proofs.ListLemmas.{get_pushed, pushed_cases, contains_get, get_contains}
use Rattle.ompt_events.proofs.TreeLemmas.{child_before}
use Rattle.task_tree.specs.declared.roots.Reached.{Reached}
use Rattle.task_tree.specs.declared.roots.Standing.{Standing}
use Rattle.task_tree.specs.Makers.{AreNoted}
use Rattle.task_tree.specs.Roots.{StandsAt, AreRoots, Reaches, known, new, Spreads, none, more, missing}
use Rattle.task_tree.specs.Roots.{IsReach, IsSeeded}
use Rattle.task_tree.proofs.LinkLemmas.{get_set_same, get_set_other}

-- before any is known all are missing
missing_none : (n : ℕ) → missing (replicate n None) ≡ n
missing_none zero = refl
missing_none (suc n) = ap suc (missing_none n)

-- one root more is known
missing_set : (roots : List (Option Standing)) (index : ℕ) (task : Standing) → index < length roots
    → get_or roots index None ≡ None → missing (set roots index (Some task)) + 1 ≡ missing roots
missing_set [] index task within is = absurd (omega arith)
missing_set (None ∷ roots) zero task within is = omega arith
missing_set (Some other ∷ roots) zero task within is = absurd (none-some other (sym is))
missing_set (None ∷ roots) (suc k) task within is =
    let rest = missing_set roots k task (omega arith) is in omega (arith, rest)
missing_set (Some other ∷ roots) (suc k) task within is = missing_set roots k task (omega arith) is

-- what was known stays, and each root more is a task more
pub record Keeps (roots : List (Option Standing)) (order : List Reached) (roots_now : List (Option Standing))
    (order_now : List Reached) : Type 0 where
  pub same_length : length roots_now ≡ length roots
  pub stays : (index : ℕ) (r : Standing) → slice_get roots index ≡ Some (Some r)
      → slice_get roots_now index ≡ Some (Some r)
  pub prefix : (k : ℕ) (entry : Reached) → slice_get order k ≡ Some entry → slice_get order_now k ≡ Some entry
  pub longer : length order ≤ length order_now
  pub total : missing roots_now + length order_now ≡ missing roots + length order

-- a root that is known is not missing
not_known : (roots : List (Option Standing)) (index k : ℕ) (r : Standing) → slice_get roots index ≡ Some None
    → slice_get roots k ≡ Some (Some r) → k ≢ index
not_known roots index k r none_there some_here same =
    none-some r (same_Some None (Some r) (sym none_there ∙ ap (slice_get roots) (sym same) ∙ some_here))

pub reach_keeps : (tasks : List ℕ) (task : ℕ) (r : Standing) (roots : List (Option Standing))
    (order : List Reached) (roots_now : List (Option Standing)) (order_now : List Reached)
    → Reaches tasks task r roots order roots_now order_now → Keeps roots order roots_now order_now
reach_keeps tasks task r roots order roots_now order_now (known h) = record {
  same_length = refl;
  stays = λ index other is. is;
  prefix = λ k entry is. is;
  longer = omega arith;
  total = refl;
}
reach_keeps tasks task r roots order roots_now order_now (new index is only no_root) =
    let within = slice_get_within roots index None no_root in
    let fewer =
    missing_set roots index r within
    (same_Some (get_or roots index None) None
    (sym (slice_get-get_or roots index None within) ∙ no_root)) in
    let longer = length_push order (record { index = index; standing = r }) in
    record {
      same_length = length-set roots index (Some r);
      stays =
          λ k other here.
          get_set_other roots index k (Some r) (not_known roots index k other no_root here) ∙ here;
      prefix = λ k entry here. get_pushed order (record { index = index; standing = r }) entry k here;
      longer = omega (arith, longer);
      total = omega (arith, fewer, longer);
    }

-- the task has a root then
pub reach_done : (tasks : List ℕ) (task : ℕ) (r : Standing) (roots : List (Option Standing))
    (order : List Reached) (roots_now : List (Option Standing)) (order_now : List Reached)
    → Reaches tasks task r roots order roots_now order_now → (index : ℕ) → slice_get tasks index ≡ Some task
    → (other : Standing) × (slice_get roots_now index ≡ Some (Some other))
reach_done tasks task r roots order roots_now order_now (known h) index is = h index is
reach_done tasks task r roots order roots_now order_now (new found is_found only no_root) index is = (
  r,
  ap (slice_get (set roots found (Some r))) (only index is)
      ∙ get_set_same roots found (Some r) (slice_get_within roots found None no_root),
)

-- and what is known is still right
pub reach_is : (rs : List Record) (tasks : List ℕ) (task : ℕ) (r : Standing) (roots : List (Option Standing))
    (order : List Reached) (roots_now : List (Option Standing)) (order_now : List Reached)
    → IsReach rs tasks roots order → StandsAt rs task r → r.depth ≤ length order
    → Reaches tasks task r roots order roots_now order_now → IsReach rs tasks roots_now order_now
reach_is rs tasks task r roots order roots_now order_now are stands deep (known h) = are
reach_is rs tasks task r roots order roots_now order_now are stands deep (new index is only no_root) =
    record {
      all = length-set roots index (Some r) ∙ are.all;
      sound = λ k other found is_other has. elim (cases_eq k index) [
        | inl same ↦
            let same_task : other ≡ task =
            same_Some other task (sym is_other ∙ ap (slice_get tasks) same ∙ is) in
            let same_root = root_here k found same has in
            let P : Standing → Type 0 = StandsAt rs other in
            let Q : ℕ → Type 0 = λ t. StandsAt rs t r in
            subst P same_root (subst Q (sym same_task) stands)
        | inr apart ↦
            are.sound k other found is_other (sym (get_set_other roots index k (Some r) apart) ∙ has)
      ];
      listed = λ k found has. elim (cases_eq k index) [
        | inl same ↦
            let P : Reached → Type 0 = Contains (order ++ record { index = index; standing = r } ∷ []) in
            subst P (here k found same has) (Contains-push order (record { index = index; standing = r }))
        | inr apart ↦
            Contains-append_left order (record { index = index; standing = r } ∷ [])
            (record { index = k; standing = found })
            (are.listed k found (sym (get_set_other roots index k (Some r) apart) ∙ has))
      ];
      known =
          λ entry has.
          elim (Contains-push_cases order (record { index = index; standing = r }) entry has) [
            | inl before ↦
                let there = are.known entry before in
                get_set_other roots index entry.index (Some r)
                (not_known roots index entry.index entry.standing no_root there)
                ∙ there
            | inr last ↦
                let P : Reached → Type 0 =
                λ e. slice_get (set roots index (Some r)) e.index ≡ Some (Some e.standing) in
                subst P last (get_set_same roots index (Some r) within)
          ];
      total =
          (reach_keeps tasks task r roots order (set roots index (Some r))
          (order ++ record { index = index; standing = r } ∷ []) (new index is only no_root)).total
          ∙ are.total;
      shallow =
          λ k entry has.
          elim (pushed_cases order (record { index = index; standing = r }) entry k has) [
            | inl before ↦ are.shallow k entry before
            | inr last ↦
                let P : Reached → Type 0 = λ e. e.standing.depth ≤ k in
                subst P last.1 (let at_end = last.0 in omega (arith, deep, at_end))
          ];
    }
  where
    within : index < length roots
    within = slice_get_within roots index None no_root

    root_here : (k : ℕ) (found : Standing) → k ≡ index
        → slice_get (set roots index (Some r)) k ≡ Some (Some found) → r ≡ found
    root_here k found same has =
        same_Some r found
        (same_Some (Some r) (Some found)
        (sym (get_set_same roots index (Some r) within)
        ∙ ap (slice_get (set roots index (Some r))) (sym same) ∙ has))

    here : (k : ℕ) (found : Standing) → k ≡ index → slice_get (set roots index (Some r)) k ≡ Some (Some found)
        → ◌≡◌ {A = Reached} (record { index = index; standing = r }) (record {
          index = k;
          standing = found;
        })
    here k found same has =
        let f : ℕ → Reached = λ a. record { index = a; standing = r } in
        let g : Standing → Reached = λ b. record { index = k; standing = b } in
        ap f (sym same) ∙ ap g (root_here k found same has)

-- ---- several tasks, one after another

keeps_both : (roots : List (Option Standing)) (order : List Reached) (roots_then : List (Option Standing))
    (order_then : List Reached) (roots_now : List (Option Standing)) (order_now : List Reached)
    → Keeps roots order roots_then order_then → Keeps roots_then order_then roots_now order_now
    → Keeps roots order roots_now order_now
keeps_both roots order roots_then order_then roots_now order_now first second = record {
  same_length = second.same_length ∙ first.same_length;
  stays = λ index r is. second.stays index r (first.stays index r is);
  prefix = λ k entry is. second.prefix k entry (first.prefix k entry is);
  longer = let one = first.longer in let two = second.longer in omega (arith, one, two);
  total = second.total ∙ first.total;
}

pub spreads_keeps : (tasks : List ℕ) (r : Standing) (roots : List (Option Standing)) (order : List Reached)
    (list : List ℕ) (roots_now : List (Option Standing)) (order_now : List Reached)
    → Spreads tasks r roots order list roots_now order_now → Keeps roots order roots_now order_now
spreads_keeps tasks r roots order list roots_now order_now none = record {
  same_length = refl;
  stays = λ index other is. is;
  prefix = λ k entry is. is;
  longer = omega arith;
  total = refl;
}
spreads_keeps tasks r roots order list roots_now order_now
    (more {before = before} {roots_then = roots_then} {order_then = order_then} task spreads reaches) =
    keeps_both roots order roots_then order_then roots_now order_now
    (spreads_keeps tasks r roots order before roots_then order_then spreads)
    (reach_keeps tasks task r roots_then order_then roots_now order_now reaches)

pub spreads_done : (tasks : List ℕ) (r : Standing) (roots : List (Option Standing)) (order : List Reached)
    (list : List ℕ) (roots_now : List (Option Standing)) (order_now : List Reached)
    → Spreads tasks r roots order list roots_now order_now → (task index : ℕ) → Contains list task
    → slice_get tasks index ≡ Some task → (other : Standing) × (slice_get roots_now index ≡ Some (Some other))
spreads_done tasks r roots order list roots_now order_now none task index has is =
    absurd (let low = has.1 in omega arith)
spreads_done tasks r roots order list roots_now order_now
    (more {before = before} {roots_then = roots_then} {order_then = order_then} last spreads
    reaches)
    task index has is =
    elim (Contains-push_cases before last task has) [
      | inl earlier ↦
          let found =
          spreads_done tasks r roots order before roots_then order_then spreads task index earlier is in (
            found.0,
            (reach_keeps tasks last r roots_then order_then roots_now order_now reaches).stays index found.0
                found.1,
          )
      | inr same ↦
          reach_done tasks last r roots_then order_then roots_now order_now reaches index
          (is ∙ ap Some (sym same))
    ]

pub spreads_is : (rs : List Record) (tasks : List ℕ) (r : Standing) (roots : List (Option Standing))
    (order : List Reached) (list : List ℕ) (roots_now : List (Option Standing)) (order_now : List Reached)
    → IsReach rs tasks roots order → ((task : ℕ) → Contains list task → StandsAt rs task r)
    → r.depth ≤ length order → Spreads tasks r roots order list roots_now order_now
    → IsReach rs tasks roots_now order_now
spreads_is rs tasks r roots order list roots_now order_now are stand deep none = are
spreads_is rs tasks r roots order list roots_now order_now are stand deep
    (more {before = before} {roots_then = roots_then} {order_then = order_then} last spreads reaches) =
    reach_is rs tasks last r roots_then order_then roots_now order_now
    (spreads_is rs tasks r roots order before roots_then order_then are
    (λ task has. stand task (Contains-append_left before (last ∷ []) task has)) deep spreads)
    (stand last (Contains-push before last))
    (let longer = (spreads_keeps tasks r roots order before roots_then order_then spreads).longer in
    omega (arith, deep, longer))
    reaches

-- ---- the roots themselves

-- a root stands at itself
abbrev pub at_root : ℕ → Standing
at_root task = record { depth = 0; root = task }

pub reach_start : (rs : List Record) (tasks : List ℕ) (roots : List (Option Standing)) (order : List Reached)
    → roots ≡ replicate (length tasks) None → order ≡ [] → IsReach rs tasks roots order
reach_start rs tasks roots order is empty = record {
  all = ap length is ∙ length-replicate (length tasks) nothing;
  sound = λ index task r is_task has. absurd (no_root index r has);
  listed = λ index r has. absurd (no_root index r has);
  total =
      let no_order = ap length empty in
      let none_known = ap missing is in
      let each = missing_none (length tasks) in omega (arith, no_order, none_known, each);
  shallow = λ k entry has. absurd (none-some entry (ap (λ l. slice_get l k) (sym empty) ∙ has));
  known =
      λ entry has.
      absurd
      (let P : List Reached → Type 0 = λ l. Contains l entry in
      let here : Contains [] entry = subst P empty has in let low = here.1 in omega arith);
}
  where
    nothing : Option Standing
    nothing = None

    no_root : (index : ℕ) (r : Standing) → slice_get roots index ≡ Some (Some r) → ⊥
    no_root index r has =
        let there : slice_get (replicate (length tasks) None) index ≡ Some (Some r) =
        ap (λ l. slice_get l index) (sym is) ∙ has in
        let within = slice_get_within (replicate (length tasks) None) index (Some r) there in
        let short : index < length tasks = rw (length-replicate (length tasks) nothing) at within in
        none-some r
        (same_Some None (Some r)
        (sym
        (slice_get-get_or (replicate (length tasks) None) index None within
        ∙ ap Some (get_or-replicate (length tasks) index None None short))
        ∙ there))

pub seeded_other : (rs : List Record) (n : ℕ) (tasks : List ℕ) (roots : List (Option Standing))
    (order : List Reached)
    → IsSeeded rs n tasks roots order → at begun_root rs n ≡ None → IsSeeded rs (n + 1) tasks roots order
seeded_other rs n tasks roots order are no_root = record {
  reach = are.reach;
  seeded = λ i task index low begins is. elim (cases_eq i n) [
    | inl same ↦ absurd (none-some task (sym no_root ∙ ap (at begun_root rs) (sym same) ∙ begins))
    | inr apart ↦ are.seeded i task index (omega arith) begins is
  ];
}

pub seeded_more : (rs : List Record) (n task : ℕ) (tasks : List ℕ) (roots : List (Option Standing))
    (order : List Reached) (roots_now : List (Option Standing)) (order_now : List Reached)
    → IsSeeded rs n tasks roots order → at begun_root rs n ≡ Some task
    → Reaches tasks task (at_root task) roots order roots_now order_now
    → IsSeeded rs (n + 1) tasks roots_now order_now
seeded_more rs n task tasks roots order roots_now order_now are begins reaches = record {
  reach =
      reach_is rs tasks task (at_root task) roots order roots_now order_now are.reach
      ([], top (n, begins), refl) (omega arith) reaches;
  seeded = λ i other index low begins_other is. elim (cases_eq i n) [
    | inl same ↦
        let same_task : other ≡ task =
        same_Some other task (sym begins_other ∙ ap (at begun_root rs) same ∙ begins) in
        reach_done tasks task (at_root task) roots order roots_now order_now reaches index
        (is ∙ ap Some same_task)
    | inr apart ↦
        let found = are.seeded i other index (omega arith) begins_other is in (
          found.0,
          (reach_keeps tasks task (at_root task) roots order roots_now order_now reaches).stays index
              found.0 found.1,
        )
  ];
}

-- a child stands one step below its parent
abbrev pub below_it : Standing → Standing
below_it r = record { depth = r.depth + 1; root = r.root }

pub child_stands : (rs : List Record) (r : Standing) (parent task : ℕ) → StandsAt rs parent r
    → Contains (children rs parent) task → StandsAt rs task (below_it r)
child_stands rs r parent task (path, stands, deep) has =
    let number = contains_get (children rs parent) task has in
    (path ++ number.0 ∷ [], below number.0 stands number.1, length_push path number.0 ∙ ap (λ n. n + 1) deep)

-- ---- at the end

-- a task with a root is made
pub rooted_made : (rs : List Record) (task : ℕ) → IsRooted rs task → (i : ℕ) × (at made rs i ≡ Some task)
rooted_made rs task (root (i, begins)) = (i, begun_at_made task rs i begins)
rooted_made rs task (child i {parent = parent} creates up) =
    (i, created_at_made task rs i (creation_at_created parent task rs i creates))

-- the children of each task that was reached were reached
abbrev pub IsListClosed : List Record → List ℕ → List (Option Standing) → List Reached → ℕ → Type 0
IsListClosed rs tasks roots order n =
    (k task child_task index : ℕ) (entry : Reached) → k < n → slice_get order k ≡ Some entry
    → slice_get tasks entry.index ≡ Some task
    → Contains (children rs task) child_task → slice_get tasks index ≡ Some child_task
    → (r : Standing) × (slice_get roots index ≡ Some (Some r))

-- one more task of which the children were reached
pub closed_more : (rs : List Record) (tasks : List ℕ) (roots : List (Option Standing)) (order : List Reached)
    (roots_now : List (Option Standing)) (order_now : List Reached) (n own : ℕ) (entry : Reached)
    → n < length order → slice_get order n ≡ Some entry → slice_get tasks entry.index ≡ Some own
    → IsListClosed rs tasks roots order n
    → Spreads tasks (below_it entry.standing) roots order (children rs own) roots_now order_now
    → IsListClosed rs tasks roots_now order_now (n + 1)
closed_more rs tasks roots order roots_now order_now n own entry within here is_own closed spreads k task
    child_task index found low there is_task has is =
    let keeps =
    spreads_keeps tasks (below_it entry.standing) roots order (children rs own) roots_now order_now
    spreads in
    elim (cases_eq k n) [
      | inl same ↦
          let same_entry : found ≡ entry =
          same_Some found entry (sym there ∙ ap (slice_get order_now) same ∙ keeps.prefix n entry here) in
          let same_task : task ≡ own =
          same_Some task own
          (sym is_task ∙ ap (λ (e : Reached). slice_get tasks e.index) same_entry ∙ is_own) in
          let P : ℕ → Type 0 = λ t. Contains (children rs t) child_task in
          spreads_done tasks (below_it entry.standing) roots order (children rs own) roots_now order_now
          spreads child_task index (subst P same_task has) is
      | inr apart ↦
          let inside : k < length order = omega (arith, low, within, apart) in
          let old : slice_get order k ≡ Some (get_or order k entry) = slice_get-get_or order k entry inside in
          let same_entry : get_or order k entry ≡ found =
          same_Some (get_or order k entry) found
          (sym (keeps.prefix k (get_or order k entry) old) ∙ there) in
          let was =
          closed k task child_task index found (omega (arith, low, apart)) (old ∙ ap Some same_entry)
          is_task has is in
          (was.0, keeps.stays index was.0 was.1)
    ]

-- the task at an index that was reached
pub task_reached : (rs : List Record) (tasks : List ℕ) (roots : List (Option Standing)) (order : List Reached)
    (k : ℕ) (entry : Reached)
    → IsReach rs tasks roots order → slice_get order k ≡ Some entry
    → (task : ℕ) × (slice_get tasks entry.index ≡ Some task)
task_reached rs tasks roots order k entry are here =
    let known = are.known entry (get_contains order entry k here) in
    let within = slice_get_within roots entry.index (Some entry.standing) known in
    (get_or tasks entry.index 0, slice_get-get_or tasks entry.index 0 (omega (arith, within, are.all)))

-- where all that was reached is closed, each task with a root was reached
pub all_reached : (rs : List Record) (tasks : List ℕ) (roots : List (Option Standing)) (order : List Reached)
    → AreNoted made rs (length rs) tasks → IsSeeded rs (length rs) tasks roots order
    → IsListClosed rs tasks roots order (length order) → (task : ℕ) → IsRooted rs task → (index : ℕ)
    → slice_get tasks index ≡ Some task → (r : Standing) × (slice_get roots index ≡ Some (Some r))
all_reached rs tasks roots order noted are closed task (root (i, begins)) index is =
    are.seeded i task index (at_within begun_root rs i task begins) begins is
all_reached rs tasks roots order noted are closed task (child i {parent = parent} creates up) index is =
    let maker = rooted_made rs parent up in
    let parent_at =
    contains_get tasks parent
    (noted.each maker.0 parent (at_within made rs maker.0 parent maker.1) maker.1) in
    let found = all_reached rs tasks roots order noted are closed parent up parent_at.0 parent_at.1 in
    let entry : Reached = record { index = parent_at.0; standing = found.0 } in
    let stands = contains_get order entry (are.reach.listed parent_at.0 found.0 found.1) in
    closed stands.0 parent task index entry (slice_get_within order stands.0 entry stands.1) stands.1
    parent_at.1
    (child_before rs parent task (length rs) i (at_within creation rs i (parent, task) creates) creates)
    is

pub roots_found : (rs : List Record) (tasks : List ℕ) (roots : List (Option Standing)) (order : List Reached)
    (n : ℕ)
    → AreNoted made rs (length rs) tasks → IsSeeded rs (length rs) tasks roots order
    → IsListClosed rs tasks roots order n → length order ≤ n → AreRoots rs tasks roots
roots_found rs tasks roots order n noted are closed all = record {
  all = are.reach.all;
  rooted = are.reach.sound;
  unrooted = λ index task is no_root rooted.
      let found =
      all_reached rs tasks roots order noted are
      (λ k other child_task at_index entry low.
      closed k other child_task at_index entry (omega arith))
      task rooted index is in
      none-some found.0 (same_Some None (Some found.0) (sym no_root ∙ found.1));
}

-- ---- one turn

-- the state after a turn
pub record IsTurned (rs : List Record) (tasks : List ℕ) (roots_now : List (Option Standing))
    (order : List Reached) (order_now : List Reached) (next : ℕ) : Type 0 where
  pub reach : IsSeeded rs (length rs) tasks roots_now order_now
  pub closed : IsListClosed rs tasks roots_now order_now (next + 1)
  pub longer : length order ≤ length order_now

pub turn_seeded : (rs : List Record) (tasks : List ℕ) (roots : List (Option Standing)) (order : List Reached)
    (list : List ℕ) (roots_now : List (Option Standing)) (order_now : List Reached) (next own : ℕ)
    (entry : Reached)
    → IsSeeded rs (length rs) tasks roots order → IsListClosed rs tasks roots order next → next < length order
    → slice_get order next ≡ Some entry → slice_get tasks entry.index ≡ Some own → list ≡ children rs own
    → Spreads tasks (below_it entry.standing) roots order list roots_now order_now
    → IsTurned rs tasks roots_now order order_now next
turn_seeded rs tasks roots order list roots_now order_now next own entry are closed within here is_own is_list
    spreads_list =
    record {
      reach = record {
        reach =
            spreads_is rs tasks (below_it entry.standing) roots order (children rs own) roots_now order_now
            are.reach
            (λ task has.
            child_stands rs entry.standing own task
            (are.reach.sound entry.index own entry.standing is_own known) has)
            (let deep = are.reach.shallow next entry here in omega (arith, deep, within)) spreads;
        seeded =
            λ i task index low begins is.
            let found = are.seeded i task index low begins is in (found.0, keeps.stays index found.0 found.1);
      };
      closed =
          closed_more rs tasks roots order roots_now order_now next own entry within here is_own closed
          spreads;
      longer = keeps.longer;
    }
  where
    spreads : Spreads tasks (below_it entry.standing) roots order (children rs own) roots_now order_now
    spreads =
        let P : List ℕ → Type 0 =
        λ l. Spreads tasks (below_it entry.standing) roots order l roots_now order_now in
        subst P is_list spreads_list

    keeps : Keeps roots order roots_now order_now
    keeps =
        spreads_keeps tasks (below_it entry.standing) roots order (children rs own) roots_now order_now
        spreads

    known : slice_get roots entry.index ≡ Some (Some entry.standing)
    known = are.reach.known entry (get_contains order entry next here)

-- ---- the three ways in which a task is reached

pub reach_none : (tasks : List ℕ) (task : ℕ) (r : Standing) (roots : List (Option Standing))
    (order : List Reached)
    → ((k : ℕ) → (None ≡ Some k) ↔ (slice_get tasks k ≡ Some task))
    → Reaches tasks task r roots order roots order
reach_none tasks task r roots order none_found =
    known (λ index is. absurd (none-some index ((none_found index).1 is)))

pub reach_known : (tasks : List ℕ) (task : ℕ) (r : Standing) (found : ℕ) (roots : List (Option Standing))
    (order : List Reached)
    → ((k : ℕ) → (Some found ≡ Some k) ↔ (slice_get tasks k ≡ Some task)) → found < length roots
    → is_some (get_or roots found None) ≡ true → Reaches tasks task r roots order roots order
reach_known tasks task r found roots order is within has = known (λ index is_task.
    let same : found ≡ index = same_Some found index ((is index).1 is_task) in
    let root_there = some_of (get_or roots found None) has in (
      root_there.0,
      ap (slice_get roots) (sym same) ∙ slice_get-get_or roots found None within ∙ ap Some root_there.1,
    ))
  where
    some_of : (o : Option Standing) → is_some o ≡ true → (x : Standing) × (o ≡ Some x)
    some_of None e = absurd (false≢true e)
    some_of (Some x) e = (x, refl)

pub reach_new : (tasks : List ℕ) (task : ℕ) (r : Standing) (found : ℕ) (roots : List (Option Standing))
    (order : List Reached)
    → ((k : ℕ) → (Some found ≡ Some k) ↔ (slice_get tasks k ≡ Some task)) → found < length roots
    → is_some (get_or roots found None) ≡ false
    → Reaches tasks task r roots order (set roots found (Some r))
    (order ++ record { index = found; standing = r } ∷ [])
reach_new tasks task r found roots order is within has_none =
    new found ((is found).0 refl) (λ other is_task. sym (same_Some found other ((is other).1 is_task)))
    (slice_get-get_or roots found None within ∙ ap Some (none_of (get_or roots found None) has_none))
  where
    none_of : (o : Option Standing) → is_some o ≡ false → o ≡ None
    none_of None e = refl
    none_of (Some x) e = absurd (true≢false e)
