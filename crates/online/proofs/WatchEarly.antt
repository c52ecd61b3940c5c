-- Where a record failed the test of predecessors: what is still known, and that a task that is found then is
-- missed.
use Rattle.std.proofs.Common.{◌≡◌, ◌∙◌, ℕ, ◌+◌, List, [], ◌∷◌, ◌++◌, length, Some, None}
use Rattle.std.proofs.Common.{refl, sym, ap, subst, arith, inl, inr}
use Rattle.std.specs.Prelude.{slice_get}
use Rattle.std.proofs.lemmas.Option.{none-some, same_Some}
use Rattle.ompt_events.specs.declared.records.Record.{Record}
use Rattle.ompt_events.specs.declared.records.Body.{Body}
use Rattle.ompt_events.specs.Dependences.{IsPredecessor}
use Rattle.ompt_events.specs.HappensBefore.{IsStart}
use Rattle.ompt_events.specs.Places.{at}
use Rattle.ompt_events.specs.Records.{begun_turn, creation, wait_completed}
use Rattle.ompt_events.specs.Tree.{IsParent, IsChild, child_number, children_before}
use Rattle.ompt_events.proofs.ListLemmas.{get_last}
use Rattle.ompt_events.proofs.PlaceLemmas.{at_within}
use Rattle.ompt_events.proofs.RecordLemmas.{creation_at_created}
use Rattle.ompt_events.proofs.TreeLemmas.{children_more}
use Rattle.online.specs.declared.lists.KeptList.{KeptList}
use Rattle.online.specs.declared.replay.Replay.{Replay}
use Rattle.online.specs.declared.watch.Watch.{Watch}
use Rattle.online.specs.Lists.{list_of, IsListOf, AreListsInOrder, Precedes, IsFoundBefore}
use Rattle.online.specs.Missed.{StartsTooEarly}
use Rattle.online.specs.Online.{IsDependentAt}
use Rattle.online.specs.Replays.{IsReplayOf}
use Rattle.online.specs.Tasks.{value_of}
use Rattle.online.specs.Watches.{IsWatchOf, HasWatched, MustBePreceded, IsRefusedStart, HasRefusedStart}
use Rattle.online.specs.Watches.{preceded_of, HasNoneBefore}
use Rattle.online.proofs.AlikeLemmas.{early_alike}
use Rattle.online.proofs.ChildLemmas.{child_high}
use Rattle.online.proofs.KeptLists.{list_stays}
use Rattle.online.proofs.ListOrder.{order_more}
use Rattle.online.proofs.PushLemmas.{at_last}
use Rattle.online.proofs.ReplayOrder.{begins_once}
use Rattle.online.proofs.WatchMissed.{live_unfinished}
use Rattle.online.proofs.WatchSteps.{IsFollowed, is_next}

-- ---- what is still known

pub early_refused : (rs : List Record) (old new : Watch) (r : Record) → IsWatchOf rs old
    → IsFollowed old new r → new.lists ≡ old.lists → IsRefusedStart (rs ++ r ∷ []) new
early_refused rs old new r kept followed same =
    let next = is_next rs old new r kept followed in
    record {
      replay = next.replay;
      lists = λ task list there.
          list_stays rs r task list (kept.lists task list (sym (ap (λ l. list_of l task) same) ∙ there));
      in_order = order_more rs r old.items kept.items next.watchable next.once next.awaits kept.in_order;
    }

-- where the record is none that ends a root, it is taken as it is
pub early_same : (old new : Watch) (r : Record)
    → ((rs : List Record) → IsWatchOf rs old → IsRefusedStart (rs ++ r ∷ []) new)
    → (records : List Record) → HasWatched records old → HasRefusedStart records r new
early_same old new r refused records (rs, alike, kept) task must = (rs, alike, refused rs kept)

-- at one that ends a root no task must be preceded
pub early_root : (new : Watch) (r : Record) → begun_turn r.body ≡ None → wait_completed r.body ≡ None
    → (records : List Record) → HasRefusedStart records r new
early_root new r none no_wait records task (inl begins) = absurd (none-some (task, 0) (sym none ∙ begins))
early_root new r none no_wait records task (inr waits) = absurd (none-some task (sym no_wait ∙ waits))

-- ---- the task that must be preceded

-- a task that another one created has a number among its children
child_of : (rs : List Record) (parent task : ℕ) → IsParent rs parent task
    → (number : ℕ) × IsChild rs parent number task
child_of rs parent task (i, creates) = (
  child_number rs parent i,
  child_high (i + 1) rs (let low = at_within creation rs i (parent, task) creates in omega (arith, low))
      parent (child_number rs parent i) task
      (ap (λ l. slice_get l (child_number rs parent i)) (children_more rs parent task i creates)
      ∙ get_last (children_before rs parent i) task (child_number rs parent i) refl),
)

-- it starts there, since no record before begins its first turn
starts_there : (rs : List Record) (r : Record) (kept : Replay) (task : ℕ) → IsReplayOf (rs ++ r ∷ []) kept
    → begun_turn r.body ≡ Some (task, 0) → IsStart (rs ++ r ∷ []) (length rs) task
starts_there rs r kept task is begins = record {
  starts = here;
  first = λ k low again.
      begins_once kept.nests (rs ++ r ∷ []) (value_of kept.tasks) k (length rs) task 0 is.replayed again here
      low;
}
  where
    here : at begun_turn (rs ++ r ∷ []) (length rs) ≡ Some (task, 0)
    here = at_last begun_turn rs r ∙ begins

dependent_there : (rs : List Record) (r : Record) (kept : Replay) (task parent : ℕ)
    → IsReplayOf (rs ++ r ∷ []) kept → IsParent (rs ++ r ∷ []) parent task → MustBePreceded r.body task
    → IsDependentAt (rs ++ r ∷ []) (length rs) task
dependent_there rs r kept task parent is (i, creates) (inl begins) =
    inl (
      (i, creation_at_created parent task (rs ++ r ∷ []) i creates),
      starts_there rs r kept task is begins,
    )
dependent_there rs r kept task parent is above (inr waits) = inr (at_last wait_completed rs r ∙ waits)

-- ---- the task that is found

found_precedes : (rs : List Record) (task found : ℕ) (own other : KeptList) → AreListsInOrder rs
    → IsListOf rs task own → IsListOf rs found other → Precedes other own → IsPredecessor rs task found
found_precedes rs task found own other in_order is_own is_other before =
    let (low, siblings, (item, has, (other_item, has_other, (same, conflicting)))) = before in
    let (number, is_child) = child_of rs own.parent task is_own.parent in
    let P : ℕ → Type 0 = λ p. IsParent rs p found in
    let (earlier, sibling) = child_of rs own.parent found (subst P siblings is_other.parent) in
    record {
      parent = own.parent;
      number = number;
      is_child = is_child;
      earlier = earlier;
      sibling = sibling;
      smaller = in_order other.place own.place own.parent earlier number found task other.items.items
          own.items.items low is_other.lists is_own.lists sibling is_child;
      item = item;
      depends = (own.place, own.items.items, is_own.lists, has);
      other = other_item;
      other_depends = (other.place, other.items.items, is_other.lists, has_other);
      same_location = same;
      conflicting = conflicting;
    }

pub early_found : (w : Watch) (r : Record) (dependent predecessor : ℕ) → MustBePreceded r.body dependent
    → IsFoundBefore w.lists w.replay dependent predecessor → (records : List Record)
    → HasRefusedStart records r w → StartsTooEarly records r dependent predecessor
early_found w r dependent predecessor must found records refused =
    let (rs, alike, is) = refused dependent must in
    let own = is.lists dependent found.own found.of_task in
    let other = is.lists predecessor found.other found.of_found in
    early_alike records rs r dependent predecessor alike
    (record {
      dependent_at = dependent_there rs r w.replay dependent found.own.parent is.replay own.parent must;
      precedes =
          found_precedes (rs ++ r ∷ []) dependent predecessor found.own found.other is.in_order own other
          found.before.1;
      unfinished = live_unfinished (rs ++ r ∷ []) w.replay predecessor is.replay found.before.0;
    })

-- ---- where none is found

pub none_before : (w : Watch) (body : Body) (task : ℕ) → preceded_of body ≡ Some task
    → ((found : ℕ) → IsFoundBefore w.lists w.replay task found → ⊥) → HasNoneBefore w body
none_before w body task is none other found must before =
    let P : ℕ → Type 0 = λ t. IsFoundBefore w.lists w.replay t found in
    none found (subst P (same_Some other task (sym must ∙ is)) before)
