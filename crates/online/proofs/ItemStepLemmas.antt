-- One step for each record, of the items that children depend on.
use Rattle.std.proofs.Common.{◌≡◌, ◌∙◌, ℕ, ◌+◌, ◌⊎◌, List, [], ◌∷◌, ◌++◌, length, Option, Some, None}
use Rattle.std.proofs.Common.{◌≢◌, Bool, true, false, refl, sym, ap, subst, arith, inl, inr}
use Rattle.std.specs.Prelude.{is_some, if◌then◌else◌}
use Rattle.std.proofs.lemmas.Option.{none-some, same_Some}
use Rattle.ompt_events.specs.declared.records.Record.{Record}
use Rattle.ompt_events.specs.declared.records.Body.TheVariants.{Dependences}
use Rattle.ompt_events.specs.declared.records.Part.{Part}
use Rattle.ompt_events.specs.declared.records.Part.TheVariants.{Whole, Body as BodyPart, Event}
use Rattle.ompt_events.specs.declared.deps.Dep.{Dep}
use Rattle.ompt_events.specs.Records.{creation, dependences, created_with_deps, finish, ended_root}
use Rattle.ompt_events.specs.Records.{begun_turn, wait_completed}
use Rattle.ompt_events.specs.Places.{at}
use Rattle.ompt_events.specs.Tree.{IsParent, IsExplicit}
use Rattle.ompt_events.specs.HappensBefore.{IsStart}
use Rattle.ompt_events.specs.Completion.{IsCompleteAt, StartsTask}
use Rattle.ompt_events.specs.Dependences.{IsPredecessor}
use Rattle.callbacks.specs.Logs.{known_from}
use Rattle.online.specs.declared.items.Items.{Items}
use Rattle.online.specs.Online.{HasLists, IsDependentAt, IsInOrder}
use Rattle.online.specs.Items.{IsItemsOf, IsFinishedBelow, HasEnded, IsUntouched, KeepsItems, TakesOther}
use Rattle.online.specs.Items.{MayBeRead, IsRead, Reads, completed_by, ended_by, TakesFinish, TakesEndOf}
use Rattle.online.specs.Items.{MayGoOn, PassesWait, PassesStart, TakesList, TakesCompletion, DoesNeither}
use Rattle.online.proofs.PushLemmas.{at_pushed, at_stays, at_last, followed_stays, finished_stays, once_first}
use Rattle.online.proofs.ListingLemmas.{no_deps_created}
use Rattle.online.proofs.ListLaw.{predecessor_before, below_complete, own_complete, child_before}
use Rattle.online.proofs.WaitLemmas.{complete_now}

-- ---- what single records say

-- a record that starts no task and completes no taskwait has no dependent
no_dependent : (rs : List Record) (r : Record) → begun_turn r.body ≡ None → wait_completed r.body ≡ None
    → (dependent : ℕ) → IsDependentAt (rs ++ r ∷ []) (length rs) dependent → ⊥
no_dependent rs r none no_wait dependent (inl (explicit, start)) =
    none-some (dependent, 0) (sym none ∙ sym (at_last begun_turn rs r) ∙ start.starts)
no_dependent rs r none no_wait dependent (inr waits) =
    none-some dependent (sym no_wait ∙ sym (at_last wait_completed rs r) ∙ waits)

-- so nothing is asked of it
read_free : (rs : List Record) (r : Record) (items : Items) → begun_turn r.body ≡ None
    → wait_completed r.body ≡ None → IsItemsOf (rs ++ r ∷ []) items → IsRead rs r items
read_free rs r items none no_wait is = record {
  kept = is;
  listed = λ dependent depends. absurd (no_dependent rs r none no_wait dependent depends);
  complete = λ dependent predecessor depends before.
      absurd (no_dependent rs r none no_wait dependent depends);
}

-- the task that is complete by the record, and its part
completed_case : (o : Option (ℕ × Part)) (task : ℕ) → completed_by o ≡ Some task
    → (part : Part) × (o ≡ Some (task, part)) × (part ≢ BodyPart)
completed_case (Some (own, Whole)) task is =
    (Whole, ap (λ t. Some (t, Whole)) (same_Some own task is), λ body. cc)
completed_case (Some (own, BodyPart)) task is = absurd (none-some task is)
completed_case (Some (own, Event)) task is =
    (Event, ap (λ t. Some (t, Event)) (same_Some own task is), λ body. cc)
completed_case None task is = absurd (none-some task is)

ended_case : (o : Option (ℕ × Part)) (root : Option ℕ) (task : ℕ) → ended_by o root ≡ Some task
    → ((part : Part) × (o ≡ Some (task, part)) × (part ≢ Event)) ⊎ (root ≡ Some task)
ended_case (Some (own, Whole)) root task is =
    inl (Whole, ap (λ t. Some (t, Whole)) (same_Some own task is), λ event. cc)
ended_case (Some (own, BodyPart)) root task is =
    inl (BodyPart, ap (λ t. Some (t, BodyPart)) (same_Some own task is), λ event. cc)
ended_case (Some (own, Event)) root task is = absurd (none-some task is)
ended_case None root task is = inr is

-- by the record that finishes it whole or its event the task is complete
finish_complete : (rs : List Record) (r : Record) (parent : Option ℕ) → MayBeRead rs r parent → (task : ℕ)
    → completed_by (finish r.body) ≡ Some task → IsFinishedBelow (rs ++ r ∷ []) task (r.seen + 1)
finish_complete rs r parent may task is =
    let (part, says, apart) = completed_case (finish r.body) task is in
    complete_now rs r task part may.watchable may.fulfils says apart

has_ended : (rs : List Record) (r : Record) (task : ℕ)
    → ended_by (finish r.body) (ended_root r.body) ≡ Some task → HasEnded (rs ++ r ∷ []) task
has_ended rs r task is = elim (ended_case (finish r.body) (ended_root r.body) task is) [
  | inl (part, says, apart) ↦ inl (length rs, part, at_last finish rs r ∙ says, apart)
  | inr says ↦ inr (length rs, at_last ended_root rs r ∙ says)
]

-- ---- what stays with one record more

lists_stay : (rs : List Record) (r : Record) (task : ℕ) → creation r.body ≡ None → HasLists rs task
    → HasLists (rs ++ r ∷ []) task
lists_stay rs r task none listed parent number sibling smaller a own other less deps =
    elim (at_pushed created_with_deps rs r a sibling deps) [
      | inl there ↦
          let (b, follows) =
          listed parent number sibling smaller a (child_before rs r none parent number task own)
          (child_before rs r none parent smaller sibling other) less there in
          (b, followed_stays rs r a b follows)
      | inr (last, creates) ↦ absurd (no_deps_created r.body none sibling creates)
    ]

parent_stays : (rs : List Record) (r : Record) (parent task : ℕ) → IsParent rs parent task
    → IsParent (rs ++ r ∷ []) parent task
parent_stays rs r parent task (i, creates) = (i, at_stays creation rs r i (parent, task) creates)

untouched_stays : (rs : List Record) (r : Record) (task : ℕ)
    → ((part : Part) → finish r.body ≢ Some (task, part)) → IsUntouched rs task
    → IsUntouched (rs ++ r ∷ []) task
untouched_stays rs r task none untouched k part says =
    elim (at_pushed finish rs r k (task, part) says) [
      | inl there ↦ untouched k part there
      | inr (last, finishes) ↦ none part finishes
    ]

-- ---- where a task starts, what the record finishes itself counts too

start_complete : (rs : List Record) (r : Record) (task : ℕ) → IsInOrder (rs ++ r ∷ [])
    → StartsTask (rs ++ r ∷ []) (length rs)
    → IsFinishedBelow (rs ++ r ∷ []) task (known_from r.seen r.body)
    → IsCompleteAt (rs ++ r ∷ []) task (length rs)
start_complete rs r task ordered starts finished = of (is_some (finish r.body)) refl
  where
    limit : Bool → ℕ
    limit b = if b then r.seen + 1 else r.seen

    of : (b : Bool) → is_some (finish r.body) ≡ b → IsCompleteAt (rs ++ r ∷ []) task (length rs)
    of true is =
        own_complete rs r task ordered starts (ap is_some (at_last finish rs r) ∙ is)
        (subst (λ b. IsFinishedBelow (rs ++ r ∷ []) task (limit b)) is finished)
    of false is =
        below_complete rs r task (subst (λ b. IsFinishedBelow (rs ++ r ∷ []) task (limit b)) is finished)

-- ---- a record that creates no task and lists no dependences

-- what the tests and the steps tell
record IsTakenBy (rs : List Record) (r : Record) (parent : Option ℕ) (old ended : Items) : Type 0 where
  may : MayBeRead rs r parent
  none : creation r.body ≡ None
  no_list : dependences r.body ≡ None
  before : IsItemsOf rs old
  waits : PassesWait old r parent
  after : IsItemsOf (rs ++ r ∷ []) ended
  starts : PassesStart ended r parent

-- a task that starts there
start_listed : (rs : List Record) (r : Record) (parent : Option ℕ) (old ended : Items)
    → IsTakenBy rs r parent old ended → (task : ℕ) → IsExplicit (rs ++ r ∷ []) task
    → IsStart (rs ++ r ∷ []) (length rs) task → HasLists (rs ++ r ∷ []) task
start_listed rs r parent old ended is task explicit start =
    let (p, given, above) = is.may.parent_of task (inl (explicit, start)) in
    let (lists, ready) = is.starts task p (sym (at_last begun_turn rs r) ∙ start.starts) given in
    lists (rs ++ r ∷ []) is.after is.may.once (parent_stays rs r p task above)

start_ready : (rs : List Record) (r : Record) (parent : Option ℕ) (old ended : Items)
    → IsTakenBy rs r parent old ended → (task predecessor : ℕ) → IsExplicit (rs ++ r ∷ []) task
    → IsStart (rs ++ r ∷ []) (length rs) task → IsPredecessor (rs ++ r ∷ []) task predecessor
    → IsCompleteAt (rs ++ r ∷ []) predecessor (length rs)
start_ready rs r parent old ended is task predecessor explicit start before =
    let (p, given, above) = is.may.parent_of task (inl (explicit, start)) in
    let begins = sym (at_last begun_turn rs r) ∙ start.starts in
    let (lists, ready) = is.starts task p begins given in
    let untouched =
    untouched_stays rs r task (λ part finishes. is.may.apart task part finishes begins)
    (is.may.untouched task (inl (explicit, start))) in
    start_complete rs r predecessor is.may.watchable.in_order (task, explicit, start)
    (ready (rs ++ r ∷ []) is.after is.may.once untouched predecessor before)

-- a taskwait with dependences that is complete there
wait_listed : (rs : List Record) (r : Record) (parent : Option ℕ) (old ended : Items)
    → IsTakenBy rs r parent old ended → (task : ℕ)
    → at wait_completed (rs ++ r ∷ []) (length rs) ≡ Some task → HasLists (rs ++ r ∷ []) task
wait_listed rs r parent old ended is task says =
    let (p, given, above) = is.may.parent_of task (inr says) in
    let (lists, ready) = is.waits task p (sym (at_last wait_completed rs r) ∙ says) given in
    lists_stay rs r task is.none (lists rs is.before (once_first rs r is.may.once) above)

wait_ready : (rs : List Record) (r : Record) (parent : Option ℕ) (old ended : Items)
    → IsTakenBy rs r parent old ended → (task predecessor : ℕ)
    → at wait_completed (rs ++ r ∷ []) (length rs) ≡ Some task
    → IsPredecessor (rs ++ r ∷ []) task predecessor → IsCompleteAt (rs ++ r ∷ []) predecessor (length rs)
wait_ready rs r parent old ended is task predecessor says before =
    let (p, given, above) = is.may.parent_of task (inr says) in
    let (lists, ready) = is.waits task p (sym (at_last wait_completed rs r) ∙ says) given in
    let finished =
    ready rs is.before (once_first rs r is.may.once) (is.may.untouched task (inr says)) predecessor
    (predecessor_before rs r task predecessor is.none is.no_list before) in
    below_complete rs r predecessor
    (finished_stays rs r predecessor r.seen r.seen (omega arith) finished)

taken_read : (rs : List Record) (r : Record) (parent : Option ℕ) (old ended new : Items)
    → IsTakenBy rs r parent old ended → KeepsItems ended new → IsRead rs r new
taken_read rs r parent old ended new is keeps = record {
  kept = keeps (rs ++ r ∷ []) is.after;
  listed = listed;
  complete = complete;
}
  where
    listed : (dependent : ℕ) → IsDependentAt (rs ++ r ∷ []) (length rs) dependent
        → HasLists (rs ++ r ∷ []) dependent
    listed dependent (inl (explicit, start)) =
        start_listed rs r parent old ended is dependent explicit start
    listed dependent (inr waits) = wait_listed rs r parent old ended is dependent waits

    complete : (dependent predecessor : ℕ) → IsDependentAt (rs ++ r ∷ []) (length rs) dependent
        → IsPredecessor (rs ++ r ∷ []) dependent predecessor
        → IsCompleteAt (rs ++ r ∷ []) predecessor (length rs)
    complete dependent predecessor (inl (explicit, start)) =
        start_ready rs r parent old ended is dependent predecessor explicit start
    complete dependent predecessor (inr waits) =
        wait_ready rs r parent old ended is dependent predecessor waits

-- the steps that the code takes: from the old items to those tested, those without the task that is complete,
-- those without what children of a task use whose body has ended, and the new ones
pub other_read : (old tested completed ended new : Items) (r : Record) (parent : Option ℕ)
    → creation r.body ≡ None → dependences r.body ≡ None → PassesWait old r parent
    → KeepsItems old tested → TakesOther tested → TakesFinish tested completed r
    → TakesEndOf completed ended r → PassesStart ended r parent → KeepsItems ended new
    → Reads old new r parent
other_read old tested completed ended new r parent none no_list waits tests others completes ends starts
    keeps rs may is =
    let all : List Record = rs ++ r ∷ [] in
    let neither : DoesNeither rs r = record {
      watchable = may.watchable;
      once = may.once;
      creates_none = none;
      lists_none = no_list;
    }
    in
    let read = others rs r neither (tests rs is) in
    let finished = completes all (finish_complete rs r parent may) read in
    taken_read rs r parent old ended new
    (record {
      may = may;
      none = none;
      no_list = no_list;
      before = is;
      waits = waits;
      after = ends all (has_ended rs r) finished;
      starts = starts;
    })
    keeps

-- ---- a record that lists dependences

pub list_read : (old new : Items) (r : Record) (parent : Option ℕ) (task : ℕ) (given list : List Dep)
    → r.body ≡ Dependences task list → given ≡ list
    → ((p : ℕ) → parent ≡ Some p → TakesList old new p task given) → Reads old new r parent
list_read old new r parent task given list is same takes rs may items =
    let (p, known, above, goes_on) = may.lists task list (ap dependences is) in
    read_free rs r new (ap begun_turn is) (ap wait_completed is)
    (takes p known rs r
    (record {
      once = may.once;
      in_place = may.in_place;
      lists = ap dependences is ∙ ap (λ l. Some (task, l)) (sym same);
      goes_on = goes_on;
    })
    items)

-- ---- what the code asks and takes out, by the body of the record

may_same : (items : Items) (p q task own limit end : ℕ) → p ≡ q → task ≡ own → limit ≡ end
    → MayGoOn items p task limit → MayGoOn items q own end
may_same items p q task own limit end parents tasks limits may =
    subst (λ n. MayGoOn items q own n) limits
    (subst (λ t. MayGoOn items q t limit) tasks (subst (λ x. MayGoOn items x task limit) parents may))

pub wait_passed : (items : Items) (r : Record) (parent : Option ℕ) (p task limit : ℕ)
    → wait_completed r.body ≡ Some task → parent ≡ Some p → limit ≡ r.seen → MayGoOn items p task limit
    → PassesWait items r parent
wait_passed items r parent p task limit is given same may own q waits above =
    may_same items p q task own limit r.seen (same_Some p q (sym given ∙ above))
    (same_Some task own (sym is ∙ waits)) same may

pub start_passed : (items : Items) (r : Record) (parent : Option ℕ) (p task limit : ℕ)
    → begun_turn r.body ≡ Some (task, 0) → parent ≡ Some p → limit ≡ known_from r.seen r.body
    → MayGoOn items p task limit → PassesStart items r parent
start_passed items r parent p task limit is given same may own q begins above =
    may_same items p q task own limit (known_from r.seen r.body) (same_Some p q (sym given ∙ above))
    (ap (λ (b : ℕ × ℕ). b.0) (same_Some (task, 0) (own, 0) (sym is ∙ begins))) same may

pub finish_taken : (old new : Items) (r : Record) (task seen : ℕ) → completed_by (finish r.body) ≡ Some task
    → seen ≡ r.seen → TakesCompletion old new task (seen + 1) → TakesFinish old new r
finish_taken old new r task seen is same completes rs finished =
    completes rs (subst (λ n. IsFinishedBelow rs task (n + 1)) (sym same) (finished task is))
