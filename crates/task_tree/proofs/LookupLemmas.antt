-- What a family's look-ups by task, by index and by record say.
use Rattle.std.proofs.Common.{◌≡◌, ◌∙◌, ℕ, ◌≤◌, List, length, Option, Some, None, Bool, true, false, refl}
use Rattle.std.proofs.Common.{sym, ap, arith, inl, inr}
use Rattle.std.proofs.lemmas.Bool.{cases_lt, false≢true}
use Rattle.std.proofs.lemmas.Option.{none-some, same_Some, slice_get_within, slice_get-get_or, slice_get_past}
use Rattle.std.proofs.lemmas.List.{get_or_past}
use Rattle.std.specs.Prelude.{◌↔◌, IsTrue, not, is_some, slice_get, slice_index_or, Contains, option_and_then}
use Rattle.ompt_events.specs.declared.records.Record.{Record}
use Rattle.ompt_events.specs.declared.records.Body.{Body}
use Rattle.ompt_events.specs.declared.records.Body.TheVariants.{ParallelBegin, ParallelEnd, ImplicitTask}
use Rattle.ompt_events.specs.declared.records.Body.TheVariants.{TaskCreate, Dependences, TaskSchedule}
use Rattle.ompt_events.specs.declared.records.Body.TheVariants.{SyncRegion, Cancel}
use Rattle.ompt_events.specs.declared.cause.Cause.TheVariants.{CreatedTwice, Rootless}
use Rattle.ompt_events.specs.Records.{made, begun_root, created, named}
use Rattle.ompt_events.specs.Places.{at}
use Rattle.ompt_events.specs.Tree.{IsRoot, IsExplicit}
use Rattle.ompt_events.specs.Causes.{IsNamedAt, unmade, rootless, IsFreeOf}
use Rattle.ompt_events.proofs.PlaceLemmas.{at_within}
use Rattle.ompt_events.proofs.RecordLemmas.{begun_at_made, created_at_made, created_at_creation}
use Rattle.ompt_events.proofs.RecordLemmas.{creation_at_created, root_or_created, made_cases}
use Rattle.ompt_events.proofs.ListLemmas.{contains_get}
use Rattle.ompt_events.proofs.TreeLemmas.{child_place}
use Rattle.task_tree.specs.declared.links.Link.{Link}
use Rattle.task_tree.specs.Makers.{AreNoted}
use Rattle.task_tree.specs.Subjects.{Calls, AreFound}
use Rattle.packed_trace.specs.Named.{subject, object}
use Rattle.task_tree.specs.Family.{FamilyView, IsFamilyOf}
use Rattle.index_tables.proofs.NumberingLemmas.{contains_or_not}
use Rattle.task_tree.proofs.SubjectLemmas.{finds_calls}
use Rattle.task_tree.proofs.OnceLemmas.{made_once}
use Rattle.task_tree.proofs.FamilyLemmas.{link_found, link_child}

-- ---- the tasks that a record names

subject_named : (task : ℕ) (b : Body) → subject b ≡ Some task → Contains (named b) task
subject_named task (ParallelBegin requested own parallel) is = (0, omega arith, same_Some own task is)
subject_named task (ParallelEnd own parallel) is = (0, omega arith, same_Some own task is)
subject_named task (ImplicitTask endpoint actual number flags parallel own) is =
    (0, omega arith, same_Some own task is)
subject_named task (TaskCreate deps flags own child) is = (0, omega arith, same_Some own task is)
subject_named task (Dependences own list) is = (0, omega arith, same_Some own task is)
subject_named task (TaskSchedule status turns prior next claimed) is =
    (0, omega arith, same_Some prior task is)
subject_named task (SyncRegion kind endpoint parallel own) is = (0, omega arith, same_Some own task is)
subject_named task (Cancel flags own claimed) is = (0, omega arith, same_Some own task is)
subject_named task _ is = absurd (none-some task is)

object_named : (task : ℕ) (b : Body) → object b ≡ Some task → Contains (named b) task
object_named task (TaskCreate deps flags own child) is = (1, omega arith, same_Some child task is)
object_named task (TaskSchedule status turns prior (Some next) claimed) is =
    (1, omega arith, same_Some next task is)
object_named task (TaskSchedule status turns prior None claimed) is = absurd (none-some task is)
object_named task _ is = absurd (none-some task is)

-- each is one that some record makes
named_at : (says : Body → Option ℕ) (task : ℕ) (rs : List Record) (i : ℕ)
    → ((b : Body) → says b ≡ Some task → Contains (named b) task) → at says rs i ≡ Some task
    → IsNamedAt rs i task
named_at says task rs i follows is = there (slice_get rs i) refl is
  where
    there : (o : Option Record) → slice_get rs i ≡ o
        → option_and_then (λ (r : Record). says r.body) o ≡ Some task → IsNamedAt rs i task
    there None e is' = absurd (none-some task is')
    there (Some r) e is' = (r, e, follows r.body is')

named_noted : (rs : List Record) (tasks : List ℕ) (i task : ℕ) → AreNoted made rs (length rs) tasks
    → IsFreeOf rs Rootless → IsNamedAt rs i task → Contains tasks task
named_noted rs tasks i task noted free is = elim (contains_or_not tasks task) [
  | inl has ↦ has
  | inr none ↦
      absurd
      (free i
      (rootless
      (unmade task is
      (λ is_made.
      none
      (noted.each is_made.0 task (at_within made rs is_made.0 task is_made.1)
      is_made.1)))))
]

slot_calls : (says : Body → Option ℕ) (rs : List Record) (tasks : List ℕ) (slots : List (Option ℕ)) (i : ℕ)
    → AreFound says rs (length rs) tasks slots → ((task : ℕ) → at says rs i ≡ Some task → Contains tasks task)
    → Calls tasks (at says rs i) (slice_index_or slots i None)
slot_calls says rs tasks slots i are has = elim (cases_lt i (length rs)) [
  | inl within ↦
      let found = are.each i within in
      let same : slice_index_or slots i None ≡ found.0 =
      same_Some (slice_index_or slots i None) found.0
      (sym (slice_get-get_or slots i None (slice_get_within slots i found.0 found.1)) ∙ found.1) in
      rw same (finds_calls tasks (at says rs i) found.0 found.2 has)
  | inr past ↦ rw (nothing past, get_or_past slots i None (rw are.all past)) refl
]
  where
    nothing : length rs ≤ i → at says rs i ≡ None
    nothing past = ap (option_and_then (λ (r : Record). says r.body)) (slice_get_past rs i past)

pub subject_calls : (rs : List Record) (family : FamilyView) (i : ℕ) → IsFamilyOf rs family
    → Calls family.tasks (at subject rs i) (slice_index_or family.subjects i None)
subject_calls rs family i are =
    slot_calls subject rs family.tasks family.subjects i are.subjects
    (λ task is.
    named_noted rs family.tasks i task are.noted are.rooted
    (named_at subject task rs i (subject_named task) is))

pub object_calls : (rs : List Record) (family : FamilyView) (i : ℕ) → IsFamilyOf rs family
    → Calls family.tasks (at object rs i) (slice_index_or family.objects i None)
object_calls rs family i are =
    slot_calls object rs family.tasks family.objects i are.objects
    (λ task is.
    named_noted rs family.tasks i task are.noted are.rooted
    (named_at object task rs i (object_named task) is))

-- ---- where a task is made

pub maker_is : (rs : List Record) (family : FamilyView) (task place other : ℕ) → IsFamilyOf rs family
    → at made rs place ≡ Some task → (Some place ≡ Some other) ↔ (at made rs other ≡ Some task)
maker_is rs family task place other are makes = (
  λ same. ap (at made rs) (sym (same_Some place other same)) ∙ makes,
  λ too. ap Some (made_once rs task place other are.once makes too),
)

pub maker_none : (rs : List Record) (family : FamilyView) (task : ℕ) (index : Option ℕ) (place : ℕ)
    → IsFamilyOf rs family → ((k : ℕ) → (index ≡ Some k) ↔ (slice_get family.tasks k ≡ Some task))
    → index ≡ None → at made rs place ≡ Some task → ⊥
maker_none rs family task index place are is none makes =
    let stands =
    contains_get family.tasks task
    (are.noted.each place task (at_within made rs place task makes) makes) in
    none-some stands.0 (sym none ∙ (is stands.0).1 stands.1)

-- ---- roots and explicit tasks

pub explicit_is : (rs : List Record) (family : FamilyView) (index task : ℕ) (found : Option Link)
    → IsFamilyOf rs family → slice_get family.tasks index ≡ Some task
    → slice_get family.links index ≡ Some found → (is_some found ≡ true) ↔ IsExplicit rs task
explicit_is rs family index task found are is stands = (to found stands, from)
  where
    to : (o : Option Link) → slice_get family.links index ≡ Some o → is_some o ≡ true → IsExplicit rs task
    to None e holds = absurd (false≢true holds)
    to (Some link) e holds =
        let of = link_child rs family task link are (index, is, e) in
        let place = child_place rs of.0 (length rs) link.number task of.2 in
        (place.0, creation_at_created of.0 task rs place.0 place.2)

    from : IsExplicit rs task → is_some found ≡ true
    from (i, creates) =
        let by = created_at_creation task rs i creates in
        let link = link_found rs family i by.0 task are by.1 in
        let same : index ≡ link.1.0 = are.makers.apart index link.1.0 task is link.1.1 in
        ap is_some (same_Some found (Some link.0) (sym stands ∙ ap (slice_get family.links) same ∙ link.1.2))

root_there : (rs : List Record) (task : ℕ) (o : Option Record)
    → option_and_then (λ (r : Record). begun_root r.body) o ≡ Some task
    → option_and_then (λ (r : Record). created r.body) o ≡ Some task → ⊥
root_there rs task None is is' = none-some task is
root_there rs task (Some r) is is' = root_or_created task task r.body is is'

-- a task is one or the other
pub root_or_explicit : (rs : List Record) (task : ℕ) → IsFreeOf rs CreatedTwice → IsRoot rs task
    → IsExplicit rs task → ⊥
root_or_explicit rs task free (i, begins) (k, creates) =
    let same : k ≡ i =
    made_once rs task k i free (created_at_made task rs k creates) (begun_at_made task rs i begins) in
    root_there rs task (slice_get rs i) begins (ap (at created rs) (sym same) ∙ creates)

made_so : (rs : List Record) (task place : ℕ) → at made rs place ≡ Some task → (IsExplicit rs task → ⊥)
    → IsRoot rs task
made_so rs task place makes never = there (slice_get rs place) refl makes
  where
    there : (o : Option Record) → slice_get rs place ≡ o
        → option_and_then (λ (r : Record). made r.body) o ≡ Some task → IsRoot rs task
    there None e makes' = absurd (none-some task makes')
    there (Some r) e makes' = elim (made_cases task r.body makes') [
      | inl begins ↦ (place, ap (option_and_then (λ (q : Record). begun_root q.body)) e ∙ begins)
      | inr creates ↦
          absurd (never (place, ap (option_and_then (λ (q : Record). created q.body)) e ∙ creates))
    ]

pub root_is : (rs : List Record) (family : FamilyView) (index task : ℕ) (explicit : Bool)
    → IsFamilyOf rs family → slice_get family.tasks index ≡ Some task → (IsTrue explicit) ↔ IsExplicit rs task
    → (IsTrue (not explicit)) ↔ IsRoot rs task
root_is rs family index task true are is both = (
  λ holds.
      absurd (false≢true holds),
  λ root. absurd (root_or_explicit rs task are.once root (both.0 refl)),
)
root_is rs family index task false are is both = (
  λ holds. let place =
      are.makers.each index task is in made_so rs task place.0 place.3
      (λ explicit. false≢true (both.1 explicit)),
  λ root. refl,
)

-- an explicit task is created where it is made, and nowhere else
pub created_place : (rs : List Record) (task place c : ℕ) → IsFreeOf rs CreatedTwice → IsExplicit rs task
    → at made rs place ≡ Some task → (Some place ≡ Some c) ↔ (at created rs c ≡ Some task)
created_place rs task place c once (by, creates) makes =
    let same : by ≡ place = made_once rs task by place once (created_at_made task rs by creates) makes in (
      λ here. ap (at created rs) (sym (same ∙ same_Some place c here)) ∙ creates,
      λ there.
          ap Some
          (sym same
          ∙ made_once rs task by c once (created_at_made task rs by creates)
          (created_at_made task rs c there)),
    )
