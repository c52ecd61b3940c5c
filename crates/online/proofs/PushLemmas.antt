-- What records say with one record more.
use Rattle.std.proofs.Common.{◌≡◌, ◌≢◌, ◌∙◌, ℕ, ◌<◌, ◌≤◌, ◌+◌, ◌⊎◌, List, [], ◌∷◌, ◌++◌, length, Option, Some}
use Rattle.std.proofs.Common.{refl, sym, ap, arith, inl, inr}
use Rattle.std.specs.Prelude.{slice_get}
use Rattle.std.proofs.lemmas.Bool.{cases_lt}
use Rattle.std.proofs.lemmas.Option.{same_Some}
use Rattle.std.proofs.lemmas.List.{length_push}
use Rattle.ompt_events.specs.declared.records.Record.{Record}
use Rattle.ompt_events.specs.declared.records.Body.{Body}
use Rattle.ompt_events.specs.declared.records.Part.{Part}
use Rattle.ompt_events.specs.declared.records.Part.TheVariants.{Whole, Body as BodyPart, Event}
use Rattle.ompt_events.specs.declared.cause.Cause.TheVariants.{CreatedTwice}
use Rattle.ompt_events.specs.Records.{creation, finish, made, created_with_deps, dependences, forked}
use Rattle.ompt_events.specs.Places.{at, seen_at, thread_at}
use Rattle.ompt_events.specs.Tree.{IsCreatedAt, IsParent, IsChild, children, children_before}
use Rattle.ompt_events.specs.Completion.{IsPartFinished, IsFinished}
use Rattle.ompt_events.specs.Causes.{IsFreeOf, created_twice, forked_twice, AreFollowed}
use Rattle.ompt_events.proofs.ListLemmas.{pushed_cases, get_last}
use Rattle.ompt_events.proofs.PlaceLemmas.{at_within, at_get, get_at}
use Rattle.ompt_events.proofs.RecordLemmas.{created_at_made, creation_at_created}
use Rattle.ompt_events.proofs.TreeLemmas.{children_cases, children_more, child_place}
use Rattle.online.proofs.ReadLemmas.{same_append, at_same, seen_same, thread_same}
use Rattle.online.proofs.NameLemmas.{whole_long}
use Rattle.online.proofs.ChildLemmas.{child_high}
use Rattle.online.proofs.KeptLemmas.{children_kept}

-- ---- what is said at a place

pub at_pushed : {X : Type 0} (f : Body → Option X) (rs : List Record) (r : Record) (k : ℕ) (x : X)
    → at f (rs ++ r ∷ []) k ≡ Some x → (at f rs k ≡ Some x) ⊎ ((k ≡ length rs) × (f r.body ≡ Some x))
at_pushed f rs r k x says =
    let (q, here, own) = get_at f (rs ++ r ∷ []) k x says in
    elim (pushed_cases rs r q k here) [
      | inl there ↦ inl (at_get f rs k q there ∙ own)
      | inr (last, same) ↦ inr (last, ap (λ (p : Record). f p.body) same ∙ own)
    ]

pub at_stays : {X : Type 0} (f : Body → Option X) (rs : List Record) (r : Record) (k : ℕ) (x : X)
    → at f rs k ≡ Some x → at f (rs ++ r ∷ []) k ≡ Some x
at_stays f rs r k x says =
    at_same f (length rs) (rs ++ r ∷ []) rs (same_append rs (r ∷ [])) k (at_within f rs k x says) ∙ says

pub at_last : {X : Type 0} (f : Body → Option X) (rs : List Record) (r : Record)
    → at f (rs ++ r ∷ []) (length rs) ≡ f r.body
at_last f rs r = at_get f (rs ++ r ∷ []) (length rs) r (get_last rs r (length rs) refl)

-- ---- children

children_there : (rs : List Record) (r : Record) (parent : ℕ)
    → children_before (rs ++ r ∷ []) parent (length rs) ≡ children rs parent
children_there rs r parent = children_kept rs (r ∷ []) parent (length rs) (omega arith)

children_now : (rs : List Record) (r : Record) (parent : ℕ)
    → children (rs ++ r ∷ []) parent ≡ children_before (rs ++ r ∷ []) parent (length rs + 1)
children_now rs r parent = ap (children_before (rs ++ r ∷ []) parent) (length_push rs r)

-- the children of a task are as before, or the record creates one more
pub children_pushed : (rs : List Record) (r : Record) (parent : ℕ)
    → (children (rs ++ r ∷ []) parent ≡ children rs parent)
    ⊎ ((child : ℕ) × (creation r.body ≡ Some (parent, child))
    × (children (rs ++ r ∷ []) parent ≡ children rs parent ++ child ∷ []))
children_pushed rs r parent = elim (children_cases (rs ++ r ∷ []) parent (length rs)) [
  | inl same ↦ inl (children_now rs r parent ∙ same ∙ children_there rs r parent)
  | inr (child, creates, more) ↦
      inr (
        child,
        sym (at_last creation rs r) ∙ creates,
        children_now rs r parent ∙ more ∙ ap (λ l. l ++ child ∷ []) (children_there rs r parent),
      )
]

pub child_stays : (rs : List Record) (r : Record) (parent number task : ℕ) → IsChild rs parent number task
    → IsChild (rs ++ r ∷ []) parent number task
child_stays rs r parent number task is =
    child_high (length rs) (rs ++ r ∷ []) (whole_long rs (r ∷ [])) parent number task
    (ap (λ l. slice_get l number) (children_there rs r parent) ∙ is)

pub child_pushed : (rs : List Record) (r : Record) (parent number task : ℕ)
    → IsChild (rs ++ r ∷ []) parent number task
    → IsChild rs parent number task
    ⊎ ((creation r.body ≡ Some (parent, task)) × (number ≡ length (children rs parent)))
child_pushed rs r parent number task is = elim (children_pushed rs r parent) [
  | inl same ↦ inl (ap (λ l. slice_get l number) (sym same) ∙ is)
  | inr (child, creates, more) ↦
      elim (pushed_cases (children rs parent) child task number (ap (λ l. slice_get l number) (sym more) ∙
      is)) [
        | inl there ↦ inl there
        | inr (last, same) ↦ inr (creates ∙ ap (λ c. Some (parent, c)) same, last)
      ]
]

-- a record that creates none of its children adds none to a task
pub children_alike : (rs : List Record) (r : Record) (parent : ℕ)
    → ((child : ℕ) → creation r.body ≢ Some (parent, child))
    → children (rs ++ r ∷ []) parent ≡ children rs parent
children_alike rs r parent none = elim (children_pushed rs r parent) [
  | inl same ↦ same
  | inr (child, creates, more) ↦ absurd (none child creates)
]

pub child_new : (rs : List Record) (r : Record) (parent child : ℕ) → creation r.body ≡ Some (parent, child)
    → IsChild (rs ++ r ∷ []) parent (length (children rs parent)) child
    × (length (children rs parent) + 1 ≡ length (children (rs ++ r ∷ []) parent))
child_new rs r parent child creates = elim (children_cases (rs ++ r ∷ []) parent (length rs)) [
  | inl same ↦
      absurd
      (none_more
      (ap length (sym same ∙ children_more (rs ++ r ∷ []) parent child (length rs) (at_last creation rs r ∙
      creates)))
      )
  | inr (other, makes, more) ↦
      let is : other ≡ child =
      ap (λ (q : ℕ × ℕ). q.1)
      (same_Some (parent, other) (parent, child) (sym makes ∙ at_last creation rs r ∙ creates)) in
      let now : children (rs ++ r ∷ []) parent ≡ children rs parent ++ child ∷ [] =
      children_now rs r parent ∙ more ∙ ap (λ l. l ++ other ∷ []) (children_there rs r parent)
      ∙ ap (λ c. children rs parent ++ c ∷ []) is in (
        ap (λ l. slice_get l (length (children rs parent))) now
            ∙ get_last (children rs parent) child (length (children rs parent)) refl,
        sym (ap length now ∙ length_push (children rs parent) child),
      )
]
  where
    none_more :
        length (children_before (rs ++ r ∷ []) parent (length rs))
        ≡ length (children_before (rs ++ r ∷ []) parent (length rs) ++ child ∷ [])
        → ⊥
    none_more same =
        let long = length_push (children_before (rs ++ r ∷ []) parent (length rs)) child in
        omega (arith, same, long)

-- ---- a task has one parent and one number

pub made_once : (rs : List Record) → IsFreeOf rs CreatedTwice → (i j task : ℕ) → at made rs i ≡ Some task
    → at made rs j ≡ Some task → i ≡ j
made_once rs once i j task first second = elim (cases_lt i j) [
  | inl less ↦ absurd (once j (created_twice (task, i, less, first, second)))
  | inr most ↦ elim (cases_lt j i) [
    | inl less ↦ absurd (once i (created_twice (task, j, less, second, first)))
    | inr low ↦ omega (arith, most, low)
  ]
]

creation_made : (rs : List Record) (i parent task : ℕ) → IsCreatedAt rs i parent task
    → at made rs i ≡ Some task
creation_made rs i parent task creates = created_at_made task rs i (creation_at_created parent task rs i
    creates)

pub parent_once : (rs : List Record) → IsFreeOf rs CreatedTwice → (i j first second task : ℕ)
    → IsCreatedAt rs i first task → IsCreatedAt rs j second task → first ≡ second
parent_once rs once i j first second task one two =
    let same = made_once rs once i j task (creation_made rs i first task one) (creation_made rs j second
    task two)
    in
    ap (λ (q : ℕ × ℕ). q.0)
    (same_Some (first, task) (second, task) (sym one ∙ ap (at creation rs) same ∙ two))

pub child_parent : (rs : List Record) (parent number task : ℕ) → IsChild rs parent number task
    → IsParent rs parent task
child_parent rs parent number task is =
    let (i, low, creates, count) = child_place rs parent (length rs) number task is in (i, creates)

pub child_once : (rs : List Record) → IsFreeOf rs CreatedTwice → (first second m n task : ℕ)
    → IsChild rs first m task → IsChild rs second n task → (first ≡ second) × (m ≡ n)
child_once rs once first second m n task one two =
    let (i, low, creates, count) = child_place rs first (length rs) m task one in
    let (j, less, makes, numbers) = child_place rs second (length rs) n task two in
    let place = made_once rs once i j task (creation_made rs i first task creates)
    (creation_made rs j second task makes) in
    let parent = parent_once rs once i j first second task creates makes in (
      parent,
      sym count ∙ ap (λ p. length (children_before rs p i)) parent
          ∙ ap (λ k. length (children_before rs second k)) place ∙ numbers,
    )

-- ---- what is complete stays complete

pub finished_stays : (rs : List Record) (r : Record) (task low high : ℕ) → low ≤ high
    → IsFinished rs (λ k. seen_at rs k < low) task
    → IsFinished (rs ++ r ∷ []) (λ k. seen_at (rs ++ r ∷ []) k < high) task
finished_stays rs r task low high less = of
  where
    of_part : (part : Part) → IsPartFinished rs (λ k. seen_at rs k < low) task part
        → IsPartFinished (rs ++ r ∷ []) (λ k. seen_at (rs ++ r ∷ []) k < high) task part
    of_part part (k, says, counts) =
        let same =
        seen_same (length rs) (rs ++ r ∷ []) rs (same_append rs (r ∷ [])) k
        (at_within finish rs k (task, part) says) in
        (k, at_stays finish rs r k (task, part) says, omega (arith, same, counts, less))

    of : IsFinished rs (λ k. seen_at rs k < low) task
        → IsFinished (rs ++ r ∷ []) (λ k. seen_at (rs ++ r ∷ []) k < high) task
    of (inl whole) = inl (of_part Whole whole)
    of (inr (body, event)) = inr (of_part BodyPart body, of_part Event event)

pub finished_more : (rs : List Record) (task low high : ℕ) → low ≤ high
    → IsFinished rs (λ k. seen_at rs k < low) task → IsFinished rs (λ k. seen_at rs k < high) task
finished_more rs task low high less = of
  where
    of_part : (part : Part) → IsPartFinished rs (λ k. seen_at rs k < low) task part
        → IsPartFinished rs (λ k. seen_at rs k < high) task part
    of_part part (k, says, counts) = (k, says, omega (arith, counts, less))

    of : IsFinished rs (λ k. seen_at rs k < low) task → IsFinished rs (λ k. seen_at rs k < high) task
    of (inl whole) = inl (of_part Whole whole)
    of (inr (body, event)) = inr (of_part BodyPart body, of_part Event event)

-- ---- a list that follows a creation

pub followed_stays : (rs : List Record) (r : Record) (a b : ℕ) → AreFollowed rs a b
    → AreFollowed (rs ++ r ∷ []) a b
followed_stays rs r a b is =
    let inside = is.next.within in
    let later = is.next.later in
    record {
      task = is.task;
      items = is.items;
      is_created = at_stays created_with_deps rs r a is.task is.is_created;
      listed = at_stays dependences rs r b (is.task, is.items) is.listed;
      next = record {
        later = later;
        within = let long = length_push rs r in omega (arith, long, inside);
        same_thread = thread_there a (omega (arith, later, inside)) ∙ is.next.same_thread
            ∙ sym (thread_there b inside);
        next = λ k low high same.
            is.next.next k low high
            (sym (thread_there k (omega (arith, high, inside))) ∙ same
            ∙ thread_there a (omega (arith, later, inside)));
      };
    }
  where
    thread_there : (k : ℕ) → k < length rs → thread_at (rs ++ r ∷ []) k ≡ thread_at rs k
    thread_there k low = thread_same (length rs) (rs ++ r ∷ []) rs (same_append rs (r ∷ [])) k low

-- ---- no task is made twice

pub once_first : (rs : List Record) (r : Record) → IsFreeOf (rs ++ r ∷ []) CreatedTwice
    → IsFreeOf rs CreatedTwice
once_first rs r once i (created_twice (task, k, low, makes, again)) =
    once i (created_twice (task, k, low, at_stays made rs r k task makes, at_stays made rs r i task again))
once_first rs r once i (forked_twice (parallel, k, own, other, low, first, second)) =
    once i
    (forked_twice (
      parallel,
      k,
      own,
      other,
      low,
      at_stays forked rs r k (other, parallel) first,
      at_stays forked rs r i (own, parallel) second,
    ))

-- a task of which no part is finished is not complete
pub started : (rs : List Record) (task limit : ℕ) → IsFinished rs (λ k. seen_at rs k < limit) task
    → ((k : ℕ) (part : Part) → at finish rs k ≢ Some (task, part)) → ⊥
started rs task limit (inl (k, says, low)) none = none k Whole says
started rs task limit (inr ((k, says, low), event)) none = none k BodyPart says
