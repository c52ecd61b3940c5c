-- What a dependent task must wait for, by the first records and by all.
use Rattle.std.proofs.Common.{◌≡◌, ◌∙◌, ℕ, ◌<◌, ◌≤◌, List, ◌++◌, length, Some, None, Bool, true, false, sym}
use Rattle.std.proofs.Common.{ap, arith, inl, inr}
use Rattle.std.specs.Prelude.{slice_get, is_some, if◌then◌else◌}
use Rattle.std.proofs.lemmas.Bool.{cases_lt}
use Rattle.std.proofs.lemmas.Option.{none-some, same_Some}
use Rattle.ompt_events.specs.declared.records.Record.{Record}
use Rattle.ompt_events.specs.declared.records.Body.{Body}
use Rattle.ompt_events.specs.declared.records.Body.TheVariants.{TaskCreate}
use Rattle.ompt_events.specs.declared.deps.Dep.{Dep}
use Rattle.ompt_events.specs.declared.cause.Cause.TheVariants.{CreatedTwice, DepsPlace}
use Rattle.ompt_events.specs.Records.{made, created_with_deps, started, wait_completed, dependences}
use Rattle.ompt_events.specs.Places.{at}
use Rattle.ompt_events.specs.Tree.{IsChild}
use Rattle.ompt_events.specs.Completion.{IsCompleteAt}
use Rattle.ompt_events.specs.Dependences.{DependsOn, IsPredecessor}
use Rattle.ompt_events.specs.Causes.{IsNamedAt, IsFreeOf, AreFollowed, deps_place, stray}
use Rattle.ompt_events.proofs.PlaceLemmas.{at_within}
use Rattle.ompt_events.proofs.RecordLemmas.{at_through, created_at_made, creation_at_created}
use Rattle.ompt_events.proofs.TreeLemmas.{child_place}
use Rattle.ompt_events.proofs.TurnLemmas.{start_starts}
use Rattle.online.specs.Online.{IsWatchable, AreListed, HasLists, IsDependentAt}
use Rattle.online.proofs.ReadLemmas.{IsSameTo, same_append, same_whole, at_same, thread_same}
use Rattle.online.proofs.NameLemmas.{IsMadeBelow, made_low, started_named, wait_named, read_whole, whole_long}
use Rattle.online.proofs.CurrentLemmas.{named_by}
use Rattle.online.proofs.ChildLemmas.{child_low, sibling_low, child_high}
use Rattle.online.proofs.KeptLemmas.{children_kept}
use Rattle.online.proofs.CompleteLemmas.{complete_stays}

depends_same : (n : ℕ) (xs ys : List Record) → IsSameTo n xs ys → (task : ℕ) (dep : Dep)
    → ((k : ℕ) (list : List Dep) → at dependences xs k ≡ Some (task, list) → k < n) → DependsOn xs task dep
    → DependsOn ys task dep
depends_same n xs ys same task dep low (k, list, says, has) =
    (k, list, sym (at_same dependences n xs ys same k (low k list says)) ∙ says, has)

-- a dependent task is named where it must wait
dependent_named : (rs : List Record) (i task : ℕ) → IsDependentAt rs i task → IsNamedAt rs i task
dependent_named rs i task (inl (explicit, start)) =
    named_by started started_named rs i task (start_starts rs i task start)
dependent_named rs i task (inr waits) = named_by wait_completed wait_named rs i task waits

-- the dependent task has its number among the first records
own_number : (before after : List Record) (i dependent : ℕ) → IsWatchable (before ++ after)
    → IsFreeOf (before ++ after) CreatedTwice → i < length before
    → IsDependentAt (before ++ after) i dependent → (parent number : ℕ)
    → IsChild (before ++ after) parent number dependent → IsChild before parent number dependent
own_number before after i dependent watchable once below there parent number is =
    let read = read_whole before after watchable once in
    let name = dependent_named (before ++ after) i dependent there in
    sym (ap (λ l. slice_get l number) (children_kept before after parent (length before) (omega arith)))
    ∙ child_low (length before) (before ++ after) read parent number dependent
    (read.named i dependent below name) is

-- and so has each sibling with a smaller one
sibling_number : (before after : List Record) (parent number smaller dependent sibling : ℕ)
    → IsChild before parent number dependent → smaller ≤ number
    → IsChild (before ++ after) parent smaller sibling → IsChild before parent smaller sibling
sibling_number before after parent number smaller dependent sibling own less is =
    let kept = children_kept before after parent (length before) (omega arith) in
    sym (ap (λ l. slice_get l smaller) kept)
    ∙ sibling_low (length before) (before ++ after) (whole_long before after) parent number smaller dependent
    sibling (ap (λ l. slice_get l number) kept ∙ own) less is

pub preceded_back : (before after : List Record) (i dependent predecessor : ℕ) → IsWatchable (before ++ after)
    → IsFreeOf (before ++ after) CreatedTwice → i < length before
    → IsDependentAt (before ++ after) i dependent → AreListed (before ++ after) (length before) dependent
    → IsPredecessor (before ++ after) dependent predecessor → IsPredecessor before dependent predecessor
preceded_back before after i dependent predecessor watchable once below there listed is = record {
  parent = is.parent;
  number = is.number;
  is_child = own;
  earlier = is.earlier;
  sibling =
      sibling_number before after is.parent is.number is.earlier dependent predecessor own
      (omega (arith, less)) is.sibling;
  smaller = is.smaller;
  item = is.item;
  depends =
      depends_same (length before) (before ++ after) before same dependent is.item (λ k list says.
      listed is.parent is.number dependent is.number k list is.is_child is.is_child (omega arith) says)
      is.depends;
  other = is.other;
  other_depends =
      depends_same (length before) (before ++ after) before same predecessor is.other (λ k list says.
      listed is.parent is.number predecessor is.earlier k list is.is_child is.sibling (omega (arith, less))
      says)
      is.other_depends;
  same_location = is.same_location;
  conflicting = is.conflicting;
}
  where
    same : IsSameTo (length before) (before ++ after) before
    same = same_append before after

    less : is.earlier < is.number
    less = is.smaller

    own : IsChild before is.parent is.number dependent
    own = own_number before after i dependent watchable once below there is.parent is.number is.is_child

pub preceded_stays : (before after : List Record) (dependent predecessor : ℕ)
    → IsPredecessor before dependent predecessor → IsPredecessor (before ++ after) dependent predecessor
preceded_stays before after dependent predecessor is = record {
  parent = is.parent;
  number = is.number;
  is_child = number_stays is.number dependent is.is_child;
  earlier = is.earlier;
  sibling = number_stays is.earlier predecessor is.sibling;
  smaller = is.smaller;
  item = is.item;
  depends =
      depends_same (length before) before (before ++ after) same dependent is.item (λ k list says.
      at_within dependences before k (dependent, list) says)
      is.depends;
  other = is.other;
  other_depends =
      depends_same (length before) before (before ++ after) same predecessor is.other (λ k list says.
      at_within dependences before k (predecessor, list) says)
      is.other_depends;
  same_location = is.same_location;
  conflicting = is.conflicting;
}
  where
    same : IsSameTo (length before) before (before ++ after)
    same = same_whole before after

    number_stays : (number task : ℕ) → IsChild before is.parent number task
        → IsChild (before ++ after) is.parent number task
    number_stays number task numbered =
        child_high (length before) (before ++ after) (whole_long before after) is.parent number task
        (ap (λ l. slice_get l number) (children_kept before after is.parent (length before) (omega arith))
        ∙ numbered)

-- all that a dependent task must wait for is complete there, where that is so by the first records
pub preceded_complete : (before after : List Record) (i dependent : ℕ) → IsWatchable (before ++ after)
    → IsFreeOf (before ++ after) CreatedTwice → i < length before
    → IsDependentAt (before ++ after) i dependent → AreListed (before ++ after) (length before) dependent
    → ((task : ℕ) → IsPredecessor before dependent task → IsCompleteAt before task i) → (task : ℕ)
    → IsPredecessor (before ++ after) dependent task → IsCompleteAt (before ++ after) task i
preceded_complete before after i dependent watchable once below there listed complete task is =
    complete_stays before after i task below
    (complete task (preceded_back before after i dependent task watchable once below there listed is))

-- ---- which lists of dependences have been read

with_deps_made : (task : ℕ) (b : Body) → created_with_deps b ≡ Some task → made b ≡ Some task
with_deps_made task (TaskCreate deps flags parent own) says = of deps says
  where
    of : (b : Bool) → (if b then Some own else None) ≡ Some task → Some own ≡ Some task
    of true is = is
    of false is = absurd (none-some task is)
with_deps_made task _ says = absurd (none-some task says)

-- the lists stand before n where the records before n have them behind the creations
pub listed_there : (before after : List Record) (i dependent : ℕ) → IsWatchable (before ++ after)
    → IsFreeOf (before ++ after) CreatedTwice → IsFreeOf (before ++ after) DepsPlace → i < length before
    → IsDependentAt (before ++ after) i dependent → HasLists before dependent
    → AreListed (before ++ after) (length before) dependent
listed_there before after i dependent watchable once placed below there followed parent number sibling smaller
    k list is_child is_sibling less says =
    elim (cases_lt k (length before)) [
      | inl low ↦ low
      | inr past ↦ absurd (placed k (deps_place (stray (ap is_some says) (none past))))
    ]
  where
    same : IsSameTo (length before) (before ++ after) before
    same = same_append before after

    own : IsChild before parent number dependent
    own = own_number before after i dependent watchable once below there parent number is_child

    other : IsChild before parent smaller sibling
    other = sibling_number before after parent number smaller dependent sibling own less is_sibling

    made_there : IsMadeBelow (length before) (before ++ after) sibling
    made_there =
        let (c, low, creates, count) = child_place before parent (length before) smaller sibling other in (
          c,
          low,
          at_same made (length before) (before ++ after) before same c low
              ∙ created_at_made sibling before c (creation_at_created parent sibling before c creates),
        )

    none : length before ≤ k → (a : ℕ) → AreFollowed (before ++ after) a k → ⊥
    none past a follows =
        let is_task : follows.task ≡ sibling =
        ap (λ (q : ℕ × List Dep). q.0)
        (same_Some (follows.task, follows.items) (sibling, list) (sym follows.listed ∙ says)) in
        let creates : at created_with_deps (before ++ after) a ≡ Some sibling =
        follows.is_created ∙ ap Some is_task in
        let read = read_whole before after watchable once in
        let low : a < length before =
        made_low (length before) (before ++ after) sibling a read made_there
        (at_through created_with_deps made sibling sibling (before ++ after) a (with_deps_made sibling)
        creates) in
        let found =
        followed parent number sibling smaller a own other less
        (sym (at_same created_with_deps (length before) (before ++ after) before same a low) ∙ creates) in
        let next = found.1.next in
        let inside = next.within in
        follows.next.next found.0 next.later (omega (arith, inside, past))
        (thread_same (length before) (before ++ after) before same found.0 inside ∙ sym next.same_thread
        ∙ sym (thread_same (length before) (before ++ after) before same a low))
