-- Which lists of dependences the records have, with a list more; and what follows for a dependent task.
use Rattle.std.proofs.Common.{◌≡◌, ◌≢◌, ◌∙◌, ℕ, ◌<◌, ◌+◌, List, [], ◌∷◌, ◌++◌, length, Option, Some, None}
use Rattle.std.proofs.Common.{Bool, true, false, refl, sym, ap, subst, arith, inl, inr}
use Rattle.std.specs.Prelude.{slice_get, not}
use Rattle.std.proofs.lemmas.Bool.{cases_lt, cases_eq}
use Rattle.std.proofs.lemmas.Option.{none-some, same_Some, slice_get_within}
use Rattle.ompt_events.specs.declared.records.Record.{Record}
use Rattle.ompt_events.specs.declared.records.Part.{Part}
use Rattle.ompt_events.specs.declared.deps.Dep.{Dep}
use Rattle.ompt_events.specs.declared.names.DepKind.{DepKind}
use Rattle.ompt_events.specs.declared.names.DepKind.TheVariants.{In, Out, Inout, Mutexinoutset, Inoutset}
use Rattle.ompt_events.specs.declared.cause.Cause.TheVariants.{CreatedTwice}
use Rattle.ompt_events.specs.Names.{conflict}
use Rattle.ompt_events.specs.Records.{creation, created_with_deps, dependences, made}
use Rattle.ompt_events.specs.Places.{at}
use Rattle.ompt_events.specs.Tree.{IsChild, IsParent, children}
use Rattle.ompt_events.specs.Dependences.{DependsOn, IsPredecessor}
use Rattle.ompt_events.specs.Causes.{IsFreeOf, AreFollowed}
use Rattle.ompt_events.proofs.ListLemmas.{get_pushed, get_last, pushed_cases}
use Rattle.ompt_events.proofs.RecordLemmas.{at_through, created_made, creation_created}
use Rattle.ompt_events.specs.declared.records.Part.TheVariants.{Whole, Body as BodyPart, Event}
use Rattle.std.specs.Prelude.{is_some}
use Rattle.std.specs.Option.{option_map_or}
use Rattle.std.proofs.lemmas.List.{length_push}
use Rattle.ompt_events.specs.Places.{seen_at}
use Rattle.ompt_events.specs.HappensBefore.{IsFinishing}
use Rattle.ompt_events.specs.Completion.{IsFinished, IsPartFinished, CountsAt, IsCompleteAt, StartsTask}
use Rattle.ompt_events.proofs.HappensBeforeLemmas.{finishing_within}
use Rattle.ompt_events.proofs.FileOrderLemmas.{entries_less}
use Rattle.online.specs.declared.uses.Use.{Use}
use Rattle.online.specs.Online.{IsInOrder}
use Rattle.online.specs.Online.{EachRecord, ListsAwaited, HasLists}
use Rattle.online.specs.Groups.{put}
use Rattle.online.specs.Uses.{Listing, listing, can_share, IsNeeded, IsUnlisted}
use Rattle.online.specs.Items.{AreListings, IsFinishedBelow, AreUses, Admits}
use Rattle.online.proofs.GroupLemmas.{put_apart, put_cases}
use Rattle.online.proofs.AwaitLemmas.{list_follows}
use Rattle.online.proofs.PushLemmas.{at_pushed, at_stays, at_last, child_pushed, made_once}
use Rattle.online.proofs.PushLemmas.{child_once, child_parent, parent_once, finished_stays, followed_stays}
use Rattle.online.proofs.PushLemmas.{once_first}
use Rattle.online.proofs.ListingLemmas.{listed_no_creation, no_deps_created, with_deps_creation}
use Rattle.online.proofs.ListingLemmas.{missing_later}
use Rattle.online.proofs.ListingLemmas.{ended_stays}

deps_made : (rs : List Record) (a task : ℕ) → at created_with_deps rs a ≡ Some task
    → at made rs a ≡ Some task
deps_made rs a task =
    at_through created_with_deps made task task rs a
    (λ b says.
    let (parent, creates) = with_deps_creation task b says in
    created_made task b (creation_created parent task b creates))

-- ---- a list is read

-- the records before, of which one more creates nothing
pub child_before : (rs : List Record) (r : Record) → creation r.body ≡ None → (parent number task : ℕ)
    → IsChild (rs ++ r ∷ []) parent number task → IsChild rs parent number task
child_before rs r none parent number task is = elim (child_pushed rs r parent number task is) [
  | inl there ↦ there
  | inr (creates, last) ↦ absurd (none-some (parent, task) (sym none ∙ creates))
]

-- a list of the task is not among the lists while it is missing
pub missing_unlisted : (rs : List Record) (history : List Listing) (ends : List (ℕ × ℕ)) (gone : List ℕ)
    (awaited : ℕ → Option ℕ) (parent task : ℕ) → AreListings rs history ends gone awaited
    → awaited parent ≡ Some task → IsUnlisted history task
missing_unlisted rs history ends gone awaited parent task is waits i x here same =
    let (number, child, last, missing) = is.awaits parent task waits in
    let (k, list, says) = is.known i x here in
    missing k list (subst (λ t. at dependences rs k ≡ Some (t, list)) same says)

pub listings_listed : (rs : List Record) (r : Record) (history : List Listing) (ends : List (ℕ × ℕ))
    (gone : List ℕ) (awaited now : ℕ → Option ℕ) (parent task : ℕ) (list : List Dep) (uses : List Use)
    → IsFreeOf (rs ++ r ∷ []) CreatedTwice → EachRecord ListsAwaited (rs ++ r ∷ [])
    → dependences r.body ≡ Some (task, list) → awaited parent ≡ Some task → AreUses uses list
    → ((q : ℕ) → now q ≡ put awaited parent None q) → AreListings rs history ends gone awaited
    → AreListings (rs ++ r ∷ []) (history ++ listing parent task uses ∷ []) ends gone now
listings_listed rs r history ends gone awaited now parent task list uses once each says waits stand changed
    is =
    record {
      listed = λ k t p items lists (i, creates). elim (at_pushed creation rs r i (p, t) creates) [
        | inr (last, own) ↦ absurd (none-some (p, t) (sym none ∙ own))
        | inl before ↦ elim (at_pushed dependences rs r k (t, items) lists) [
          | inl there ↦
              let (j, x, here, of_task, of_parent, stands) = is.listed k t p items there (i, before) in
              (j, x, get_pushed history y x j here, of_task, of_parent, stands)
          | inr (last, own) ↦
              let same = same_Some (task, list) (t, items) (sym says ∙ own) in
              let of_task : task ≡ t = ap (λ (q : ℕ × List Dep). q.0) same in
              let (number, child, end, missing) = is.awaits parent task waits in
              let (c, made_there) = child_parent rs parent number task child in
              let of_parent : parent ≡ p =
              parent_once (rs ++ r ∷ []) once c i parent p t
              (subst (λ q. at creation (rs ++ r ∷ []) c ≡ Some (parent, q)) of_task
              (at_stays creation rs r c (parent, task) made_there)) creates in (
                length history,
                y,
                get_last history y (length history) refl,
                of_task,
                of_parent,
                subst (AreUses uses) (ap (λ (q : ℕ × List Dep). q.1) same) stand,
              )
        ]
      ];
      known = λ i x here. elim (pushed_cases history y x i here) [
        | inl there ↦
            let (k, items, lists) = is.known i x there in
            (k, items, at_stays dependences rs r k (x.task, items) lists)
        | inr (last, same) ↦ (
          length rs,
          list,
          at_last dependences rs r ∙ says
              ∙ ap (λ (z : Listing). Some (z.task, list)) same,
        )
      ];
      ordered = λ i j p earlier later x z less at_x at_z one two. elim (pushed_cases history y z j at_z) [
        | inl there_z ↦
            let low = slice_get_within history j z there_z in
            elim (pushed_cases history y x i at_x) [
              | inl there_x ↦
                  is.ordered i j p earlier later x z less there_x there_z
                  (child_before rs r none p earlier x.task one) (child_before rs r none p later z.task two)
              | inr (last, same) ↦ absurd (omega (arith, low, less, last))
            ]
        | inr (last_z, same_z) ↦ elim (pushed_cases history y x i at_x) [
          | inr (last, same) ↦ absurd (omega (arith, less, last, last_z))
          | inl there_x ↦
              let (number, child, end, missing) = is.awaits parent task waits in
              let two_there : IsChild rs p later task =
              subst (IsChild rs p later) (ap (λ (w : Listing). w.task) (sym same_z))
              (child_before rs r none p later z.task two) in
              let one_there = child_before rs r none p earlier x.task one in
              let (parents, numbers) =
              child_once rs once_before parent p number later task child two_there in
              let within = slice_get_within (children rs p) earlier x.task one_there in
              let long : number + 1 ≡ length (children rs p) = end ∙ ap (λ q. length (children rs q))
              parents in
              elim (cases_eq earlier later) [
                | inl equal ↦
                    let other : x.task ≡ task =
                    same_Some x.task task
                    (sym one_there ∙ ap (slice_get (children rs p)) equal ∙ two_there) in
                    absurd
                    (missing_unlisted rs history ends gone awaited parent task is waits i x there_x other)
                | inr apart ↦ omega (arith, within, long, numbers, apart)
              ]
        ]
      ];
      awaits = λ q child here. elim (put_cases awaited now parent None changed q child here) [
        | inl (same, absent) ↦ absurd (none-some child absent)
        | inr (apart, there) ↦
            missing_later rs r q child (λ other creates. none-some (q, other) (sym none ∙ creates))
            (λ items lists. apart (same_parent q child there items lists)) (is.awaits q child there)
      ];
      followed = λ a child deps. elim (at_pushed created_with_deps rs r a child deps) [
        | inr (last, own) ↦ absurd (no_deps_created r.body none child own)
        | inl there ↦ elim (is.followed a child there) [
          | inl (b, follows) ↦ inl (b, followed_stays rs r a b follows)
          | inr (q, awaits_it) ↦ elim (cases_eq parent q) [
            | inr apart ↦ inr (q, changed q ∙ put_apart awaited parent None q apart ∙ awaits_it)
            | inl same ↦
                let own : task ≡ child =
                same_Some task child (sym waits ∙ ap awaited same ∙ awaits_it) in
                inl (length rs, own_followed a child there own)
          ]
        ]
      ];
      over = λ t end has. finished_stays rs r t end end (omega arith) (is.over t end has);
      ended = λ p has. ended_stays rs r p (is.ended p has);
    }
  where
    y : Listing
    y = listing parent task uses

    none : creation r.body ≡ None
    none = listed_no_creation task list r.body says

    once_before : IsFreeOf rs CreatedTwice
    once_before = once_first rs r once

    same_parent : (q child : ℕ) → awaited q ≡ Some child → (items : List Dep)
        → dependences r.body ≡ Some (child, items) → parent ≡ q
    same_parent q child there items lists =
        let own : task ≡ child =
        ap (λ (d : ℕ × List Dep). d.0) (same_Some (task, list) (child, items) (sym says ∙ lists)) in
        let (m, one, end, missing) = is.awaits parent task waits in
        let (n, two, last, absent) = is.awaits q child there in
        (child_once rs once_before parent q m n child (subst (IsChild rs parent m) own one) two).0

    own_followed : (a child : ℕ) → at created_with_deps rs a ≡ Some child → task ≡ child
        → AreFollowed (rs ++ r ∷ []) a (length rs)
    own_followed a child deps own =
        let (b, follows) =
        list_follows (rs ++ r ∷ []) each (length rs) task list (at_last dependences rs r ∙ says) in
        let is_task : follows.task ≡ task =
        ap (λ (d : ℕ × List Dep). d.0)
        (same_Some (follows.task, follows.items) (task, list)
        (sym follows.listed ∙ at_last dependences rs r ∙ says)) in
        let place : b ≡ a =
        made_once (rs ++ r ∷ []) once b a task
        (deps_made (rs ++ r ∷ []) b task (follows.is_created ∙ ap Some is_task))
        (deps_made (rs ++ r ∷ []) a task
        (at_stays created_with_deps rs r a task (deps ∙ ap Some (sym own)))) in
        subst (λ k. AreFollowed (rs ++ r ∷ []) k (length rs)) place follows

-- ---- kinds of use

-- kinds that share a kind with others clash with each other only where those do
share_both : (a b : DepKind) → conflict a b ≡ false → (c : DepKind) → conflict a c ≡ conflict b c
share_both In In is c = refl
share_both Inoutset Inoutset is c = refl
share_both Mutexinoutset Mutexinoutset is c = refl
share_both In _ is c = cc
share_both Inoutset _ is c = cc
share_both Mutexinoutset _ is c = cc
share_both Out _ is c = cc
share_both Inout _ is c = cc

pub uses_clash : (first second : Option DepKind) (a b : DepKind) → Admits first a → Admits second b
    → conflict a b ≡ true → can_share first second ≡ false
uses_clash None _ a b p q clash = refl
uses_clash (Some first) None a b p q clash = refl
uses_clash (Some first) (Some second) a b p q clash = of (conflict first second) refl
  where
    of : (shared : Bool) → conflict first second ≡ shared → not (conflict first second) ≡ false
    of true is = ap not is
    of false is =
        let one : conflict first b ≡ conflict a b = share_both first a p b in
        let two : conflict first b ≡ conflict second b = share_both first second is b in
        cc

-- ---- what a dependent task waits for

pub predecessor_needed : (rs : List Record) (history : List Listing) (ends : List (ℕ × ℕ)) (gone : List ℕ)
    (awaited : ℕ → Option ℕ) → IsFreeOf rs CreatedTwice → AreListings rs history ends gone awaited
    → (task predecessor : ℕ) → IsPredecessor rs task predecessor → IsNeeded history task predecessor
predecessor_needed rs history ends gone awaited once is task predecessor before =
    let (k, list, says, has) = before.depends in
    let (l, other, tells, holds) = before.other_depends in
    let (j, y, at_y, of_y, parent_y, uses_y) =
    is.listed k task before.parent list says (child_parent rs before.parent before.number task
    before.is_child) in
    let (i, x, at_x, of_x, parent_x, uses_x) =
    is.listed l predecessor before.parent other tells
    (child_parent rs before.parent before.earlier predecessor before.sibling) in
    let (first, has_first, first_at, first_kind) = uses_x before.other holds in
    let (second, has_second, second_at, second_kind) = uses_y before.item has in
    let child_x : IsChild rs before.parent before.earlier x.task =
    subst (IsChild rs before.parent before.earlier) (sym of_x) before.sibling in
    let child_y : IsChild rs before.parent before.number y.task =
    subst (IsChild rs before.parent before.number) (sym of_y) before.is_child in
    let less : before.earlier < before.number = before.smaller in
    record {
      before = x;
      own = y;
      first = i;
      second = j;
      earlier = elim (cases_lt i j) [
        | inl low ↦ low
        | inr most ↦ elim (cases_lt j i) [
          | inl back ↦
              let wrong =
              is.ordered j i before.parent before.number before.earlier y x back at_y at_x child_y child_x in
              absurd (omega (arith, wrong, less))
          | inr same_place ↦
              let same : i ≡ j = omega (arith, most, same_place) in
              let tasks : x.task ≡ y.task =
              ap (λ (z : Listing). z.task)
              (same_Some x y (sym at_x ∙ ap (slice_get history) same ∙ at_y)) in
              let numbers =
              (child_once rs once before.parent before.parent before.earlier before.number y.task
              (subst (IsChild rs before.parent before.earlier) tasks child_x) child_y).1 in
              absurd (omega (arith, numbers, less))
        ]
      ];
      at_first = at_x;
      at_second = at_y;
      of_needed = of_x;
      of_task = of_y;
      clashes = record {
        siblings = parent_x ∙ sym parent_y;
        first = first;
        of_first = has_first;
        second = second;
        of_second = has_second;
        same_location = first_at ∙ before.same_location ∙ sym second_at;
        apart = uses_clash first.kind second.kind before.other.kind before.item.kind first_kind second_kind
            before.conflicting;
      };
    }

-- the lists that count for a child are there, where its own is not missing
pub lists_there : (rs : List Record) (history : List Listing) (ends : List (ℕ × ℕ)) (gone : List ℕ)
    (awaited : ℕ → Option ℕ) → IsFreeOf rs CreatedTwice → AreListings rs history ends gone awaited
    → (parent task : ℕ) → IsParent rs parent task → awaited parent ≢ Some task → HasLists rs task
lists_there rs history ends gone awaited once is parent task (i, creates) there p number sibling smaller a
    child
    other less deps =
    elim (is.followed a sibling deps) [
      | inl follows ↦ follows
      | inr (q, waits) ↦
          let (m, last_child, last, missing) = is.awaits q sibling waits in
          let (parents, numbers) = child_once rs once q p m smaller sibling last_child other in
          let within = slice_get_within (children rs p) number task child in
          let long : m + 1 ≡ length (children rs p) = last ∙ ap (λ t. length (children rs t)) parents in
          let same : number ≡ smaller = omega (arith, within, long, numbers, less) in
          let is_task : task ≡ sibling =
          same_Some task sibling (sym child ∙ ap (slice_get (children rs p)) same ∙ other) in
          let (k, made_there) = child_parent rs p number task child in
          let own : p ≡ parent = parent_once rs once k i p parent task made_there creates in
          absurd
          (there (ap awaited (sym own) ∙ ap awaited (sym parents) ∙ waits ∙ ap Some (sym is_task)))
    ]

-- ---- what a record that creates no task and lists no dependences leaves as it is

depends_before : (rs : List Record) (r : Record) → dependences r.body ≡ None → (task : ℕ) (item : Dep)
    → DependsOn (rs ++ r ∷ []) task item → DependsOn rs task item
depends_before rs r none task item (k, list, says, has) =
    elim (at_pushed dependences rs r k (task, list) says) [
      | inl there ↦ (k, list, there, has)
      | inr (last, own) ↦ absurd (none-some (task, list) (sym none ∙ own))
    ]

pub predecessor_before : (rs : List Record) (r : Record) (task predecessor : ℕ) → creation r.body ≡ None
    → dependences r.body ≡ None → IsPredecessor (rs ++ r ∷ []) task predecessor
    → IsPredecessor rs task predecessor
predecessor_before rs r task predecessor none no_list is = record {
  parent = is.parent;
  number = is.number;
  is_child = child_before rs r none is.parent is.number task is.is_child;
  earlier = is.earlier;
  sibling = child_before rs r none is.parent is.earlier predecessor is.sibling;
  smaller = is.smaller;
  item = is.item;
  depends = depends_before rs r no_list task is.item is.depends;
  other = is.other;
  other_depends = depends_before rs r no_list predecessor is.other is.other_depends;
  same_location = is.same_location;
  conflicting = is.conflicting;
}

-- ---- what is finished below a length is complete at a record that names it

seen_last : (rs : List Record) (r : Record) → seen_at (rs ++ r ∷ []) (length rs) ≡ r.seen
seen_last rs r =
    ap (λ (o : Option Record). option_map_or (λ (q : Record). q.seen) o 0) (get_last rs r (length rs) refl)

finished_counts : (rs : List Record) (task : ℕ) (P Q : ℕ → Type 0)
    → ((k : ℕ) → IsFinishing rs k → P k → Q k) → IsFinished rs P task → IsFinished rs Q task
finished_counts rs task P Q weaker = of
  where
    of_part : (part : Part) → IsPartFinished rs P task part → IsPartFinished rs Q task part
    of_part part (k, says, counts) = (k, says, weaker k (ap is_some says) counts)

    of : IsFinished rs P task → IsFinished rs Q task
    of (inl whole) = inl (of_part Whole whole)
    of (inr (body, event)) = inr (of_part BodyPart body, of_part Event event)

pub below_complete : (rs : List Record) (r : Record) (task : ℕ) → IsFinishedBelow (rs ++ r ∷ []) task r.seen
    → IsCompleteAt (rs ++ r ∷ []) task (length rs)
below_complete rs r task =
    finished_counts (rs ++ r ∷ []) task (λ k. seen_at (rs ++ r ∷ []) k < r.seen)
    (CountsAt (rs ++ r ∷ []) (length rs))
    (λ k makes low. inl (let e = seen_last rs r in omega (arith, e, low)))

pub own_complete : (rs : List Record) (r : Record) (task : ℕ) → IsInOrder (rs ++ r ∷ [])
    → StartsTask (rs ++ r ∷ []) (length rs) → IsFinishing (rs ++ r ∷ []) (length rs)
    → IsFinishedBelow (rs ++ r ∷ []) task (r.seen + 1) → IsCompleteAt (rs ++ r ∷ []) task (length rs)
own_complete rs r task ordered starts finishes =
    finished_counts (rs ++ r ∷ []) task (λ k. seen_at (rs ++ r ∷ []) k < r.seen + 1)
    (CountsAt (rs ++ r ∷ []) (length rs)) counts
  where
    all : List Record
    all = rs ++ r ∷ []

    counts : (k : ℕ) → IsFinishing all k → seen_at all k < r.seen + 1 → CountsAt all (length rs) k
    counts k makes low = elim (cases_lt (seen_at all k) r.seen) [
      | inl less ↦ inl (let e = seen_last rs r in omega (arith, e, less))
      | inr most ↦
          let e = seen_last rs r in
          let own = ordered.enters k makes in
          let last = ordered.enters (length rs) finishes in
          elim (cases_lt k (length rs)) [
            | inl before ↦
                let fewer = entries_less all k (length rs) makes before in
                absurd (omega (arith, e, own, last, fewer, most))
            | inr past ↦
                let inside = finishing_within all k makes in
                let long = length_push rs r in
                inr (omega (arith, past, inside, long), starts)
          ]
    ]
