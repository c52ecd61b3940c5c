-- The greatest length of the predecessors of each task, child by child.
use Rattle.std.proofs.Common.{◌≡◌, ◌≢◌, ◌∙◌, ℕ, ◌<◌, ◌≤◌, ◌+◌, Bool, List, length, replicate, get_or, Option}
use Rattle.std.proofs.Common.{Some, refl, sym, ap, subst, arith, inl, inr, set}
use Rattle.std.proofs.lemmas.Bool.{cases_eq, cases_lt, false≢true}
use Rattle.std.proofs.lemmas.Option.{same_Some, slice_get_within, slice_get-get_or}
use Rattle.std.proofs.lemmas.List.{length-replicate, get_or-replicate, length-set, get_or-set_same}
use Rattle.std.proofs.lemmas.List.{get_or-set_other}
use Rattle.std.specs.Prelude.{◌↔◌, IsTrue, slice_get, slice_index, Contains, true, false}
use Rattle.std.specs.BTreeMap.{BTreeMap}
use Rattle.ompt_events.specs.declared.records.Record.{Record}
use Rattle.ompt_events.specs.declared.deps.Dep.{Dep}
use Rattle.ompt_events.specs.declared.names.DepKind.{DepKind}
use Rattle.ompt_events.specs.declared.cause.Cause.TheVariants.{CreatedTwice}
use Rattle.ompt_events.specs.Names.{conflict}
use Rattle.ompt_events.specs.Tree.{IsChild, children}
use Rattle.ompt_events.specs.Causes.{IsFreeOf}
use Rattle.ompt_events.specs.Dependences.{DependsOn, IsPredecessor}
use Rattle.ompt_events.proofs.ListLemmas.{contains_get, get_contains}
use Rattle.ompt_events.proofs.TreeLemmas.{child_place}
use Rattle.ompt_events.proofs.PlaceLemmas.{at_within}
use Rattle.ompt_events.specs.Records.{creation, dependences}
use Rattle.task_tree.specs.Family.{FamilyView, IsFamilyOf}
use Rattle.index_tables.specs.Numbering.{AreApart}
use Rattle.task_tree.proofs.FamilyLemmas.{parent_noted}
use Rattle.task_tree.proofs.OnceLemmas.{one_number, creation_made}
use Rattle.depend_edges.specs.declared.maxima.Maxima.{Maxima}
use Rattle.depend_edges.specs.Maxima.{maximum_at, ConflictAlike, AreLengthsEntered, IsGreatest}
use Rattle.depend_edges.specs.Edges.{ArePredecessorLengths}
use Rattle.depend_edges.specs.Lists.{AreListed, HasList}
use Rattle.depend_edges.specs.Latest.{IsUse, AreMaxima, IsGreatestLength, IsChildPassed, AreLatestSoFar}
use Rattle.depend_edges.specs.Latest.{IsChildOfIndex}
use Rattle.depend_edges.specs.Latest.{AreMaximaAt}

-- ---- the greatest lengths of the children so far

use_on : (rs : List Record) (tasks siblings : List ℕ) (n index : ℕ) (item : Dep)
    → IsUse rs tasks siblings n index item → IsUse rs tasks siblings (n + 1) index item
use_on rs tasks siblings n index item is = record {
  number = is.number;
  below = let below = is.below in omega (arith, below);
  sibling = is.sibling;
  stands = is.stands;
  is_index = is.is_index;
  depends = is.depends;
}

-- one child more
pub maxima_more : (rs : List Record) (tasks own siblings : List ℕ) (n index task : ℕ) (items : List Dep)
    (old new : BTreeMap ℕ Maxima)
    → AreApart tasks → slice_get siblings n ≡ Some task → slice_get tasks index ≡ Some task
    → ((dep : Dep) → Contains items dep ↔ DependsOn rs task dep)
    → AreLengthsEntered old new items (length items) (slice_index own index)
    → AreMaxima rs tasks own siblings n old
    → AreMaxima rs tasks own siblings (n + 1) new
maxima_more rs tasks own siblings n index task items old new apart here is_index depends entered are =
    record {
      bound = bound;
      only = λ var kind. elim (entered.only var kind) [
        | inl kept ↦ elim (are.only var kind) [
          | inl nothing ↦ inl (kept ∙ nothing)
          | inr (place, item, is, location, alike, reached) ↦
              inr (place, item, use_on rs tasks siblings n place item is, location, alike, kept ∙ reached)
        ]
        | inr (item, has, location, alike, reached) ↦
            inr (index, item, used item has, location, alike, reached)
      ];
    }
  where
    used : (item : Dep) → Contains items item → IsUse rs tasks siblings (n + 1) index item
    used item has = record {
      number = n;
      below = omega arith;
      sibling = task;
      stands = here;
      is_index = is_index;
      depends = (depends item).0 has;
    }

    bound : (place : ℕ) (item : Dep) → IsUse rs tasks siblings (n + 1) place item
        → slice_index own place ≤ maximum_at new item.var item.kind
    bound place item is = elim (cases_lt is.number n) [
      | inl less ↦
          let before =
          are.bound place item (record {
            number = is.number;
            below = less;
            sibling = is.sibling;
            stands = is.stands;
            is_index = is.is_index;
            depends = is.depends;
          }) in
          let after = entered.rises item.var item.kind in
          omega (arith, before, after)
      | inr more ↦
          let below = is.below in
          let same : n ≡ is.number = omega (arith, below, more) in
          let its : task ≡ is.sibling =
          same_Some task is.sibling (sym here ∙ ap (slice_get siblings) same ∙ is.stands) in
          let at : index ≡ place = apart index place task is_index (is.is_index ∙ ap Some (sym its)) in
          let P : ℕ → Type 0 = λ t. DependsOn rs t item in
          let stands = contains_get items item ((depends item).1 (subst P (sym its) is.depends)) in
          let low = entered.entered stands.0 item (slice_get_within items stands.0 item stands.1) stands.1 in
          let Q : ℕ → Type 0 = λ k. slice_index own k ≤ maximum_at new item.var item.kind in
          subst Q at low
    ]

-- what a child waits for is known from the greatest lengths of those before it
pub child_latest : (rs : List Record) (tasks own : List ℕ) (parent number task greatest : ℕ)
    (items : List Dep) (map : BTreeMap ℕ Maxima)
    → IsFreeOf rs CreatedTwice → IsChild rs parent number task
    → ((dep : Dep) → Contains items dep ↔ DependsOn rs task dep)
    → AreMaxima rs tasks own (children rs parent) number map → IsGreatest map items (length items) greatest
    → IsGreatestLength rs tasks own task greatest
child_latest rs tasks own parent number task greatest items map once child depends are is = record {
  bound = bound;
  only = elim is.reached [
    | inl nothing ↦ inl nothing
    | inr (item, kind, has, conflicts, reached) ↦ elim (are.only item.var kind) [
      | inl nothing ↦ inl (sym reached ∙ nothing)
      | inr (index, other, used, location, alike, at) ↦
          inr (
            index,
            used.sibling,
            as_predecessor item other kind index has conflicts used location alike,
            used.is_index,
            sym at ∙ reached,
          )
    ]
  ];
}
  where
    as_predecessor : (item other : Dep) (kind : DepKind) (index : ℕ) → Contains items item
        → conflict kind item.kind ≡ true → (used : IsUse rs tasks (children rs parent) number index other)
        → other.var ≡ item.var → ConflictAlike other.kind kind → IsPredecessor rs task used.sibling
    as_predecessor item other kind index has conflicts used location alike = record {
      parent = parent;
      number = number;
      is_child = child;
      earlier = used.number;
      sibling = used.stands;
      smaller = used.below;
      item = item;
      depends = (depends item).0 has;
      other = other;
      other_depends = used.depends;
      same_location = location;
      conflicting = alike item.kind ∙ conflicts;
    }

    bound : (other predecessor : ℕ) → IsPredecessor rs task predecessor
        → slice_get tasks other ≡ Some predecessor → slice_index own other ≤ greatest
    bound other predecessor before at =
        let same = one_number rs task before.parent parent before.number number once before.is_child child in
        let P : ℕ → Type 0 = λ p. IsChild rs p before.earlier predecessor in
        let used : IsUse rs tasks (children rs parent) number other before.other = record {
          number = before.earlier;
          below =
              let smaller = before.smaller in let number_same = same.1 in omega (arith, smaller, number_same);
          sibling = predecessor;
          stands = subst P same.0 before.sibling;
          is_index = at;
          depends = before.other_depends;
        } in
        let low = are.bound other before.other used in
        let stands = contains_get items before.item ((depends before.item).1 before.depends) in
        let high =
        is.bound stands.0 before.item before.other.kind
        (slice_get_within items stands.0 before.item stands.1) stands.1 before.conflicting in
        let Q : ℕ → Type 0 = λ v. slice_index own other ≤ maximum_at map v before.other.kind in
        let there = subst Q before.same_location low in
        omega (arith, there, high)

-- ---- the lengths so far

-- the next parent
pub latest_next : (rs : List Record) (tasks own latest : List ℕ) (up parent : ℕ)
    → slice_get tasks up ≡ Some parent → AreLatestSoFar rs tasks own up (length (children rs parent)) latest
    → AreLatestSoFar rs tasks own (up + 1) 0 latest
latest_next rs tasks own latest up parent is_up are = record {
  all = are.all;
  bound =
      λ index task other predecessor here is (place, stands, passed) at.
      are.bound index task other predecessor here is (
        place,
        stands,
        elim passed [
          | inr (same, low) ↦ absurd (omega (arith, low))
          | inl low ↦ elim (cases_lt place up) [
            | inl less ↦ inl less
            | inr more ↦
                let same : place ≡ up = omega (arith, low, more) in
                let its : is.parent ≡ parent =
                same_Some is.parent parent (sym stands ∙ ap (slice_get tasks) same ∙ is_up) in
                inr (
                  same,
                  slice_get_within (children rs parent) is.number task
                      (ap (λ p. slice_get (children rs p) is.number) (sym its) ∙ is.is_child),
                )
          ]
        ],
      ) at;
  only = are.only;
}

-- the next child
pub latest_more : (rs : List Record) (tasks own old : List ℕ) (up number parent index task latest : ℕ)
    → AreApart tasks → slice_get tasks up ≡ Some parent → IsChild rs parent number task
    → slice_get tasks index ≡ Some task → IsGreatestLength rs tasks own task latest
    → AreLatestSoFar rs tasks own up number old
    → AreLatestSoFar rs tasks own up (number + 1) (set old index latest)
latest_more rs tasks own old up number parent index task latest apart is_up child here is are = record {
  all = length-set old index latest ∙ are.all;
  bound = λ place its other predecessor stands before passed at. elim (cases_eq place index) [
    | inl same ↦
        let same_task : task ≡ its =
        same_Some task its (sym here ∙ ap (slice_get tasks) (sym same) ∙ stands) in
        let P : ℕ → Type 0 = λ t. IsPredecessor rs t predecessor in
        let low = is.bound other predecessor (subst P (sym same_task) before) at in
        let Q : ℕ → Type 0 = λ v. slice_index own other ≤ v in
        subst Q (sym (ap (slice_index (set old index latest)) same ∙ written)) low
    | inr different ↦
        let low =
        are.bound place its other predecessor stands before
        (back place its predecessor different stands before passed) at in
        let Q : ℕ → Type 0 = λ v. slice_index own other ≤ v in
        subst Q (sym (get_or-set_other old index place latest 0 different)) low
  ];
  only = λ place its stands. elim (cases_eq place index) [
    | inl same ↦
        let same_task : task ≡ its =
        same_Some task its (sym here ∙ ap (slice_get tasks) (sym same) ∙ stands) in
        let now : slice_index (set old index latest) place ≡ latest =
        ap (slice_index (set old index latest)) same ∙ written in
        elim is.only [
          | inl nothing ↦ inl (now ∙ nothing)
          | inr (other, predecessor, before, at, reached) ↦
              inr (
                other,
                predecessor,
                subst (λ (t : ℕ). IsPredecessor rs t predecessor) same_task before,
                at,
                reached ∙ sym now,
              )
        ]
    | inr different ↦
        let kept : slice_index (set old index latest) place ≡ slice_index old place =
        get_or-set_other old index place latest 0 different in
        elim (are.only place its stands) [
          | inl nothing ↦ inl (kept ∙ nothing)
          | inr (other, predecessor, before, at, reached) ↦
              inr (other, predecessor, before, at, reached ∙ sym kept)
        ]
  ];
}
  where
    within : index < length old
    within = let inside = slice_get_within tasks index task here in omega (arith, inside, are.all)

    written : slice_index (set old index latest) index ≡ latest
    written = get_or-set_same old index latest 0 within

    back : (place its predecessor : ℕ) → place ≢ index → slice_get tasks place ≡ Some its
        → (before : IsPredecessor rs its predecessor)
        → IsChildPassed tasks up (number + 1) before.parent before.number
        → IsChildPassed tasks up number before.parent before.number
    back place its predecessor different stands before (above, is_above, passed) = (
      above,
      is_above,
      elim passed [
        | inl low ↦ inl low
        | inr (same, low) ↦ elim (cases_lt before.number number) [
          | inl less ↦ inr (same, less)
          | inr more ↦
              let same_number : before.number ≡ number = omega (arith, low, more) in
              let same_parent : before.parent ≡ parent =
              same_Some before.parent parent (sym is_above ∙ ap (slice_get tasks) same ∙ is_up) in
              let same_task : its ≡ task =
              same_Some its task
              (sym before.is_child ∙ ap (λ p. slice_get (children rs p) before.number) same_parent
              ∙ ap (slice_get (children rs parent)) same_number ∙ child) in
              absurd (different (apart place index its stands (here ∙ ap Some (sym same_task))))
        ]
      ],
    )

-- ---- all parents

pub child_index : (rs : List Record) (family : FamilyView) (parent number task : ℕ) → IsFamilyOf rs family
    → IsChild rs parent number task → (index : ℕ) × (slice_get family.tasks index ≡ Some task)
child_index rs family parent number task are child =
    let place = child_place rs parent (length rs) number task child in
    contains_get family.tasks task
    (are.noted.each place.0 task (at_within creation rs place.0 (parent, task) place.2)
    (creation_made rs parent task place.0 place.2))

parent_indexed : (rs : List Record) (family : FamilyView) (parent number task : ℕ) → IsFamilyOf rs family
    → IsChild rs parent number task → (index : ℕ) × (slice_get family.tasks index ≡ Some parent)
parent_indexed rs family parent number task are child =
    let place = child_place rs parent (length rs) number task child in
    contains_get family.tasks parent
    (parent_noted rs family.tasks place.0 parent task are.noted are.rooted place.2)

pub latest_all : (rs : List Record) (family : FamilyView) (own latest : List ℕ) (n : ℕ) → IsFamilyOf rs family
    → length family.tasks ≤ n → AreLatestSoFar rs family.tasks own n 0 latest
    → ArePredecessorLengths rs family.tasks own latest
latest_all rs family own latest n is all are = record {
  all = are.all;
  each = λ index task other predecessor here before at.
      let up = parent_indexed rs family before.parent before.number task is before.is_child in
      let within = slice_get_within family.tasks up.0 before.parent up.1 in
      are.bound index task other predecessor here before (up.0, up.1, inl (omega (arith, within, all))) at;
  only = are.only;
}

-- ---- at the index of the parent

pub child_found : (rs : List Record) (family : FamilyView) (up number task : ℕ) → IsFamilyOf rs family
    → up < length family.tasks → IsChildOfIndex rs family.tasks up number task
    → ((index : ℕ) → slice_get family.tasks index ≡ Some task → ⊥) → ⊥
child_found rs family up number task are within child none =
    let parent = get_or family.tasks up 0 in
    let index =
    child_index rs family parent number task are
    (child parent (slice_get-get_or family.tasks up 0 within)) in
    none index.0 index.1

pub maxima_at_more : (rs : List Record) (family : FamilyView) (own : List ℕ) (up n index task : ℕ)
    (items : List Dep) (old new : BTreeMap ℕ Maxima)
    → IsFamilyOf rs family → IsChildOfIndex rs family.tasks up n task
    → slice_get family.tasks index ≡ Some task
    → ((dep : Dep) → Contains items dep ↔ DependsOn rs task dep)
    → AreLengthsEntered old new items (length items) (slice_index own index)
    → AreMaximaAt rs family.tasks own up n old → AreMaximaAt rs family.tasks own up (n + 1) new
maxima_at_more rs family own up n index task items old new is child here depends entered are parent is_up =
    maxima_more rs family.tasks own (children rs parent) n index task items old new is.makers.apart
    (child parent is_up) here depends entered (are parent is_up)

pub latest_at_more : (rs : List Record) (family : FamilyView) (own old : List ℕ)
    (up number index task greatest : ℕ) (items : List Dep) (map : BTreeMap ℕ Maxima)
    → IsFamilyOf rs family → up < length family.tasks → IsChildOfIndex rs family.tasks up number task
    → slice_get family.tasks index ≡ Some task → ((dep : Dep) → Contains items dep ↔ DependsOn rs task dep)
    → AreMaximaAt rs family.tasks own up number map → IsGreatest map items (length items) greatest
    → AreLatestSoFar rs family.tasks own up number old
    → AreLatestSoFar rs family.tasks own up (number + 1) (set old index greatest)
latest_at_more rs family own old up number index task greatest items map is within child here depends maxima
    top are =
    let parent = get_or family.tasks up 0 in
    let is_up = slice_get-get_or family.tasks up 0 within in
    latest_more rs family.tasks own old up number parent index task greatest is.makers.apart is_up
    (child parent is_up) here
    (child_latest rs family.tasks own parent number task greatest items map is.once (child parent is_up)
    depends (maxima parent is_up) top)
    are

pub latest_at_next : (rs : List Record) (tasks own latest : List ℕ) (up n : ℕ) → up < length tasks
    → ((parent : ℕ) → slice_get tasks up ≡ Some parent → length (children rs parent) ≡ n)
    → AreLatestSoFar rs tasks own up n latest → AreLatestSoFar rs tasks own (up + 1) 0 latest
latest_at_next rs tasks own latest up n within long are =
    let parent = get_or tasks up 0 in
    let is_up = slice_get-get_or tasks up 0 within in
    let P : ℕ → Type 0 = λ k. AreLatestSoFar rs tasks own up k latest in
    latest_next rs tasks own latest up parent is_up (subst P (sym (long parent is_up)) are)

-- ---- where no task has a list

pub latest_none : (rs : List Record) (family : FamilyView) (own latest : List ℕ) (lists : List (Option ℕ))
    (listed : Bool)
    → IsFamilyOf rs family → AreListed rs (length rs) family.tasks lists → IsTrue listed ↔ HasList lists
    → listed ≡ false → latest ≡ replicate (length family.tasks) 0
    → ArePredecessorLengths rs family.tasks own latest
latest_none rs family own latest lists listed is are tells not_listed zeros = record {
  all = ap length zeros ∙ length-replicate (length family.tasks) 0;
  each =
      λ index task other predecessor here before there.
      absurd (none index task before.item here before.depends);
  only =
      λ index task here.
      inl
      (ap (λ l. slice_index l index) zeros
      ∙ get_or-replicate (length family.tasks) index 0 0
      (slice_get_within family.tasks index task here));
}
  where
    none : (index task : ℕ) (dep : Dep) → slice_get family.tasks index ≡ Some task → DependsOn rs task dep → ⊥
    none index task dep here (i, list, says, within) =
        let there = are.each index task i list here (at_within dependences rs i (task, list) says) says in
        false≢true (sym not_listed ∙ tells.1 (Some i, get_contains lists (Some i) index there, refl))
