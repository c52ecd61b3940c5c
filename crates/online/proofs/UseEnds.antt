-- Tables of uses, where a task is complete, or creates no more children; and what a task still waits for.
use Rattle.std.proofs.Common.{◌≡◌, ◌≢◌, ◌∙◌, ℕ}
use Rattle.std.proofs.Common.{List, [], ◌∷◌, ◌++◌, Option, Some, None, sym, ap, subst, arith}
use Rattle.std.proofs.Common.{inl, inr}
use Rattle.std.specs.Prelude.{Contains}
use Rattle.std.proofs.lemmas.Bool.{cases_eq}
use Rattle.std.proofs.lemmas.Option.{none-some}
use Rattle.std.proofs.lemmas.List.Elements.{Contains-append_left, Contains-push}
use Rattle.ompt_events.specs.declared.names.DepKind.{DepKind}
use Rattle.online.specs.declared.groups.Group.{Group}
use Rattle.online.specs.declared.uses.Location.{Location}
use Rattle.online.specs.Groups.{IsOver, Grouping, put, AreCounted, IsLessOf, AreClearAt}
use Rattle.online.specs.Uses.{Listing, IsNeeded, IsPlaced, IsTable}
use Rattle.online.proofs.GroupLemmas.{put_cases, put_apart, contains_later}

-- ---- a task is complete

placed_less : (all less : Grouping) (task : ℕ) → IsLessOf task all less → (l : Location) (t : ℕ)
    (kind : Option DepKind) → IsPlaced all l t kind → IsPlaced less l t kind
placed_less all less task is l t kind (inl (has, fits)) =
    inl (subst (λ (f : ℕ → List ℕ). Contains (f l.last) t) (sym is.members) has, fits)
placed_less all less task is l t kind (inr has) =
    inr (subst (λ (f : ℕ → List ℕ). Contains (f l.last) t) (sym is.earlier) has)

pub table_over : (history : List Listing) (ends : List (ℕ × ℕ)) (gone : List ℕ) (all less : Grouping)
    (groups groups' : ℕ → Option Group) (next : ℕ) (numbers numbers' : ℕ → Option (List ℕ))
    (locations : ℕ → ℕ → Option Location) (task limit : ℕ) → IsLessOf task all less
    → AreCounted (ends ++ (task, limit) ∷ []) less groups' next
    → ((q : ℕ) → numbers' q ≡ put numbers task None q)
    → IsTable history ends gone all groups next numbers locations
    → IsTable history (ends ++ (task, limit) ∷ []) gone less groups' next numbers' locations
table_over history ends gone all less groups groups' next numbers numbers' locations task limit lesser are
    changed
    is = record {
      counted = are;
      placed = λ i x used here has alive.
          let (l, at_l, place) = is.placed i x used here has alive in
          (l, at_l, placed_less all less task lesser l x.task used.kind place);
      known_last = is.known_last;
      waits = λ t needed own here needs.
          let (m, has, first) = is.waits t needed own (still t own here).1 needs in
          (m, has, subst (λ (f : ℕ → List ℕ). Contains (f m) needed) (sym lesser.earlier) first);
      pending = λ t own here n.
          let (apart, there) = still t own here in
          let low = is.pending t own there n in
          let e = lesser.others t n apart in
          omega (arith, low, e);
      known_own = λ t n own here has. is.known_own t n own (still t own here).1 has;
      kept = λ i x here. elim (cases_eq task x.task) [
        | inl same ↦
            inr (
              limit,
              subst (λ t. Contains (ends ++ (task, limit) ∷ []) (t, limit)) same
                  (Contains-push ends (task, limit)),
            )
        | inr apart ↦ elim (is.kept i x here) [
          | inl (own, at_own) ↦ inl (own, changed x.task ∙ put_apart numbers task None x.task apart ∙ at_own)
          | inr (end, done) ↦
              inr (end, Contains-append_left ends ((task, limit) ∷ []) (x.task, end) done)
        ]
      ];
    }
  where
    still : (t : ℕ) (own : List ℕ) → numbers' t ≡ Some own → (task ≢ t) × (numbers t ≡ Some own)
    still t own here = elim (put_cases numbers numbers' task None changed t own here) [
      | inl (same, none) ↦ absurd (none-some own none)
      | inr there ↦ there
    ]

-- ---- a task creates no more children

pub table_gone : (history : List Listing) (ends : List (ℕ × ℕ)) (gone : List ℕ) (all : Grouping)
    (groups : ℕ → Option Group) (next : ℕ) (numbers : ℕ → Option (List ℕ))
    (locations locations' : ℕ → ℕ → Option Location) (parent : ℕ)
    → ((p w : ℕ) → parent ≢ p → locations' p w ≡ locations p w) → ((w : ℕ) → locations' parent w ≡ None)
    → IsTable history ends gone all groups next numbers locations
    → IsTable history ends (parent ∷ gone) all groups next numbers locations'
table_gone history ends gone all groups next numbers locations locations' parent same none is = record {
  counted = is.counted;
  placed = λ i x used here has alive.
      let (l, at_l, place) =
      is.placed i x used here has (λ has_gone. alive (contains_later parent x.parent gone has_gone)) in (
        l,
        same x.parent used.location (λ e. alive (0, omega arith, e)) ∙ at_l,
        place,
      );
  known_last = λ p w l here. elim (cases_eq parent p) [
    | inl own ↦ absurd (none-some l (sym (none w) ∙ ap (λ q. locations' q w) own ∙ here))
    | inr apart ↦ is.known_last p w l (sym (same p w apart) ∙ here)
  ];
  waits = is.waits;
  pending = is.pending;
  known_own = is.known_own;
  kept = is.kept;
}

-- ---- what a task waits for

pub needed_over : (history : List Listing) (ends : List (ℕ × ℕ)) (gone : List ℕ) (all : Grouping)
    (groups : ℕ → Option Group) (next : ℕ) (numbers : ℕ → Option (List ℕ))
    (locations : ℕ → ℕ → Option Location) (task limit : ℕ) (own : List ℕ) → numbers task ≡ Some own
    → AreClearAt groups own limit → IsTable history ends gone all groups next numbers locations → (needed : ℕ)
    → IsNeeded history task needed → IsOver ends needed limit
needed_over history ends gone all groups next numbers locations task limit own here clear is needed needs =
    let (n, has, first) = is.waits task needed own here needs in
    clear n has ends all next needed is.counted first

-- a task that is not kept and not complete has no list
pub needed_none : (history : List Listing) (ends : List (ℕ × ℕ)) (gone : List ℕ) (all : Grouping)
    (groups : ℕ → Option Group) (next : ℕ) (numbers : ℕ → Option (List ℕ))
    (locations : ℕ → ℕ → Option Location) (task : ℕ) → numbers task ≡ None
    → ((end : ℕ) → Contains ends (task, end) → ⊥)
    → IsTable history ends gone all groups next numbers locations → (needed : ℕ) → IsNeeded history task
    needed → ⊥
needed_none history ends gone all groups next numbers locations task none unfinished is needed needs =
    elim (is.kept needs.second needs.own needs.at_second) [
      | inl (own, at_own) ↦ none-some own (sym none ∙ ap numbers (sym needs.of_task) ∙ at_own)
      | inr (end, done) ↦ unfinished end (subst (λ t. Contains ends (t, end)) needs.of_task done)
    ]
