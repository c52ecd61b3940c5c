-- Tables of uses, where the list of a task is read use by use.
use Rattle.std.proofs.Common.{◌≡◌, ◌≢◌, ◌∙◌, ℕ, ◌≤◌, ◌⊎◌, false}
use Rattle.std.proofs.Common.{List, [], ◌∷◌, ◌++◌, length, Option, Some, refl, sym, ap, subst, arith}
use Rattle.std.proofs.Common.{inl, inr}
use Rattle.std.specs.Prelude.{Contains, slice_get}
use Rattle.std.proofs.lemmas.Bool.{cases_eq}
use Rattle.std.proofs.lemmas.Option.{same_Some, slice_get_within}
use Rattle.std.proofs.lemmas.List.{length_push}
use Rattle.std.proofs.lemmas.List.Elements.{Contains-append_left, Contains-push, Contains-push_cases}
use Rattle.ompt_events.specs.declared.names.DepKind.{DepKind}
use Rattle.ompt_events.proofs.ListLemmas.{get_pushed, get_last, pushed_cases}
use Rattle.online.specs.declared.groups.Group.{Group}
use Rattle.online.specs.declared.uses.Use.{Use}
use Rattle.online.specs.declared.uses.Location.{Location}
use Rattle.online.specs.Groups.{Grouping, put, times, with_member, HasEntered}
use Rattle.online.specs.Uses.{Listing, can_share, IsNeeded, Fits, IsPlaced, IsTable, IsUnlisted, listing}
use Rattle.online.proofs.GroupLemmas.{put_here, put_apart, put_cases, contains_none, contains_later}
use Rattle.online.proofs.GroupLemmas.{contains_here, times_more, times_same, times_push}

-- what is needed by lists in which the last one is not the task's own is needed before
needed_before : (history : List Listing) (y : Listing) (task needed : ℕ) (is : IsNeeded (history ++ y ∷ [])
    task needed)
    → slice_get history is.second ≡ Some is.own → IsNeeded history task needed
needed_before history y task needed is here = record {
  before = is.before;
  own = is.own;
  first = is.first;
  second = is.second;
  earlier = is.earlier;
  at_first = elim (pushed_cases history y is.before is.first is.at_first) [
    | inl there ↦ there
    | inr (last, e) ↦
        let low = slice_get_within history is.second is.own here in
        let less = is.earlier in
        absurd (omega (arith, low, less, last))
  ];
  at_second = here;
  of_needed = is.of_needed;
  of_task = is.of_task;
  clashes = is.clashes;
}

-- the earlier list stands among the lists before the last
first_before : (history : List Listing) (y : Listing) (task needed : ℕ) (is : IsNeeded (history ++ y ∷ [])
    task needed)
    → slice_get history is.first ≡ Some is.before
first_before history y task needed is = elim (pushed_cases history y is.before is.first is.at_first) [
  | inl there ↦ there
  | inr (last, e) ↦
      let low = slice_get_within (history ++ y ∷ []) is.second is.own is.at_second in
      let long = length_push history y in
      let less = is.earlier in
      absurd (omega (arith, low, less, last, long))
]

-- ---- a list begins

pub table_listed : (history : List Listing) (ends : List (ℕ × ℕ)) (gone : List ℕ) (all : Grouping)
    (groups : ℕ → Option Group) (next : ℕ) (numbers : ℕ → Option (List ℕ))
    (locations : ℕ → ℕ → Option Location) (parent task : ℕ) → IsUnlisted history task
    → IsTable history ends gone all groups next numbers locations
    → IsTable (history ++ (record { parent = parent; task = task; uses = [] }) ∷ []) ends gone all groups next
    (put numbers task (Some [])) locations
table_listed history ends gone all groups next numbers locations parent task unlisted is = record {
  counted = is.counted;
  placed = λ i x used here has alive. elim (pushed_cases history y x i here) [
    | inl there ↦ is.placed i x used there has alive
    | inr (last, same) ↦
        absurd (contains_none used (subst (λ (z : Listing). Contains z.uses used) (sym same) has))
  ];
  known_last = is.known_last;
  waits = λ t needed own here needs.
      of t needed own here needs (pushed_cases history y needs.own needs.second needs.at_second);
  pending = λ t own here n. elim (put_cases numbers now task (Some []) (λ q. refl) t own here) [
    | inl (same, empty) ↦
        let e = ap (times n) (same_Some [] own empty) in
        omega (arith, e)
    | inr (apart, there) ↦ is.pending t own there n
  ];
  known_own = λ t n own here has. elim (put_cases numbers now task (Some []) (λ q. refl) t own here) [
    | inl (same, empty) ↦
        absurd (contains_none n (subst (λ (l : List ℕ). Contains l n) (sym (same_Some [] own empty)) has))
    | inr (apart, there) ↦ is.known_own t n own there has
  ];
  kept = λ i x here. elim (pushed_cases history y x i here) [
    | inl there ↦ elim (is.kept i x there) [
      | inl (own, at_own) ↦
          inl (own, put_apart numbers task (Some []) x.task (λ e. unlisted i x there (sym e)) ∙ at_own)
      | inr done ↦ inr done
    ]
    | inr (last, same) ↦
        inl ([], put_here numbers task (Some []) x.task (ap (λ (z : Listing). z.task) same))
  ];
}
  where
    y : Listing
    y = record { parent = parent; task = task; uses = [] }

    now : ℕ → Option (List ℕ)
    now = put numbers task (Some [])

    of : (t needed : ℕ) (own : List ℕ) → now t ≡ Some own → (needs : IsNeeded (history ++ y ∷ []) t needed)
        → (slice_get history needs.second ≡ Some needs.own) ⊎ ((needs.second ≡ length history) × (y ≡
        needs.own))
        → (n : ℕ) × Contains own n × Contains (all.earlier n) needed
    of t needed own here needs (inl there) =
        let apart : task ≢ t = λ e. unlisted needs.second needs.own there (needs.of_task ∙ sym e) in
        is.waits t needed own (sym (put_apart numbers task (Some []) t apart) ∙ here)
        (needed_before history y t needed needs there)
    of t needed own here needs (inr (last, same)) =
        absurd
        (contains_none needs.clashes.second
        (subst (λ (z : Listing). Contains z.uses needs.clashes.second) (sym same) needs.clashes.of_second))

-- ---- one more use of it

placed_entered : (all : Grouping) (n task : ℕ) (l : Location) (t : ℕ) (kind : Option DepKind)
    → IsPlaced all l t kind → IsPlaced (with_member all n task) l t kind
placed_entered all n task l t kind (inr has) = inr has
placed_entered all n task l t kind (inl (has, fits)) = elim (cases_eq n l.last) [
  | inl same ↦
      inl (
        subst (λ m. Contains m t) (sym (put_here all.members n (task ∷ all.members n) l.last same))
            (contains_later task t (all.members n) (subst (λ m. Contains (all.members m) t) (sym same) has)),
        fits,
      )
  | inr apart ↦
      inl (
        subst (λ m. Contains m t) (sym (put_apart all.members n (task ∷ all.members n) l.last apart)) has,
        fits,
      )
]

pub table_entered : (history : List Listing) (ends : List (ℕ × ℕ)) (gone : List ℕ) (all : Grouping)
    (groups groups' : ℕ → Option Group) (next : ℕ) (numbers : ℕ → Option (List ℕ))
    (locations : ℕ → ℕ → Option Location) (parent task : ℕ) (uses : List Use) (used : Use) (own : List ℕ)
    (l : Location) → IsUnlisted history task → (Contains gone parent → ⊥)
    → locations parent used.location ≡ Some l → Fits l.kind used.kind
    → ((u : ℕ) (kind : Option DepKind) → Contains (all.members l.last) u → Fits l.kind kind
    → can_share kind used.kind ≡ false → ⊥)
    → HasEntered groups groups' l.last
    → IsTable (history ++ listing parent task uses ∷ []) ends gone all groups next
    (put numbers task (Some own)) locations
    → IsTable (history ++ listing parent task (uses ++ used ∷ []) ∷ []) ends gone
    (with_member all l.last task) groups' next (put numbers task (Some (own ++ l.last ∷ []))) locations
table_entered history ends gone all groups groups' next numbers locations parent task uses used own l unlisted
    alive at_l fits apart_all enters is = record {
      counted = enters ends all next task is.counted;
      placed = λ i x other here has lives. elim (pushed_cases history y' x i here) [
        | inl there ↦
            let (k, at_k, place) = is.placed i x other (get_pushed history y x i there) has lives in
            (k, at_k, placed_entered all n task k x.task other.kind place)
        | inr (last, same) ↦
            subst
            (λ (z : Listing). (k : Location) × (locations z.parent other.location ≡ Some k)
            × IsPlaced (with_member all n task) k z.task other.kind) same
            (own_placed other
            (Contains-push_cases uses used other (subst (λ (z : Listing). Contains z.uses other) (sym same)
            has)))
      ];
      known_last = is.known_last;
      waits = λ t needed list here needs.
          of t needed list here needs (pushed_cases history y' needs.own needs.second needs.at_second);
      pending = λ t list here m. elim (put_cases numbers now task (Some grown) (λ q. refl) t list here) [
        | inl (same, more) ↦ own_pending t list m same (same_Some grown list more) (cases_eq n m)
        | inr (apart, there) ↦
            let low = is.pending t list (put_apart numbers task (Some own) t apart ∙ there) m in
            elim (cases_eq n m) [
              | inl same ↦
                  let e = ap (times t) (put_here all.unfinished n (task ∷ all.unfinished n) m same) in
                  let f = times_same t task (all.unfinished n) (λ s. apart (sym s)) in
                  let g = ap (λ k. times t (all.unfinished k)) same in
                  omega (arith, e, f, g, low)
              | inr other ↦
                  let e = ap (times t) (put_apart all.unfinished n (task ∷ all.unfinished n) m other) in
                  omega (arith, e, low)
            ]
      ];
      known_own = λ t m list here has. elim (put_cases numbers now task (Some grown) (λ q. refl) t list
          here) [
            | inl (same, more) ↦
                elim
                (Contains-push_cases own n m
                (subst (λ (k : List ℕ). Contains k m) (sym (same_Some grown list more)) has)) [
                  | inl old ↦ is.known_own task m own (put_here numbers task (Some own) task refl) old
                  | inr new ↦ let low = is.known_last parent used.location l at_l in omega (arith, low, new)
                ]
            | inr (apart, there) ↦
                is.known_own t m list (put_apart numbers task (Some own) t apart ∙ there) has
          ];
      kept = λ i x here. elim (pushed_cases history y' x i here) [
        | inl there ↦ elim (is.kept i x (get_pushed history y x i there)) [
          | inl (list, at_list) ↦
              let apart : task ≢ x.task = λ e. unlisted i x there (sym e) in
              inl (
                list,
                put_apart numbers task (Some grown) x.task apart
                    ∙ sym (put_apart numbers task (Some own) x.task apart) ∙ at_list,
              )
          | inr done ↦ inr done
        ]
        | inr (last, same) ↦
            inl (grown, put_here numbers task (Some grown) x.task (ap (λ (z : Listing). z.task) same))
      ];
    }
  where
    n : ℕ
    n = l.last

    y : Listing
    y = listing parent task uses

    y' : Listing
    y' = listing parent task (uses ++ used ∷ [])

    grown : List ℕ
    grown = own ++ l.last ∷ []

    now : ℕ → Option (List ℕ)
    now = put numbers task (Some grown)

    own_placed : (other : Use) → Contains uses other ⊎ (used ≡ other)
        → (k : Location) × (locations parent other.location ≡ Some k)
        × IsPlaced (with_member all l.last task) k task other.kind
    own_placed other (inl old) =
        let (k, at_k, place) =
        is.placed (length history) y other (get_last history y (length history) refl) old alive in
        (k, at_k, placed_entered all l.last task k task other.kind place)
    own_placed other (inr new) = (
      l,
      ap (λ (u : Use). locations parent u.location) (sym new) ∙ at_l,
      inl (
        subst (λ m. Contains m task)
            (sym (put_here all.members l.last (task ∷ all.members l.last) l.last refl))
            (contains_here task task (all.members l.last) refl),
        subst (λ (u : Use). Fits l.kind u.kind) new fits,
      ),
    )

    own_pending : (t : ℕ) (list : List ℕ) (m : ℕ) → task ≡ t → grown ≡ list → (l.last ≡ m) ⊎ (l.last ≢ m)
        → times m list ≤ times t (put all.unfinished l.last (task ∷ all.unfinished l.last) m)
    own_pending t list m same more where_it_is =
        let low = is.pending task own (put_here numbers task (Some own) task refl) m in
        let push = ap (times m) (sym more) ∙ times_push m l.last own in
        let who =
        ap (λ k. times k (put all.unfinished l.last (task ∷ all.unfinished l.last) m)) same in
        elim where_it_is [
          | inl here ↦
              let e = ap (times task) (put_here all.unfinished l.last (task ∷ all.unfinished l.last) m
              here) in
              let f = times_more task task (all.unfinished l.last) refl in
              let g = ap (λ k. times task (all.unfinished k)) here in
              let h = times_more m l.last own (sym here) in
              omega (arith, e, f, g, h, low, push, who)
          | inr other ↦
              let e =
              ap (times task) (put_apart all.unfinished l.last (task ∷ all.unfinished l.last) m other) in
              let h = times_same m l.last own (λ s. other (sym s)) in
              omega (arith, e, h, low, push, who)
        ]

    own_waits : (t needed : ℕ) (needs : IsNeeded (history ++ y' ∷ []) t needed) → y' ≡ needs.own
        → Contains uses needs.clashes.second ⊎ (used ≡ needs.clashes.second)
        → (m : ℕ) × Contains grown m × Contains (all.earlier m) needed
    own_waits t needed needs same (inl old) =
        let before : IsNeeded (history ++ y ∷ []) task needed = record {
          before = needs.before;
          own = y;
          first = needs.first;
          second = length history;
          earlier = slice_get_within history needs.first needs.before (first_before history y' t needed
              needs);
          at_first = get_pushed history y needs.before needs.first (first_before history y' t needed needs);
          at_second = get_last history y (length history) refl;
          of_needed = needs.of_needed;
          of_task = refl;
          clashes = record {
            siblings = needs.clashes.siblings ∙ ap (λ (z : Listing). z.parent) (sym same);
            first = needs.clashes.first;
            of_first = needs.clashes.of_first;
            second = needs.clashes.second;
            of_second = old;
            same_location = needs.clashes.same_location;
            apart = needs.clashes.apart;
          };
        } in
        let (m, has, first) = is.waits task needed own (put_here numbers task (Some own) task refl) before in
        (m, Contains-append_left own (l.last ∷ []) m has, first)
    own_waits t needed needs same (inr new) =
        let there = first_before history y' t needed needs in
        let c = needs.clashes in
        let parents : needs.before.parent ≡ parent = c.siblings ∙ ap (λ (z : Listing). z.parent) (sym same) in
        let spot : c.first.location ≡ used.location =
        c.same_location ∙ ap (λ (u : Use). u.location) (sym new) in
        let (k, at_k, place) =
        is.placed needs.first needs.before c.first (get_pushed history y needs.before needs.first there)
        c.of_first (λ g. alive (subst (Contains gone) parents g)) in
        let at_own : locations parent used.location ≡ Some k =
        ap (λ p. locations p used.location) (sym parents) ∙ ap (locations needs.before.parent) (sym spot)
        ∙ at_k in
        let is_l : k ≡ l = same_Some k l (sym at_own ∙ at_l) in
        let here : IsPlaced all l needs.before.task c.first.kind =
        subst (λ (q : Location). IsPlaced all q needs.before.task c.first.kind) is_l place in
        let apart : can_share c.first.kind used.kind ≡ false =
        ap (λ (u : Use). can_share c.first.kind u.kind) new ∙ c.apart in
        elim here [
          | inl (member, fit) ↦ absurd (apart_all needs.before.task c.first.kind member fit apart)
          | inr first ↦ (
            l.last,
            Contains-push own l.last,
            subst (λ u. Contains (all.earlier l.last) u) needs.of_needed first,
          )
        ]

    of : (t needed : ℕ) (list : List ℕ) → now t ≡ Some list → (needs : IsNeeded (history ++ y' ∷ []) t needed)
        → (slice_get history needs.second ≡ Some needs.own) ⊎ ((needs.second ≡ length history) × (y' ≡
        needs.own))
        → (m : ℕ) × Contains list m × Contains (all.earlier m) needed
    of t needed list here needs (inl there) =
        let apart : task ≢ t = λ e. unlisted needs.second needs.own there (needs.of_task ∙ sym e) in
        let before = needed_before history y' t needed needs there in
        is.waits t needed list
        (put_apart numbers task (Some own) t apart ∙ sym (put_apart numbers task (Some grown) t apart) ∙ here)
        (record {
          before = before.before;
          own = before.own;
          first = before.first;
          second = before.second;
          earlier = before.earlier;
          at_first = get_pushed history y before.before before.first before.at_first;
          at_second = get_pushed history y before.own before.second before.at_second;
          of_needed = before.of_needed;
          of_task = before.of_task;
          clashes = before.clashes;
        })
    of t needed list here needs (inr (last, same)) =
        let is_t : task ≡ t = ap (λ (z : Listing). z.task) same ∙ needs.of_task in
        let is_list : grown ≡ list =
        same_Some grown list (sym (put_here numbers task (Some grown) t is_t) ∙ here) in
        subst (λ (k : List ℕ). (m : ℕ) × Contains k m × Contains (all.earlier m) needed) is_list
        (own_waits t needed needs same
        (Contains-push_cases uses used needs.clashes.second
        (subst (λ (z : Listing). Contains z.uses needs.clashes.second) (sym same) needs.clashes.of_second)))
