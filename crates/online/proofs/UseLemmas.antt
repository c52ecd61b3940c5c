-- Tables of uses: where nothing is used, where a group begins, and where something else stands for what
-- they are.
use Rattle.std.proofs.Common.{◌≡◌, ◌∙◌, ℕ, ◌<◌, ◌≤◌, ◌+◌, ◌⊎◌, Bool, true, false}
use Rattle.std.proofs.Common.{List, [], ◌++◌, Option, Some, None, refl, sym, ap, subst, arith}
use Rattle.std.proofs.Common.{inl, inr}
use Rattle.std.specs.Prelude.{Contains, not}
use Rattle.std.proofs.lemmas.Bool.{cases_eq}
use Rattle.std.proofs.lemmas.Option.{none-some, same_Some}
use Rattle.std.proofs.lemmas.List.Elements.{Contains-append_left, Contains-append_right}
use Rattle.ompt_events.specs.declared.names.DepKind.{DepKind}
use Rattle.ompt_events.specs.declared.names.DepKind.TheVariants.{In, Out, Inout, Mutexinoutset, Inoutset}
use Rattle.ompt_events.specs.Names.{conflict}
use Rattle.online.specs.declared.groups.Group.{Group}
use Rattle.online.specs.declared.uses.Use.{Use}
use Rattle.online.specs.declared.uses.Location.{Location}
use Rattle.online.specs.Groups.{Grouping, put, times, behind, with_group, KeepsCounts}
use Rattle.online.specs.Uses.{Listing, can_share, Fits, IsPlaced, IsTable}
use Rattle.online.proofs.GroupLemmas.{put_here, put_apart, times_contains}
use Rattle.online.proofs.GroupSteps.{begun_counted}

-- ---- kinds of use

-- kinds that share with one kind share with each other
share_alike : (a b c : DepKind) → conflict a b ≡ false → conflict a c ≡ false → conflict b c ≡ false
share_alike In In In p q = refl
share_alike Inoutset Inoutset Inoutset p q = refl
share_alike Mutexinoutset Mutexinoutset Mutexinoutset p q = refl
share_alike In In _ p q = q
share_alike Inoutset Inoutset _ p q = q
share_alike Mutexinoutset Mutexinoutset _ p q = q
share_alike In _ _ p q = cc
share_alike Inoutset _ _ p q = cc
share_alike Mutexinoutset _ _ p q = cc
share_alike Out _ _ p q = cc
share_alike Inout _ _ p q = cc

not_false : (b : Bool) → not b ≡ true → b ≡ false
not_false false is = refl
not_false true is = cc

pub shares_alike : (a b c : Option DepKind) → can_share a b ≡ true → can_share a c ≡ true
    → can_share b c ≡ true
shares_alike (Some a) (Some b) (Some c) p q =
    ap not (share_alike a b c (not_false (conflict a b) p) (not_false (conflict a c) q))
shares_alike None _ _ p q = cc
shares_alike (Some a) None _ p q = cc
shares_alike (Some a) (Some b) None p q = cc

-- a use that clashes is not in a group that may be joined
pub no_clash : (group own kind : Option DepKind) → can_share group own ≡ true → Fits group kind
    → can_share kind own ≡ false → ⊥
no_clash group own kind shares (inl same) apart = cc (ap (λ k. can_share k own) same)
no_clash group own kind shares (inr fits) apart = cc (shares_alike group kind own fits shares)

-- ---- tables

pub table_none : (all : Grouping) (groups : ℕ → Option Group) (next : ℕ) (numbers : ℕ → Option (List ℕ))
    (locations : ℕ → ℕ → Option Location) → ((n : ℕ) → groups n ≡ None) → ((n : ℕ) → numbers n ≡ None)
    → ((p w : ℕ) → locations p w ≡ None) → IsTable [] [] [] all groups next numbers locations
table_none all groups next numbers locations no_group no_number no_location = record {
  counted = record {
    counted = λ n g here. absurd (none-some g (sym (no_group n) ∙ here));
    finished = λ n g task here has. absurd (none-some g (sym (no_group n) ∙ here));
    chained = λ n g task here has. absurd (none-some g (sym (no_group n) ∙ here));
    known = λ n g here. absurd (none-some g (sym (no_group n) ∙ here));
    known_before = λ n g b here is. absurd (none-some g (sym (no_group n) ∙ here));
  };
  placed = λ i x used here has alive. absurd (none-some x here);
  known_last = λ p w l here. absurd (none-some l (sym (no_location p w) ∙ here));
  waits = λ task needed own here is. absurd (none-some own (sym (no_number task) ∙ here));
  pending = λ task own here n. absurd (none-some own (sym (no_number task) ∙ here));
  known_own = λ task n own here has. absurd (none-some own (sym (no_number task) ∙ here));
  kept = λ i x here. absurd (none-some x here);
}

-- the same table, where lists of numbers and locations are written otherwise
pub table_same : (history : List Listing) (ends : List (ℕ × ℕ)) (gone : List ℕ) (all : Grouping)
    (groups : ℕ → Option Group) (next : ℕ) (numbers numbers' : ℕ → Option (List ℕ))
    (locations locations' : ℕ → ℕ → Option Location) → ((n : ℕ) → numbers' n ≡ numbers n)
    → ((p w : ℕ) → locations' p w ≡ locations p w)
    → IsTable history ends gone all groups next numbers locations
    → IsTable history ends gone all groups next numbers' locations'
table_same history ends gone all groups next numbers numbers' locations locations' same_n same_l is = record {
  counted = is.counted;
  placed = λ i x used here has alive.
      let (l, at_l, place) = is.placed i x used here has alive in
      (l, same_l x.parent used.location ∙ at_l, place);
  known_last = λ p w l here. is.known_last p w l (sym (same_l p w) ∙ here);
  waits = λ task needed own here. is.waits task needed own (sym (same_n task) ∙ here);
  pending = λ task own here. is.pending task own (sym (same_n task) ∙ here);
  known_own = λ task n own here. is.known_own task n own (sym (same_n task) ∙ here);
  kept = λ i x here. elim (is.kept i x here) [
    | inl (own, at_own) ↦ inl (own, same_n x.task ∙ at_own)
    | inr done ↦ inr done
  ];
}

-- the same of groups with the same counts
pub table_counts : (history : List Listing) (ends : List (ℕ × ℕ)) (gone : List ℕ) (all : Grouping)
    (groups groups' : ℕ → Option Group) (next : ℕ) (numbers : ℕ → Option (List ℕ))
    (locations : ℕ → ℕ → Option Location) → KeepsCounts groups groups'
    → IsTable history ends gone all groups next numbers locations
    → IsTable history ends gone all groups' next numbers locations
table_counts history ends gone all groups groups' next numbers locations keeps is = record {
  counted = keeps ends all next is.counted;
  placed = is.placed;
  known_last = is.known_last;
  waits = is.waits;
  pending = is.pending;
  known_own = is.known_own;
  kept = is.kept;
}

-- ---- a group begins at a location

placed_begun : (all : Grouping) (n : ℕ) (before : Option ℕ) (l : Location) (task : ℕ)
    (kind : Option DepKind) → l.last < n → IsPlaced all l task kind
    → IsPlaced (with_group all n before) l task kind
placed_begun all n before l task kind low (inl (has, fits)) =
    inl (
      subst (λ m. Contains m task)
          (sym (put_apart all.members n [] l.last (λ e. absurd (omega (arith, e, low)))))
          has,
      fits,
    )
placed_begun all n before l task kind low (inr has) =
    inr
    (subst (λ m. Contains m task)
    (sym (put_apart all.earlier n (behind all before) l.last (λ e. absurd (omega (arith, e, low))))) has)

up_placed : (all : Grouping) (l : Location) (task : ℕ) (kind : Option DepKind) → IsPlaced all l task kind
    → Contains (all.members l.last ++ all.earlier l.last) task
up_placed all l task kind (inl (has, fits)) =
    Contains-append_left (all.members l.last) (all.earlier l.last) task has
up_placed all l task kind (inr has) =
    Contains-append_right (all.members l.last) (all.earlier l.last) task has

pub table_begun : (history : List Listing) (ends : List (ℕ × ℕ)) (gone : List ℕ) (all : Grouping)
    (groups groups' : ℕ → Option Group) (n next : ℕ) (numbers : ℕ → Option (List ℕ))
    (locations locations' : ℕ → ℕ → Option Location) (parent location : ℕ) (before : Option ℕ)
    (made : Location) → n + 1 ≡ next → made.last ≡ n
    → ((q : ℕ) → groups' q
    ≡ put groups n (Some (record { left = 0; greatest = 0; floor = 0; before = before; needed = true })) q)
    → ((p w : ℕ) → ((p ≡ parent) × (w ≡ location) × (locations' p w ≡ Some made))
    ⊎ (locations' p w ≡ locations p w))
    → ((b : ℕ) → before ≡ Some b → (l : Location) × (locations parent location ≡ Some l) × (l.last ≡ b))
    → ((l : Location) → locations parent location ≡ Some l → before ≡ Some l.last)
    → IsTable history ends gone all groups n numbers locations
    → IsTable history ends gone (with_group all n before) groups' next numbers locations'
table_begun history ends gone all groups groups' n next numbers locations locations' parent location before
    made
    more is_last is_groups changes from_last to_last is = record {
      counted =
          begun_counted ends all groups groups' n next before more
          (λ b is_before.
          let (l, here, same) = from_last b is_before in
          let low = is.known_last parent location l here in
          omega (arith, low, same))
          is_groups is.counted;
      placed = λ i x used here has alive. of x used (is.placed i x used here has alive)
          (changes x.parent used.location);
      known_last = λ p w l here. elim (changes p w) [
        | inl (own, there, new) ↦
            let e = ap (λ (k : Location). k.last) (same_Some made l (sym new ∙ here)) in
            omega (arith, e, is_last, more)
        | inr same ↦ let low = is.known_last p w l (sym same ∙ here) in omega (arith, low, more)
      ];
      waits = λ task needed own here needs.
          let (m, has, first) = is.waits task needed own here needs in
          let low = is.known_own task m own here has in (
            m,
            has,
            subst (λ l. Contains l needed)
                (sym (put_apart all.earlier n (behind all before) m (λ e. absurd (omega (arith, e, low)))))
                first,
          );
      pending = λ task own here m. elim (cases_eq n m) [
        | inl same ↦ absent task own m here (λ has. let low = is.known_own task m own here has in omega arith)
        | inr apart ↦
            let e = ap (times task) (put_apart all.unfinished n [] m apart) in
            let low = is.pending task own here m in
            omega (arith, e, low)
      ];
      known_own = λ task m own here has. let low = is.known_own task m own here has in omega (
        arith,
        low,
        more,
      );
      kept = is.kept;
    }
  where
    absent : (task : ℕ) (own : List ℕ) (m : ℕ) → numbers task ≡ Some own → (Contains own m → ⊥)
        → times m own ≤ times task (put all.unfinished n [] m)
    absent task own m here none = elim (cases_eq (times m own) 0) [
      | inl zero_times ↦ omega (arith, zero_times)
      | inr some ↦ absurd (none (times_contains m own (omega (arith, some))))
    ]

    of : (x : Listing) (used : Use)
        → ((l : Location) × (locations x.parent used.location ≡ Some l) × IsPlaced all l x.task used.kind)
        → ((x.parent ≡ parent) × (used.location ≡ location)
        × (locations' x.parent used.location ≡ Some made))
        ⊎ (locations' x.parent used.location ≡ locations x.parent used.location)
        → (l : Location) × (locations' x.parent used.location ≡ Some l)
        × IsPlaced (with_group all n before) l x.task used.kind
    of x used (l, at_l, place) (inr same) = (
      l,
      same ∙ at_l,
      placed_begun all n before l x.task used.kind (is.known_last x.parent used.location l at_l) place,
    )
    of x used (l, at_l, place) (inl (own, there, new)) =
        let at_own : locations parent location ≡ Some l =
        ap (λ p. locations p location) (sym own) ∙ ap (locations x.parent) (sym there) ∙ at_l in (
          made,
          new,
          inr
              (subst (λ m. Contains m x.task)
              (sym (put_here all.earlier n (behind all before) made.last (sym is_last)))
              (subst (λ b. Contains (behind all b) x.task) (sym (to_last l at_own))
              (up_placed all l x.task used.kind place))),
        )
