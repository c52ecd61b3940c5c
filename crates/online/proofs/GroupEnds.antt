-- How groups of tasks stay counted where a task is complete, or a group before another one is.
use Rattle.std.proofs.Common.{false, ◌≡◌, ◌≢◌, ◌∙◌, ℕ, ◌≤◌, ◌-◌, ◌⊎◌}
use Rattle.std.proofs.Common.{List, [], ◌∷◌, length, Option, Some, None, refl, sym, ap, subst, arith}
use Rattle.std.proofs.Common.{inl, inr, max}
use Rattle.std.specs.Prelude.{Contains}
use Rattle.std.proofs.Math.Nat.{le-max_left, le-max_right}
use Rattle.std.proofs.lemmas.Bool.{cases_eq}
use Rattle.std.proofs.lemmas.Option.{none-some, same_Some}
use Rattle.online.specs.declared.groups.Group.{Group}
use Rattle.online.specs.Groups.{IsOver, Grouping, put, IsUpTo, AreCounted, without, with_left}
use Rattle.online.proofs.GroupLemmas.{put_here, put_apart, put_cases, contains_none, length-without}
use Rattle.online.proofs.GroupLemmas.{contains-without, over_more}

-- ---- a use of a task that is complete

pub left_counted : (ends : List (ℕ × ℕ)) (all : Grouping) (old new : ℕ → Option Group)
    (n next task limit : ℕ) (g : Group) → old n ≡ Some g → Contains (all.unfinished n) task
    → IsOver ends task limit
    → ((q : ℕ) → new q
    ≡ put old n (Some (record g { left = g.left - 1; greatest = max g.greatest limit })) q)
    → AreCounted ends all old next → AreCounted ends (with_left all n task) new next
left_counted ends all old new n next task limit g stands has_task over is are = record {
  counted = λ q h here. elim (put_cases old new n (Some lowered) is q h here) [
    | inl (same, made) ↦
        let left = sym (ap (λ (k : Group). k.left) (same_Some lowered h made)) in
        let count = are.counted n g stands in
        let short = length-without task (all.unfinished n) has_task in
        let long = ap length (put_here all.unfinished n (without task (all.unfinished n)) q same) in
        omega (arith, left, count, long, short)
    | inr (apart, there) ↦
        are.counted q h there
        ∙ sym (ap length (put_apart all.unfinished n (without task (all.unfinished n)) q apart))
  ];
  finished = λ q h u here has. elim (put_cases old new n (Some lowered) is q h here) [
    | inl (same, made) ↦
        let most : max g.greatest limit ≡ h.greatest =
        ap (λ (k : Group). k.greatest) (same_Some lowered h made) in
        let own = le-max_right g.greatest limit in
        let old_one = le-max_left g.greatest limit in
        elim (cases_eq task u) [
          | inl is_it ↦
              inr
              (over_more ends u limit h.greatest (omega (arith, most, own))
              (subst (λ t. IsOver ends t limit) is_it over))
          | inr other ↦
              elim (are.finished n g u stands (subst (λ m. Contains (all.members m) u) (sym same) has)) [
                | inl left ↦
                    inl
                    (subst (λ l. Contains l u)
                    (sym (put_here all.unfinished n (without task (all.unfinished n)) q same))
                    (contains-without task u (all.unfinished n) other left))
                | inr done ↦
                    inr (over_more ends u g.greatest h.greatest (omega (arith, most, old_one)) done)
              ]
        ]
    | inr (apart, there) ↦ elim (are.finished q h u there has) [
      | inl left ↦
          inl
          (subst (λ l. Contains l u)
          (sym (put_apart all.unfinished n (without task (all.unfinished n)) q apart)) left)
      | inr done ↦ inr done
    ]
  ];
  chained = λ q h u here has. elim (put_cases old new n (Some lowered) is q h here) [
    | inl (same, made) ↦
        elim (are.chained n g u stands (subst (λ m. Contains (all.earlier m) u) (sym same) has)) [
          | inl done ↦
              inl (subst (λ m. IsOver ends u m) (ap (λ (k : Group). k.floor) (same_Some lowered h made)) done)
          | inr (b, is_before, up) ↦
              inr (b, sym (ap (λ (k : Group). k.before) (same_Some lowered h made)) ∙ is_before, up)
        ]
    | inr (apart, there) ↦ are.chained q h u there has
  ];
  known = λ q h here. elim (put_cases old new n (Some lowered) is q h here) [
    | inl (same, made) ↦ let less = are.known n g stands in omega (arith, less, same)
    | inr (apart, there) ↦ are.known q h there
  ];
  known_before = λ q h b here is_before. elim (put_cases old new n (Some lowered) is q h here) [
    | inl (same, made) ↦
        are.known_before n g b stands (ap (λ (k : Group). k.before) (same_Some lowered h made) ∙ is_before)
    | inr (apart, there) ↦ are.known_before q h b there is_before
  ];
}
  where
    lowered : Group
    lowered = record g { left = g.left - 1; greatest = max g.greatest limit }

-- ---- the group before another one has no task that is not complete

-- what the group becomes
abbrev pub past : Group → Group → Group
past own earlier = record own {
  floor = max own.floor (max earlier.floor earlier.greatest);
  before = earlier.before;
}

none_in : (xs : List ℕ) (task : ℕ) → 0 ≡ length xs → Contains xs task → ⊥
none_in [] task empty has = contains_none task has
none_in (x ∷ xs) task empty has = omega (arith, empty)

pub past_counted : (ends : List (ℕ × ℕ)) (all : Grouping) (old new : ℕ → Option Group) (n b next : ℕ)
    (own earlier : Group) → old n ≡ Some own → own.before ≡ Some b → old b ≡ Some earlier → earlier.left ≡ 0
    → ((q : ℕ) → new q ≡ put (put old b None) n (Some (past own earlier)) q)
    → AreCounted ends all old next → AreCounted ends all new next
past_counted ends all old new n b next own earlier stands is_before there_before none_left is are = record {
  counted = λ q h here. elim (found q h here) [
    | inl (same, made) ↦
        let left = ap (λ (k : Group). k.left) made in
        let count = are.counted n own stands in
        let list = ap (λ m. length (all.unfinished m)) same in
        omega (arith, left, count, list)
    | inr there ↦ are.counted q h there
  ];
  finished = λ q h u here has. elim (found q h here) [
    | inl (same, made) ↦
        subst (λ m. Contains (all.unfinished m) u ⊎ IsOver ends u h.greatest) same
        (subst (λ (k : Group). Contains (all.unfinished n) u ⊎ IsOver ends u k.greatest) made
        (are.finished n own u stands (subst (λ m. Contains (all.members m) u) (sym same) has)))
    | inr there ↦ are.finished q h u there has
  ];
  chained = λ q h u here has. elim (found q h here) [
    | inl (same, made) ↦
        subst
        (λ (k : Group). IsOver ends u k.floor ⊎ ((c : ℕ) × (k.before ≡ Some c) × IsUpTo all c u)) made
        (behind_past u (are.chained n own u stands (subst (λ m. Contains (all.earlier m) u) (sym same) has)))
    | inr there ↦ are.chained q h u there has
  ];
  known = λ q h here. elim (found q h here) [
    | inl (same, made) ↦ let less = are.known n own stands in omega (arith, less, same)
    | inr there ↦ are.known q h there
  ];
  known_before = λ q h c here is_c. elim (found q h here) [
    | inl (same, made) ↦
        are.known_before b earlier c there_before (ap (λ (k : Group). k.before) made ∙ is_c)
    | inr there ↦ are.known_before q h c there is_c
  ];
}
  where
    moved : Group
    moved = past own earlier

    found : (q : ℕ) (h : Group) → new q ≡ Some h → ((n ≡ q) × (moved ≡ h)) ⊎ (old q ≡ Some h)
    found q h here = elim (put_cases (put old b None) new n (Some moved) is q h here) [
      | inl (same, made) ↦ inl (same, same_Some moved h made)
      | inr (apart, there) ↦ elim (put_cases old (put old b None) b None (λ p. refl) q h there) [
        | inl (same, gone) ↦ absurd (none-some h gone)
        | inr (other, stood) ↦ inr stood
      ]
    ]

    floor_low : own.floor ≤ moved.floor
    floor_low = le-max_left own.floor (max earlier.floor earlier.greatest)

    inner : max earlier.floor earlier.greatest ≤ moved.floor
    inner = le-max_right own.floor (max earlier.floor earlier.greatest)

    before_low : earlier.floor ≤ moved.floor
    before_low = let low = le-max_left earlier.floor earlier.greatest in omega (arith, low, inner)

    greatest_low : earlier.greatest ≤ moved.floor
    greatest_low = let low = le-max_right earlier.floor earlier.greatest in omega (arith, low, inner)

    behind_up : (u : ℕ) → IsUpTo all b u
        → IsOver ends u moved.floor ⊎ ((c : ℕ) × (moved.before ≡ Some c) × IsUpTo all c u)
    behind_up u (inl member) = elim (are.finished b earlier u there_before member) [
      | inl left ↦
          absurd (none_in (all.unfinished b) u (sym none_left ∙ are.counted b earlier there_before) left)
      | inr done ↦ inl (over_more ends u earlier.greatest moved.floor greatest_low done)
    ]
    behind_up u (inr first) = elim (are.chained b earlier u there_before first) [
      | inl done ↦ inl (over_more ends u earlier.floor moved.floor before_low done)
      | inr up ↦ inr up
    ]

    behind_past : (u : ℕ) → IsOver ends u own.floor ⊎ ((c : ℕ) × (own.before ≡ Some c) × IsUpTo all c u)
        → IsOver ends u moved.floor ⊎ ((c : ℕ) × (moved.before ≡ Some c) × IsUpTo all c u)
    behind_past u (inl done) = inl (over_more ends u own.floor moved.floor floor_low done)
    behind_past u (inr (c, is_c, up)) =
        behind_up u (subst (λ m. IsUpTo all m u) (same_Some c b (sym is_c ∙ is_before)) up)

-- ---- nothing before a group is left

pub clear_over : (ends : List (ℕ × ℕ)) (all : Grouping) (groups : ℕ → Option Group) (n next limit u : ℕ)
    (g : Group) → AreCounted ends all groups next → groups n ≡ Some g → g.before ≡ None → g.floor ≤ limit
    → Contains (all.earlier n) u → IsOver ends u limit
clear_over ends all groups n next limit u g are here none low has = elim (are.chained n g u here has) [
  | inl over ↦ over_more ends u g.floor limit low over
  | inr (b, is_before, up) ↦ absurd (none-some b (sym none ∙ is_before))
]

-- ---- a group that is not kept

pub left_absent : (ends : List (ℕ × ℕ)) (all : Grouping) (groups : ℕ → Option Group) (n next task : ℕ)
    → groups n ≡ None → AreCounted ends all groups next → AreCounted ends (with_left all n task) groups next
left_absent ends all groups n next task gone are = record {
  counted = λ q h here.
      are.counted q h here
      ∙ sym (ap length (put_apart all.unfinished n (without task (all.unfinished n)) q (other q h here)));
  finished = λ q h u here has. elim (are.finished q h u here has) [
    | inl left ↦
        inl
        (subst (λ l. Contains l u)
        (sym (put_apart all.unfinished n (without task (all.unfinished n)) q (other q h here))) left)
    | inr done ↦ inr done
  ];
  chained = are.chained;
  known = are.known;
  known_before = are.known_before;
}
  where
    other : (q : ℕ) (h : Group) → groups q ≡ Some h → n ≢ q
    other q h here same = none-some h (sym gone ∙ ap groups same ∙ here)

-- ---- a group is taken out, or none will ask for it

pub removed_counted : (ends : List (ℕ × ℕ)) (all : Grouping) (old new : ℕ → Option Group) (n next : ℕ)
    → ((q : ℕ) → new q ≡ put old n None q) → AreCounted ends all old next → AreCounted ends all new next
removed_counted ends all old new n next is are = record {
  counted = λ q h here. are.counted q h (there q h here);
  finished = λ q h u here. are.finished q h u (there q h here);
  chained = λ q h u here. are.chained q h u (there q h here);
  known = λ q h here. are.known q h (there q h here);
  known_before = λ q h b here. are.known_before q h b (there q h here);
}
  where
    there : (q : ℕ) (h : Group) → new q ≡ Some h → old q ≡ Some h
    there q h here = elim (put_cases old new n None is q h here) [
      | inl (same, none) ↦ absurd (none-some h none)
      | inr (apart, stands) ↦ stands
    ]

pub released_counted : (ends : List (ℕ × ℕ)) (all : Grouping) (old new : ℕ → Option Group) (n next : ℕ)
    (g : Group) → old n ≡ Some g → ((q : ℕ) → new q ≡ put old n (Some (record g { needed = false })) q)
    → AreCounted ends all old next → AreCounted ends all new next
released_counted ends all old new n next g stands is are = record {
  counted = λ q h here. let (k, at_k, same) = there q h here in
      sym (ap (λ (x : Group). x.left) same) ∙ are.counted q k at_k;
  finished = λ q h u here has. let (k, at_k, same) = there q h here in
      subst (λ (m : ℕ). Contains (all.unfinished q) u ⊎ IsOver ends u m) (ap (λ (x : Group). x.greatest) same)
      (are.finished q k u at_k has);
  chained = λ q h u here has. let (k, at_k, same) = there q h here in
      subst (λ (b : Option ℕ). IsOver ends u h.floor ⊎ ((c : ℕ) × (b ≡ Some c) × IsUpTo all c u))
      (ap (λ (x : Group). x.before) same)
      (subst (λ (m : ℕ). IsOver ends u m ⊎ ((c : ℕ) × (k.before ≡ Some c) × IsUpTo all c u))
      (ap (λ (x : Group). x.floor) same) (are.chained q k u at_k has));
  known = λ q h here. let (k, at_k, same) = there q h here in are.known q k at_k;
  known_before = λ q h b here is_b. let (k, at_k, same) = there q h here in
      are.known_before q k b at_k (ap (λ (x : Group). x.before) same ∙ is_b);
}
  where
    plain : Group → Group
    plain x = record x { needed = false }

    there : (q : ℕ) (h : Group) → new q ≡ Some h
        → (k : Group) × (old q ≡ Some k) × (plain k ≡ plain h)
    there q h here = elim (put_cases old new n (Some (plain g)) is q h here) [
      | inl (same, made) ↦ (g, ap old (sym same) ∙ stands, ap plain (same_Some (plain g) h made))
      | inr (apart, before) ↦ (h, before, refl)
    ]
