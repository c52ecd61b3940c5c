-- How groups of tasks stay counted.
use Rattle.std.proofs.Common.{true, ◌≡◌, ◌∙◌, ℕ, ◌<◌, ◌+◌}
use Rattle.std.proofs.Common.{List, [], ◌∷◌, length, Option, Some, None, refl, sym, ap, subst, arith}
use Rattle.std.proofs.Common.{inl, inr}
use Rattle.std.specs.Prelude.{Contains}
use Rattle.std.proofs.lemmas.Bool.{cases_eq}
use Rattle.std.proofs.lemmas.Option.{same_Some}
use Rattle.std.proofs.lemmas.List.Elements.{Contains-append_cases}
use Rattle.online.specs.declared.groups.Group.{Group}
use Rattle.online.specs.Groups.{IsOver, Grouping, put, IsUpTo, AreCounted, behind, with_group}
use Rattle.online.specs.Groups.{with_member}
use Rattle.online.proofs.GroupLemmas.{put_here, put_apart, put_cases, contains_cons, contains_later}
use Rattle.online.proofs.GroupLemmas.{contains_here, contains_none}

-- ---- a group begins

up_begun : (all : Grouping) (n : ℕ) (before : Option ℕ) (b task : ℕ) → b < n → IsUpTo all b task
    → IsUpTo (with_group all n before) b task
up_begun all n before b task low (inl has) =
    inl
    (subst (λ l. Contains l task) (sym (put_apart all.members n [] b (λ e. absurd (omega (
      arith,
      e,
      low,
    ))))) has)
up_begun all n before b task low (inr has) =
    inr
    (subst (λ l. Contains l task)
    (sym (put_apart all.earlier n (behind all before) b (λ e. absurd (omega (arith, e, low))))) has)

behind_up : (all : Grouping) (before : Option ℕ) (task : ℕ) → Contains (behind all before) task
    → (b : ℕ) × (before ≡ Some b) × IsUpTo all b task
behind_up all None task has = absurd (contains_none task has)
behind_up all (Some b) task has = (b, refl, Contains-append_cases (all.members b) (all.earlier b) task has)

pub begun_counted : (ends : List (ℕ × ℕ)) (all : Grouping) (old new : ℕ → Option Group) (n next : ℕ)
    (before : Option ℕ) → n + 1 ≡ next → ((b : ℕ) → before ≡ Some b → b < n)
    → ((q : ℕ) → new q ≡ put old n (Some (record {
      left = 0;
      greatest = 0;
      floor = 0;
      before = before;
      needed = true;
    })) q)
    → AreCounted ends all old n → AreCounted ends (with_group all n before) new next
begun_counted ends all old new n next before more low is are = record {
  counted = λ q g here. elim (put_cases old new n (Some fresh) is q g here) [
    | inl (same, made) ↦
        sym (ap (λ (h : Group). h.left) (same_Some fresh g made))
        ∙ sym (ap length (put_here all.unfinished n [] q same))
    | inr (apart, there) ↦ are.counted q g there ∙ sym (ap length (put_apart all.unfinished n [] q apart))
  ];
  finished = λ q g task here has. elim (put_cases old new n (Some fresh) is q g here) [
    | inl (same, made) ↦
        absurd (contains_none task (subst (λ l. Contains l task) (put_here all.members n [] q same) has))
    | inr (apart, there) ↦
        elim
        (are.finished q g task there
        (subst (λ l. Contains l task) (put_apart all.members n [] q apart) has)) [
          | inl left ↦
              inl (subst (λ l. Contains l task) (sym (put_apart all.unfinished n [] q apart)) left)
          | inr over ↦ inr over
        ]
  ];
  chained = λ q g task here has. elim (put_cases old new n (Some fresh) is q g here) [
    | inl (same, made) ↦
        let up =
        behind_up all before task
        (subst (λ l. Contains l task) (put_here all.earlier n (behind all before) q same) has) in
        inr (
          up.0,
          sym (ap (λ (h : Group). h.before) (same_Some fresh g made)) ∙ up.1,
          up_begun all n before up.0 task (low up.0 up.1) up.2,
        )
    | inr (apart, there) ↦
        elim
        (are.chained q g task there
        (subst (λ l. Contains l task) (put_apart all.earlier n (behind all before) q apart) has)) [
          | inl over ↦ inl over
          | inr (b, is_before, up) ↦
              inr (b, is_before, up_begun all n before b task (are.known_before q g b there is_before) up)
        ]
  ];
  known = λ q g here. elim (put_cases old new n (Some fresh) is q g here) [
    | inl (same, made) ↦ omega (arith, same, more)
    | inr (apart, there) ↦ let less = are.known q g there in omega (arith, less, more)
  ];
  known_before = λ q g b here is_before. elim (put_cases old new n (Some fresh) is q g here) [
    | inl (same, made) ↦
        let less = low b (ap (λ (h : Group). h.before) (same_Some fresh g made) ∙ is_before) in
        omega (arith, less, more)
    | inr (apart, there) ↦ let less = are.known_before q g b there is_before in omega (arith, less, more)
  ];
}
  where
    fresh : Group
    fresh = record { left = 0; greatest = 0; floor = 0; before = before; needed = true }

-- ---- a task enters a group

pub up_entered : (all : Grouping) (n task b u : ℕ) → IsUpTo all b u → IsUpTo (with_member all n task) b u
up_entered all n task b u (inr has) = inr has
up_entered all n task b u (inl has) = elim (cases_eq n b) [
  | inl same ↦
      inl
      (subst (λ l. Contains l u) (sym (put_here all.members n (task ∷ all.members n) b same))
      (contains_later task u (all.members n) (subst (λ m. Contains (all.members m) u) (sym same) has)))
  | inr apart ↦
      inl (subst (λ l. Contains l u) (sym (put_apart all.members n (task ∷ all.members n) b apart)) has)
]

pub entered_counted : (ends : List (ℕ × ℕ)) (all : Grouping) (old new : ℕ → Option Group) (n next task : ℕ)
    (g : Group) → old n ≡ Some g
    → ((q : ℕ) → new q ≡ put old n (Some (record g { left = g.left + 1 })) q)
    → AreCounted ends all old next → AreCounted ends (with_member all n task) new next
entered_counted ends all old new n next task g stands is are = record {
  counted = λ q h here. elim (put_cases old new n (Some raised) is q h here) [
    | inl (same, made) ↦
        let left = sym (ap (λ (k : Group). k.left) (same_Some raised h made)) in
        let count = are.counted n g stands in
        let long = ap length (put_here all.unfinished n (task ∷ all.unfinished n) q same) in
        omega (arith, left, count, long)
    | inr (apart, there) ↦
        are.counted q h there
        ∙ sym (ap length (put_apart all.unfinished n (task ∷ all.unfinished n) q apart))
  ];
  finished = λ q h u here has. elim (put_cases old new n (Some raised) is q h here) [
    | inl (same, made) ↦
        let open_list : Contains (task ∷ all.unfinished n) u
        → Contains (put all.unfinished n (task ∷ all.unfinished n) q) u =
        subst (λ l. Contains l u) (sym (put_here all.unfinished n (task ∷ all.unfinished n) q same)) in
        elim
        (contains_cons task u (all.members n)
        (subst (λ l. Contains l u) (put_here all.members n (task ∷ all.members n) q same) has)) [
          | inl own ↦ inl (open_list (contains_here task u (all.unfinished n) own))
          | inr other ↦ elim (are.finished n g u stands other) [
            | inl left ↦ inl (open_list (contains_later task u (all.unfinished n) left))
            | inr over ↦
                inr
                (subst (λ m. IsOver ends u m) (ap (λ (k : Group). k.greatest) (same_Some raised h made)) over)
          ]
        ]
    | inr (apart, there) ↦
        elim
        (are.finished q h u there
        (subst (λ l. Contains l u) (put_apart all.members n (task ∷ all.members n) q apart) has)) [
          | inl left ↦
              inl
              (subst (λ l. Contains l u)
              (sym (put_apart all.unfinished n (task ∷ all.unfinished n) q apart)) left)
          | inr over ↦ inr over
        ]
  ];
  chained = λ q h u here has. elim (put_cases old new n (Some raised) is q h here) [
    | inl (same, made) ↦
        elim (are.chained n g u stands (subst (λ m. Contains (all.earlier m) u) (sym same) has)) [
          | inl over ↦
              inl (subst (λ m. IsOver ends u m) (ap (λ (k : Group). k.floor) (same_Some raised h made)) over)
          | inr (b, is_before, up) ↦
              inr (
                b,
                sym (ap (λ (k : Group). k.before) (same_Some raised h made)) ∙ is_before,
                up_entered all n task b u up,
              )
        ]
    | inr (apart, there) ↦ elim (are.chained q h u there has) [
      | inl over ↦ inl over
      | inr (b, is_before, up) ↦ inr (b, is_before, up_entered all n task b u up)
    ]
  ];
  known = λ q h here. elim (put_cases old new n (Some raised) is q h here) [
    | inl (same, made) ↦ let less = are.known n g stands in omega (arith, less, same)
    | inr (apart, there) ↦ are.known q h there
  ];
  known_before = λ q h b here is_before. elim (put_cases old new n (Some raised) is q h here) [
    | inl (same, made) ↦
        are.known_before n g b stands (ap (λ (k : Group). k.before) (same_Some raised h made) ∙ is_before)
    | inr (apart, there) ↦ are.known_before q h b there is_before
  ];
}
  where
    raised : Group
    raised = record g { left = g.left + 1 }
