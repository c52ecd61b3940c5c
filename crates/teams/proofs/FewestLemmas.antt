-- The least number of barriers that a member of a team begins.
use Rattle.std.proofs.Common.{◌≡◌, ◌∙◌, ℕ, ◌≤◌, ◌+◌, List, length, Option, Some, None, sym, ap, subst, arith}
use Rattle.std.proofs.Common.{inl, inr, ◌⊎◌}
use Rattle.std.proofs.lemmas.Bool.{cases_eq, cases_lt}
use Rattle.std.proofs.lemmas.Option.{none-some, same_Some, slice_get_within}
use Rattle.std.proofs.lemmas.List.{length-set}
use Rattle.std.proofs.Math.ListN.{set}
use Rattle.std.specs.Global.{Vec}
use Rattle.std.specs.Prelude.{slice_get, min}
use Rattle.task_tree.proofs.LinkLemmas.{get_set_same, get_set_other}
use Rattle.teams.specs.Fewest.{IsCountReached, AreFewest}
use Rattle.task_states.specs.Rows.{row_at}

reached_later : (teams : List (Option ℕ)) (begins : List (Vec ℕ)) (n team count : ℕ)
    → (4294967295 ≤ count) ⊎ IsCountReached teams begins n team count
    → (4294967295 ≤ count) ⊎ IsCountReached teams begins (n + 1) team count
reached_later teams begins n team count (inl most) = inl most
reached_later teams begins n team count (inr is) =
    inr (record {
      index = is.index;
      before = let h = is.before in omega (arith, h);
      in_team = is.in_team;
      few = is.few;
    })

reached_same : (teams : List (Option ℕ)) (begins : List (Vec ℕ)) (n team count other : ℕ)
    → (4294967295 ≤ count) ⊎ IsCountReached teams begins n team count → count ≡ other
    → (4294967295 ≤ other) ⊎ IsCountReached teams begins n team other
reached_same teams begins n team count other is same =
    let P : ℕ → Type 0 = λ k. (4294967295 ≤ k) ⊎ IsCountReached teams begins n team k in subst P same is

-- a task of no team
pub fewest_same : (teams : List (Option ℕ)) (begins : List (Vec ℕ)) (n : ℕ) (fewest : List ℕ)
    → AreFewest teams begins n fewest → slice_get teams n ≡ Some None → AreFewest teams begins (n + 1) fewest
fewest_same teams begins n fewest are none = record {
  all = are.all;
  low = λ index team count before in_team stands. elim (cases_eq index n) [
    | inl same ↦
        absurd
        (none-some team
        (same_Some None (Some team) (sym none ∙ ap (slice_get teams) (sym same) ∙ in_team)))
    | inr apart ↦ are.low index team count (omega (arith, before, apart)) in_team stands
  ];
  reached = λ team count stands. reached_later teams begins n team count (are.reached team count stands);
}

-- and one of a team
pub fewest_more : (teams : List (Option ℕ)) (begins : List (Vec ℕ)) (n team old count new : ℕ)
    (fewest : List ℕ)
    → AreFewest teams begins n fewest → slice_get teams n ≡ Some (Some team)
    → slice_get fewest team ≡ Some old → count ≡ length (row_at begins n) → new ≡ min old count
    → AreFewest teams begins (n + 1) (set fewest team new)
fewest_more teams begins n team old count new fewest are is_team is_old is_count is_new = record {
  all = length-set fewest team new ∙ are.all;
  low = λ index other least before in_team stands. elim (cases_eq other team) [
    | inl same ↦
        let is_least : least ≡ new = of_team other least same stands in
        elim (cases_eq index n) [
          | inl last ↦
              let long : length (row_at begins index) ≡ length (row_at begins n) =
              ap (λ k. length (row_at begins k)) last in
              omega (arith, is_least, is_new, is_count, long)
          | inr earlier ↦
              let low =
              are.low index team old (omega (arith, before, earlier))
              (in_team ∙ ap (λ t. Some (Some t)) same) is_old in
              omega (arith, is_least, is_new, low)
        ]
    | inr different ↦ elim (cases_eq index n) [
      | inl last ↦
          absurd
          (different
          (same_Some other team
          (same_Some (Some other) (Some team)
          (sym in_team ∙ ap (slice_get teams) last ∙ is_team))))
      | inr earlier ↦
          are.low index other least (omega (arith, before, earlier)) in_team
          (sym (get_set_other fewest team other new different) ∙ stands)
    ]
  ];
  reached = λ other least stands. elim (cases_eq other team) [
    | inl same ↦
        let is_least : least ≡ new = of_team other least same stands in
        let P : ℕ → Type 0 = λ t. (4294967295 ≤ least) ⊎ IsCountReached teams begins (n + 1) t least in
        subst P (sym same) (elim (cases_lt old count) [
          | inl less ↦
              reached_same teams begins (n + 1) team old least
              (reached_later teams begins n team old (are.reached team old is_old))
              (omega (arith, is_least, is_new, less))
          | inr more ↦
              inr (record {
                index = n;
                before = omega arith;
                in_team = is_team;
                few = omega (arith, is_least, is_new, is_count, more);
              })
        ])
    | inr different ↦
        reached_later teams begins n other least
        (are.reached other least (sym (get_set_other fewest team other new different) ∙ stands))
  ];
}
  where
    of_team : (other least : ℕ) → other ≡ team → slice_get (set fewest team new) other ≡ Some least
        → least ≡ new
    of_team other least same stands =
        same_Some least new
        (sym stands ∙ ap (slice_get (set fewest team new)) same
        ∙ get_set_same fewest team new (slice_get_within fewest team old is_old))
