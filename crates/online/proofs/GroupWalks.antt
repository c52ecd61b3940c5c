-- Steps of the walks over the groups of one task.
use Rattle.std.proofs.Common.{◌≡◌, ◌∙◌, ℕ, ◌<◌, ◌≤◌, ◌+◌}
use Rattle.std.proofs.Common.{List, ◌∷◌, length, Option, refl, sym, ap, arith, inl, inr}
use Rattle.std.proofs.Common.{get_or, drop, drop-cons, add-one}
use Rattle.std.specs.Prelude.{Contains}
use Rattle.std.proofs.lemmas.Bool.{cases_eq}
use Rattle.online.specs.declared.groups.Group.{Group}
use Rattle.online.specs.Groups.{IsOver, Grouping, AreCounted, times, without, with_left, HasLeft, IsLessOf}
use Rattle.online.specs.Groups.{KeepsCounts, IsClearAt}
use Rattle.online.proofs.GroupLemmas.{put_here, put_apart, times_more, times_same, times_contains}
use Rattle.online.proofs.GroupLemmas.{times-without, times-without_one}

-- so often the task is left in each group
abbrev pub AreLeft : List ℕ → Grouping → ℕ → Type 0
AreLeft numbers all task = (n : ℕ) → times n numbers ≤ times task (all.unfinished n)

pub less_step : (ends : List (ℕ × ℕ)) (all less : Grouping) (old new : ℕ → Option Group)
    (next task limit n : ℕ) (rest : List ℕ) → IsOver ends task limit → HasLeft old new n limit
    → IsLessOf task all less → AreCounted ends less old next → AreLeft (n ∷ rest) less task
    → (lesser : Grouping) × IsLessOf task all lesser × AreCounted ends lesser new next
    × AreLeft rest lesser task
less_step ends all less old new next task limit n rest over leaves is are left =
    (with_left less n task, smaller, leaves ends less next task has over are, still)
  where
    own : times n rest + 1 ≤ times task (less.unfinished n)
    own = let e = times_more n n rest refl in let low = left n in omega (arith, e, low)

    has : Contains (less.unfinished n) task
    has = times_contains task (less.unfinished n) (omega (arith, own))

    smaller : IsLessOf task all (with_left less n task)
    smaller = record {
      members = is.members;
      earlier = is.earlier;
      others = λ other m apart. elim (cases_eq n m) [
        | inl same ↦
            ap (times other) (put_here less.unfinished n (without task (less.unfinished n)) m same)
            ∙ times-without task other (less.unfinished n) apart
            ∙ ap (λ k. times other (less.unfinished k)) same ∙ is.others other m apart
        | inr not_it ↦
            ap (times other) (put_apart less.unfinished n (without task (less.unfinished n)) m not_it)
            ∙ is.others other m apart
      ];
    }

    still : AreLeft rest (with_left less n task) task
    still m = elim (cases_eq n m) [
      | inl same ↦
          let e = ap (times task) (put_here less.unfinished n (without task (less.unfinished n)) m same) in
          let one = times-without_one task (less.unfinished n) in
          let there = ap (λ k. times k rest) same in
          omega (arith, e, one, own, there)
      | inr not_it ↦
          let e = ap (times task) (put_apart less.unfinished n (without task (less.unfinished n)) m not_it) in
          let same = times_same m n rest (λ is_n. not_it (sym is_n)) in
          let low = left m in
          omega (arith, e, same, low)
    ]

-- the numbers from an index on
pub rest_from : (numbers : List ℕ) (i : ℕ) → i < length numbers
    → drop i numbers ≡ get_or numbers i 0 ∷ drop (i + 1) numbers
rest_from numbers i low =
    drop-cons numbers i 0 low
    ∙ ap (λ k. get_or numbers i 0 ∷ drop k numbers) (sym (add-one i))

pub clear_back : (old new : ℕ → Option Group) (n limit : ℕ) → KeepsCounts old new → IsClearAt new n limit
    → IsClearAt old n limit
clear_back old new n limit keeps clear = λ ends all next task are has.
    clear ends all next task (keeps ends all next are) has
