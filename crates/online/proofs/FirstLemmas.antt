-- The search for the task whose list comes first, of those that precede another.
use Rattle.std.proofs.Common.{◌≡◌, ◌∙◌, ℕ, ◌≤◌, Bool, true, false, cond, List, [], ◌∷◌, ◌++◌, Option}
use Rattle.std.proofs.Common.{Some, None}
use Rattle.std.proofs.Common.{refl, sym, ap, subst, arith, inl, inr, ◌⊎◌}
use Rattle.std.specs.Prelude.{All, nat_eq}
use Rattle.std.specs.Map.{lookup}
use Rattle.std.proofs.lemmas.Bool.{eqb-true}
use Rattle.std.proofs.lemmas.List.Elements.{All-push, All-weaker, All-head, All-tail}
use Rattle.std.proofs.lemmas.Option.{none-some, same_Some}
use Rattle.online.specs.declared.lists.Found.{Found}
use Rattle.online.specs.declared.lists.KeptList.{KeptList}
use Rattle.online.specs.declared.lists.Lists.{Lists}
use Rattle.online.specs.declared.replay.Replay.{Replay}
use Rattle.online.specs.Lists.{list_of, IsBefore, IsFoundBefore, IsFirstBefore, IsEarlier}

-- where the task precedes, a list is found that comes no later
abbrev pub IsPastFirst : Replay → KeptList → Option Found → ℕ × KeptList → Type 0
IsPastFirst replay own first entry =
    IsBefore replay own entry → (f : Found) × (first ≡ Some f) × (f.place ≤ entry.1.place)

-- what is found is one of the lists, and comes first among these entries
pub record IsFirstSoFar (lists : Lists) (replay : Replay) (own : KeptList) (first : Option Found)
    (entries : List (ℕ × KeptList)) : Type 0 where
  pub found : (f : Found) → first ≡ Some f
      → (list : KeptList) × (list_of lists f.task ≡ Some list) × (list.place ≡ f.place)
      × IsBefore replay own (f.task, list)
  pub least : All (IsPastFirst replay own first) entries

-- a further entry that does not precede
pub first_stays : (lists : Lists) (replay : Replay) (own : KeptList) (first : Option Found)
    (entries : List (ℕ × KeptList)) (entry : ℕ × KeptList) → (IsBefore replay own entry → ⊥)
    → IsFirstSoFar lists replay own first entries
    → IsFirstSoFar lists replay own first (entries ++ entry ∷ [])
first_stays lists replay own first entries entry apart is = record {
  found = is.found;
  least = All-push (IsPastFirst replay own first) entries entry is.least (λ before. absurd (apart before));
}

-- one that precedes
pub first_more : (lists : Lists) (replay : Replay) (own : KeptList) (first : Option Found) (next : Found)
    (entries : List (ℕ × KeptList)) (task : ℕ) (list : KeptList) → list_of lists task ≡ Some list
    → IsBefore replay own (task, list) → IsEarlier first (record { place = list.place; task = task }) next
    → IsFirstSoFar lists replay own first entries
    → IsFirstSoFar lists replay own (Some next) (entries ++ (task, list) ∷ [])
first_more lists replay own first next entries task list kept before earlier is = record {
  found = λ f same. subst P (same_Some next f same) (of earlier.one);
  least =
      All-push (IsPastFirst replay own (Some next)) entries (task, list)
      (All-weaker (IsPastFirst replay own first) (IsPastFirst replay own (Some next))
      (λ entry past also.
      let (f, there, low) = past also in
      let less = earlier.before f there in
      (next, refl, omega (arith, low, less)))
      entries is.least)
      (λ also. (next, refl, earlier.most));
}
  where
    P : Found → Type 0
    P f = (l : KeptList) × (list_of lists f.task ≡ Some l) × (l.place ≡ f.place)
        × IsBefore replay own (f.task, l)

    of : (first ≡ Some next) ⊎ (next ≡ record { place = list.place; task = task }) → P next
    of (inl there) = is.found next there
    of (inr new) = subst P (sym new) (list, kept, refl, before)

-- what is said of each entry is said of the list that is kept
of_entry : (P : ℕ × KeptList → Type 0) (entries : List (ℕ × KeptList)) (task : ℕ) (list : KeptList)
    → lookup (nat_eq task) entries ≡ Some list → All P entries → P (task, list)
of_entry P [] task list is each = absurd (none-some list is)
of_entry P (entry ∷ entries) task list is each =
    of (nat_eq task entry.0) refl is
    (λ there. of_entry P entries task list there (All-tail P entry entries each))
  where
    of : (b : Bool) → nat_eq task entry.0 ≡ b
        → cond b (Some entry.1) (lookup (nat_eq task) entries) ≡ Some list
        → (lookup (nat_eq task) entries ≡ Some list → P (task, list)) → P (task, list)
    of true same there rest =
        let Q : ℕ → Type 0 = λ t. P (t, list) in
        let R : KeptList → Type 0 = λ l. P (entry.0, l) in
        subst Q (sym (eqb-true task entry.0 same))
        (subst R (same_Some entry.1 list there) (All-head P entry entries each))
    of false same there rest = rest there

own_same : (lists : Lists) (replay : Replay) (task found : ℕ) (own : KeptList) → list_of lists task ≡ Some own
    → (is : IsFoundBefore lists replay task found) → IsBefore replay own (found, is.other)
own_same lists replay task found own kept is =
    let P : KeptList → Type 0 = λ l. IsBefore replay l (found, is.other) in
    subst P (same_Some is.own own (sym is.of_task ∙ kept)) is.before

-- at the end of the search
pub first_found : (lists : Lists) (replay : Replay) (task : ℕ) (own : KeptList) (found : Found)
    → list_of lists task ≡ Some own → IsFirstSoFar lists replay own (Some found) lists.kept.entries
    → IsFirstBefore lists replay task found.task
first_found lists replay task own found kept is =
    let (list, there, place, before) = is.found found refl in
    record {
      is = record { own = own; of_task = kept; other = list; of_found = there; before = before };
      first = λ other next.
          let (f, same, low) =
          of_entry (IsPastFirst replay own (Some found)) lists.kept.entries other next.other next.of_found
          is.least
          (own_same lists replay task other own kept next) in
          let one = ap (λ (x : Found). x.place) (same_Some found f same) in
          omega (arith, place, one, low);
    }

pub none_found : (lists : Lists) (replay : Replay) (task : ℕ) (own : KeptList)
    → list_of lists task ≡ Some own → IsFirstSoFar lists replay own None lists.kept.entries → (found : ℕ)
    → IsFoundBefore lists replay task found → ⊥
none_found lists replay task own kept is found next =
    let (f, same, low) =
    of_entry (IsPastFirst replay own None) lists.kept.entries found next.other next.of_found is.least
    (own_same lists replay task found own kept next) in
    none-some f same
