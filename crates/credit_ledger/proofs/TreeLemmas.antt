-- Where the nodes of a tree stand, and what a change of one changes.
use Rattle.std.proofs.Common.{◌≡◌, ℕ, ◌+◌, ◌<◌, List, [], ◌∷◌, ◌++◌, length, take, drop, get_or, sym, ◌∙◌, ap}
use Rattle.std.specs.Prelude.{Option, Some, None, reverse}
use Rattle.std.specs.Option.{option_and_then, option_map_or}
use Rattle.std.proofs.lemmas.List.{reverse-append, take-append-drop, take_more}
use Rattle.credit_ledger.specs.declared.tree.Progress.{Progress}
use Rattle.credit_ledger.specs.declared.tree.Tree.{Tree}
use Rattle.credit_ledger.specs.Trees.{no_progress, node_at, child, place, progress_at, time_within}
use Rattle.credit_ledger.specs.Trees.{first_time}
use Rattle.credit_ledger.specs.Trees.{time_above}
use Rattle.credit_ledger.proofs.KnownLemmas.{time_above-some}

-- one run further
pub reverse_take_more : (runs : List ℕ) (i d : ℕ) → i < length runs
    → reverse (take (i + 1) runs) ≡ get_or runs i d ∷ reverse (take i runs)
reverse_take_more runs i d less =
    ap reverse (take_more runs i d less) ∙ reverse-append (take i runs) (get_or runs i d ∷ [])

-- the runs up to here, and those further down
pub reverse_take : (runs : List ℕ) (i : ℕ) → reverse runs ≡ reverse (drop i runs) ++ reverse (take i runs)
reverse_take runs i = ap reverse (sym (take-append-drop i runs)) ∙ reverse-append (take i runs) (drop i runs)

pub place-child : (children : ℕ → ℕ → Option ℕ) (n : ℕ) (up : List ℕ) (i : ℕ) → place children up ≡ Some i
    → place children (n ∷ up) ≡ children i n
place-child children n up i e = ap (option_and_then (λ i. children i n)) e

pub place-none : (children : ℕ → ℕ → Option ℕ) (xs up : List ℕ) → place children up ≡ None
    → place children (xs ++ up) ≡ None
place-none children [] up e = e
place-none children (n ∷ xs) up e = ap (option_and_then (λ i. children i n)) (place-none children xs up e)

pub progress_at-place : (tree : Tree) (up : List ℕ) (i : ℕ) → place (child tree) up ≡ Some i
    → progress_at tree up ≡ (node_at tree i).progress
progress_at-place tree up i e = ap (λ o. option_map_or (λ i. (node_at tree i).progress) o no_progress) e

pub progress_at-none : (tree : Tree) (up : List ℕ) → place (child tree) up ≡ None
    → progress_at tree up ≡ no_progress
progress_at-none tree up e = ap (λ o. option_map_or (λ i. (node_at tree i).progress) o no_progress) e

-- below a missing node nothing was entered
pub time_above-missing : (tree : Tree) (xs up : List ℕ) → place (child tree) up ≡ None
    → time_above (progress_at tree) up ≡ None → time_above (progress_at tree) (xs ++ up) ≡ None
time_above-missing tree [] up missing none = none
time_above-missing tree (n ∷ xs) up missing none =
    ap (λ o. first_time o (time_within (progress_at tree (xs ++ up)).run n))
    (time_above-missing tree xs up missing none)
    ∙ ap (λ (p : Progress). time_within p.run n)
    (progress_at-none tree (xs ++ up) (place-none (child tree) xs up missing))

-- ---- a walk down the runs

pub place-more : (children : ℕ → ℕ → Option ℕ) (runs : List ℕ) (i index : ℕ) (next : Option ℕ)
    → i < length runs → place children (reverse (take i runs)) ≡ Some index
    → children index (get_or runs i 0) ≡ next → place children (reverse (take (i + 1) runs)) ≡ next
place-more children runs i index next less here step =
    ap (place children) (reverse_take_more runs i 0 less)
    ∙ place-child children (get_or runs i 0) (reverse (take i runs)) index here ∙ step

pub place-missing : (children : ℕ → ℕ → Option ℕ) (runs : List ℕ) (i index : ℕ) → i < length runs
    → place children (reverse (take i runs)) ≡ Some index → children index (get_or runs i 0) ≡ None
    → place children (reverse runs) ≡ None
place-missing children runs i index less here step =
    ap (place children) (reverse_take runs (i + 1))
    ∙ place-none children (reverse (drop (i + 1) runs)) (reverse (take (i + 1) runs))
    (place-more children runs i index None less here step)

pub time_above-more : (tree : Tree) (runs : List ℕ) (i index : ℕ) (next : Option ℕ) → i < length runs
    → place (child tree) (reverse (take i runs)) ≡ Some index
    → time_above (progress_at tree) (reverse (take i runs)) ≡ None
    → time_within (node_at tree index).progress.run (get_or runs i 0) ≡ next
    → time_above (progress_at tree) (reverse (take (i + 1) runs)) ≡ next
time_above-more tree runs i index next less here none run =
    ap (time_above (progress_at tree)) (reverse_take_more runs i 0 less)
    ∙ ap (λ o. first_time o (time_within (progress_at tree (reverse (take i runs))).run (get_or runs i 0)))
    none
    ∙ ap (λ (p : Progress). time_within p.run (get_or runs i 0))
    (progress_at-place tree (reverse (take i runs)) index here)
    ∙ run

pub time_above-found : (tree : Tree) (runs : List ℕ) (i index time : ℕ) → i < length runs
    → place (child tree) (reverse (take i runs)) ≡ Some index
    → time_above (progress_at tree) (reverse (take i runs)) ≡ None
    → time_within (node_at tree index).progress.run (get_or runs i 0) ≡ Some time
    → time_above (progress_at tree) (reverse runs) ≡ Some time
time_above-found tree runs i index time less here none run =
    ap (time_above (progress_at tree)) (reverse_take runs (i + 1))
    ∙ time_above-some (progress_at tree) (reverse (drop (i + 1) runs)) (reverse (take (i + 1) runs)) time
    (time_above-more tree runs i index (Some time) less here none run)

pub time_above-stopped : (tree : Tree) (runs : List ℕ) (i index : ℕ) → i < length runs
    → place (child tree) (reverse (take i runs)) ≡ Some index
    → time_above (progress_at tree) (reverse (take i runs)) ≡ None
    → time_within (node_at tree index).progress.run (get_or runs i 0) ≡ None
    → child tree index (get_or runs i 0) ≡ None → time_above (progress_at tree) (reverse runs) ≡ None
time_above-stopped tree runs i index less here none run step =
    ap (time_above (progress_at tree)) (reverse_take runs (i + 1))
    ∙ time_above-missing tree (reverse (drop (i + 1) runs)) (reverse (take (i + 1) runs))
    (place-more (child tree) runs i index None less here step)
    (time_above-more tree runs i index None less here none run)
