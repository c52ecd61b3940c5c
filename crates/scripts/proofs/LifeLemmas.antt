-- What has become of tasks, by the table.
use Rattle.std.proofs.Common.{◌≡◌, ◌∙◌, ℕ, ◌<◌, ◌+◌, List, length, get_or, drop, Option, Bool, ◌&&◌, sym, ap}
use Rattle.std.proofs.lemmas.List.{drop_more}
use Rattle.std.specs.Ordering.{nat_cmp}
use Rattle.std.specs.BTreeMap.{BTreeMap, get}
use Rattle.scripts.specs.declared.lives.Life.{Life}
use Rattle.scripts.specs.Scripts.{is_made, may_be_named}
use Rattle.scripts.specs.Keeping.{all_may_be_named}

-- whether a task may be named, and those after it
pub named_next : (lives : BTreeMap ℕ Life) (made : Option ℕ) (tasks : List ℕ) (i : ℕ) (makes may : Bool)
    → i < length tasks → makes ≡ is_made made (get_or tasks i 0)
    → may ≡ may_be_named makes (get nat_cmp lives (get_or tasks i 0))
    → all_may_be_named lives made (drop i tasks) ≡ (may && all_may_be_named lives made (drop (i + 1) tasks))
named_next lives made tasks i makes may within made_is may_is =
    let is : may ≡ may_be_named (is_made made (get_or tasks i 0)) (get nat_cmp lives (get_or tasks i 0)) =
    may_is ∙ ap (λ (b : Bool). may_be_named b (get nat_cmp lives (get_or tasks i 0))) made_is in
    ap (all_may_be_named lives made) (drop_more tasks i 0 within)
    ∙ ap (λ (b : Bool). b && all_may_be_named lives made (drop (i + 1) tasks)) (sym is)
