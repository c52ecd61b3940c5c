-- How what is known of where tasks stand grows from task to task.
use Rattle.std.proofs.Common.{◌≡◌, ◌∙◌, ℕ, ◌≤◌, ◌+◌, List, [], ◌∷◌, ◌++◌, length, get_or, Option, Some, None}
use Rattle.std.proofs.Common.{sym, ap, subst, arith, inl, inr}
use Rattle.std.proofs.lemmas.Option.{none-some, same_Some, slice_get_within, slice_get-get_or}
use Rattle.std.proofs.lemmas.List.{length_push}
use Rattle.std.specs.Prelude.{slice_get, IfSome}
use Rattle.ompt_events.specs.declared.records.Record.{Record}
use Rattle.ompt_events.specs.Records.{made, begun_root}
use Rattle.ompt_events.specs.Places.{at}
use Rattle.ompt_events.specs.Tree.{top, below}
use Rattle.ompt_events.proofs.ListLemmas.{pushed_cases}
use Rattle.ompt_events.proofs.RecordLemmas.{begun_at_made}
use Rattle.task_tree.specs.declared.links.Link.{Link}
use Rattle.task_tree.specs.declared.roots.Standing.{Standing}
use Rattle.task_tree.specs.Makers.{AreMade}
use Rattle.task_tree.specs.Links.{AreLinks}
use Rattle.task_tree.specs.Forward.{IsStood, AreStandingsKnown, StandsBelow}

pub standing_more : (rs : List Record) (n : ℕ) (found : Standing) (tasks : List ℕ)
    (roots : List (Option Standing))
    → AreStandingsKnown rs n tasks roots
    → ((task : ℕ) → slice_get tasks n ≡ Some task → IsStood rs n task found)
    → AreStandingsKnown rs (n + 1) tasks (roots ++ Some found ∷ [])
standing_more rs n found tasks roots are stood = record {
  all = length_push roots (Some found) ∙ ap (λ k. k + 1) are.all;
  each =
      λ index task standing is stands. elim (pushed_cases roots (Some found) (Some standing) index stands) [
        | inl old ↦ are.each index task standing is old
        | inr (here, same) ↦
            let at_end : index ≡ n = here ∙ are.all in
            let P : Standing → Type 0 = IsStood rs index task in
            let Q : ℕ → Type 0 = λ k. IsStood rs k task found in
            subst P (same_Some found standing same)
            (subst Q (sym at_end) (stood task (ap (slice_get tasks) (sym at_end) ∙ is)))
      ];
  known = λ index none. elim (pushed_cases roots (Some found) None index none) [
    | inl old ↦ are.known index old
    | inr (here, same) ↦ none-some found (sym same)
  ];
}

-- a root stands at the top
pub root_stood : (rs : List Record) (place index task : ℕ) (found : Standing) → at made rs place ≡ Some task
    → at begun_root rs place ≡ Some found.root → found.depth ≡ 0 → IsStood rs index task found
root_stood rs place index task found makes begins flat =
    let same : found.root ≡ task =
    same_Some found.root task (sym (begun_at_made found.root rs place begins) ∙ makes) in
    let P : ℕ → Type 0 = λ t. IsStood rs index t found in
    subst P same (record { stands = ([], top (place, begins), sym flat); shallow = omega (arith, flat) })

-- a created task stands below its parent
pub child_stood : (rs : List Record) (n task : ℕ) (found : Standing) (link : Link) (tasks : List ℕ)
    (links : List (Option Link)) (roots : List (Option Standing))
    → AreLinks rs (length rs) tasks links → AreStandingsKnown rs n tasks roots → slice_get tasks n ≡ Some task
    → slice_get links n ≡ Some (Some link) → StandsBelow roots link.parent found → IsStood rs n task found
child_stood rs n task found link tasks links roots links_are are is is_link (above, known, deep, same) =
    let of = links_are.only n task link is is_link in
    let stood = are.each link.parent of.0 above of.1 known in
    let within = slice_get_within roots link.parent (Some above) known in
    let path = stood.stands in
    let P : ℕ → Type 0 = λ r. IsStood rs n task (record { depth = found.depth; root = r }) in
    subst P (sym same) (record {
      stands = (
        path.0 ++ link.number ∷ [],
        below link.number path.1 of.2,
        length_push path.0 link.number ∙ ap (λ k. k + 1) path.2 ∙ sym deep,
      );
      shallow = let low = stood.shallow in omega (arith, low, within, deep, are.all);
    })

pub below_stood : (rs : List Record) (n : ℕ) (link : Link) (tasks : List ℕ) (links : List (Option Link))
    (roots : List (Option Standing)) (found : Option Standing)
    → AreLinks rs (length rs) tasks links → AreStandingsKnown rs n tasks roots
    → slice_get links n ≡ Some (Some link) → IfSome found (StandsBelow roots link.parent)
    → IfSome found (λ standing. (task : ℕ) → slice_get tasks n ≡ Some task → IsStood rs n task standing)
below_stood rs n link tasks links roots None links_are are is_link stands = stands
below_stood rs n link tasks links roots (Some found) links_are are is_link stands =
    λ task is. child_stood rs n task found link tasks links roots links_are are is is_link stands

-- what is known of a root by the record that makes it
pub made_stood : (rs : List Record) (n place : ℕ) (tasks places : List ℕ) (found : Option Standing)
    → AreMade rs (length rs) tasks places → slice_get places n ≡ Some place
    → IfSome found (λ standing. (at begun_root rs place ≡ Some standing.root) × (standing.depth ≡ 0))
    → IfSome found (λ standing. (task : ℕ) → slice_get tasks n ≡ Some task → IsStood rs n task standing)
made_stood rs n place tasks places None are at_place made = made
made_stood rs n place tasks places (Some found) are at_place (begins, flat) = λ task is.
    let maker = are.each n task is in
    let same : maker.0 ≡ place = same_Some maker.0 place (sym maker.1 ∙ at_place) in
    root_stood rs place n task found (ap (at made rs) (sym same) ∙ maker.3)
    begins flat

-- what is known is near the top where there are few tasks
pub above_shallow : (rs : List Record) (n index : ℕ) (tasks : List ℕ) (roots : List (Option Standing))
    (above : Standing)
    → AreStandingsKnown rs n tasks roots → n ≤ length tasks → slice_get roots index ≡ Some (Some above)
    → above.depth ≤ n
above_shallow rs n index tasks roots above are low known =
    let within = slice_get_within roots index (Some above) known in
    let stood =
    are.each index (get_or tasks index 0) above
    (slice_get-get_or tasks index 0 (omega (arith, within, are.all, low))) known in
    let shallow = stood.shallow in
    omega (arith, shallow, within, are.all)
