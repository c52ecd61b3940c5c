-- How the rows of children are filled.
use Rattle.std.proofs.Common.{◌≡◌, ◌∙◌, ℕ, ◌<◌, ◌+◌, List, length, Option}
use Rattle.std.proofs.Common.{Some, None, sym, ap, arith, inl, inr, set, get_or}
use Rattle.std.proofs.lemmas.Bool.{cases_eq}
use Rattle.std.proofs.lemmas.Option.{none-some, same_Some, slice_get_within, slice_get-get_or}
use Rattle.std.specs.Prelude.{slice_get, slice_index}
use Rattle.ompt_events.specs.declared.records.Record.{Record}
use Rattle.ompt_events.specs.declared.cause.Cause.TheVariants.{CreatedTwice}
use Rattle.ompt_events.specs.Records.{made}
use Rattle.ompt_events.specs.Tree.{children, IsChild}
use Rattle.ompt_events.specs.Causes.{IsFreeOf}
use Rattle.ompt_events.proofs.ListLemmas.{contains_get}
use Rattle.ompt_events.proofs.TreeLemmas.{child_place}
use Rattle.task_tree.specs.declared.links.Link.{Link}
use Rattle.task_tree.specs.Makers.{AreNoted}
use Rattle.index_tables.specs.Numbering.{AreApart}
use Rattle.task_tree.specs.Links.{AreChildCounts, AreLinks}
use Rattle.index_tables.specs.Rows.{RowsView, AreRising, AreWithin, AreOffsets}
use Rattle.index_tables.proofs.RowLemmas.{same_row, row_is}
use Rattle.task_tree.specs.Rows.{AreCounted, AreFitting, AreSingle, AreFilled, AreChildren}
use Rattle.task_tree.proofs.LinkLemmas.{get_set_same, get_set_other}
use Rattle.task_tree.proofs.OnceLemmas.{creation_made, one_number}

-- a number that is counted has its place
pub counted_fit : (counts offsets : List ℕ) (links : List (Option Link)) → AreOffsets counts offsets
    → AreCounted counts links → AreFitting offsets links
counted_fit counts offsets links are counted index link stands =
    let low = counted index link stands in
    let next = are.next link.parent low.0 in
    (omega (arith, low.0, are.all), omega (arith, next, low.1))

-- ---- how they are filled

pub filled_other : (n : ℕ) (tasks : List ℕ) (links : List (Option Link)) (offsets ids : List ℕ)
    → AreFilled n tasks links offsets ids → slice_get links n ≡ Some None
    → AreFilled (n + 1) tasks links offsets ids
filled_other n tasks links offsets ids filled none index task link below is stands = elim (cases_eq index n) [
  | inl same ↦
      absurd
      (none-some link (same_Some None (Some link) (sym none ∙ ap (slice_get links) (sym same) ∙ stands)))
  | inr apart ↦ filled index task link (omega (arith, below, apart)) is stands
]

pub filled_more : (n task : ℕ) (link : Link) (tasks : List ℕ) (links : List (Option Link))
    (offsets ids : List ℕ)
    → AreRising offsets → AreFitting offsets links → AreSingle links
    → slice_index offsets link.parent + link.number < length ids → AreFilled n tasks links offsets ids
    → slice_get tasks n ≡ Some task → slice_get links n ≡ Some (Some link)
    → AreFilled (n + 1) tasks links offsets (set ids (slice_index offsets link.parent + link.number) task)
filled_more n task link tasks links offsets ids rise fitting single within filled is_task is_link index other
    found below is stands =
    elim (cases_eq index n) [
      | inl same ↦
          let same_link : link ≡ found =
          same_Some link found
          (same_Some (Some link) (Some found) (sym is_link ∙ ap (slice_get links) (sym same) ∙ stands)) in
          ap (λ (l : Link). slice_get (set ids place task) (slice_index offsets l.parent + l.number))
          (sym same_link)
          ∙ get_set_same ids place task within ∙ sym is_task ∙ ap (slice_get tasks) (sym same) ∙ is
      | inr apart ↦
          get_set_other ids place (slice_index offsets found.parent + found.number) task
          (λ same.
          apart
          (single index n found stands
          (is_link
          ∙ ap (λ l. Some (Some l))
          (sym (one_place found (fitting index found stands) same)))))
          ∙ filled index other found (omega (arith, below, apart)) is stands
    ]
  where
    place : ℕ
    place = slice_index offsets link.parent + link.number

    links_same : (found : Link) → found.parent ≡ link.parent → found.number ≡ link.number → found ≡ link
    links_same found parents numbers =
        let f : ℕ → Link = λ a. record { number = found.number; parent = a } in
        let g : ℕ → Link = λ b. record { number = b; parent = link.parent } in
        ap f parents ∙ ap g numbers

    one_place : (found : Link)
        → (found.parent + 1 < length offsets)
        × (slice_index offsets found.parent + found.number < slice_index offsets (found.parent + 1))
        → slice_index offsets found.parent + found.number ≡ place → found ≡ link
    one_place found fits same =
        let own = fitting n link is_link in
        let parents =
        same_row offsets found.parent link.parent found.number link.number rise fits.0 own.0 fits.1 own.1
        same in
        let begins = ap (slice_index offsets) parents in
        links_same found parents (omega (arith, begins, same))

-- ---- what stands in them

pub links_counted : (rs : List Record) (tasks counts : List ℕ) (links : List (Option Link))
    → AreChildCounts rs (length rs) tasks counts → AreLinks rs (length rs) tasks links
    → AreCounted counts links
links_counted rs tasks counts links are links_are index link stands =
    let within = slice_get_within links index (Some link) stands in
    let of =
    links_are.only index (get_or tasks index 0) link
    (slice_get-get_or tasks index 0 (omega (arith, within, links_are.all))) stands in
    let inside = slice_get_within tasks link.parent of.0 of.1 in
    let number = slice_get_within (children rs of.0) link.number (get_or tasks index 0) of.2 in
    let count = are.each link.parent of.0 of.1 in
    (omega (arith, inside, are.all), omega (arith, number, count))

pub links_single : (rs : List Record) (tasks : List ℕ) (links : List (Option Link)) → AreApart tasks
    → AreLinks rs (length rs) tasks links → AreSingle links
links_single rs tasks links apart are one other link here there =
    let first = are.only one (get_or tasks one 0) link (task_at one here) here in
    let second = are.only other (get_or tasks other 0) link (task_at other there) there in
    let parents : first.0 ≡ second.0 = same_Some first.0 second.0 (sym first.1 ∙ second.1) in
    let tasks_same : get_or tasks one 0 ≡ get_or tasks other 0 =
    same_Some _ _ (sym first.2 ∙ ap (λ p. slice_get (children rs p) link.number) parents ∙ second.2) in
    apart one other (get_or tasks other 0) (task_at one here ∙ ap Some tasks_same) (task_at other there)
  where
    task_at : (k : ℕ) → slice_get links k ≡ Some (Some link) → slice_get tasks k ≡ Some (get_or tasks k 0)
    task_at k stands =
        let within = slice_get_within links k (Some link) stands in
        slice_get-get_or tasks k 0 (omega (arith, within, are.all))

pub rows_children : (rs : List Record) (tasks counts : List ℕ) (links : List (Option Link)) (rows : RowsView)
    → AreNoted made rs (length rs) tasks → AreApart tasks → IsFreeOf rs CreatedTwice
    → AreChildCounts rs (length rs) tasks counts → AreLinks rs (length rs) tasks links
    → AreWithin rows.offsets rows.ids → AreOffsets counts rows.offsets
    → AreFilled (length tasks) tasks links rows.offsets rows.ids → AreChildren rs tasks rows
rows_children rs tasks counts links rows noted apart once are links_are inside offsets filled = record {
  all = offsets.all ∙ ap (λ k. k + 1) are.all;
  each = λ index task is.
      let low = slice_get_within tasks index task is in
      let next = offsets.next index (omega (arith, low, are.all)) in
      let count = are.each index task is in
      row_is rows.ids (children rs task) (slice_index rows.offsets index)
      (slice_index rows.offsets (index + 1)) (omega (arith, next, count))
      (inside.within (index + 1) (omega (arith, low, are.all, offsets.all))) (child_there index task is);
}
  where
    child_there : (index task : ℕ) → slice_get tasks index ≡ Some task → (number child : ℕ)
        → IsChild rs task number child
        → slice_get rows.ids (slice_index rows.offsets index + number) ≡ Some child
    child_there index task is number child stands =
        let place = child_place rs task (length rs) number child stands in
        let own =
        contains_get tasks child
        (noted.each place.0 child place.1 (creation_made rs task child place.0 place.2)) in
        let found = links_are.linked place.0 task child own.0 index place.1 place.2 own.1 is in
        let of = links_are.only own.0 child found.0 own.1 found.1 in
        let same = one_number rs child of.0 task found.0.number number once of.2 stands in
        ap (λ k. slice_get rows.ids (slice_index rows.offsets k + number)) (sym found.2)
        ∙ ap (λ k. slice_get rows.ids (slice_index rows.offsets found.0.parent + k)) (sym same.1)
        ∙ filled own.0 child found.0 (slice_get_within tasks own.0 child own.1) own.1 found.1
