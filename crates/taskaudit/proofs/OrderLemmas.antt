-- The lines of an order, and the order that shows a verdict.
use Rattle.std.proofs.Common.{◌≡◌, ◌∙◌, ◌<◌, ◌+◌, ◌++◌, ℕ, List, [], ◌∷◌, Option, Some, None, length, take}
use Rattle.std.proofs.Common.{slice_index, sym, ap, subst, decimal, codes, refl}
use Rattle.std.proofs.lemmas.List.{flat_map_more, take_more}
use Rattle.std.proofs.lemmas.List.Sorted.{Contains-permutation, IsPermutation-sym}
use Rattle.std.proofs.lemmas.Option.{none-some, same_Some, slice_get-get_or, slice_get_within}
use Rattle.std.specs.Prelude.{slice_get, option_map, Contains}
use Rattle.ompt_events.specs.declared.records.Record.{Record}
use Rattle.ompt_events.specs.Places.{places, thread_at}
use Rattle.ompt_events.specs.Linearization.{IsLinearization}
use Rattle.ompt_events.proofs.PlaceLemmas.{place_below}
use Rattle.checker.specs.declared.verdict.Verdict.{Verdict}
use Rattle.checker.specs.declared.verdict.Verdict.TheVariants.{Yes, No, Malformed}
use Rattle.checker.specs.Readings.{by_task}
use Rattle.checker.specs.Counter.{IsShownBy}
use Rattle.checker.specs.Verdicts.{IsVerdict}
use Rattle.taskaudit.specs.Orders.{place_line, order_lines, order_shown}

-- the places of an order of all records are theirs
linear_within : (rs : List Record) (order : List ℕ) → IsLinearization rs order → (i : ℕ) → Contains order i
    → i < length rs
linear_within rs order linear i stands =
    place_below rs i
    (Contains-permutation order (places rs) i (IsPermutation-sym (places rs) order linear.all_once)
    stands)

-- so are those of the order that shows a verdict
pub shown_within : (rs : List Record) (verdict : Verdict) (counter : Option (List ℕ)) (order : List ℕ)
    → IsVerdict rs verdict → IsShownBy (by_task rs) verdict counter → order_shown verdict counter ≡ Some order
    → (i : ℕ) → Contains order i → i < length rs
shown_within rs (Yes own) counter order judged shown is =
    linear_within rs order (subst (IsLinearization rs) (same_Some own order is) judged.linearization)
shown_within rs (No i why) (Some other) order judged shown is =
    linear_within rs order (subst (IsLinearization rs) (same_Some other order is) shown.linearization)
shown_within rs (No i why) None order judged shown is = absurd shown
shown_within rs (Malformed i cause) counter order judged shown is = absurd (cc)

-- the line of a record
line_read : (rs : List Record) (place thread seq : ℕ) → thread_at rs place ≡ Some thread
    → option_map (λ (r : Record). r.seq) (slice_get rs place) ≡ Some seq
    → place_line rs place ≡ decimal thread ++ (codes " " ++ (decimal seq ++ codes "\n"))
line_read rs place thread seq of_thread of_seq =
    by_record (slice_get rs place) refl
  where
    by_record : (found : Option Record) → slice_get rs place ≡ found
        → place_line rs place ≡ decimal thread ++ (codes " " ++ (decimal seq ++ codes "\n"))
    by_record None is =
        absurd (none-some thread (sym (ap (option_map (λ (r : Record). r.thread)) is) ∙ of_thread))
    by_record (Some r) is =
        let t : r.thread ≡ thread =
        same_Some r.thread thread (sym (ap (option_map (λ (x : Record). x.thread)) is) ∙ of_thread) in
        let s : r.seq ≡ seq =
        same_Some r.seq seq (sym (ap (option_map (λ (x : Record). x.seq)) is) ∙ of_seq) in
        rw (is, t, s)

-- one line more
pub lines_more : (rs : List Record) (order : List ℕ) (n place thread seq : ℕ) (start : List ℕ)
    → slice_get order n ≡ Some place → thread_at rs place ≡ Some thread
    → option_map (λ (r : Record). r.seq) (slice_get rs place) ≡ Some seq
    → (start ++ order_lines rs (take n order))
    ++ (decimal thread ++ (codes " " ++ (decimal seq ++ codes "\n")))
    ≡ start ++ order_lines rs (take (n + 1) order)
lines_more rs order n place thread seq start stands of_thread of_seq =
    let below : n < length order = slice_get_within order n place stands in
    let is : slice_index order n ≡ place =
    same_Some (slice_index order n) place (sym (slice_get-get_or order n 0 below) ∙ stands) in
    let longer : take (n + 1) order ≡ take n order ++ place ∷ [] =
    take_more order n 0 below ∙ ap (λ (p : ℕ). take n order ++ p ∷ []) is in
    ap (λ (l : List ℕ). (start ++ order_lines rs (take n order)) ++ l)
    (sym (line_read rs place thread seq of_thread of_seq))
    ∙ flat_map_more (place_line rs) start (take n order) place
    ∙ ap (λ (o : List ℕ). start ++ order_lines rs o) (sym longer)
