-- The least ledger lengths at which tasks are finished, with their descendants.
use Rattle.std.proofs.Common.{◌≡◌, ◌∙◌, ℕ, ◌<◌, ◌≤◌, ◌+◌, ◌-◌, List, length, get_or, Option, Some, None}
use Rattle.std.proofs.Common.{Result, Ok, Err, refl, sym, ap, subst, arith, inl, inr}
use Rattle.std.proofs.lemmas.Bool.{cases_eq}
use Rattle.std.proofs.lemmas.Option.{none-some, same_Some, slice_get_within, slice_get-get_or}
use Rattle.wait_coverage.proofs.OrderLemmas.{map_get}
use Rattle.std.proofs.lemmas.List.{length-map, length-set, get_or-set_same, get_or-set_other}
use Rattle.std.specs.Prelude.{IfOk, max, slice_get, slice_set, slice_index, map}
use Rattle.std.specs.Option.{option_map_or}
use Rattle.ompt_events.specs.declared.records.Record.{Record}
use Rattle.ompt_events.specs.Records.{creation}
use Rattle.ompt_events.specs.Places.{at, seen_at}
use Rattle.ompt_events.specs.Tree.{IsCreatedAt, IsDescendant, child, deeper}
use Rattle.ompt_events.specs.Coverage.{IsFamily}
use Rattle.ompt_events.specs.Traces.{IsTrace}
use Rattle.credit_ledger.specs.declared.entry.Entry.{Entry}
use Rattle.ompt_events.proofs.PlaceLemmas.{at_within}
use Rattle.ompt_events.proofs.ListLemmas.{contains_get}
use Rattle.task_tree.specs.Family.{FamilyView, IsFamilyOf}
use Rattle.task_tree.specs.Lineage.{parent_index}
use Rattle.task_tree.proofs.OnceLemmas.{creation_made}
use Rattle.task_tree.proofs.FamilyLemmas.{parent_noted}
use Rattle.task_tree.proofs.LineageLemmas.{parent_at_is, parent_is_at, child_within}
use Rattle.credit_ledger.specs.TraceEntries.{IsLedgerOf}
use Rattle.wait_coverage.specs.Lengths.{done_length, AreLengthsBy, AreLengths, AreLengthsBelow}
use Rattle.wait_coverage.specs.Done.{DoneView, records_of, tasks_of, AreFamilyLengths, IsDoneFrom}
use Rattle.wait_coverage.specs.Done.{AreOwnLengths}
use Rattle.wait_coverage.specs.Done.{IsParentsFirst, raised, AreRaised, IsAtOrAbove}
use Rattle.wait_coverage.specs.Done.IsAtOrAbove.{itself, further}
use Rattle.wait_coverage.specs.declared.lengths.Lengths.{Lengths}
use Rattle.wait_coverage.proofs.LengthLemmas.{AllCount, all_recorded, all_entered, done_below, below_done}

-- ---- each task by itself

pub own_by : (rs : List Record) (counts : ℕ → Type 0) (tasks : List ℕ) (table : List Lengths) (own : List ℕ)
    → AllCount rs counts → AreLengthsBy rs counts tasks table → own ≡ map done_length table
    → AreOwnLengths rs tasks own
own_by rs counts tasks table own all are is = record {
  all = ap length is ∙ length-map table done_length ∙ are.all;
  each = λ index task limit here stands.
      let inside = slice_get_within tasks index task here in
      let count = are.all in
      let zero : Lengths = record { whole = 0; body = 0; event = 0 } in
      let l : Lengths = get_or table index zero in
      let there = slice_get-get_or table index zero (omega (arith, inside, count)) in
      let mapped : slice_get own index ≡ Some (done_length l) =
      ap (λ xs. slice_get xs index) is ∙ map_get done_length table index l there in
      let least = are.each index task l here there in
      let P : ℕ → Type 0 = IsDoneFrom rs task in
      subst P (same_Some (done_length l) limit (sym mapped ∙ stands))
      (λ m small. (
        λ low.
            done_below rs counts task m l least small low,
        λ done. below_done rs counts task m l all least done,
      ));
}

pub own_of_records : (rs : List Record) (tasks : List ℕ) (table : List Lengths) (own : List ℕ)
    → AreLengths rs (length rs) tasks table → own ≡ map done_length table → AreOwnLengths rs tasks own
own_of_records rs tasks table own are is =
    own_by rs (λ k. k < length rs) tasks table own (all_recorded rs) are is

pub own_of_entries : (rs : List Record) (entries : List Entry) (tasks : List ℕ) (table : List Lengths)
    (own : List ℕ)
    → IsTrace rs → IsLedgerOf rs entries → AreLengthsBelow rs (length entries) tasks table
    → own ≡ map done_length table → AreOwnLengths rs tasks own
own_of_entries rs entries tasks table own trace ledger are is =
    own_by rs (λ k. seen_at rs k < length entries) tasks table own (all_entered rs entries trace ledger) are
    is

-- what holds of a result that has both
pub ok_both : {A E : Type 0} (r : Result A E) (P Q R : A → Type 0) → IfOk r P → IfOk r Q
    → ((v : A) → P v → Q v → R v) → IfOk r R
ok_both (Ok v) P Q R p q both = both v p q
ok_both (Err e) P Q R p q both = tt

-- ---- handed up

pub raised_start : (family : FamilyView) (order floor limits : List ℕ) → limits ≡ floor
    → AreRaised family order floor (length order) limits
raised_start family order floor limits same = record {
  all = ap length same;
  own =
      λ index.
      let is : slice_index limits index ≡ slice_index floor index = ap (λ l. slice_index l index) same in
      omega (arith, is);
  passed =
      λ place child up past here.
      let inside = slice_get_within order place child here in absurd (omega (arith, inside, past));
  least = λ top m low.
      let is : slice_index limits top ≡ slice_index floor top = ap (λ l. slice_index l top) same in
      let own = low top itself in
      omega (arith, is, own);
}

-- what is above a task is above what the task is above
above_child : (family : FamilyView) (index up : ℕ) → parent_index family index ≡ Some up → {below : ℕ}
    → IsAtOrAbove family index below → IsAtOrAbove family up below
above_child family index up is itself = further is itself
above_child family index up is (further step above) = further step (above_child family index up is above)

-- a set changes one item
index_set_same : (xs : List ℕ) (i x : ℕ) → i < length xs → slice_index (slice_set xs i x) i ≡ x
index_set_same xs i x less = get_or-set_same xs i x 0 less

index_set_other : (xs : List ℕ) (i k x : ℕ) → (i ≡ k → ⊥)
    → slice_index (slice_set xs i x) k ≡ slice_index xs k
index_set_other xs i k x apart = get_or-set_other xs i k x 0 (λ same. apart (sym same))

pub raised_more : (family : FamilyView) (order floor limits new : List ℕ) (place index : ℕ)
    → IsParentsFirst family order → slice_get order place ≡ Some index
    → ((up : ℕ) → parent_index family index ≡ Some up → up < length limits) → new ≡ raised family index limits
    → AreRaised family order floor (place + 1) limits → AreRaised family order floor place new
raised_more family order floor limits new place index first here within is are =
    of (parent_index family index) refl
  where
    of : (o : Option ℕ) → parent_index family index ≡ o → AreRaised family order floor place new
    of None none =
        let same : new ≡ limits =
        is
        ∙ ap
        (λ o.
        option_map_or
        (λ u. slice_set limits u (max (slice_index limits u) (slice_index limits index)))
        o limits)
        none in
        let P : List ℕ → Type 0 = AreRaised family order floor place in
        subst P (sym same) record {
          all = are.all;
          own = are.own;
          passed = λ k child up past there above. elim (cases_eq k place) [
            | inl at_place ↦
                let is_index : child ≡ index =
                same_Some child index (sym there ∙ ap (slice_get order) at_place ∙ here) in
                absurd (none-some up (sym none ∙ ap (parent_index family) (sym is_index) ∙ above))
            | inr apart ↦ are.passed k child up (omega (arith, past, apart)) there above
          ];
          least = are.least;
        }
    of (Some up) above =
        let value = max (slice_index limits up) (slice_index limits index) in
        let same : new ≡ slice_set limits up value =
        is
        ∙ ap
        (λ o.
        option_map_or
        (λ u. slice_set limits u (max (slice_index limits u) (slice_index limits index)))
        o limits)
        above in
        let there = index_set_same limits up value (within up above) in
        let grown : (k : ℕ) → slice_index limits k ≤ slice_index (slice_set limits up value) k =
        λ k. elim (cases_eq up k) [
          | inl here_up ↦
              let kept : slice_index (slice_set limits up value) k ≡ value =
              ap (slice_index (slice_set limits up value)) (sym here_up) ∙ there in
              let old : slice_index limits k ≡ slice_index limits up =
              ap (slice_index limits) (sym here_up) in
              omega (arith, kept, old)
          | inr apart ↦ let kept = index_set_other limits up k value apart in omega (arith, kept)
        ] in
        let P : List ℕ → Type 0 = AreRaised family order floor place in
        subst P (sym same) record {
          all = length-set limits up value ∙ are.all;
          own = λ k. let old = are.own k in let more = grown k in omega (arith, old, more);
          passed = λ k child other past is_child parent.
              let kept =
              index_set_other limits up child value
              (λ same_up.
              let less =
              first.first place k index up here (is_child ∙ ap Some (sym same_up)) above in
              absurd (omega (arith, less, past))) in
              elim (cases_eq k place) [
                | inl at_place ↦
                    let is_index : child ≡ index =
                    same_Some child index (sym is_child ∙ ap (slice_get order) at_place ∙ here) in
                    let is_up : other ≡ up =
                    same_Some other up (sym parent ∙ ap (parent_index family) is_index ∙ above) in
                    let new_up : slice_index (slice_set limits up value) other ≡ value =
                    ap (slice_index (slice_set limits up value)) is_up ∙ there in
                    let old_child : slice_index limits child ≡ slice_index limits index =
                    ap (slice_index limits) is_index in
                    omega (arith, kept, new_up, old_child)
                | inr apart ↦
                    let old = are.passed k child other (omega (arith, past, apart)) is_child parent in
                    let more = grown other in
                    omega (arith, kept, old, more)
              ];
          least = λ top m low.
              let before = are.least top m low in
              elim (cases_eq up top) [
                | inl same_top ↦
                    let is_value : slice_index (slice_set limits up value) top ≡ value =
                    ap (slice_index (slice_set limits up value)) (sym same_top) ∙ there in
                    let is_up : slice_index limits up ≡ slice_index limits top =
                    ap (slice_index limits) same_top in
                    let child_low =
                    are.least index m
                    (λ k under.
                    low k (above_child family index top (above ∙ ap Some same_top) under)) in
                    omega (arith, before, is_value, is_up, child_low)
                | inr apart ↦
                    let kept = index_set_other limits up top value apart in omega (arith, before, kept)
              ];
        }

-- the step at a place counted from the end
pub raised_step : (family : FamilyView) (order floor limits new : List ℕ) (passed index : ℕ)
    → IsParentsFirst family order → passed < length order → index ≡ get_or order (length order - 1 - passed) 0
    → ((up : ℕ) → parent_index family index ≡ Some up → up < length limits) → new ≡ raised family index limits
    → AreRaised family order floor (length order - passed) limits
    → AreRaised family order floor (length order - (passed + 1)) new
raised_step family order floor limits new passed index first less here within is are =
    let place = length order - 1 - passed in
    let next : length order - passed ≡ place + 1 = omega (arith, less) in
    let now : length order - (passed + 1) ≡ place = omega (arith, less) in
    let there : slice_get order place ≡ Some index =
    slice_get-get_or order place 0 (omega (arith, less)) ∙ ap Some (sym here) in
    rw now (raised_more family order floor limits new place index first there within is (rw next at are))

-- ---- from parents to descendants

-- a task that is created has an index, as has its parent
pub record HasIndices (rs : List Record) (tasks : List ℕ) (parent task : ℕ) : Type 0 where
  pub index : ℕ
  pub up : ℕ
  pub is_task : slice_get tasks index ≡ Some task
  pub is_parent : slice_get tasks up ≡ Some parent

pub indices_of : (rs : List Record) (family : FamilyView) (i parent task : ℕ) → IsFamilyOf rs family
    → at creation rs i ≡ Some (parent, task) → HasIndices rs family.tasks parent task
indices_of rs family i parent task are creates =
    let own =
    contains_get family.tasks task
    (are.noted.each i task (at_within creation rs i (parent, task) creates)
    (creation_made rs parent task i creates)) in
    let up =
    contains_get family.tasks parent
    (parent_noted rs family.tasks i parent task are.noted are.rooted creates) in
    record { index = own.0; up = up.0; is_task = own.1; is_parent = up.1 }

-- where no parent has less than its child, no task has less than one of its descendants
descends : (rs : List Record) (family : FamilyView) (limits : List ℕ) (ancestor top task : ℕ)
    → IsFamilyOf rs family
    → ((index up : ℕ) → parent_index family index ≡ Some up
    → slice_index limits index ≤ slice_index limits up)
    → slice_get family.tasks top ≡ Some ancestor → IsDescendant rs ancestor task
    → (index : ℕ) × (slice_get family.tasks index ≡ Some task)
    × (slice_index limits index ≤ slice_index limits top)
descends rs family limits ancestor top task are rising is_top (child i creates) =
    let known = indices_of rs family i ancestor task are creates in
    let is = parent_at_is rs family known.index task top are known.is_task (ancestor, is_top, (i, creates)) in
    (known.index, known.is_task, rising known.index top is)
descends rs family limits ancestor top task are rising is_top (deeper i {parent = parent} above creates) =
    let known = indices_of rs family i parent task are creates in
    let before = descends rs family limits ancestor top parent are rising is_top above in
    let is =
    parent_at_is rs family known.index task before.0 are known.is_task (parent, before.1, (i, creates)) in
    let step = rising known.index before.0 is in
    let rest = before.2 in
    (known.index, known.is_task, omega (arith, step, rest))

-- what a task is above is of its family
above_family : (rs : List Record) (family : FamilyView) (top task : ℕ) → IsFamilyOf rs family
    → slice_get family.tasks top ≡ Some task → {index : ℕ} → IsAtOrAbove family top index
    → (t : ℕ) × (slice_get family.tasks index ≡ Some t) × IsFamily rs task t
above_family rs family top task are here itself = (task, here, inl refl)
above_family rs family top task are here (further {index = index} {up = up} step above) =
    let parent = above_family rs family top task are here above in
    let own = get_or family.tasks index 0 in
    let there = slice_get-get_or family.tasks index 0 (child_within rs family index up are step) in
    let made = parent_is_at rs family index own up are there step in
    let same : made.0 ≡ parent.0 = same_Some made.0 parent.0 (sym made.1 ∙ parent.1) in
    let P : ℕ → Type 0 = λ p. IsCreatedAt rs made.2.0 p own in
    let creates = subst P same made.2.1 in
    (own, there, inr (below parent.0 own made.2.0 parent.2 creates))
  where
    below : (t own i : ℕ) → IsFamily rs task t → IsCreatedAt rs i t own → IsDescendant rs task own
    below t own i (inl same) creates =
        let P : ℕ → Type 0 = λ p. IsCreatedAt rs i p own in child i (subst P same creates)
    below t own i (inr under) creates = deeper i under creates

-- the limits that were handed up, where all tasks have passed
rising : (rs : List Record) (family : FamilyView) (order own limits : List ℕ) → IsFamilyOf rs family
    → IsParentsFirst family order → AreRaised family order own 0 limits → (index up : ℕ)
    → parent_index family index ≡ Some up → slice_index limits index ≤ slice_index limits up
rising rs family order own limits are first raised_all index up is =
    let place = first.all index (child_within rs family index up are is) in
    raised_all.passed place.0 index up (omega arith) place.1 is

-- a task of the family has an index, and no more than the task itself
low_of : (rs : List Record) (family : FamilyView) (order own limits : List ℕ) (index task t : ℕ)
    → IsFamilyOf rs family → IsParentsFirst family order → AreRaised family order own 0 limits
    → slice_get family.tasks index ≡ Some task → IsFamily rs task t
    → (k : ℕ) × (slice_get family.tasks k ≡ Some t) × (slice_index limits k ≤ slice_index limits index)
low_of rs family order own limits index task t are first raised_all here (inl same) =
    (index, here ∙ ap Some (sym same), omega arith)
low_of rs family order own limits index task t are first raised_all here (inr below) =
    descends rs family limits task index t are (rising rs family order own limits are first raised_all) here
    below

index_at : (xs : List ℕ) (i x : ℕ) → slice_get xs i ≡ Some x → slice_index xs i ≡ x
index_at xs i x is =
    same_Some (slice_index xs i) x (sym (slice_get-get_or xs i 0 (slice_get_within xs i x is)) ∙ is)

-- the greatest of the lengths of a task and its descendants
pub greatest_by : (done : DoneView) (order : List ℕ) → IsFamilyOf (records_of done) done.teams.run.family
    → length done.own ≡ length (tasks_of done) → IsParentsFirst done.teams.run.family order
    → AreRaised done.teams.run.family order done.own 0 done.families → AreFamilyLengths done
greatest_by done order are own_all first raised_all = record {
  all = raised_all.all ∙ own_all;
  each = λ index task limit m here stands. (
    λ low t of t_index t_limit t_here t_stands.
        let is = index_at done.families index limit stands in
        let is_own = index_at done.own t_index t_limit t_stands in
        let known =
        low_of (records_of done) done.teams.run.family order done.own done.families index task t are first
        raised_all here of in
        let same : known.0 ≡ t_index = are.makers.apart known.0 t_index t known.1 t_here in
        let is_limit : slice_index done.families known.0 ≡ slice_index done.families t_index =
        ap (slice_index done.families) same in
        let floor = raised_all.own t_index in
        let less = known.2 in
        omega (arith, is, low, is_own, floor, less, is_limit),
    λ early.
        let is = index_at done.families index limit stands in
        let low = raised_all.least index m (λ k under.
        let member = above_family (records_of done) done.teams.run.family index task are here under in
        let inside = slice_get_within (tasks_of done) k member.0 member.1 in
        early member.0 member.2 k (slice_index done.own k) member.1
        (slice_get-get_or done.own k 0 (omega (arith, inside, own_all)))) in
        omega (arith, is, low),
  );
}
