use Rattle.std.proofs.Common.{true, ◌≡◌, ◌∙◌, ◌<◌, ◌≤◌, ◌++◌, [], ◌∷◌, ℕ, length, refl, ap, arith}
use Rattle.std.proofs.Math.ListN.{set}
use Rattle.std.proofs.lemmas.List.{get_or_default, get_or-set_same}
use Rattle.std.specs.Prelude.{slice_index}
use Rattle.checker.specs.Merge.{Stands, IsUnplaced, IsPlaceTaken, MayStandNext}
use Rattle.checker.proofs.MergingLemmas.{IsMerging, merging_start, merging_more, missing_less, passed_more}
use Rattle.checker.proofs.FrontLemmas.{front_of, ready_more}
use Rattle.checker.proofs.merge.place_all.Goals as goal
use Rattle.task_tree.proofs.GapFreeLemmas.{thread_there}

pub first_ready-requires : goal.first_ready-requires
first_ready-requires c =
    let placed = c.in_ok-standing.standing.placed.items in
    let makers = c.places-places.result.now in
    let passed : (k : ℕ) → 0 ≤ k → k < c.first_missing-low.result → slice_index makers k < length placed
    → Stands placed (slice_index makers k) =
    rw c.deref.ensures.value at c.first_missing-low.ensures.passed in
    let missing : c.first_missing-low.result < length makers
    → IsUnplaced placed (slice_index makers c.first_missing-low.result) =
    rw c.deref.ensures.value at c.first_missing-low.ensures.missing in
    front_of c.args.makers.now c.args.makers.now.run makers c.args.makers.now.suspensions placed
    c.in_ok-standing.standing.heads.items c.in_ok-standing.standing.links.items c.args.base.items
    c.first_missing-low.result c.run-run.ensures.is_ledger refl c.places-places.ensures refl
    (rw (c.run-run.ensures.value, c.as_slice.ensures.value) at c.in_ok-standing.ensures)
    c.first_missing-low.ensures.within (λ k. passed k (omega arith)) missing

pub merge-init : goal.merge-init
merge-init c =
    let placed = c.in_ok-standing.standing.placed.items in
    let makers = c.places-places.result.now in
    let passed : (k : ℕ) → 0 ≤ k → k < c.first_missing-low.result → slice_index makers k < length placed
    → Stands placed (slice_index makers k) =
    rw c.deref.ensures.value at c.first_missing-low.ensures.passed in
    let missing : c.first_missing-low.result < length makers
    → IsUnplaced placed (slice_index makers c.first_missing-low.result) =
    rw c.deref.ensures.value at c.first_missing-low.ensures.missing in
    record {
      merging =
          merging_start c.run-run.result.now.records placed c.in_ok-standing.standing.heads.items
          c.in_ok-standing.standing.links.items c.args.base.items
          (rw c.as_slice.ensures.value at c.in_ok-standing.ensures);
      within = c.first_missing-low.ensures.within;
      passed = λ k. passed k (omega arith);
      missing = missing;
      ready = rw c.run-run.ensures.value c.in_ok-ready.ensures;
    }

pub release-requires-clause-front : goal.release-requires-clause-front
release-requires-clause-front c =
    let rs = c.run-run.result.now.records in
    let placed = c.merge.standing.placed.items in
    let heads = c.merge.standing.heads.items in
    let links = c.merge.standing.links.items in
    let makers = c.places-places.result.now in
    let place = c.in-Some.place in
    let low = c.merge.low in
    let now_low = c.first_missing-low-in-Some.result in
    let merging = c.merge.invariant.merging in
    let taken : IsPlaceTaken rs placed place c.take_first.new.ready =
    (rw c.deref-in-merge.ensures.value at c.in-Some.ensures.taken) rs c.merge.invariant.ready in
    let runs = thread_there rs place taken.next.within in
    let now_placed = c.place.new.self.placed.items in
    let placed_is : now_placed ≡ set placed place true = c.place.ensures.placed in
    let heads_are = c.place.ensures.heads runs.0 runs.1 in
    let now : IsMerging rs now_placed c.place.new.self.heads.items c.place.new.self.links.items
    c.args.base.items (c.merge.order.items ++ place ∷ []) =
    rw (placed_is, heads_are, c.place.ensures.links)
    (merging_more rs placed heads links c.args.base.items c.merge.order.items place runs.0 merging
    taken.next taken.first runs.1) in
    let passed : (k : ℕ) → low ≤ k → k < now_low → slice_index makers k < length now_placed
    → Stands now_placed (slice_index makers k) =
    rw c.deref-in-Some.ensures.value at c.first_missing-low-in-Some.ensures.passed in
    let missing : now_low < length makers → IsUnplaced now_placed (slice_index makers now_low) =
    rw c.deref-in-Some.ensures.value at c.first_missing-low-in-Some.ensures.missing in
    let now_passed : (k : ℕ) → k < now_low → slice_index makers k < length now_placed
    → Stands now_placed (slice_index makers k) =
    rw placed_is
    (passed_more placed makers low now_low place c.merge.invariant.passed (rw placed_is at passed)) in
    let front =
    front_of c.args.makers.now c.run-run.result.now makers c.suspensions.result.now now_placed
    c.place.new.self.heads.items c.place.new.self.links.items (c.merge.order.items ++ place ∷ [])
    now_low c.run-run.ensures.is_ledger c.run-run.ensures.value c.places-places.ensures
    c.suspensions.ensures.value now.standing c.first_missing-low-in-Some.ensures.within now_passed
    missing in
    rw (c.as_slice-in-Some.ensures.value, c.as_slice-in-Some-2.ensures.value) front

pub merge-smaller : goal.merge-smaller
merge-smaller c =
    let placed = c.merge.standing.placed.items in
    let taken : IsPlaceTaken c.run-run.result.now.records placed c.in-Some.place c.take_first.new.ready =
    (rw c.deref-in-merge.ensures.value at c.in-Some.ensures.taken) c.run-run.result.now.records
    c.merge.invariant.ready in
    rw c.place.ensures.placed
    (missing_less placed c.in-Some.place (rw c.merge.invariant.merging.standing.all taken.next.within)
    taken.next.missing)

pub merge-preserved : goal.merge-preserved
merge-preserved c =
    let rs = c.run-run.result.now.records in
    let placed = c.merge.standing.placed.items in
    let heads = c.merge.standing.heads.items in
    let links = c.merge.standing.links.items in
    let makers = c.places-places.result.now in
    let place = c.in-Some.place in
    let low = c.merge.low in
    let now_low = c.first_missing-low-in-Some.result in
    let merging = c.merge.invariant.merging in
    let taken : IsPlaceTaken rs placed place c.take_first.new.ready =
    (rw c.deref-in-merge.ensures.value at c.in-Some.ensures.taken) rs c.merge.invariant.ready in
    let runs = thread_there rs place taken.next.within in
    let now_placed = c.place.new.self.placed.items in
    let placed_is : now_placed ≡ set placed place true = c.place.ensures.placed in
    let heads_are = c.place.ensures.heads runs.0 runs.1 in
    let now : IsMerging rs now_placed c.place.new.self.heads.items c.place.new.self.links.items
    c.args.base.items (c.merge.order.items ++ place ∷ []) =
    rw (placed_is, heads_are, c.place.ensures.links)
    (merging_more rs placed heads links c.args.base.items c.merge.order.items place runs.0 merging
    taken.next taken.first runs.1) in
    let passed : (k : ℕ) → low ≤ k → k < now_low → slice_index makers k < length now_placed
    → Stands now_placed (slice_index makers k) =
    rw c.deref-in-Some.ensures.value at c.first_missing-low-in-Some.ensures.passed in
    let missing : now_low < length makers → IsUnplaced now_placed (slice_index makers now_low) =
    rw c.deref-in-Some.ensures.value at c.first_missing-low-in-Some.ensures.missing in
    let now_passed : (k : ℕ) → k < now_low → slice_index makers k < length now_placed
    → Stands now_placed (slice_index makers k) =
    rw placed_is
    (passed_more placed makers low now_low place c.merge.invariant.passed (rw placed_is at passed)) in
    let front =
    front_of c.args.makers.now c.run-run.result.now makers c.suspensions.result.now now_placed
    c.place.new.self.heads.items c.place.new.self.links.items (c.merge.order.items ++ place ∷ [])
    now_low c.run-run.ensures.is_ledger c.run-run.ensures.value c.places-places.ensures
    c.suspensions.ensures.value now.standing c.first_missing-low-in-Some.ensures.within now_passed
    missing in
    let was =
    front_of c.args.makers.now c.run-run.result.now makers c.suspensions.result.now placed heads links
    c.merge.order.items low c.run-run.ensures.is_ledger c.run-run.ensures.value
    c.places-places.ensures c.suspensions.ensures.value merging.standing c.merge.invariant.within
    c.merge.invariant.passed c.merge.invariant.missing in
    let is_next : slice_index (set heads runs.0 (slice_index links place)) runs.0 ≡ slice_index links place =
    get_or-set_same heads runs.0 (slice_index links place) 0
    (merging.standing.are_heads.all place runs.0 runs.1) in
    let next_is : c.index.result.now ≡ slice_index links place =
    c.index.ensures
    ∙ get_or_default c.place.new.self.links.items place c.index.result.now 0
    (rw c.place.ensures.links (rw merging.standing.rising.all taken.next.within))
    ∙ ap (λ l. slice_index l place) c.place.ensures.links in
    record {
      merging = rw c.in_ok-push.ensures.items now;
      within = c.first_missing-low-in-Some.ensures.within;
      passed = now_passed;
      missing = missing;
      ready =
          rw placed_is
          (ready_more rs c.run-run.result.now.family c.suspensions.result.now placed heads low now_low
          place runs.0 (slice_index links place) c.take_first.new.ready c.release.new.ready was
          (rw (placed_is, heads_are) at front) runs.1 is_next
          (rw merging.standing.all taken.next.within) taken
          (rw (c.as_slice-in-Some.ensures.value, placed_is) at c.in_ok-release.ensures.more)
          (rw (c.as_slice-in-Some.ensures.value, placed_is, next_is) at c.in_ok-release.ensures.next)
          (rw (c.as_slice-in-Some.ensures.value, placed_is) at c.in_ok-release.ensures.awaiting)
          (λ i k above below.
          (rw (c.as_slice-in-Some.ensures.value, placed_is) at c.in_ok-release.ensures.naming) i k
          (omega (arith, above)) (omega (arith, below))));
    }

pub returns : goal.returns
returns c =
    let rs = c.run-run.result.now.records in
    let none : (j : ℕ) → MayStandNext rs c.merge.standing.placed.items j → ⊥ =
    (rw c.deref-in-merge.ensures.value at c.in_default.ensures.none) rs c.merge.invariant.ready in
    rw (← c.run-run.ensures.value) (record {
      heads = c.merge.standing.heads.items;
      links = c.merge.standing.links.items;
      standing = c.merge.invariant.merging.standing;
      behind = c.merge.invariant.merging.behind;
      ended = none;
    })
