use Rattle.std.proofs.Common.{◌≡◌, ◌∙◌, length, ap, subst}
use Rattle.std.proofs.lemmas.List.{length-map}
use Rattle.wait_coverage.specs.Lengths.{done_length}
use Rattle.wait_coverage.specs.Done.{DoneView, IsParentsFirst, AreRaised}
use Rattle.wait_coverage.proofs.DoneLemmas.{greatest_by}
use Rattle.wait_coverage.proofs.done.Done.by_lengths.Goals as goal

pub invariant_of-result : goal.invariant_of-result
invariant_of-result c =
    let run = c.args.teams.now.run in
    let family_of = c.run-run.ensures.is_teams.run.family in
    let own = c.in_ok-own.own.items in
    let order = c.in_ok-order.order.items in
    let all : length own ≡ length run.family.tasks =
    ap length c.in_ok-own.ensures ∙ length-map c.args.lengths.now done_length ∙ c.requires in
    let is_family : c.family.result.now ≡ run.family =
    c.family.ensures.value ∙ ap (λ r. r.family) c.run-run.ensures.value in
    let first : IsParentsFirst run.family order =
    rw is_family at (c.in_ok-order.ensures run.records (rw is_family family_of)) in
    let limits = c.in_ok-families.families.items in
    let by_run : AreRaised run.family c.as_slice-2.result.now c.as_slice.result.now 0 limits =
    subst (λ r. AreRaised r.family c.as_slice-2.result.now c.as_slice.result.now 0 limits)
    c.run-run.ensures.value c.in_ok-families.ensures in
    let by_order : AreRaised run.family order c.as_slice.result.now 0 limits =
    subst (λ o. AreRaised run.family o c.as_slice.result.now 0 limits) c.as_slice-2.ensures.value
    by_run in
    let raised : AreRaised run.family order own 0 limits =
    subst (λ o. AreRaised run.family order o 0 limits) c.as_slice.ensures.value by_order in
    let done : DoneView = record { teams = c.args.teams.now; own = own; families = limits } in
    record {
      teams = c.run-run.ensures.is_teams;
      own = all;
      families = greatest_by done order family_of all first raised;
    }
