use Rattle.std.proofs.Common.{◌∙◌, ℕ, Some, sym, ap, subst}
use Rattle.std.proofs.lemmas.Option.{same_Some}
use Rattle.std.specs.Prelude.{is_some}
use Rattle.wait_coverage.specs.Coverage.{HasBegun}
use Rattle.teams.proofs.CallLemmas.{read_at}
use Rattle.wait_coverage.proofs.CoverageLemmas.{roster_more}
use Rattle.wait_coverage.proofs.coverage.Coverage.roster_spans.Goals as goal

pub unwrap-member-requires : goal.unwrap-member-requires
unwrap-member-requires c =
    let known = c.requires c.loop-index.index c.loop-index-test.true in
    let here =
    read_at c.args.roster.now c.loop-index.index c.index-roster-index.result c.loop-index-test.true
    c.index-roster-index.is in
    ap is_some (c.get.ensures ∙ same_Some c.index-roster-index.result (Some known.0) (sym here ∙ known.1))

pub member_span-requires : goal.member_span-requires
member_span-requires c =
    let known = c.requires c.loop-index.index c.loop-index-test.true in
    let here =
    read_at c.args.roster.now c.loop-index.index c.index-roster-index.result c.loop-index-test.true
    c.index-roster-index.is in
    let same =
    same_Some known.0 c.unwrap-member.result
    (sym (c.get.ensures ∙ same_Some c.index-roster-index.result (Some known.0) (sym here ∙ known.1))
    ∙ c.unwrap-member.ensures) in
    let P : ℕ → Type 0 = HasBegun c.args.self.now.teams.begins c.args.number in
    subst P same known.2

pub loop-index-preserved : goal.loop-index-preserved
loop-index-preserved c =
    let here =
    read_at c.args.roster.now c.loop-index.index c.index-roster-index.result c.loop-index-test.true
    c.index-roster-index.is in
    let seat = here ∙ ap Some (sym c.get.ensures ∙ c.unwrap-member.ensures) in
    rw c.in_ok-push.ensures.items
    (roster_more c.args.self.now.teams.run.records c.args.self.now.teams.run.family.tasks c.args.number
    c.loop-index.index c.unwrap-member.result c.args.roster.now c.loop-index.spans.items
    c.in_ok-member_span.field-0 c.loop-index.invariant seat c.in_ok-member_span.ensures)
