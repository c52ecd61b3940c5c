use Rattle.std.proofs.Common.{◌≡◌, ◌∙◌, ℕ, Some, length, true, false, sym, ap, subst, arith, rules}
use Rattle.std.proofs.lemmas.Bool.{false≢true}
use Rattle.std.specs.Prelude.{◌↔◌, IsTrue, slice_get}
use Rattle.ompt_events.specs.declared.records.Membership.{Membership}
use Rattle.ompt_events.specs.Records.{joined}
use Rattle.ompt_events.specs.Places.{at}
use Rattle.ompt_events.specs.Causes.{outside}
use Rattle.task_tree.specs.Runs.{RunView}
use Rattle.teams.proofs.MemberLemmas.{lead_within}
use Rattle.teams.proofs.RosterLemmas.{says_other, too_small, fits_there}
use Rattle.teams.proofs.rosters.fits.Goals as goal

pub returns-then-member : goal.returns-then-member
returns-then-member c = outside c.args.member c.requires.joins.joins c.if-member.true

pub size-requires : goal.size-requires
size-requires c =
    let tables = c.args.tables.now in
    lead_within tables.run.records tables.run.family.tasks tables.sizes c.args.member.parallel c.args.lead
    c.requires.joins.leads c.run-run.ensures.are_tables.sizes.all

pub returns-then-size-member : goal.returns-then-size-member
returns-then-size-member c =
    let tables = c.args.tables.now in
    too_small tables.run.records c.args.at tables.run.family.tasks tables.sizes c.args.lead c.size.result
    c.args.member c.run-run.ensures.are_tables.sizes c.requires.joins.joins c.requires.joins.leads
    c.size.ensures c.if-size-member.true

pub names_size-requires : goal.names_size-requires
names_size-requires c =
    let tables = c.args.tables.now in
    let inside =
    lead_within tables.run.records tables.run.family.tasks tables.sizes c.args.member.parallel c.args.lead
    c.requires.joins.leads c.run-run.ensures.are_tables.sizes.all in
    let all = c.run-run.ensures.are_tables.sizes.all in
    let same = ap (λ (r : RunView). length r.family.tasks) c.run-run.ensures.value in
    omega (arith, inside, all, same)

pub returns-then-not-names_size : goal.returns-then-not-names_size
returns-then-not-names_size c =
    let tables = c.args.tables.now in
    let leads = c.requires.joins.leads in
    let P : RunView → Type 0 =
    λ r.
    (place : ℕ) (first : Membership) → at joined r.records place ≡ Some first
    → slice_get r.family.tasks c.args.lead ≡ Some first.member
    → IsTrue c.names_size.result ↔ (first.actual ≡ c.args.member.actual) in
    let names = subst P c.run-run.ensures.value c.names_size.ensures in
    let no : c.names_size.result ≡ false = search rules in
    says_other tables.run.records c.args.at tables.run.family.tasks c.args.lead c.args.member leads
    c.requires.joins.joins
    (λ same. false≢true (sym no ∙ (names leads.place leads.first leads.joins leads.here).1 same))

pub returns : goal.returns
returns c =
    let tables = c.args.tables.now in
    let leads = c.requires.joins.leads in
    let P : RunView → Type 0 =
    λ r.
    (place : ℕ) (first : Membership) → at joined r.records place ≡ Some first
    → slice_get r.family.tasks c.args.lead ≡ Some first.member
    → IsTrue c.names_size.result ↔ (first.actual ≡ c.args.member.actual) in
    let names = subst P c.run-run.ensures.value c.names_size.ensures in
    let yes : c.names_size.result ≡ true = search rules in
    fits_there tables.run.records c.args.at tables.run.family.tasks tables.sizes c.args.lead c.size.result
    c.args.member leads c.run-run.ensures.are_tables.sizes c.requires.whole c.size.ensures
    c.if-size-member.false c.if-member.false
    ((names leads.place leads.first leads.joins leads.here).0 yes)
