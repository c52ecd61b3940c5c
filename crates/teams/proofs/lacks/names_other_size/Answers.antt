use Rattle.std.proofs.Common.{◌≡◌, ◌<◌, ◌∙◌, ℕ, Some, length, Bool, false, refl, sym, ap, subst, arith, rules}
use Rattle.std.proofs.lemmas.Bool.{false≢true}
use Rattle.std.specs.Prelude.{◌↔◌, IsTrue, slice_get}
use Rattle.ompt_events.specs.declared.records.Membership.{Membership}
use Rattle.ompt_events.specs.Records.{joined}
use Rattle.ompt_events.specs.Places.{at}
use Rattle.task_tree.specs.Runs.{RunView}
use Rattle.teams.specs.Members.{IsLead}
use Rattle.teams.proofs.CallLemmas.{read_at}
use Rattle.teams.proofs.MemberLemmas.{lead_within}
use Rattle.teams.proofs.LackLemmas.{size_as_first, mixed_as_first, size_unlike_first, mixed_unlike_first}
use Rattle.teams.proofs.lacks.names_other_size.Goals as goal

-- what the test says of the first member of the team
names_first : (run named : RunView) (found : Bool) (actual lead parallel : ℕ) → named ≡ run
    → ((place : ℕ) (first : Membership) → at joined named.records place ≡ Some first
    → slice_get named.family.tasks lead ≡ Some first.member → IsTrue found ↔ (first.actual ≡ actual))
    → (leads : IsLead run.records run.family.tasks parallel lead) → IsTrue found ↔
    (leads.first.actual ≡ actual)
names_first run named found actual lead parallel same says leads =
    let P : RunView → Type 0 =
    λ r.
    (place : ℕ) (first : Membership) → at joined r.records place ≡ Some first
    → slice_get r.family.tasks lead ≡ Some first.member → IsTrue found ↔ (first.actual ≡ actual) in
    subst P same says leads.place leads.first leads.joins leads.here

pub names_size-requires : goal.names_size-requires
names_size-requires c =
    let tables = c.args.tables.now in
    let inside : c.args.lead < length tables.run.family.tasks =
    lead_within tables.run.records tables.run.family.tasks tables.run.family.tasks c.args.member.parallel
    c.args.lead c.requires.joins.leads refl in
    let same = ap (λ (r : RunView). length r.family.tasks) c.run.ensures.value in
    omega (arith, inside, same)

pub returns-then-names_size-clause-differs : goal.returns-then-names_size-clause-differs
returns-then-names_size-clause-differs c =
    let tables = c.args.tables.now in
    let rs = tables.run.records in
    let tasks = tables.run.family.tasks in
    let m = c.args.member in
    let leads = c.requires.joins.leads in
    let names =
    names_first tables.run c.run.result.now c.names_size.result m.actual c.args.lead m.parallel
    c.run.ensures.value c.names_size.ensures leads in
    let within : c.args.lead < length c.args.mixed.now.items =
    lead_within rs tasks c.args.mixed.now.items m.parallel c.args.lead leads c.requires.mixed.all in
    size_as_first rs c.args.at tasks c.args.mixed.now.items m c.args.lead c.index.result.now leads
    (names.0 c.if-names_size.true)
    (read_at c.args.mixed.now.items c.args.lead c.index.result.now within c.index.ensures) c.requires.mixed

pub returns-then-names_size-clause-mixed : goal.returns-then-names_size-clause-mixed
returns-then-names_size-clause-mixed c =
    let tables = c.args.tables.now in
    let m = c.args.member in
    let leads = c.requires.joins.leads in
    let are = c.run.ensures.are_tables in
    let names =
    names_first tables.run c.run.result.now c.names_size.result m.actual c.args.lead m.parallel
    c.run.ensures.value c.names_size.ensures leads in
    mixed_as_first tables.run.records c.args.at tables.run.family.tasks c.args.mixed.now.items m c.args.lead
    leads are.run.family.once are.run.family.makers.apart c.requires.joins.joins
    (names.0 c.if-names_size.true) c.requires.mixed

pub index_mut-requires : goal.index_mut-requires
index_mut-requires c =
    let tables = c.args.tables.now in
    let within : c.args.lead < length c.args.mixed.now.items =
    lead_within tables.run.records tables.run.family.tasks c.args.mixed.now.items c.args.member.parallel
    c.args.lead c.requires.joins.leads c.requires.mixed.all in
    search rules

pub returns-clause-differs : goal.returns-clause-differs
returns-clause-differs c =
    let tables = c.args.tables.now in
    let m = c.args.member in
    let leads = c.requires.joins.leads in
    let names =
    names_first tables.run c.run.result.now c.names_size.result m.actual c.args.lead m.parallel
    c.run.ensures.value c.names_size.ensures leads in
    let no : c.names_size.result ≡ false = search rules in (
      λ yes.
          size_unlike_first tables.run.records c.args.at tables.run.family.tasks m c.args.lead leads
          c.requires.joins.joins (λ same. false≢true (sym no ∙ names.1 same)),
      λ has. refl,
    )

pub returns-clause-mixed : goal.returns-clause-mixed
returns-clause-mixed c =
    let tables = c.args.tables.now in
    let m = c.args.member in
    let leads = c.requires.joins.leads in
    let are = c.run.ensures.are_tables in
    let names =
    names_first tables.run c.run.result.now c.names_size.result m.actual c.args.lead m.parallel
    c.run.ensures.value c.names_size.ensures leads in
    let no : c.names_size.result ≡ false = search rules in
    let within : c.args.lead < length c.args.mixed.now.items =
    lead_within tables.run.records tables.run.family.tasks c.args.mixed.now.items m.parallel c.args.lead leads
    c.requires.mixed.all in
    mixed_unlike_first tables.run.records c.args.at tables.run.family.tasks c.args.mixed.now.items m
    c.args.lead leads are.run.family.once are.run.family.makers.apart c.requires.joins.joins
    (λ same. false≢true (sym no ∙ names.1 same)) within c.requires.mixed
