use Rattle.std.proofs.Common.{◌≡◌, ◌∙◌, ◌<◌, ◌^◌, Some, None, length, refl, sym, ap, arith, rules}
use Rattle.std.proofs.lemmas.Option.{same_Some, slice_get_within}
use Rattle.ompt_events.specs.Records.{joined, begun_root}
use Rattle.ompt_events.specs.Places.{at}
use Rattle.task_tree.proofs.SubjectLemmas.{call_task, call_none}
use Rattle.teams.specs.Members.{there_alone, there_joined, IsLeadAt}
use Rattle.teams.proofs.CallLemmas.{read_at}
use Rattle.teams.proofs.MemberLemmas.{joined_at_root, root_at_initial, lead_of_is, lead_within, size_few}
use Rattle.teams.proofs.MemberLemmas.{sizes_same, sizes_more, members_none, team_put, hashers_stay}
use Rattle.teams.proofs.members.note_member.Goals as goal

pub returns-in_default-clause-members : goal.returns-in_default-clause-members
returns-in_default-clause-members c =
    let run = c.args.run.now in
    members_none run c.args.at c.args.members.now c.requires.members
    (call_none run.family.tasks (at begun_root run.records c.args.at) c.begun_root.result
    c.begun_root.ensures c.in_default.is)

pub some-requires : goal.some-requires
some-requires c =
    let run = c.args.run.now in
    let own =
    call_task run.family.tasks (at begun_root run.records c.args.at) c.begun_root.result c.in-Some.index
    c.begun_root.ensures c.in-Some.is in
    let inside = slice_get_within run.family.tasks c.in-Some.index own.0 own.2 in
    let few = c.task_count-tasks.ensures.is_run.family.makers.few in
    let many = c.task_count-tasks.ensures.is_run.trace.few_records in
    omega (arith, inside, few, many)

pub index_mut-requires : goal.index_mut-requires
index_mut-requires c =
    let run = c.args.run.now in
    let own =
    call_task run.family.tasks (at begun_root run.records c.args.at) c.begun_root.result c.in-Some.index
    c.begun_root.ensures c.in-Some.is in
    let inside = slice_get_within run.family.tasks c.in-Some.index own.0 own.2 in
    let all = c.requires.members.teams.all in
    let within : c.in-Some.index < length c.args.members.now.teams.items = omega (arith, inside, all) in
    search rules

pub returns-in_default-joined-clause-members : goal.returns-in_default-joined-clause-members
returns-in_default-joined-clause-members c =
    let run = c.args.run.now in
    let rs = run.records in
    let tasks = run.family.tasks in
    let own =
    call_task tasks (at begun_root rs c.args.at) c.begun_root.result c.in-Some.index c.begun_root.ensures
    c.in-Some.is in
    let none : at joined rs c.args.at ≡ None = sym c.joined.ensures ∙ c.in_default-joined.is in
    record {
      teams =
          team_put rs c.args.at c.in-Some.index own.0 c.in-Some.index c.some.result tasks
          c.args.members.now.teams.items c.task_count-tasks.ensures.is_run.family.makers.apart
          c.requires.members.teams own.2 own.1
          (there_alone own.0 (root_at_initial rs c.args.at own.0 own.1 none) refl) c.some.ensures;
      sizes = sizes_same rs c.args.at tasks c.args.members.now.sizes.items c.requires.members.sizes none;
    }

pub some-requires-2 : goal.some-requires-2
some-requires-2 c =
    let run = c.args.run.now in
    let rs = run.records in
    let tasks = run.family.tasks in
    let m = c.in-Some-joined.member in
    let own =
    call_task tasks (at begun_root rs c.args.at) c.begun_root.result c.in-Some.index c.begun_root.ensures
    c.in-Some.is in
    let joins : at joined rs c.args.at ≡ Some m = sym c.joined.ensures ∙ c.in-Some-joined.is in
    let is = own.2 ∙ ap Some (same_Some own.0 m.member (sym own.1 ∙ joined_at_root rs c.args.at m joins)) in
    let leads =
    lead_of_is rs c.args.at tasks c.args.leads.now c.lead_of.new.leads m c.in-Some.index c.in_ok-lead.lead
    c.requires.leads joins is c.in_ok-lead.ensures in
    let inside = slice_get_within tasks c.in_ok-lead.lead leads.first.member leads.here in
    let few = c.task_count-tasks.ensures.is_run.family.makers.few in
    let many = c.task_count-tasks.ensures.is_run.trace.few_records in
    omega (arith, inside, few, many)

pub index_mut-requires-2 : goal.index_mut-requires-2
index_mut-requires-2 c =
    let run = c.args.run.now in
    let own =
    call_task run.family.tasks (at begun_root run.records c.args.at) c.begun_root.result c.in-Some.index
    c.begun_root.ensures c.in-Some.is in
    let inside = slice_get_within run.family.tasks c.in-Some.index own.0 own.2 in
    let all = c.requires.members.teams.all in
    let within : c.in-Some.index < length c.args.members.now.teams.items = omega (arith, inside, all) in
    search rules

pub index_mut-requires-3 : goal.index_mut-requires-3
index_mut-requires-3 c =
    let run = c.args.run.now in
    let rs = run.records in
    let tasks = run.family.tasks in
    let m = c.in-Some-joined.member in
    let own =
    call_task tasks (at begun_root rs c.args.at) c.begun_root.result c.in-Some.index c.begun_root.ensures
    c.in-Some.is in
    let joins : at joined rs c.args.at ≡ Some m = sym c.joined.ensures ∙ c.in-Some-joined.is in
    let is = own.2 ∙ ap Some (same_Some own.0 m.member (sym own.1 ∙ joined_at_root rs c.args.at m joins)) in
    let leads =
    lead_of_is rs c.args.at tasks c.args.leads.now c.lead_of.new.leads m c.in-Some.index c.in_ok-lead.lead
    c.requires.leads joins is c.in_ok-lead.ensures in
    let within : c.in_ok-lead.lead < length c.args.members.now.sizes.items =
    lead_within rs tasks c.args.members.now.sizes.items m.parallel c.in_ok-lead.lead leads
    c.requires.members.sizes.all in
    search rules

pub overflow_add-index_mut : goal.overflow_add-index_mut
overflow_add-index_mut c =
    let run = c.args.run.now in
    let rs = run.records in
    let tasks = run.family.tasks in
    let m = c.in-Some-joined.member in
    let sizes = c.args.members.now.sizes.items in
    let own =
    call_task tasks (at begun_root rs c.args.at) c.begun_root.result c.in-Some.index c.begun_root.ensures
    c.in-Some.is in
    let joins : at joined rs c.args.at ≡ Some m = sym c.joined.ensures ∙ c.in-Some-joined.is in
    let is = own.2 ∙ ap Some (same_Some own.0 m.member (sym own.1 ∙ joined_at_root rs c.args.at m joins)) in
    let leads =
    lead_of_is rs c.args.at tasks c.args.leads.now c.lead_of.new.leads m c.in-Some.index c.in_ok-lead.lead
    c.requires.leads joins is c.in_ok-lead.ensures in
    let within = lead_within rs tasks sizes m.parallel c.in_ok-lead.lead leads c.requires.members.sizes.all in
    let there : IsLeadAt rs tasks c.args.at c.in_ok-lead.lead = record {
      member = m;
      joins = joins;
      leads = leads;
    } in
    let few =
    size_few rs c.args.at tasks sizes c.in_ok-lead.lead c.index_mut-3.result.now c.requires.members.sizes
    there
    (read_at sizes c.in_ok-lead.lead c.index_mut-3.result.now within c.index_mut-3.ensures.value) in
    let many = c.task_count-tasks.ensures.is_run.trace.few_records in
    let inside = c.requires.within in
    let small : c.index_mut-3.result.now < 2 ^ 22 = omega (arith, few, many, inside) in
    search rules

pub returns-clause-seeded : goal.returns-clause-seeded
returns-clause-seeded c =
    hashers_stay c.args.run.now c.args.leads.now c.lead_of.new.leads c.in-Some-joined.member.parallel
    c.in-Some.index c.in_ok-lead.lead c.requires.seeded c.in_ok-lead.ensures

pub returns-clause-members : goal.returns-clause-members
returns-clause-members c =
    let run = c.args.run.now in
    let rs = run.records in
    let tasks = run.family.tasks in
    let m = c.in-Some-joined.member in
    let lead = c.in_ok-lead.lead in
    let sizes = c.args.members.now.sizes.items in
    let is_run = c.task_count-tasks.ensures.is_run in
    let own =
    call_task tasks (at begun_root rs c.args.at) c.begun_root.result c.in-Some.index c.begun_root.ensures
    c.in-Some.is in
    let joins : at joined rs c.args.at ≡ Some m = sym c.joined.ensures ∙ c.in-Some-joined.is in
    let is = own.2 ∙ ap Some (same_Some own.0 m.member (sym own.1 ∙ joined_at_root rs c.args.at m joins)) in
    let leads =
    lead_of_is rs c.args.at tasks c.args.leads.now c.lead_of.new.leads m c.in-Some.index lead
    c.requires.leads joins is c.in_ok-lead.ensures in
    let within = lead_within rs tasks sizes m.parallel lead leads c.requires.members.sizes.all in
    let there : IsLeadAt rs tasks c.args.at lead = record { member = m; joins = joins; leads = leads } in
    record {
      teams =
          team_put rs c.args.at c.in-Some.index own.0 lead c.some-2.result tasks
          c.args.members.now.teams.items is_run.family.makers.apart c.requires.members.teams own.2 own.1
          (there_joined m joins leads) c.some-2.ensures;
      sizes =
          sizes_more rs c.args.at tasks sizes lead c.index_mut-3.result.now is_run.family.once
          is_run.family.makers.apart c.requires.members.sizes there
          (read_at sizes lead c.index_mut-3.result.now within c.index_mut-3.ensures.value);
    }
