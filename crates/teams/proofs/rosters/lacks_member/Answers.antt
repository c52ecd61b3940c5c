use Rattle.std.proofs.Common.{◌≡◌, ◌∙◌, ◌<◌, Some, None, is_some, length, sym, ap, subst, arith, rules}
use Rattle.std.proofs.lemmas.Option.{slice_get_within}
use Rattle.ompt_events.specs.Records.{joined, begun_root}
use Rattle.ompt_events.specs.Places.{at}
use Rattle.task_tree.specs.Runs.{RunView}
use Rattle.task_tree.specs.Subjects.{Calls}
use Rattle.teams.proofs.CallLemmas.{call_same, read_at}
use Rattle.teams.proofs.MemberLemmas.{joined_at_root, never_of, lead_there}
use Rattle.teams.proofs.RosterLemmas.{lacks_none, enrolled_same, enrolled_more, slot_within}
use Rattle.teams.proofs.RosterLemmas.{slot_taken, slot_free}
use Rattle.teams.proofs.RosterLemmas.{lead_of_member}
use Rattle.teams.proofs.rosters.lacks_member.Goals as goal

pub returns-in_default : goal.returns-in_default
returns-in_default c =
    let tables = c.args.tables.now in
    let P : RunView → Type 0 = λ r. c.joined.result ≡ at joined r.records c.args.at in
    let none : at joined tables.run.records c.args.at ≡ None =
    sym (subst P c.run-run.ensures.value c.joined.ensures) ∙ c.in_default.is in (
      lacks_none tables.run.records c.args.at none,
      enrolled_same tables.run.records c.args.at tables.run.family.tasks c.args.rosters.now.items
          c.requires.enrolled none,
    )

pub team-requires : goal.team-requires
team-requires c =
    let tables = c.args.tables.now in
    let rs = tables.run.records in
    let tasks = tables.run.family.tasks in
    let are = c.run-run.ensures.are_tables in
    let m = c.in-Some.member in
    let index = c.in-Some-begun_root.index in
    let P : RunView → Type 0 = λ r. c.joined.result ≡ at joined r.records c.args.at in
    let Q : RunView → Type 0 =
    λ r. Calls r.family.tasks (at begun_root r.records c.args.at) c.begun_root.result in
    let joins : at joined rs c.args.at ≡ Some m =
    sym (subst P c.run-run.ensures.value c.joined.ensures) ∙ c.in-Some.is in
    let is =
    call_same tasks (at begun_root rs c.args.at) c.begun_root.result index m.member
    (subst Q c.run-run.ensures.value c.begun_root.ensures) c.in-Some-begun_root.is
    (joined_at_root rs c.args.at m joins) in
    let inside = slice_get_within tasks index m.member is in
    let all = are.teams.all in
    omega (arith, inside, all)

pub returns-in_default-team : goal.returns-in_default-team
returns-in_default-team c =
    let tables = c.args.tables.now in
    let rs = tables.run.records in
    let tasks = tables.run.family.tasks in
    let are = c.run-run.ensures.are_tables in
    let m = c.in-Some.member in
    let index = c.in-Some-begun_root.index in
    let P : RunView → Type 0 = λ r. c.joined.result ≡ at joined r.records c.args.at in
    let Q : RunView → Type 0 =
    λ r. Calls r.family.tasks (at begun_root r.records c.args.at) c.begun_root.result in
    let joins : at joined rs c.args.at ≡ Some m =
    sym (subst P c.run-run.ensures.value c.joined.ensures) ∙ c.in-Some.is in
    let is =
    call_same tasks (at begun_root rs c.args.at) c.begun_root.result index m.member
    (subst Q c.run-run.ensures.value c.begun_root.ensures) c.in-Some-begun_root.is
    (joined_at_root rs c.args.at m joins) in
    let none =
    lead_there rs tasks tables.teams c.args.at index m None are.run.family.once are.teams joins is
    (c.team.ensures ∙ ap Some c.in_default-team.is) in
    absurd (never_of (at joined rs c.args.at) m none joins)

pub fits-requires-clause-joins : goal.fits-requires-clause-joins
fits-requires-clause-joins c =
    let tables = c.args.tables.now in
    let rs = tables.run.records in
    let tasks = tables.run.family.tasks in
    let are = c.run-run.ensures.are_tables in
    let m = c.in-Some.member in
    let index = c.in-Some-begun_root.index in
    let P : RunView → Type 0 = λ r. c.joined.result ≡ at joined r.records c.args.at in
    let Q : RunView → Type 0 =
    λ r. Calls r.family.tasks (at begun_root r.records c.args.at) c.begun_root.result in
    let joins : at joined rs c.args.at ≡ Some m =
    sym (subst P c.run-run.ensures.value c.joined.ensures) ∙ c.in-Some.is in
    let is =
    call_same tasks (at begun_root rs c.args.at) c.begun_root.result index m.member
    (subst Q c.run-run.ensures.value c.begun_root.ensures) c.in-Some-begun_root.is
    (joined_at_root rs c.args.at m joins) in
    let lead = c.in-Some-team.lead in
    let there =
    lead_there rs tasks tables.teams c.args.at index m (Some lead) are.run.family.once are.teams joins is
    (c.team.ensures ∙ ap Some c.in-Some-team.is) in
    let leads = lead_of_member rs tasks c.args.at lead m there joins in
    record { joins = joins; leads = leads }

pub index_mut-requires : goal.index_mut-requires
index_mut-requires c =
    let tables = c.args.tables.now in
    let rs = tables.run.records in
    let tasks = tables.run.family.tasks in
    let are = c.run-run.ensures.are_tables in
    let m = c.in-Some.member in
    let index = c.in-Some-begun_root.index in
    let P : RunView → Type 0 = λ r. c.joined.result ≡ at joined r.records c.args.at in
    let Q : RunView → Type 0 =
    λ r. Calls r.family.tasks (at begun_root r.records c.args.at) c.begun_root.result in
    let joins : at joined rs c.args.at ≡ Some m =
    sym (subst P c.run-run.ensures.value c.joined.ensures) ∙ c.in-Some.is in
    let is =
    call_same tasks (at begun_root rs c.args.at) c.begun_root.result index m.member
    (subst Q c.run-run.ensures.value c.begun_root.ensures) c.in-Some-begun_root.is
    (joined_at_root rs c.args.at m joins) in
    let lead = c.in-Some-team.lead in
    let there =
    lead_there rs tasks tables.teams c.args.at index m (Some lead) are.run.family.once are.teams joins is
    (c.team.ensures ∙ ap Some c.in-Some-team.is) in
    let leads = lead_of_member rs tasks c.args.at lead m there joins in
    let within : lead < length c.args.rosters.now.items = c.requires.enrolled.leads m.parallel lead leads in
    search rules

pub take_slot-requires-clause-inside : goal.take_slot-requires-clause-inside
take_slot-requires-clause-inside c =
    let tables = c.args.tables.now in
    let rs = tables.run.records in
    let tasks = tables.run.family.tasks in
    let are = c.run-run.ensures.are_tables in
    let m = c.in-Some.member in
    let index = c.in-Some-begun_root.index in
    let P : RunView → Type 0 = λ r. c.joined.result ≡ at joined r.records c.args.at in
    let Q : RunView → Type 0 =
    λ r. Calls r.family.tasks (at begun_root r.records c.args.at) c.begun_root.result in
    let joins : at joined rs c.args.at ≡ Some m =
    sym (subst P c.run-run.ensures.value c.joined.ensures) ∙ c.in-Some.is in
    let is =
    call_same tasks (at begun_root rs c.args.at) c.begun_root.result index m.member
    (subst Q c.run-run.ensures.value c.begun_root.ensures) c.in-Some-begun_root.is
    (joined_at_root rs c.args.at m joins) in
    let lead = c.in-Some-team.lead in
    let there =
    lead_there rs tasks tables.teams c.args.at index m (Some lead) are.run.family.once are.teams joins is
    (c.team.ensures ∙ ap Some c.in-Some-team.is) in
    let leads = lead_of_member rs tasks c.args.at lead m there joins in
    let old = c.index_mut.result.now in
    let within = c.requires.enrolled.leads m.parallel lead leads in
    let stands = read_at c.args.rosters.now.items lead old within c.index_mut.ensures.value in
    let slots = c.requires.enrolled.each m.parallel lead old leads stands in
    slot_within rs c.args.at tasks m old.items c.if-not-fits.ensures slots

pub take_slot-requires-clause-small : goal.take_slot-requires-clause-small
take_slot-requires-clause-small c =
    let tables = c.args.tables.now in
    let rs = tables.run.records in
    let tasks = tables.run.family.tasks in
    let are = c.run-run.ensures.are_tables in
    let m = c.in-Some.member in
    let index = c.in-Some-begun_root.index in
    let P : RunView → Type 0 = λ r. c.joined.result ≡ at joined r.records c.args.at in
    let Q : RunView → Type 0 =
    λ r. Calls r.family.tasks (at begun_root r.records c.args.at) c.begun_root.result in
    let joins : at joined rs c.args.at ≡ Some m =
    sym (subst P c.run-run.ensures.value c.joined.ensures) ∙ c.in-Some.is in
    let is =
    call_same tasks (at begun_root rs c.args.at) c.begun_root.result index m.member
    (subst Q c.run-run.ensures.value c.begun_root.ensures) c.in-Some-begun_root.is
    (joined_at_root rs c.args.at m joins) in
    let inside = slice_get_within tasks index m.member is in
    let few = are.run.family.makers.few in
    let many = are.run.trace.few_records in
    omega (arith, inside, few, many)

pub returns-then-take_slot : goal.returns-then-take_slot
returns-then-take_slot c =
    let tables = c.args.tables.now in
    let rs = tables.run.records in
    let tasks = tables.run.family.tasks in
    let are = c.run-run.ensures.are_tables in
    let m = c.in-Some.member in
    let index = c.in-Some-begun_root.index in
    let P : RunView → Type 0 = λ r. c.joined.result ≡ at joined r.records c.args.at in
    let Q : RunView → Type 0 =
    λ r. Calls r.family.tasks (at begun_root r.records c.args.at) c.begun_root.result in
    let joins : at joined rs c.args.at ≡ Some m =
    sym (subst P c.run-run.ensures.value c.joined.ensures) ∙ c.in-Some.is in
    let is =
    call_same tasks (at begun_root rs c.args.at) c.begun_root.result index m.member
    (subst Q c.run-run.ensures.value c.begun_root.ensures) c.in-Some-begun_root.is
    (joined_at_root rs c.args.at m joins) in
    let lead = c.in-Some-team.lead in
    let there =
    lead_there rs tasks tables.teams c.args.at index m (Some lead) are.run.family.once are.teams joins is
    (c.team.ensures ∙ ap Some c.in-Some-team.is) in
    let leads = lead_of_member rs tasks c.args.at lead m there joins in
    let old = c.index_mut.result.now in
    let within = c.requires.enrolled.leads m.parallel lead leads in
    let stands = read_at c.args.rosters.now.items lead old within c.index_mut.ensures.value in
    let slots = c.requires.enrolled.each m.parallel lead old leads stands in (
      slot_free rs c.args.at tasks m old.items are.run.family.noted joins c.if-not-fits.ensures slots
          c.if-take_slot.ensures.0,
      enrolled_more rs c.args.at tasks c.args.rosters.now.items m lead index old c.take_slot.new.roster
          are.run.family.once are.run.family.makers.apart c.requires.enrolled joins leads is stands
          c.if-take_slot.ensures.0 c.if-take_slot.ensures.1,
    )

pub returns-then-not-fits : goal.returns-then-not-fits
returns-then-not-fits c =
    let P : RunView → Type 0 = λ r. c.joined.result ≡ at joined r.records c.args.at in
    let joins : at joined c.args.tables.now.run.records c.args.at ≡ Some c.in-Some.member =
    sym (subst P c.run-run.ensures.value c.joined.ensures) ∙ c.in-Some.is in
    (ap is_some joins, c.if-not-fits.ensures)

pub returns : goal.returns
returns c =
    let tables = c.args.tables.now in
    let rs = tables.run.records in
    let tasks = tables.run.family.tasks in
    let are = c.run-run.ensures.are_tables in
    let m = c.in-Some.member in
    let index = c.in-Some-begun_root.index in
    let P : RunView → Type 0 = λ r. c.joined.result ≡ at joined r.records c.args.at in
    let Q : RunView → Type 0 =
    λ r. Calls r.family.tasks (at begun_root r.records c.args.at) c.begun_root.result in
    let joins : at joined rs c.args.at ≡ Some m =
    sym (subst P c.run-run.ensures.value c.joined.ensures) ∙ c.in-Some.is in
    let is =
    call_same tasks (at begun_root rs c.args.at) c.begun_root.result index m.member
    (subst Q c.run-run.ensures.value c.begun_root.ensures) c.in-Some-begun_root.is
    (joined_at_root rs c.args.at m joins) in
    let lead = c.in-Some-team.lead in
    let there =
    lead_there rs tasks tables.teams c.args.at index m (Some lead) are.run.family.once are.teams joins is
    (c.team.ensures ∙ ap Some c.in-Some-team.is) in
    let leads = lead_of_member rs tasks c.args.at lead m there joins in
    let old = c.index_mut.result.now in
    let within = c.requires.enrolled.leads m.parallel lead leads in
    let stands = read_at c.args.rosters.now.items lead old within c.index_mut.ensures.value in
    let slots = c.requires.enrolled.each m.parallel lead old leads stands in (
      ap is_some joins,
      slot_taken rs c.args.at tasks m old.items c.if-take_slot.ensures.0 joins slots
          c.if-take_slot.ensures.1,
    )
