use Rattle.std.proofs.Common.{◌≡◌, ◌<◌, None, length, arith, rules}
use Rattle.std.proofs.lemmas.Option.{slice_get_within}
use Rattle.ompt_events.specs.Records.{joined}
use Rattle.ompt_events.specs.Places.{at}
use Rattle.teams.proofs.CallLemmas.{read_at}
use Rattle.teams.proofs.MemberLemmas.{lead_within}
use Rattle.teams.proofs.LackLemmas.{taken_same, mixed_same, taken_more, lack_of}
use Rattle.teams.proofs.lacks.shows_lack.Goals as goal

pub returns-in_default-clause-seen : goal.returns-in_default-clause-seen
returns-in_default-clause-seen c =
    let rs = c.args.tables.now.run.records in
    let tasks = c.args.tables.now.run.family.tasks in
    let none : at joined rs c.args.at ≡ None = rw c.in_default.is at c.member_at.ensures in
    record {
      taken = taken_same rs c.args.at tasks c.args.seen.now.rosters.items none c.requires.seen.taken;
      mixed = mixed_same rs c.args.at tasks c.args.seen.now.mixed.items none c.requires.seen.mixed;
    }

pub index_mut-requires : goal.index_mut-requires
index_mut-requires c =
    let joining = c.in-Some.joining in
    let joined_by = c.in-Some.ensures in
    let within : joining.lead < length c.args.seen.now.rosters.items =
    c.requires.seen.taken.leads joining.member.parallel joining.lead joined_by.joining.leads in
    search rules

pub repeats_number-repeats-requires : goal.repeats_number-repeats-requires
repeats_number-repeats-requires c =
    let joining = c.in-Some.joining in
    let are = c.run-run.ensures.are_tables in
    let inside =
    slice_get_within c.args.tables.now.run.family.tasks joining.index joining.member.member
    c.in-Some.ensures.indexed in
    let few = are.run.family.makers.few in
    let many = are.run.trace.few_records in
    omega (arith, inside, few, many)

pub size-requires : goal.size-requires
size-requires c =
    let tables = c.args.tables.now in
    lead_within tables.run.records tables.run.family.tasks tables.sizes c.in-Some.joining.member.parallel
    c.in-Some.joining.lead c.in-Some.ensures.joining.leads c.run-run.ensures.are_tables.sizes.all

pub returns-clause-lacks : goal.returns-clause-lacks
returns-clause-lacks c =
    let tables = c.args.tables.now in
    let rs = tables.run.records in
    let tasks = tables.run.family.tasks in
    let are = c.run-run.ensures.are_tables in
    let m = c.in-Some.joining.member in
    let lead = c.in-Some.joining.lead in
    let leads = c.in-Some.ensures.joining.leads in
    let old = c.index_mut.result.now in
    let within = c.requires.seen.taken.leads m.parallel lead leads in
    let stands = read_at c.args.seen.now.rosters.items lead old within c.index_mut.ensures.value in
    lack_of rs c.args.at m c.size.result old.items c.repeats_number-repeats.new.roster.items
    c.in-Some.joining.index c.names_other_size-differs.result c.repeats_number-repeats.result
    c.is_misfit-misfits.result c.is_any.result c.in-Some.ensures.joining.joins
    (are.sizes.each m.parallel lead c.size.result leads c.size.ensures)
    (c.requires.seen.taken.each m.parallel lead old leads stands) c.names_other_size-differs.ensures.differs
    c.repeats_number-repeats.ensures c.is_misfit-misfits.ensures c.is_any.ensures

pub returns-clause-seen : goal.returns-clause-seen
returns-clause-seen c =
    let tables = c.args.tables.now in
    let rs = tables.run.records in
    let tasks = tables.run.family.tasks in
    let are = c.run-run.ensures.are_tables in
    let m = c.in-Some.joining.member in
    let lead = c.in-Some.joining.lead in
    let leads = c.in-Some.ensures.joining.leads in
    let old = c.index_mut.result.now in
    let within = c.requires.seen.taken.leads m.parallel lead leads in
    let stands = read_at c.args.seen.now.rosters.items lead old within c.index_mut.ensures.value in
    record {
      taken =
          taken_more rs c.args.at tasks c.args.seen.now.rosters.items m lead c.in-Some.joining.index old
          c.repeats_number-repeats.new.roster c.repeats_number-repeats.result are.run.family.once
          are.run.family.makers.apart c.in-Some.ensures.joining.joins leads c.requires.seen.taken stands
          c.repeats_number-repeats.ensures;
      mixed = c.names_other_size-differs.ensures.mixed;
    }
