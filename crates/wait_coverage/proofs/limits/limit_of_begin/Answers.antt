use Rattle.std.proofs.Common.{◌∙◌, ◌<◌, length, get_or, refl, ap, sym, arith, rules}
use Rattle.std.proofs.lemmas.Option.{slice_get-get_or}
use Rattle.std.specs.Prelude.{slice_get}
use Rattle.ompt_events.specs.declared.names.Endpoint.TheVariants.{End}
use Rattle.ompt_events.specs.declared.names.SyncKind.TheVariants.{Taskwait}
use Rattle.ompt_events.specs.Regions.{ended}
use Rattle.ompt_events.proofs.RegionLemmas.{begin_before}
use Rattle.teams.proofs.RegionEndLemmas.{one_region}
use Rattle.wait_coverage.specs.Done.{records_of}
use Rattle.wait_coverage.proofs.LimitLemmas.{ended_region}
use Rattle.wait_coverage.proofs.limits.limit_of_begin.Goals as goal

pub offset_bounds-nodes-begin : goal.offset_bounds-nodes-begin
offset_bounds-nodes-begin c =
    let rs = records_of c.args.done.now in
    let own = c.requires.ends.0 in
    let less =
    begin_before rs c.args.at own c.in-Some.begin Taskwait
    (ended_region rs c.args.at own c.in-Some.begin Taskwait c.requires.ends.1
    (c.in-Some.ensures own Taskwait End c.requires.ends.1)) in
    let count = c.requires.count in
    let within : c.in-Some.begin < length c.args.nodes.now = omega (arith, less, count) in
    search rules

pub bounds-nodes-begin : goal.bounds-nodes-begin
bounds-nodes-begin c =
    let rs = records_of c.args.done.now in
    let own = c.requires.ends.0 in
    let less =
    begin_before rs c.args.at own c.in-Some.begin Taskwait
    (ended_region rs c.args.at own c.in-Some.begin Taskwait c.requires.ends.1
    (c.in-Some.ensures own Taskwait End c.requires.ends.1)) in
    let count = c.requires.count in
    omega (arith, less, count)

pub bounds-nodes-begin-in-Some : goal.bounds-nodes-begin-in-Some
bounds-nodes-begin-in-Some c =
    let rs = records_of c.args.done.now in
    let own = c.requires.ends.0 in
    let less =
    begin_before rs c.args.at own c.in-Some.begin Taskwait
    (ended_region rs c.args.at own c.in-Some.begin Taskwait c.requires.ends.1
    (c.in-Some.ensures own Taskwait End c.requires.ends.1)) in
    let count = c.requires.count in
    omega (arith, less, count)

pub returns-in-Some : goal.returns-in-Some
returns-in-Some c = λ task begin ends.
    let rs = records_of c.args.done.now in
    let own = c.requires.ends.0 in
    let found = c.in-Some.ensures own Taskwait End c.requires.ends.1 in
    let less =
    begin_before rs c.args.at own c.in-Some.begin Taskwait
    (ended_region rs c.args.at own c.in-Some.begin Taskwait c.requires.ends.1 found) in
    let count = c.requires.count in
    let same =
    (one_region rs c.args.at own task c.in-Some.begin begin Taskwait Taskwait found
    (ended ends)).begin_is in
    let within : c.in-Some.begin < length c.args.nodes.now = omega (arith, less, count) in (
      get_or c.args.nodes.now c.in-Some.begin c.index-nodes-begin.result,
      ap (slice_get c.args.nodes.now) (sym same)
          ∙ slice_get-get_or c.args.nodes.now c.in-Some.begin c.index-nodes-begin.result within,
      refl,
    )

pub returns-in-None : goal.returns-in-None
returns-in-None c = λ task begin ends. absurd (c.in-None.ensures task begin Taskwait (ended ends))
