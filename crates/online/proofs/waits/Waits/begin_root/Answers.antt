use Rattle.std.proofs.Common.{◌≡◌, ◌∙◌, true, false, sym, ap}
use Rattle.ompt_events.specs.Flags as flag
use Rattle.ompt_events.specs.Flags.{has_flag}
use Rattle.ompt_events.specs.Records.{region}
use Rattle.online.specs.Teams.{BeginsInitial}
use Rattle.online.proofs.TableLemmas.{ok_weaker}
use Rattle.online.proofs.WaitStepLemmas.{root_on_ok, join_on_ok, begins_initial, joins}
use Rattle.online.proofs.waits.Waits.begin_root.Goals as goal

pub returns-then-contains : goal.returns-then-contains
returns-then-contains c =
    let on : has_flag c.args.flags.0 flag.initial ≡ true =
    sym (c.contains.ensures cc) ∙ c.if-contains.true in
    ok_weaker c.begin_initial.result _ _
    (λ steps r index is.
    steps r (ap region is)
    (begins_initial c.args.root c.args.parallel c.args.size index c.args.flags r on is))
    (root_on_ok c.begin_initial.result (BeginsInitial c.args.root) c.args.self.now c.begin_initial.new.self
    c.begin_initial.ensures.tasks c.begin_initial.ensures.teams)

pub returns-else-contains : goal.returns-else-contains
returns-else-contains c =
    let off : has_flag c.args.flags.0 flag.initial ≡ false =
    sym (c.contains.ensures cc) ∙ c.if-contains.false in
    ok_weaker c.join.result _ _
    (λ steps r index is.
    steps r (ap region is) (joins c.args.root c.args.parallel c.args.size index c.args.flags r off is))
    (join_on_ok c.join.result c.args.root c.args.parallel c.args.size c.args.self.now c.join.new.self
    c.join.ensures.tasks c.join.ensures.teams)
