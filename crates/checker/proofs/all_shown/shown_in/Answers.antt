use Rattle.std.proofs.Common.{[], ◌∷◌, arith, refl}
use Rattle.std.proofs.lemmas.Result.{IfOk-weaker}
use Rattle.ompt_events.specs.declared.cause.Cause.TheVariants.{NotCurrent, Moved, TurnGap, StatusOrder}
use Rattle.ompt_events.specs.declared.cause.Cause.TheVariants.{RegionOrder, TeamShort, ShareWrong}
use Rattle.ompt_events.specs.declared.cause.Cause.TheVariants.{EntryTwice, LengthAhead, LengthBack, NoOrder}
use Rattle.ompt_events.specs.CauseNames.{before}
use Rattle.ompt_events.specs.Shown.{AreAllShown}
use Rattle.task_tree.specs.Own.{of_regions, of_teams, of_claims, AreAllPlacesWith}
use Rattle.checker.specs.Search.{IsClear}
use Rattle.checker.proofs.AllShownLemmas.{clear_awaits_one, listed_places, nowhere_free, places_shown}
use Rattle.checker.proofs.all_shown.shown_in.Goals as goal

pub refused_moves-requires-clause-current : goal.refused_moves-requires-clause-current
refused_moves-requires-clause-current c =
    let clear : IsClear c.args.trace.now.records (before StatusOrder) =
    rw c.in-StatusOrder.is at c.requires.clear in
    rw c.run-run.ensures.records (clear NotCurrent (3, omega arith, refl))

pub refused_moves-requires-clause-stay : goal.refused_moves-requires-clause-stay
refused_moves-requires-clause-stay c =
    let clear : IsClear c.args.trace.now.records (before StatusOrder) =
    rw c.in-StatusOrder.is at c.requires.clear in
    rw c.run-run.ensures.records (clear Moved (4, omega arith, refl))

pub refused_moves-requires-clause-gapless : goal.refused_moves-requires-clause-gapless
refused_moves-requires-clause-gapless c =
    let clear : IsClear c.args.trace.now.records (before StatusOrder) =
    rw c.in-StatusOrder.is at c.requires.clear in
    rw c.run-run.ensures.records (clear TurnGap (5, omega arith, refl))

pub shown_of_teams-requires : goal.shown_of_teams-requires
shown_of_teams-requires c =
    let rs = c.args.trace.now.records in
    let clear : IsClear rs (before TeamShort) = rw c.in-TeamShort.is at c.requires.clear in
    nowhere_free rs c.own-own.result RegionOrder of_regions c.own-own.ensures
    (clear RegionOrder (7, omega arith, refl))

pub shown_of_lengths-requires-clause-clear : goal.shown_of_lengths-requires-clause-clear
shown_of_lengths-requires-clause-clear c =
    let clear : IsClear c.args.trace.now.records (before LengthBack) =
    rw c.in-LengthBack.is at c.requires.clear in
    rw c.run-run.ensures.records clear

pub shown_of_lengths-requires-clause-awaits : goal.shown_of_lengths-requires-clause-awaits
shown_of_lengths-requires-clause-awaits c =
    let clear : IsClear c.args.trace.now.records (before LengthBack) =
    rw c.in-LengthBack.is at c.requires.clear in
    clear_awaits_one c.run-run.result (EntryTwice ∷ LengthAhead ∷ []) c.family-family.ensures.is_run
    (rw c.run-run.ensures.records clear)

pub shown_of_order-requires-clause-clear : goal.shown_of_order-requires-clause-clear
shown_of_order-requires-clause-clear c =
    let clear : IsClear c.args.trace.now.records (before NoOrder) =
    rw c.in-NoOrder.is at c.requires.clear in
    rw c.run-run.ensures.records clear

pub shown_of_order-requires-clause-awaits : goal.shown_of_order-requires-clause-awaits
shown_of_order-requires-clause-awaits c =
    let clear : IsClear c.args.trace.now.records (before NoOrder) =
    rw c.in-NoOrder.is at c.requires.clear in
    clear_awaits_one c.run-run.result (EntryTwice ∷ LengthAhead ∷ LengthBack ∷ [])
    c.family-family.ensures.is_run (rw c.run-run.ensures.records clear)

pub returns-in-RegionOrder-clause-shown : goal.returns-in-RegionOrder-clause-shown
returns-in-RegionOrder-clause-shown c =
    let rs = c.args.trace.now.records in
    let own = c.own-own.result in
    rw c.in-RegionOrder.is
    (IfOk-weaker c.listed-in-RegionOrder.result (AreAllPlacesWith own RegionOrder)
    (AreAllShown rs RegionOrder)
    (λ places are. places_shown rs own RegionOrder places of_regions c.own-own.ensures are)
    (listed_places c.misplaced_regions.result c.listed-in-RegionOrder.result
    (AreAllPlacesWith own RegionOrder) c.misplaced_regions.ensures
    c.listed-in-RegionOrder.ensures.listed))

pub returns-in-TeamShort-clause-shown : goal.returns-in-TeamShort-clause-shown
returns-in-TeamShort-clause-shown c =
    let rs = c.args.trace.now.records in
    let own = c.own-own.result in
    rw c.in-TeamShort.is
    (IfOk-weaker c.shown_of_teams.result (AreAllPlacesWith own TeamShort) (AreAllShown rs TeamShort)
    (λ places are. places_shown rs own TeamShort places of_teams c.own-own.ensures are)
    c.shown_of_teams.ensures.shown)

pub returns-in-ShareWrong-clause-shown : goal.returns-in-ShareWrong-clause-shown
returns-in-ShareWrong-clause-shown c =
    let rs = c.args.trace.now.records in
    let own = c.own-own.result in
    rw c.in-ShareWrong.is
    (IfOk-weaker c.listed-in-ShareWrong.result (AreAllPlacesWith own ShareWrong) (AreAllShown rs ShareWrong)
    (λ places are. places_shown rs own ShareWrong places of_claims c.own-own.ensures are)
    (listed_places c.wrong_claims.result c.listed-in-ShareWrong.result (AreAllPlacesWith own ShareWrong)
    c.wrong_claims.ensures
    c.listed-in-ShareWrong.ensures.listed))
