use Rattle.std.proofs.Common.{refl, sym}
use Rattle.online.proofs.WatchEarly.{early_found, none_before}
use Rattle.online.proofs.watch.Watch.missed_predecessor.Goals as goal

pub returns-clause-named : goal.returns-clause-named
returns-clause-named c =
    early_found c.args.self.now c.args.«record».now c.in_ok-dependent.dependent
    c.in_ok-predecessor.predecessor c.in_ok-dependent.ensures.must c.in_ok-predecessor.ensures.first.is

pub returns-in_err-predecessor-clause-none : goal.returns-in_err-predecessor-clause-none
returns-in_err-predecessor-clause-none c none =
    none_before c.args.self.now c.args.«record».now.body c.in_ok-dependent.dependent
    (sym c.in_ok-dependent.ensures.value) (c.in_err-predecessor.ensures.none refl)
