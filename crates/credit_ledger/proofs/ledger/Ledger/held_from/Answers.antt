use Rattle.std.proofs.Common.{Some, None, length, ap, arith}
use Rattle.credit_ledger.specs.Codes.{start_code}
use Rattle.credit_ledger.proofs.LedgerLemmas.{IsChildHeld-since, since-seen, since-bounded, length-all_codes}
use Rattle.credit_ledger.proofs.ledger.Ledger.held_from.Goals as goal

pub overflow_add-result : goal.overflow_add-result
overflow_add-result c =
    let bound = since-bounded c.self.inside.purse c.in-Ok.code c.in-Some.shares c.in-Some.ensures in
    omega (
      arith,
      bound,
      ap length c.self.invariant.0,
      length-all_codes c.self.inside.entries.items,
      c.self.invariant.1,
    )

pub overflow_cast-result : goal.overflow_cast-result
overflow_cast-result c =
    let bound = since-bounded c.self.inside.purse c.in-Ok.code c.in-Some.shares c.in-Some.ensures in
    omega (
      arith,
      bound,
      ap length c.self.invariant.0,
      length-all_codes c.self.inside.entries.items,
      c.self.invariant.1,
    )

pub returns-in-Some-clause-from : goal.returns-in-Some-clause-from
returns-in-Some-clause-from c =
    IsChildHeld-since c.args.root c.args.parent.now c.args.number c.args.cover c.args.self.now
    (Some c.in-Some.shares)
    (since-seen c.self.inside.purse c.self.inside.entries.items c.args.self.now c.in-Ok.code
    (start_code c.args.root c.args.parent.now c.args.number c.args.cover) (Some c.in-Some.shares)
    c.self.invariant.0 c.self.view_is c.in-Ok.ensures c.in-Some.ensures)

pub returns-clause-from : goal.returns-clause-from
returns-clause-from c =
    IsChildHeld-since c.args.root c.args.parent.now c.args.number c.args.cover c.args.self.now None
    (since-seen c.self.inside.purse c.self.inside.entries.items c.args.self.now c.in-Ok.code
    (start_code c.args.root c.args.parent.now c.args.number c.args.cover) None c.self.invariant.0
    c.self.view_is c.in-Ok.ensures c.in-None.ensures)
