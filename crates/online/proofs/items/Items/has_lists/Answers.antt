use Rattle.std.proofs.Common.{◌≡◌, Bool, true}
use Rattle.online.specs.Items.{awaited_of}
use Rattle.online.proofs.ListLaw.{lists_there}
use Rattle.std.specs.Prelude.{not}
use Rattle.online.proofs.items.Items.has_lists.Goals as goal

not_true : (b : Bool) → not b ≡ true → b ≡ true → ⊥
not_true b is same = cc

pub returns-clause-listed : goal.returns-clause-listed
returns-clause-listed c = λ yes rs is once parent.
    lists_there rs is.0 is.1 is.2 (awaited_of c.args.self.now) once is.4 c.args.parent c.args.task parent
    (λ there. not_true c.is_awaited.result yes (c.is_awaited.ensures.1 there))
