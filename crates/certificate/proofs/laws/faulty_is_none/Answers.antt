use Rattle.std.proofs.Common.{◌≡◌, None, Some, sym, ◌∙◌}
use Rattle.certificate.proofs.laws.faulty_is_none.Goals as goal

pub returns : goal.returns
returns c = λ newest bytes fault records first stands.
    let none : None ≡ Some fault.cause = sym (stands.no_fault first.place first.within) ∙ first.has in
    cc
