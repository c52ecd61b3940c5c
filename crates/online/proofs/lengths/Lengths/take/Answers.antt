use Rattle.std.proofs.Common.{ℕ, refl, subst}
use Rattle.ompt_events.specs.Records.{made, suspended}
use Rattle.callbacks.specs.Logs.{known_from}
use Rattle.online.specs.Lengths.{KeptTable, IsAdvancedBy, AddsSuspension, AddsMade}
use Rattle.online.proofs.LengthLemmas.{names_length, lengths_more}
use Rattle.online.proofs.lengths.Lengths.take.Goals as goal

pub returns : goal.returns
returns c = λ yes rs may is.
    let old = c.args.self.now in
    let r = c.args.«record».now in
    let next = c.advance.new.self in
    let noted = c.add_suspension.new.tasks in
    let new = c.add_made.new.tasks in
    let known = c.known_after-known.ensures in
    let names = c.if-not-names_entry.ensures refl in
    let goes : IsAdvancedBy old next r.thread r.seen (known_from r.seen r.body) =
    subst (λ (n : ℕ). IsAdvancedBy old next r.thread r.seen n) known (c.if-not-advance.ensures refl) in
    let suspends : AddsSuspension old.tasks noted (suspended r.body) (known_from r.seen r.body) =
    subst (λ (n : ℕ). AddsSuspension old.tasks noted (suspended r.body) n) known
    (subst (λ (t : KeptTable). AddsSuspension t noted (suspended r.body) c.known_after-known.result)
    goes.tasks (c.if-not-add_suspension.ensures refl)) in
    let makes : AddsMade noted new (made r.body) (known_from r.seen r.body) =
    subst (λ (n : ℕ). AddsMade noted new (made r.body) n) known c.in_ok-add_made.ensures in (
      names_length rs r old goes.before is goes.here goes.enough (c.if-not-reaches_tasks.ensures refl) names,
      lengths_more rs r old next noted new is may names goes suspends makes,
    )
