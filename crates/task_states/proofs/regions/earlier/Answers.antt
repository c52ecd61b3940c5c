use Rattle.std.proofs.Common.{◌≡◌, ◌+◌, ℕ, Option, true, sym, subst, rules}
use Rattle.task_states.specs.Regions.{IsEarliest, IsEarliestPlace}
use Rattle.task_states.proofs.RegionLemmas.{earlier_other}
use Rattle.task_states.proofs.regions.earlier.Goals as goal

pub returns-in-Some : goal.returns-in-Some
returns-in-Some c = λ cause has_it is.
    let own = c.args.own.now in
    let n = c.args.number in
    let before = c.in-Some.before in
    let yes : c.args.has ≡ true = search rules in
    let P : Option ℕ → Type 0 = IsEarliest own cause n in
    let Q : ℕ → Type 0 = IsEarliestPlace own cause (n + 1) in
    subst Q (sym c.min.ensures)
    (earlier_other own cause n before c.place-place.result c.place-place.ensures.value (has_it.0 yes)
    (subst P c.in-Some.is is))
