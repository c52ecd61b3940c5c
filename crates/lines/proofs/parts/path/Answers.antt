use Rattle.std.proofs.Common.{rules, ◌≡◌, [], ◌∷◌, ◌++◌}
use Rattle.serde_json.specs.Written.{compact_text, comma_if}
use Rattle.lines.specs.Texts.{Takes, whole_number}
use Rattle.lines.proofs.TakeLemmas.{AreItemsTaken-none, AreItemsTaken-more, Takes-items}
use Rattle.lines.proofs.parts.path.Goals as goal

pub numbers-init : goal.numbers-init
numbers-init c = rw c.new-numbers.ensures (AreItemsTaken-none whole_number _ _ _ c.in_ok-rest.ensures)

pub numbers-preserved : goal.numbers-preserved
numbers-preserved c =
    let grown : c.push.new.self ≡ c.numbers.numbers ++ c.in-Some.number ∷ [] = search rules in
    let takes : Takes c.numbers.rest.now
    (comma_if c.numbers.later ++ compact_text (whole_number c.in-Some.number)) c.in-Some.behind.now =
    c.in-Some.ensures in
    rw grown
    (AreItemsTaken-more whole_number c.numbers.numbers c.in-Some.number c.numbers.later c.args.rest.now
    c.numbers.rest.now c.in-Some.behind.now [] c.numbers.invariant takes)

pub returns : goal.returns
returns c =
    Takes-items whole_number c.numbers.numbers c.numbers.later c.args.rest.now c.numbers.rest.now
    c.in_ok-behind.behind.now [] c.numbers.invariant c.in_ok-behind.ensures
