use Rattle.std.proofs.Common.{◌≡◌, [], ◌∷◌, ◌++◌, arith, true, not, refl, ap, ◌∙◌}
use Rattle.std.specs.Result.{is_ok}
use Rattle.lines.specs.Objects.{rows}
use Rattle.lines.proofs.WrittenLemmas.{AreMembersTaken-none, AreMembersTaken-more, rows-more, value_of-taken}
use Rattle.lines.proofs.WrittenLemmas.{ArePlacesKept-none, ArePlacesKept-more}
use Rattle.lines.proofs.written.take_members.Goals as goal

pub members-init : goal.members-init
members-init c =
    let empty : c.in-Ok.members.items ≡ [] = c.in-Ok.ensures.items in
    rw empty
    (AreMembersTaken-none c.args.line.now c.in_ok-rest.rest.now c.in_ok-rest.ensures, ArePlacesKept-none)

pub returns-in-Some-clause-says : goal.returns-in-Some-clause-says
returns-in-Some-clause-says c =
    value_of-taken (rows c.members.members.items) c.members.later c.args.line.now c.members.rest.now
    c.members.invariant.0 c.in-Some.ensures

pub members-preserved : goal.members-preserved
members-preserved c =
    let taken = c.in-Some-take_member in
    let grown : c.push.new.self.items ≡ c.members.members.items ++ (taken.member, taken.value) ∷ [] =
    c.push.ensures.items
    ∙ (let ok : is_ok c.push.result ≡ true = c.is_err.ensures.negation ∙ ap not c.if-is_err.false in
    rw ok refl) in
    let len = c.len-in-members.ensures ∙ c.members.members.ok.0 in
    rw (grown, rows-more c.members.members.items (taken.member, taken.value), c.code.ensures.is, len) (
      AreMembersTaken-more (rows c.members.members.items) c.members.later c.args.line.now c.members.rest.now
          c.in-Some-next_item.front.now taken.behind.now taken.member taken.value c.members.invariant.0
          c.in-Some-next_item.ensures taken.ensures,
      ArePlacesKept-more c.members.members.items c.members.places taken.member taken.value
          (omega (arith, c.members-test.true)) c.members.invariant.1,
    )
