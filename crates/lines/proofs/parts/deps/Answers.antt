use Rattle.std.proofs.Common.{rules, ◌≡◌, [], ◌∷◌, ◌++◌, true, not, refl, ap, ◌∙◌}
use Rattle.std.specs.Result.{is_ok}
use Rattle.serde_json.specs.Written.{compact_text, comma_if}
use Rattle.lines.specs.Texts.{Takes, dep_data}
use Rattle.lines.proofs.TakeLemmas.{AreItemsTaken-none, AreItemsTaken-more, Takes-items}
use Rattle.lines.proofs.parts.deps.Goals as goal

pub items-init : goal.items-init
items-init c =
    let none : c.in_ok-items.items.items ≡ [] = search rules in
    rw none (AreItemsTaken-none dep_data _ _ _ c.in_ok-rest.ensures)

pub items-preserved : goal.items-preserved
items-preserved c =
    let grown : c.push.new.self.items ≡ c.items.items.items ++ c.in-Some.item ∷ [] =
    c.push.ensures.items
    ∙ (let ok : is_ok c.push.result ≡ true = c.is_err.ensures.negation ∙ ap not c.if-is_err.false in
    rw ok refl) in
    let takes : Takes c.items.rest.now (comma_if c.items.later ++ compact_text (dep_data c.in-Some.item))
    c.in-Some.behind.now =
    c.in-Some.ensures in
    rw grown
    (AreItemsTaken-more dep_data c.items.items.items c.in-Some.item c.items.later c.args.rest.now
    c.items.rest.now c.in-Some.behind.now [] c.items.invariant takes)

pub returns : goal.returns
returns c =
    rw c.from_vec.ensures
    (Takes-items dep_data c.items.items.items c.items.later c.args.rest.now c.items.rest.now
    c.in_ok-behind.behind.now [] c.items.invariant c.in_ok-behind.ensures)
