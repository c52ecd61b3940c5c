use Rattle.std.proofs.Common.{◌≡◌, ◌≤◌, length, sym, ◌∙◌, take_all, inl, inr, rules}
use Rattle.std.proofs.lemmas.Bool.{cases_Bool}
use Rattle.std.specs.Cmp.Lexicographic.{pointwise, other_text}
use Rattle.std.specs.Prelude.{nat_eq}
use Rattle.ompt_events.proofs.claim_path.ClaimPathPartialEq.eq.Goals as goal

pub returns : goal.returns
returns c =
    let one : length c.args.self.now ≤ c.numbers.at = search rules in
    let other : length c.args.other.now ≤ c.numbers.at = search rules in
    let same : c.args.self.now ≡ c.args.other.now =
    sym (take_all c.numbers.at c.args.self.now one)
    ∙ c.numbers.invariant
    ∙ take_all c.numbers.at c.args.other.now other in
    elim (cases_Bool (pointwise nat_eq c.args.self.now c.args.other.now)) [
      | inl equal ↦ sym equal
      | inr apart ↦ absurd (other_text c.args.self.now c.args.other.now (sym apart) same)
    ]
