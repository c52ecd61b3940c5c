use Rattle.std.proofs.Common.{◌≡◌, ◌+◌, ◌-◌, ℕ, suc, Some, None, ap, sym, ◌∙◌, arith}
use Rattle.credit_ledger.specs.Trees.{child_since, since_all, both_of}
use Rattle.credit_ledger.proofs.PurseLemmas.{since_all-none}
use Rattle.credit_ledger.proofs.tree.Tree.since_all.Goals as goal

pub returns-in_default : goal.returns-in_default
returns-in_default c =
    let done : ℕ = c.numbers.number - c.args.first in
    let more : ℕ = c.args.end - c.numbers.number - 1 in
    let all : suc done + more ≡ c.args.end - c.args.first = omega arith in
    let at : c.args.first + done ≡ c.numbers.number = omega arith in
    let none : since_all (child_since c.args.self.now c.args.index) c.args.start c.args.first (suc done)
    ≡ None =
    ap (λ o. both_of o (child_since c.args.self.now c.args.index (c.args.first + done)))
    c.numbers.invariant.latest
    ∙ ap (λ n. both_of (Some c.numbers.latest) (child_since c.args.self.now c.args.index n)) at
    ∙ ap (both_of (Some c.numbers.latest)) (sym c.child_since.ensures ∙ c.in_default.is) in
    sym
    (ap (since_all (child_since c.args.self.now c.args.index) c.args.start c.args.first) (sym all)
    ∙ since_all-none (child_since c.args.self.now c.args.index) c.args.start c.args.first (suc done)
    more none)
