use Rattle.std.proofs.Common.{◌∙◌, sym, arith, inl, inr}
use Rattle.std.proofs.lemmas.Bool.{false≢true}
use Rattle.task_tree.proofs.RisingPassLemmas.{root_or_explicit}
use Rattle.task_tree.proofs.GapFreeLemmas.{first_of_created, next_of_root, next_of_begun}
use Rattle.task_tree.proofs.gaps.may_begin.Goals as goal

pub returns-then-begin-eq0 : goal.returns-then-begin-eq0
returns-then-begin-eq0 c holds task indexed =
    let rs = c.args.trace.now.records in
    first_of_created rs task c.args.begin.turn c.requires.family.once c.if-begin-eq0.true
    ((c.is_explicit_at.ensures rs c.requires.family task indexed).0 holds)

pub returns-then-not-is_explicit_at : goal.returns-then-not-is_explicit_at
returns-then-not-is_explicit_at c holds task indexed =
    let rs = c.args.trace.now.records in
    let made = root_or_explicit rs c.args.family.now c.args.begin.index task c.requires.family indexed in
    next_of_root rs task c.args.begin.turn c.if-begin-eq1.true (elim made [
      | inl root ↦ root
      | inr explicit ↦
          absurd
          (false≢true
          (sym c.if-not-is_explicit_at.true
          ∙ (c.is_explicit_at-then-begin-eq1.ensures rs c.requires.family task indexed).1
          explicit))
    ])

pub returns : goal.returns
returns c holds task indexed =
    let rs = c.args.trace.now.records in
    let begun = c.has_begun.ensures rs c.args.family.now.tasks task c.requires.rows.marked indexed holds in
    next_of_begun rs task c.args.begin.turn begun.0 (omega (arith, c.if-begin-eq0.false)) begun.1
