use Rattle.std.proofs.Common.{◌∙◌, sym}
use Rattle.checker.proofs.EntryLemmas.{entries_named, makers_named}
use Rattle.checker.proofs.makers.repeats_entry.Goals as goal

pub returns-then-is_finishing-clause-named : goal.returns-then-is_finishing-clause-named
returns-then-is_finishing-clause-named c =
    entries_named c.args.run.now.records c.args.at c.seen.result c.args.named.now c.name_entry.new.named
    c.name_entry.result (sym c.is_finishing.ensures ∙ c.if-is_finishing.true) (sym c.seen.ensures)
    c.name_entry.ensures.more c.requires.named

pub returns-then-is_finishing-clause-makers : goal.returns-then-is_finishing-clause-makers
returns-then-is_finishing-clause-makers c =
    makers_named c.args.run.now.records c.args.at c.seen.result c.args.named.now c.name_entry.new.named
    c.name_entry.result c.requires.within (sym c.is_finishing.ensures ∙ c.if-is_finishing.true)
    (sym c.seen.ensures) c.name_entry.ensures.known c.name_entry.ensures.makers
