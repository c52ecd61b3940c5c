use Rattle.std.proofs.Common.{◌∙◌, sym, ap, true, cond}
use Rattle.std.specs.Ordering.{nat_cmp}
use Rattle.std.specs.BTreeSet.{contains}
use Rattle.ompt_events.proofs.NumberMaps.{same_key, other_key}
use Rattle.task_tree.proofs.GapLemmas.{root_more}
use Rattle.task_tree.proofs.gap_search.note_root.Goals as goal

pub returns-in_ok-insert : goal.returns-in_ok-insert
returns-in_ok-insert c =
    let rs = c.args.trace.now.records in
    let task = c.in-Some.task in
    let updates = c.in_ok-insert.ensures.updates in
    root_more rs c.args.at task c.args.roots.now c.insert.new.self c.requires.roots
    (sym c.begun_root.ensures ∙ c.in-Some.is)
    (λ q apart. updates.2 q (other_key task q apart))
    (updates.0 task ∙ ap (λ b. cond b true (contains nat_cmp c.args.roots.now task)) (same_key task))
