use Rattle.std.proofs.Common.{sym, subst, take}
use Rattle.ompt_events.specs.declared.deps.Dep.{Dep}
use Rattle.online.specs.Items.{AreUses}
use Rattle.ompt_events.specs.declared.names.DepKind.TheVariants.{In}
use Rattle.std.proofs.lemmas.List.{take_all, take_more}
use Rattle.online.proofs.items.uses_of.Goals as goal

pub loop-item-preserved : goal.loop-item-preserved
loop-item-preserved c =
    let i = c.loop-item.item-index in
    let first : Dep = record { var = 0; kind = In } in
    subst (AreUses c.add_use.new.uses.items) (sym (take_more c.args.list.now i first c.loop-item-test.true))
    (c.in_ok-add_use.ensures (take i c.args.list.now) c.loop-item.invariant)

pub returns : goal.returns
returns c =
    subst (AreUses c.loop-item.uses.items) (take_all c.loop-item.item-index c.args.list.now
    c.loop-item-test.false)
    c.loop-item.invariant
