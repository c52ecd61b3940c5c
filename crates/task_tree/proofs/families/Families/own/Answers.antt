use Rattle.std.proofs.Common.{◌∙◌, ap, sym}
use Rattle.task_tree.specs.Families.{FamiliesView}
use Rattle.task_tree.proofs.FamiliesLemmas.{file_order_all, own_order_all, file_order_members}
use Rattle.task_tree.proofs.FamiliesLemmas.{own_order_members}
use Rattle.task_tree.proofs.families.Families.own.Goals as goal

pub of-requires-in-None-clause-places : goal.of-requires-in-None-clause-places
of-requires-in-None-clause-places c =
    let none = sym (ap (λ (f : FamiliesView). f.arranged) c.self.view_is) ∙ c.in-None.is in
    let order = ap (λ (f : FamiliesView). f.places) c.self.view_is in
    rw (order, c.of.ensures.records)
    (file_order_all c.args.trace.now.records c.args.self.now.arranged c.args.self.now.places none
    c.requires.own)

pub of-requires-in-None-clause-members : goal.of-requires-in-None-clause-members
of-requires-in-None-clause-members c =
    let none = sym (ap (λ (f : FamiliesView). f.arranged) c.self.view_is) ∙ c.in-None.is in
    let order = ap (λ (f : FamiliesView). f.places) c.self.view_is in
    rw (order, c.of.ensures.records)
    (file_order_members c.args.trace.now.records c.args.self.now.arranged c.args.self.now.places none
    c.requires.own)

pub of-requires-in-Some-clause-places : goal.of-requires-in-Some-clause-places
of-requires-in-Some-clause-places c =
    let some = sym (ap (λ (f : FamiliesView). f.arranged) c.self.view_is) ∙ c.in-Some.is in
    let order = ap (λ (f : FamiliesView). f.places) c.self.view_is in
    rw (order, c.run.ensures)
    (own_order_all c.args.trace.now.records c.args.self.now.arranged c.in-Some.arranged
    c.args.self.now.places some c.requires.own)

pub of-requires-in-Some-clause-members : goal.of-requires-in-Some-clause-members
of-requires-in-Some-clause-members c =
    let some = sym (ap (λ (f : FamiliesView). f.arranged) c.self.view_is) ∙ c.in-Some.is in
    let order = ap (λ (f : FamiliesView). f.places) c.self.view_is in
    rw (order, c.run.ensures)
    (own_order_members c.args.trace.now.records c.args.self.now.arranged c.in-Some.arranged
    c.args.self.now.places some c.requires.own)
