use Rattle.std.proofs.Common.{◌≡◌, ◌∙◌, ℕ, length, subst, ap, arith}
use Rattle.task_tree.specs.Family.{FamilyView}
use Rattle.teams.specs.Members.{AreMembers}
use Rattle.teams.proofs.MemberLemmas.{leads_start, members_start}
use Rattle.teams.proofs.members.find_members.Goals as goal

pub loop-at-init : goal.loop-at-init
loop-at-init c = record {
  leads =
      leads_start c.args.run.now.records c.args.run.now.family.tasks c.with_hasher-leads.result
      c.with_hasher-leads.ensures.empty;
  seeded =
      c.with_hasher-leads.ensures.hasher ∙ c.region_hashers.ensures
      ∙ ap (λ (family : FamilyView). family.region_hashers) c.family.ensures.value;
  members =
      members_start c.args.run.now c.task_count.result c.in_ok-members.members c.task_count.ensures.value
      c.in_ok-members.ensures.teams c.in_ok-members.ensures.sizes;
}

pub returns : goal.returns
returns c =
    let last : c.loop-at.at ≡ length c.args.run.now.records =
    omega (arith, c.loop-at-test.false, c.loop-at.auto.at-end, c.len-at-end.ensures.value) in
    let P : ℕ → Type 0 = λ n. AreMembers c.args.run.now n c.loop-at.members in
    subst P last c.loop-at.invariant.members
