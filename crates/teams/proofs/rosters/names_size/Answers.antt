use Rattle.std.proofs.Common.{◌≡◌, ◌∙◌, None, sym, ap}
use Rattle.std.proofs.lemmas.Bool.{eqb-true, eq-eqb}
use Rattle.ompt_events.specs.declared.records.Membership.{Membership}
use Rattle.ompt_events.specs.Records.{joined}
use Rattle.ompt_events.specs.Places.{at}
use Rattle.teams.proofs.MemberLemmas.{never_of}
use Rattle.teams.proofs.RosterLemmas.{same_first, first_joins}
use Rattle.teams.proofs.rosters.names_size.Goals as goal

pub returns-in-Some : goal.returns-in-Some
returns-in-Some c = λ place first joins is.
    let run = c.args.run.now in
    let found = c.in-Some.first in
    let same =
    same_first run.records run.family.tasks c.args.lead place c.made_at.result first found
    c.task_count-tasks.ensures.is_run.family.once c.made_at.ensures
    (sym c.joined.ensures ∙ c.in-Some.is) joins is in
    let one = ap (λ (m : Membership). m.actual) same in (
      λ holds.
          sym one ∙ eqb-true found.actual c.args.actual holds,
      λ equal. eq-eqb found.actual c.args.actual (one ∙ equal),
    )

pub returns-in-None : goal.returns-in-None
returns-in-None c = λ place first joins is.
    let run = c.args.run.now in
    let there = c.made_at.result in
    let none : at joined run.records there ≡ None = sym c.joined.ensures ∙ c.in-None.is in
    absurd
    (never_of (at joined run.records there) first none
    (first_joins run.records run.family.tasks c.args.lead place there first
    c.task_count-tasks.ensures.is_run.family.once c.made_at.ensures joins is))
