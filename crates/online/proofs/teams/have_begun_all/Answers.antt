use Rattle.std.proofs.Common.{ℕ, ◌≡◌, Bor, refl, rules, subst}
use Rattle.std.specs.Prelude.{nat_eq, All, IfSome, map}
use Rattle.std.specs.Map.Iter.{deref_pair}
use Rattle.std.proofs.lemmas.List.Elements.{All-map, All-push}
use Rattle.std.proofs.lemmas.Map.Entries.{All-lookup}
use Rattle.std.proofs.lemmas.Map.Iter.{iter_end}
use Rattle.online.specs.declared.team.Team.{Team}
use Rattle.online.specs.Teams.{HasBegunAll}
use Rattle.online.proofs.teams.have_begun_all.Goals as goal

pub loop-team-preserved : goal.loop-team-preserved
loop-team-preserved c =
    All-push (λ (p : Bor ℕ × Bor Team). HasBegunAll p.1.now) c.loop-team.yielded
    (c.in-Some.field-0-0, c.in-Some.team) c.loop-team.invariant (c.if-not-has_begun_all.ensures refl)

pub returns : goal.returns
returns c = λ yes parallel team found.
    let e : map deref_pair c.loop-team.yielded ≡ c.args.teams.now.entries = search (rules, iter_end) in
    let each =
    All-map (λ (e : ℕ × Team). HasBegunAll e.1) deref_pair c.loop-team.yielded c.loop-team.invariant in
    let all = subst (λ es. All (λ (e : ℕ × Team). HasBegunAll e.1) es) e each in
    subst (λ o. IfSome o HasBegunAll) found
    (All-lookup HasBegunAll (nat_eq parallel) c.args.teams.now.entries all)
