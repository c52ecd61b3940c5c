use Rattle.std.proofs.Common.{◌≡◌, ◌∙◌, ℕ, Some, sym, subst, arith}
use Rattle.std.proofs.lemmas.Bool.{false≢true}
use Rattle.std.specs.Prelude.{slice_get}
use Rattle.task_tree.specs.Own.{OwnView}
use Rattle.teams.specs.Tables.{tables_own}
use Rattle.teams.specs.Short.{IsMissedNowhere}
use Rattle.teams.proofs.ShortLemmas.{nowhere_more}
use Rattle.teams.proofs.short.find_missed.Goals as goal

pub loop-place-preserved : goal.loop-place-preserved
loop-place-preserved c =
    let own = tables_own c.args.tables.now in
    let P : OwnView → Type 0 = λ o. slice_get o.places c.number.result ≡ Some c.loop-place.place in
    let stands = subst P c.own.ensures.value c.number.ensures.value in
    nowhere_more own c.loop-place.place c.number.result c.own.ensures.are_tables.placed stands
    (λ m. false≢true (sym c.if-is_missed.false ∙ c.is_missed.ensures.1 m)) c.loop-place.invariant

pub returns : goal.returns
returns c =
    let last : c.loop-place.place ≡ c.args.end =
    omega (arith, c.loop-place-test.false, c.loop-place.auto.place-end) in
    let P : ℕ → Type 0 = IsMissedNowhere (tables_own c.args.tables.now) in
    subst P last c.loop-place.invariant
