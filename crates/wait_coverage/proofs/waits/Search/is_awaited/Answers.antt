use Rattle.std.proofs.Common.{◌≡◌, ◌∙◌, ℕ, Some, None, false, get_or, sym, ap, subst, arith, inl, inr}
use Rattle.std.proofs.lemmas.Bool.{false≢true}
use Rattle.std.proofs.lemmas.Option.{none-some, same_Some, slice_get-get_or}
use Rattle.std.specs.Prelude.{IsTrue, slice_index_or}
use Rattle.credit_ledger.specs.declared.entry.Cover.TheVariants.{Descendants}
use Rattle.task_tree.specs.Lineage.{parent_index}
use Rattle.task_tree.proofs.LineageLemmas.{parent_within}
use Rattle.wait_coverage.specs.Search.{SearchView, IsSearch}
use Rattle.wait_coverage.specs.Waits.{cover_of}
use Rattle.wait_coverage.proofs.WaitLemmas.{awaited_cases, below_awaited, parent_in}
use Rattle.wait_coverage.proofs.waits.Search.is_awaited.Goals as goal

pub bounds-marks-up : goal.bounds-marks-up
bounds-marks-up c =
    let search = c.args.self.now in
    let known : IsSearch search = subst IsSearch c.self.view_is c.self.invariant in
    let above : parent_index search.teams.run.family c.args.index ≡ Some c.in-Some.up =
    parent_in c.run.result.now search c.args.index c.parent.result
    (c.run.ensures.value ∙ ap (λ (s : SearchView). s.teams.run) c.self.view_is) c.parent.ensures
    ∙ c.in-Some.is in
    let inside =
    parent_within search.teams.run.records search.teams.run.family c.args.index c.in-Some.up
    known.teams.run.family above in
    let all = c.requires.all in
    omega (arith, inside, all)

pub returns-in-Some : goal.returns-in-Some
returns-in-Some c = λ task is.
    let search = c.args.self.now in
    let known : IsSearch search = subst IsSearch c.self.view_is c.self.invariant in
    let rs = search.teams.run.records in
    let family = search.teams.run.family in
    let family_of = known.teams.run.family in
    let up = c.in-Some.up in
    let above : parent_index family c.args.index ≡ Some up =
    parent_in c.run.result.now search c.args.index c.parent.result
    (c.run.ensures.value ∙ ap (λ (s : SearchView). s.teams.run) c.self.view_is) c.parent.ensures
    ∙ c.in-Some.is in
    let deep : cover_of search.wait ≡ Descendants =
    ap (λ (s : SearchView). cover_of s.wait) (sym c.self.view_is) ∙ sym c.cover.ensures
    ∙ c.in-Descendants.is in
    let parent = get_or family.tasks up 0 in
    let is_parent =
    slice_get-get_or family.tasks up 0 (parent_within rs family c.args.index up family_of above) in
    let marked = c.requires.above up parent above is_parent in (
      λ mark.
          below_awaited rs family c.args.index task up parent search.wait family_of is deep above is_parent
          (marked.0 mark),
      λ awaited. elim (awaited_cases rs family c.args.index task search.wait family_of is deep awaited) [
        | inl own ↦ absurd (false≢true (sym c.if-is_own_child.false ∙ (c.is_own_child.ensures task is).1 own))
        | inr found ↦
            let same = same_Some found.0 up (sym found.2 ∙ above) in
            let P : ℕ → Type 0 = λ k. IsTrue (slice_index_or c.args.marks.now k false) in
            subst P same ((c.requires.above found.0 found.1 found.2 found.3).1 found.4)
      ],
    )

pub returns-in-None : goal.returns-in-None
returns-in-None c = λ task is.
    let search = c.args.self.now in
    let known : IsSearch search = subst IsSearch c.self.view_is c.self.invariant in
    let above : parent_index search.teams.run.family c.args.index ≡ None =
    parent_in c.run.result.now search c.args.index c.parent.result
    (c.run.ensures.value ∙ ap (λ (s : SearchView). s.teams.run) c.self.view_is) c.parent.ensures
    ∙ c.in-None.is in
    let deep : cover_of search.wait ≡ Descendants =
    ap (λ (s : SearchView). cover_of s.wait) (sym c.self.view_is) ∙ sym c.cover.ensures
    ∙ c.in-Descendants.is in (
      λ never. absurd (false≢true never),
      λ awaited.
          elim
          (awaited_cases search.teams.run.records search.teams.run.family c.args.index task search.wait
          known.teams.run.family is deep awaited) [
            | inl own ↦
                absurd
                (false≢true (sym c.if-is_own_child.false ∙ (c.is_own_child.ensures task is).1 own))
            | inr found ↦ absurd (none-some found.0 (sym above ∙ found.2))
          ],
    )
