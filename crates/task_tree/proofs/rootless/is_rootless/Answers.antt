use Rattle.std.proofs.Common.{◌∙◌, inl, inr, refl, sym, true}
use Rattle.std.proofs.lemmas.Bool.{false≢true}
use Rattle.ompt_events.specs.Records.{claim, region_named}
use Rattle.ompt_events.proofs.ListLemmas.{get_within}
use Rattle.ompt_events.proofs.PlaceLemmas.{at_get}
use Rattle.packed_trace.specs.Named.{object, subject}
use Rattle.task_tree.specs.Rootless.{NamesNoRegion}
use Rattle.task_tree.proofs.RootlessLemmas.{claim_rootless, decides_rootless, finds_there, object_missing}
use Rattle.task_tree.proofs.RootlessLemmas.{rest_of, roots_made, subject_missing}
use Rattle.task_tree.proofs.rootless.is_rootless.Goals as goal

pub returns-then-is_missing : goal.returns-then-is_missing
returns-then-is_missing c =
    let rs = c.args.trace.now.records in
    let tables = c.args.tables.now in
    let there = get_within rs c.args.at c.requires.within in
    let found =
    finds_there subject rs tables.tasks tables.named.subjects.items c.args.at c.index-first.result.now
    c.requires.tables.subjects c.requires.within c.index-first.ensures in
    decides_rootless rs tables c.args.at there.0 true c.requires.tables there.1 (
      λ yes.
          subject_missing tables.tasks tables.regions tables.roots.items there.0.body c.index-first.result.now
          (rw (at_get subject rs c.args.at there.0 there.1) at found)
          (rw (c.subject.ensures ∙ at_get subject rs c.args.at there.0 there.1) at
          (c.is_missing.ensures.0 c.if-is_missing.true)),
      λ has. refl,
    )

pub returns-then-is_missing-2 : goal.returns-then-is_missing-2
returns-then-is_missing-2 c =
    let rs = c.args.trace.now.records in
    let tables = c.args.tables.now in
    let there = get_within rs c.args.at c.requires.within in
    let found =
    finds_there object rs tables.tasks tables.named.objects.items c.args.at c.index-second.result.now
    c.requires.tables.objects c.requires.within c.index-second.ensures in
    decides_rootless rs tables c.args.at there.0 true c.requires.tables there.1 (
      λ yes.
          object_missing tables.tasks tables.regions tables.roots.items there.0.body c.index-second.result.now
          (rw (at_get object rs c.args.at there.0 there.1) at found)
          (rw (c.object.ensures ∙ at_get object rs c.args.at there.0 there.1) at
          (c.is_missing-2.ensures.0 c.if-is_missing-2.true)),
      λ has. refl,
    )

pub claims_unmade-requires-clause-made : goal.claims_unmade-requires-clause-made
claims_unmade-requires-clause-made c =
    let tables = c.args.tables.now in
    rw c.as_slice-roots.ensures.value
    (roots_made c.args.trace.now.records tables.tasks tables.roots.items c.requires.tables.noted
    c.requires.tables.roots)

pub returns-then-claims_unmade : goal.returns-then-claims_unmade
returns-then-claims_unmade c =
    let rs = c.args.trace.now.records in
    let tables = c.args.tables.now in
    let there = get_within rs c.args.at c.requires.within in
    decides_rootless rs tables c.args.at there.0 true c.requires.tables there.1 (
      λ yes.
          claim_rootless tables.tasks tables.regions tables.roots.items there.0.body (claim there.0.body) refl
          (rw (at_get claim rs c.args.at there.0 there.1) at
          (c.claims_unmade.ensures.0 c.if-claims_unmade.true)),
      λ has. refl,
    )

pub creates_unrooted-requires-clause-all : goal.creates_unrooted-requires-clause-all
creates_unrooted-requires-clause-all c = rw c.as_slice-roots.ensures.value c.requires.tables.roots.all

pub creates_unrooted-requires-clause-found : goal.creates_unrooted-requires-clause-found
creates_unrooted-requires-clause-found c =
    let tables = c.args.tables.now in
    finds_there object c.args.trace.now.records tables.tasks tables.named.objects.items c.args.at
    c.index-second.result.now c.requires.tables.objects c.requires.within c.index-second.ensures

pub creates_unrooted-requires-clause-filled : goal.creates_unrooted-requires-clause-filled
creates_unrooted-requires-clause-filled c = λ missing.
    false≢true
    (sym c.if-is_missing-2.false ∙ c.is_missing-2.ensures.1 (rw (sym c.object.ensures) at missing))

pub returns-then-creates_unrooted : goal.returns-then-creates_unrooted
returns-then-creates_unrooted c =
    let rs = c.args.trace.now.records in
    let there = get_within rs c.args.at c.requires.within in
    decides_rootless rs c.args.tables.now c.args.at there.0 true c.requires.tables there.1 (
      λ yes.
          inr
          (inl
          (rw c.as_slice-roots.ensures.value at
          ((c.creates_unrooted.ensures there.0 there.1).0 c.if-creates_unrooted.true))),
      λ has. refl,
    )

pub returns : goal.returns
returns c =
    let rs = c.args.trace.now.records in
    let tables = c.args.tables.now in
    let there = get_within rs c.args.at c.requires.within in
    let r = there.0 in
    let stands = there.1 in
    let first =
    finds_there subject rs tables.tasks tables.named.subjects.items c.args.at c.index-first.result.now
    c.requires.tables.subjects c.requires.within c.index-first.ensures in
    let second =
    finds_there object rs tables.tasks tables.named.objects.items c.args.at c.index-second.result.now
    c.requires.tables.objects c.requires.within c.index-second.ensures in
    let region_is = at_get region_named rs c.args.at r stands in
    decides_rootless rs tables c.args.at r c.names_no_region.result c.requires.tables stands (
      λ yes. inr (inr (rw region_is at (c.names_no_region.ensures.0 yes))),
      λ has.
          let none : NamesNoRegion tables.regions r.body =
          elim
          (rest_of tables.tasks tables.regions tables.roots.items r.body c.index-first.result.now
          c.index-second.result.now (rw (at_get subject rs c.args.at r stands) at first)
          (rw (at_get object rs c.args.at r stands) at second)
          (λ missing.
          false≢true
          (sym c.if-is_missing.false
          ∙ c.is_missing.ensures.1
          (rw (sym (c.subject.ensures ∙ at_get subject rs c.args.at r stands)) at missing)))
          (λ missing.
          false≢true
          (sym c.if-is_missing-2.false
          ∙ c.is_missing-2.ensures.1
          (rw (sym (c.object.ensures ∙ at_get object rs c.args.at r stands)) at missing)))
          (λ unmade.
          false≢true
          (sym c.if-claims_unmade.false
          ∙ c.claims_unmade.ensures.1 (rw (sym (at_get claim rs c.args.at r stands)) at unmade)))
          has) [
            | inl unrooted ↦
                absurd
                (false≢true
                (sym c.if-creates_unrooted.false
                ∙ (rw c.as_slice-roots.ensures.value at (c.creates_unrooted.ensures r stands)).1 unrooted))
            | inr region ↦ region
          ] in
          c.names_no_region.ensures.1 (rw (sym region_is) at none),
    )
