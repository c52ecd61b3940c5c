use Rattle.std.proofs.Common.{◌≡◌, ◌<◌, ◌+◌, ◌∙◌, Some, length, get_or, ap, sym, refl, arith, rules}
use Rattle.std.proofs.lemmas.Option.{slice_get-get_or, slice_get_read}
use Rattle.std.proofs.lemmas.List.{length-set}
use Rattle.std.specs.Prelude.{slice_get, slice_index}
use Rattle.task_tree.proofs.RowLemmas.{filled_other, filled_more}
use Rattle.task_tree.proofs.rows.fill.Goals as goal
use Rattle.task_tree.proofs.rows.fill.Goals.{in-Some, in_default}

pub bounds-offsets-link : goal.bounds-offsets-link
bounds-offsets-link c =
    let fits =
    c.requires.fitting c.loop-index.index c.in-Some.link
    (slice_get_read c.args.links.now (length c.args.links.now) c.loop-index.index
    c.index-links-index.result refl c.loop-index-test.true c.index-links-index.is
    ∙ ap Some (sym c.get.ensures ∙ c.in-Some.is)) in
    omega (arith, fits.0)

pub overflow_add-place : goal.overflow_add-place
overflow_add-place c =
    let fits =
    c.requires.fitting c.loop-index.index c.in-Some.link
    (slice_get_read c.args.links.now (length c.args.links.now) c.loop-index.index
    c.index-links-index.result refl c.loop-index-test.true c.index-links-index.is
    ∙ ap Some (sym c.get.ensures ∙ c.in-Some.is)) in
    let small = c.type_inv.offsets (c.in-Some.link.parent + 1) in
    omega (arith, fits.1, small)

pub index_mut-requires : goal.index_mut-requires
index_mut-requires c =
    let fits =
    c.requires.fitting c.loop-index.index c.in-Some.link
    (slice_get_read c.args.links.now (length c.args.links.now) c.loop-index.index
    c.index-links-index.result refl c.loop-index-test.true c.index-links-index.is
    ∙ ap Some (sym c.get.ensures ∙ c.in-Some.is)) in
    let inside = c.requires.within (c.in-Some.link.parent + 1) fits.0 in
    let all = c.loop-index.invariant.all in
    let within : slice_index c.args.offsets.now c.in-Some.link.parent + c.in-Some.link.number
    < length c.loop-index.ids.items =
    omega (arith, fits.1, inside, all) in
    search rules

pub loop-index-preserved : goal.loop-index-preserved
loop-index-preserved c =
    elim c.match-get.branch [
      | in-Some w ↦
          let here : slice_get c.args.links.now c.loop-index.index ≡ Some (Some w.in-Some.link) =
          slice_get_read c.args.links.now (length c.args.links.now) c.loop-index.index
          c.index-links-index.result refl c.loop-index-test.true c.index-links-index.is
          ∙ ap Some (sym c.get.ensures ∙ w.in-Some.is) in
          let fits = c.requires.fitting c.loop-index.index w.in-Some.link here in
          let inside = c.requires.within (w.in-Some.link.parent + 1) fits.0 in
          let all = c.loop-index.invariant.all in
          rw w.ids-is (record {
            all = length-set c.loop-index.ids.items _ _ ∙ all;
            filled =
                filled_more c.loop-index.index (get_or c.args.tasks.now c.loop-index.index 0) w.in-Some.link
                c.args.tasks.now c.args.links.now c.args.offsets.now c.loop-index.ids.items
                c.requires.rising c.requires.fitting c.requires.single
                (omega (arith, fits.1, inside, all)) c.loop-index.invariant.filled
                (slice_get-get_or c.args.tasks.now c.loop-index.index 0
                (omega (arith, c.loop-index-test.true, c.requires.all)))
                here;
          })
      | in_default w ↦ rw w.ids-is (record {
        all = c.loop-index.invariant.all;
        filled =
            filled_other c.loop-index.index c.args.tasks.now c.args.links.now c.args.offsets.now
            c.loop-index.ids.items c.loop-index.invariant.filled
            (slice_get_read c.args.links.now (length c.args.links.now) c.loop-index.index
            c.index-links-index.result refl c.loop-index-test.true c.index-links-index.is
            ∙ ap Some (sym c.get.ensures ∙ w.in_default.is));
      })
    ]
