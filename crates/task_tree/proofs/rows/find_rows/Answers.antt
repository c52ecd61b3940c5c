use Rattle.std.proofs.Common.{◌≡◌, ◌∙◌, ◌<◌, length, ap, sym, arith}
use Rattle.std.proofs.lemmas.List.{get_or_default, length-replicate}
use Rattle.std.specs.Prelude.{slice_index}
use Rattle.index_tables.proofs.RowLemmas.{offsets_within, within_same}
use Rattle.task_tree.proofs.RowLemmas.{counted_fit}
use Rattle.task_tree.proofs.rows.find_rows.Goals as goal

pub fill-requires-clause-within : goal.fill-requires-clause-within
fill-requires-clause-within c =
    let low : length c.args.counts.now < length c.in_ok-offsets.offsets.items =
    omega (arith, c.in_ok-offsets.ensures.all) in
    let last : slice_index c.in_ok-offsets.offsets.items (length c.args.counts.now)
    ≡ c.index-total.result.now =
    get_or_default c.in_ok-offsets.offsets.items (length c.args.counts.now) 0 c.index-total.result.now
    low
    ∙ sym c.index-total.ensures in
    rw c.as_slice.ensures.value
    ((offsets_within c.args.counts.now c.in_ok-offsets.offsets.items c.in_ok-ids.ids.items
    c.in_ok-offsets.ensures
    (ap length c.in_ok-ids.ensures ∙ length-replicate c.index-total.result.now 0 ∙ sym last)).within)

pub fill-requires-clause-fitting : goal.fill-requires-clause-fitting
fill-requires-clause-fitting c =
    rw c.as_slice.ensures.value
    (counted_fit c.args.counts.now c.in_ok-offsets.offsets.items c.args.links.now c.in_ok-offsets.ensures
    c.requires.counted)

pub of-requires : goal.of-requires
of-requires c =
    let low : length c.args.counts.now < length c.in_ok-offsets.offsets.items =
    omega (arith, c.in_ok-offsets.ensures.all) in
    let last : slice_index c.in_ok-offsets.offsets.items (length c.args.counts.now)
    ≡ c.index-total.result.now =
    get_or_default c.in_ok-offsets.offsets.items (length c.args.counts.now) 0 c.index-total.result.now
    low
    ∙ sym c.index-total.ensures in
    within_same c.in_ok-offsets.offsets.items c.in_ok-ids.ids.items c.fill.new.ids.items
    (offsets_within c.args.counts.now c.in_ok-offsets.offsets.items c.in_ok-ids.ids.items
    c.in_ok-offsets.ensures
    (ap length c.in_ok-ids.ensures ∙ length-replicate c.index-total.result.now 0 ∙ sym last))
    c.fill.ensures.all

pub returns-clause-within : goal.returns-clause-within
returns-clause-within c =
    let low : length c.args.counts.now < length c.in_ok-offsets.offsets.items =
    omega (arith, c.in_ok-offsets.ensures.all) in
    let last : slice_index c.in_ok-offsets.offsets.items (length c.args.counts.now)
    ≡ c.index-total.result.now =
    get_or_default c.in_ok-offsets.offsets.items (length c.args.counts.now) 0 c.index-total.result.now
    low
    ∙ sym c.index-total.ensures in
    rw (c.of.ensures.offsets, c.of.ensures.ids)
    (within_same c.in_ok-offsets.offsets.items c.in_ok-ids.ids.items c.fill.new.ids.items
    (offsets_within c.args.counts.now c.in_ok-offsets.offsets.items c.in_ok-ids.ids.items
    c.in_ok-offsets.ensures
    (ap length c.in_ok-ids.ensures ∙ length-replicate c.index-total.result.now 0 ∙ sym last))
    c.fill.ensures.all)
