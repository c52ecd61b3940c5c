use Rattle.std.proofs.Common.{ap, sym, ◌∙◌}
use Rattle.std.specs.Prelude.{option_and_then}
use Rattle.lines.specs.Meanings.{items_meant}
use Rattle.lines.specs.Members.{flags_from}
use Rattle.lines.proofs.MeaningLemmas.{no_list-says, list-says, flags-more, flags-none, flags-all}
use Rattle.lines.proofs.tape.flags.Goals as goal

pub returns-in_default : goal.returns-in_default
returns-in_default g c =
    rw
    (no_list-says c.args.item.now c.requires.some
    (c.in_default.ensures c.requires.some.0 c.requires.some.1))

pub names-init : goal.names-init
names-init g c =
    let list = c.in-Some.ensures c.requires.some.0 c.requires.some.1 in (
      list.0,
      list.2,
      ap (option_and_then (flags_from g.F.Flags.table 0))
          (list-says c.args.item.now c.requires.some list.0 list.1)
          ∙ ap (λ n. flags_from g.F.Flags.table n (items_meant list.0))
          (sym (c.empty-flags.ensures c.requires.exact)),
    )

pub flag-requires-clause-some : goal.flag-requires-clause-some
flag-requires-clause-some g c =
    let now = c.names.invariant in
    let next = c.in-Some-next.ensures.value now.0 now.1 in
    (next.0, next.3)

pub returns-in_default-flag : goal.returns-in_default-flag
returns-in_default-flag g c =
    let now = c.names.invariant in
    let next = c.in-Some-next.ensures.value now.0 now.1 in
    rw
    (flags-none g.F.Flags.table _ _ now.0 next.1 next.0 c.in-Some-next.name now.2 next.2 next.3
    c.in_default-flag.ensures)

pub names-preserved : goal.names-preserved
names-preserved g c =
    let now = c.names.invariant in
    let next = c.in-Some-next.ensures.value now.0 now.1 in (
      next.1,
      next.4,
      rw (c.insert.ensures c.requires.exact)
          (flags-more g.F.Flags.table _ _ (g.F.Flags.set_of c.in-Some-flag.named) now.0 next.1 next.0
          c.in-Some-next.name now.2 next.2 next.3 c.in-Some-flag.ensures),
    )

pub returns : goal.returns
returns g c =
    let now = c.names.invariant in
    rw (flags-all g.F.Flags.table _ _ now.0 now.2 (c.in_default-next.ensures.value now.0 now.1))
