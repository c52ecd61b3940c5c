use Rattle.lines.specs.Members.{whole_of}
use Rattle.lines.proofs.MeaningLemmas.{no_list-says, list-says, each-start, each-more, each-none}
use Rattle.lines.proofs.MeaningLemmas.{each-all}
use Rattle.lines.proofs.tape.numbers.Goals as goal

pub returns-in_default : goal.returns-in_default
returns-in_default c =
    λ _. rw (no_list-says c.args.item.now c.requires (c.in_default.ensures c.requires.0 c.requires.1))

pub found-init : goal.found-init
found-init c =
    let list = c.in-Some.ensures c.requires.0 c.requires.1 in (
      list.0,
      list.2,
      rw c.new-numbers.ensures.items
          (each-start whole_of _ list.0 (list-says c.args.item.now c.requires list.0 list.1)),
    )

pub whole-requires : goal.whole-requires
whole-requires c =
    let now = c.found.invariant in
    let next = c.in-Some-next.ensures.value now.0 now.1 in
    (next.0, next.3)

pub returns-in_default-whole : goal.returns-in_default-whole
returns-in_default-whole c =
    let now = c.found.invariant in
    let next = c.in-Some-next.ensures.value now.0 now.1 in
    λ _.
    rw
    (each-none whole_of _ c.found.numbers.items now.0 next.1 next.0 c.in-Some-next.number now.2 next.2
    next.3 c.in_default-whole.ensures)

pub found-preserved : goal.found-preserved
found-preserved c =
    let now = c.found.invariant in
    let next = c.in-Some-next.ensures.value now.0 now.1 in (
      next.1,
      next.4,
      rw c.in-Ok.ensures.items
          (each-more whole_of _ c.found.numbers.items c.in-Some-whole.number now.0 next.1 next.0
          c.in-Some-next.number now.2 next.2 next.3 c.in-Some-whole.ensures),
    )

pub returns : goal.returns
returns c =
    let now = c.found.invariant in
    λ _.
    rw
    (each-all whole_of _ c.found.numbers.items now.0 now.2
    (c.in_default-next.ensures.value now.0 now.1))
