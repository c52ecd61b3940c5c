use Rattle.std.proofs.Common.{◌≡◌, ◌∙◌, sym, arith}
use Rattle.std.proofs.lemmas.List.{get_or_default}
use Rattle.std.specs.Prelude.{slice_index}
use Rattle.checker.proofs.ListsLemmas.{lists_more, rising_more}
use Rattle.checker.proofs.lists.Lists.put_first.Goals as goal

pub returns-clause-lists : goal.returns-clause-lists
returns-clause-lists c = λ of n is rising lists.
    let firsts = c.args.self.now.firsts.items in
    let read : slice_index firsts c.args.key ≡ c.index.result.now =
    get_or_default firsts c.args.key 0 c.index.result.now c.requires.key ∙ sym c.index.ensures in
    let first = lists.first c.args.key c.requires.key in
    let behind = first.behind in
    let within = rising.all in
    let low = c.requires.within in
    rw (← read) (
      lists_more of n c.args.key c.args.place firsts c.args.self.now.nexts.items rising.all
          (omega (arith, within, low)) c.requires.key is lists,
      rising_more n c.args.place (slice_index firsts c.args.key) c.args.self.now.nexts.items
          (omega (arith, behind)) rising,
    )
