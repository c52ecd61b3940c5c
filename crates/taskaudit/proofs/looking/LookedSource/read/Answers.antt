use Rattle.std.proofs.Common.{◌≡◌, arith, drop, length, length-drop, length-take, rules}
use Rattle.taskaudit.proofs.LookLemmas.{held_given, none_held, rest_given, some_given}
use Rattle.taskaudit.proofs.looking.LookedSource.read.Goals as goal

pub returns-then-self-clause-bytes : goal.returns-then-self-clause-bytes
returns-then-self-clause-bytes g c =
    let six : length c.args.self.now.first ≡ 6 = search rules in (
      held_given (g.I.Source.remaining c.args.self.now.rest) c.args.self.now.first
          c.copy_from_slice.new.self _
          c.args.self.now.at c.args.self.now.end c.min-count.result _ (omega (arith, c.if-self.true))
          c.copy_from_slice.ensures.after
          c.min-count.ensures,
      λ none some.
          absurd
          (some_given c.args.self.now.first c.copy_from_slice.new.self
          (drop c.min-count.result c.args.buffer.now)
          c.args.self.now.at c.args.self.now.end c.min-count.result _ (omega (arith, c.if-self.true))
          (omega (arith, six, c.args.self.now.within.1)) c.copy_from_slice.ensures.after c.min-count.ensures
          (omega (
            arith,
            c.copy_from_slice.ensures.len,
            length-take c.min-count.result c.args.buffer.now,
            length-drop c.min-count.result c.args.buffer.now,
            c.min-count.ensures,
          ))
          none some),
    )

pub returns-clause-bytes : goal.returns-clause-bytes
returns-clause-bytes g c =
    rest_given _ _ _ _ _ (none_held c.args.self.now.first c.args.self.now.at c.args.self.now.end
    (omega (arith, c.if-self.false)))
    c.read.ensures.bytes
