use Rattle.std.proofs.Common.{drop, length, length-append, length-drop, arith, sym, ap, ◌∙◌}
use Rattle.certificate.specs.MemoryDevices.{SourceView}
use Rattle.certificate.proofs.MemoryLemmas.{front_given, none_given}
use Rattle.certificate.proofs.memory.MemSourceSource.read.Goals as goal

pub returns-clause-bytes : goal.returns-clause-bytes
returns-clause-bytes c =
    let source = c.self.inside in
    let least = rw c.deref.ensures.value at c.min-count.ensures in (
      sym (ap (λ (v : SourceView). v.left) c.self.view_is)
          ∙ front_given source.bytes.items _ _ source.at c.min-count.result c.min.result
          (rw c.deref.ensures.value at c.copy_from_slice.ensures.after) least,
      λ none some.
          none_given source.bytes.items source.at c.min-count.result source.per_read
          (length c.args.buffer.now)
          c.self.invariant.1
          (omega (
            arith,
            length-append c.copy_from_slice.new.self (drop c.min-count.result c.args.buffer.now),
            length-drop c.min-count.result c.args.buffer.now,
            c.copy_from_slice.ensures.len,
          ))
          (rw c.min.ensures at least) none,
    )
