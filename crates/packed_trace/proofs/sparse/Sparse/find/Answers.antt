use Rattle.std.proofs.Common.{sym}
use Rattle.std.specs.Prelude.{Err}
use Rattle.std.proofs.lemmas.List.Sorted.{searched}
use Rattle.packed_trace.proofs.SparseLemmas.{found_nowhere, rises_so}
use Rattle.packed_trace.proofs.sparse.Sparse.find.Goals as goal

pub returns-in-Err : goal.returns-in-Err
returns-in-Err g c = λ says rs are.
    let places = c.args.self.now.places.items in
    let items = c.args.self.now.items.items in
    let answer = searched places c.args.place (Err c.in-Err.field-0)
    (rw (c.deref.ensures.value, c.in-Err.is) at c.binary_search.ensures.position)
    (rises_so says rs places items are) in
    sym (found_nowhere says rs places items c.args.place _ are answer.1 answer.2)
