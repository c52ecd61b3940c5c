use Rattle.std.proofs.Common.{inl, inr}
use Rattle.depend_edges.proofs.MaximaLemmas.{awaited_in, awaited_out, all_out, all_inout, awaited_mutex}
use Rattle.depend_edges.proofs.MaximaLemmas.{awaited_set}
use Rattle.depend_edges.proofs.maxima.Maxima.awaited.Goals as goal

pub returns-in-In : goal.returns-in-In
returns-in-In c =
    rw c.in-In.is (awaited_in c.args.self c.max.result c.max-in-In.result c.max.ensures c.max-in-In.ensures)

pub returns-in-Out : goal.returns-in-Out
returns-in-Out c = elim c.in-Out.is [
  | inl is ↦
      rw is
      (awaited_out c.args.self _ c.max-in-Out.result c.max-in-Out-2.result c.max-in-Out-3.result all_out
      c.max-in-Out.ensures c.max-in-Out-2.ensures c.max-in-Out-3.ensures)
  | inr is ↦
      rw is
      (awaited_out c.args.self _ c.max-in-Out.result c.max-in-Out-2.result c.max-in-Out-3.result all_inout
      c.max-in-Out.ensures c.max-in-Out-2.ensures c.max-in-Out-3.ensures)
]

pub returns-in-Mutexinoutset : goal.returns-in-Mutexinoutset
returns-in-Mutexinoutset c =
    rw c.in-Mutexinoutset.is
    (awaited_mutex c.args.self c.max-in-Mutexinoutset.result c.max-in-Mutexinoutset-2.result
    c.max-in-Mutexinoutset.ensures c.max-in-Mutexinoutset-2.ensures)

pub returns-in-Inoutset : goal.returns-in-Inoutset
returns-in-Inoutset c =
    rw c.in-Inoutset.is
    (awaited_set c.args.self c.max-in-Inoutset.result c.max-in-Inoutset-2.result c.max-in-Inoutset.ensures
    c.max-in-Inoutset-2.ensures)
