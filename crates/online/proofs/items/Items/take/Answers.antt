use Rattle.std.specs.Prelude.{IsTrue, IfOk}
use Rattle.std.proofs.lemmas.Result.{IfOk-weaker}
use Rattle.online.specs.Items.{Reads}
use Rattle.online.proofs.ItemStepLemmas.{list_read}
use Rattle.online.proofs.items.Items.take.Goals as goal

list_reads : (c : goal.After-take_list) → IfOk c.take_list.result (λ taken. IsTrue taken
    → Reads c.args.self.now c.take_list.new.self c.args.record.now c.args.parent)
list_reads c =
    IfOk-weaker c.take_list.result _
    (λ taken. IsTrue taken → Reads c.args.self.now c.take_list.new.self c.args.record.now c.args.parent)
    (λ taken takes yes.
    list_read c.args.self.now c.take_list.new.self c.args.record.now c.args.parent c.in-Dependences.task
    c.as_slice.result.now c.in-Dependences.list c.in-Dependences.is c.as_slice.ensures (takes yes))
    c.take_list.ensures

pub returns-in-Dependences-clause-kept : goal.returns-in-Dependences-clause-kept
returns-in-Dependences-clause-kept c =
    IfOk-weaker c.take_list.result _ _ (λ taken reads yes rs may is. (reads yes rs may is).kept)
    (list_reads c)

pub returns-in-Dependences-clause-listed : goal.returns-in-Dependences-clause-listed
returns-in-Dependences-clause-listed c =
    IfOk-weaker c.take_list.result _ _ (λ taken reads yes rs may is. (reads yes rs may is).listed)
    (list_reads c)

pub returns-in-Dependences-clause-complete : goal.returns-in-Dependences-clause-complete
returns-in-Dependences-clause-complete c =
    IfOk-weaker c.take_list.result _ _ (λ taken reads yes rs may is. (reads yes rs may is).complete)
    (list_reads c)

pub returns-in_default : goal.returns-in_default
returns-in_default c = record {
  kept = IfOk-weaker c.take_other.result _ _ (λ taken reads yes rs may is. (reads yes rs may is).kept)
      c.take_other.ensures.reads;
  listed = IfOk-weaker c.take_other.result _ _ (λ taken reads yes rs may is. (reads yes rs may is).listed)
      c.take_other.ensures.reads;
  complete = IfOk-weaker c.take_other.result _ _ (λ taken reads yes rs may is. (reads yes rs may is).complete)
      c.take_other.ensures.reads;
  let_go = c.take_other.ensures.let_go;
}
