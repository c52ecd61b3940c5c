use Rattle.std.proofs.lemmas.Result.{err_from_is_err_and}
use Rattle.certificate.proofs.CountLemmas.{count_more-zero, TakesStalls-ok}
use Rattle.certificate.proofs.writing.write_bytes.Goals as goal

pub returns-in_err-send-clause-turns : goal.returns-in_err-send-clause-turns
returns-in_err-send-clause-turns g c =
    let p = err_from_is_err_and c.from_residual.result c.from_residual.ensures.1 in
    rw (p.1, p.2) (c.in_err-send.ensures.ended _ (count_more-zero _))

pub returns-clause-turns : goal.returns-clause-turns
returns-clause-turns g c = (
  c.in_ok-send.field-0,
  TakesStalls-ok _ _ _ c.in_ok-send.ensures.few (c.in_ok-send.ensures.counted _ (count_more-zero _)),
)
