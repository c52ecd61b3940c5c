use Rattle.std.proofs.Common.{◌∙◌, sym}
use Rattle.certificate.specs.TraceTexts.{trace_text}
use Rattle.certificate.proofs.LawLemmas.{said_stands}
use Rattle.certificate.proofs.TraceTextLemmas.{trace_said-text}
use Rattle.certificate.proofs.laws.text_stands_for_its_trace.Goals as goal

pub returns : goal.returns
returns c = λ newest trace known is_trace.
    let stands = said_stands newest (trace_text trace) trace (trace_said-text newest trace known is_trace) in
    (stands, λ other same. same.each ∙ sym stands.each)
