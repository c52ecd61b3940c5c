use Rattle.std.proofs.Common.{◌≡◌, true, Err, ap, sym}
use Rattle.std.specs.Prelude.{is_some}
use Rattle.serde_json.specs.Read.{read}
use Rattle.lines.specs.declared.cause.ReadCause.TheVariants.{Memory}
use Rattle.lines.proofs.MemberLemmas.{value_or_cause-none}
use Rattle.lines.proofs.MeaningLemmas.{value_or_cause-tape, value_or_cause-not_read}
use Rattle.lines.proofs.RecordLemmas.{ok_not_err}
use Rattle.lines.proofs.values.tape_of.Goals as goal

pub returns-in_default-clause-says : goal.returns-in_default-clause-says
returns-in_default-clause-says c =
    λ _. sym (value_or_cause-none c.args.line.now (λ utf8. absurd (c.in_default.ensures.cases.0 utf8)))

pub returns-then-branch-clause-says : goal.returns-then-branch-clause-says
returns-then-branch-clause-says c =
    let text = c.in-Ok.text.now in
    let told = c.in_ok-is_value-in-Ok-parse.ensures (ok_not_err _ Memory) in
    let readable : is_some (read text) ≡ true = (let yes = c.if-branch.true in cc) in
    λ _.
    value_or_cause-tape c.args.line.now text c.in-Ok-parse.tape c.in-Ok.ensures.cases.0
    c.in-Ok.ensures.cases.1 c.in-Ok-parse.ensures.ok.1 c.in-Ok-parse.ensures.value readable

pub returns-clause-says : goal.returns-clause-says
returns-clause-says c =
    λ other.
    let told = c.cause_of.ensures (λ is. other (ap Err is)) in
    rw told.1
    (value_or_cause-not_read c.args.line.now c.in-Ok.text.now c.in-Ok.ensures.cases.0
    (c.in-Err.ensures.invalid (ap Err told.0)))
