use Rattle.std.proofs.Common.{rules, ◌≡◌, ◌∙◌, ℕ, List, Some, OnOk, IfErr, inr, subst, take}
use Rattle.std.specs.Prelude.{string_bytes}
use Rattle.std.specs.Io.KnownBytes.{Appends}
use Rattle.taskaudit.specs.declared.work.Outcome.TheVariants.{No}
use Rattle.taskaudit.specs.Audits.{IsWriteFault}
use Rattle.taskaudit.proofs.WatchingLemmas.{no_of, told, unless, broken}
use Rattle.taskaudit.proofs.watching.Watching.refuse.Goals as goal

pub returns-clause-reports : goal.returns-clause-reports
returns-clause-reports g c =
    let old = g.O.Sink.contents c.args.sink.now in
    let new = g.O.Sink.contents c.tell.new.sink in
    let known : c.args.self.now.missed ≡ Some c.in-Some.missed = search rules in
    let P : List ℕ → Type 0 = λ text. OnOk c.tell.result (Appends old new text) in
    told _ No c.tell.result c.tell.ensures.kind (subst P c.as_bytes.ensures.value c.tell.ensures.written)
    (λ written bytes refused. (
      string_bytes c.in-Ok.text,
      no_of bytes c.args.line c.args.self.now c.in-Some.missed refused known (string_bytes c.in-Ok.text)
          (λ rs i at. c.in-Ok.ensures rs i (c.on-place.ensures ∙ at)),
      written,
    ))

pub returns-clause-leaves : goal.returns-clause-leaves
returns-clause-leaves g c =
    let old = g.O.Sink.contents c.args.sink.now in
    let new = g.O.Sink.contents c.tell.new.sink in
    let known : c.args.self.now.missed ≡ Some c.in-Some.missed = search rules in
    let P : List ℕ → Type 0 =
    λ text. IfErr c.tell.result (IsWriteFault (λ n. Appends old new (take n text))) in
    unless _ _ c.tell.result (subst P c.as_bytes.ensures.value c.tell.ensures.part)
    (λ f part bytes refused.
    broken bytes old new (string_bytes c.in-Ok.text)
    (λ count written. (
      string_bytes c.in-Ok.text,
      inr
          (no_of bytes c.args.line c.args.self.now c.in-Some.missed refused known (string_bytes c.in-Ok.text)
          (λ rs i at. c.in-Ok.ensures rs i (c.on-place.ensures ∙ at))),
      count,
      written,
    ))
    f part)
