use Rattle.std.proofs.Common.{rules, ◌+◌, ℕ, List, OnOk, IfErr, ap, inl, refl, subst, take}
use Rattle.std.specs.Prelude.{string_bytes}
use Rattle.std.specs.Io.KnownBytes.{Appends, Keeps}
use Rattle.taskaudit.specs.declared.work.Outcome.TheVariants.{Yes}
use Rattle.taskaudit.specs.Audits.{IsWriteFault}
use Rattle.taskaudit.specs.Watchings.{at_the_end}
use Rattle.taskaudit.proofs.WatchingLemmas.{yes_of, told, unless, broken}
use Rattle.taskaudit.proofs.watching.Watching.conclude.Goals as goal

pub returns-then-not-may_end-clause-leaves : goal.returns-then-not-may_end-clause-leaves
returns-then-not-may_end-clause-leaves g c bytes all =
    let before = g.O.Sink.contents c.args.sink.now in
    let kept : Keeps before before = search rules in
    (at_the_end all.trace all.file (ap (λ n. n + 2) all.taken.count) refl, kept)

pub returns-clause-reports : goal.returns-clause-reports
returns-clause-reports g c =
    let old = g.O.Sink.contents c.args.sink.now in
    let new = g.O.Sink.contents c.tell.new.sink in
    let P : List ℕ → Type 0 = λ text. OnOk c.tell.result (Appends old new text) in
    told _ Yes c.tell.result c.tell.ensures.kind (subst P c.as_bytes.ensures.value c.tell.ensures.written)
    (λ written bytes all. (
      string_bytes c.in-Ok.text,
      yes_of bytes c.args.self.now
          (record {
            clear = c.may_end.ensures.clear c.if-not-may_end.false;
            complete = c.may_end.ensures.complete c.if-not-may_end.false;
            order = c.may_end.ensures.order c.if-not-may_end.false;
          })
          all (string_bytes c.in-Ok.text) c.in-Ok.ensures,
      written,
    ))

pub returns-clause-leaves : goal.returns-clause-leaves
returns-clause-leaves g c =
    let old = g.O.Sink.contents c.args.sink.now in
    let new = g.O.Sink.contents c.tell.new.sink in
    let P : List ℕ → Type 0 =
    λ text. IfErr c.tell.result (IsWriteFault (λ n. Appends old new (take n text))) in
    unless _ _ c.tell.result (subst P c.as_bytes.ensures.value c.tell.ensures.part)
    (λ f part bytes all.
    broken bytes old new (string_bytes c.in-Ok.text)
    (λ count written. (
      string_bytes c.in-Ok.text,
      inl
          (yes_of bytes c.args.self.now
          (record {
            clear = c.may_end.ensures.clear c.if-not-may_end.false;
            complete = c.may_end.ensures.complete c.if-not-may_end.false;
            order = c.may_end.ensures.order c.if-not-may_end.false;
          })
          all (string_bytes c.in-Ok.text) c.in-Ok.ensures),
      count,
      written,
    ))
    f part)
