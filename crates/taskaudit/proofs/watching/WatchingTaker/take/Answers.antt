use Rattle.std.proofs.Common.{rules, ◌≡◌, ◌∙◌, ◌+◌, ◌++◌, ◌∷◌, [], None, arith, ap, subst, sym}
use Rattle.std.proofs.lemmas.List.{length_push}
use Rattle.std.proofs.lemmas.Option.{none-some}
use Rattle.online.specs.declared.watch.Watch.{Watch}
use Rattle.online.specs.Watches.{HasWatched}
use Rattle.taskaudit.proofs.WatchingLemmas.{has_failed}
use Rattle.taskaudit.proofs.watching.WatchingTaker.take.Goals as goal

pub returns-then-is_some-clause-refused : goal.returns-then-is_some-clause-refused
returns-then-is_some-clause-refused c off version rs has m known =
    (rw known at c.in_ok-self-2.ensures) rs
    (has_failed c.in_ok-self.field-0 rs c.args.event.now c.take.new.self
    (λ failed. c.in_ok-self.ensures.refused failed rs has.watched)
    (λ failed. c.in_ok-self.ensures.early failed rs has.watched))

pub returns-clause-taken : goal.returns-clause-taken
returns-clause-taken c counted version rs has =
    let none : c.in_ok-self.field-0 ≡ None = search rules in
    let one = c.count_one.ensures.counted counted in
    let r = c.args.event.now in
    let P : Watch → Type 0 = λ w. HasWatched (rs ++ r ∷ []) w in
    record {
      watched = subst P (sym one.watch) (c.in_ok-self.ensures.passed none rs has.watched);
      count = one.count ∙ ap (λ n. n + 1) has.count ∙ sym (length_push rs r);
      few = omega (arith, one.count, one.few);
      counts = one.counts rs has.counts;
      none = c.count_one.ensures.missed ∙ has.none;
    }

pub returns-clause-refused : goal.returns-clause-refused
returns-clause-refused c off version rs has m known =
    absurd (none-some m (sym (c.count_one.ensures.missed ∙ has.none) ∙ known))
