use Rattle.std.proofs.Common.{rules, ◌≡◌, ◌-◌, ℕ, List, length, take, arith, length-take, refl, sym, subst}
use Rattle.std.specs.Io.KnownBytes.{Keeps, prepend_known}
use Rattle.taskaudit.proofs.LookLemmas.{keeps_behind_none, length_more, more_given, six_looked_at, take_more}
use Rattle.taskaudit.proofs.looking.look.Goals as goal

pub loop-end-init : goal.loop-end-init
loop-end-init g c = record { within = omega arith; size = refl; kept = keeps_behind_none _ }

pub loop-end-preserved : goal.loop-end-preserved
loop-end-preserved g c =
    let now = c.loop-end.invariant in
    let read = c.in_ok-count.ensures.bytes in
    let bound = c.in_ok-count.ensures.bound in
    let more = take_more c.loop-end.first c.read_some.new.buffer c.loop-end.end (6 - c.loop-end.end)
    c.in_ok-count.count (omega (arith, now.within, now.size)) bound.0 in
    let P : List ℕ → Type 0 = λ t. Keeps (g.I.Source.remaining c.args.source)
    (prepend_known t (g.I.Source.remaining c.read_some.new.source)) in
    record {
      within = omega (arith, now.within, bound.0, c.read_some.auto.buffer);
      size = length_more c.loop-end.first c.read_some.new.buffer c.loop-end.end now.within now.size
          (search rules);
      kept = subst P (sym more) (more_given _ _ _ _ _ now.kept read.0);
    }

pub returns-clause-looked : goal.returns-clause-looked
returns-clause-looked g c =
    let now = c.loop-end.invariant in
    let full : length (take c.loop-end.end c.loop-end.first) ≡ 6 =
    omega (arith, now.within, now.size, length-take c.loop-end.end c.loop-end.first, c.loop-end-test.false) in
    record { first_six = six_looked_at _ _ _ full now.kept; kept = now.kept }
