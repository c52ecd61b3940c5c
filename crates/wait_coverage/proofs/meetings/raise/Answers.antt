use Rattle.std.proofs.Common.{◌≡◌, ◌∙◌, ◌<◌, length, sym, ap, arith, inl, inr}
use Rattle.std.proofs.lemmas.Bool.{cases_eq}
use Rattle.std.proofs.lemmas.Option.{same_Some}
use Rattle.std.specs.Prelude.{slice_get}
use Rattle.ompt_events.proofs.ListLemmas.{get_pushed, pushed_cases}
use Rattle.task_tree.proofs.LinkLemmas.{get_set_same, get_set_other}
use Rattle.teams.proofs.CallLemmas.{read_at}
use Rattle.wait_coverage.proofs.meetings.raise.Goals as goal

pub room-preserved : goal.room-preserved
room-preserved c =
    let before = c.room.invariant in
    let items = c.in_ok-push.ensures.items in
    record {
      kept = λ k old is.
          rw items (get_pushed c.room.limits.items c.zero.result old k (before.kept k old is));
      least = λ k new m is low. elim (pushed_cases c.room.limits.items c.zero.result new k (rw items at is)) [
        | inl was ↦ before.least k new m was low
        | inr last ↦ let zero = c.zero.ensures in let same = last.1 in omega (arith, zero, same)
      ];
    }

pub returns : goal.returns
returns c =
    let limits = c.room.limits.items in
    let number = c.args.number in
    let before = c.room.invariant in
    let most = c.max.ensures in
    let count = c.len.ensures in
    let within : number < length limits = omega (arith, count, c.room-test.false) in
    let read = read_at limits number c.index.result.now within c.index.ensures in
    record {
      kept = λ k old is. elim (cases_eq k number) [
        | inl same ↦
            let is_read : old ≡ c.index.result.now =
            same_Some old c.index.result.now
            (sym (before.kept k old is) ∙ ap (slice_get limits) same ∙ read) in (
              c.max.result,
              ap (slice_get _) same ∙ get_set_same limits number c.max.result within,
              omega (arith, is_read, most),
            )
        | inr apart ↦
            (old, get_set_other limits number k c.max.result apart ∙ before.kept k old is, omega arith)
      ];
      raised =
          (c.max.result, get_set_same limits number c.max.result within, omega (arith, most));
      least = λ k new m is low high. elim (cases_eq k number) [
        | inl same ↦
            let is_new : c.max.result ≡ new =
            same_Some c.max.result new
            (sym (get_set_same limits number c.max.result within) ∙ ap (slice_get _) (sym same) ∙ is) in
            let limit_low = high same in
            let was_low = before.least k c.index.result.now m (ap (slice_get limits) same ∙ read) low in
            omega (arith, is_new, limit_low, was_low, most)
        | inr apart ↦
            before.least k new m (sym (get_set_other limits number k c.max.result apart) ∙ is) low
      ];
    }
