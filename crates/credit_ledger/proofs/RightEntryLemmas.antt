-- Records without the causes 1 to 13 have right entries, in file order and in the tasks' own order.
use Rattle.std.proofs.Common.{◌≡◌, ◌∙◌, ℕ, ◌<◌, true, List, length, Option, Some, None, refl, sym, ap, subst}
use Rattle.std.proofs.Common.{arith, inl, inr}
use Rattle.std.specs.Prelude.{is_some, slice_get}
use Rattle.std.specs.Option.{option_map_or}
use Rattle.std.proofs.lemmas.Bool.{cases_lt, false≢true}
use Rattle.std.proofs.lemmas.Option.{slice_get_within}
use Rattle.ompt_events.specs.declared.records.Record.{Record}
use Rattle.ompt_events.specs.declared.records.Part.{Part}
use Rattle.ompt_events.specs.declared.cause.Cause.TheVariants.{CreatedTwice, TurnGap, StatusOrder, ShareWrong}
use Rattle.ompt_events.specs.declared.cause.Cause.TheVariants.{EntryTwice, LengthAhead}
use Rattle.ompt_events.specs.Records.{finish}
use Rattle.ompt_events.specs.Places.{at, seen_at}
use Rattle.ompt_events.specs.Turns.{in_own_order, own_places, own_place}
use Rattle.ompt_events.specs.HappensBefore.{IsFinishing}
use Rattle.ompt_events.specs.Causes.{HasCause, IsFreeOf, ShowsNowhere, share_wrong, entry_twice, entries_in}
use Rattle.ompt_events.specs.Causes.{entry, ledger_length, length_ahead}
use Rattle.ompt_events.proofs.PlaceLemmas.{at_within}
use Rattle.task_tree.specs.Own.{OwnView}
use Rattle.task_tree.specs.Families.{IsOwnOf, own_in_file, own_by_turn}
use Rattle.task_tree.proofs.SayingLemmas.{shows_has}
use Rattle.task_tree.proofs.OwnOrderLemmas.{own_place_of, arranged_at, arranged_length}
use Rattle.task_tree.proofs.ArrangedLemmas.{placed, said_here, apart_places, arranged_once, counted_arranged}
use Rattle.credit_ledger.specs.TraceEntries.{IsFinishedInParts, HasRightEntries, IsFreeUpTo, ShowsNoneUpTo}
use Rattle.credit_ledger.proofs.MoveLemmas.{finished_in_parts}

-- ---- records as they are listed

pub right_entries : (rs : List Record) → IsFreeUpTo rs 13 → HasRightEntries rs
right_entries rs free = record {
  once = free CreatedTwice (omega arith);
  right = free ShareWrong (omega arith);
  parts = finished_in_parts rs (free TurnGap (omega arith)) (free StatusOrder (omega arith));
  apart = free EntryTwice (omega arith);
  within = free LengthAhead (omega arith);
}

-- ---- the same records in the tasks' own order

arranged_parts : (rs : List Record) → IsFinishedInParts rs → IsFinishedInParts (in_own_order rs)
arranged_parts rs parts i j task part other apart one another =
    let p = said_here finish rs i (task, part) one in
    let q = said_here finish rs j (task, other) another in
    parts p.0 q.0 task part other
    (λ same. apart (sym (own_place_of rs i p.0 p.1) ∙ ap (own_place rs) same ∙ own_place_of rs j q.0 q.1))
    p.2 q.2

-- the record with the number has seen as much as that at its place
seen_here : (rs : List Record) (n i : ℕ) → slice_get (own_places rs) n ≡ Some i
    → seen_at (in_own_order rs) n ≡ seen_at rs i
seen_here rs n i stands =
    ap (λ (o : Option Record). option_map_or (λ (r : Record). r.seen) o 0) (arranged_at rs n i stands)

-- a finishing record stands at a place of the file, with what it has seen there
record IsHere (rs : List Record) (n : ℕ) : Type 0 where
  place : ℕ
  stands : slice_get (own_places rs) n ≡ Some place
  finishes : IsFinishing rs place
  seen : seen_at (in_own_order rs) n ≡ seen_at rs place

here : (rs : List Record) (n : ℕ) → IsFinishing (in_own_order rs) n → IsHere rs n
here rs n finishes = of (at finish (in_own_order rs) n) refl finishes
  where
    of : (o : Option (ℕ × Part)) → at finish (in_own_order rs) n ≡ o → is_some o ≡ true → IsHere rs n
    of None is some = absurd (false≢true some)
    of (Some what) is some =
        let p = said_here finish rs n what is in
        record { place = p.0; stands = p.1; finishes = ap is_some p.2; seen = seen_here rs n p.0 p.1 }

arranged_apart : (rs : List Record) → IsFreeOf rs EntryTwice → IsFreeOf (in_own_order rs) EntryTwice
arranged_apart rs free n (entry_twice (k, less, first, second, same)) =
    let p = here rs k first in
    let q = here rs n second in
    let differ = apart_places rs k n p.place q.place less p.stands q.stands in
    let seen = sym p.seen ∙ same ∙ q.seen in
    elim (cases_lt p.place q.place) [
      | inl below ↦ free q.place (entry_twice (p.place, below, p.finishes, q.finishes, seen))
      | inr most ↦
          free p.place (entry_twice (q.place, omega (arith, most, differ), q.finishes, p.finishes, sym seen))
    ]

entries_arranged : (rs : List Record) → entries_in (in_own_order rs) ≡ entries_in rs
entries_arranged rs = counted_arranged (λ r. is_some (finish r.body)) rs

-- a record that has seen something is there
seen_within : (rs : List Record) (n : ℕ) → 0 < seen_at rs n → n < length rs
seen_within rs n more = of (slice_get rs n) refl more
  where
    of : (o : Option Record) → slice_get rs n ≡ o → 0 < option_map_or (λ (r : Record). r.seen) o 0
        → n < length rs
    of None is more = absurd (omega (arith, more))
    of (Some r) is more = slice_get_within rs n r is

arranged_within : (rs : List Record) → IsFreeOf rs LengthAhead → IsFreeOf (in_own_order rs) LengthAhead
arranged_within rs free n (length_ahead (entry finishes most)) =
    let p = here rs n finishes in
    free p.place
    (length_ahead
    (entry p.finishes
    (let all = entries_arranged rs in let seen = p.seen in omega (arith, most, all, seen))))
arranged_within rs free n (length_ahead (ledger_length more)) =
    let p =
    placed rs n (rw (arranged_length rs) at (seen_within (in_own_order rs) n (omega (arith, more)))) in
    free p.0
    (length_ahead
    (ledger_length
    (let all = entries_arranged rs in
    let seen = seen_here rs n p.0 p.1 in omega (arith, more, all, seen))))

-- whoever finds no wrong share at any place of the file, finds none in the tasks' own order
arranged_right : (rs : List Record) → ShowsNowhere rs ShareWrong → IsFreeOf (in_own_order rs) ShareWrong
arranged_right rs none n (share_wrong wrong) =
    let within = at_within finish (in_own_order rs) n (wrong.0, wrong.1) wrong.3 in
    let p = placed rs n (rw (arranged_length rs) at within) in
    let P : ℕ → Type 0 = λ m. HasCause (in_own_order rs) m ShareWrong in
    none p.0 (subst P (sym (own_place_of rs n p.0 p.1)) (share_wrong wrong))

pub arranged_entries : (rs : List Record) → IsFreeOf rs CreatedTwice → IsFreeOf rs TurnGap
    → IsFreeOf rs StatusOrder → IsFreeOf rs EntryTwice → IsFreeOf rs LengthAhead
    → IsFreeOf (in_own_order rs) ShareWrong → HasRightEntries (in_own_order rs)
arranged_entries rs once gapless orderly apart within right = record {
  once = arranged_once rs once;
  right = right;
  parts = arranged_parts rs (finished_in_parts rs gapless orderly);
  apart = arranged_apart rs apart;
  within = arranged_within rs within;
}

pub shown_entries : (rs : List Record) → ShowsNoneUpTo rs 13 → HasRightEntries (in_own_order rs)
shown_entries rs none =
    arranged_entries rs (none CreatedTwice (omega arith)) (none TurnGap (omega arith))
    (none StatusOrder (omega arith))
    (none EntryTwice (omega arith)) (none LengthAhead (omega arith))
    (arranged_right rs (none ShareWrong (omega arith)))

-- ---- the run of a trace in the tasks' own order

-- of the causes that are read in file order the file has none of these, and no claim of the run is wrong
pub own_entries : (rs : List Record) (own : OwnView) → IsOwnOf rs own → IsFreeOf rs CreatedTwice
    → IsFreeOf rs TurnGap → IsFreeOf rs StatusOrder → IsFreeOf rs EntryTwice → IsFreeOf rs LengthAhead
    → IsFreeOf own.run.records ShareWrong → HasRightEntries own.run.records
own_entries rs own (own_in_file records order rise) once gapless orderly apart within right =
    let P : List Record → Type 0 = HasRightEntries in
    let Q : List Record → Type 0 = λ l. IsFreeOf l ShareWrong in
    subst P (sym records) (record {
      once = once;
      right = subst Q records right;
      parts = finished_in_parts rs gapless orderly;
      apart = apart;
      within = within;
    })
own_entries rs own (own_by_turn records order) once gapless orderly apart within right =
    let P : List Record → Type 0 = HasRightEntries in
    let Q : List Record → Type 0 = λ l. IsFreeOf l ShareWrong in
    subst P (sym records) (arranged_entries rs once gapless orderly apart within (subst Q records right))

-- and where the trace shows none of the causes, the run has right entries
pub own_shown_entries : (rs : List Record) (own : OwnView) → IsOwnOf rs own → ShowsNoneUpTo rs 13
    → HasRightEntries own.run.records
own_shown_entries rs own (own_in_file records order rise) none =
    let P : List Record → Type 0 = HasRightEntries in
    subst P (sym records) (record {
      once = none CreatedTwice (omega arith);
      right = λ i has. none ShareWrong (omega arith) i ((shows_has rs rise i ShareWrong).1 has);
      parts = finished_in_parts rs (none TurnGap (omega arith)) (none StatusOrder (omega arith));
      apart = none EntryTwice (omega arith);
      within = none LengthAhead (omega arith);
    })
own_shown_entries rs own (own_by_turn records order) none =
    let P : List Record → Type 0 = HasRightEntries in
    subst P (sym records) (shown_entries rs none)
