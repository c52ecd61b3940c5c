-- How a list stays a trace while records are added.
use Rattle.std.proofs.Common.{◌≡◌, ℕ, ◌+◌, ◌<◌, ◌≤◌, List, length, take, get_or, arith, true, false, sym, ◌∙◌}
use Rattle.std.proofs.Common.{subst}
use Rattle.std.specs.Prelude.{is_some}
use Rattle.std.proofs.lemmas.List.{length-take, get_or-take}
use Rattle.std.proofs.lemmas.List.Sums.{count_by_more_yes, count_by_more_no}
use Rattle.std.proofs.lemmas.List.Elements.{All-more}
use Rattle.ompt_events.specs.declared.records.Record.{Record}
use Rattle.ompt_events.specs.Records.{made}
use Rattle.ompt_events.specs.Limits.{max_records, max_tasks}
use Rattle.ompt_events.specs.Traces.{IsSound, FitsIn, HasItsTurns, NestsIn, IsInRange, IsTrace, IsTraceOf}
use Rattle.ompt_events.specs.Traces.{tasks_in}

-- one more sound record, where there is room
pub IsTrace-more : (rs : List Record) (i : ℕ) (r : Record) → i < length rs → r ≡ get_or rs i r
    → IsTrace (take i rs) → i < max_records → IsSound r.body → IsInRange r
    → tasks_in (take (i + 1) rs) ≤ max_tasks → IsTrace (take (i + 1) rs)
IsTrace-more rs i r within read before room sound in_range few = record {
  few_records = omega (arith, length-take (i + 1) rs);
  few_tasks = few;
  sound =
      let P : Record → Type 0 = λ x. IsSound x.body in
      All-more P rs i r within before.sound (rw (← read) sound);
  in_range = All-more IsInRange rs i r within before.in_range (rw (← read) in_range);
}

-- a record that makes a task is one more of them
pub tasks_in-made : (rs : List Record) (i : ℕ) (r : Record) → i < length rs → r ≡ get_or rs i r
    → is_some (made r.body) ≡ true → tasks_in (take (i + 1) rs) ≡ tasks_in (take i rs) + 1
tasks_in-made rs i r within read makes =
    count_by_more_yes (λ x. is_some (made x.body)) rs i r within (rw (← read) makes)

-- and any other record is none
pub tasks_in-other : (rs : List Record) (i : ℕ) (r : Record) → i < length rs → r ≡ get_or rs i r
    → is_some (made r.body) ≡ false → tasks_in (take (i + 1) rs) ≡ tasks_in (take i rs)
tasks_in-other rs i r within read makes =
    count_by_more_no (λ x. is_some (made x.body)) rs i r within (rw (← read) makes)

-- the same of a trace of this version
pub IsTraceOf-more : (version : ℕ) (rs : List Record) (i : ℕ) (r : Record) → i < length rs → r ≡ get_or rs i r
    → IsTraceOf version (take i rs) → i < max_records → FitsIn version r → IsInRange r
    → tasks_in (take (i + 1) rs) ≤ max_tasks → IsTraceOf version (take (i + 1) rs)
IsTraceOf-more version rs i r within read before room fits in_range few = record {
  known = before.known;
  is_trace = IsTrace-more rs i r within read before.is_trace room fits.0.0 in_range few;
  turns =
      let P : Record → Type 0 = λ x. HasItsTurns version x.body in
      All-more P rs i r within before.turns (rw (← read) fits.0.1);
  nesting = All-more (NestsIn version) rs i r within before.nesting (rw (← read) fits.1);
}

-- with a record that cannot be in one they are no trace
pub IsTraceOf-unfit : (version : ℕ) (rs : List Record) (i : ℕ) (r : Record) → i < length rs
    → r ≡ get_or rs i r → (FitsIn version r → ⊥) → IsTraceOf version (take (i + 1) rs) → ⊥
IsTraceOf-unfit version rs i r within read unfit trace =
    let last : FitsIn version (get_or (take (i + 1) rs) i r) = (
      (
        trace.is_trace.sound i r (omega (arith, length-take (i + 1) rs)),
        trace.turns i r (omega (arith, length-take (i + 1) rs)),
      ),
      trace.nesting i r (omega (arith, length-take (i + 1) rs)),
    ) in
    unfit (subst (FitsIn version) (get_or-take (i + 1) rs i r (omega arith) ∙ sym read) last)
