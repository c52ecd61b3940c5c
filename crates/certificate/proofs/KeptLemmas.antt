-- One record more among those that are kept, and the first ones of a list of records.
use Rattle.std.proofs.Common.{◌≡◌, ℕ, ◌+◌, ◌<◌, ◌≤◌, [], ◌∷◌, ◌++◌, length, cond, arith, ap, sym, ◌∙◌}
use Rattle.std.proofs.Common.{Bool, true, false}
use Rattle.std.specs.Prelude.{is_some, OnOk, Result, Ok, Err}
use Rattle.std.specs.Result.{is_ok}
use Rattle.std.proofs.lemmas.List.{length_push}
use Rattle.std.proofs.lemmas.List.Elements.{All-push}
use Rattle.std.proofs.lemmas.List.Sums.{sum_by_push}
use Rattle.ompt_events.specs.declared.records.Record.{Record}
use Rattle.ompt_events.specs.Records.{made}
use Rattle.ompt_events.specs.Limits.{max_records, max_tasks}
use Rattle.ompt_events.specs.Traces.{FitsIn, HasItsTurns, NestsIn, IsInRange, IsSound, TraceView, tasks_in}
use Rattle.certificate.specs.Keeping.{IsTraceKept, and_record}

pub IsTraceKept-more : (trace : TraceView) (r : Record) (count tasks more : ℕ)
    → IsTraceKept trace count tasks
    → FitsIn trace.version r → IsInRange r → count < max_records
    → more ≡ tasks + cond (is_some (made r.body)) 1 0 → more ≤ max_tasks
    → IsTraceKept (and_record trace r) (count + 1) more
IsTraceKept-more trace r count tasks more kept fits in_range room counted few =
    let rs = trace.records in
    let same : tasks_in (rs ++ r ∷ []) ≡ tasks_in rs + cond (is_some (made r.body)) 1 0 =
    sum_by_push (λ (x : Record). cond (is_some (made x.body)) 1 0) rs r in
    let longer : length (rs ++ r ∷ []) ≡ length rs + 1 = length_push rs r in
    let old = kept.is_trace in
    record {
      is_trace = record {
        known = old.known;
        is_trace = record {
          few_records = omega (arith, longer, room, kept.all);
          few_tasks = omega (arith, same, counted, few, kept.counted);
          sound = All-push (λ (x : Record). IsSound x.body) rs r old.is_trace.sound fits.0.0;
          in_range = All-push IsInRange rs r old.is_trace.in_range in_range;
        };
        turns = All-push (λ (x : Record). HasItsTurns trace.version x.body) rs r old.turns fits.0.1;
        nesting = All-push (NestsIn trace.version) rs r old.nesting fits.1;
      };
      all = omega (arith, longer, kept.all);
      counted = counted ∙ ap (λ n. n + cond (is_some (made r.body)) 1 0) kept.counted ∙ sym same;
    }

-- the same, where it was asked whether the record makes a task
pub kept_next : (trace : TraceView) (r : Record) (count tasks : ℕ) (makes : Bool)
    → IsTraceKept trace count tasks → FitsIn trace.version r → IsInRange r → count < max_records
    → makes ≡ is_some (made r.body) → tasks + cond makes 1 0 ≤ max_tasks
    → IsTraceKept (and_record trace r) (count + 1) (tasks + cond makes 1 0)
kept_next trace r count tasks makes kept fits in_range room asked few =
    IsTraceKept-more trace r count tasks (tasks + cond makes 1 0) kept fits in_range room
    (ap (λ b. tasks + cond b 1 0) asked) few

-- there is room for a task more, if one is made
pub room_asked : (tasks : ℕ) (makes : Bool) → tasks < max_tasks → tasks + cond makes 1 0 ≤ max_tasks
room_asked tasks true few = omega arith
room_asked tasks false few = omega arith

-- what holds where a call ends well
pub pushed : {E : Type 0} (result : Result (Unit {0}) E) (x y : TraceView) → is_ok result ≡ true
    → OnOk result (x ≡ y) → x ≡ y
pushed (Ok done) x y ok holds = holds
pushed (Err fault) x y ok holds = absurd (let no : false ≡ true = ok in cc)
