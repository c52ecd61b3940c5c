-- The same lines as those of a trace and of a file of any length.
use Rattle.std.proofs.Common.{◌≡◌, ◌≢◌, ℕ, ◌+◌, ◌<◌, ◌≤◌, List, [], ◌∷◌, ◌++◌, length, Bool, true, false}
use Rattle.std.proofs.Common.{Result, Ok, Err, cond, arith, refl, sym, ap, ◌∙◌, subst, append_assoc}
use Rattle.std.proofs.Common.{append-nil, length-append}
use Rattle.std.specs.Prelude.{is_some, nat_lt, not, ◌==◌, ◌||◌}
use Rattle.std.proofs.lemmas.Bool.{lt-ltb, ltb-true}
use Rattle.std.proofs.lemmas.List.{length_push}
use Rattle.std.proofs.lemmas.List.Sums.{sum_by-append, sum_by-cons, sum_by_push}
use Rattle.ompt_events.specs.declared.records.Record.{Record}
use Rattle.ompt_events.specs.Records.{made}
use Rattle.ompt_events.specs.Limits.{max_records, max_tasks}
use Rattle.ompt_events.specs.Traces.{TraceView, tasks_in}
use Rattle.lines.specs.RecordLines.{header_says, line_says}
use Rattle.lines.specs.declared.cause.ReadCause.{ReadCause}
use Rattle.lines.specs.declared.cause.ReadCause.TheVariants.{LineTooLong, Limit}
use Rattle.lines.proofs.RecordLemmas.{both-first, both-second, ok_not_err}
use Rattle.certificate.specs.declared.faults.ReadFault.{ReadFault}
use Rattle.certificate.specs.Formats.{cut, end_adds, fault_in, from_line, go_on, is_long, line_adds}
use Rattle.certificate.specs.Files.{Room, file_says, file_says_to, has_line_number, has_room, long_file_says}
use Rattle.certificate.specs.Files.{no_trace, traces_in, with_header, with_record_in}
use Rattle.certificate.specs.Keeping.{and_record}
use Rattle.certificate.specs.Limits.{newest_version}
use Rattle.certificate.proofs.LawLemmas.{end_adds-ok}

-- an answer is no fault
not_fault : (f : ReadFault) (trace : TraceView) → ◌≡◌ {A = Result TraceView ReadFault} (Err f) (Ok trace) → ⊥
not_fault f trace same = cc

-- The trace of a file in room a, each record of which has room b too. P holds of no records, and stays with
-- each record that has room a.
module _ (a b : Room) (newest : ℕ) (rest : List ℕ) (trace : TraceView) (P : List Record → Type 0)
    (none : P []) (keeps : (rs : List Record) (r : Record) → P rs → a rs r ≡ true → P (rs ++ r ∷ []))
    (has : (rs : List Record) (r : Record) (more : List Record) → trace.records ≡ rs ++ r ∷ more
    → a rs r ≡ true → b rs r ≡ true) where
  -- the record that a line adds
  one_line : (n : ℕ) (before after : TraceView) (line : List ℕ) → n ≢ 1
      → line_adds (traces_in a newest) n before line ≡ Ok after
      → (r : Record) × (after ≡ and_record before r) × (a before.records r ≡ true)
      × (b before.records r ≡ true → line_adds (traces_in b newest) n before line ≡ Ok after)
  one_line n before after line later e = by (is_long line) (n == 1) is_later (line_says before.version line) e
    where
      header : Result TraceView ReadCause
      header = with_header (header_says newest line)

      is_later : (n == 1) ≡ false
      is_later = grind arith

      by_room : (room : Bool) (r : Record) → a before.records r ≡ room
          → cond room (Ok (and_record before r)) (Err Limit) ≡ Ok after
          → (a before.records r ≡ true) × (after ≡ and_record before r)
      by_room true r is e = (is, cc)
      by_room false r is e = absurd (ok_not_err after Limit (sym e))

      by : (long first : Bool) → first ≡ false → (o : Result Record ReadCause)
          → cond long (Err LineTooLong) (cond first header (with_record_in a before o)) ≡ Ok after
          → (r : Record) × (after ≡ and_record before r) × (a before.records r ≡ true)
          × (b before.records r ≡ true
          → cond long (Err LineTooLong) (cond first header (with_record_in b before o)) ≡ Ok after)
      by true first is o e = absurd (ok_not_err after LineTooLong (sym e))
      by false true is o e = absurd (let no : true ≡ false = is in cc)
      by false false is (Err cause) e = absurd (ok_not_err after cause (sym e))
      by false false is (Ok r) e =
          let kept = by_room (a before.records r) r refl e in (
            r,
            kept.1,
            kept.0,
            λ room. ap (λ c. cond c (Ok (and_record before r)) (Err Limit)) room ∙ ap Ok (sym kept.1),
          )

  -- the lines from number n on add the rest of the records, and do so in the second room
  abbrev Follows : ℕ → TraceView → List (List ℕ) → Type 0
  Follows n before lines =
      (more : List Record) × (trace.records ≡ before.records ++ more) × P trace.records
      × (from_line (traces_in b newest) n before lines rest ≡ Ok trace)

  follows : (lines : List (List ℕ)) (n : ℕ) (before : TraceView) → 2 ≤ n → P before.records
      → from_line (traces_in a newest) n before lines rest ≡ Ok trace → Follows n before lines
  unfolding from_line
  follows [] n before low now e = by (end_adds n before rest) refl e
    where
      by : (r : Result TraceView ReadCause) → end_adds n before rest ≡ r → go_on n r Ok ≡ Ok trace
          → Follows n before []
      by (Err cause) is e = absurd (not_fault (fault_in n cause) trace e)
      by (Ok last) is e =
          let same : last ≡ trace = cc in
          let end : before ≡ trace = sym (end_adds-ok n before last rest is) ∙ same in (
            [],
            ap (λ (t : TraceView). t.records) (sym end) ∙ sym (append-nil before.records),
            subst (λ (t : TraceView). P t.records) end now,
            ap (λ r. go_on n r Ok) is ∙ e,
          )
  follows (line ∷ lines) n before low now e =
      by (line_adds (traces_in a newest) n before line) refl e
      (λ after kept e. follows lines (n + 1) after (omega (arith, low)) kept e)
    where
      by : (r : Result TraceView ReadCause) → line_adds (traces_in a newest) n before line ≡ r
          → go_on n r (λ after. from_line (traces_in a newest) (n + 1) after lines rest) ≡ Ok trace
          → ((after : TraceView) → P after.records
          → from_line (traces_in a newest) (n + 1) after lines rest ≡ Ok trace → Follows (n + 1) after lines)
          → Follows n before (line ∷ lines)
      by (Err cause) is e later = absurd (not_fault (fault_in n cause) trace e)
      by (Ok after) is e later =
          let (r, grown, room, again) =
          one_line n before after line (λ first. absurd (omega (arith, first, low))) is in
          let records : after.records ≡ before.records ++ r ∷ [] = ap (λ (t : TraceView). t.records) grown in
          let (more, parts, kept, says) =
          later after (subst P (sym records) (keeps before.records r now room)) e in
          let all : trace.records ≡ before.records ++ r ∷ more =
          parts ∙ ap (λ (rs : List Record). rs ++ more) records ∙ append_assoc before.records (r ∷ []) more
          in (
            r ∷ more,
            all,
            kept,
            ap (λ o. go_on n o (λ after. from_line (traces_in b newest) (n + 1) after lines rest))
                (again (has before.records r more all room)) ∙ says,
          )

  -- the whole file
  pub in_both : (lines : List (List ℕ)) → from_line (traces_in a newest) 1 no_trace lines rest ≡ Ok trace
      → P trace.records × (from_line (traces_in b newest) 1 no_trace lines rest ≡ Ok trace)
  unfolding from_line
  in_both [] e = by (end_adds 1 no_trace rest) refl e
    where
      by : (r : Result TraceView ReadCause) → end_adds 1 no_trace rest ≡ r → go_on 1 r Ok ≡ Ok trace
          → P trace.records × (go_on 1 (end_adds 1 no_trace rest) Ok ≡ Ok trace)
      by (Err cause) is e = absurd (not_fault (fault_in 1 cause) trace e)
      by (Ok last) is e =
          let same : last ≡ trace = cc in
          let end : no_trace ≡ trace = sym (end_adds-ok 1 no_trace last rest is) ∙ same in
          (subst (λ (t : TraceView). P t.records) end none, ap (λ r. go_on 1 r Ok) is ∙ e)
  in_both (line ∷ lines) e = by (is_long line) (header_says newest line) e
    where
      by : (long : Bool) (o : Result ℕ ReadCause)
          → go_on 1 (cond long (Err LineTooLong) (with_header o))
          (λ after. from_line (traces_in a newest) 2 after lines rest)
          ≡ Ok trace
          → P trace.records
          × (go_on 1 (cond long (Err LineTooLong) (with_header o))
          (λ after. from_line (traces_in b newest) 2 after lines rest)
          ≡ Ok trace)
      by true o e = absurd (not_fault (fault_in 1 LineTooLong) trace e)
      by false (Err cause) e = absurd (not_fault (fault_in 1 cause) trace e)
      by false (Ok version) e =
          let first : TraceView = record { version = version; records = [] } in
          let all = follows lines 2 first (omega arith) none e in
          (all.2, all.3)

-- ---- a trace, and a file of any length

-- not too many for a trace
abbrev pub AreFew : List Record → Type 0
AreFew rs = (length rs ≤ max_records) × (tasks_in rs ≤ max_tasks)

abbrev makes : Record → ℕ
makes r = cond (is_some (made r.body)) 1 0

-- with a record that has room they are few
few_more : (rs : List Record) (r : Record) → AreFew rs → has_room rs r ≡ true → AreFew (rs ++ r ∷ [])
few_more rs r few room =
    let below : length rs < max_records = ltb-true _ _ (both-first _ _ room) in
    let longer : length (rs ++ r ∷ []) ≡ length rs + 1 = length_push rs r in
    let tasks : tasks_in (rs ++ r ∷ []) ≡ tasks_in rs + makes r = sum_by_push makes rs r in
    let asked : (not (is_some (made r.body)) || nat_lt (tasks_in rs) max_tasks) ≡ true =
    both-second (nat_lt (length rs) max_records) _ room in
    let left : tasks_in rs + makes r ≤ max_tasks = by (is_some (made r.body)) asked in
    (omega arith, omega arith)
  where
    by : (m : Bool) → (not m || nat_lt (tasks_in rs) max_tasks) ≡ true
        → tasks_in rs + cond m 1 0 ≤ max_tasks
    by true e = let less : tasks_in rs < max_tasks = ltb-true _ _ e in omega arith
    by false e = omega (arith, few.1)

-- a record of few ones had room
few_has : (all rs : List Record) (r : Record) (more : List Record) → AreFew all → all ≡ rs ++ r ∷ more
    → has_room rs r ≡ true
few_has all rs r more few parts =
    let count : length all ≡ length rs + length (r ∷ more) = ap length parts ∙ length-append rs (r ∷ more) in
    let tasks : tasks_in all ≡ tasks_in rs + (makes r + tasks_in more) =
    ap tasks_in parts ∙ sum_by-append makes rs (r ∷ more)
    ∙ ap (λ n. tasks_in rs + n) (sum_by-cons makes r more)
    in
    let below : nat_lt (length rs) max_records ≡ true = lt-ltb _ _ (omega (arith, count, few.0)) in
    let left = by (is_some (made r.body)) (omega (arith, tasks, few.1)) in
    rw (below, left) refl
  where
    by : (m : Bool) → tasks_in rs + cond m 1 0 ≤ max_tasks → (not m || nat_lt (tasks_in rs) max_tasks) ≡ true
    by true low = lt-ltb _ _ (omega (arith, low))
    by false low = refl

-- where there is room in a trace there is a number for the line
numbered : (rs : List Record) (r : Record) → has_room rs r ≡ true → has_line_number rs r ≡ true
numbered rs r room =
    let below : length rs < max_records = ltb-true _ _ (both-first _ _ room) in
    lt-ltb _ _ (omega arith)

pub file_is_long : (bytes : List ℕ) (trace : TraceView) → file_says bytes ≡ Ok trace
    → (long_file_says bytes ≡ Ok trace) × AreFew trace.records
unfolding file_says_to
file_is_long bytes trace says =
    let both =
    in_both has_room has_line_number newest_version (cut bytes).rest trace AreFew (omega arith, omega arith)
    few_more (λ rs r more parts room. numbered rs r room) (cut bytes).lines says in
    (both.1, both.0)

pub long_is_file : (bytes : List ℕ) (trace : TraceView) → long_file_says bytes ≡ Ok trace
    → AreFew trace.records → file_says bytes ≡ Ok trace
unfolding file_says_to
long_is_file bytes trace says few =
    (in_both has_line_number has_room newest_version (cut bytes).rest trace (λ rs. Unit {0}) tt
    (λ rs r so room. tt) (λ rs r more parts room. few_has trace.records rs r more few parts)
    (cut bytes).lines says).1
