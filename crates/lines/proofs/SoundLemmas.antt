-- What a line stands for can stand in a trace.
use Rattle.std.proofs.Common.{◌≡◌, ℕ, ◌≤◌, List, [], ◌∷◌, length, Option, Some, None, Ok, Bool, true, false}
use Rattle.std.proofs.Common.{cond, arith, refl, sym, ap, ◌∙◌, subst, min, ◌==◌, ◌&&◌}
use Rattle.std.specs.Prelude.{option_map, is_some, IfSome, ltb, nat_eq}
use Rattle.std.specs.Int.{bit_at}
use Rattle.std.specs.Int.RustNames.{bit_or}
use Rattle.std.specs.List.{AllByRecursion}
use Rattle.std.specs.Cmp.Lexicographic.{pointwise}
use Rattle.std.proofs.lemmas.Nat.Bits.{bit_at_and, bit_at_or, same_from_bits}
use Rattle.std.proofs.lemmas.Bool.{leb-true}
use Rattle.std.proofs.lemmas.Option.{option_and_then_some}
use Rattle.bitflags.specs.Sets.{Row, known_from, known_bits, find_row, find_name}
use Rattle.serde_json.specs.Data.{Data, Items, no_items, item}
use Rattle.serde_json.specs.Find.{as_str}
use Rattle.ompt_events.specs.Flags as table
use Rattle.ompt_events.specs.Flags.{has_flag}
use Rattle.ompt_events.specs.Names.{status_part, demands_next}
use Rattle.ompt_events.specs.Limits.{max_depth, max_dependences}
use Rattle.ompt_events.specs.Traces.{AreNamed, BeginsOrEnds, FitsIn, IsSound, IsSoundIn}
use Rattle.ompt_events.specs.declared.records.Record.{Record}
use Rattle.ompt_events.specs.declared.records.Claim.{Claim}
use Rattle.ompt_events.specs.declared.records.Turns.{Turns}
use Rattle.ompt_events.specs.declared.records.Part.{Part}
use Rattle.ompt_events.specs.declared.records.Part.TheVariants.{Whole}
use Rattle.ompt_events.specs.declared.records.Body.{Body}
use Rattle.ompt_events.specs.declared.records.Body.TheVariants.{ThreadBegin, ThreadEnd, ParallelBegin}
use Rattle.ompt_events.specs.declared.records.Body.TheVariants.{ParallelEnd, ImplicitTask, TaskCreate}
use Rattle.ompt_events.specs.declared.records.Body.TheVariants.{Dependences, TaskSchedule, SyncRegion, Cancel}
use Rattle.ompt_events.specs.declared.names.Status.{Status}
use Rattle.ompt_events.specs.declared.names.Endpoint.{Endpoint}
use Rattle.ompt_events.specs.declared.names.Endpoint.TheVariants.{Begin, End, BeginEnd}
use Rattle.std.specs.Str.{bytes_eq}
use Rattle.lines.specs.declared.cause.ReadCause.TheVariants.{NotJson}
use Rattle.lines.proofs.RecordLemmas.{bounded-ok, ok_not_err, both-first}
use Rattle.lines.specs.Members.{whole, text, whole_or_null, list, truth, status, endpoint, not_both}
use Rattle.lines.specs.Members.{begin_or_end, sync_kind, thread_kind, flag_of, flags_from}
use Rattle.lines.specs.Members.{task_flags_in}
use Rattle.lines.specs.Members.{cancel_flags_in, no_id, next, deps}
use Rattle.lines.specs.RecordLines.{thread_begin, thread_end, parallel_begin, parallel_end}
use Rattle.lines.specs.RecordLines.{implicit_task, task_create, dependences, sync_region, turns_if}
use Rattle.lines.specs.RecordLines.{turns_said, tells_turns, task_schedule, cancel, claim_if, claim_said}
use Rattle.lines.specs.RecordLines.{body_named, body, unbounded, value_of, said_of, line_says}
use Rattle.lines.specs.RecordLines.{claim_if_fits, body_fits, record_fits}
use Rattle.lines.specs.MemberNames as member
use Rattle.lines.specs.CallbackNames as callback

-- ---- flags

AreNamed-or : (flags : List Row) (a b : ℕ) → AreNamed flags a → AreNamed flags b → AreNamed flags (bit_or a b)
AreNamed-or flags a b named-a named-b = same_from_bits _ _ (λ i.
    let k = known_bits flags in
    let bit-a : min (bit_at a i) (bit_at k i) ≡ bit_at a i =
    sym (bit_at_and a k i) ∙ ap (λ n. bit_at n i) named-a in
    let bit-b : min (bit_at b i) (bit_at k i) ≡ bit_at b i =
    sym (bit_at_and b k i) ∙ ap (λ n. bit_at n i) named-b in
    bit_at_and (bit_or a b) k i ∙ rw (bit_at_or a b i) (omega arith))

-- each row of a table has a bit that the table names
RowsNamed : List Row → Type 0
RowsNamed flags = AllByRecursion (λ (row : Row). AreNamed flags row.1) flags

find_row-named : (flags rows : List Row) (name : List ℕ) (bit : ℕ)
    → AllByRecursion (λ (row : Row). AreNamed flags row.1) rows → find_row rows name ≡ Some bit
    → AreNamed flags bit
unfolding find_row
find_row-named flags [] name bit all e = absurd (let h : None ≡ Some bit = e in cc)
find_row-named flags (row ∷ rest) name bit all e =
    elim (pointwise nat_eq row.0 name) as
    (λ b. cond b (Some row.1) (find_row rest name) ≡ Some bit → AreNamed flags bit) [
      | true ↦ λ same. let is : row.1 ≡ bit = cc in subst (λ (n : ℕ). AreNamed flags n) is all.0
      | false ↦ λ later. find_row-named flags rest name bit all.1 later
    ] e

find_name-named : (flags : List Row) (name : List ℕ) (bit : ℕ) → RowsNamed flags
    → find_name flags name ≡ Some bit → AreNamed flags bit
unfolding RowsNamed
find_name-named flags name bit rows e =
    elim (length name == 0) as (λ b. cond b None (find_row flags name) ≡ Some bit → AreNamed flags bit) [
      | true ↦ λ none. absurd (let h : None ≡ Some bit = none in cc)
      | false ↦ λ found. find_row-named flags flags name bit rows found
    ] e

flag_of-named : (flags : List Row) (d : Data) (bit : ℕ) → RowsNamed flags → flag_of flags d ≡ Some bit
    → AreNamed flags bit
flag_of-named flags d bit rows e =
    option_and_then_some (find_name flags) (as_str d) bit e
    (λ name _ found. find_name-named flags name bit rows found)

flags_from-named : (flags : List Row) (found : ℕ) (items : Items) (bits : ℕ) → RowsNamed flags
    → AreNamed flags found → flags_from flags found items ≡ Some bits → AreNamed flags bits
flags_from-named flags found no_items bits rows named e =
    let is : found ≡ bits = cc in subst (λ (n : ℕ). AreNamed flags n) is named
flags_from-named flags found (item d items) bits rows named e =
    option_and_then_some (λ (bit : ℕ). flags_from flags (bit_or found bit) items) (flag_of flags d) bits e (
    λ bit is later.
    flags_from-named flags (bit_or found bit) items bits rows
    (AreNamed-or flags found bit named (flag_of-named flags d bit rows is)) later)

task_rows : RowsNamed table.task_flags
unfolding known_from RowsNamed
task_rows = (refl, (refl, (refl, (refl, (refl, (refl, (refl, (refl, (refl, (refl, tt))))))))))

task_flags-named : (name : List ℕ) (d : Data) (bits : ℕ) → task_flags_in name d ≡ Some bits
    → AreNamed table.task_flags bits
unfolding known_from
task_flags-named name d bits e =
    option_and_then_some (flags_from table.task_flags 0) (list name d) bits e
    (λ items _ found. flags_from-named table.task_flags 0 items bits task_rows refl found)

cancel_rows : RowsNamed table.cancel_flags
unfolding known_from RowsNamed
cancel_rows = (refl, (refl, (refl, (refl, (refl, (refl, (refl, tt)))))))

cancel_flags-named : (name : List ℕ) (d : Data) (bits : ℕ) → cancel_flags_in name d ≡ Some bits
    → AreNamed table.cancel_flags bits
unfolding known_from
cancel_flags-named name d bits e =
    option_and_then_some (flags_from table.cancel_flags 0) (list name d) bits e
    (λ items _ found. flags_from-named table.cancel_flags 0 items bits cancel_rows refl found)

-- ---- parts of records

-- a task begins or ends
begin_or_end-sound : (name : List ℕ) (d : Data) (at : Endpoint) (actual index bits parallel task : ℕ)
    → begin_or_end name d ≡ Some at
    → BeginsOrEnds (ImplicitTask at actual index (record { 0 = bits }) parallel task)
begin_or_end-sound name d at actual index bits parallel task e =
    option_and_then_some _ (endpoint name d) at e (λ named _ one. by_endpoint named one)
  where
    by_endpoint : (named : Endpoint) → not_both named ≡ Some at
        → BeginsOrEnds (ImplicitTask at actual index (record { 0 = bits }) parallel task)
    by_endpoint Begin one =
        let is : Begin ≡ at = cc in
        subst
        (λ (x : Endpoint). BeginsOrEnds (ImplicitTask x actual index (record { 0 = bits }) parallel task))
        is tt
    by_endpoint End one =
        let is : End ≡ at = cc in
        subst
        (λ (x : Endpoint). BeginsOrEnds (ImplicitTask x actual index (record { 0 = bits }) parallel task))
        is tt
    by_endpoint BeginEnd one = absurd (let h : None ≡ Some at = one in cc)

-- there is a next task exactly where the status demands one
next-sound : (st : Status) (name : List ℕ) (d : Data) (nx : Option ℕ) → next st name d ≡ Some nx
    → is_some nx ≡ demands_next st
next-sound st name d nx e =
    option_and_then_some _ (whole_or_null name d) nx e (λ o _ found. by_demand (demands_next st) o found)
  where
    by_demand : (demanded : Bool) (o : Option ℕ) → cond demanded (option_map Some o) (no_id o) ≡ Some nx
        → is_some nx ≡ demanded
    by_demand true None h = absurd (let f : None ≡ Some nx = h in cc)
    by_demand true (Some n) h = let is : Some n ≡ nx = cc in ap is_some (sym is)
    by_demand false None h = let is : None ≡ nx = cc in ap is_some (sym is)
    by_demand false (Some n) h = absurd (let f : None ≡ Some nx = h in cc)

-- there is a claim exactly where a task is finished
claim_if-sound : (finishes : Bool) (d : Data) (sh : Option Claim) → claim_if finishes d ≡ Some sh
    → is_some sh ≡ finishes
unfolding claim_if
claim_if-sound true d sh e = by_claim (claim_said d) e
  where
    by_claim : (o : Option Claim) → option_map Some o ≡ Some sh → is_some sh ≡ true
    by_claim None h = absurd (let f : None ≡ Some sh = h in cc)
    by_claim (Some c) h = let is : Some c ≡ sh = cc in ap is_some (sym is)
claim_if-sound false d sh e = let is : None ≡ sh = cc in ap is_some (sym is)

claim_if-short : (sh : Option Claim) → claim_if_fits sh ≡ true
    → IfSome sh (λ (c : Claim). length c.path ≤ max_depth)
claim_if-short None fits = tt
claim_if-short (Some c) fits = leb-true _ _ (both-first _ _ (both-first _ _ fits))

pub is_some-map : {A B : Type 0} (f : A → B) (o : Option A) → is_some (option_map f o) ≡ is_some o
is_some-map f None = refl
is_some-map f (Some a) = refl

pub is_some-cond : {A : Type 0} (b : Bool) (a : A) → is_some (cond b (Some a) None) ≡ b
is_some-cond true a = refl
is_some-cond false a = refl

-- a task is discarded, or the cancellation says nothing of it
discard-sound : (bits task : ℕ) (sh : Option Claim) → is_some sh ≡ has_flag bits table.discarded_task
    → AreNamed table.cancel_flags bits → claim_if_fits sh ≡ true
    → IsSound (Cancel (record { 0 = bits }) task sh)
discard-sound bits task sh claimed named fits = record {
  named_flags = tt;
  named_cancellation = named;
  begins_or_ends = tt;
  claimed = claimed ∙ sym (is_some-cond (has_flag bits table.discarded_task) (task, Whole));
  short_path = claim_if-short sh fits;
  few_dependences = tt;
  next = tt;
}

-- turns are told exactly where they are read
turns_if-sound : (tells : Bool) (d : Data) (told : Option Turns) → turns_if tells d ≡ Some told
    → is_some told ≡ tells
unfolding turns_if
turns_if-sound true d told e = by_turns (turns_said d) e
  where
    by_turns : (o : Option Turns) → option_map Some o ≡ Some told → is_some told ≡ true
    by_turns None h = absurd (let f : None ≡ Some told = h in cc)
    by_turns (Some t) h = let is : Some t ≡ told = cc in ap is_some (sym is)
turns_if-sound false d told e = let is : None ≡ told = cc in ap is_some (sym is)

-- a record tells turns exactly where they are read
pub tells-turns : (version : ℕ) (st : Status) (told : Option Turns) (nx : Option ℕ)
    → is_some nx ≡ demands_next st → is_some told ≡ (ltb 1 version && is_some nx)
    → tells_turns version st ≡ is_some told
tells-turns version st told nx follows tells = ap (λ b. ltb 1 version && b) (sym follows) ∙ sym tells

-- where no task runs next, no turns are told in any version
none_told : (version : ℕ) → false ≡ (ltb 1 version && false)
none_told version = elim (ltb 1 version) as (λ b. false ≡ (b && false)) [
  | true ↦ refl
  | false ↦ refl
]

-- ---- callbacks

thread_begin-sound : (version : ℕ) (d : Data) (b : Body) → thread_begin d ≡ Some b → IsSoundIn version b
unfolding thread_begin
thread_begin-sound version d b e =
    option_and_then_some _ (thread_kind member.kind d) b e (λ kind _ same.
    let is : ThreadBegin kind ≡ b = cc in
    subst (λ (x : Body). IsSoundIn version x) is (
      record {
        named_flags = tt;
        named_cancellation = tt;
        begins_or_ends = tt;
        claimed = refl;
        short_path = tt;
        few_dependences = tt;
        next = tt;
      },
      none_told version,
    ))

thread_end-sound : (version : ℕ) (d : Data) (b : Body) → thread_end d ≡ Some b → IsSoundIn version b
unfolding thread_end
thread_end-sound version d b same =
    let is : ThreadEnd ≡ b = cc in
    subst (λ (x : Body). IsSoundIn version x) is (
      record {
        named_flags = tt;
        named_cancellation = tt;
        begins_or_ends = tt;
        claimed = refl;
        short_path = tt;
        few_dependences = tt;
        next = tt;
      },
      none_told version,
    )

parallel_begin-sound : (version : ℕ) (d : Data) (b : Body) → parallel_begin d ≡ Some b → IsSoundIn version b
unfolding parallel_begin
parallel_begin-sound version d b e =
    option_and_then_some _ (whole member.requested d) b e (
    λ requested _ e1.
    option_and_then_some _ (whole member.task d) b e1 (
    λ task _ e2. option_and_then_some _ (whole member.parallel d) b e2 (λ parallel _ same.
    let is : ParallelBegin requested task parallel ≡ b = cc in
    subst (λ (x : Body). IsSoundIn version x) is (
      record {
        named_flags = tt;
        named_cancellation = tt;
        begins_or_ends = tt;
        claimed = refl;
        short_path = tt;
        few_dependences = tt;
        next = tt;
      },
      none_told version,
    ))))

parallel_end-sound : (version : ℕ) (d : Data) (b : Body) → parallel_end d ≡ Some b → IsSoundIn version b
unfolding parallel_end
parallel_end-sound version d b e =
    option_and_then_some _ (whole member.task d) b e (
    λ task _ e1. option_and_then_some _ (whole member.parallel d) b e1 (λ parallel _ same.
    let is : ParallelEnd task parallel ≡ b = cc in
    subst (λ (x : Body). IsSoundIn version x) is (
      record {
        named_flags = tt;
        named_cancellation = tt;
        begins_or_ends = tt;
        claimed = refl;
        short_path = tt;
        few_dependences = tt;
        next = tt;
      },
      none_told version,
    )))

implicit_task-sound : (version : ℕ) (d : Data) (b : Body) → implicit_task d ≡ Some b → IsSoundIn version b
unfolding implicit_task
implicit_task-sound version d b e =
    option_and_then_some _ (begin_or_end member.endpoint d) b e (
    λ at one e1.
    option_and_then_some _ (whole member.actual d) b e1 (
    λ actual _ e2. option_and_then_some _ (whole member.index d) b e2 (λ index _ e3.
    option_and_then_some _ (task_flags_in member.flags d) b e3 (
    λ bits named e4.
    option_and_then_some _ (whole member.parallel d) b e4 (
    λ parallel _ e5. option_and_then_some _ (whole member.task d) b e5 (λ task _ same.
    let is : ImplicitTask at actual index (record { 0 = bits }) parallel task ≡ b = cc in
    subst (λ (x : Body). IsSoundIn version x) is (
      by_endpoint at actual index bits parallel task
          (begin_or_end-sound member.endpoint d at actual index bits parallel task one)
          (task_flags-named member.flags d bits named),
      none_told version,
    )))))))
  where
    by_endpoint : (at : Endpoint) (actual index bits parallel task : ℕ)
        → BeginsOrEnds (ImplicitTask at actual index (record { 0 = bits }) parallel task)
        → AreNamed table.task_flags bits
        → IsSound (ImplicitTask at actual index (record { 0 = bits }) parallel task)
    by_endpoint at actual index bits parallel task one named = record {
      named_flags = named;
      named_cancellation = tt;
      begins_or_ends = one;
      claimed = refl;
      short_path = tt;
      few_dependences = tt;
      next = tt;
    }

task_create-sound : (version : ℕ) (d : Data) (b : Body) → task_create d ≡ Some b → IsSoundIn version b
unfolding task_create
task_create-sound version d b e =
    option_and_then_some _ (truth member.deps d) b e (
    λ deps _ e1. option_and_then_some _ (task_flags_in member.flags d) b e1 (λ bits named e2.
    option_and_then_some _ (whole member.task d) b e2 (
    λ task _ e3. option_and_then_some _ (whole member.child d) b e3 (λ child _ same.
    let is : TaskCreate deps (record { 0 = bits }) task child ≡ b = cc in
    subst (λ (x : Body). IsSoundIn version x) is (
      record {
        named_flags = task_flags-named member.flags d bits named;
        named_cancellation = tt;
        begins_or_ends = tt;
        claimed = refl;
        short_path = tt;
        few_dependences = tt;
        next = tt;
      },
      none_told version,
    )))))

dependences-sound : (version : ℕ) (d : Data) (b : Body) → dependences d ≡ Some b → body_fits b ≡ true
    → IsSoundIn version b
unfolding dependences
dependences-sound version d b e fits =
    option_and_then_some _ (whole member.task d) b e (
    λ task _ e1. option_and_then_some _ (deps member.list d) b e1 (λ list _ same.
    let is : Dependences task list ≡ b = cc in
    let few : length list ≤ max_dependences = leb-true _ _ (ap body_fits is ∙ fits) in
    subst (λ (x : Body). IsSoundIn version x) is (
      record {
        named_flags = tt;
        named_cancellation = tt;
        begins_or_ends = tt;
        claimed = refl;
        short_path = tt;
        few_dependences = few;
        next = tt;
      },
      none_told version,
    )))

task_schedule-sound : (version : ℕ) (d : Data) (b : Body) → task_schedule version d ≡ Some b
    → body_fits b ≡ true → IsSoundIn version b
unfolding task_schedule
task_schedule-sound version d b e fits =
    option_and_then_some _ (status member.status d) b e (
    λ st _ e1. option_and_then_some _ (whole member.prior d) b e1 (λ prior _ e2.
    option_and_then_some _ (next st member.next d) b e2 (
    λ nx follows e3. option_and_then_some _ (turns_if (tells_turns version st) d) b e3 (λ told tells e4.
    option_and_then_some _ (claim_if (is_some (status_part st)) d) b e4 (λ sh shared same.
    let is : TaskSchedule st told prior nx sh ≡ b = cc in
    let claimed =
    claim_if-sound (is_some (status_part st)) d sh shared
    ∙ sym (is_some-map (λ (part : Part). (prior, part)) (status_part st)) in
    let demanded = next-sound st member.next d nx follows in
    let bounds : claim_if_fits sh ≡ true = both-first _ _ (ap body_fits is ∙ fits) in
    subst (λ (x : Body). IsSoundIn version x) is (
      record {
        named_flags = tt;
        named_cancellation = tt;
        begins_or_ends = tt;
        claimed = claimed;
        short_path = claim_if-short sh bounds;
        few_dependences = tt;
        next = demanded;
      },
      turns_if-sound (tells_turns version st) d told tells ∙ ap (λ b. ltb 1 version && b) (sym demanded),
    ))))))

sync_region-sound : (version : ℕ) (d : Data) (b : Body) → sync_region d ≡ Some b → IsSoundIn version b
unfolding sync_region
sync_region-sound version d b e =
    option_and_then_some _ (sync_kind member.kind d) b e (
    λ kind _ e1. option_and_then_some _ (endpoint member.endpoint d) b e1 (λ at _ e2.
    option_and_then_some _ (whole_or_null member.parallel d) b e2 (
    λ parallel _ e3. option_and_then_some _ (whole member.task d) b e3 (λ task _ same.
    let is : SyncRegion kind at parallel task ≡ b = cc in
    subst (λ (x : Body). IsSoundIn version x) is (
      record {
        named_flags = tt;
        named_cancellation = tt;
        begins_or_ends = tt;
        claimed = refl;
        short_path = tt;
        few_dependences = tt;
        next = tt;
      },
      none_told version,
    )))))

cancel-sound : (version : ℕ) (d : Data) (b : Body) → cancel d ≡ Some b → body_fits b ≡ true
    → IsSoundIn version b
unfolding cancel
cancel-sound version d b e fits =
    option_and_then_some _ (cancel_flags_in member.flags d) b e (
    λ bits named e1.
    option_and_then_some _ (whole member.task d) b e1 (
    λ task _ e2.
    option_and_then_some _ (claim_if (has_flag bits table.discarded_task) d) b e2 (
    λ sh shared same.
    let is : Cancel (record { 0 = bits }) task sh ≡ b = cc in
    subst (λ (x : Body). IsSoundIn version x) is (
      discard-sound bits task sh (claim_if-sound (has_flag bits table.discarded_task) d sh shared)
          (cancel_flags-named member.flags d bits named) (ap body_fits is ∙ fits),
      none_told version,
    ))))

chosen : {X P : Type 0} (test : Bool) (x y : Option X) (z : X) → cond test x y ≡ Some z → (x ≡ Some z → P)
    → (y ≡ Some z → P) → P
chosen true x y z e first second = first e
chosen false x y z e first second = second e

body_named-sound : (version : ℕ) (name : List ℕ) (d : Data) (b : Body) → body_named version name d ≡ Some b
    → body_fits b ≡ true → IsSoundIn version b
unfolding body_named
body_named-sound version name d b e fits =
    chosen (bytes_eq name callback.thread_begin) (thread_begin d) _ b e (thread_begin-sound version d b) (
    λ e1.
    chosen (bytes_eq name callback.thread_end) (thread_end d) _ b e1 (thread_end-sound version d b) (λ e2.
    chosen (bytes_eq name callback.parallel_begin) (parallel_begin d) _ b e2
    (parallel_begin-sound version d b) (λ e3.
    chosen (bytes_eq name callback.parallel_end) (parallel_end d) _ b e3 (parallel_end-sound version d b) (
    λ e4.
    chosen (bytes_eq name callback.implicit_task) (implicit_task d) _ b e4 (implicit_task-sound version d b) (
    λ e5.
    chosen (bytes_eq name callback.task_create) (task_create d) _ b e5 (task_create-sound version d b) (λ e6.
    chosen (bytes_eq name callback.dependences) (dependences d) _ b e6
    (λ is. dependences-sound version d b is fits) (λ e7.
    chosen (bytes_eq name callback.task_schedule) (task_schedule version d) _ b e7
    (λ is. task_schedule-sound version d b is fits) (λ e8.
    chosen (bytes_eq name callback.sync_region) (sync_region d) _ b e8 (sync_region-sound version d b) (λ e9.
    chosen (bytes_eq name callback.cancel) (cancel d) None b e9 (λ is. cancel-sound version d b is fits)
    (λ none. absurd (let h : None ≡ Some b = none in cc)))))))))))

unbounded-sound : (version : ℕ) (d : Data) (r : Record) → unbounded version d ≡ Some r → record_fits r ≡ true
    → FitsIn version r
unfolding unbounded
unbounded-sound version d r e fits =
    option_and_then_some _ (whole member.thread d) r e (
    λ thread _ e1. option_and_then_some _ (whole member.seq d) r e1 (λ seq _ e2.
    option_and_then_some _ (whole member.seen d) r e2 (
    λ seen _ e3. option_and_then_some _ (body version d) r e3 (λ b is same.
    let whole : record { thread = thread; nests = version == 3; seq = seq; seen = seen; body = b } ≡ r = cc in
    let bounds : body_fits b ≡ true =
    ap (λ (x : Record). body_fits x.body) whole ∙ both-first _ _ (both-first _ _ (both-first _ _ fits)) in
    subst (FitsIn version) whole (
      option_and_then_some (λ (name : List ℕ). body_named version name d) (text member.cb d) b is
          (λ name _ named. body_named-sound version name d b named bounds),
      refl,
    )))))

pub line_says-sound : (version : ℕ) (line : List ℕ) (r : Record) → Ok r ≡ line_says version line
    → FitsIn version r
line_says-sound version line r e = by_value (value_of line) e
  where
    by_value : (o : Option Data) → Ok r ≡ said_of version o → FitsIn version r
    by_value None h = absurd (ok_not_err r NotJson h)
    by_value (Some d) h =
        let found = bounded-ok record_fits (unbounded version d) r h in
        unbounded-sound version d r found.0 found.1
