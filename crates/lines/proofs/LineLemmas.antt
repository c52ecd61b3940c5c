-- The line of each record is plain and short, within the reader's bounds, and says the record.
use Rattle.std.proofs.Common.{◌≡◌, ℕ, get_or, Ok, Err, ◌+◌, ◌≤◌, length, ◌<◌, ◌^◌, Bool, cond, map, arith}
use Rattle.std.proofs.Common.{Option, Some, None, List, [], ◌∷◌, ◌++◌, true, false, refl, ap}
use Rattle.std.proofs.Common.{◌∙◌}
use Rattle.std.specs.Prelude.{IfSome, All, ok_or, option_and_then}
use Rattle.std.specs.List.{AllByRecursion, list_all}
use Rattle.std.specs.Option.{option_map_or}
use Rattle.std.proofs.lemmas.Bool.{lt-ltb, le-leb}
use Rattle.bitflags.specs.Sets.{Row}
use Rattle.serde_json.specs.Data.{Data, string}
use Rattle.serde_json.specs.View.{items_of}
use Rattle.ompt_events.specs.declared.deps.Dep.{Dep}
use Rattle.ompt_events.specs.declared.records.Record.{Record}
use Rattle.ompt_events.specs.declared.records.Claim.{Claim}
use Rattle.ompt_events.specs.declared.records.Turns.{Turns}
use Rattle.ompt_events.specs.declared.records.Body.{Body}
use Rattle.ompt_events.specs.declared.records.Body.TheVariants.{ThreadBegin, ThreadEnd, ParallelBegin}
use Rattle.ompt_events.specs.declared.records.Body.TheVariants.{ParallelEnd, ImplicitTask, TaskCreate}
use Rattle.ompt_events.specs.declared.records.Body.TheVariants.{Dependences, TaskSchedule, SyncRegion}
use Rattle.ompt_events.specs.declared.records.Body.TheVariants as body
use Rattle.ompt_events.specs.declared.names.Status.{Status}
use Rattle.ompt_events.specs.declared.names.Status.TheVariants.{Complete, Yield, Cancel, Detach, EarlyFulfill}
use Rattle.ompt_events.specs.declared.names.Status.TheVariants.{LateFulfill, Switch, TaskwaitComplete}
use Rattle.ompt_events.specs.declared.names.Endpoint.{Endpoint}
use Rattle.ompt_events.specs.declared.names.Endpoint.TheVariants.{Begin, End, BeginEnd}
use Rattle.ompt_events.specs.declared.names.SyncKind.{SyncKind}
use Rattle.ompt_events.specs.declared.names.SyncKind.TheVariants.{Barrier, BarrierImplicit, BarrierExplicit}
use Rattle.ompt_events.specs.declared.names.SyncKind.TheVariants.{BarrierImplementation, Taskwait, Taskgroup}
use Rattle.ompt_events.specs.declared.names.SyncKind.TheVariants.{Reduction, BarrierImplicitWorkshare}
use Rattle.ompt_events.specs.declared.names.SyncKind.TheVariants.{BarrierImplicitParallel, BarrierTeams}
use Rattle.ompt_events.specs.declared.names.DepKind.{DepKind}
use Rattle.ompt_events.specs.declared.names.DepKind.TheVariants.{In, Out, Inout, Mutexinoutset, Inoutset}
use Rattle.ompt_events.specs.declared.names.ThreadKind.{ThreadKind}
use Rattle.ompt_events.specs.declared.names.ThreadKind.TheVariants.{Initial, Worker, Other, Unknown}
use Rattle.ompt_events.specs.Names.{status_name, endpoint_name, sync_kind_name, dep_kind_name}
use Rattle.ompt_events.specs.Names.{thread_kind_name}
use Rattle.ompt_events.specs.Flags.{task_flags, cancel_flags, has_flag}
use Rattle.ompt_events.specs.Limits.{max_threads, max_depth, max_dependences}
use Rattle.ompt_events.specs.Traces.{FitsIn, IsSound, ClaimInRange, TurnsInRange}
use Rattle.ompt_events.specs.Traces.{BodyInRange, IsInRange}
use Rattle.lines.specs.declared.cause.ReadCause.TheVariants.{Header, Limit}
use Rattle.lines.specs.Limits.{max_line}
use Rattle.lines.specs.RecordLines.{bounded, is_short, claim_fits, turns_if_fit, body_fits, record_fits}
use Rattle.lines.specs.RecordLines.{header_says, version_in, said_of}
use Rattle.lines.specs.RecordLines.{format_name}
use Rattle.lines.specs.Texts.{with_member, whole_number, data_of, number_or_null, flag_names, dep_data}
use Rattle.lines.specs.Texts.{claim_members, turn_members, body_members, record_members}
use Rattle.lines.specs.Texts.{header_members, header_data, header_line}
use Rattle.lines.proofs.JsonLemmas.{is_plain_text, IsPlain, ArePlain, size, items_size}
use Rattle.lines.proofs.JsonLemmas.{value_of-compact_text, length-compact_text}
use Rattle.lines.proofs.ObjectLemmas.{IsPlainMember, IsPlain-object_of, added_size, size-object_of}
use Rattle.lines.proofs.TextLemmas.{AllByRecursion-from}
use Rattle.lines.proofs.TextLemmas.{items_size-items_of, items_size-wholes, ArePlain-items_of}
use Rattle.lines.proofs.TextLemmas.{ArePlain-wholes}
use Rattle.lines.proofs.SaysLemmas.{Says-sound}
use Rattle.lines.specs.MemberNames as member

-- ---- its text is plain and short

plain-flag_names : (rows : List Row) (bits : ℕ) → AllByRecursion (λ row. is_plain_text row.0 ≡ true) rows
    → AllByRecursion (λ name. is_plain_text name ≡ true) (flag_names rows bits)
unfolding flag_names
plain-flag_names [] bits each = tt
plain-flag_names (row ∷ rows) bits each =
    by_flag (has_flag bits row.1) each.0 (plain-flag_names rows bits each.1)
  where
    by_flag : (b : Bool) → is_plain_text row.0 ≡ true
        → AllByRecursion (λ name. is_plain_text name ≡ true) (flag_names rows bits)
        → AllByRecursion (λ name. is_plain_text name ≡ true)
        (cond b (row.0 ∷ flag_names rows bits) (flag_names rows bits))
    by_flag true first rest = (first, rest)
    by_flag false first rest = rest

pub plain-task_flags : (bits n : ℕ) → ArePlain (items_of (map string (flag_names task_flags bits))) n
plain-task_flags bits n =
    ArePlain-items_of string (flag_names task_flags bits) n
    (plain-flag_names task_flags bits
    (refl, (refl, (refl, (refl, (refl, (refl, (refl, (refl, (refl, (refl, tt)))))))))))

plain-cancel_flags : (bits n : ℕ) → ArePlain (items_of (map string (flag_names cancel_flags bits))) n
plain-cancel_flags bits n =
    ArePlain-items_of string (flag_names cancel_flags bits) n
    (plain-flag_names cancel_flags bits (refl, (refl, (refl, (refl, (refl, (refl, (refl, tt))))))))

pub plain-number_or_null : (o : Option ℕ) (n : ℕ) → IfSome o (λ m. m < 2 ^ 64) → IsPlain (number_or_null o) n
plain-number_or_null None n h = tt
plain-number_or_null (Some m) n h = h

pub plain-status : (x : Status) → is_plain_text (status_name x) ≡ true
plain-status Complete = refl
plain-status Yield = refl
plain-status Cancel = refl
plain-status Detach = refl
plain-status EarlyFulfill = refl
plain-status LateFulfill = refl
plain-status Switch = refl
plain-status TaskwaitComplete = refl

pub plain-endpoint : (x : Endpoint) → is_plain_text (endpoint_name x) ≡ true
plain-endpoint Begin = refl
plain-endpoint End = refl
plain-endpoint BeginEnd = refl

pub plain-sync_kind : (x : SyncKind) → is_plain_text (sync_kind_name x) ≡ true
plain-sync_kind Barrier = refl
plain-sync_kind BarrierImplicit = refl
plain-sync_kind BarrierExplicit = refl
plain-sync_kind BarrierImplementation = refl
plain-sync_kind Taskwait = refl
plain-sync_kind Taskgroup = refl
plain-sync_kind Reduction = refl
plain-sync_kind BarrierImplicitWorkshare = refl
plain-sync_kind BarrierImplicitParallel = refl
plain-sync_kind BarrierTeams = refl

plain-dep_kind : (x : DepKind) → is_plain_text (dep_kind_name x) ≡ true
plain-dep_kind In = refl
plain-dep_kind Out = refl
plain-dep_kind Inout = refl
plain-dep_kind Mutexinoutset = refl
plain-dep_kind Inoutset = refl

plain-thread_kind : (x : ThreadKind) → is_plain_text (thread_kind_name x) ≡ true
plain-thread_kind Initial = refl
plain-thread_kind Worker = refl
plain-thread_kind Other = refl
plain-thread_kind Unknown = refl

plain-claim : (claim : Option Claim) → IfSome claim ClaimInRange
    → AllByRecursion (IsPlainMember 2) (claim_members claim)
plain-claim None h = tt
plain-claim (Some c) h = (
  (refl, omega (arith, h.0)),
  (
    (refl, h.1),
    (
      (
        refl,
        ArePlain-wholes c.path 1 (AllByRecursion-from _ c.path (λ k d l. omega (arith, h.2 k d l))),
      ),
      tt,
    ),
  ),
)

plain-turns : (turns : Option Turns) (claim : Option Claim) → IfSome turns TurnsInRange
    → AllByRecursion (IsPlainMember 2) (claim_members claim)
    → AllByRecursion (IsPlainMember 2) (turn_members turns ++ claim_members claim)
plain-turns None claim h rest = rest
plain-turns (Some t) claim h rest = ((refl, omega (arith, h.0)), ((refl, omega (arith, h.1)), rest))

pub plain-dep : (d : Dep) → d.var < 2 ^ 64 → IsPlain (dep_data d) 1
plain-dep d h =
    IsPlain-object_of ((member.type, string (dep_kind_name d.kind)) ∷ (member.var, whole_number d.var) ∷ []) 0
    ((refl, plain-dep_kind d.kind), ((refl, h), tt))

pub plain-deps : (ds : List Dep) → All (λ d. d.var < 2 ^ 64) ds → ArePlain (items_of (map dep_data ds)) 1
plain-deps ds h =
    ArePlain-items_of dep_data ds 1
    (AllByRecursion-from (λ d. IsPlain (dep_data d) 1) ds (λ k d l. plain-dep (get_or ds k d) (h k d l)))

plain-body : (b : Body) → BodyInRange b → AllByRecursion (IsPlainMember 2) (body_members b)
plain-body (ThreadBegin kind) h = ((refl, refl), ((refl, plain-thread_kind kind), tt))
plain-body ThreadEnd h = ((refl, refl), tt)
plain-body (ParallelBegin requested task parallel) h =
    ((refl, refl), ((refl, omega (arith, h.0)), ((refl, h.1), ((refl, h.2), tt))))
plain-body (ParallelEnd task parallel) h = ((refl, refl), ((refl, h.0), ((refl, h.1), tt)))
plain-body (ImplicitTask endpoint actual index flags parallel task) h = (
  (refl, refl),
  (
    (refl, plain-endpoint endpoint),
    (
      (refl, omega (arith, h.0)),
      (
        (refl, omega (arith, h.1)),
        ((refl, plain-task_flags flags.0 1), ((refl, h.2), ((refl, h.3), tt))),
      ),
    ),
  ),
)
plain-body (TaskCreate deps flags task child) h =
    ((refl, refl), ((refl, tt), ((refl, plain-task_flags flags.0 1), ((refl, h.0), ((refl, h.1), tt)))))
plain-body (Dependences task list) h = ((refl, refl), ((refl, h.0), ((refl, plain-deps list h.1), tt)))
plain-body (TaskSchedule status turns prior next claim) h = (
  (refl, refl),
  (
    (refl, plain-status status),
    (
      (refl, h.1),
      (
        (refl, plain-number_or_null next 2 h.2),
        plain-turns turns claim h.0 (plain-claim claim h.3),
      ),
    ),
  ),
)
plain-body (SyncRegion kind endpoint parallel task) h = (
  (refl, refl),
  (
    (refl, plain-sync_kind kind),
    (
      (refl, plain-endpoint endpoint),
      ((refl, plain-number_or_null parallel 2 h.0), ((refl, h.1), tt)),
    ),
  ),
)
plain-body (body.Cancel flags task claim) h =
    ((refl, refl), ((refl, plain-cancel_flags flags.0 1), ((refl, h.0), plain-claim claim h.1)))

pub plain-data_of : (r : Record) → IsInRange r → IsPlain (data_of r) 3
plain-data_of r h =
    IsPlain-object_of (record_members r) 2 (
      (refl, omega (arith, h.thread)),
      ((refl, omega (arith, h.seq)), ((refl, omega (arith, h.seen)), plain-body r.body h.body)),
    )

rows_size : List Row → ℕ
rows_size [] = 0
rows_size (row ∷ rows) = length row.0 + 3 + rows_size rows

size-flag_names : (rows : List Row) (bits : ℕ)
    → items_size (items_of (map string (flag_names rows bits))) ≤ rows_size rows
unfolding flag_names rows_size
size-flag_names [] bits = omega arith
size-flag_names (row ∷ rows) bits = by_flag (has_flag bits row.1) (size-flag_names rows bits)
  where
    by_flag : (b : Bool) → items_size (items_of (map string (flag_names rows bits))) ≤ rows_size rows
        → items_size (items_of (map string (cond b (row.0 ∷ flag_names rows bits) (flag_names rows bits))))
        ≤ length row.0 + 3 + rows_size rows
    by_flag true rest = omega arith
    by_flag false rest = omega arith

size-task_flags : (bits : ℕ) → items_size (items_of (map string (flag_names task_flags bits))) ≤ 110
unfolding rows_size
size-task_flags bits = omega (arith, size-flag_names task_flags bits)

size-cancel_flags : (bits : ℕ) → items_size (items_of (map string (flag_names cancel_flags bits))) ≤ 110
unfolding rows_size
size-cancel_flags bits = omega (arith, size-flag_names cancel_flags bits)

size-status : (x : Status) → length (status_name x) ≤ 30
size-status Complete = omega arith
size-status Yield = omega arith
size-status Cancel = omega arith
size-status Detach = omega arith
size-status EarlyFulfill = omega arith
size-status LateFulfill = omega arith
size-status Switch = omega arith
size-status TaskwaitComplete = omega arith

size-endpoint : (x : Endpoint) → length (endpoint_name x) ≤ 30
size-endpoint Begin = omega arith
size-endpoint End = omega arith
size-endpoint BeginEnd = omega arith

size-sync_kind : (x : SyncKind) → length (sync_kind_name x) ≤ 30
size-sync_kind Barrier = omega arith
size-sync_kind BarrierImplicit = omega arith
size-sync_kind BarrierExplicit = omega arith
size-sync_kind BarrierImplementation = omega arith
size-sync_kind Taskwait = omega arith
size-sync_kind Taskgroup = omega arith
size-sync_kind Reduction = omega arith
size-sync_kind BarrierImplicitWorkshare = omega arith
size-sync_kind BarrierImplicitParallel = omega arith
size-sync_kind BarrierTeams = omega arith

size-dep_kind : (x : DepKind) → length (dep_kind_name x) ≤ 30
size-dep_kind In = omega arith
size-dep_kind Out = omega arith
size-dep_kind Inout = omega arith
size-dep_kind Mutexinoutset = omega arith
size-dep_kind Inoutset = omega arith

size-thread_kind : (x : ThreadKind) → length (thread_kind_name x) ≤ 30
size-thread_kind Initial = omega arith
size-thread_kind Worker = omega arith
size-thread_kind Other = omega arith
size-thread_kind Unknown = omega arith

size-number_or_null : (o : Option ℕ) → size (number_or_null o) ≤ 20
size-number_or_null None = omega arith
size-number_or_null (Some n) = omega arith

size-claim : (claim : Option Claim) → IfSome claim (λ c. length c.path ≤ max_depth)
    → added_size (claim_members claim) ≤ 22000
size-claim None h = omega arith
size-claim (Some c) h = omega (arith, items_size-wholes c.path)

size-turns : (turns : Option Turns) (claim : Option Claim) → added_size (claim_members claim) ≤ 22000
    → added_size (turn_members turns ++ claim_members claim) ≤ 22200
size-turns None claim h = omega arith
size-turns (Some t) claim h = omega arith

size-dep : (d : Dep) → size (dep_data d) ≤ 80
size-dep d =
    omega (
      arith,
      size-object_of
          ((member.type, string (dep_kind_name d.kind)) ∷ (member.var, whole_number d.var) ∷ []),
      size-dep_kind d.kind,
    )

size-deps : (ds : List Dep) → length ds ≤ max_dependences → items_size (items_of (map dep_data ds)) ≤ 6000
size-deps ds few =
    omega (
      arith,
      items_size-items_of dep_data ds 80
          (AllByRecursion-from (λ d. size (dep_data d) ≤ 80) ds (λ k d l. size-dep (get_or ds k d))),
    )

size-body : (b : Body) → IsSound b → added_size (body_members b) ≤ 60000
size-body (ThreadBegin kind) sound = omega (arith, size-thread_kind kind)
size-body ThreadEnd sound = omega arith
size-body (ParallelBegin requested task parallel) sound = omega arith
size-body (ParallelEnd task parallel) sound = omega arith
size-body (ImplicitTask endpoint actual index flags parallel task) sound =
    omega (arith, size-endpoint endpoint, size-task_flags flags.0)
size-body (TaskCreate deps flags task child) sound = omega (arith, size-task_flags flags.0)
size-body (Dependences task list) sound = omega (arith, size-deps list sound.few_dependences)
size-body (TaskSchedule status turns prior next claim) sound =
    omega (
      arith,
      size-status status,
      size-number_or_null next,
      size-turns turns claim (size-claim claim sound.short_path),
    )
size-body (SyncRegion kind endpoint parallel task) sound =
    omega (arith, size-sync_kind kind, size-endpoint endpoint, size-number_or_null parallel)
size-body (body.Cancel flags task claim) sound =
    omega (arith, size-cancel_flags flags.0, size-claim claim sound.short_path)

pub size-data_of : (r : Record) → IsSound r.body → size (data_of r) ≤ max_line
size-data_of r sound = omega (arith, size-object_of (record_members r), size-body r.body sound)

-- ---- the text of a trace

pub header_plain : (version : ℕ) → version ≤ 3 → IsPlain (header_data version) 1
header_plain version few =
    IsPlain-object_of (header_members version) 0 ((refl, refl), ((refl, omega (arith, few)), tt))

pub header_says-header_line : (newest version : ℕ) → 1 ≤ version → version ≤ 3 → version ≤ newest
    → header_says newest (header_line version) ≡ Ok version
unfolding with_member
header_says-header_line newest version low few known =
    ap (λ (o : Option Data). ok_or (option_and_then (version_in format_name newest) o) Header)
    (value_of-compact_text (header_data version) 1 (header_plain version few) (omega arith))
    ∙ rw (le-leb 1 version low, le-leb version newest known) refl

pub header_short : (version : ℕ) → version ≤ 3 → length (header_line version) ≤ max_line
header_short version few =
    omega (
      arith,
      length-compact_text (header_data version) 1 (header_plain version few),
      size-object_of (header_members version),
    )

-- the line of the record can be read, and says the record in a file of this version
pub record IsWritten (version : ℕ) (r : Record) : Type 0 where
  pub plain : IsPlain (data_of r) 3
  pub short : size (data_of r) ≤ max_line
  pub says : said_of version (Some (data_of r)) ≡ Ok r

-- ---- it is within the reader's bounds

short : (n : ℕ) → n < 2 ^ 32 → is_short n ≡ true
short n h = lt-ltb n (2 ^ 32) h

fits-path : (ns : List ℕ) → AllByRecursion (λ n. n < 2 ^ 32) ns → list_all is_short ns ≡ true
fits-path [] each = refl
fits-path (n ∷ ns) each = rw (short n each.0) (fits-path ns each.1)

fits-claim : (claim : Option Claim) → IfSome claim ClaimInRange
    → IfSome claim (λ c. length c.path ≤ max_depth) → option_map_or claim_fits claim true ≡ true
fits-claim None range few = refl
fits-claim (Some c) range few =
    rw (le-leb (length c.path) max_depth few, fits-path c.path (AllByRecursion-from _ c.path range.2))
    (short c.kept range.0)

fits-turns : (turns : Option Turns) → IfSome turns TurnsInRange → turns_if_fit turns ≡ true
fits-turns None range = refl
fits-turns (Some t) range = rw (short t.prior range.0) (short t.next range.1)

fits-body : (b : Body) → BodyInRange b → IsSound b → body_fits b ≡ true
fits-body (ThreadBegin kind) range sound = refl
fits-body ThreadEnd range sound = refl
fits-body (ParallelBegin requested task parallel) range sound = short requested range.0
fits-body (ParallelEnd task parallel) range sound = refl
fits-body (ImplicitTask endpoint actual index flags parallel task) range sound =
    rw (short actual range.0) (short index range.1)
fits-body (TaskCreate deps flags task child) range sound = refl
fits-body (Dependences task list) range sound = le-leb (length list) max_dependences sound.few_dependences
fits-body (TaskSchedule status turns prior next claim) range sound =
    rw (fits-claim claim range.3 sound.short_path) (fits-turns turns range.0)
fits-body (SyncRegion kind endpoint parallel task) range sound = refl
fits-body (body.Cancel flags task claim) range sound = fits-claim claim range.1 sound.short_path

pub fits : (r : Record) → IsInRange r → IsSound r.body → record_fits r ≡ true
fits r range sound =
    rw (fits-body r.body range.body sound, lt-ltb r.thread max_threads range.thread, short r.seq range.seq)
    (short r.seen range.seen)

-- a record of a trace
pub IsWritten-sound : (version : ℕ) (r : Record) → IsInRange r → FitsIn version r → IsWritten version r
IsWritten-sound version r range sound = record {
  plain = plain-data_of r range;
  short = size-data_of r sound.0.0;
  says =
      ap (bounded record_fits) (Says-sound version r sound)
      ∙ ap (λ b. cond b (Ok r) (Err Limit)) (fits r range sound.0.0);
}
