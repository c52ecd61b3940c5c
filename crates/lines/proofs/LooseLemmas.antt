-- What is read of a callback before its limits are asked for.
use Rattle.std.proofs.Common.{◌≡◌, ◌≢◌, ℕ, List, [], ◌∷◌, length, map, Bool, true, false, Option, None, Some}
use Rattle.std.proofs.Common.{Ok, Err}
use Rattle.std.proofs.Common.{cond, refl, sym, ap, ◌∙◌}
use Rattle.std.specs.Prelude.{nat_lt, nat_le, ok_or, option_map, ◌==◌}
use Rattle.std.specs.List.{list_all}
use Rattle.serde_json.specs.Data.{Data}
use Rattle.ompt_events.specs.declared.records.Claim.{Claim}
use Rattle.ompt_events.specs.declared.records.Turns.{Turns}
use Rattle.ompt_events.specs.declared.records.Body.{Body}
use Rattle.ompt_events.specs.declared.records.Body.TheVariants.{ThreadBegin, ThreadEnd, ParallelBegin}
use Rattle.ompt_events.specs.declared.records.Body.TheVariants.{ParallelEnd, ImplicitTask, TaskCreate}
use Rattle.ompt_events.specs.declared.records.Body.TheVariants.{Dependences, TaskSchedule, SyncRegion, Cancel}
use Rattle.ompt_events.specs.Limits.{max_threads, max_depth}
use Rattle.lines.specs.declared.bodies.Loose.{Loose}
use Rattle.lines.specs.declared.cause.ReadCause.TheVariants.{Field, Limit}
use Rattle.lines.specs.CallbackNames as callback
use Rattle.lines.specs.MemberNames as member
use Rattle.lines.specs.Members.{whole}
use Rattle.lines.specs.LooseBodies.{cut_short, cut_claim, cut_turns, cut_body, loose_body, read_loosely}
use Rattle.lines.specs.RecordLines.{is_short, path_fits, claim_if_fits, turns_if_fit, body_fits}
use Rattle.lines.specs.RecordLines.{record_fits}
use Rattle.lines.specs.RecordLines.{bounded, body, unbounded}
use Rattle.lines.specs.StepLines.{body_named}
use Rattle.lines.proofs.MemberLemmas.{ok_or-some}
use Rattle.lines.proofs.RecordLemmas.{ok_not_err, both-first, both-second, bytes_eq-other}

cut_short-fits : (n : ℕ) → is_short n ≡ true → cut_short n ≡ n
cut_short-fits n short = rw short refl

cut_path-fits : (ns : List ℕ) → list_all is_short ns ≡ true → map cut_short ns ≡ ns
cut_path-fits [] short = refl
cut_path-fits (n ∷ ns) short =
    let first : is_short n ≡ true = both-first _ _ short in
    let others : list_all is_short ns ≡ true = both-second (is_short n) _ short in
    rw (cut_short-fits n first, cut_path-fits ns others) refl

cut_claim-fits : (o : Option Claim) → claim_if_fits o ≡ true → option_map cut_claim o ≡ o
cut_claim-fits None fits = refl
cut_claim-fits (Some c) fits =
    let path : path_fits c.path ≡ true = both-first _ _ fits in
    let kept : is_short c.kept ≡ true = both-second (path_fits c.path) _ fits in
    let numbers : list_all is_short c.path ≡ true = both-second (nat_le (length c.path) max_depth) _ path in
    rw (cut_short-fits c.kept kept, cut_path-fits c.path numbers) refl

cut_turns-fits : (o : Option Turns) → turns_if_fit o ≡ true → option_map cut_turns o ≡ o
cut_turns-fits None fits = refl
cut_turns-fits (Some t) fits =
    let prior : is_short t.prior ≡ true = both-first _ _ fits in
    let next : is_short t.next ≡ true = both-second (is_short t.prior) _ fits in
    rw (cut_short-fits t.prior prior, cut_short-fits t.next next) refl

-- within its limits a callback is as it was read
pub cut_body-fits : (b : Body) → body_fits b ≡ true → cut_body b ≡ b
cut_body-fits (ThreadBegin kind) fits = refl
cut_body-fits ThreadEnd fits = refl
cut_body-fits (ParallelBegin requested task parallel) fits = rw (cut_short-fits requested fits) refl
cut_body-fits (ParallelEnd task parallel) fits = refl
cut_body-fits (ImplicitTask endpoint actual index flags parallel task) fits =
    let first : is_short actual ≡ true = both-first _ _ fits in
    let second : is_short index ≡ true = both-second (is_short actual) _ fits in
    rw (cut_short-fits actual first, cut_short-fits index second) refl
cut_body-fits (TaskCreate deps flags task child) fits = refl
cut_body-fits (Dependences task list) fits = refl
cut_body-fits (TaskSchedule status turns prior next claim) fits =
    let first : claim_if_fits claim ≡ true = both-first _ _ fits in
    let second : turns_if_fit turns ≡ true = both-second (claim_if_fits claim) _ fits in
    rw (cut_turns-fits turns second, cut_claim-fits claim first) refl
cut_body-fits (SyncRegion kind endpoint parallel task) fits = refl
cut_body-fits (Cancel flags task claim) fits = rw (cut_claim-fits claim fits) refl

-- what was read is some callback
pub read_loosely-ok : (o : Option Body) (l : Loose) → Ok l ≡ read_loosely o
    → (b : Body) × (o ≡ Some b) × (l ≡ loose_body b)
read_loosely-ok None l is = absurd (let no : Ok l ≡ read_loosely None = is in cc)
read_loosely-ok (Some b) l is = (b, refl, (let same : l ≡ loose_body b = cc in same))

within-ok : (within : Bool) (n m : ℕ) → Ok m ≡ cond within (Ok n) (Err Limit) → (m ≡ n) × (within ≡ true)
within-ok true n m is = (let same : m ≡ n = cc in same, refl)
within-ok false n m is = absurd (ok_not_err m Limit is)

-- the record of what is within its limits
pub record-within : (nests : Bool) (thread seq seen t q s : ℕ) (l : Loose) (b : Body) → l ≡ loose_body b
    → l.fits ≡ true
    → Ok t ≡ cond (nat_lt thread max_threads) (Ok thread) (Err Limit)
    → Ok q ≡ cond (is_short seq) (Ok seq) (Err Limit) → Ok s ≡ cond (is_short seen) (Ok seen) (Err Limit)
    → Ok (record { thread = t; nests = nests; seq = q; seen = s; body = l.body })
    ≡ bounded record_fits
    (Some (record { thread = thread; nests = nests; seq = seq; seen = seen; body = b }))
record-within nests thread seq seen t q s l b is fits is_t is_q is_s =
    let inside : body_fits b ≡ true = sym (ap (λ (x : Loose). x.fits) is) ∙ fits in
    let same : l.body ≡ b = ap (λ (x : Loose). x.body) is ∙ cut_body-fits b inside in
    let t' = within-ok _ thread t is_t in
    let q' = within-ok _ seq q is_q in
    let s' = within-ok _ seen s is_s in
    rw (same, t'.0, q'.0, s'.0, inside, t'.1, q'.1, s'.1) refl

pub unbounded-is : (version : ℕ) (d : Data) (thread seq seen : ℕ) (b : Body)
    → Ok thread ≡ ok_or (whole member.thread d) Field → Ok seq ≡ ok_or (whole member.seq d) Field
    → Ok seen ≡ ok_or (whole member.seen d) Field → body version d ≡ Some b
    → unbounded version d
    ≡ Some (record { thread = thread; nests = version == 3; seq = seq; seen = seen; body = b })
unfolding unbounded
unbounded-is version d thread seq seen b t q s is =
    rw (ok_or-some _ thread t, ok_or-some _ seq q, ok_or-some _ seen s, is) refl

-- no callback has the name
pub body_named-none : (name : List ℕ) (d : Data) → name ≢ callback.thread_begin → name ≢ callback.thread_end
    → name ≢ callback.parallel_begin → name ≢ callback.parallel_end → name ≢ callback.implicit_task
    → name ≢ callback.task_create → name ≢ callback.dependences → name ≢ callback.task_schedule
    → name ≢ callback.sync_region → name ≢ callback.cancel → body_named name d ≡ None
unfolding body_named
body_named-none name d no0 no1 no2 no3 no4 no5 no6 no7 no8 no9 =
    let other = bytes_eq-other name in
    rw (
      other _ no0,
      other _ no1,
      other _ no2,
      other _ no3,
      other _ no4,
      other _ no5,
      other _ no6,
      other _ no7,
      other _ no8,
      other _ no9,
    ) refl
