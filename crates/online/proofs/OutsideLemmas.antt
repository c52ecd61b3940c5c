-- Which tasks create a child inside a taskwait of their own.
use Rattle.std.proofs.Common.{◌≡◌, ◌∙◌, ℕ, zero, suc, ◌<◌, ◌≤◌, Bool, true, false, List, [], ◌∷◌, ◌++◌}
use Rattle.std.proofs.Common.{length, map, Some, refl, sym, ap, subst, arith, inl, inr}
use Rattle.std.specs.Prelude.{Contains, option_map}
use Rattle.std.specs.List.{list_any}
use Rattle.std.proofs.lemmas.Bool.{or_left, or_right, false≢true}
use Rattle.std.proofs.lemmas.List.{length_push, map-id}
use Rattle.std.proofs.lemmas.List.Elements.{Contains-append_left}
use Rattle.std.proofs.lemmas.Option.{none-some, same_Some, slice_get_within}
use Rattle.ompt_events.specs.declared.records.Record.{Record}
use Rattle.ompt_events.specs.declared.records.Body.{Body}
use Rattle.ompt_events.specs.declared.records.Body.TheVariants.{TaskCreate}
use Rattle.ompt_events.specs.declared.names.Endpoint.{Endpoint}
use Rattle.ompt_events.specs.declared.names.SyncKind.{SyncKind}
use Rattle.ompt_events.specs.declared.names.SyncKind.TheVariants.{Taskwait}
use Rattle.ompt_events.specs.contracts.names.SyncKindPartialEq.TheImpl as kinds
use Rattle.ompt_events.specs.Records.{creation, region}
use Rattle.ompt_events.specs.Regions.{open_regions, kind_at}
use Rattle.ompt_events.proofs.ListLemmas.{get_contains, get_last, pushed_cases}
use Rattle.ompt_events.proofs.PlaceLemmas.{at_get, get_at}
use Rattle.task_tree.proofs.BlindLemmas.{blind_region}
use Rattle.task_tree.proofs.RenamedPlaceLemmas.{same_at}
use Rattle.task_tree.proofs.RenamedRegionLemmas.{open_cut}
use Rattle.callbacks.specs.Tasks.{TaskView}
use Rattle.scripts.specs.Progress.{without_seen}
use Rattle.scripts.specs.RunCalls.{first_given}
use Rattle.scripts.specs.Scripts.{ScriptView}
use Rattle.scripts.proofs.OrderedLemmas.{whole_script}
use Rattle.scripts.proofs.RegionLaw.{stacked}
use Rattle.scripts.proofs.SaidLemmas.{creation_called}
use Rattle.scripts.proofs.ValueSteps.{first_has}
use Rattle.online.specs.declared.replay.Replay.{Replay}
use Rattle.online.specs.Missed.{AreCreatedOutside}
use Rattle.online.specs.Tasks.{value_of}
use Rattle.online.specs.Watches.{CreatesOutside}
use Rattle.online.proofs.CurrentLemmas.{open_same}
use Rattle.online.proofs.OpenGroupLemmas.{open_falling}
use Rattle.online.proofs.OpenedLemmas.{falling_below}
use Rattle.online.proofs.ReadLemmas.{same_append, at_same}
use Rattle.online.proofs.ReplayEnds.{without_lengths}
use Rattle.online.proofs.ReplayRecords.{replayed_script, says_call}
use Rattle.online.proofs.ReplayTasks.{IsOneMore, script_with, whole_with, steps_long, value_before}
use Rattle.online.proofs.ReplayTasks.{record_here}

-- a list in which no kind is found to be that of a taskwait has none
pub none_taskwait : (found : List SyncKind) → list_any (λ y. (kinds.ghosts).eq y Taskwait) found ≡ false
    → Contains found Taskwait → ⊥
none_taskwait [] none (k, below, is) = absurd (omega (arith, below))
none_taskwait (x ∷ xs) none (zero, below, is) =
    false≢true
    (sym none
    ∙ or_left ((kinds.ghosts).eq x Taskwait) (list_any (λ y. (kinds.ghosts).eq y Taskwait) xs)
    (ap (λ k. (kinds.ghosts).eq k Taskwait) is))
none_taskwait (x ∷ xs) none (suc k, below, is) =
    none_taskwait xs (rest (list_any (λ y. (kinds.ghosts).eq y Taskwait) xs) refl)
    (k, omega (arith, below), is)
  where
    rest : (b : Bool) → list_any (λ y. (kinds.ghosts).eq y Taskwait) xs ≡ b
        → list_any (λ y. (kinds.ghosts).eq y Taskwait) xs ≡ false
    rest false e = e
    rest true e =
        absurd
        (false≢true
        (sym none
        ∙ or_right ((kinds.ghosts).eq x Taskwait) (list_any (λ y. (kinds.ghosts).eq y Taskwait) xs) e))

-- ---- the kinds of the open regions of a task

-- the open regions, the innermost first, are of these kinds, the innermost last; this is what `stacked` says,
-- whose own definition of it is private and unfolds to the same
abbrev IsStack : List Record → List ℕ → List SyncKind → Type 0
IsStack rs [] kinds_of = kinds_of ≡ []
IsStack rs (b ∷ open_now) kinds_of =
    (kind : SyncKind) × (rest : List SyncKind) × (kinds_of ≡ rest ++ kind ∷ []) × (kind_at rs b ≡ Some kind)
    × IsStack rs open_now rest

stack_has : (rs : List Record) (opened : List ℕ) (found : List SyncKind) (begin : ℕ) (kind : SyncKind)
    → IsStack rs opened found → Contains opened begin → kind_at rs begin ≡ Some kind → Contains found kind
stack_has rs [] found begin kind stack (k, below, is) says = absurd (omega (arith, below))
stack_has rs (b ∷ more) found begin kind (top, rest, parts, there, stack) (zero, below, is) says =
    let same : top ≡ kind = same_Some top kind (sym there ∙ ap (kind_at rs) is ∙ says) in
    let P : List SyncKind → Type 0 = λ l. Contains l kind in
    subst P (sym parts)
    (get_contains (rest ++ top ∷ []) kind (length rest) (get_last rest top (length rest) refl ∙ ap Some same))
stack_has rs (b ∷ more) found begin kind (top, rest, parts, there, stack) (suc k, below, is) says =
    let P : List SyncKind → Type 0 = λ l. Contains l kind in
    subst P (sym parts)
    (Contains-append_left rest (top ∷ []) kind
    (stack_has rs more rest begin kind stack (k, omega (arith, below), is) says))

-- the value that is kept of a task has the kind of each region that it has open
value_has : (kept : Replay) (rs : List Record) (r : Record) (task begin : ℕ) (kind : SyncKind) (t : TaskView)
    → IsOneMore kept rs r → value_of kept.tasks task ≡ Some t
    → Contains (open_regions rs task (length rs)) begin → kind_at rs begin ≡ Some kind
    → Contains t.regions kind
value_has kept rs r task begin kind t more was found is =
    stack_has (whole_script script) (open_regions (whole_script script) task (length rs)) t.regions begin kind
    (stacked script (length rs) task t (whole_with kept rs r more)
    (let long = steps_long kept rs r in omega (arith, long))
    (sym (value_before kept rs r task more) ∙ was))
    (subst P (sym opened) found) (kinds_there ∙ is)
  where
    script : ScriptView
    script = script_with kept rs r

    P : List ℕ → Type 0
    P l = Contains l begin

    made : whole_script (script_with kept rs r) ≡ map without_seen (rs ++ r ∷ [])
    made = replayed_script kept.nests (rs ++ r ∷ []) more.values more.after

    opened : open_regions (whole_script (script_with kept rs r)) task (length rs)
        ≡ open_regions rs task (length rs)
    opened =
        ap (λ l. open_regions l task (length rs)) made
        ∙ open_cut (without_lengths (rs ++ r ∷ [])) task (length rs) (length rs)
        (record { forth = λ k own low. low; back = λ k own low. low })
        ∙ map-id (open_regions (rs ++ r ∷ []) task (length rs))
        ∙ open_same (length rs) (rs ++ r ∷ []) rs (same_append rs (r ∷ [])) task (length rs) (omega arith)

    low : begin < length rs
    low =
        falling_below (length rs) (open_regions rs task (length rs)) begin
        (open_falling rs task (length rs)) found

    kinds_there : kind_at (whole_script (script_with kept rs r)) begin ≡ kind_at rs begin
    kinds_there =
        ap (λ l. kind_at l begin) made
        ∙ ap (option_map (λ (q : ℕ × SyncKind × Endpoint). q.1))
        (same_at region blind_region (without_lengths (rs ++ r ∷ [])) begin
        (let one = length_push rs r in omega (arith, low, one))
        ∙ at_same region (length rs) (rs ++ r ∷ []) rs (same_append rs (r ∷ [])) begin low)

-- ---- one record more

creation_given : (body : Body) (parent child : ℕ) → creation body ≡ Some (parent, child)
    → first_given body ≡ Some parent
creation_given (TaskCreate deps given own kid) parent child is = ap (option_map (λ (p : ℕ × ℕ). p.0)) is
creation_given _ parent child is = absurd (none-some (parent, child) is)

pub outside_more : (kept : Replay) (rs : List Record) (r : Record) → IsOneMore kept rs r
    → AreCreatedOutside rs → CreatesOutside kept r.body → AreCreatedOutside (rs ++ r ∷ [])
outside_more kept rs r more before there i parent child begin creates found is =
    let (q, stands, says) = get_at creation (rs ++ r ∷ []) i (parent, child) creates in
    elim (pushed_cases rs r q i stands) [
      | inl old ↦
          let low = slice_get_within rs i q old in
          let (opened, same) = back (omega (arith, low)) in
          before i parent child begin (at_get creation rs i q old ∙ says) opened (sym same ∙ is)
      | inr (last, is_r) ↦
          let (opened, same) = back (omega (arith, last)) in
          let P : ℕ → Type 0 = λ n. Contains (open_regions rs parent n) begin in
          here (ap (λ (x : Record). creation x.body) is_r ∙ says) (subst P last opened) (sym same ∙ is)
    ]
  where
    back : i ≤ length rs
        → Contains (open_regions rs parent i) begin × (kind_at (rs ++ r ∷ []) begin ≡ kind_at rs begin)
    back most =
        let P : List ℕ → Type 0 = λ l. Contains l begin in
        let opened =
        subst P (open_same (length rs) (rs ++ r ∷ []) rs (same_append rs (r ∷ [])) parent i most) found in
        let low = falling_below i (open_regions rs parent i) begin (open_falling rs parent i) opened in (
          opened,
          ap (option_map (λ (q : ℕ × SyncKind × Endpoint). q.1))
              (at_same region (length rs) (rs ++ r ∷ []) rs (same_append rs (r ∷ [])) begin
              (omega (arith, low, most))),
        )

    here : creation r.body ≡ Some (parent, child) → Contains (open_regions rs parent (length rs)) begin
        → kind_at rs begin ≡ Some Taskwait → ⊥
    here makes opened kind =
        let script = script_with kept rs r in
        let o = record_here kept rs r more in
        let makes_step =
        sym (says_call creation kept.nests (rs ++ r ∷ []) more.values (length rs) r more.after creation_called
        o)
        ∙ makes in
        let (v, was, id) =
        first_has script (length rs) o.step (whole_with kept rs r more) o.stands parent
        (creation_given o.step.body parent child makes_step) in
        let has = value_before kept rs r parent more ∙ was in
        there parent child makes v has (value_has kept rs r parent begin Taskwait v more has opened kind)
