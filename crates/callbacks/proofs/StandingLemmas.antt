-- What the state of a thread says of its records: its walk, and which of its open roots are initial tasks.
use Rattle.std.proofs.Common.{◌≡◌, ◌∙◌, ℕ, zero, suc, ◌+◌, Bool, true, false, List, [], ◌∷◌, ◌++◌, length}
use Rattle.std.proofs.Common.{drop, Some, None, refl, sym, ap, subst, arith}
use Rattle.std.specs.Prelude.{slice_get, fold, if◌then◌else◌}
use Rattle.std.proofs.lemmas.Option.{none-some, same_Some}
use Rattle.std.proofs.lemmas.List.{append_assoc, append-nil}
use Rattle.ompt_events.specs.declared.records.Record.{Record}
use Rattle.ompt_events.specs.declared.records.Body.{Body}
use Rattle.ompt_events.specs.declared.records.Body.TheVariants.{ImplicitTask, TaskSchedule}
use Rattle.ompt_events.specs.declared.names.Endpoint.TheVariants.{Begin, End}
use Rattle.ompt_events.specs.Flags as flag
use Rattle.ompt_events.specs.Flags.{has_flag}
use Rattle.ompt_events.specs.Names.{demands_next}
use Rattle.ompt_events.specs.Records.{begun_initial}
use Rattle.ompt_events.specs.Threads as threads
use Rattle.ompt_events.specs.Threads.{Walk, after_record}
use Rattle.callbacks.specs.Standing.{Standing, standing_at_start, next_standing, standing_of}
use Rattle.callbacks.proofs.GatherLemmas.{get_first, get_second}

-- ---- the walk

walk_on : (s : Standing) (own : List Record)
    → (fold (λ t (r : Record). next_standing r.nests t r.body) s own).walk ≡ fold after_record s.walk own
walk_on s [] = refl
walk_on s (r ∷ own) = walk_on (next_standing r.nests s r.body) own

pub walk_along : (own : List Record) → (standing_of own).walk ≡ fold after_record threads.at_start own
walk_along own = walk_on standing_at_start own

-- ---- which open roots are initial tasks

-- one of the records begins the task as an initial task
abbrev pub IsBegun : List Record → ℕ → Type 0
IsBegun own task =
    (p : ℕ) × (q : Record) × (slice_get own p ≡ Some q) × (begun_initial q.body ≡ Some task)

begun_more : (own more : List Record) (task : ℕ) → IsBegun own task → IsBegun (own ++ more) task
begun_more own more task (p, q, is, begins) = (p, q, get_first own more p q is, begins)

-- each open root has its kind, and those that are called initial tasks were begun as such
pub record AreKinds (own : List Record) (s : Standing) : Type 0 where
  pub as_long : length s.initial ≡ length s.walk.roots
  pub begun : (k task : ℕ) → slice_get s.walk.roots k ≡ Some task → slice_get s.initial k ≡ Some true
      → IsBegun own task

length_drop : {X Y : Type 0} (xs : List X) (ys : List Y) → length xs ≡ length ys
    → length (drop 1 xs) ≡ length (drop 1 ys)
length_drop [] [] same = refl
length_drop [] (y ∷ ys) same = omega (arith, same)
length_drop (x ∷ xs) [] same = omega (arith, same)
length_drop (x ∷ xs) (y ∷ ys) same = omega (arith, same)

get_drop : {X : Type 0} (xs : List X) (k : ℕ) (x : X) → slice_get (drop 1 xs) k ≡ Some x
    → slice_get xs (suc k) ≡ Some x
get_drop [] k x is = absurd (none-some x is)
get_drop (y ∷ xs) k x is = is

-- a root begins
kinds_begin : (own : List Record) (r : Record) (s : Standing) (bits task : ℕ) → AreKinds own s
    → begun_initial r.body ≡ (if has_flag bits flag.initial then Some task else None)
    → (k t : ℕ) → slice_get (task ∷ s.walk.roots) k ≡ Some t
    → slice_get (has_flag bits flag.initial ∷ s.initial) k ≡ Some true → IsBegun (own ++ r ∷ []) t
kinds_begin own r s bits task kinds begins zero t here initial =
    let last : slice_get (own ++ r ∷ []) (length own + 0) ≡ Some r = get_second own (r ∷ []) 0 in (
      length own + 0,
      r,
      last,
      begins ∙ ap (λ b. if b then Some task else None) (same_Some (has_flag bits flag.initial) true initial)
          ∙ here,
    )
kinds_begin own r s bits task kinds begins (suc k) t here initial =
    begun_more own (r ∷ []) t (kinds.begun k t here initial)

-- roots and kinds that stay
kinds_stay : (own : List Record) (r : Record) (s t : Standing) → AreKinds own s → t.walk.roots ≡ s.walk.roots
    → t.initial ≡ s.initial → AreKinds (own ++ r ∷ []) t
kinds_stay own r s t kinds roots initial = record {
  as_long = ap length initial ∙ kinds.as_long ∙ ap length (sym roots);
  begun = λ k task is kind. begun_more own (r ∷ []) task
      (kinds.begun k task (ap (λ l. slice_get l k) (sym roots) ∙ is)
      (ap (λ l. slice_get l k) (sym initial) ∙ kind));
}

kinds_after : (own : List Record) (r : Record) (nests : Bool) (s : Standing) (body : Body) → r.body ≡ body
    → AreKinds own s → AreKinds (own ++ r ∷ []) (next_standing nests s body)
kinds_after own r nests s (ImplicitTask Begin actual index given parallel task) is kinds = record {
  as_long = omega (arith, kinds.as_long);
  begun = kinds_begin own r s given.0 task kinds (ap begun_initial is);
}
kinds_after own r nests s (ImplicitTask End actual index given parallel task) is kinds = record {
  as_long = length_drop s.initial s.walk.roots kinds.as_long;
  begun = λ k t here initial. begun_more own (r ∷ []) t
      (kinds.begun (suc k) t (get_drop s.walk.roots k t here) (get_drop s.initial k true initial));
}
kinds_after own r nests s (TaskSchedule status turns prior next claimed) is kinds =
    kinds_stay own r s (next_standing nests s (TaskSchedule status turns prior next claimed)) kinds
    (kept (demands_next status)) refl
  where
    kept : (b : Bool)
        → (if b then record { roots = s.walk.roots; outer = s.walk.outer; current = next } else s.walk).roots
        ≡ s.walk.roots
    kept true = refl
    kept false = refl
kinds_after own r nests s body is kinds = kinds_stay own r s (next_standing nests s body) kinds refl refl

kinds_on : (before own : List Record) (s : Standing) → AreKinds before s
    → AreKinds (before ++ own) (fold (λ t (r : Record). next_standing r.nests t r.body) s own)
kinds_on before [] s kinds = subst (λ l. AreKinds l s) (sym (append-nil before)) kinds
kinds_on before (r ∷ own) s kinds =
    subst (λ l. AreKinds l (fold (λ t (q : Record). next_standing q.nests t q.body) s (r ∷ own)))
    (append_assoc before (r ∷ []) own)
    (kinds_on (before ++ r ∷ []) own (next_standing r.nests s r.body)
    (kinds_after before r r.nests s r.body refl kinds))

pub kinds_along : (own : List Record) → AreKinds own (standing_of own)
kinds_along own = kinds_on [] own standing_at_start (record {
  as_long = refl;
  begun = λ k task is kind. absurd (none-some task is);
})
