-- What one call makes, ends and names.
use Rattle.std.proofs.Common.{◌≡◌, ◌≢◌, ◌∙◌, ℕ, List, [], ◌∷◌, Some, None, Bool, true, false, ◌||◌, refl, sym}
use Rattle.std.proofs.Common.{ap, arith, suc, get_or}
use Rattle.std.specs.Prelude.{Contains, AllPairs, ◌==◌}
use Rattle.std.specs.List.{list_any}
use Rattle.std.proofs.lemmas.Bool.{true≢false, eq-eqb, ne_eqb}
use Rattle.std.proofs.lemmas.Option.{none-some, same_Some}
use Rattle.std.proofs.lemmas.List.Folds.{list_any_none, list_any_at}
use Rattle.std.proofs.lemmas.List.Kept.{AllPairs-cons}
use Rattle.ompt_events.specs.declared.records.Body.{Body}
use Rattle.ompt_events.specs.declared.records.Body.TheVariants.{ImplicitTask, TaskCreate, TaskSchedule}
use Rattle.ompt_events.specs.declared.records.Body.TheVariants.{Cancel}
use Rattle.ompt_events.specs.declared.names.Endpoint.TheVariants.{Begin, End}
use Rattle.ompt_events.specs.declared.names.Status.TheVariants as status
use Rattle.ompt_events.specs.Flags as flag
use Rattle.ompt_events.specs.Flags.{has_flag}
use Rattle.ompt_events.specs.Records.{made, named}
use Rattle.scripts.specs.Scripts.{ended, has_twice}

-- what makes a task ends none
pub making_ends_none : (task : ℕ) (b : Body) → made b ≡ Some task → ended b ≡ None
making_ends_none task (ImplicitTask Begin actual index flags parallel root) says = refl
making_ends_none task (TaskCreate deps flags parent child) says = refl
making_ends_none task _ says = absurd (none-some task says)

head_is : (x task : ℕ) (xs : List ℕ) → x ≡ task → Contains (x ∷ xs) task
head_is x task xs is = (0, omega arith, is)

-- the task that is made or ended is named
pub made_is_named : (task : ℕ) (b : Body) → made b ≡ Some task → Contains (named b) task
made_is_named task (ImplicitTask Begin actual index flags parallel root) says =
    head_is root task [] (same_Some root task says)
made_is_named task (TaskCreate deps flags parent child) says = (1, omega arith, same_Some child task says)
made_is_named task _ says = absurd (none-some task says)

pub ended_is_named : (task : ℕ) (b : Body) → ended b ≡ Some task → Contains (named b) task
ended_is_named task (ImplicitTask End actual index flags parallel root) says =
    head_is root task [] (same_Some root task says)
ended_is_named task (TaskSchedule status.Complete turns prior next claimed) says =
    head_is prior task _ (same_Some prior task says)
ended_is_named task (TaskSchedule status.Cancel turns prior next claimed) says =
    head_is prior task _ (same_Some prior task says)
ended_is_named task (TaskSchedule status.LateFulfill turns prior next claimed) says =
    head_is prior task _ (same_Some prior task says)
ended_is_named task (TaskSchedule status.TaskwaitComplete turns prior next claimed) says =
    head_is prior task _ (same_Some prior task says)
ended_is_named task (Cancel flags own claimed) says =
    ended_is_named_by (has_flag flags.0 flag.discarded_task) refl
  where
    ended_is_named_by : (b : Bool) → has_flag flags.0 flag.discarded_task ≡ b
        → Contains (named (Cancel flags own claimed)) task
    ended_is_named_by true is = head_is own task _ (same_Some own task (rw is at says))
    ended_is_named_by false is = absurd (none-some task (rw is at says))
ended_is_named task _ says = absurd (none-some task says)

-- ---- no task twice

pub apart_from_test : (xs : List ℕ) → has_twice xs ≡ false → AllPairs (λ x y. x ≢ y) xs
apart_from_test [] is = λ i j d less within. absurd (omega arith)
apart_from_test (x ∷ xs) is =
    let both = or_parts (list_any (λ y. y == x) xs) (has_twice xs) is in
    AllPairs-cons (λ a b. a ≢ b) x xs
    (λ k d within same.
    absurd
    (true≢false (sym (list_any_at (λ y. y == x) xs k d within (eq-eqb _ x (sym same))) ∙ both.0)))
    (apart_from_test xs both.1)
  where
    or_parts : (a b : Bool) → (a || b) ≡ false → (a ≡ false) × (b ≡ false)
    or_parts false b e = (refl, e)
    or_parts true b e = absurd (true≢false e)

pub apart_to_test : (xs : List ℕ) → AllPairs (λ x y. x ≢ y) xs → has_twice xs ≡ false
apart_to_test [] are = refl
apart_to_test (x ∷ xs) are =
    let none : list_any (λ y. y == x) xs ≡ false =
    list_any_none (λ y. y == x) xs
    (λ k d within.
    ne_eqb (get_or xs k d) x
    (λ same. are 0 (suc k) d (omega arith) (omega (arith, within)) (sym same))) in
    ap (λ (b : Bool). b || has_twice xs) none
    ∙ apart_to_test xs
    (λ i j d less within. are (suc i) (suc j) d (omega (arith, less)) (omega (arith, within)))
