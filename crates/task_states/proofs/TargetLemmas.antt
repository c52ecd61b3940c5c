-- Which records make target tasks.
use Rattle.std.proofs.Common.{◌≡◌, ◌∙◌, ℕ, ◌<◌, ◌≤◌, Bool, false, List, length, Option, Some, None, true}
use Rattle.std.proofs.Common.{refl, sym, ap, arith}
use Rattle.std.proofs.lemmas.Bool.{false≢true}
use Rattle.std.proofs.lemmas.Option.{none-some}
use Rattle.std.specs.Prelude.{◌↔◌, All, IsTrue, option_and_then, slice_get}
use Rattle.std.specs.Option.{option_map_or}
use Rattle.ompt_events.specs.declared.records.Record.{Record}
use Rattle.ompt_events.specs.declared.cause.Cause.TheVariants.{TargetTask}
use Rattle.ompt_events.specs.Flags as flag
use Rattle.ompt_events.specs.Flags.{has_flag}
use Rattle.ompt_events.specs.Places.{at, nests_at}
use Rattle.ompt_events.specs.Records.{flags, made}
use Rattle.ompt_events.specs.Causes.{HasCause, MakesTarget, target_task, IsFirstWith, IsFreeOf}
use Rattle.ompt_events.specs.Shown.{AreAllBelow, AreAllWith}
use Rattle.ompt_events.proofs.ShownLemmas.{all_with}
use Rattle.ompt_events.proofs.PlaceLemmas.{at_get, at_within}
use Rattle.packed_trace.specs.Packed.{made_with, makes_with}
use Rattle.task_states.proofs.NestingLemmas.{nests_all}

pub makes_target_task : (rs : List Record) (i : ℕ) → HasCause rs i TargetTask → MakesTarget rs i
makes_target_task rs i (target_task makes) = makes

-- the first record that makes one
pub first_target : (rs : List Record) (i : ℕ) → i < length rs → MakesTarget rs i
    → ((k : ℕ) → k < i → MakesTarget rs k → ⊥) → IsFirstWith rs TargetTask i
first_target rs i within makes free = record {
  within = within;
  has = target_task makes;
  first = λ k below cause. free k below (makes_target_task rs k cause);
}

-- where no record up to the end makes one, none does
pub free_of_targets : (rs : List Record) (i : ℕ) → ((k : ℕ) → k < i → MakesTarget rs k → ⊥) → length rs ≤ i
    → IsFreeOf rs TargetTask
free_of_targets rs i free end k has =
    let makes = makes_target_task rs k has in
    let within : k < length rs = at_within made rs k makes.0 makes.3 in
    free k (omega arith) makes

-- the places that were found up to the end are all
pub all_targets : (rs : List Record) (n : ℕ) (places : List ℕ) → length rs ≡ n
    → AreAllBelow (MakesTarget rs) n places → AreAllWith rs TargetTask places
all_targets rs n places all are =
    all_with rs TargetTask (MakesTarget rs) n places all (λ i makes. target_task makes)
    (λ i has.
    let makes = makes_target_task rs i has in
    let inside = at_within made rs i makes.0 makes.3 in (omega (arith, inside, all), makes))
    are

-- where regions may lie inside others none does
pub none_where_all_nest : (rs : List Record) → All (λ (r : Record). r.nests ≡ true) rs
    → IsFreeOf rs TargetTask
none_where_all_nest rs all k has =
    let makes = makes_target_task rs k has in
    let within : k < length rs = at_within made rs k makes.0 makes.3 in
    false≢true (sym makes.2 ∙ nests_all rs true k all within)

-- a record makes a target task exactly where it makes a task that has the flag
pub target_made : (rs : List Record) (i : ℕ) (makes : Bool) → nests_at rs i ≡ false
    → makes ≡ makes_with flag.target rs i → IsTrue makes ↔ MakesTarget rs i
target_made rs i makes flat is = (
  λ holds. there (slice_get rs i) refl (sym is ∙ holds),
  λ (task, bits, level, makes_task, has, target). is ∙ back task bits makes_task has target (slice_get rs i)
      refl,
)
  where
    of_body : (r : Record) → slice_get rs i ≡ Some r → (o : Option ℕ) (f : Option ℕ) → made r.body ≡ o
        → flags r.body ≡ f
        → option_map_or (λ _. option_map_or (λ bits. has_flag bits flag.target) f false) o false ≡ true
        → MakesTarget rs i
    of_body r e None f makes_none has holds = absurd (false≢true holds)
    of_body r e (Some task) None makes_task none holds = absurd (false≢true holds)
    of_body r e (Some task) (Some bits) makes_task has holds =
        (task, bits, flat, at_get made rs i r e ∙ makes_task, at_get flags rs i r e ∙ has, holds)

    there : (o : Option Record) → slice_get rs i ≡ o → makes_with flag.target rs i ≡ true → MakesTarget rs i
    there None e holds =
        absurd
        (false≢true
        (sym (ap (λ o. option_map_or (λ (q : Record). made_with flag.target q.body) o false) e) ∙ holds))
    there (Some r) e holds =
        of_body r e (made r.body) (flags r.body) refl refl
        (sym (ap (λ o. option_map_or (λ (q : Record). made_with flag.target q.body) o false) e) ∙ holds)

    back : (task bits : ℕ) → at made rs i ≡ Some task → at flags rs i ≡ Some bits
        → has_flag bits flag.target ≡ true → (o : Option Record) → slice_get rs i ≡ o
        → makes_with flag.target rs i ≡ true
    back task bits makes_task has target None e =
        absurd (none-some task (sym (ap (option_and_then (λ (q : Record). made q.body)) e) ∙ makes_task))
    back task bits makes_task has target (Some r) e =
        ap (λ o. option_map_or (λ (q : Record). made_with flag.target q.body) o false) e
        ∙ ap
        (λ (o : Option ℕ).
        option_map_or (λ _. option_map_or (λ b. has_flag b flag.target) (flags r.body) false) o false)
        (sym (at_get made rs i r e) ∙ makes_task)
        ∙ ap (λ (f : Option ℕ). option_map_or (λ b. has_flag b flag.target) f false)
        (sym (at_get flags rs i r e) ∙ has)
        ∙ target
