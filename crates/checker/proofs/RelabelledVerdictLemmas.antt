-- A trace of version 2 without a cause has in version 3 the same verdict and the same counter orders, unless
-- a root begins there inside another one whose task has not begun its region.
use Rattle.std.proofs.Common.{◌≡◌, ◌∙◌, ℕ, List, Option, Some, None, true, false, map, sym, ap}
use Rattle.std.proofs.lemmas.Bool.{false≢true}
use Rattle.std.proofs.lemmas.Option.{none-some, slice_get-map}
use Rattle.std.specs.Prelude.{◌↔◌, option_and_then, option_map, slice_get}
use Rattle.std.specs.Option.{option_map_or}
use Rattle.ompt_events.specs.declared.records.Record.{Record}
use Rattle.ompt_events.specs.declared.cause.Cause.{Cause}
use Rattle.ompt_events.specs.declared.cause.Cause.TheVariants.{NotCurrent, NestedParallel, RegionNesting}
use Rattle.ompt_events.specs.declared.cause.Cause.TheVariants.{TargetTask}
use Rattle.ompt_events.specs.declared.records.Body.{Body}
use Rattle.ompt_events.specs.Records.{made, forked, joined, begun_initial}
use Rattle.ompt_events.specs.Places.{at, nests_at}
use Rattle.ompt_events.specs.Traces.{IsTraceOf}
use Rattle.ompt_events.specs.Causes.{HasCause, IsFreeOf, IsNested, forked_inside, joined_inside}
use Rattle.ompt_events.specs.Causes.{initial_inside, nested_parallel, region_nesting, target_task}
use Rattle.ompt_events.specs.Upgrades.{nesting}
use Rattle.ompt_events.proofs.ListLemmas.{all_get}
use Rattle.checker.specs.declared.verdict.Verdict.{Verdict}
use Rattle.checker.specs.Readings.{by_task}
use Rattle.checker.specs.Verdicts.{ShowsNone, IsVerdict}
use Rattle.checker.specs.Counter.{IsCounterBy}
use Rattle.checker.proofs.TwinLemmas.{AreTwins, twins_back}
use Rattle.checker.proofs.TwinCauseLemmas.{HaveSameWalks, same_walks_back, twin_not_current}
use Rattle.checker.proofs.WalkTwinLemmas.{IsWalkCause}
use Rattle.checker.proofs.FlatTwinLemmas.{AreFlat, never_misnested}
use Rattle.checker.proofs.RelabelledLemmas.{relabelled_twins, nesting_relabelled}
use Rattle.checker.proofs.RelabelledWalkLemmas.{nesting_walks}
use Rattle.checker.proofs.RelabelledRunLemmas.{AreSameRuns, same_runs_alike}
use Rattle.checker.proofs.ReadingLemmas.{AreAlike, alike_verdicts, alike_counters}

-- ---- a trace of version 2 in version 3

-- each record of it lets regions lie inside others
nests_where : {X : Type 0} (f : Body → Option X) (x : X) (rs : List Record) (i : ℕ)
    → at f (map nesting rs) i ≡ Some x → nests_at (map nesting rs) i ≡ true
nests_where f x rs i says = by (slice_get rs i) (slice_get-map nesting rs i)
  where
    by : (o : Option Record) → slice_get (map nesting rs) i ≡ option_map nesting o
        → nests_at (map nesting rs) i ≡ true
    by None is = absurd (none-some x (sym (ap (option_and_then (λ (r : Record). f r.body)) is) ∙ says))
    by (Some r) is = ap (λ (o : Option Record). option_map_or (λ (q : Record). q.nests) o false) is

never_nested : (rs : List Record) (i : ℕ) → IsNested (map nesting rs) i → ⊥
never_nested rs i (forked_inside task parallel flat forks none) =
    false≢true (sym flat ∙ nests_where forked (task, parallel) rs i forks)
never_nested rs i (joined_inside m walk outer flat joins stands innermost member) =
    false≢true (sym flat ∙ nests_where joined m rs i joins)
never_nested rs i (initial_inside task walk flat begins stands some) =
    false≢true (sym flat ∙ nests_where begun_initial task rs i begins)

not_nested : (rs : List Record) → IsFreeOf (map nesting rs) NestedParallel
not_nested rs i (nested_parallel is) = never_nested rs i is

not_misnested : (rs : List Record) → AreFlat rs → IsFreeOf rs RegionNesting
not_misnested rs flat i (region_nesting is) = never_misnested rs i flat is

no_target : (rs : List Record) → IsFreeOf (map nesting rs) TargetTask
no_target rs i (target_task (task, bits, flat, makes, has, target)) =
    false≢true (sym flat ∙ nests_where made task rs i makes)

-- the trace of version 2 shows no cause, and in version 3 each root begins where its region did
pub record IsNestable (rs : List Record) : Type 0 where
  pub trace : IsTraceOf 2 rs
  pub well_formed : ShowsNone (by_task rs)
  pub inside : IsFreeOf (map nesting rs) RegionNesting

nestable_admits : (rs : List Record) (i : ℕ) (cause : Cause) → IsWalkCause cause → IsNestable rs
    → HasCause rs i cause ↔ HasCause (map nesting rs) i cause
nestable_admits rs i cause is_so known = by cause is_so
  where
    flat : AreFlat rs
    flat k r stands = all_get (λ (q : Record). q.nests ≡ false) rs k r known.trace.nesting stands

    twins : AreTwins rs (map nesting rs)
    twins = relabelled_twins rs (map nesting rs) (nesting_relabelled rs)

    walks : HaveSameWalks rs (map nesting rs)
    walks = nesting_walks rs (record {
      flat = flat;
      current = λ k has. known.well_formed k NotCurrent has;
      outside = λ k has. known.well_formed k NestedParallel has;
      inside = known.inside;
    })

    by : (c : Cause) → IsWalkCause c → HasCause rs i c ↔ HasCause (map nesting rs) i c
    by NotCurrent is_so = (
      λ has. twin_not_current rs (map nesting rs) i twins walks has,
      λ has.
          twin_not_current (map nesting rs) rs i (twins_back rs (map nesting rs) twins)
          (same_walks_back rs (map nesting rs) walks) has,
    )
    by NestedParallel is_so =
        (λ has. absurd (known.well_formed i NestedParallel has), λ has. absurd (not_nested rs i has))
    by RegionNesting is_so =
        (λ has. absurd (not_misnested rs flat i has), λ has. absurd (known.inside i has))
    by TargetTask is_so =
        (λ has. absurd (known.well_formed i TargetTask has), λ has. absurd (no_target rs i has))
    by _ is_so = absurd is_so

nestable_runs : (rs : List Record) → IsNestable rs → AreSameRuns rs (map nesting rs)
nestable_runs rs known = record {
  same = nesting_relabelled rs;
  admits = λ i cause is_so. nestable_admits rs i cause is_so known;
}

pub nestable_alike : (rs : List Record) → IsNestable rs → AreAlike (by_task rs) (by_task (map nesting rs))
nestable_alike rs known = same_runs_alike rs (map nesting rs) (nestable_runs rs known)

pub nestable_verdicts : (rs : List Record) (verdict : Verdict) → IsNestable rs
    → IsVerdict rs verdict ↔ IsVerdict (map nesting rs) verdict
nestable_verdicts rs verdict known =
    alike_verdicts (by_task rs) (by_task (map nesting rs)) verdict (nestable_alike rs known)

pub nestable_counters : (rs : List Record) (i task : ℕ) (found : Option (List ℕ)) → IsNestable rs
    → IsCounterBy (by_task rs) i task found ↔ IsCounterBy (by_task (map nesting rs)) i task found
nestable_counters rs i task found known =
    alike_counters (by_task rs) (by_task (map nesting rs)) i task found (nestable_alike rs known)
