-- Where turns rise along the file, file order says what the tasks' own order says.
use Rattle.std.proofs.Common.{ℕ, List}
use Rattle.std.specs.Prelude.{◌↔◌}
use Rattle.ompt_events.specs.declared.records.Record.{Record}
use Rattle.ompt_events.specs.declared.cause.Cause.{Cause}
use Rattle.ompt_events.specs.declared.cause.Cause.TheVariants.{RegionOrder, TeamShort, ShareWrong}
use Rattle.ompt_events.specs.Violations.{IsRequired, covered, preceding, awaited, MustBeComplete, wait_ends}
use Rattle.ompt_events.specs.Violations.{dependent_starts, taskwait_completes}
use Rattle.ompt_events.specs.Causes.{HasCause, Shows}
use Rattle.ompt_events.proofs.ListLemmas.{iff_flipped}
use Rattle.task_tree.specs.Rising.{TurnsRise}
use Rattle.task_tree.proofs.RenamingLemmas.{renamed_covers, renamed_predecessor, renamed_order, renamed_short}
use Rattle.task_tree.proofs.RenamingLemmas.{renamed_share}
use Rattle.task_tree.proofs.RisingLemmas.{own_renaming}

pub shows_has : (rs : List Record) → TurnsRise rs → (i : ℕ) (cause : Cause)
    → Shows rs i cause ↔ HasCause rs i cause
shows_has rs rise i RegionOrder = iff_flipped (renamed_order (own_renaming rs rise) i)
shows_has rs rise i TeamShort = iff_flipped (renamed_short (own_renaming rs rise) i)
shows_has rs rise i ShareWrong = iff_flipped (renamed_share (own_renaming rs rise) i)
shows_has rs rise i _ = (λ h. h, λ h. h)

pub required_owed : (rs : List Record) → TurnsRise rs → (i task : ℕ)
    → MustBeComplete rs i task ↔ IsRequired rs i task
required_owed rs rise i task = (there, back)
  where
    there : MustBeComplete rs i task → IsRequired rs i task
    there (wait_ends c) = covered ((renamed_covers (own_renaming rs rise) i task).1 c)
    there (dependent_starts {dependent = d} explicit start before) =
        preceding explicit start ((renamed_predecessor (own_renaming rs rise) d task).1 before)
    there (taskwait_completes {dependent = d} completes before) =
        awaited completes ((renamed_predecessor (own_renaming rs rise) d task).1 before)

    back : IsRequired rs i task → MustBeComplete rs i task
    back (covered c) = wait_ends ((renamed_covers (own_renaming rs rise) i task).0 c)
    back (preceding {dependent = d} explicit start before) =
        dependent_starts explicit start ((renamed_predecessor (own_renaming rs rise) d task).0 before)
    back (awaited {dependent = d} completes before) =
        taskwait_completes completes ((renamed_predecessor (own_renaming rs rise) d task).0 before)
