-- The named bits of a set of flags.
use Rattle.std.specs.Prelude.{ℕ, ◌==◌, Bool, List, [], ◌∷◌, codes, nat_eq}
use Rattle.std.specs.Int.RustNames.{bit_and}
use Rattle.bitflags.specs.Sets.{known_bits}

-- ---- the bits of which the rules speak

-- an initial task
abbrev pub initial : ℕ
initial = 0x1

-- a task that runs on another device
abbrev pub target : ℕ
target = 0x8

-- the task that a taskwait with dependences makes
abbrev pub taskwait : ℕ
taskwait = 0x10

-- a task that a cancellation discards
abbrev pub discarded_task : ℕ
discarded_task = 0x40

-- ---- the tables

-- OpenMP 5.2, ompt_task_flag_t: the name in a file, and the bit
abbrev pub task_flags : List (List ℕ × ℕ)
task_flags =
    (codes "initial", initial) ∷ (codes "implicit", 0x2) ∷ (codes "explicit", 0x4) ∷ (codes "target", target)
    ∷ (codes "taskwait", taskwait) ∷ (codes "undeferred", 0x0800_0000) ∷ (codes "untied", 0x1000_0000)
    ∷ (codes "final", 0x2000_0000) ∷ (codes "mergeable", 0x4000_0000) ∷ (codes "merged", 0x8000_0000) ∷ []

-- OpenMP 5.2, ompt_cancel_flag_t
abbrev pub cancel_flags : List (List ℕ × ℕ)
cancel_flags =
    (codes "parallel", 0x1) ∷ (codes "sections", 0x2) ∷ (codes "loop", 0x4) ∷ (codes "taskgroup", 0x8)
    ∷ (codes "activated", 0x10) ∷ (codes "detected", 0x20) ∷ (codes "discarded_task", discarded_task) ∷ []

-- whether the flag is among the bits
abbrev pub has_flag : ℕ → ℕ → Bool
has_flag bits flag = bit_and bits flag == flag

-- each bit that is set has a name in the table
abbrev pub are_named : List (List ℕ × ℕ) → ℕ → Bool
are_named table bits = nat_eq (bit_and bits (known_bits table)) bits
