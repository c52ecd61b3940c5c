-- How much a trace holds at most.
use Rattle.std.specs.Prelude.{ℕ, ◌^◌}

-- records in a trace
abbrev pub max_records : ℕ
max_records = 2 ^ 22

-- tasks that a trace makes
abbrev pub max_tasks : ℕ
max_tasks = 2 ^ 20

-- threads that record; they are numbered from 0
abbrev pub max_threads : ℕ
max_threads = 256

-- numbers in the path of a finished task
abbrev pub max_depth : ℕ
max_depth = 1024

-- dependences of a task
abbrev pub max_dependences : ℕ
max_dependences = 64
