-- What each callback is called in a file (OpenMP 5.2, 19.5.2).
use Rattle.std.specs.Prelude.{List, ℕ, codes}

abbrev pub thread_begin : List ℕ
thread_begin = codes "thread_begin"

abbrev pub thread_end : List ℕ
thread_end = codes "thread_end"

abbrev pub parallel_begin : List ℕ
parallel_begin = codes "parallel_begin"

abbrev pub parallel_end : List ℕ
parallel_end = codes "parallel_end"

abbrev pub implicit_task : List ℕ
implicit_task = codes "implicit_task"

abbrev pub task_create : List ℕ
task_create = codes "task_create"

abbrev pub dependences : List ℕ
dependences = codes "dependences"

abbrev pub task_schedule : List ℕ
task_schedule = codes "task_schedule"

abbrev pub sync_region : List ℕ
sync_region = codes "sync_region"

abbrev pub cancel : List ℕ
cancel = codes "cancel"
