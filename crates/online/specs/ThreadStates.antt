-- What is kept of a thread.
use Rattle.std.specs.Prelude.{◌≡◌, List, length}
use Rattle.ompt_events.specs.declared.records.Record.{Record}
use Rattle.callbacks.specs.Logs.{IsLeft}
use Rattle.online.specs.declared.thread.Thread.{Thread}

-- it is what these records of the thread leave
abbrev pub IsThreadOf : List Record → Thread → Type 0
IsThreadOf own t = IsLeft own t.state × (t.count ≡ length own)
