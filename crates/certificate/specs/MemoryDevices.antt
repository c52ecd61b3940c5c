-- What a source and a sink in memory do.
use Rattle.std.specs.Prelude.{ℕ, ◌-◌, ◌==◌, ◌&&◌, ◌||◌, Bool, false, List, ◌++◌, length, take, drop, min}
use Rattle.std.specs.Prelude.{Option, Result, Ok, Err, nat_lt, nat_le, if◌then◌else◌}
use Rattle.std.specs.Option.{option_map_or}
use Rattle.certificate.specs.declared.device.DeviceFault.{DeviceFault}
use Rattle.certificate.specs.declared.device.DeviceFault.TheVariants.{Again, Broken}
use Rattle.certificate.specs.Counts.{next_count, agains_after, breaks_after, stalls_after}

-- the bytes left, how many a read gives, how many reads answer `Again` first, the number of reads so far,
-- the one that breaks, and the counters
pub record SourceView : Type 0 where
  pub left : List ℕ
  pub per_read : ℕ
  pub agains_first : ℕ
  pub reads : ℕ
  pub broken_read : Option ℕ
  pub agains : ℕ
  pub breaks : ℕ

-- whether this is the number
abbrev pub is_number : Option ℕ → ℕ → Bool
is_number number n = option_map_or (λ k. k == n) number false

-- what a read into a buffer with this room answers
abbrev pub read_answer : SourceView → ℕ → Result ℕ DeviceFault
read_answer s room = if is_number s.broken_read s.reads then Err Broken
    else if nat_lt s.reads s.agains_first then Err Again else Ok (min (min s.per_read room) (length s.left))

-- the source after a read that gave this many bytes
abbrev pub after_read : SourceView → Result ℕ DeviceFault → ℕ → SourceView
after_read s answer given = record {
  left = drop given s.left;
  per_read = s.per_read;
  agains_first = s.agains_first;
  reads = next_count s.reads;
  broken_read = s.broken_read;
  agains = agains_after answer s.agains;
  breaks = breaks_after answer s.breaks;
}

abbrev pub given_by : Result ℕ DeviceFault → ℕ
given_by (Ok n) = n
given_by (Err e) = 0

-- the bytes taken, the room for more, the number of writes so far, the one that breaks, the first that
-- takes nothing, and the counters
pub record SinkView : Type 0 where
  pub taken : List ℕ
  pub room : ℕ
  pub writes : ℕ
  pub broken_write : Option ℕ
  pub idle_from : Option ℕ
  pub stalls : ℕ
  pub breaks : ℕ

-- what a write of this many bytes answers
abbrev pub write_answer : SinkView → ℕ → Result ℕ DeviceFault
write_answer s len =
    if is_number s.broken_write s.writes || ((s.room == 0) && nat_lt 0 len) then Err Broken
    else if option_map_or (λ k. nat_le k s.writes) s.idle_from false then Ok 0
    else Ok (min len s.room)

-- the sink after a write of these bytes of which this many were taken
abbrev pub after_write : SinkView → Result ℕ DeviceFault → List ℕ → ℕ → SinkView
after_write s answer bytes given = record {
  taken = s.taken ++ take given bytes;
  room = s.room - given;
  writes = next_count s.writes;
  broken_write = s.broken_write;
  idle_from = s.idle_from;
  stalls = stalls_after (length bytes) answer s.stalls;
  breaks = breaks_after answer s.breaks;
}
