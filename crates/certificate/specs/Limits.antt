-- How often a device may ask for another turn, which versions of the format the program reads, and how many
-- records a file has at most that is not kept.
use Rattle.std.specs.Prelude.{ℕ, ◌^◌, ◌-◌}

-- turns of one call; the next one ends it
abbrev pub max_turns : ℕ
max_turns = 10000

-- the newest version of the format that the program reads
abbrev pub newest_version : ℕ
newest_version = 3

-- records whose lines, and the line past them, have numbers below 2^32; line 1 is the header
abbrev pub max_numbered : ℕ
max_numbered = 2 ^ 32 - 3
