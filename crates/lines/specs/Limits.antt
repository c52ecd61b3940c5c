-- How long a line is.
use Rattle.std.specs.Prelude.{ℕ}

-- bytes of a line, its line feed not counted
abbrev pub max_line : ℕ
max_line = 65536
