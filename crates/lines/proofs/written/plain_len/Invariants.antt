use Rattle.std.proofs.Common.{length, ◌-◌, ◌≡◌, ◌≤◌, true, take}
use Rattle.lines.specs.Texts.{is_plain_text}
use Rattle.lines.proofs.written.plain_len.Given as goal

-- the bytes so far stand for themselves
abbrev pub invariant-bytes : goal.invariant-bytes
invariant-bytes l = record {
  within : l.len ≤ length l.rest;
  plain : is_plain_text (take l.len l.rest) ≡ true;
}

abbrev pub decreases-bytes : goal.decreases-bytes
decreases-bytes l = length l.rest - l.len
