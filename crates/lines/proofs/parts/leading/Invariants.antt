use Rattle.std.proofs.Common.{◌≡◌, ◌<◌, ◌≤◌, ◌-◌, ◌^◌, length, take, decimal}
use Rattle.lines.proofs.parts.leading.Given as goal

-- the digits so far are those of the number
abbrev pub invariant-digits : goal.invariant-digits
invariant-digits l = record {
  some : 0 < l.number;
  within : l.len ≤ length l.front;
  few : l.number < 10 ^ l.len;
  taken : take l.len l.front ≡ decimal l.number;
}

abbrev pub decreases-digits : goal.decreases-digits
decreases-digits l = length l.front - l.len
