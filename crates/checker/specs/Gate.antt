-- Which workers have passed the gate.
use Rattle.std.specs.Prelude.{ℕ, ◌<◌, ⊤}
use Rattle.checker.specs.declared.verdict.Verdict.{Verdict}
use Rattle.checker.specs.declared.verdict.Verdict.TheVariants.{Yes, No, Malformed}

-- each of the first n workers has passed
abbrev pub HaveAllPassed : (ℕ → Type 0) → ℕ → Type 0
HaveAllPassed passed n = (worker : ℕ) → worker < n → passed worker

-- before a yes or a no each worker has passed; no worker decides a malformed trace
abbrev pub HavePassedFor : (ℕ → Type 0) → ℕ → Verdict → Type 0
HavePassedFor passed workers (Yes order) = HaveAllPassed passed workers
HavePassedFor passed workers (No i why) = HaveAllPassed passed workers
HavePassedFor passed workers (Malformed i cause) = ⊤
