-- The rules of a script by its steps alone, for the law that `may_follow` tests exactly these.
use Rattle.std.specs.Prelude.{ℕ, ◌≡◌, ◌≢◌, ◌<◌, List, Option, None, Some, IfSome, Contains, AllPairs}
use Rattle.ompt_events.specs.declared.records.Body.{Body}
use Rattle.ompt_events.specs.Records.{made, named, claim, told_turns}
use Rattle.scripts.specs.declared.script.Step.{Step}
use Rattle.scripts.specs.Scripts.{ended, step_count}

-- a step makes the task
abbrev pub IsMadeByStep : List Step → ℕ → Type 0
IsMadeByStep steps task = (s : Step) × Contains steps s × (made s.body ≡ Some task)

-- a step ends it
abbrev pub IsEnded : List Step → ℕ → Type 0
IsEnded steps task = (s : Step) × Contains steps s × (ended s.body ≡ Some task)

-- the call may follow the steps
pub record MayFollow (steps : List Step) (after : Option (ℕ × ℕ)) (body : Body) : Type 0 where
  pub no_claim : claim body ≡ None
  pub no_turns : told_turns body ≡ None
  -- its `after` names one of them, by a thread and a number there
  pub earlier : IfSome after (λ (a : ℕ × ℕ). a.1 < step_count steps a.0)
  -- it names no task twice
  pub apart : AllPairs (λ x y. x ≢ y) (named body)
  -- what it names and does not make, one of them made and none ended
  pub live : (task : ℕ) → Contains (named body) task → made body ≢ Some task
      → IsMadeByStep steps task × (IsEnded steps task → ⊥)
  -- what it makes, none of them made
  pub new : (task : ℕ) → made body ≡ Some task → IsMadeByStep steps task → ⊥
