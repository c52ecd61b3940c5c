-- What tasks depend on, and which of their items conflict.
use Rattle.std.specs.Prelude.{ℕ, ◌≡◌, true, List, Contains}
use Rattle.ompt_events.specs.declared.records.Record.{Record}
use Rattle.ompt_events.specs.declared.deps.Dep.{Dep}
use Rattle.ompt_events.specs.Names.{conflict}
use Rattle.ompt_events.specs.Dependences.{DependsOn}

-- the item of the earlier task conflicts with the other at the same location
abbrev pub Clash : Dep → Dep → Type 0
Clash earlier item = (earlier.var ≡ item.var) × (conflict earlier.kind item.kind ≡ true)

-- some earlier item conflicts so with this one
abbrev pub HasClash : List Dep → Dep → Type 0
HasClash earlier item = (other : Dep) × Contains earlier other × Clash other item

-- some earlier item conflicts so with one of these
abbrev pub HaveClash : List Dep → List Dep → Type 0
HaveClash earlier items = (item : Dep) × Contains items item × HasClash earlier item

-- an item of the earlier task conflicts so with one of these
abbrev pub ClashesWith : List Record → ℕ → List Dep → Type 0
ClashesWith rs earlier items =
    (item other : Dep) × Contains items item × DependsOn rs earlier other × Clash other item
