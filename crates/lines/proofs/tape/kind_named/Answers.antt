use Rattle.std.proofs.Common.{[], ◌∷◌, sym}
use Rattle.std.specs.List.{AllByRecursion}
use Rattle.ompt_events.specs.declared.names.DepKind.{DepKind}
use Rattle.ompt_events.specs.declared.names.DepKind.TheVariants.{In, Out, Inout, Mutexinoutset, Inoutset}
use Rattle.ompt_events.specs.Names.{dep_kind_name}
use Rattle.lines.proofs.MemberLemmas.{and_then-named}
use Rattle.lines.proofs.tape.kind_named.Goals as goal

every : (P : DepKind → Type 0) → AllByRecursion P (In ∷ Out ∷ Inout ∷ Mutexinoutset ∷ Inoutset ∷ [])
    → (x : DepKind) → P x
every P all = elim [
  | In ↦ all.0
  | Out ↦ all.1.0
  | Inout ↦ all.1.1.0
  | Mutexinoutset ↦ all.1.1.1.0
  | Inoutset ↦ all.1.1.1.1.0
]

pub returns-in-Some : goal.returns-in-Some
returns-in-Some c =
    and_then-named dep_kind_name (In ∷ Out ∷ Inout ∷ Mutexinoutset ∷ Inoutset ∷ []) every _
    c.in-Some.name.now c.from_name.result (sym c.in-Some.ensures) c.from_name.ensures
