-- Uses that stand for the items of a list.
use Rattle.std.proofs.Common.{◌≡◌, ◌∙◌, ℕ, ◌<◌, List, [], ◌∷◌, ◌++◌, length, Some}
use Rattle.std.proofs.Common.{sym, ap, subst, arith, inl, inr, get_or, get_or-set_same, get_or-set_other}
use Rattle.std.proofs.Math.ListN.{set, length-set}
use Rattle.std.specs.Prelude.{slice_get, Contains}
use Rattle.std.proofs.lemmas.Bool.{cases_eq}
use Rattle.std.proofs.lemmas.Option.{slice_get_within, get_or_from_slice_get}
use Rattle.std.proofs.lemmas.List.Elements.{Contains-push_cases, Contains-push, Contains-append_left}
use Rattle.ompt_events.specs.declared.deps.Dep.{Dep}
use Rattle.online.specs.declared.uses.Use.{Use}
use Rattle.online.specs.Items.{Admits, AddsItem, IsWider}

contains_set : (uses : List Use) (index : ℕ) (new : Use) → index < length uses
    → Contains (set uses index new) new
contains_set uses index new low = (
  index,
  let long = length-set uses index new in omega (arith, low, long),
  get_or-set_same uses index new new low,
)

pub uses_set : (uses : List Use) (index : ℕ) (old new : Use) (item : Dep) → slice_get uses index ≡ Some old
    → old.location ≡ item.var → IsWider old new item.kind → AddsItem uses (set uses index new) item
uses_set uses index old new item here at_item wider = λ list are it has.
    elim (Contains-push_cases list item it has) [
      | inr same ↦ (
        new,
        contains_set uses index new low,
        wider.location ∙ at_item ∙ ap (λ (d : Dep). d.var) same,
        subst (λ (d : Dep). Admits new.kind d.kind) same wider.own,
      )
      | inl there ↦ kept it (are it there)
    ]
  where
    low : index < length uses
    low = slice_get_within uses index old here

    kept : (it : Dep)
        → ((used : Use) × Contains uses used × (used.location ≡ it.var) × Admits used.kind it.kind)
        → (used : Use) × Contains (set uses index new) used × (used.location ≡ it.var)
        × Admits used.kind it.kind
    kept it (used, (k, within, is), at_it, admits) = elim (cases_eq k index) [
      | inl same ↦
          let own : used ≡ old =
          sym is ∙ ap (λ m. get_or uses m used) same ∙ get_or_from_slice_get uses index old used here in (
            new,
            contains_set uses index new low,
            wider.location ∙ ap (λ (u : Use). u.location) (sym own) ∙ at_it,
            wider.same it.kind (subst (λ (u : Use). Admits u.kind it.kind) own admits),
          )
      | inr apart ↦ (
        used,
        (
          k,
          let long = length-set uses index new in omega (arith, within, long),
          get_or-set_other uses index k new used apart ∙ is,
        ),
        at_it,
        admits,
      )
    ]

pub uses_push : (uses : List Use) (new : Use) (item : Dep) → new.location ≡ item.var
    → Admits new.kind item.kind → AddsItem uses (uses ++ new ∷ []) item
uses_push uses new item at_item admits = λ list are it has. elim (Contains-push_cases list item it has) [
  | inr same ↦ (
    new,
    Contains-push uses new,
    at_item ∙ ap (λ (d : Dep). d.var) same,
    subst (λ (d : Dep). Admits new.kind d.kind) same admits,
  )
  | inl there ↦
      let (used, stands, at_it, own) = are it there in
      (used, Contains-append_left uses (new ∷ []) used stands, at_it, own)
]
