-- What is read of a line, or the cause for which there is nothing.
use Rattle.std.proofs.Common.{◌≡◌, ◌≢◌, ℕ, ◌&&◌, List, Option, Some, None, Result, Ok, Err, Bool, true}
use Rattle.std.proofs.Common.{false, cond, refl, sym, ap, ◌∙◌}
use Rattle.std.specs.Str.{bytes_eq}
use Rattle.std.proofs.lemmas.Slice.Eq.{bytes_eq-Decides}
use Rattle.serde_json.specs.Data.{Data}
use Rattle.lines.specs.declared.cause.ReadCause.{ReadCause}
use Rattle.lines.specs.declared.cause.ReadCause.TheVariants.{Field, Limit}
use Rattle.lines.specs.RecordLines.{bounded, body_named}
use Rattle.lines.specs.CallbackNames as callback

pub ok_not_err : {X : Type 0} (x : X) (e : ReadCause) → ◌≡◌ {A = Result X ReadCause} (Ok x) (Err e) → ⊥
ok_not_err x e h = cc

pub both-first : (a b : Bool) → (a && b) ≡ true → a ≡ true
both-first true b h = refl
both-first false b h = h

pub both-second : (a b : Bool) → (a && b) ≡ true → b ≡ true
both-second true b h = h
both-second false b h = absurd (let no : false ≡ true = h in cc)

-- a bounded value
pub bounded-ok : {X : Type 0} (fits : X → Bool) (o : Option X) (x : X) → Ok x ≡ bounded fits o
    → (o ≡ Some x) × (fits x ≡ true)
bounded-ok fits None x e = absurd (ok_not_err x Field e)
bounded-ok {X} fits (Some y) x e =
    elim (fits y) as
    (λ b. fits y ≡ b → Ok x ≡ cond b (Ok y) (Err Limit) → (Some y ≡ Some x) × (fits x ≡ true)) [
      | true ↦ λ is same. let eq : x ≡ y = cc in (ap Some (sym eq), ap fits eq ∙ is)
      | false ↦ λ is same. absurd (ok_not_err x Limit same)
    ] refl e

-- no callback has the name
pub bytes_eq-other : (a b : List ℕ) → a ≢ b → bytes_eq a b ≡ false
bytes_eq-other a b other =
    elim (bytes_eq a b) as (λ t. (t ≡ true → a ≡ b) → t ≡ false) [
      | true ↦ λ is. absurd (other (is refl))
      | false ↦ λ _. refl
    ] (bytes_eq-Decides a b).0

pub body_named-none : (version : ℕ) (name : List ℕ) (d : Data) → name ≢ callback.thread_begin
    → name ≢ callback.thread_end → name ≢ callback.parallel_begin → name ≢ callback.parallel_end
    → name ≢ callback.implicit_task → name ≢ callback.task_create → name ≢ callback.dependences
    → name ≢ callback.task_schedule → name ≢ callback.sync_region → name ≢ callback.cancel
    → body_named version name d ≡ None
unfolding body_named
body_named-none version name d no0 no1 no2 no3 no4 no5 no6 no7 no8 no9 =
    let other = bytes_eq-other name in
    rw (
      other _ no0,
      other _ no1,
      other _ no2,
      other _ no3,
      other _ no4,
      other _ no5,
      other _ no6,
      other _ no7,
      other _ no8,
      other _ no9,
    )
    refl
