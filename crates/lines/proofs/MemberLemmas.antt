-- Members and the items of lists, as they are read.
use Rattle.std.proofs.Common.{◌≡◌, ◌≢◌, ℕ, List, [], ◌∷◌, Option, Some, None, Ok, Err, true, false, cond}
use Rattle.std.proofs.Common.{refl, ap, ◌↔◌}
use Rattle.std.specs.Prelude.{ok_or, option_and_then, IsUtf8}
use Rattle.std.specs.List.{AllByRecursion}
use Rattle.std.specs.Str.{bytes_eq, is_utf8}
use Rattle.std.proofs.lemmas.Str.{IsUtf8-from_is_utf8, is_utf8-from_IsUtf8}
use Rattle.std.proofs.lemmas.Slice.Eq.{bytes_eq-Decides}
use Rattle.serde_json.specs.Data.{Data}
use Rattle.serde_json.specs.Read.{read}
use Rattle.lines.specs.declared.cause.ReadCause.TheVariants.{NotJson, Field}
use Rattle.lines.specs.Members.{value_named}
use Rattle.lines.specs.RecordLines.{value_or_cause}

-- a search by name among all the values
pub named-is : {X : Type 0} (name_of : X → List ℕ) (xs : List X) (name : List ℕ) (r : Option X)
    → ((x : X) → (r ≡ Some x) ↔ (name_of x ≡ name)) → (AllByRecursion (λ x. name_of x ≢ name) xs → r ≡ None)
    → r ≡ value_named name_of xs name
unfolding value_named
named-is name_of [] name r found rest = rest tt
named-is {X} name_of (x ∷ xs) name r found rest =
    let decides = bytes_eq-Decides (name_of x) name in
    elim (bytes_eq (name_of x) name) as
    (λ b.
    (b ≡ true → name_of x ≡ name) → (name_of x ≡ name → b ≡ true)
    → r ≡ cond b (Some x) (value_named name_of xs name)) [
      | true ↦ λ is _. (found x).1 (is refl)
      | false ↦
          λ _ is.
          named-is name_of xs name r found
          (λ others. rest ((λ same. absurd (let h : false ≡ true = is same in cc)), others))
    ] decides.0 decides.1

pub none_named : {X : Type 0} (name_of : X → List ℕ) (name : List ℕ) (r : Option X)
    → ((x : X) → (r ≡ Some x) ↔ (name_of x ≡ name)) → ((x : X) → name_of x ≢ name) → r ≡ None
none_named name_of name None found none = refl
none_named name_of name (Some x) found none = absurd (none x ((found x).0 refl))

pub ok_or-some : {X : Type 0} (o : Option X) (x : X) → Ok x ≡ ok_or o Field → o ≡ Some x
ok_or-some None x e = cc
ok_or-some (Some y) x e = cc

-- a name's value, from a look-up that finds each name of the list, where the list has every value
pub and_then-named : {X : Type 0} (name_of : X → List ℕ) (xs : List X)
    → ((P : X → Type 0) → AllByRecursion P xs → (x : X) → P x)
    → (o : Option (List ℕ)) (name : List ℕ) (r : Option X) → o ≡ Some name
    → ((x : X) → (r ≡ Some x) ↔ (name_of x ≡ name))
    → r ≡ option_and_then (value_named name_of xs) o
and_then-named {X} name_of xs every o name r is found =
    let Other : X → Type 0 = λ x. name_of x ≢ name in
    rw is
    (named-is name_of xs name r found (λ others. none_named name_of name r found (every Other others)))

pub ok_or-named : {X : Type 0} (name_of : X → List ℕ) (xs : List X)
    → ((P : X → Type 0) → AllByRecursion P xs → (x : X) → P x)
    → (o : Option (List ℕ)) (name : List ℕ) (r : Option X) → Ok name ≡ ok_or o Field
    → ((x : X) → (r ≡ Some x) ↔ (name_of x ≡ name))
    → ok_or r Field ≡ ok_or (option_and_then (value_named name_of xs) o) Field
ok_or-named name_of xs every o name r is found =
    ap (λ q. ok_or q Field) (and_then-named name_of xs every o name r (ok_or-some o name is) found)

-- the value of a line
pub value_or_cause-json : (line : List ℕ) (d : Data) → IsUtf8 line → read line ≡ Some d
    → value_or_cause line ≡ Ok d
value_or_cause-json line d utf8 json = rw (is_utf8-from_IsUtf8 line utf8, json)

pub value_or_cause-none : (line : List ℕ) → (IsUtf8 line → read line ≡ None)
    → value_or_cause line ≡ Err NotJson
value_or_cause-none line none =
    elim (is_utf8 line) as
    (λ b. (b ≡ true → read line ≡ None) → ok_or (cond b (read line) None) NotJson ≡ Err NotJson) [
      | true ↦ λ h. rw (h refl)
      | false ↦ λ _. refl
    ] (λ is. none (IsUtf8-from_is_utf8 line is))
