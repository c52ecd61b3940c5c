-- What the object of a line says, in each of its two forms: a place in a tape of the line's tokens, or the
-- members of a line that is written without spaces and escapes.
use Rattle.std.specs.Prelude.{ℕ, ◌≡◌, true, List, ◌∷◌, ◌++◌, map, option_map, slice_get, slice_index}
use Rattle.json.specs.Find.{HasValue}
use Rattle.json.specs.Print.{quoted}
use Rattle.serde_json.specs.Data.{Data, null, boolean, string, array}
use Rattle.serde_json.specs.Find.{get}
use Rattle.serde_json.specs.View.{items_of}
use Rattle.serde_json.specs.Written.{compact_text}
use Rattle.lines.specs.declared.members.Member.{Member}
use Rattle.lines.specs.declared.written.Item.{Item}
use Rattle.lines.specs.declared.written.Item.TheVariants.{Null, Truth, Number, Text, Dependence}
use Rattle.lines.specs.declared.written.Value.{Value}
use Rattle.lines.specs.declared.written.Value.TheVariants.{Single, Listed}
use Rattle.lines.specs.declared.objects.Object.{Object}
use Rattle.lines.specs.declared.objects.Object.TheVariants.{Tape, Written}
use Rattle.lines.specs.declared.objects.Found.{Found}
use Rattle.lines.specs.declared.objects.Found.TheVariants as found
use Rattle.lines.specs.Meanings.{meant_at}
use Rattle.lines.specs.MemberNames.{member_code, member_name}
use Rattle.lines.specs.PlainData.{IsPlain}
use Rattle.lines.specs.Texts.{Takes, is_plain_text, object_of, whole_number, dep_data}

abbrev pub item_data : Item → Data
item_data Null = null
item_data (Truth b) = boolean b
item_data (Number n) = whole_number n
item_data (Text s) = string s.now
item_data (Dependence d) = dep_data d

abbrev pub value_data : Value → Data
value_data (Single item) = item_data item
value_data (Listed items) = array (items_of (map item_data items.items))

-- the name and the value of each member, in the order of the line
abbrev pub rows : List (Member × Value) → List (List ℕ × Data)
rows members = map (λ m. (member_name m.0, value_data m.1)) members

-- by the number of a member where the last one of that name is
abbrev pub ArePlaced : List (Member × Value) → List ℕ → Type 0
ArePlaced members places = (m : Member)
    → get (member_name m) (object_of (rows members))
    ≡ option_map (λ row. value_data row.1) (slice_get members (slice_index places (member_code m)))

abbrev pub object_data : Object → Data
object_data (Tape tokens) = meant_at tokens
object_data (Written members) = object_of (rows members.members.items)

-- there is a value at the place, or members are found where they are
abbrev pub IsReadable : Object → Type 0
IsReadable (Tape tokens) = HasValue tokens
IsReadable (Written members) = ArePlaced members.members.items members.places

abbrev pub found_data : Found → Data
found_data (found.Tape tokens) = meant_at tokens
found_data (found.Written value) = value_data value.now

abbrev pub IsFoundReadable : Found → Type 0
IsFoundReadable (found.Tape tokens) = HasValue tokens
IsFoundReadable (found.Written value) = Unit {0}

-- an item in front, and then what follows it
pub record IsItemInFront (rest : List ℕ) (item : Item) (behind : List ℕ) : Type 0 where
  pub takes : Takes rest (compact_text (item_data item)) behind
  pub plain : IsPlain (item_data item) 1

-- a value in front, and then what follows it
pub record IsValueInFront (rest : List ℕ) (value : Value) (behind : List ℕ) : Type 0 where
  pub takes : Takes rest (compact_text (value_data value)) behind
  pub plain : IsPlain (value_data value) 2

-- a member in front, and then what follows it
pub record IsMemberInFront (rest : List ℕ) (member : Member) (value : Value) (behind : List ℕ) : Type 0 where
  pub plain_name : is_plain_text (member_name member) ≡ true
  pub takes : Takes rest (quoted (member_name member) ++ 58 ∷ compact_text (value_data value)) behind
  pub plain : IsPlain (value_data value) 2
