-- The data that JSON stands for, as it is found by its tokens.
use Rattle.std.specs.Prelude.{ℕ, ◌+◌, pos, List, [], ◌∷◌, length, ◌≤◌, Option, Some, None, IsSome}
use Rattle.std.specs.List.{AllByRecursion}
use Rattle.serde_json.specs.Data.{Num, negative, Data, null, boolean, number, string, array, object, Items}
use Rattle.serde_json.specs.Data.{no_items, item, Members, no_members, put}
use Rattle.serde_json.specs.Read.{number_of, max_depth}
use Rattle.json.specs.Json as json
use Rattle.json.specs.Token as token

-- a number; one beyond a double's range, which no line that is read has, stands for a number that is no id
abbrev pub number_or_odd : Option Num → Num
number_or_odd None = negative (pos 0)
number_or_odd (Some n) = n

-- the data of JSON whose numbers are within a double's range
abbrev mutual
  pub meant : json.Json → Data
  meant json.null = null
  meant (json.boolean b) = boolean b
  meant (json.number s) = number (number_or_odd (number_of s))
  meant (json.string s) = string s
  meant (json.array js) = array (items_meant js)
  meant (json.object ms) = object (members_meant ms no_members)

  pub items_meant : json.Items → Items
  items_meant json.no_items = no_items
  items_meant (json.item j js) = item (meant j) (items_meant js)

  pub members_meant : json.Members → Members → Members
  members_meant json.no_members found = found
  members_meant (json.member k j ms) found = members_meant ms (put k (meant j) found)

abbrev pub meant_read : Option (json.Json × List token.Token) → Data
meant_read None = null
meant_read (Some p) = meant p.0

-- the data of the JSON that these tokens begin with
unfoldable pub meant_at : List token.Token → Data
meant_at ts = meant_read (json.value (length ts) ts)

-- a number's text, where it is there, is one within a double's range
abbrev pub IsRanged : token.Token → Type 0
IsRanged token.begin_object = Unit {0}
IsRanged token.end_object = Unit {0}
IsRanged token.begin_array = Unit {0}
IsRanged token.end_array = Unit {0}
IsRanged (token.key s) = Unit {0}
IsRanged (token.string s) = Unit {0}
IsRanged (token.number s) = IsSome (number_of s)
IsRanged (token.boolean b) = Unit {0}
IsRanged token.null = Unit {0}
IsRanged token.bad = Unit {0}

abbrev pub AreRanged : List token.Token → Type 0
AreRanged ts = AllByRecursion IsRanged ts

-- how many arrays and objects the tokens open
abbrev pub opening : token.Token → ℕ
opening token.begin_object = 1
opening token.end_object = 0
opening token.begin_array = 1
opening token.end_array = 0
opening (token.key s) = 0
opening (token.string s) = 0
opening (token.number s) = 0
opening (token.boolean b) = 0
opening token.null = 0
opening token.bad = 0

abbrev pub opened : List token.Token → ℕ
opened [] = 0
opened (t ∷ ts) = opening t + opened ts

-- tokens of which few open an array or an object, and whose numbers are within a double's range
abbrev pub ArePlainTokens : List token.Token → Type 0
ArePlainTokens ts = AreRanged ts × (opened ts ≤ max_depth)
