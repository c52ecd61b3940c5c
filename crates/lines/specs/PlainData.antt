-- Data whose text reads back as the same data: whole numbers, plain texts, lists and objects of them.
use Rattle.std.specs.Prelude.{◌≡◌, ℕ, zero, suc, ◌^◌, ◌<◌, true, ⊤}
use Rattle.serde_json.specs.Data.{Num, unsigned, negative, float, Data, null, boolean, number, string, array}
use Rattle.serde_json.specs.Data.{object, Items, no_items, item, Members, no_members, member, put}
use Rattle.lines.specs.Texts.{is_plain_text}

-- the members, put one after another among those that were found
abbrev pub puts : Members → Members → Members
puts no_members found = found
puts (member k d ms) found = puts ms (put k d found)

-- a whole number from 0 to 2^64 - 1
abbrev pub IsWhole : Num → Type 0
IsWhole (unsigned n) = n < 2 ^ 64
IsWhole (negative z) = ⊥
IsWhole (float x) = ⊥

-- plain JSON that nests at most n deep, the members of its objects in order
abbrev mutual
  pub IsPlain : Data → ℕ → Type 0
  IsPlain null n = ⊤
  IsPlain (boolean b) n = ⊤
  IsPlain (number m) n = IsWhole m
  IsPlain (string s) n = is_plain_text s ≡ true
  IsPlain (array ds) zero = ⊥
  IsPlain (array ds) (suc n) = ArePlain ds n
  IsPlain (object ms) zero = ⊥
  IsPlain (object ms) (suc n) = (puts ms no_members ≡ ms) × MembersArePlain ms n

  pub ArePlain : Items → ℕ → Type 0
  ArePlain no_items n = ⊤
  ArePlain (item d ds) n = IsPlain d n × ArePlain ds n

  pub MembersArePlain : Members → ℕ → Type 0
  MembersArePlain no_members n = ⊤
  MembersArePlain (member k d ms) n = (is_plain_text k ≡ true) × IsPlain d n × MembersArePlain ms n
