-- An object that is written without spaces and escapes, read member after member, and looked up.
use Rattle.std.proofs.Common.{◌≡◌, ◌≢◌, ℕ, ◌+◌, ◌<◌, ◌≤◌, ◌&&◌, ◌⊎◌, inl, inr, Bool, true, false, cond, Some}
use Rattle.std.proofs.Common.{List, []}
use Rattle.std.proofs.Common.{◌∷◌, ◌++◌, length, take, get_or, set, replicate, arith, refl, sym, ap, ◌∙◌}
use Rattle.std.proofs.Common.{append_assoc, length-append, option_map, slice_get}
use Rattle.std.specs.List.{AllByRecursion}
use Rattle.std.specs.Str.{bytes_eq}
use Rattle.std.proofs.lemmas.Bool.{cases_eq}
use Rattle.std.proofs.lemmas.Grind.{get_or-set_at}
use Rattle.std.proofs.lemmas.List.{take_more, get_or-replicate, get_or_default}
use Rattle.std.proofs.lemmas.List.{get_or_append_left, get_or-set_other, length-set}
use Rattle.std.proofs.lemmas.Option.{slice_get_past, slice_get-get_or, slice_get_read}
use Rattle.std.proofs.Math.Seq.{get_or-append_seam}
use Rattle.std.proofs.lemmas.Slice.Eq.{bytes_eq-Decides}
use Rattle.json.specs.Print.{quoted}
use Rattle.serde_json.specs.Data.{Data, object, Members, no_members, member, put}
use Rattle.serde_json.specs.Find.{get, get_member}
use Rattle.serde_json.specs.Written.{compact_text, members_text, comma_if}
use Rattle.lines.specs.declared.members.Member.{Member}
use Rattle.lines.specs.declared.members.Member.TheVariants as variant
use Rattle.lines.specs.declared.written.Value.{Value}
use Rattle.lines.specs.InFront.{listed}
use Rattle.lines.specs.MemberNames.{all_members, member_code, member_name}
use Rattle.lines.specs.Members.{value_named}
use Rattle.lines.specs.Objects.{ArePlaced, rows, value_data, IsMemberInFront}
use Rattle.lines.specs.PlainData.{puts, IsPlain, MembersArePlain}
use Rattle.lines.specs.RecordLines.{value_of}
use Rattle.lines.specs.Texts.{Takes, with_member, with_members, object_of}
use Rattle.lines.specs.Texts.{is_plain_byte, is_plain_text}
use Rattle.lines.proofs.JsonLemmas.{value_of-members}
use Rattle.lines.proofs.MeaningLemmas.{get_member-put_either}
use Rattle.lines.proofs.ObjectLemmas.{followed, followed-none, followed-more}
use Rattle.lines.proofs.RecordLemmas.{both-first, both-second, bytes_eq-other}
use Rattle.lines.proofs.TakeLemmas.{Takes-both}

-- ---- names

pub member-named : (m : Member) → value_named member_name all_members (member_name m) ≡ Some m
unfolding value_named all_members
member-named variant.Actual = refl
member-named variant.After = refl
member-named variant.Callback = refl
member-named variant.Child = refl
member-named variant.Deps = refl
member-named variant.Endpoint = refl
member-named variant.Flags = refl
member-named variant.Format = refl
member-named variant.Index = refl
member-named variant.Kept = refl
member-named variant.Kind = refl
member-named variant.List = refl
member-named variant.Next = refl
member-named variant.NextTurn = refl
member-named variant.Parallel = refl
member-named variant.Path = refl
member-named variant.Prior = refl
member-named variant.PriorTurn = refl
member-named variant.Requested = refl
member-named variant.Root = refl
member-named variant.Seen = refl
member-named variant.Seq = refl
member-named variant.Status = refl
member-named variant.Task = refl
member-named variant.Thread = refl
member-named variant.Type = refl
member-named variant.Var = refl
member-named variant.Version = refl

member_name-other : (a b : Member) → a ≢ b → bytes_eq (member_name a) (member_name b) ≡ false
member_name-other a b other = bytes_eq-other (member_name a) (member_name b) (λ same.
    let is : Some a ≡ Some b =
    sym (member-named a) ∙ ap (value_named member_name all_members) same ∙ member-named b in
    other (let inside : a ≡ b = cc in inside))

bytes_eq-same : (bytes : List ℕ) → bytes_eq bytes bytes ≡ true
bytes_eq-same bytes = (bytes_eq-Decides bytes bytes).1 refl

-- ---- one member more

listed-more : (rs : List (List ℕ × Data)) (k : List ℕ) (d : Data)
    → listed (rs ++ (k, d) ∷ []) ≡ followed (listed rs) (member k d no_members)
listed-more [] k d = refl
listed-more (row ∷ rs) k d = ap (λ ms. member row.0 row.1 ms) (listed-more rs k d)

pub puts-listed : (rs : List (List ℕ × Data)) (found : Members)
    → puts (listed rs) found ≡ with_members rs found
unfolding with_member
puts-listed [] found = refl
puts-listed (row ∷ rs) found = puts-listed rs (put row.0 row.1 found)

plain-more : (ms : Members) (k : List ℕ) (d : Data) (n : ℕ) → MembersArePlain ms n → is_plain_text k ≡ true
    → IsPlain d n → MembersArePlain (followed ms (member k d no_members)) n
plain-more no_members k d n all name plain = (name, plain, tt)
plain-more (member l e ms) k d n all name plain = (all.0, all.1, plain-more ms k d n all.2 name plain)

-- what was taken are these members, whatever comes after them
pub record AreMembersTaken (rs : List (List ℕ × Data)) (later : Bool) (start rest : List ℕ) : Type 0 where
  pub done : List ℕ
  pub takes : Takes start done rest
  pub whole : (tail : Members)
      → done ++ members_text later tail ≡ 123 ∷ members_text false (followed (listed rs) tail)
  pub plain : MembersArePlain (listed rs) 2

pub AreMembersTaken-none : (line rest : List ℕ) → Takes line (123 ∷ []) rest
    → AreMembersTaken [] false line rest
AreMembersTaken-none line rest brace = record {
  done = 123 ∷ [];
  takes = brace;
  whole = λ tail. refl;
  plain = tt;
}

member-more : (comma name text done tail : List ℕ)
    → (done ++ (comma ++ (name ++ 58 ∷ text))) ++ tail ≡ done ++ (comma ++ (name ++ 58 ∷ (text ++ tail)))
member-more comma name text done tail =
    append_assoc done (comma ++ (name ++ 58 ∷ text)) tail
    ∙ ap (λ bytes. done ++ bytes) (append_assoc comma (name ++ 58 ∷ text) tail)
    ∙ ap (λ bytes. done ++ (comma ++ bytes)) (append_assoc name (58 ∷ text) tail)

pub AreMembersTaken-more : (rs : List (List ℕ × Data)) (later : Bool) (start rest front behind : List ℕ)
    (m : Member) (v : Value)
    → AreMembersTaken rs later start rest → Takes rest (comma_if later) front
    → IsMemberInFront front m v behind
    → AreMembersTaken (rs ++ (member_name m, value_data v) ∷ []) true start behind
AreMembersTaken-more rs later start rest front behind m v met comma one =
    let k = member_name m in
    let d = value_data v in
    let text = quoted k ++ 58 ∷ compact_text d in
    let more = listed-more rs k d in
    record {
      done = met.done ++ (comma_if later ++ text);
      takes =
          Takes-both start rest behind met.done (comma_if later ++ text) met.takes
          (Takes-both rest front behind (comma_if later) text comma one.takes);
      whole = λ tail.
          member-more (comma_if later) (quoted k) (compact_text d) met.done (members_text true tail)
          ∙ met.whole (member k d tail)
          ∙ ap (λ all. 123 ∷ members_text false all)
          (sym (followed-more (listed rs) k d tail) ∙ ap (λ ms. followed ms tail) (sym more));
      plain = rw more (plain-more (listed rs) k d 2 met.plain one.plain_name one.plain);
    }

-- the line ends
pub value_of-taken : (rs : List (List ℕ × Data)) (later : Bool) (line rest : List ℕ)
    → AreMembersTaken rs later line rest → Takes rest (125 ∷ []) [] → value_of line ≡ Some (object_of rs)
value_of-taken rs later line rest met last =
    let text : line ≡ compact_text (object (listed rs)) =
    met.takes.is ∙ ap (λ bytes. met.done ++ bytes) last.is ∙ met.whole no_members
    ∙ ap (λ ms. 123 ∷ members_text false ms) (followed-none (listed rs)) in
    ap value_of text ∙ value_of-members (listed rs) 2 met.plain (omega arith)
    ∙ ap (λ ms. Some (object ms)) (puts-listed rs no_members)

pub rows-more : (members : List (Member × Value)) (m : Member × Value)
    → rows (members ++ m ∷ []) ≡ rows members ++ (member_name m.0, value_data m.1) ∷ []
rows-more [] m = refl
rows-more (n ∷ members) m = ap (λ rs. (member_name n.0, value_data n.1) ∷ rs) (rows-more members m)

-- ---- the last member of a name

with_members-more : (rs : List (List ℕ × Data)) (row : List ℕ × Data) (ms : Members)
    → with_members (rs ++ row ∷ []) ms ≡ put row.0 row.1 (with_members rs ms)
unfolding with_member
with_members-more [] row ms = refl
with_members-more (r ∷ rs) row ms = with_members-more rs row (put r.0 r.1 ms)

-- what the members say, with one more
get-more : (members : List (Member × Value)) (m : Member) (v : Value) (name : List ℕ)
    → get name (object_of (rows (members ++ (m, v) ∷ [])))
    ≡ cond (bytes_eq (member_name m) name) (Some (value_data v)) (get name (object_of (rows members)))
get-more members m v name =
    ap (λ rs. get name (object_of rs)) (rows-more members (m, v))
    ∙ ap (get_member name) (with_members-more (rows members) (member_name m, value_data v) no_members)
    ∙ get_member-put_either name (member_name m) (value_data v) (with_members (rows members) no_members)

member_code-low : (m : Member) → member_code m < 28
member_code-low variant.Actual = omega arith
member_code-low variant.After = omega arith
member_code-low variant.Callback = omega arith
member_code-low variant.Child = omega arith
member_code-low variant.Deps = omega arith
member_code-low variant.Endpoint = omega arith
member_code-low variant.Flags = omega arith
member_code-low variant.Format = omega arith
member_code-low variant.Index = omega arith
member_code-low variant.Kept = omega arith
member_code-low variant.Kind = omega arith
member_code-low variant.List = omega arith
member_code-low variant.Next = omega arith
member_code-low variant.NextTurn = omega arith
member_code-low variant.Parallel = omega arith
member_code-low variant.Path = omega arith
member_code-low variant.Prior = omega arith
member_code-low variant.PriorTurn = omega arith
member_code-low variant.Requested = omega arith
member_code-low variant.Root = omega arith
member_code-low variant.Seen = omega arith
member_code-low variant.Seq = omega arith
member_code-low variant.Status = omega arith
member_code-low variant.Task = omega arith
member_code-low variant.Thread = omega arith
member_code-low variant.Type = omega arith
member_code-low variant.Var = omega arith
member_code-low variant.Version = omega arith

member_at : (m : Member) → get_or all_members (member_code m) m ≡ m
unfolding all_members
member_at variant.Actual = refl
member_at variant.After = refl
member_at variant.Callback = refl
member_at variant.Child = refl
member_at variant.Deps = refl
member_at variant.Endpoint = refl
member_at variant.Flags = refl
member_at variant.Format = refl
member_at variant.Index = refl
member_at variant.Kept = refl
member_at variant.Kind = refl
member_at variant.List = refl
member_at variant.Next = refl
member_at variant.NextTurn = refl
member_at variant.Parallel = refl
member_at variant.Path = refl
member_at variant.Prior = refl
member_at variant.PriorTurn = refl
member_at variant.Requested = refl
member_at variant.Root = refl
member_at variant.Seen = refl
member_at variant.Seq = refl
member_at variant.Status = refl
member_at variant.Task = refl
member_at variant.Thread = refl
member_at variant.Type = refl
member_at variant.Var = refl
member_at variant.Version = refl

member_code-same : (a b : Member) → member_code a ≡ member_code b → a ≡ b
unfolding all_members
member_code-same a b same =
    sym (member_at a) ∙ ap (λ i. get_or all_members i a) same
    ∙ get_or_default all_members (member_code b) a b (member_code-low b) ∙ member_at b

-- where the members so far are; a great place is none
pub record ArePlacesKept (members : List (Member × Value)) (places : List ℕ) : Type 0 where
  pub placed : ArePlaced members places
  pub all : length places ≡ 28
  pub apart : (m : Member)
      → (get_or places (member_code m) 0 < length members) ⊎ (255 ≤ get_or places (member_code m) 0)

abbrev pub no_places : List ℕ
no_places = replicate 28 255

no_place : (m : Member) → get_or no_places (member_code m) 0 ≡ 255
no_place m = get_or-replicate 28 (member_code m) 255 0 (member_code-low m)

pub ArePlacesKept-none : ArePlacesKept [] no_places
ArePlacesKept-none = record {
  placed = λ m.
      sym (ap (option_map (λ (row : Member × Value). value_data row.1))
      (slice_get_past [] (get_or no_places (member_code m) 0) (omega arith)));
  all = refl;
  apart = λ m. inr (omega (arith, no_place m));
}

-- no place but that of the new member leads to it
slice_get-before : (members : List (Member × Value)) (row : Member × Value) (place : ℕ)
    → length members < 255 → (place < length members) ⊎ (255 ≤ place)
    → slice_get (members ++ row ∷ []) place ≡ slice_get members place
slice_get-before members row place few = elim [
  | inl within ↦
      slice_get-get_or (members ++ row ∷ []) place row
      (omega (arith, within, length-append members (row ∷ [])))
      ∙ ap (λ r. Some r) (get_or_append_left members (row ∷ []) row place within)
      ∙ sym (slice_get-get_or members place row within)
  | inr past ↦
      slice_get_past (members ++ row ∷ []) place (omega (arith, past, few, length-append members (row ∷ [])))
      ∙ sym (slice_get_past members place (omega (arith, past, few)))
]

pub ArePlacesKept-more : (members : List (Member × Value)) (places : List ℕ) (m : Member) (v : Value)
    → length members < 255 → ArePlacesKept members places
    → ArePlacesKept (members ++ (m, v) ∷ []) (set places (member_code m) (length members))
ArePlacesKept-more members places m v few now =
    let more = members ++ (m, v) ∷ [] in
    let new = set places (member_code m) (length members) in
    let longer : length more ≡ length members + 1 = length-append members ((m, v) ∷ []) in
    let within : member_code m < length places = omega (arith, member_code-low m, now.all) in
    let here : (n : Member) → member_code n ≡ member_code m → get_or new (member_code n) 0 ≡ length members =
    λ n same. get_or-set_at places (member_code m) (member_code n) (length members) 0 same within in
    let there : (n : Member) → member_code n ≢ member_code m
    → get_or new (member_code n) 0 ≡ get_or places (member_code n) 0 =
    λ n other. get_or-set_other places (member_code m) (member_code n) (length members) 0 other in
    record {
      placed = λ n. elim (cases_eq (member_code n) (member_code m)) [
        | inl same ↦
            get-more members m v (member_name n)
            ∙ ap (λ b. cond b (Some (value_data v)) (get (member_name n) (object_of (rows members))))
            (ap (λ k. bytes_eq (member_name k) (member_name n)) (sym (member_code-same n m same))
            ∙ bytes_eq-same (member_name n))
            ∙ sym (ap (option_map (λ (row : Member × Value). value_data row.1))
            (ap (slice_get more) (here n same)
            ∙ slice_get_read more (length more) (length members) (m, v) refl (omega (arith, longer))
            (sym (get_or-append_seam members (m, v) [] (m, v)))))
        | inr other ↦
            get-more members m v (member_name n)
            ∙ ap (λ b. cond b (Some (value_data v)) (get (member_name n) (object_of (rows members))))
            (member_name-other m n (λ same. other (ap member_code (sym same))))
            ∙ now.placed n
            ∙ ap (option_map (λ (row : Member × Value). value_data row.1))
            (sym (ap (slice_get more) (there n other)
            ∙ slice_get-before members (m, v) (get_or places (member_code n) 0) few (now.apart n)))
      ];
      all = length-set places (member_code m) (length members) ∙ now.all;
      apart = λ n. elim (cases_eq (member_code n) (member_code m)) [
        | inl same ↦ inl (omega (arith, here n same, longer))
        | inr other ↦ elim (now.apart n) [
          | inl low ↦ inl (omega (arith, low, there n other, longer))
          | inr past ↦ inr (omega (arith, past, there n other))
        ]
      ];
    }

-- ---- texts

is_plain_text-more : (bytes : List ℕ) (b : ℕ) → is_plain_text bytes ≡ true → is_plain_byte b ≡ true
    → is_plain_text (bytes ++ b ∷ []) ≡ true
is_plain_text-more [] b all one = ap (λ p. p && true) one
is_plain_text-more (c ∷ bytes) b all one =
    ap (λ p. p && is_plain_text (bytes ++ b ∷ [])) (both-first (is_plain_byte c) (is_plain_text bytes) all)
    ∙ is_plain_text-more bytes b (both-second (is_plain_byte c) (is_plain_text bytes) all) one

-- one byte more that stands for itself
pub plain-take : (bytes : List ℕ) (len d : ℕ) → len < length bytes → is_plain_text (take len bytes) ≡ true
    → is_plain_byte (get_or bytes len d) ≡ true → is_plain_text (take (len + 1) bytes) ≡ true
plain-take bytes len d within all one =
    ap is_plain_text (take_more bytes len d within)
    ∙ is_plain_text-more (take len bytes) (get_or bytes len d) all one

-- ---- lists

pub AllByRecursion-more : {X : Type 0} (P : X → Type 0) (xs : List X) (x : X) → AllByRecursion P xs → P x
    → AllByRecursion P (xs ++ x ∷ [])
AllByRecursion-more P [] x all one = (one, tt)
AllByRecursion-more P (y ∷ xs) x all one = (all.0, AllByRecursion-more P xs x all.1 one)
