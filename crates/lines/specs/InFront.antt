-- What stands in front of a text: members, some of which the format does not know, and the line of a record.
use Rattle.std.specs.Prelude.{ℕ, ◌≡◌, Bool, true, false, List, [], ◌∷◌, ◌++◌, is_some, if◌then◌else◌}
use Rattle.std.specs.List.{AllByRecursion}
use Rattle.json.specs.Print.{quoted}
use Rattle.serde_json.specs.Data.{Data, Members, member, no_members, object, string}
use Rattle.serde_json.specs.Written.{compact_text}
use Rattle.ompt_events.specs.declared.names.Status.{Status}
use Rattle.ompt_events.specs.declared.records.Record.{Record}
use Rattle.ompt_events.specs.Names.{status_name}
use Rattle.lines.specs.MemberNames as name
use Rattle.lines.specs.MemberNames.{member_name, all_members}
use Rattle.lines.specs.Members.{value_named}
use Rattle.lines.specs.PlainData.{IsPlain}
use Rattle.lines.specs.Texts.{Takes, data_of, is_plain_text, whole_number}

-- some line has a member of this name
abbrev pub is_known : List ℕ → Bool
is_known name = is_some (value_named member_name all_members name)

-- those of the members that are known
abbrev pub known_members : List (List ℕ × Data) → List (List ℕ × Data)
known_members [] = []
known_members (row ∷ rows) = if is_known row.0 then row ∷ known_members rows else known_members rows

-- the name of a member that follows another one
abbrev pub later_name : List ℕ → List ℕ
later_name name = 44 ∷ quoted name ++ 58 ∷ []

-- members, each of which follows another one
abbrev pub later_members : List (List ℕ × Data) → List ℕ
later_members [] = []
later_members (row ∷ rows) = later_name row.0 ++ (compact_text row.1 ++ later_members rows)

-- the members in this order
abbrev pub listed : List (List ℕ × Data) → Members
listed [] = no_members
listed (row ∷ rows) = member row.0 row.1 (listed rows)

-- the name and the value of a member that is not known are plain
abbrev pub IsPlainIfOther : List ℕ × Data → Type 0
IsPlainIfOther row = is_known row.0 ≡ false → (is_plain_text row.0 ≡ true) × IsPlain row.1 2

-- these are the known ones of the members in front, and then this follows
pub record AreMembersInFront (rest : List ℕ) (known : List (List ℕ × Data)) (behind : List ℕ) : Type 0 where
  pub all : List (List ℕ × Data)
  pub takes : Takes rest (later_members all) behind
  pub are : known_members all ≡ known
  pub plain : AllByRecursion IsPlainIfOther all

-- the text follows members that are not known, and then this follows
pub record TakesPast (rest text behind : List ℕ) : Type 0 where
  pub between : List ℕ
  pub past : AreMembersInFront rest [] between
  pub takes : Takes between text behind

-- one text, and then another past members that are not known, and then this follows
pub record TakesApart (rest first second behind : List ℕ) : Type 0 where
  pub between : List ℕ
  pub takes : Takes rest first between
  pub past : TakesPast between second behind

-- a name in front, which is not known, and then this follows
pub record IsOtherNameInFront (rest behind : List ℕ) : Type 0 where
  pub name : List ℕ
  pub other : is_known name ≡ false
  pub plain : is_plain_text name ≡ true
  pub takes : Takes rest (later_name name) behind

-- a plain value in front, and then this follows
pub record IsDataInFront (rest behind : List ℕ) : Type 0 where
  pub value : Data
  pub plain : IsPlain value 2
  pub takes : Takes rest (compact_text value) behind

-- the last members of a line that names a task
abbrev pub task_tail_members : ℕ → ℕ → ℕ → ℕ → List (List ℕ × Data)
task_tail_members seen seq task thread = (name.seen, whole_number seen) ∷ (name.seq, whole_number seq)
    ∷ (name.task, whole_number task) ∷ (name.thread, whole_number thread) ∷ []

-- the last members of a line that has a status
abbrev pub status_tail_members : ℕ → ℕ → Status → ℕ → List (List ℕ × Data)
status_tail_members seen seq status thread = (name.seen, whole_number seen) ∷ (name.seq, whole_number seq)
    ∷ (name.status, string (status_name status)) ∷ (name.thread, whole_number thread) ∷ []

-- the members of an object, behind its brace: the known ones say the record, and then this follows
pub record IsRecordInside (inside : List ℕ) (r : Record) (behind : List ℕ) : Type 0 where
  pub known : List (List ℕ × Data)
  pub says : object (listed known) ≡ data_of r
  pub members : AreMembersInFront (44 ∷ inside) known (125 ∷ behind)

-- an object in front whose known members say the record, and then this follows
pub record IsRecordInFront (rest : List ℕ) (r : Record) (behind : List ℕ) : Type 0 where
  pub inside : List ℕ
  pub opens : Takes rest (123 ∷ []) inside
  pub is : IsRecordInside inside r behind
