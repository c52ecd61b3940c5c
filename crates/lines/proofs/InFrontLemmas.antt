-- Members in front of a text, read one after another, some of which the format does not know.
use Rattle.std.proofs.Common.{◌≡◌, ◌≢◌, ℕ, Bool, true, false, cond, List, [], ◌∷◌, ◌++◌, refl, sym, ap, ◌∙◌}
use Rattle.std.proofs.Common.{append_assoc, append-nil}
use Rattle.std.specs.Prelude.{is_some}
use Rattle.std.specs.List.{AllByRecursion}
use Rattle.json.specs.Print.{quoted}
use Rattle.serde_json.specs.Data.{Data, object}
use Rattle.serde_json.specs.Written.{compact_text}
use Rattle.lines.specs.declared.members.Member.{Member}
use Rattle.ompt_events.specs.declared.records.Record.{Record}
use Rattle.lines.specs.InFront.{AreMembersInFront, IsDataInFront, IsOtherNameInFront, IsPlainIfOther}
use Rattle.lines.specs.InFront.{IsRecordInside, TakesApart, TakesPast, is_known, known_members}
use Rattle.lines.specs.InFront.{later_members, later_name, listed}
use Rattle.lines.specs.MemberNames.{all_members, member_name}
use Rattle.lines.specs.Members.{value_named}
use Rattle.lines.specs.Texts.{Takes, data_of}
use Rattle.lines.proofs.RecordLemmas.{bytes_eq-other}
use Rattle.lines.proofs.TakeLemmas.{Takes-both, Takes-same}
use Rattle.lines.proofs.WrittenLemmas.{member-named}

-- ---- members after members

later_members-append : (a b : List (List ℕ × Data))
    → later_members (a ++ b) ≡ later_members a ++ later_members b
later_members-append [] b = refl
later_members-append (row ∷ a) b =
    ap (λ text. later_name row.0 ++ (compact_text row.1 ++ text)) (later_members-append a b)
    ∙ sym
    (append_assoc (later_name row.0) (compact_text row.1 ++ later_members a) (later_members b)
    ∙ ap (λ text. later_name row.0 ++ text)
    (append_assoc (compact_text row.1) (later_members a) (later_members b)))

known_members-append : (a b : List (List ℕ × Data))
    → known_members (a ++ b) ≡ known_members a ++ known_members b
known_members-append [] b = refl
known_members-append (row ∷ a) b = by_name (is_known row.0) (known_members-append a b)
  where
    by_name : (is : Bool) → known_members (a ++ b) ≡ known_members a ++ known_members b
        → cond is (row ∷ known_members (a ++ b)) (known_members (a ++ b))
        ≡ cond is (row ∷ known_members a) (known_members a) ++ known_members b
    by_name true same = ap (λ rows. row ∷ rows) same
    by_name false same = same

all-append : (a b : List (List ℕ × Data)) → AllByRecursion IsPlainIfOther a
    → AllByRecursion IsPlainIfOther b → AllByRecursion IsPlainIfOther (a ++ b)
all-append [] b first next = next
all-append (row ∷ a) b first next = (first.0, all-append a b first.1 next)

pub AreMembersInFront-both : (rest mid behind : List ℕ) (a b : List (List ℕ × Data))
    → AreMembersInFront rest a mid → AreMembersInFront mid b behind → AreMembersInFront rest (a ++ b) behind
AreMembersInFront-both rest mid behind a b first next = record {
  all = first.all ++ next.all;
  takes =
      Takes-same rest behind (later_members first.all ++ later_members next.all) _
      (later_members-append first.all next.all)
      (Takes-both rest mid behind (later_members first.all) (later_members next.all) first.takes next.takes);
  are =
      known_members-append first.all next.all
      ∙ ap (λ rows. rows ++ known_members next.all) first.are
      ∙ ap (λ rows. a ++ rows) next.are;
  plain = all-append first.all next.all first.plain next.plain;
}

pub AreMembersInFront-none : (rest : List ℕ) → AreMembersInFront rest [] rest
AreMembersInFront-none rest = record { all = []; takes = record { is = refl }; are = refl; plain = tt }

-- ---- a member that is not known

pub AreMembersInFront-other : (rest mid behind : List ℕ) → IsOtherNameInFront rest mid
    → IsDataInFront mid behind → AreMembersInFront rest [] behind
AreMembersInFront-other rest mid behind name value =
    let row : List ℕ × Data = (name.name, value.value) in
    record {
      all = row ∷ [];
      takes =
          Takes-same rest behind (later_name name.name ++ compact_text value.value) _
          (ap (λ text. later_name name.name ++ text) (append-nil (compact_text value.value)))
          (Takes-both rest mid behind (later_name name.name) (compact_text value.value) name.takes
          value.takes);
      are = ap (λ is. cond is (row ∷ []) []) name.other;
      plain = ((λ _. (name.plain, value.plain)), tt);
    }

pub TakesPast-none : (rest text behind : List ℕ) → Takes rest text behind → TakesPast rest text behind
TakesPast-none rest text behind takes = record {
  between = rest;
  past = AreMembersInFront-none rest;
  takes = takes;
}

pub TakesPast-some : (rest between text behind : List ℕ) → AreMembersInFront rest [] between
    → Takes between text behind → TakesPast rest text behind
TakesPast-some rest between text behind past takes = record { between = between; past = past; takes = takes }

-- ---- a member that is known

pub is_known-member : (m : Member) → is_known (member_name m) ≡ true
is_known-member m = ap is_some (member-named m)

-- one member, whose name is part of a text
AreMembersInFront-one : (rest mid behind : List ℕ) (m : Member) (d : Data)
    → Takes rest (later_name (member_name m)) mid → Takes mid (compact_text d) behind
    → AreMembersInFront rest ((member_name m, d) ∷ []) behind
AreMembersInFront-one rest mid behind m d name value =
    let row : List ℕ × Data = (member_name m, d) in
    record {
      all = row ∷ [];
      takes =
          Takes-same rest behind (later_name (member_name m) ++ compact_text d) _
          (ap (λ text. later_name (member_name m) ++ text) (append-nil (compact_text d)))
          (Takes-both rest mid behind (later_name (member_name m)) (compact_text d) name value);
      are = ap (λ is. cond is (row ∷ []) []) (is_known-member m);
      plain = ((λ other. absurd (let no : true ≡ false = sym (is_known-member m) ∙ other in cc)), tt);
    }

member-apart : (name value behind : List ℕ)
    → ◌≡◌ {A = List ℕ} (44 ∷ ((name ++ 58 ∷ value) ++ behind))
    (44 ∷ ((name ++ 58 ∷ []) ++ (value ++ behind)))
member-apart name value behind =
    ap (λ text. 44 ∷ text)
    (append_assoc name (58 ∷ value) behind ∙ sym (append_assoc name (58 ∷ []) (value ++ behind)))

-- the member, and then those
pub then : (m : Member) (d : Data) (rest mid behind end : List ℕ) (rows : List (List ℕ × Data))
    → TakesPast rest (later_name (member_name m)) mid → Takes mid (compact_text d) behind
    → AreMembersInFront behind rows end → AreMembersInFront rest ((member_name m, d) ∷ rows) end
then m d rest mid behind end rows name value more =
    AreMembersInFront-both rest name.between end [] _ name.past
    (AreMembersInFront-both name.between behind end ((member_name m, d) ∷ []) rows
    (AreMembersInFront-one name.between mid behind m d name.takes value) more)

-- a whole member, and then those
pub then-whole : (m : Member) (d : Data) (rest behind end : List ℕ) (rows : List (List ℕ × Data))
    → TakesPast rest (44 ∷ (quoted (member_name m) ++ 58 ∷ compact_text d)) behind
    → AreMembersInFront behind rows end → AreMembersInFront rest ((member_name m, d) ∷ rows) end
then-whole m d rest behind end rows whole more =
    let name = quoted (member_name m) in
    let value = compact_text d in
    then m d rest (value ++ behind) behind end rows (record {
      between = whole.between;
      past = whole.past;
      takes = record { is = whole.takes.is ∙ member-apart name value behind };
    })
    (record { is = refl }) more

-- the end of the line
pub then-end : (rest behind : List ℕ) → TakesPast rest (125 ∷ []) behind
    → AreMembersInFront rest [] (125 ∷ behind)
then-end rest behind end = record {
  all = end.past.all;
  takes = Takes-same rest (125 ∷ behind) _ _ refl (record {
    is = end.past.takes.is ∙ ap (λ text. later_members end.past.all ++ text) end.takes.is;
  });
  are = end.past.are;
  plain = end.past.plain;
}

-- ---- a line, behind its brace

-- the first text has the name of the first member
pub line-from-one : (m : Member) (d : Data) (inside mid next behind : List ℕ) (rows : List (List ℕ × Data))
    (r : Record)
    → Takes inside (quoted (member_name m) ++ 58 ∷ []) mid → Takes mid (compact_text d) next
    → AreMembersInFront next rows (125 ∷ behind) → object (listed ((member_name m, d) ∷ rows)) ≡ data_of r
    → IsRecordInside inside r behind
line-from-one m d inside mid next behind rows r name value more says = record {
  known = (member_name m, d) ∷ rows;
  says = says;
  members =
      then m d (44 ∷ inside) mid next (125 ∷ behind) rows
      (TakesPast-none (44 ∷ inside) (later_name (member_name m)) mid
      (record { is = ap (λ text. 44 ∷ text) name.is }))
      value more;
}

-- the first text has the whole first member, and the second one the name of the second
pub line-from-two : (l m : Member) (e d : Data) (inside mid next behind : List ℕ)
    (rows : List (List ℕ × Data)) (r : Record)
    → TakesApart inside (quoted (member_name l) ++ 58 ∷ compact_text e) (later_name (member_name m)) mid
    → Takes mid (compact_text d) next → AreMembersInFront next rows (125 ∷ behind)
    → object (listed ((member_name l, e) ∷ (member_name m, d) ∷ rows)) ≡ data_of r
    → IsRecordInside inside r behind
line-from-two l m e d inside mid next behind rows r names value more says =
    let text = quoted (member_name l) ++ 58 ∷ compact_text e in
    record {
      known = (member_name l, e) ∷ (member_name m, d) ∷ rows;
      says = says;
      members =
          then-whole l e (44 ∷ inside) names.between (125 ∷ behind) ((member_name m, d) ∷ rows)
          (TakesPast-none (44 ∷ inside) (44 ∷ text) names.between
          (record { is = ap (λ bytes. 44 ∷ bytes) names.takes.is }))
          (then m d names.between mid next (125 ∷ behind) rows names.past value more);
    }

-- members that are not known, and then a line
pub line-from-others : (inside mid : List ℕ) (r : Record) (behind : List ℕ)
    → AreMembersInFront (44 ∷ inside) [] (44 ∷ mid) → IsRecordInside mid r behind
    → IsRecordInside inside r behind
line-from-others inside mid r behind others front = record {
  known = front.known;
  says = front.says;
  members =
      AreMembersInFront-both (44 ∷ inside) (44 ∷ mid) (125 ∷ behind) [] front.known others front.members;
}

-- ---- a name that is not known

value_named-none : (members : List Member) (name : List ℕ) → ((m : Member) → name ≢ member_name m)
    → is_some (value_named member_name members name) ≡ false
unfolding value_named
value_named-none [] name other = refl
value_named-none (m ∷ members) name other =
    rw (bytes_eq-other (member_name m) name (λ same. other m (sym same)))
    (value_named-none members name other)

pub is_known-other : (name : List ℕ) → ((m : Member) → name ≢ member_name m) → is_known name ≡ false
is_known-other name other = value_named-none all_members name other
