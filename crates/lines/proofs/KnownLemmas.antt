-- A line says what its known members say.
use Rattle.std.proofs.Common.{◌≡◌, ◌≢◌, ℕ, Bool, true, false, cond, Ok, Some, List, [], ◌∷◌, ◌++◌, length}
use Rattle.std.proofs.Common.{take, ◌-◌, ◌≤◌, arith, refl, sym, ap, ◌∙◌, append_assoc, length-append, subst}
use Rattle.std.specs.Prelude.{◌==◌}
use Rattle.std.specs.List.{AllByRecursion}
use Rattle.std.specs.Str.{bytes_eq}
use Rattle.json.specs.Print.{quoted}
use Rattle.serde_json.specs.Data.{Data, Members, member, no_members, object, put}
use Rattle.serde_json.specs.Find.{get, get_member}
use Rattle.serde_json.specs.Written.{compact_text, members_text}
use Rattle.ompt_events.specs.declared.records.Record.{Record}
use Rattle.ompt_events.specs.Traces.{FitsIn, IsInRange, IsSoundIn}
use Rattle.lines.specs.declared.members.Member.{Member}
use Rattle.lines.specs.declared.members.Member.TheVariants as variant
use Rattle.lines.specs.InFront.{IsPlainIfOther, IsRecordInFront, is_known, known_members}
use Rattle.lines.specs.InFront.{later_members, listed}
use Rattle.lines.specs.MemberNames.{member_name}
use Rattle.lines.specs.PlainData.{IsPlain, MembersArePlain, puts}
use Rattle.lines.specs.RecordLines.{body_named, bounded, cancel, claim_if, claim_said, dependences}
use Rattle.lines.specs.RecordLines.{implicit_task, line_says, parallel_begin, parallel_end, record_fits}
use Rattle.lines.specs.RecordLines.{said_of, sync_region, task_create, task_schedule, thread_begin}
use Rattle.lines.specs.RecordLines.{thread_end, turns_if, turns_said, unbounded}
use Rattle.lines.specs.Texts.{Takes, data_of, with_member, with_members}
use Rattle.lines.proofs.FrontLemmas.{front-taken}
use Rattle.lines.proofs.InFrontLemmas.{is_known-member}
use Rattle.lines.proofs.JsonLemmas.{IsUnbroken, unbroken-members, value_of-members}
use Rattle.lines.proofs.LineLemmas.{IsWritten-sound}
use Rattle.lines.proofs.MeaningLemmas.{get_member-put_either}
use Rattle.lines.proofs.RecordLemmas.{bytes_eq-other}
use Rattle.lines.proofs.WrittenLemmas.{puts-listed}

-- ---- the text of the members

text-listed : (rows : List (List ℕ × Data)) → members_text true (listed rows) ≡ later_members rows ++ 125 ∷ []
text-listed [] = refl
text-listed (row ∷ rows) =
    ap (λ more. 44 ∷ (quoted row.0 ++ 58 ∷ (compact_text row.1 ++ more))) (text-listed rows)
    ∙ joined (quoted row.0) (compact_text row.1) (later_members rows)
  where
    joined : (name value more : List ℕ)
        → ◌≡◌ {A = List ℕ} (44 ∷ (name ++ 58 ∷ (value ++ (more ++ 125 ∷ []))))
        ((44 ∷ (name ++ 58 ∷ []) ++ (value ++ more)) ++ 125 ∷ [])
    joined name value more =
        ap (λ text. 44 ∷ text)
        (ap (λ text. name ++ 58 ∷ text) (sym (append_assoc value more (125 ∷ [])))
        ∙ sym (append_assoc name (58 ∷ []) ((value ++ more) ++ 125 ∷ []))
        ∙ sym (append_assoc (name ++ 58 ∷ []) (value ++ more) (125 ∷ [])))

-- an object, from what follows its brace
text-object : (rows : List (List ℕ × Data)) (inside behind : List ℕ)
    → ◌≡◌ {A = List ℕ} (44 ∷ inside) (later_members rows ++ 125 ∷ behind)
    → ◌≡◌ {A = List ℕ} (123 ∷ inside) (compact_text (object (listed rows)) ++ behind)
text-object [] inside behind same =
    absurd (let no : ◌≡◌ {A = ℕ} 44 125 = cc in omega (arith, no))
text-object (row ∷ rows) inside behind same =
    let name = quoted row.0 in
    let value = compact_text row.1 in
    let is : inside ≡ ((name ++ 58 ∷ []) ++ (value ++ later_members rows)) ++ 125 ∷ behind = cc in
    ap (λ text. 123 ∷ text)
    (is ∙ joined name value (later_members rows)
    ∙ ap (λ more. (name ++ 58 ∷ (value ++ more)) ++ behind) (sym (text-listed rows)))
  where
    joined : (name value more : List ℕ)
        → ((name ++ 58 ∷ []) ++ (value ++ more)) ++ 125 ∷ behind
        ≡ (name ++ 58 ∷ (value ++ (more ++ 125 ∷ []))) ++ behind
    joined name value more =
        append_assoc (name ++ 58 ∷ []) (value ++ more) (125 ∷ behind)
        ∙ append_assoc name (58 ∷ []) ((value ++ more) ++ 125 ∷ behind)
        ∙ ap (λ text. name ++ 58 ∷ text)
        (sym (append_assoc (value ++ more) (125 ∷ []) behind)
        ∙ ap (λ text. text ++ behind) (append_assoc value more (125 ∷ [])))
        ∙ sym (append_assoc name (58 ∷ (value ++ (more ++ 125 ∷ []))) behind)

-- ---- what is found among the known members

-- one more member that is found by its name, or is not
found-more : (name k : List ℕ) (d : Data) (found less : Members)
    → get_member name found ≡ get_member name less
    → get_member name (put k d found) ≡ get_member name (put k d less)
found-more name k d found less same =
    get_member-put_either name k d found ∙ ap (cond (bytes_eq k name) (Some d)) same
    ∙ sym (get_member-put_either name k d less)

found-other : (name k : List ℕ) (d : Data) (found : Members) → k ≢ name
    → get_member name (put k d found) ≡ get_member name found
found-other name k d found other =
    get_member-put_either name k d found
    ∙ ap (λ is. cond is (Some d) (get_member name found)) (bytes_eq-other k name other)

found-known : (name : List ℕ) (all : List (List ℕ × Data)) (found less : Members) → is_known name ≡ true
    → get_member name found ≡ get_member name less
    → get_member name (with_members all found) ≡ get_member name (with_members (known_members all) less)
unfolding with_member
found-known name [] found less known same = same
found-known name (row ∷ rows) found less known same =
    by_name (λ after. found-known name rows (put row.0 row.1 found) after known) (is_known row.0) refl
  where
    by_name : ((after : Members) → get_member name (put row.0 row.1 found) ≡ get_member name after
        → get_member name (with_members rows (put row.0 row.1 found))
        ≡ get_member name (with_members (known_members rows) after))
        → (is : Bool) → is_known row.0 ≡ is
        → get_member name (with_members rows (put row.0 row.1 found))
        ≡ get_member name (with_members (cond is (row ∷ known_members rows) (known_members rows)) less)
    by_name more true is = more (put row.0 row.1 less) (found-more name row.0 row.1 found less same)
    by_name more false is =
        more less
        (found-other name row.0 row.1 found
        (λ one. let no : false ≡ true = sym is ∙ ap is_known one ∙ known in cc)
        ∙ same)

-- ---- objects with the same known members

abbrev SayTheSame : Data → Data → Type 0
SayTheSame d e = (m : Member) → get (member_name m) d ≡ get (member_name m) e

thread_begin-same : (d e : Data) → SayTheSame d e → thread_begin d ≡ thread_begin e
unfolding thread_begin
thread_begin-same d e same = rw (same variant.Kind) refl

parallel_begin-same : (d e : Data) → SayTheSame d e → parallel_begin d ≡ parallel_begin e
unfolding parallel_begin
parallel_begin-same d e same = rw (same variant.Requested, same variant.Task, same variant.Parallel) refl

parallel_end-same : (d e : Data) → SayTheSame d e → parallel_end d ≡ parallel_end e
unfolding parallel_end
parallel_end-same d e same = rw (same variant.Task, same variant.Parallel) refl

implicit_task-same : (d e : Data) → SayTheSame d e → implicit_task d ≡ implicit_task e
unfolding implicit_task
implicit_task-same d e same =
    rw (
      same variant.Endpoint,
      same variant.Actual,
      same variant.Index,
      same variant.Flags,
      same variant.Parallel,
      same variant.Task,
    )
    refl

task_create-same : (d e : Data) → SayTheSame d e → task_create d ≡ task_create e
unfolding task_create
task_create-same d e same =
    rw (same variant.Deps, same variant.Flags, same variant.Task, same variant.Child) refl

dependences-same : (d e : Data) → SayTheSame d e → dependences d ≡ dependences e
unfolding dependences
dependences-same d e same = rw (same variant.Task, same variant.List) refl

task_schedule-same : (version : ℕ) (d e : Data) → SayTheSame d e
    → task_schedule version d ≡ task_schedule version e
unfolding task_schedule turns_if turns_said claim_if claim_said
task_schedule-same version d e same =
    rw (
      same variant.Status,
      same variant.Prior,
      same variant.Next,
      same variant.PriorTurn,
      same variant.NextTurn,
      same variant.Kept,
      same variant.Root,
      same variant.Path,
    )
    refl

sync_region-same : (d e : Data) → SayTheSame d e → sync_region d ≡ sync_region e
unfolding sync_region
sync_region-same d e same =
    rw (same variant.Kind, same variant.Endpoint, same variant.Parallel, same variant.Task) refl

cancel-same : (d e : Data) → SayTheSame d e → cancel d ≡ cancel e
unfolding cancel claim_if claim_said
cancel-same d e same =
    rw (same variant.Flags, same variant.Task, same variant.Kept, same variant.Root, same variant.Path) refl

unbounded-same : (version : ℕ) (d e : Data) → SayTheSame d e → unbounded version d ≡ unbounded version e
unfolding unbounded body_named thread_end
unbounded-same version d e same =
    rw (
      same variant.Thread,
      same variant.Seq,
      same variant.Seen,
      same variant.Callback,
      thread_begin-same d e same,
      parallel_begin-same d e same,
      parallel_end-same d e same,
      implicit_task-same d e same,
      task_create-same d e same,
      dependences-same d e same,
      task_schedule-same version d e same,
      sync_region-same d e same,
      cancel-same d e same,
    )
    refl

-- ---- the line

-- all members are plain where the known ones are
plain-listed : (rows : List (List ℕ × Data)) → AllByRecursion IsPlainIfOther rows
    → MembersArePlain (listed (known_members rows)) 2 → MembersArePlain (listed rows) 2
plain-listed [] others known = tt
plain-listed (row ∷ rows) others known = by_name (plain-listed rows others.1) (is_known row.0) refl known
  where
    by_name : (MembersArePlain (listed (known_members rows)) 2 → MembersArePlain (listed rows) 2)
        → (is : Bool) → is_known row.0 ≡ is
        → MembersArePlain (listed (cond is (row ∷ known_members rows) (known_members rows))) 2
        → MembersArePlain (member row.0 row.1 (listed rows)) 2
    by_name more true is all = (all.0, all.1, more all.2)
    by_name more false is all = let plain = others.0 is in (plain.0, plain.1, more all)

-- the line of a record, with members that are not known
pub record IsLineWithOthers (version : ℕ) (text : List ℕ) (r : Record) (behind : List ℕ) : Type 0 where
  pub line : List ℕ
  pub takes : Takes text line behind
  pub says : line_says version line ≡ Ok r
  pub unbroken : IsUnbroken line

pub line-with-others : (version : ℕ) (text : List ℕ) (r : Record) (behind : List ℕ) → IsInRange r
    → FitsIn version r → IsRecordInFront text r behind → IsLineWithOthers version text r behind
line-with-others version text r behind range fits front =
    let written = IsWritten-sound version r range fits in
    let all = front.is.members.all in
    let whole : IsPlain (object (listed front.is.known)) 3 =
    subst (λ d. IsPlain d 3) (sym front.is.says) written.plain in
    let known : MembersArePlain (listed (known_members all)) 2 =
    subst (λ rows. MembersArePlain (listed rows) 2) (sym front.is.members.are) whole.1 in
    let plain = plain-listed all front.is.members.plain known in
    let same : SayTheSame (object (puts (listed all) no_members)) (data_of r) =
    λ m.
    ap (get_member (member_name m)) (puts-listed all no_members)
    ∙ found-known (member_name m) all no_members no_members (is_known-member m) refl
    ∙ ap (λ rows. get_member (member_name m) (with_members rows no_members)) front.is.members.are
    ∙ ap (get_member (member_name m)) (sym (puts-listed front.is.known no_members) ∙ whole.0)
    ∙ ap (get (member_name m)) front.is.says in
    record {
      line = compact_text (object (listed all));
      takes = record { is = front.opens.is ∙ text-object all front.inside behind front.is.members.takes.is };
      says =
          ap (said_of version) (value_of-members (listed all) 2 plain (omega arith))
          ∙ ap (bounded record_fits) (unbounded-same version _ (data_of r) same)
          ∙ written.says;
      unbroken = unbroken-members (listed all) 2 plain;
    }

-- the record, where regions may lie inside others, or may not
abbrev pub with_nests : Bool → Record → Record
with_nests nests r = record { thread = r.thread; nests = nests; seq = r.seq; seen = r.seen; body = r.body }

-- no line says whether regions may lie inside others: the version says it
pub line-of-version : (version : ℕ) (text : List ℕ) (r : Record) (nests : Bool) (behind : List ℕ)
    → nests ≡ (version == 3) → IsInRange r → IsSoundIn version r.body
    → IsRecordInFront text r behind → IsLineWithOthers version text (with_nests nests r) behind
line-of-version version text r nests behind is range sound front =
    line-with-others version text (with_nests nests r) behind
    (record { thread = range.thread; seq = range.seq; seen = range.seen; body = range.body }) (sound, is)
    (record {
      inside = front.inside;
      opens = front.opens;
      is = record { known = front.is.known; says = front.is.says; members = front.is.members };
    })

-- what the line says, cut from the text
pub front-says : (version : ℕ) (text : List ℕ) (r : Record) (behind : List ℕ)
    → IsLineWithOthers version text r behind
    → line_says version (take (length text - length behind) text) ≡ Ok r
front-says version text r behind front =
    ap (line_says version) (front-taken text front.line behind front.takes) ∙ front.says

pub front-shorter : (text : List ℕ) (r : Record) (behind : List ℕ) → IsRecordInFront text r behind
    → length behind ≤ length text
front-shorter text r behind front =
    let taken = ap length front.is.members.takes.is in
    let whole = ap length front.opens.is in
    omega (arith, taken, whole, length-append (later_members front.is.members.all) (125 ∷ behind))
