-- Room for records after others.
use Rattle.std.proofs.Common.{◌≡◌, ℕ, ◌+◌, ◌<◌, ◌≤◌, List, [], ◌∷◌, ◌++◌, length, Bool, true, false}
use Rattle.std.proofs.Common.{Some, Ok, Err}
use Rattle.std.proofs.Common.{cond, arith, refl, sym, ap, ◌∙◌, subst, append_assoc, append-nil, length-append}
use Rattle.std.specs.Prelude.{All}
use Rattle.std.proofs.lemmas.List.Elements.{All-contains, Contains-append_left, Contains-push}
use Rattle.std.proofs.lemmas.Option.{none-some}
use Rattle.std.proofs.lemmas.Bool.{ltb-true}
use Rattle.ompt_events.specs.declared.records.Record.{Record}
use Rattle.ompt_events.specs.Limits.{max_records}
use Rattle.ompt_events.specs.Traces.{TraceView}
use Rattle.lines.specs.declared.cause.ReadCause.{ReadCause}
use Rattle.lines.specs.declared.cause.ReadCause.TheVariants.{Device, Memory, Header, LineTooLong, NotJson}
use Rattle.lines.specs.declared.cause.ReadCause.TheVariants.{Field, Limit, Unended, TurnsSpent}
use Rattle.lines.proofs.RecordLemmas.{both-first, ok_not_err}
use Rattle.lines.specs.RecordLines.{IsSaid}
use Rattle.certificate.specs.Files.{has_room, with_record}
use Rattle.certificate.specs.Keeping.{HaveRoom, IsWhyNot, KeepsFirst, and_record}

-- one record more after those that have room
HaveRoom-push : (before rs : List Record) (r : Record) → HaveRoom before rs
    → has_room (before ++ rs) r ≡ true → HaveRoom before (rs ++ r ∷ [])
HaveRoom-push before [] r have room = (rw (append-nil before) at room, tt)
HaveRoom-push before (x ∷ rs) r have room =
    (have.0, HaveRoom-push (before ++ x ∷ []) rs r have.1 (rw (append_assoc before (x ∷ []) rs) room))

-- with those that have room there are few enough
pub HaveRoom-length : (before rs : List Record) → length before ≤ max_records → HaveRoom before rs
    → length before + length rs ≤ max_records
HaveRoom-length before [] few have = omega arith
HaveRoom-length before (r ∷ rs) few have =
    let below : length before < max_records = ltb-true _ _ (both-first _ _ have.0) in
    let more : length (before ++ r ∷ []) ≡ length before + 1 = length-append before (r ∷ []) in
    let all = HaveRoom-length (before ++ r ∷ []) rs (omega arith) have.1 in
    omega arith

-- a record that is kept had room
kept_one : (old new : TraceView) (r : Record) → IsSaid (Ok new) (with_record old (Ok r))
    → (has_room old.records r ≡ true) × (new ≡ and_record old r)
kept_one old new r said = cases (has_room old.records r) refl (said (ok_not_err new Memory))
  where
    cases : (b : Bool) → has_room old.records r ≡ b
        → Ok new ≡ cond b (Ok (and_record old r)) (Err Limit)
        → (has_room old.records r ≡ true) × (new ≡ and_record old r)
    cases true is same = (is, cc)
    cases false is same = absurd (ok_not_err new Limit same)

-- why a record is not kept
not_kept : (old : TraceView) (r : Record) (cause : ReadCause)
    → Err cause ≡ with_record old (Ok r) → (cause ≡ Limit) × (has_room old.records r ≡ false)
not_kept old r cause said = cases (has_room old.records r) refl said
  where
    cases : (b : Bool) → has_room old.records r ≡ b
        → Err cause ≡ cond b (Ok (and_record old r)) (Err Limit)
        → (cause ≡ Limit) × (has_room old.records r ≡ false)
    cases true is same = absurd (ok_not_err (and_record old r) cause (sym same))
    cases false is same = (cc, is)

why_not : (old : TraceView) (r : Record) (later : List Record) (cause : ReadCause)
    → IsSaid (Err cause) (with_record old (Ok r)) → IsWhyNot (Some cause) old.records (r ∷ later)
why_not old r later Memory said = tt
why_not old r later Limit said = (r, later, refl, (not_kept old r Limit (said (λ same. cc))).1)
why_not old r later Device said = absurd (let no = (not_kept old r Device (said (λ same. cc))).0 in cc)
why_not old r later Header said = absurd (let no = (not_kept old r Header (said (λ same. cc))).0 in cc)
why_not old r later LineTooLong said =
    absurd (let no = (not_kept old r LineTooLong (said (λ same. cc))).0 in cc)
why_not old r later NotJson said = absurd (let no = (not_kept old r NotJson (said (λ same. cc))).0 in cc)
why_not old r later Field said = absurd (let no = (not_kept old r Field (said (λ same. cc))).0 in cc)
why_not old r later Unended said = absurd (let no = (not_kept old r Unended (said (λ same. cc))).0 in cc)
why_not old r later TurnsSpent said = absurd
    (let no = (not_kept old r TurnsSpent (said (λ same. cc))).0 in cc)

-- ---- a list of which the first records are kept

-- what is so of all records is so of the next one
pub next_so : (P : Record → Type 0) (all first rest later : List Record) (r : Record) → All P all
    → all ≡ first ++ rest → rest ≡ r ∷ later → P r
next_so P all first rest later r so parts next =
    let whole : all ≡ (first ++ r ∷ []) ++ later =
    parts ∙ ap (λ (xs : List Record). first ++ xs) next ∙ sym (append_assoc first (r ∷ []) later) in
    All-contains P all r so
    (rw whole (Contains-append_left (first ++ r ∷ []) later r (Contains-push first r)))

-- one record more is kept
pub parts_more : (all first rest later : List Record) (r : Record) → all ≡ first ++ rest → rest ≡ r ∷ later
    → all ≡ (first ++ r ∷ []) ++ later
parts_more all first rest later r parts next =
    parts ∙ ap (λ (xs : List Record). first ++ xs) next ∙ sym (append_assoc first (r ∷ []) later)

-- what is kept then
pub kept_more : (old now new : TraceView) (first : List Record) (r : Record)
    → now ≡ record { version = old.version; records = old.records ++ first } → HaveRoom old.records first
    → IsSaid (Ok new) (with_record now (Ok r))
    → HaveRoom old.records (first ++ r ∷ [])
    × (new ≡ record { version = old.version; records = old.records ++ (first ++ r ∷ []) })
kept_more old now new first r is room said =
    let one = kept_one now new r said in
    let fits : has_room (old.records ++ first) r ≡ true =
    subst (λ (t : TraceView). has_room t.records r ≡ true) is one.0 in
    let grown : new ≡ and_record (record { version = old.version; records = old.records ++ first }) r =
    one.1 ∙ ap (λ (t : TraceView). and_record t r) is in (
      HaveRoom-push old.records first r room fits,
      grown
          ∙ ap (λ (rs : List Record). record { version = old.version; records = rs })
          (append_assoc old.records first (r ∷ [])),
    )

-- why no more are kept
pub kept_first : (old now new : TraceView) (all first rest later : List Record) (r : Record) (count : ℕ)
    (cause : ReadCause) → all ≡ first ++ rest → rest ≡ r ∷ later → count ≡ length first
    → HaveRoom old.records first
    → now ≡ record { version = old.version; records = old.records ++ first }
    → IsSaid (Err cause) (with_record now (Ok r)) → KeepsFirst old all count (Some cause) new
kept_first old now new all first rest later r count cause parts next counted room is said = record {
  first = first;
  rest = r ∷ later;
  parts = parts ∙ ap (λ (xs : List Record). first ++ xs) next;
  counted = counted;
  room = room;
  kept = λ none. absurd (none-some cause (sym none));
  why_not =
      subst (λ (t : TraceView). IsWhyNot (Some cause) t.records (r ∷ later)) is
      (why_not now r later cause said);
}
