-- How the state of a reader goes from line to line, whatever the format of the lines.
use Rattle.std.proofs.Common.{◌≡◌, ◌≢◌, ℕ, ◌+◌, ◌*◌, ◌<◌, ◌≤◌, List, [], ◌∷◌, ◌++◌, length, take, drop}
use Rattle.std.proofs.Common.{get_or, Option, Some, None, Result, Ok, Err, true, false, cond, arith, refl}
use Rattle.std.proofs.Common.{sym, ap, ◌∙◌, subst, inl, inr, eq-eqb, append_assoc, append-nil, zero-add}
use Rattle.std.proofs.Common.{length-take}
use Rattle.std.specs.Prelude.{nat_lt, ◌==◌, IfSome}
use Rattle.std.specs.Io.KnownBytes.{Keeps, IsAtEnd, prepend_known}
use Rattle.lines.specs.declared.cause.ReadCause.{ReadCause}
use Rattle.certificate.specs.declared.faults.ReadFault.{ReadFault}
use Rattle.lines.specs.declared.cause.ReadCause.TheVariants.{Device, Memory, Header, LineTooLong}
use Rattle.lines.specs.declared.cause.ReadCause.TheVariants.{NotJson, Field, Limit, Unended}
use Rattle.lines.specs.declared.cause.ReadCause.TheVariants.{TurnsSpent}
use Rattle.std.proofs.lemmas.List.{take-append-drop}
use Rattle.std.proofs.lemmas.List.Sums.{sum_by-append, sum_by-cons}
use Rattle.lines.specs.Limits.{max_line}
use Rattle.certificate.specs.Windows.{LineFeedAt, ShowsFault, ShowsLine}
use Rattle.certificate.specs.Formats.{Format, cut, said, rest_says, go_on, fault_in, is_long, line_feeds}
use Rattle.certificate.specs.Counts.{breaks_told}
use Rattle.certificate.specs.Reading.{IsLineAfterGiven, IsFromLine, IsLineBeingRead, IsLineReached, IsToldIn}
use Rattle.certificate.specs.Reading.{IsAnswerIn, IsBetween, IsTextCause, IsOfText, HasTextCauses}
use Rattle.certificate.proofs.FileLemmas.{unbroken-before, unbroken-all, unbroken-front}
use Rattle.lines.proofs.JsonLemmas.{IsUnbroken}
use Rattle.certificate.proofs.FileLemmas.{window-parts, rest_says-line, rest_says-end, rest_says-long}
use Rattle.certificate.proofs.FileLemmas.{said_later}

-- ---- line feeds

pub line_feeds-append : (xs ys : List ℕ) → line_feeds (xs ++ ys) ≡ line_feeds xs + line_feeds ys
line_feeds-append xs ys = sum_by-append (λ (b : ℕ). cond (b == 10) 1 0) xs ys

pub line_feeds-unbroken : (xs : List ℕ) → IsUnbroken xs → line_feeds xs ≡ 0
line_feeds-unbroken [] all = refl
line_feeds-unbroken (x ∷ xs) all =
    sum_by-cons (λ (b : ℕ). cond (b == 10) 1 0) x xs ∙ rw (all.0) (zero-add _ ∙ line_feeds-unbroken xs all.1)

pub line_feeds-one : (xs ys : List ℕ) → IsUnbroken xs → line_feeds (xs ++ (10 ∷ ys)) ≡ line_feeds ys + 1
line_feeds-one xs ys all =
    let whole = line_feeds-append xs (10 ∷ ys) in
    let first : line_feeds xs ≡ 0 = line_feeds-unbroken xs all in
    let last : line_feeds (10 ∷ ys) ≡ 1 + line_feeds ys = sum_by-cons (λ (b : ℕ). cond (b == 10) 1 0) 10 ys in
    omega arith

-- ---- between two lines

-- all bytes begin with line 1
pub from_first : (bytes : List ℕ) → IsFromLine 1 bytes bytes
from_first bytes = record { before = []; lines = record { count = refl; ended = inl refl }; parts = refl }

-- one line more is done with
pub from_next : (n : ℕ) (bytes line rest : List ℕ) → IsUnbroken line
    → IsFromLine n bytes (line ++ (10 ∷ rest)) → IsFromLine (n + 1) bytes rest
from_next n bytes line rest all from =
    let front = from.before ++ line in
    let one : line_feeds (front ++ (10 ∷ [])) ≡ line_feeds from.before + 1 =
    ap line_feeds (append_assoc from.before line (10 ∷ []))
    ∙ line_feeds-append from.before (line ++ (10 ∷ []))
    ∙ ap (λ (k : ℕ). line_feeds from.before + k) (line_feeds-one line [] all) in
    record {
      before = front ++ (10 ∷ []);
      lines = record { count = omega (arith, one, from.lines.count); ended = inr (front, refl) };
      parts =
          from.parts ∙ sym (append_assoc from.before line (10 ∷ rest))
          ∙ sym (append_assoc front (10 ∷ []) rest);
    }

-- this many line feeds are left
pub from_feeds : (n : ℕ) (bytes rest : List ℕ) → IsFromLine n bytes rest
    → n + line_feeds rest ≡ line_feeds bytes + 1
from_feeds n bytes rest from =
    omega (arith, ap line_feeds from.parts, line_feeds-append from.before rest, from.lines.count)

-- a line that is reached is one of the file, and no line before it has a fault
pub IsLineReached-within : {X : Type 0} (format : Format X) (n : ℕ) (bytes : List ℕ)
    → IsLineReached format n bytes
    → n ≤ line_feeds bytes + 1
IsLineReached-within format n bytes reached = omega (arith, from_feeds n bytes reached.rest reached.begins)

pub IsLineReached-later : {X : Type 0} (format : Format X) (n : ℕ) (bytes : List ℕ) (f : ReadFault)
    → IsLineReached format n bytes → said format bytes ≡ Err f → n ≤ f.line
IsLineReached-later format n bytes f reached e =
    said_later format n reached.before (cut reached.rest).lines (cut reached.rest).rest f
    (sym reached.says ∙ e)

pub IsBetween-start : {X : Type 0} (format : Format X) (known : Option (List ℕ))
    → IsBetween format known 1 format.first [] known
IsBetween-start format None = tt
IsBetween-start format (Some bytes) = (refl, from_first bytes)

pub IsBetween-keeps : {X : Type 0} (format : Format X) (known : Option (List ℕ)) (n : ℕ) (kept : X)
    (w w' : List ℕ) (left left' : Option (List ℕ))
    → Keeps (prepend_known w left) (prepend_known w' left') → IsBetween format known n kept w left
    → IsBetween format known n kept w' left'
IsBetween-keeps format None n kept w w' left left' keeps now = tt
IsBetween-keeps format (Some bytes) n kept w w' None left' keeps now = absurd now
IsBetween-keeps format (Some bytes) n kept w w' (Some l) None keeps now = absurd keeps
IsBetween-keeps format (Some bytes) n kept w w' (Some l) (Some l') keeps now = rw keeps now

-- the first line of the window and what comes after it
pub parts : (w l : List ℕ) (len : ℕ) → LineFeedAt w (Some len)
    → w ++ l ≡ take len w ++ (10 ∷ (drop (len + 1) w ++ l))
parts w l len at =
    ap (λ bytes. bytes ++ l) (window-parts w len at) ∙ append_assoc (take len w) (10 ∷ drop (len + 1) w) l

rest_says-window : {X : Type 0} (format : Format X) (n : ℕ) (kept : X) (w l : List ℕ) (len : ℕ)
    → LineFeedAt w (Some len) → len ≤ max_line
    → rest_says format n kept (w ++ l)
    ≡ go_on n (format.adds n kept (take len w))
    (λ after. rest_says format (n + 1) after (drop (len + 1) w ++ l))
rest_says-window format n kept w l len at short =
    let small : length (take len w) ≤ max_line = omega (arith, length-take len w) in
    ap (rest_says format n kept) (parts w l len at)
    ∙ rest_says-line format n kept (take len w) (drop (len + 1) w ++ l) (unbroken-before w len at) small

pub IsBetween-line : {X : Type 0} (format : Format X) (known : Option (List ℕ)) (n : ℕ) (kept kept' : X)
    (w : List ℕ) (len : ℕ) (left : Option (List ℕ))
    → LineFeedAt w (Some len) → len ≤ max_line → Ok kept' ≡ format.adds n kept (take len w)
    → IsBetween format known n kept w left → IsBetween format known (n + 1) kept' (drop (len + 1) w) left
IsBetween-line format None n kept kept' w len left at short adds now = tt
IsBetween-line format (Some bytes) n kept kept' w len None at short adds now = absurd now
IsBetween-line format (Some bytes) n kept kept' w len (Some l) at short adds now =
    let from : IsFromLine n bytes (take len w ++ (10 ∷ (drop (len + 1) w ++ l))) =
    subst (λ (rest : List ℕ). IsFromLine n bytes rest) (parts w l len at) now.1 in (
      now.0 ∙ rest_says-window format n kept w l len at short
          ∙ ap (λ r. go_on n r (λ after. rest_says format (n + 1) after (drop (len + 1) w ++ l))) (sym adds),
      from_next n bytes (take len w) (drop (len + 1) w ++ l) (unbroken-before w len at) from,
    )

-- ---- the ends

told_of_text : {X : Type 0} (format : Format X) (e : ReadCause) (n : ℕ) (bytes : List ℕ)
    (left : Option (List ℕ))
    → IsTextCause e → said format bytes ≡ Err (fault_in n e) → IsToldIn format e n bytes left
told_of_text format Device n bytes left is h = absurd is
told_of_text format Memory n bytes left is h = absurd is
told_of_text format Header n bytes left is h = h
told_of_text format LineTooLong n bytes left is h = h
told_of_text format NotJson n bytes left is h = h
told_of_text format Field n bytes left is h = h
told_of_text format Limit n bytes left is h = h
told_of_text format Unended n bytes left is h = h
told_of_text format TurnsSpent n bytes left is h = absurd is

pub IsAfter-text : {X : Type 0} (format : Format X) → HasTextCauses format
    → (known : Option (List ℕ)) (n : ℕ) (kept : X) (w : List ℕ) (len : ℕ) (left : Option (List ℕ))
    (e : ReadCause)
    → LineFeedAt w (Some len) → len ≤ max_line → Err e ≡ format.adds n kept (take len w)
    → IsBetween format known n kept w left → IfSome known (λ bytes. IsToldIn format e n bytes left)
IsAfter-text format text None n kept w len left e at short fault now = tt
IsAfter-text format text (Some bytes) n kept w len None e at short fault now = absurd now
IsAfter-text format text (Some bytes) n kept w len (Some l) e at short fault now =
    told_of_text format e n bytes (Some l) (text n kept (take len w) e fault)
    (now.0 ∙ rest_says-window format n kept w l len at short
    ∙ ap (λ r. go_on n r (λ after. rest_says format (n + 1) after (drop (len + 1) w ++ l))) (sym fault))

-- no memory for the text of a line, which waits
pub IsAfter-memory : {X : Type 0} (format : Format X) (known : Option (List ℕ)) (n : ℕ) (kept : X)
    (w : List ℕ) (len : ℕ) (left : Option (List ℕ))
    → LineFeedAt w (Some len) → length w ≤ 2 * (max_line + 1) → IsBetween format known n kept w left
    → IfSome known (λ bytes. IsLineBeingRead n bytes left × IsLineReached format n bytes)
IsAfter-memory format None n kept w len left at few now = tt
IsAfter-memory format (Some bytes) n kept w len None at few now = absurd now
IsAfter-memory format (Some bytes) n kept w len (Some l) at few now =
    let one : line_feeds w ≡ line_feeds (drop (len + 1) w) + 1 =
    ap line_feeds (window-parts w len at)
    ∙ line_feeds-one (take len w) (drop (len + 1) w) (unbroken-before w len at) in (
      record { waiting = w; begins = now.1; few = few; whole = inr (omega (arith, one)) },
      record { before = kept; rest = w ++ l; begins = now.1; says = now.0 },
    )

-- no memory for the window: nothing was given yet
pub IsAnswerIn-no_window : {X : Type 0} (format : Format X) (known : Option (List ℕ))
    → IfSome known (λ bytes. IsAnswerIn format (Err (fault_in 1 Memory)) bytes known)
IsAnswerIn-no_window format None = tt
IsAnswerIn-no_window format (Some bytes) = (
  record { waiting = []; begins = from_first bytes; few = omega arith; whole = inl refl },
  record { before = format.first; rest = bytes; begins = from_first bytes; says = refl },
)

pub IsAfter-device : {X : Type 0} (format : Format X) (known : Option (List ℕ)) (n : ℕ) (kept : X)
    (w : List ℕ) (left : Option (List ℕ))
    → LineFeedAt w None → IsBetween format known n kept w left
    → IfSome known (λ bytes. IsLineAfterGiven n bytes left × IsLineReached format n bytes)
IsAfter-device format None n kept w left none now = tt
IsAfter-device format (Some bytes) n kept w None none now = absurd now
IsAfter-device format (Some bytes) n kept w (Some l) none now =
    let left = from_feeds n bytes (w ++ l) now.1 in (
      omega (arith, left, line_feeds-append w l, line_feeds-unbroken w (unbroken-all w none)),
      record { before = kept; rest = w ++ l; begins = now.1; says = now.0 },
    )

-- a line that is too long
pub IsAfter-long : {X : Type 0} (format : Format X) (known : Option (List ℕ)) (n : ℕ) (kept : X) (w : List ℕ)
    (left : Option (List ℕ))
    → ((k : ℕ) → k ≤ max_line → (k < length w) × (get_or w k 0 ≢ 10)) → IsBetween format known n kept w left
    → IfSome known (λ bytes. said format bytes ≡ Err (fault_in n LineTooLong))
IsAfter-long format None n kept w left each now = tt
IsAfter-long format (Some bytes) n kept w None each now = absurd now
IsAfter-long format (Some bytes) n kept w (Some l) each now =
    let size : max_line + 1 ≤ length w = (each max_line (omega arith)).0 in
    let whole : w ++ l ≡ take (max_line + 1) w ++ (drop (max_line + 1) w ++ l) =
    ap (λ xs. xs ++ l) (sym (take-append-drop (max_line + 1) w))
    ∙ append_assoc (take (max_line + 1) w) (drop (max_line + 1) w) l in
    now.0 ∙ ap (rest_says format n kept) whole
    ∙ rest_says-long format n kept (take (max_line + 1) w) (drop (max_line + 1) w ++ l)
    (unbroken-front w (max_line + 1) size (λ i h. (each i (omega arith)).1))
    (omega (arith, length-take (max_line + 1) w))

-- the end of the input
pub at_end : (left : Option (List ℕ)) (l w : List ℕ) → left ≡ Some l → IsAtEnd left → w ++ l ≡ w
at_end None l w is end = absurd (let h : None ≡ Some l = is in cc)
at_end (Some xs) l w is end = let same : l ≡ xs = cc in ap (λ ys. w ++ ys) (same ∙ end) ∙ append-nil w

pub IsAfter-unended : {X : Type 0} (format : Format X) (known : Option (List ℕ)) (n : ℕ) (kept : X)
    (w : List ℕ) (left : Option (List ℕ))
    → 0 < length w → length w ≤ max_line → LineFeedAt w None → IsAtEnd left
    → IsBetween format known n kept w left
    → IfSome known (λ bytes. said format bytes ≡ Err (fault_in n Unended))
IsAfter-unended format None n kept w left some few none end now = tt
IsAfter-unended format (Some bytes) n kept w None some few none end now = absurd now
IsAfter-unended format (Some bytes) n kept w (Some l) some few none end now =
    let not_long : is_long w ≡ false = grind arith in
    let not_empty : nat_lt 0 (length w) ≡ true = grind arith in
    now.0 ∙ ap (rest_says format n kept) (at_end (Some l) l w refl end)
    ∙ rest_says-end format n kept w (unbroken-all w none) ∙ rw (not_long, not_empty) refl

pub IsAfter-end : {X : Type 0} (format : Format X) (known : Option (List ℕ)) (n : ℕ) (kept : X) (w : List ℕ)
    (left : Option (List ℕ))
    → w ≡ [] → IsAtEnd left → IsBetween format known n kept w left
    → IfSome known (λ bytes. said format bytes ≡ go_on n (cond (n == 1) (Err Header) (Ok kept)) Ok)
IsAfter-end format None n kept w left none end now = tt
IsAfter-end format (Some bytes) n kept w None none end now = absurd now
IsAfter-end format (Some bytes) n kept w (Some l) none end now =
    now.0 ∙ ap (rest_says format n kept) (at_end (Some l) l w refl end ∙ none)
    ∙ rest_says-end format n kept [] tt

-- ---- the text of a line

pub IsOfText-from : {X : Type 0} (format : Format X) → HasTextCauses format
    → (n : ℕ) (before : X) (line : List ℕ) (e : ReadCause)
    → (◌≢◌ {A = Result X ReadCause} (Err e) (Err Memory) → Err e ≡ format.adds n before line) → IsOfText e
IsOfText-from format text n before line Device told = absurd (text n before line Device (told (λ same. cc)))
IsOfText-from format text n before line Memory told = tt
IsOfText-from format text n before line Header told = tt
IsOfText-from format text n before line LineTooLong told =
    absurd (text n before line LineTooLong (told (λ same. cc)))
IsOfText-from format text n before line NotJson told = tt
IsOfText-from format text n before line Field told = tt
IsOfText-from format text n before line Limit told = tt
IsOfText-from format text n before line Unended told = absurd (text n before line Unended (told (λ same. cc)))
IsOfText-from format text n before line TurnsSpent told =
    absurd (text n before line TurnsSpent (told (λ same. cc)))

pub IsOfText-not_spent : (e : ReadCause) → IsOfText e → Some e ≡ Some TurnsSpent → ⊥
IsOfText-not_spent e is same =
    let spent : e ≡ TurnsSpent = cc in subst (λ (c : ReadCause). IsOfText c) spent is

pub breaks_told-text : (e : ReadCause) (count : ℕ) → IsOfText e → breaks_told (Some e) count ≡ count
breaks_told-text Device count is = absurd is
breaks_told-text Memory count is = refl
breaks_told-text Header count is = refl
breaks_told-text LineTooLong count is = refl
breaks_told-text NotJson count is = refl
breaks_told-text Field count is = refl
breaks_told-text Limit count is = refl
breaks_told-text Unended count is = refl
breaks_told-text TurnsSpent count is = refl

-- the fault of a text, as the answer to its line
pub IsAfter-text_fault : {X : Type 0} (format : Format X) → HasTextCauses format
    → (known : Option (List ℕ)) (n : ℕ) (kept : X) (w : List ℕ) (len : ℕ) (left : Option (List ℕ))
    (e : ReadCause)
    → length w ≤ 2 * (max_line + 1) → LineFeedAt w (Some len) → len ≤ max_line
    → (◌≢◌ {A = Result X ReadCause} (Err e) (Err Memory) → Err e ≡ format.adds n kept (take len w))
    → IsBetween format known n kept w left → IfSome known (λ bytes. IsToldIn format e n bytes left)
IsAfter-text_fault format text known n kept w len left Memory few at short told now =
    IsAfter-memory format known n kept w len left at few now
IsAfter-text_fault format text known n kept w len left Device few at short told now =
    IsAfter-text format text known n kept w len left Device at short (told (λ same. cc)) now
IsAfter-text_fault format text known n kept w len left Header few at short told now =
    IsAfter-text format text known n kept w len left Header at short (told (λ same. cc)) now
IsAfter-text_fault format text known n kept w len left LineTooLong few at short told now =
    IsAfter-text format text known n kept w len left LineTooLong at short (told (λ same. cc)) now
IsAfter-text_fault format text known n kept w len left NotJson few at short told now =
    IsAfter-text format text known n kept w len left NotJson at short (told (λ same. cc)) now
IsAfter-text_fault format text known n kept w len left Field few at short told now =
    IsAfter-text format text known n kept w len left Field at short (told (λ same. cc)) now
IsAfter-text_fault format text known n kept w len left Limit few at short told now =
    IsAfter-text format text known n kept w len left Limit at short (told (λ same. cc)) now
IsAfter-text_fault format text known n kept w len left Unended few at short told now =
    IsAfter-text format text known n kept w len left Unended at short (told (λ same. cc)) now
IsAfter-text_fault format text known n kept w len left TurnsSpent few at short told now =
    IsAfter-text format text known n kept w len left TurnsSpent at short (told (λ same. cc)) now

-- where there is no next line
pub IsAfter-no_line : {X : Type 0} (format : Format X) (known : Option (List ℕ)) (n : ℕ) (kept : X)
    (w : List ℕ) (left : Option (List ℕ)) (e : ReadCause)
    → ShowsFault e w left → IsBetween format known n kept w left
    → IfSome known (λ bytes. IsToldIn format e n bytes left)
IsAfter-no_line format known n kept w left Device shows now =
    IsAfter-device format known n kept w left shows now
IsAfter-no_line format known n kept w left Memory shows now = absurd shows
IsAfter-no_line format known n kept w left Header shows now = absurd shows
IsAfter-no_line format known n kept w left LineTooLong shows now =
    IsAfter-long format known n kept w left shows now
IsAfter-no_line format known n kept w left NotJson shows now = absurd shows
IsAfter-no_line format known n kept w left Field shows now = absurd shows
IsAfter-no_line format known n kept w left Limit shows now = absurd shows
IsAfter-no_line format known n kept w left Unended shows now =
    IsAfter-unended format known n kept w left shows.0 shows.1 shows.2 shows.3 now
IsAfter-no_line format known n kept w left TurnsSpent shows now =
    IsAfter-device format known n kept w left shows now

-- at the end of the input
pub IsAfter-none_first : {X : Type 0} (format : Format X) (known : Option (List ℕ)) (n : ℕ) (kept : X)
    (w : List ℕ) (left : Option (List ℕ))
    → n ≡ 1 → ShowsLine None w left → IsBetween format known n kept w left
    → IfSome known (λ bytes. said format bytes ≡ Err (fault_in n Header))
IsAfter-none_first format known n kept w left first shows now =
    by_known known (IsAfter-end format known n kept w left shows.0 shows.1 now)
  where
    is : (n == 1) ≡ true
    is = eq-eqb n 1 first

    by_known : (o : Option (List ℕ))
        → IfSome o (λ bytes. said format bytes ≡ go_on n (cond (n == 1) (Err Header) (Ok kept)) Ok)
        → IfSome o (λ bytes. said format bytes ≡ Err (fault_in n Header))
    by_known None h = tt
    by_known (Some bytes) h = h ∙ ap (λ b. go_on n (cond b (Err Header) (Ok kept)) Ok) is

pub IsAfter-none : {X : Type 0} (format : Format X) (known : Option (List ℕ)) (n : ℕ) (kept : X) (w : List ℕ)
    (left : Option (List ℕ))
    → n ≢ 1 → ShowsLine None w left → IsBetween format known n kept w left
    → IfSome known (λ bytes. said format bytes ≡ Ok kept)
IsAfter-none format known n kept w left later shows now =
    by_known known (IsAfter-end format known n kept w left shows.0 shows.1 now)
  where
    is : (n == 1) ≡ false
    is = grind arith

    by_known : (o : Option (List ℕ))
        → IfSome o (λ bytes. said format bytes ≡ go_on n (cond (n == 1) (Err Header) (Ok kept)) Ok)
        → IfSome o (λ bytes. said format bytes ≡ Ok kept)
    by_known None h = tt
    by_known (Some bytes) h = h ∙ ap (λ b. go_on n (cond b (Err Header) (Ok kept)) Ok) is
