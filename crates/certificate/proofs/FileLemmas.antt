-- How a file is read line by line, whatever its format.
use Rattle.std.proofs.Common.{Bool, ◌≡◌, ◌≢◌, ℕ, ◌+◌, ◌<◌, ◌≤◌, List, [], ◌∷◌, ◌++◌, length, take, drop}
use Rattle.std.proofs.Common.{get_or, Some, None, Result, Ok, Err, true, false, cond, arith, refl, sym, ap}
use Rattle.std.proofs.Common.{◌∙◌}
use Rattle.std.proofs.Common.{eqb-true, eq-eqb, suc, append-nil, length-append, length-take, inl, inr}
use Rattle.std.specs.Prelude.{◌==◌, ◌⊎◌}
use Rattle.lines.specs.declared.cause.ReadCause.{ReadCause}
use Rattle.certificate.specs.declared.faults.ReadFault.{ReadFault}
use Rattle.lines.specs.declared.cause.ReadCause.TheVariants.{LineTooLong}
use Rattle.std.proofs.lemmas.List.{take-append-drop, get_or-take, drop_more}
use Rattle.std.proofs.lemmas.List.Sums.{sum_by-append, sum_by-cons}
use Rattle.lines.specs.Limits.{max_line}
use Rattle.certificate.specs.Windows.{LineFeedAt}
use Rattle.lines.proofs.JsonLemmas.{IsUnbroken}
use Rattle.certificate.specs.Formats.{Format, Cut, cut, with_byte, line_feeds, is_long, from_line, rest_says}
use Rattle.certificate.specs.Formats.{go_on, fault_in, line_adds, end_adds}

-- bytes in front of the first line
abbrev pub with_front : List ℕ → List (List ℕ) → List ℕ → Cut
with_front front [] rest = record { lines = []; rest = front ++ rest }
with_front front (line ∷ lines) rest = record { lines = (front ++ line) ∷ lines; rest = rest }

pub cut-front : (front bytes : List ℕ) → IsUnbroken front
    → cut (front ++ bytes) ≡ with_front front (cut bytes).lines (cut bytes).rest
unfolding cut
cut-front [] bytes all = by_lines (cut bytes).lines (cut bytes).rest
  where
    by_lines : (lines : List (List ℕ)) (rest : List ℕ)
        → ◌≡◌ {A = Cut} (record { lines = lines; rest = rest }) (with_front [] lines rest)
    by_lines [] rest = refl
    by_lines (line ∷ lines) rest = refl
cut-front (b ∷ front) bytes all =
    rw (all.0, cut-front front bytes all.1) (by_lines (cut bytes).lines (cut bytes).rest)
  where
    by_lines : (lines : List (List ℕ)) (rest : List ℕ)
        → with_byte b (with_front front lines rest).lines (with_front front lines rest).rest
        ≡ with_front (b ∷ front) lines rest
    by_lines [] rest = refl
    by_lines (line ∷ lines) rest = refl

-- ---- the first line of the bytes

pub unbroken-from : (bytes : List ℕ) → ((i : ℕ) → i < length bytes → get_or bytes i 0 ≢ 10) → IsUnbroken bytes
unbroken-from [] each = tt
unbroken-from (b ∷ bytes) each = (
  elim (b == 10) as (λ t. b == 10 ≡ t → t ≡ false) [
    | true ↦ λ is. absurd (each 0 (omega arith) (eqb-true b 10 is))
    | false ↦ λ _. refl
  ] refl,
  unbroken-from bytes (λ i h. each (suc i) (omega arith)),
)

pub unbroken-front : (bytes : List ℕ) (k : ℕ) → k ≤ length bytes → ((i : ℕ) → i < k → get_or bytes i 0 ≢ 10)
    → IsUnbroken (take k bytes)
unbroken-front bytes k within each =
    unbroken-from (take k bytes) (λ i h is.
    let below : i < k = omega (arith, length-take k bytes) in
    each i below (sym (get_or-take k bytes i 0 below) ∙ is))

pub unbroken-before : (window : List ℕ) (len : ℕ) → LineFeedAt window (Some len)
    → IsUnbroken (take len window)
unbroken-before window len at =
    unbroken-front window len (omega (arith, at.0.high))
    (λ i h is. at.0.before i (omega arith) h (eq-eqb _ _ is))

pub unbroken-all : (window : List ℕ) → LineFeedAt window None → IsUnbroken window
unbroken-all window none = unbroken-from window (λ i h is. none i (omega arith) h (eq-eqb _ _ is))

pub window-parts : (window : List ℕ) (len : ℕ) → LineFeedAt window (Some len)
    → window ≡ take len window ++ (10 ∷ drop (len + 1) window)
window-parts window len at =
    let within : len < length window = at.0.high in
    let line_feed : get_or window len 0 ≡ 10 = eqb-true _ _ at.1 in
    sym (take-append-drop len window)
    ∙ ap (λ bytes. take len window ++ bytes)
    (drop_more window len 0 within ∙ ap (λ b. b ∷ drop (len + 1) window) line_feed)

pub cut-line : (line bytes : List ℕ) → IsUnbroken line
    → cut (line ++ (10 ∷ bytes)) ≡ record { lines = line ∷ (cut bytes).lines; rest = (cut bytes).rest }
unfolding cut
cut-line line bytes all = cut-front line (10 ∷ bytes) all ∙ rw (append-nil line) refl

pub cut-unbroken : (bytes : List ℕ) → IsUnbroken bytes → cut bytes ≡ record { lines = []; rest = bytes }
unfolding cut
cut-unbroken bytes all = ap cut (sym (append-nil bytes)) ∙ cut-front bytes [] all ∙ rw (append-nil bytes) refl

pub rest_says-line : {X : Type 0} (format : Format X) (n : ℕ) (before : X) (line bytes : List ℕ)
    → IsUnbroken line → length line ≤ max_line
    → rest_says format n before (line ++ (10 ∷ bytes))
    ≡ go_on n (format.adds n before line) (λ after. rest_says format (n + 1) after bytes)
unfolding from_line
rest_says-line format n before line bytes all short =
    let not_long : is_long line ≡ false = grind arith in
    rw (cut-line line bytes all, not_long) refl

pub rest_says-end : {X : Type 0} (format : Format X) (n : ℕ) (before : X) (bytes : List ℕ) → IsUnbroken bytes
    → rest_says format n before bytes ≡ go_on n (end_adds n before bytes) Ok
unfolding from_line
rest_says-end format n before bytes all = rw (cut-unbroken bytes all) refl

pub rest_says-long : {X : Type 0} (format : Format X) (n : ℕ) (before : X) (front bytes : List ℕ)
    → IsUnbroken front → max_line < length front
    → rest_says format n before (front ++ bytes) ≡ Err (fault_in n LineTooLong)
unfolding from_line
rest_says-long format n before front bytes all long =
    rw (cut-front front bytes all) (by_lines (cut bytes).lines (cut bytes).rest)
  where
    over : (more : List ℕ) → is_long (front ++ more) ≡ true
    over more = let len = length-append front more in grind arith

    by_lines : (lines : List (List ℕ)) (rest : List ℕ)
        → from_line format n before (with_front front lines rest).lines (with_front front lines rest).rest
        ≡ Err (fault_in n LineTooLong)
    by_lines [] rest = rw (over rest) refl
    by_lines (line ∷ lines) rest = rw (over line) refl

-- ---- how many lines there are

pub line_feeds-lines : (bytes : List ℕ) → line_feeds bytes ≡ length (cut bytes).lines
unfolding cut
line_feeds-lines [] = refl
line_feeds-lines (b ∷ bytes) =
    sum_by-cons (λ (b : ℕ). cond (b == 10) 1 0) b bytes
    ∙ elim (b == 10) as
    (λ t.
    cond t 1 0 + line_feeds bytes
    ≡ length
    (cond t (record { lines = [] ∷ (cut bytes).lines; rest = (cut bytes).rest })
    (with_byte b (cut bytes).lines (cut bytes).rest)).lines) [
      | true ↦ omega (arith, line_feeds-lines bytes)
      | false ↦ omega (arith, line_feeds-lines bytes, by_lines (cut bytes).lines (cut bytes).rest)
    ]
  where
    by_lines : (lines : List (List ℕ)) (rest : List ℕ) → length (with_byte b lines rest).lines ≡ length lines
    by_lines [] rest = refl
    by_lines (line ∷ lines) rest = refl

-- ---- the lines of bytes that are put together

-- the lines of bytes that end with a line feed, and of what comes after them
cut-append : (front bytes : List ℕ)
    → (cut ((front ++ (10 ∷ [])) ++ bytes)).lines ≡ (cut (front ++ (10 ∷ []))).lines ++ (cut bytes).lines
unfolding cut
cut-append [] bytes = refl
cut-append (b ∷ front) bytes =
    let ended = sum_by-append (λ (b : ℕ). cond (b == 10) 1 0) front (10 ∷ []) in
    let some : 0 < length (cut (front ++ (10 ∷ []))).lines =
    omega (arith, line_feeds-lines (front ++ (10 ∷ [])), ended) in
    rw (cut-append front bytes)
    (by (b == 10) (cut (front ++ (10 ∷ []))).lines (cut bytes).lines
    (cut ((front ++ (10 ∷ [])) ++ bytes)).rest (cut (front ++ (10 ∷ []))).rest some)
  where
    by : (t : Bool) (first more : List (List ℕ)) (rest rest' : List ℕ) → 0 < length first
        → (cond t (record { lines = [] ∷ (first ++ more); rest = rest })
        (with_byte b (first ++ more) rest)).lines
        ≡ (cond t (record { lines = [] ∷ first; rest = rest' }) (with_byte b first rest')).lines ++ more
    by true first more rest rest' some = refl
    by false [] more rest rest' some = absurd (omega arith)
    by false (line ∷ first) more rest rest' some = refl

-- the same where there may be none before
pub cut-after : (before bytes : List ℕ) → (before ≡ []) ⊎ ((front : List ℕ) × (before ≡ front ++ 10 ∷ []))
    → (cut (before ++ bytes)).lines ≡ (cut before).lines ++ (cut bytes).lines
unfolding cut
cut-after before bytes (inl none) = rw none refl
cut-after before bytes (inr (front, is)) = rw is (cut-append front bytes)

-- ---- the first fault

fault_not_ok : {X : Type 0} (x : X) (f : ReadFault) → ◌≡◌ {A = Result X ReadFault} (Ok x) (Err f) → ⊥
fault_not_ok x f h = cc

go_on-later : {X : Type 0} (n : ℕ) (r : Result X ReadCause) (next : X → Result X ReadFault) (f : ReadFault)
    → go_on n r next ≡ Err f → ((x : X) → next x ≡ Err f → n ≤ f.line) → n ≤ f.line
go_on-later n (Err cause) next f e later =
    let same : fault_in n cause ≡ f = cc in omega (arith, ap (λ (g : ReadFault). g.line) same)
go_on-later n (Ok x) next f e later = later x e

-- a fault from line n on is of that line or a later one
pub said_later : {X : Type 0} (format : Format X) (n : ℕ) (before : X) (lines : List (List ℕ)) (rest : List ℕ)
    (f : ReadFault)
    → from_line format n before lines rest ≡ Err f → n ≤ f.line
unfolding from_line
said_later format n before [] rest f e =
    go_on-later n (end_adds n before rest) Ok f e (λ x more. absurd (fault_not_ok x f more))
said_later format n before (line ∷ lines) rest f e =
    go_on-later n (line_adds format n before line) (λ x. from_line format (n + 1) x lines rest) f e
    (λ x more. let low = said_later format (n + 1) x lines rest f more in omega arith)
