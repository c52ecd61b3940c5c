-- Bytes that go out piece by piece.
use Rattle.std.proofs.Common.{ℕ, ◌≡◌, ◌<◌, ◌≤◌, ◌+◌, List, [], ◌∷◌, ◌++◌, length, map, get_or, take, drop}
use Rattle.std.proofs.Common.{Option, None, Some, Result, Ok, Err, sym, ap, subst, ◌∙◌, append-nil}
use Rattle.std.proofs.Common.{append_assoc}
use Rattle.std.proofs.lemmas.Grind.{flat_map-append}
use Rattle.std.proofs.lemmas.List.{map-append, take_more, take_all, take-append-drop}
use Rattle.std.specs.Prelude.{OnErr}
use Rattle.std.specs.Io.KnownBytes.{Appends}
use Rattle.ompt_events.specs.declared.records.Record.{Record}
use Rattle.lines.specs.Texts.{header_line, line_of}
use Rattle.certificate.specs.TraceTexts.{ended_lines}
use Rattle.std.proofs.Math.Seq.{take-add, take-append_seam}

pub Appends-none : (a : Option (List ℕ)) → Appends a a []
Appends-none None = tt
Appends-none (Some xs) = sym (append-nil xs)

pub Appends-more : (a b c : Option (List ℕ)) (bytes : List ℕ) (at n : ℕ) → Appends a b (take at bytes)
    → Appends b c (take n (drop at bytes)) → Appends a c (take (at + n) bytes)
Appends-more None b c bytes at n first next = tt
Appends-more (Some xs) None c bytes at n first next = absurd first
Appends-more (Some xs) (Some ys) None bytes at n first next = absurd next
Appends-more (Some xs) (Some ys) (Some zs) bytes at n first next =
    next ∙ ap (λ l. l ++ take n (drop at bytes)) first
    ∙ append_assoc xs (take at bytes) (take n (drop at bytes))
    ∙ ap (λ l. xs ++ l) (sym (take-add at n bytes))

-- bytes after bytes
pub Appends-both : (a b c : Option (List ℕ)) (xs ys : List ℕ) → Appends a b xs → Appends b c ys
    → Appends a c (xs ++ ys)
Appends-both None b c xs ys first next = tt
Appends-both (Some old) None c xs ys first next = absurd first
Appends-both (Some old) (Some bs) None xs ys first next = absurd next
Appends-both (Some old) (Some bs) (Some cs) xs ys first next =
    next ∙ ap (λ l. l ++ ys) first ∙ append_assoc old xs ys

-- ---- the text of a trace, line after line

-- one more line waits
pub text-more : (version : ℕ) (sent block more : List ℕ) (rs : List Record) (i : ℕ) (r : Record)
    → sent ++ block ≡ ended_lines (header_line version ∷ map line_of (take i rs)) → i < length rs
    → r ≡ get_or rs i r → more ≡ block ++ (line_of r ++ 10 ∷ [])
    → sent ++ more ≡ ended_lines (header_line version ∷ map line_of (take (i + 1) rs))
text-more version sent block more rs i r text within read is =
    ap (λ l. sent ++ l) is ∙ sym (append_assoc sent block (line_of r ++ 10 ∷ []))
    ∙ ap (λ l. l ++ (line_of r ++ 10 ∷ [])) text
    ∙ ap (λ l. ended_lines (header_line version ∷ map line_of (take i rs)) ++ l)
    (sym (append-nil (line_of r ++ 10 ∷ [])))
    ∙ sym
    (flat_map-append (λ line. line ++ 10 ∷ []) (header_line version ∷ map line_of (take i rs))
    (line_of r ∷ []))
    ∙ ap (λ lines. ended_lines (header_line version ∷ lines))
    (sym (map-append line_of (take i rs) (r ∷ []))
    ∙ ap (map line_of) (sym (take_more rs i r within ∙ ap (λ q. take i rs ++ q ∷ []) (sym read))))

-- what went out and a part of what waits is a part of the whole
text-prefix : (version : ℕ) (sent block : List ℕ) (rs : List Record) (i n : ℕ)
    → sent ++ block ≡ ended_lines (header_line version ∷ map line_of (take i rs))
    → sent ++ take n block
    ≡ take (length (sent ++ take n block)) (ended_lines (header_line version ∷ map line_of rs))
text-prefix version sent block rs i n text =
    sym
    (ap (take (length (sent ++ take n block))) whole
    ∙ take-append_seam (sent ++ take n block) (drop n block ++ rest))
  where
    rest : List ℕ
    rest = ended_lines (map line_of (drop i rs))

    cut_in_two : sent ++ block ≡ (sent ++ take n block) ++ drop n block
    cut_in_two =
        ap (λ l. sent ++ l) (sym (take-append-drop n block))
        ∙ sym (append_assoc sent (take n block) (drop n block))

    whole : ended_lines (header_line version ∷ map line_of rs)
        ≡ (sent ++ take n block) ++ (drop n block ++ rest)
    whole =
        ap (λ list. ended_lines (header_line version ∷ map line_of list)) (sym (take-append-drop i rs))
        ∙ ap (λ lines. ended_lines (header_line version ∷ lines)) (map-append line_of (take i rs) (drop i rs))
        ∙ flat_map-append (λ line. line ++ 10 ∷ []) (header_line version ∷ map line_of (take i rs))
        (map line_of (drop i rs))
        ∙ ap (λ l. l ++ rest) (sym text ∙ cut_in_two)
        ∙ append_assoc (sent ++ take n block) (drop n block) rest

pub part-out : (version : ℕ) (a b c : Option (List ℕ)) (sent block : List ℕ) (rs : List Record) (i n : ℕ)
    → sent ++ block ≡ ended_lines (header_line version ∷ map line_of (take i rs)) → Appends a b sent
    → Appends b c (take n block)
    → (m : ℕ) × Appends a c (take m (ended_lines (header_line version ∷ map line_of rs)))
part-out version a b c sent block rs i n text first next = (
  length (sent ++ take n block),
  (let P : List ℕ → Type 0 = λ bytes. Appends a c bytes in
      subst P (text-prefix version sent block rs i n text)
      (Appends-both a b c sent (take n block) first next)),
)

pub sent-out : (version : ℕ) (a b : Option (List ℕ)) (sent block : List ℕ) (rs : List Record) (i : ℕ)
    → sent ++ block ≡ ended_lines (header_line version ∷ map line_of (take i rs)) → Appends a b sent
    → (m : ℕ) × Appends a b (take m (ended_lines (header_line version ∷ map line_of rs)))
sent-out version a b sent block rs i text first =
    part-out version a b b sent block rs i 0 text first (Appends-none b)

-- all the lines are the text
pub whole-out : (version : ℕ) (a b c : Option (List ℕ)) (sent block : List ℕ) (rs : List Record) (i : ℕ)
    → sent ++ block ≡ ended_lines (header_line version ∷ map line_of (take i rs)) → length rs ≤ i
    → Appends a b sent
    → Appends b c block → Appends a c (ended_lines (header_line version ∷ map line_of rs))
whole-out version a b c sent block rs i text all first next =
    let P : List ℕ → Type 0 = λ bytes. Appends a c bytes in
    subst P (text ∙ ap (λ list. ended_lines (header_line version ∷ map line_of list)) (take_all i rs all))
    (Appends-both a b c sent block first next)

-- what holds anyway holds where the answer is a fault
pub on_err : {A E : Type 0} (r : Result A E) (P : Type 0) → P → OnErr r P
on_err (Ok x) P holds = tt
on_err (Err e) P holds = holds
