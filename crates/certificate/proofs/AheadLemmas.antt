-- What a reading on several workers has in hand, from step to step.
use Rattle.std.proofs.Common.{◌≡◌, ◌≢◌, ℕ, ◌+◌, ◌<◌, ◌≤◌, Bool, true, false, List, [], ◌∷◌, ◌++◌, length}
use Rattle.std.proofs.Common.{Option, Some, None, Result, Ok, Err, arith, refl, sym, ap, ◌∙◌, subst, inl, inr}
use Rattle.std.proofs.Common.{append-nil, append_assoc, length-append}
use Rattle.std.specs.Prelude.{OnOk}
use Rattle.std.specs.Global.{Vec}
use Rattle.std.specs.Result.{result_err}
use Rattle.std.specs.Io.KnownBytes.{Keeps, IsAtEnd, prepend_known}
use Rattle.ompt_events.specs.Traces.{TraceView}
use Rattle.lines.specs.declared.cause.ReadCause.{ReadCause}
use Rattle.lines.specs.declared.cause.ReadCause.TheVariants.{Memory}
use Rattle.certificate.specs.declared.ahead.Ahead.{Ahead}
use Rattle.certificate.specs.declared.pieces.Piece.{Piece}
use Rattle.certificate.specs.Limits.{newest_version}
use Rattle.certificate.specs.Counts.{TakesTurns, breaks_told}
use Rattle.certificate.specs.Formats.{line_feeds}
use Rattle.certificate.specs.Files.{no_trace, traces}
use Rattle.certificate.specs.Pieces.{IsWholeLines, AreJudged}
use Rattle.certificate.specs.Windows.{LineFeedAt}
use Rattle.certificate.specs.Blocks.{BlockView}
use Rattle.certificate.specs.ReadingOn.{IsBetweenLines, IsToldAfter, IsReadToEnd, ReadsAhead}
use Rattle.certificate.specs.Ahead.{Waits, IsToldNext, IsAfterStep, SameSource, SameLines, ArePiecesAdded}
use Rattle.certificate.specs.Ahead.{IsRefilled, WorkedBeside, HasMet, MeetsMore}
use Rattle.certificate.proofs.CountLemmas.{TakesTurns-more}
use Rattle.certificate.proofs.PieceLemmas.{no_memory}
use Rattle.certificate.proofs.ReadingLemmas.{line_feeds-append, line_feeds-one, line_feeds-unbroken}
use Rattle.certificate.proofs.ReadingLemmas.{IsBetween-keeps, IsBetween-start}
use Rattle.certificate.proofs.FileLemmas.{unbroken-all}

-- ---- bytes

pub whole_feeds : (xs : List ℕ) → IsWholeLines xs → 0 < length xs → 0 < line_feeds xs
whole_feeds xs (inl none) some = absurd (omega (arith, ap length none))
whole_feeds xs (inr last) some =
    omega (arith, ap line_feeds last.1, line_feeds-append last.0 (10 ∷ []), line_feeds-one [] [] tt)

-- whole lines with no line feed
pub whole_none : (xs : List ℕ) → IsWholeLines xs → LineFeedAt xs None → xs ≡ []
whole_none [] whole none = refl
whole_none (x ∷ xs) whole none =
    absurd
    (omega (
      arith,
      whole_feeds (x ∷ xs) whole (omega arith),
      line_feeds-unbroken (x ∷ xs) (unbroken-all (x ∷ xs) none),
    ))

-- the same bytes in front of both
pub Keeps-front : (front w w' : List ℕ) (left left' : Option (List ℕ))
    → Keeps (prepend_known w left) (prepend_known w' left')
    → Keeps (prepend_known (front ++ w) left) (prepend_known (front ++ w') left')
Keeps-front front w w' None left' keeps = tt
Keeps-front front w w' (Some l) None keeps = absurd keeps
Keeps-front front w w' (Some l) (Some l') keeps =
    append_assoc front w' l' ∙ ap (λ xs. front ++ xs) keeps ∙ sym (append_assoc front w l)

-- ---- what waits after the pieces were added, and the block was filled

pub record Next {L : Type 0} (known left : Option (List ℕ)) (room : ℕ) (front : List ℕ) (new : Ahead L) :
    Type 0 where
  pub between : IsBetweenLines known new.line new.kept (front ++ new.block.waiting) left
  pub few : length (front ++ new.block.waiting) ≤ room
  pub end : new.filled ≡ Ok false → IsAtEnd left

next_between : {L : Type 0} (known left left' : Option (List ℕ)) (room : ℕ) (front : List ℕ)
    (old middle new : Ahead L)
    (u : Unit {0})
    → ArePiecesAdded (Ok u) old middle → SameSource old middle → IsRefilled middle new left left'
    → Waits known left room front old
    → IsBetweenLines known new.line new.kept (front ++ new.block.waiting) left'
next_between known left left' room front old middle new u added same re waits =
    let there : IsBetweenLines known middle.line middle.kept (front ++ old.block.waiting) left =
    added.between waits.bytes (front ++ old.block.waiting) known left room waits.judged waits.few
    waits.between in
    let keeps : Keeps (prepend_known old.block.waiting left) (prepend_known new.block.waiting left') =
    rw same.block at re.keeps in
    rw (re.lines.line, re.lines.kept)
    (IsBetween-keeps (traces newest_version) known middle.line middle.kept (front ++ old.block.waiting)
    (front ++ new.block.waiting) left left'
    (Keeps-front front old.block.waiting new.block.waiting left left' keeps) there)

next_few : {L : Type 0} (known left left' : Option (List ℕ)) (room limit : ℕ) (front : List ℕ)
    (old middle new : Ahead L)
    (asks : Bool)
    → asks ≡ old.asks → length front ≤ limit → old.block.limit ≡ limit → limit + limit ≤ room
    → SameSource old middle → IsRefilled middle new left left' → Waits known left room front old
    → length (front ++ new.block.waiting) ≤ room
next_few known left left' room limit front old middle new true is few same_limit all same re waits =
    let filled : length new.block.waiting ≤ new.block.limit = re.few (same.asks ∙ sym is) in
    omega (arith, filled, re.limit, ap (λ b. b.limit) same.block, length-append front new.block.waiting)
next_few known left left' room limit front old middle new false is few same_limit all same re waits =
    let none = re.unasked (same.asks ∙ sym is) in
    omega (
      arith,
      waits.few,
      length-append waits.bytes (front ++ old.block.waiting),
      length-append front old.block.waiting,
      length-append front new.block.waiting,
      ap (λ b. length b.waiting) none.0.block,
      ap (λ b. length b.waiting) same.block,
    )

next_end : {L : Type 0} (known left left' : Option (List ℕ)) (room : ℕ) (front : List ℕ)
    (old middle new : Ahead L)
    (asks : Bool)
    → asks ≡ old.asks → SameSource old middle → IsRefilled middle new left left'
    → Waits known left room front old → new.filled ≡ Ok false → IsAtEnd left'
next_end known left left' room front old middle new true is same re waits end =
    re.end (same.asks ∙ sym is) end
next_end known left left' room front old middle new false is same re waits end =
    let none = re.unasked (same.asks ∙ sym is) in
    rw none.1 (waits.end (sym same.filled ∙ sym none.0.filled ∙ end))

pub next_waits : {L : Type 0} (known left left' : Option (List ℕ)) (room limit : ℕ) (front : List ℕ)
    (old new : Ahead L)
    (u : Unit {0})
    → length front ≤ limit → old.block.limit ≡ limit → limit + limit ≤ room
    → WorkedBeside (Ok u) old new left left' → Waits known left room front old
    → Next known left' room front new
next_waits known left left' room limit front old new u few same_limit all worked waits = record {
  between = next_between known left left' room front old worked.0 new u worked.1 worked.2 worked.3 waits;
  few =
      next_few known left left' room limit front old worked.0 new old.asks refl few same_limit all worked.2
      worked.3 waits;
  end = next_end known left left' room front old worked.0 new old.asks refl worked.2 worked.3 waits;
}

-- ---- what is told

-- memory ran out for what waits
pub waits_memory : {L : Type 0} (known left : Option (List ℕ)) (room : ℕ) (front : List ℕ) (ahead : Ahead L)
    → Waits known left room front ahead → IsToldNext Memory known left room ahead
waits_memory known left room front ahead waits =
    no_memory known ahead.line room ahead.kept (waits.bytes ++ (front ++ ahead.block.waiting)) left waits.few
    waits.between

pub next_memory : {L : Type 0} (known left : Option (List ℕ)) (room : ℕ) (front : List ℕ) (new : Ahead L)
    → Next known left room front new → IsToldNext Memory known left room new
next_memory known left room front new next =
    no_memory known new.line room new.kept (front ++ new.block.waiting) left next.few next.between

-- ---- what waits after the bytes after the whole lines were moved

pub waits_parted : {L : Type 0} (known left : Option (List ℕ)) (room : ℕ) (front front' : List ℕ)
    (old new : Ahead L)
    → old.block.waiting ≡ [] → front ≡ front' ++ new.block.waiting → SameLines old new
    → new.filled ≡ old.filled → Waits known left room front old → Waits known left room front' new
waits_parted known left room front front' old new none parts same filled waits =
    let all : front ++ old.block.waiting ≡ front' ++ new.block.waiting =
    ap (λ xs. front ++ xs) none ∙ append-nil front ∙ parts in
    record {
      bytes = waits.bytes;
      judged = rw (same.kept, same.pieces) waits.judged;
      between = rw (same.line, same.kept) (rw all at waits.between);
      few = rw all at waits.few;
      end = λ end. waits.end (sym filled ∙ end);
    }

-- ---- the first lines, before any piece

pub record First {L : Type 0} (known left : Option (List ℕ)) (room : ℕ) (front : List ℕ) (ahead : Ahead L)
    : Type 0 where
  pub between : IsBetweenLines known ahead.line ahead.kept (front ++ ahead.block.waiting) left
  pub few : length (front ++ ahead.block.waiting) ≤ room

pub waits_first : {L : Type 0} (known left : Option (List ℕ)) (room : ℕ) (front : List ℕ) (ahead : Ahead L)
    → ahead.pieces.items ≡ [] → Waits known left room front ahead → First known left room front ahead
waits_first known left room front ahead none waits =
    let empty : waits.bytes ≡ [] =
    subst (λ (ps : List Piece). AreJudged ahead.kept.version ps waits.bytes) none waits.judged in
    record { between = rw empty at waits.between; few = rw empty at waits.few }

-- ---- the source

pub HasMet-same : {L : Type 0} (old new : Ahead L) (t a b a' b' : ℕ) → new.turns ≡ old.turns → new.filled ≡
    old.filled
    → HasMet old t a b a' b' → HasMet new t a b a' b'
HasMet-same old new t a b a' b' turns filled met = record {
  taken = rw (turns, filled) met.taken;
  broken = rw filled met.broken;
}

pub HasMet-more : {L : Type 0} (old new : Ahead L) (a a' b b' : ℕ) → old.filled ≡ Ok true
    → TakesTurns (result_err new.filled) old.turns new.turns a a' → b' ≡ breaks_told (result_err new.filled) b
    → MeetsMore old new a a' b b'
HasMet-more old new a a' b b' more taken broken t first_a first_b met =
    let before : TakesTurns None t old.turns first_a a =
    subst (λ (f : Result Bool ReadCause). TakesTurns (result_err f) t old.turns first_a a) more
    met.taken in
    let unbroken : b ≡ first_b =
    subst (λ (f : Result Bool ReadCause). b ≡ breaks_told (result_err f) first_b) more met.broken in
    record {
      taken = TakesTurns-more (result_err new.filled) t old.turns new.turns first_a a a' before taken;
      broken = broken ∙ ap (breaks_told (result_err new.filled)) unbroken;
    }

-- ---- the end

pub ended_step : {L : Type 0} (known left : Option (List ℕ)) (room n : ℕ) (kept : TraceView) (front : List ℕ)
    (ahead : Ahead L) (r : Result (Unit {0}) ReadCause)
    → ahead.line ≡ n → n ≡ 1 → OnOk r (n ≢ 1) → IsReadToEnd r known n kept room left
    → IsAfterStep r known left room front ahead
ended_step known left room n kept front ahead (Ok u) line first later ended = absurd (later first)
ended_step known left room n kept front ahead (Err cause) line first later ended = rw line ended

-- the last pieces were added
pub added_last : {L : Type 0} (known left : Option (List ℕ)) (room : ℕ) (front : List ℕ)
    (old new : Ahead L) (u : Unit {0})
    → old.block.waiting ≡ [] → ArePiecesAdded (Ok u) old new → Waits known left room front old
    → IsBetweenLines known new.line new.kept front left
added_last known left room front old new u none added waits =
    let all : front ++ old.block.waiting ≡ front = ap (λ xs. front ++ xs) none ∙ append-nil front in
    rw all
    at
    (added.between waits.bytes (front ++ old.block.waiting) known left room waits.judged waits.few
    waits.between)

pub front_few : {L : Type 0} (known left : Option (List ℕ)) (room : ℕ) (front : List ℕ) (old : Ahead L)
    → Waits known left room front old → length front ≤ room
front_few known left room front old waits =
    omega (
      arith,
      waits.few,
      length-append waits.bytes (front ++ old.block.waiting),
      length-append front old.block.waiting,
    )

pub added_fault : {L : Type 0} (known left : Option (List ℕ)) (room : ℕ) (front : List ℕ) (old new : Ahead L)
    (cause : ReadCause)
    → ArePiecesAdded (Err cause) old new → Waits known left room front old
    → IsToldNext cause known left room new
added_fault known left room front old new cause added waits =
    added.between waits.bytes (front ++ old.block.waiting) known left room waits.judged waits.few
    waits.between

-- ---- the start

pub start_waits : {L : Type 0} (known left : Option (List ℕ)) (room : ℕ) (front : List ℕ) (ahead : Ahead L)
    → ahead.line ≡ 1
    → ahead.kept ≡ no_trace → ahead.pieces.items ≡ [] → ahead.block.waiting ≡ []
    → Keeps (prepend_known [] known) (prepend_known front left) → length front ≤ room
    → (ahead.filled ≡ Ok false → IsAtEnd left) → Waits known left room front ahead
start_waits known left room front ahead line kept pieces none keeps few end =
    let all : front ++ ahead.block.waiting ≡ front = ap (λ xs. front ++ xs) none ∙ append-nil front in
    let there : IsBetweenLines known 1 no_trace front left =
    IsBetween-keeps (traces newest_version) known 1 no_trace [] front known left keeps
    (IsBetween-start (traces newest_version) known) in
    record {
      bytes = [];
      judged = subst (λ (ps : List Piece). AreJudged ahead.kept.version ps []) (sym pieces) refl;
      between = rw (all, line, kept) there;
      few = rw all few;
      end = end;
    }

-- ---- after a round

-- what was judged comes next, and what was filled is in front
pub turned_waits : {L : Type 0} (known left : Option (List ℕ)) (room : ℕ) (front : List ℕ)
    (new last : Ahead L)
    → Next known left room front new → AreJudged new.kept.version last.pieces.items front
    → last.line ≡ new.line → last.kept ≡ new.kept → last.block.waiting ≡ [] → last.filled ≡ new.filled
    → Waits known left room new.block.waiting last
turned_waits known left room front new last next judged line kept none filled =
    let all : new.block.waiting ++ last.block.waiting ≡ new.block.waiting =
    ap (λ xs. new.block.waiting ++ xs) none ∙ append-nil new.block.waiting in
    record {
      bytes = front;
      judged = rw kept judged;
      between = rw (all, line, kept) next.between;
      few = rw all next.few;
      end = λ end. next.end (sym filled ∙ end);
    }

-- the version of what is kept is the same
pub worked_version : {L : Type 0} (left left' : Option (List ℕ)) (old new : Ahead L) (u : Unit {0})
    → WorkedBeside (Ok u) old new left left' → new.kept.version ≡ old.kept.version
worked_version left left' old new u worked =
    ap (λ (t : TraceView). t.version) worked.3.lines.kept ∙ worked.1.version

pub added_fault_known : {L : Type 0} (known left left' : Option (List ℕ)) (room : ℕ) (front : List ℕ)
    (old new : Ahead L)
    (cause : ReadCause)
    → WorkedBeside (Err cause) old new left left' → Waits known left room front old
    → IsToldNext cause known left' room new
added_fault_known known left left' room front old new cause worked waits =
    rw worked.2 (added_fault known left room front old new cause worked.0 waits)

-- what the source did, at the end of a reading
pub reads_ahead : {L : Type 0} (told : Option ReadCause) (ahead : Ahead L) (a b a' b' : ℕ) → HasMet ahead 0
    a b a' b'
    → IsToldAfter (result_err ahead.filled) told → (turns : ℕ) × ReadsAhead told 0 turns a a' b b'
reads_ahead told ahead a b a' b' met after = (
  ahead.turns,
  record {
    met = result_err ahead.filled;
    taken = met.taken;
    broken = met.broken;
    told_after = after;
  },
)

-- ---- parts of a state that are set

-- the source has given this answer, after so many turns
abbrev pub with_answer : {L : Type 0} → Ahead L → ℕ → Result Bool ReadCause → Ahead L
with_answer old turns answer = record {
  line = old.line;
  kept = old.kept;
  pieces = old.pieces;
  block = old.block;
  turns = turns;
  filled = answer;
  asks = old.asks;
}

-- these pieces come next, and this block is filled next
abbrev pub with_pieces : {L : Type 0} → Ahead L → Vec Piece → BlockView → Ahead L
with_pieces old pieces block = record {
  line = old.line;
  kept = old.kept;
  pieces = pieces;
  block = block;
  turns = old.turns;
  filled = old.filled;
  asks = old.asks;
}
