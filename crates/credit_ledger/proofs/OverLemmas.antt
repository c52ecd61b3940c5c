-- Where the entries hold a span, no further entry comes under it.
use Rattle.std.proofs.Common.{◌≡◌, ◌∙◌, ℕ, zero, suc, ◌≤◌, Bool, true, false, cond, List, [], ◌∷◌, ◌++◌}
use Rattle.std.proofs.Common.{length, replicate, fold, Some, refl, sym, ap, subst, arith, inl, inr}
use Rattle.std.proofs.Common.{length-append}
use Rattle.std.specs.Prelude.{◌==◌, slice_get}
use Rattle.std.specs.List.{list_any}
use Rattle.std.proofs.lemmas.Bool.{and_from, or_cases, false≢true, cases_lt, eqb-true, eq-eqb, or_left}
use Rattle.std.proofs.lemmas.Bool.{or_right}
use Rattle.std.proofs.lemmas.Option.{none-some, same_Some, slice_get_past}
use Rattle.std.proofs.lemmas.List.{append_assoc, length-replicate, length_push}
use Rattle.std.proofs.lemmas.List.Folds.{list_any-from_Any}
use Rattle.std.proofs.lemmas.List.Elements.{All-from_recursion}
use Rattle.ompt_events.proofs.ListLemmas.{get_pushed, get_last}
use Rattle.credit_ledger.specs.declared.share.Half.{Half}
use Rattle.credit_ledger.specs.declared.share.Half.TheVariants.{Keep}
use Rattle.credit_ledger.specs.Shares.{begins_with, overlaps, start_share, finish_share, Hold}
use Rattle.credit_ledger.proofs.HalvedLemmas.{IsAsLong, begins_with-longer, length-begins_with}
use Rattle.credit_ledger.proofs.HoldLemmas.{begins_with-either, span as halves_of, IsAsLong-span}
use Rattle.credit_ledger.proofs.HoldLaw.{HasAllOf, Hold-within}
use Rattle.credit_ledger.proofs.RunLemmas.{start_share-append}
use Rattle.credit_ledger.specs.declared.entry.Entry.{Entry}
use Rattle.credit_ledger.specs.declared.entry.Span.{Span}
use Rattle.credit_ledger.specs.declared.entry.Cover.TheVariants.{Descendants}
use Rattle.credit_ledger.specs.declared.view.Call.{Call}
use Rattle.credit_ledger.specs.declared.view.Call.TheVariants.{Enter, Look}
use Rattle.credit_ledger.specs.declared.view.Step.{Step}
use Rattle.credit_ledger.specs.Entries.{part_halves, tree_share, tree_shares, is_overlap, IsSpanHeld}
use Rattle.credit_ledger.specs.Histories.{after_call, IsPossible, IsLegalFrom, IsUnder, IsOver}
use Rattle.credit_ledger.proofs.RegionLemmas.{IsShareIn, IsShareIn-append_cases, Passes, passes}
use Rattle.credit_ledger.proofs.RegionLemmas.{Passes-list_any}
use Rattle.credit_ledger.proofs.CodeLemmas.{cond_in}

-- ---- the shares of a root's entries

-- the entry is one of them
abbrev pub HasEntry : List Entry → Entry → Type 0
HasEntry entries e = (k : ℕ) × (slice_get entries k ≡ Some e)

pub has_later : (f e : Entry) (entries : List Entry) → HasEntry entries e → HasEntry (f ∷ entries) e
has_later f e entries (k, is) = (suc k, is)

pub from_tree : (root : ℕ) (entries : List Entry) (x : List Half) → IsShareIn x (tree_shares root entries)
    → (e : Entry) × HasEntry entries e × (e.root ≡ root) × (x ≡ tree_share e)
from_tree root [] x there = absurd there
from_tree root (f ∷ entries) x there =
    elim
    (IsShareIn-append_cases x (cond (f.root == root) (tree_share f ∷ []) []) (tree_shares root entries)
    there) [
      | inl here ↦
          let is = cond_in (f.root == root) x (tree_share f) here in
          (f, (0, refl), eqb-true f.root root is.0, is.1)
      | inr rest ↦
          let found = from_tree root entries x rest in
          (found.0, has_later f found.0 entries found.1, found.2, found.3)
    ]

-- a long list of halves that begins with a held share begins with one of the shares
pub held_begins : (shares : List (List Half)) (s l : List Half) → Hold shares s → begins_with l s ≡ true
    → halves_of shares ≤ length l → Passes (λ t. begins_with l t) shares
held_begins shares s l held begins long =
    Passes-list_any (λ t. begins_with l t) shares
    (list_any-from_Any (λ t. begins_with l t) shares
    (held l begins
    (All-from_recursion (IsAsLong l) (s ∷ shares)
    (length-begins_with l s begins, IsAsLong-span l shares long))))

-- ---- an entry under a held span overlaps another one

any_at : (p : Entry → Bool) (entries : List Entry) (e : Entry) → HasEntry entries e → p e ≡ true
    → list_any p entries ≡ true
any_at p [] e (k, is) fits = absurd (none-some e is)
any_at p (f ∷ entries) e (zero, is) fits = or_left _ _ (ap p (same_Some f e is) ∙ fits)
any_at p (f ∷ entries) e (suc k, is) fits = or_right (p f) _ (any_at p entries e (k, is) fits)

overlaps_entry : (e f : Entry) → e.root ≡ f.root → overlaps (tree_share e) (tree_share f) ≡ true
    → is_overlap e f ≡ true
overlaps_entry e f same over = and_from _ _ (eq-eqb e.root f.root same) (or_left _ _ over)

under_overlaps : (entries : List Entry) (s : Span) (f : Entry) → IsSpanHeld entries s Descendants
    → IsUnder s f → list_any (is_overlap f) entries ≡ true
under_overlaps entries s f held under =
    let number : ℕ = under.number in
    let more : List ℕ = under.more in
    let shares : List (List Half) = tree_shares s.root entries in
    let start : List Half = start_share (s.path ++ number ∷ []) in
    let fill : List Half = replicate (halves_of shares) Keep in
    let path : f.path ≡ (s.path ++ number ∷ []) ++ more =
    under.path ∙ sym (append_assoc s.path (number ∷ []) more) in
    let parts : tree_share f ≡ start ++ ((start_share more ++ replicate f.kept Keep) ++ part_halves f.part) =
    ap (λ p. finish_share p f.kept ++ part_halves f.part) path
    ∙ ap (λ x. (x ++ replicate f.kept Keep) ++ part_halves f.part)
    (start_share-append (s.path ++ number ∷ []) more)
    ∙ ap (λ x. x ++ part_halves f.part) (append_assoc start (start_share more) (replicate f.kept Keep))
    ∙ append_assoc start (start_share more ++ replicate f.kept Keep) (part_halves f.part) in
    let whole : tree_share f ++ fill
    ≡ start ++ (((start_share more ++ replicate f.kept Keep) ++ part_halves f.part) ++ fill) =
    ap (λ x. x ++ fill) parts
    ∙ append_assoc start ((start_share more ++ replicate f.kept Keep) ++ part_halves f.part) fill in
    let begins : begins_with (tree_share f ++ fill) start ≡ true =
    subst (λ x. begins_with x start ≡ true) (sym whole)
    (begins_with-longer start
    (((start_share more ++ replicate f.kept Keep) ++ part_halves f.part) ++ fill)) in
    let all = length-append (tree_share f) fill in
    let filled = length-replicate (halves_of shares) Keep in
    one
    (held_begins shares start (tree_share f ++ fill) (held number under.from_there under.to_there) begins
    (omega (arith, all, filled)))
  where
    one : Passes
        (λ t. begins_with (tree_share f ++ replicate (halves_of (tree_shares s.root entries)) Keep) t)
        (tree_shares s.root entries)
        → list_any (is_overlap f) entries ≡ true
    one (passes x there begun) =
        let found = from_tree s.root entries x there in
        let P : List Half → Type 0 = λ t. overlaps (tree_share f) t ≡ true in
        let over : overlaps (tree_share f) x ≡ true =
        elim
        (begins_with-either (tree_share f ++ replicate (halves_of (tree_shares s.root entries)) Keep)
        (tree_share f) x
        (begins_with-longer (tree_share f)
        (replicate (halves_of (tree_shares s.root entries)) Keep))
        begun) [
          | inl first ↦ or_left _ _ first
          | inr second ↦ or_right (begins_with (tree_share f) x) _ second
        ] in
        any_at (is_overlap f) entries found.0 found.1
        (overlaps_entry f found.0 (under.same_root ∙ sym found.2) (subst P found.3 over))

-- ---- more entries hold it too

IsWithin-more : (root : ℕ) (entries : List Entry) (f : Entry)
    → HasAllOf (tree_shares root entries) (tree_shares root (entries ++ f ∷ []))
IsWithin-more root [] f = record { any = λ p h. absurd (false≢true h); all = λ l h. tt }
IsWithin-more root (e ∷ entries) f = grown (e.root == root) (IsWithin-more root entries f)
  where
    grown : (b : Bool) → HasAllOf (tree_shares root entries) (tree_shares root (entries ++ f ∷ []))
        → HasAllOf (cond b (tree_share e ∷ []) [] ++ tree_shares root entries)
        (cond b (tree_share e ∷ []) [] ++ tree_shares root (entries ++ f ∷ []))
    grown false rest = rest
    grown true rest = record {
      any = λ p h. elim (or_cases (p (tree_share e)) (list_any p (tree_shares root entries)) h) [
        | inl here ↦ or_left _ _ here
        | inr there ↦ or_right (p (tree_share e)) _ (rest.any p there)
      ];
      all = λ l h. (h.0, rest.all l h.1);
    }

more_held : (entries : List Entry) (s : Span) (f : Entry) → IsSpanHeld entries s Descendants
    → IsSpanHeld (entries ++ f ∷ []) s Descendants
more_held entries s f held number from to =
    Hold-within (tree_shares s.root entries) (tree_shares s.root (entries ++ f ∷ []))
    (start_share (s.path ++ number ∷ [])) (IsWithin-more s.root entries f) (held number from to)

-- ---- whatever is called next

-- an entry keeps its index
entry_stays : (later : List Step) (entries : List Entry) (k : ℕ) (e : Entry) → slice_get entries k ≡ Some e
    → slice_get (fold (λ es (step : Step). after_call es step.call) entries later) k ≡ Some e
entry_stays [] entries k e is = is
entry_stays (step ∷ later) entries k e is = next step.call (λ es there. entry_stays later es k e there)
  where
    next : (call : Call)
        → ((es : List Entry) → slice_get es k ≡ Some e
        → slice_get (fold (λ fs (s : Step). after_call fs s.call) es later) k ≡ Some e)
        → slice_get (fold (λ fs (s : Step). after_call fs s.call) (after_call entries call) later) k ≡ Some e
    next (Enter f) stays = stays (entries ++ f ∷ []) (get_pushed entries f e k is)
    next Look stays = stays entries is

pub span_over : (later : List Step) (entries : List Entry) (s : Span) → IsSpanHeld entries s Descendants
    → IsLegalFrom entries later → (index : ℕ) (e : Entry) → length entries ≤ index
    → slice_get (fold (λ es (step : Step). after_call es step.call) entries later) index ≡ Some e
    → IsUnder s e → ⊥
span_over [] entries s held legal index e past is under =
    none-some e (sym (slice_get_past entries index past) ∙ is)
span_over (step ∷ later) entries s held legal index e past is under =
    next step.call legal.0 legal.2 is (λ es. span_over later es s)
  where
    next : (call : Call) → IsPossible entries call → IsLegalFrom (after_call entries call) later
        → slice_get (fold (λ es (step : Step). after_call es step.call) (after_call entries call) later) index
        ≡ Some e
        → ((es : List Entry) → IsSpanHeld es s Descendants → IsLegalFrom es later → (i : ℕ) (f : Entry)
        → length es ≤ i
        → slice_get (fold (λ fs (step : Step). after_call fs step.call) es later) i ≡ Some f
        → IsUnder s f → ⊥)
        → ⊥
    next Look possible legal there over = over entries held legal index e past there under
    next (Enter f) possible legal there over = elim (cases_lt (length entries) index) [
      | inl further ↦
          let len = length_push entries f in
          over (entries ++ f ∷ []) (more_held entries s f held) legal index e (omega (arith, further, len))
          there under
      | inr here ↦
          let at_end : index ≡ length entries = omega (arith, here, past) in
          let same : f ≡ e =
          same_Some f e
          (sym (entry_stays later (entries ++ f ∷ []) index f (get_last entries f index at_end))
          ∙ there) in
          let P : Entry → Type 0 = λ x. IsUnder s x in
          false≢true (sym possible.1 ∙ under_overlaps entries s f held (subst P (sym same) under))
    ]

pub over_by : (entries : List Entry) (s : Span) → IsSpanHeld entries s Descendants → IsOver entries s
over_by entries s held later legal index e past is under =
    span_over later entries s held legal index e past is under
