-- A ledger's calls, one after another: what a ledger that several threads share must keep.
use Rattle.std.specs.Prelude.{◌≡◌, ◌≤◌, ◌<◌, ℕ, false, List, [], ◌∷◌, ◌++◌, length, fold, Some, slice_get}
use Rattle.std.specs.List.{list_any}
use Rattle.credit_ledger.specs.declared.entry.Entry.{Entry}
use Rattle.credit_ledger.specs.declared.entry.Span.{Span}
use Rattle.credit_ledger.specs.declared.view.Call.{Call}
use Rattle.credit_ledger.specs.declared.view.Call.TheVariants.{Enter, Look}
use Rattle.credit_ledger.specs.declared.view.Step.{Step}
use Rattle.credit_ledger.specs.Entries.{is_ledger_full, is_overlap}

-- the entries after a call
abbrev pub after_call : List Entry → Call → List Entry
after_call entries (Enter entry) = entries ++ entry ∷ []
after_call entries Look = entries

-- the call is possible: there is room for the entry, and it overlaps none
abbrev pub IsPossible : List Entry → Call → Type 0
IsPossible entries (Enter entry) =
    (is_ledger_full entries ≡ false) × (list_any (is_overlap entry) entries ≡ false)
IsPossible entries Look = Unit {0}

-- each call was possible, and its reply was the ledger length before it
abbrev pub IsLegalFrom : List Entry → List Step → Type 0
IsLegalFrom entries [] = Unit {0}
IsLegalFrom entries (step ∷ history) = IsPossible entries step.call × (step.reply ≡ length entries)
    × IsLegalFrom (after_call entries step.call) history

-- the same for a ledger that was empty at first
abbrev pub IsLegal : List Step → Type 0
IsLegal history = IsLegalFrom [] history

-- the ledger's entries after these calls
abbrev pub entries_after : List Step → List Entry
entries_after history = fold (λ entries step. after_call entries step.call) [] history

-- the entry is of a child of the span, or of one of its descendants
pub record IsUnder (span : Span) (entry : Entry) : Type 0 where
  pub same_root : entry.root ≡ span.root
  pub number : ℕ
  pub more : List ℕ
  pub from_there : span.from ≤ number
  pub to_there : number < span.to
  pub path : entry.path ≡ span.path ++ number ∷ more

-- whatever legal calls follow, no further entry is under the span
abbrev pub IsOver : List Entry → Span → Type 0
IsOver entries span =
    (later : List Step) → IsLegalFrom entries later → (index : ℕ) (entry : Entry) → length entries ≤ index
    → slice_get (fold (λ es step. after_call es step.call) entries later) index ≡ Some entry
    → IsUnder span entry → ⊥
