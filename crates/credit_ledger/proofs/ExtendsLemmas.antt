-- What a seat knows of the ledger after a call: its entries go on where those that it knew before end.
use Rattle.std.proofs.Common.{◌≡◌, ◌∙◌, ℕ, ◌≤◌, ◌<◌, ◌+◌, ◌^◌, false, List, [], ◌∷◌, ◌++◌, length}
use Rattle.std.proofs.Common.{fold, Some, sym, ap, subst, arith}
use Rattle.std.specs.Prelude.{slice_get, nat_le}
use Rattle.std.proofs.lemmas.Bool.{leb-false}
use Rattle.std.proofs.lemmas.List.{length_push}
use Rattle.std.proofs.lemmas.List.Sums.{fold-append}
use Rattle.ompt_events.proofs.ListLemmas.{get_pushed, get_last}
use Rattle.credit_ledger.specs.declared.entry.Entry.{Entry}
use Rattle.credit_ledger.specs.declared.view.Call.{Call}
use Rattle.credit_ledger.specs.declared.view.Call.TheVariants.{Enter, Look}
use Rattle.credit_ledger.specs.declared.view.Step.{Step}
use Rattle.credit_ledger.specs.declared.view.View.{View}
use Rattle.credit_ledger.specs.Histories.{after_call, IsPossible, IsLegalFrom, entries_after}
use Rattle.credit_ledger.specs.Seats.{StartsWith, Extends, told_of}
use Rattle.credit_ledger.proofs.RuleLemmas.{entries-more}

-- the later entries begin with the first ones
pub record GoOn (first later : List Entry) : Type 0 where
  pub length_kept : length first ≤ length later
  pub kept : (k : ℕ) (e : Entry) → slice_get first k ≡ Some e → slice_get later k ≡ Some e

pub go_on-refl : (entries : List Entry) → GoOn entries entries
go_on-refl entries = record { length_kept = omega arith; kept = λ k e is. is }

pub go_on-chain : (first second third : List Entry) → GoOn first second → GoOn second third → GoOn first third
go_on-chain first second third one two =
    record {
      length_kept = omega (arith, one.length_kept, two.length_kept);
      kept = λ k e is. two.kept k e (one.kept k e is);
    }

go_on-call : (entries : List Entry) (call : Call) → GoOn entries (after_call entries call)
go_on-call entries (Enter entry) =
    record {
      length_kept = omega (arith, length_push entries entry);
      kept = λ k e is. get_pushed entries entry e k is;
    }
go_on-call entries Look = go_on-refl entries

go_on-calls : (entries : List Entry) (more : List Step)
    → GoOn entries (fold (λ es (s : Step). after_call es s.call) entries more)
go_on-calls entries [] = go_on-refl entries
go_on-calls entries (s ∷ more) =
    go_on-chain entries (after_call entries s.call)
    (fold (λ es (t : Step). after_call es t.call) (after_call entries s.call) more)
    (go_on-call entries s.call) (go_on-calls (after_call entries s.call) more)

-- a longer history leaves the entries of the shorter one
pub starts-go_on : (history first : List Step) → StartsWith history first
    → GoOn (entries_after first) (entries_after history)
starts-go_on history first (more, is) =
    subst (λ h. GoOn (entries_after first) (entries_after h)) (sym is)
    (subst (GoOn (entries_after first))
    (sym (fold-append (λ es (s : Step). after_call es s.call) [] first more))
    (go_on-calls (entries_after first) more))

-- the last call of a legal history was possible, and its reply was the length that it met
last_call : (entries : List Entry) (before : List Step) (s : Step) → IsLegalFrom entries (before ++ s ∷ [])
    → let met = fold (λ es (t : Step). after_call es t.call) entries before in
    IsPossible met s.call × (s.reply ≡ length met)
last_call entries [] s legal = (legal.0, legal.1)
last_call entries (t ∷ before) s legal = last_call (after_call entries t.call) before s legal.2

-- the history that a call met
pub met : (v w : View) (call : Call) (reply : ℕ) → Extends v call reply w
    → (before : List Step) × GoOn (entries_after v.seen) (entries_after before)
    × GoOn (entries_after v.told) (entries_after before) × IsPossible (entries_after before) call
    × (reply ≡ length (entries_after before))
    × (entries_after w.seen ≡ after_call (entries_after before) call)
met v w call reply e =
    let s : Step = record { seat = v.number; call = call; reply = reply } in
    let last = last_call [] e.before s (subst (IsLegalFrom []) e.ends e.legal) in (
      e.before,
      starts-go_on e.before v.seen e.seen,
      starts-go_on e.before v.told e.told,
      last.0,
      last.1,
      ap entries_after e.ends ∙ entries-more e.before s,
    )

-- after any call a seat knows all the entries that it knew
pub extends-go_on : (v w : View) (call : Call) (reply : ℕ) → Extends v call reply w
    → GoOn (entries_after v.seen) (entries_after w.seen)
extends-go_on v w call reply e =
    let m = met v w call reply e in
    subst (GoOn (entries_after v.seen)) (sym m.5)
    (go_on-chain (entries_after v.seen) (entries_after m.0) (after_call (entries_after m.0) call) m.1
    (go_on-call (entries_after m.0) call))

-- the reply is no less than the length that the seat knew
pub reply-known : (v w : View) (call : Call) (reply : ℕ) → Extends v call reply w
    → length (entries_after v.seen) ≤ reply
reply-known v w call reply e = let m = met v w call reply e in omega (arith, m.1.length_kept, m.4)

-- after a look the seat knows as many entries as the reply says
pub looked-length : (v w : View) (reply : ℕ) → Extends v Look reply w → length (entries_after w.seen) ≡ reply
looked-length v w reply e = let m = met v w Look reply e in ap length m.5 ∙ sym m.4

-- what an entry finds: it stands at its index, and is the last that the seat knows
pub record IsEntered (entries : List Entry) (e : Entry) (index : ℕ) : Type 0 where
  pub stands : slice_get entries index ≡ Some e
  pub last : length entries ≡ index + 1
  pub small : index < 2 ^ 22

not_full : (n : ℕ) → nat_le (2 ^ 22) n ≡ false → n < 2 ^ 22
not_full n small = leb-false (2 ^ 22) n small

pub entered-there : (v w : View) (entry : Entry) (index : ℕ) → Extends v (Enter entry) index w
    → IsEntered (entries_after w.seen) entry index
entered-there v w entry index e =
    let m = met v w (Enter entry) index e in
    record {
      stands =
          subst (λ es. slice_get es index ≡ Some entry) (sym m.5)
          (get_last (entries_after m.0) entry index m.4);
      last = ap length m.5 ∙ length_push (entries_after m.0) entry ∙ ap (λ n. n + 1) (sym m.4);
      small = subst (λ n. n < 2 ^ 22) (sym m.4) (not_full (length (entries_after m.0)) m.3.0);
    }

-- a seat that takes in another one knows that one's entries too
pub joined-go_on : (v u w : View) (reply : ℕ) → Extends (told_of v u) Look reply w
    → GoOn (entries_after u.seen) (entries_after w.seen)
joined-go_on v u w reply e =
    let m = met (told_of v u) w Look reply e in subst (GoOn (entries_after u.seen)) (sym m.5) m.2
