-- The entries hold a child's start share in its parent's pool exactly where they finish the child.
use Rattle.std.proofs.Common.{◌≡◌, ◌∙◌, ℕ, ◌<◌, ◌≤◌, true, List, [], ◌∷◌, ◌++◌, length, take, replicate, Some}
use Rattle.std.proofs.Common.{refl, sym, ap, subst, arith, inl, inr, length-append}
use Rattle.std.proofs.lemmas.List.{append-nil, length-replicate}
use Rattle.ompt_events.specs.declared.records.Record.{Record}
use Rattle.ompt_events.specs.declared.records.Part.{Part}
use Rattle.ompt_events.specs.declared.records.Part.TheVariants.{Whole, Body, Event}
use Rattle.ompt_events.specs.Places.{seen_at}
use Rattle.ompt_events.specs.Tree.{IsChild, HasPath, below}
use Rattle.ompt_events.specs.Completion.{IsPartFinished}
use Rattle.task_tree.proofs.FamilyLemmas.{one_path}
use Rattle.credit_ledger.specs.declared.share.Half.{Half}
use Rattle.credit_ledger.specs.declared.share.Half.TheVariants.{Keep, Give}
use Rattle.credit_ledger.specs.Shares.{begins_with, start_share, Hold}
use Rattle.credit_ledger.proofs.HalvedLemmas.{begins_with-longer}
use Rattle.credit_ledger.proofs.HoldLemmas.{span}
use Rattle.credit_ledger.specs.declared.entry.Entry.{Entry}
use Rattle.credit_ledger.specs.Entries.{part_halves, parent_and_number, pool_share, pool_shares}
use Rattle.credit_ledger.proofs.CodeLemmas.{start-begun}
use Rattle.credit_ledger.proofs.RegionLemmas.{IsShareIn, IsSplit, split, IsSplit-begun, Passes, passes}
use Rattle.credit_ledger.proofs.RegionLemmas.{begins_with-shift}
use Rattle.credit_ledger.proofs.OverLemmas.{held_begins}
use Rattle.credit_ledger.proofs.OverlapLemmas.{parent_and_number-push}
use Rattle.credit_ledger.specs.TraceEntries.{IsDone}
use Rattle.credit_ledger.proofs.HalfLemmas.{hold_from}
use Rattle.credit_ledger.proofs.EntryLemmas.{IsRight, entry_right, IsEntryMade, entry_made, IsOfChild}
use Rattle.credit_ledger.proofs.EntryLemmas.{from_pool}
use Rattle.credit_ledger.proofs.EntryLemmas.{in_pool, below_from, from_below}
use Rattle.credit_ledger.proofs.StandLemmas.{one_task, push_of_parent}
use Rattle.credit_ledger.proofs.CompleteLemmas.{done_or_not, missing_half}
use Rattle.credit_ledger.proofs.TreeLaw.{IsKnown, right_entry}

-- the child of the task at the path has the number
record IsChildAt (rs : List Record) (root parent number task : ℕ) (path : List ℕ) : Type 0 where
  pub stands : HasPath rs root parent path
  pub numbered : IsChild rs parent number task

-- ---- the share of a finished child was entered

share_pooled : (rs : List Record) (entries : List Entry) (n root parent number task : ℕ) (path : List ℕ)
    (part : Part)
    → IsKnown rs entries → IsChildAt rs root parent number task path
    → IsPartFinished rs (λ k. seen_at rs k < n) task part
    → (IsShareIn (pool_share number part) (pool_shares root path (take n entries)) → ⊥) → ⊥
share_pooled rs entries n root parent number task path part known at_path (i, finishes, seen) never =
    let entered = entry_made rs i task part known.trace finishes in
    right_entry rs entries i task part known entered (λ right. never (there entered.0 entered.1 right))
  where
    there : (e : Entry) → IsEntryMade rs i task part e → IsRight rs e
        → IsShareIn (pool_share number part) (pool_shares root path (take n entries))
    there e entered right =
        let P : ℕ → Type 0 = λ t. HasPath rs e.root t e.path in
        let one =
        one_path rs e.root root task e.path (path ++ number ∷ []) known.once
        (subst P entered.task_is right.stands) (below number at_path.stands at_path.numbered) in
        let of : IsOfChild path e number = ap parent_and_number one.1 ∙ parent_and_number-push path number in
        let Q : Part → Type 0 =
        λ p. IsShareIn (pool_share number p) (pool_shares root path (take n entries)) in
        subst Q entered.part_is
        (in_pool root number path (take n entries) e
        (from_below rs entries n i task part e known.ledger entered seen) one.0 of)

-- ---- where the child is finished, a long list of halves begins with one that was entered

pub pool_held : (rs : List Record) (entries : List Entry) (n root parent number task : ℕ) (path : List ℕ)
    → IsKnown rs entries → HasPath rs root parent path → IsChild rs parent number task → IsDone rs n task
    → Hold (pool_shares root path (take n entries)) (start_share (number ∷ []))
pool_held rs entries n root parent number task path known stands numbered done =
    hold_from (pool_shares root path (take n entries)) (start_share (number ∷ [])) (λ l begins long none.
    from l
    (IsSplit-begun l (start_share (number ∷ [])) []
    (subst (λ s. begins_with l s ≡ true) (sym (append-nil (start_share (number ∷ [])))) begins))
    long none)
  where
    there : (part : Part) → IsPartFinished rs (λ k. seen_at rs k < n) task part
        → (IsShareIn (pool_share number part) (pool_shares root path (take n entries)) → ⊥) → ⊥
    there part =
        share_pooled rs entries n root parent number task path part known (record {
          stands = stands;
          numbered = numbered;
        })

    goes_on : (part : Part) (l rest : List Half) → l ≡ start_share (number ∷ []) ++ rest
        → begins_with rest (part_halves part) ≡ true
        → ((x : List Half) → IsShareIn x (pool_shares root path (take n entries))
        → begins_with l x ≡ true → ⊥)
        → IsPartFinished rs (λ k. seen_at rs k < n) task part → ⊥
    goes_on part l rest is begun none finished =
        there part finished (λ pooled. none (pool_share number part) pooled
        (subst (λ s. begins_with s (pool_share number part) ≡ true) (sym is)
        (begins_with-shift (start_share (number ∷ [])) rest (part_halves part) ∙ begun)))

    halved : (l rest : List Half) → l ≡ start_share (number ∷ []) ++ rest
        → ((x : List Half) → IsShareIn x (pool_shares root path (take n entries)) → length x ≤ length l)
        → ((x : List Half) → IsShareIn x (pool_shares root path (take n entries))
        → begins_with l x ≡ true → ⊥)
        → IsPartFinished rs (λ k. seen_at rs k < n) task Body
        → IsPartFinished rs (λ k. seen_at rs k < n) task Event → ⊥
    halved l [] is long none body event =
        there Body body (λ pooled.
        let far = long (pool_share number Body) pooled in
        let own = length-append (start_share (number ∷ [])) (Keep ∷ []) in
        let all = ap length is ∙ length-append (start_share (number ∷ [])) [] in
        omega (arith, far, own, all))
    halved l (Keep ∷ z) is long none body event = goes_on Body l (Keep ∷ z) is refl none body
    halved l (Give ∷ z) is long none body event = goes_on Event l (Give ∷ z) is refl none event

    from : (l : List Half) → IsSplit l (start_share (number ∷ [])) []
        → ((x : List Half) → IsShareIn x (pool_shares root path (take n entries)) → length x ≤ length l)
        → ((x : List Half) → IsShareIn x (pool_shares root path (take n entries))
        → begins_with l x ≡ true → ⊥)
        → ⊥
    from l (split rest is begun) long none = elim done [
      | inl whole ↦ goes_on Whole l rest is refl none whole
      | inr both ↦ halved l rest is long none both.0 both.1
    ]

-- ---- where they hold it, the child is finished

-- the list of halves that only a missing share of the child begins
abbrev missing_list : ℕ → Half → List (List Half) → List Half
missing_list number h shares = start_share (number ∷ []) ++ h ∷ replicate (span shares) Keep

not_missing : (rs : List Record) (entries : List Entry) (n root parent number task : ℕ) (path : List ℕ)
    → IsKnown rs entries → IsChildAt rs root parent number task path
    → Hold (pool_shares root path (take n entries)) (start_share (number ∷ [])) → (IsDone rs n task → ⊥) → ⊥
not_missing rs entries n root parent number task path known at_path held not_done =
    let shares : List (List Half) = pool_shares root path (take n entries) in
    let half = missing_half rs n task not_done in
    let l : List Half = missing_list number half.0 shares in
    let begins : begins_with l (start_share (number ∷ [])) ≡ true =
    begins_with-longer (start_share (number ∷ [])) (half.0 ∷ replicate (span shares) Keep) in
    let whole = length-append (start_share (number ∷ [])) (half.0 ∷ replicate (span shares) Keep) in
    let filled = length-replicate (span shares) Keep in
    entry_there half.0 half.1
    (held_begins shares (start_share (number ∷ [])) l held begins (omega (arith, whole, filled)))
  where
    entry_there : (h : Half)
        → ((part : Part) (y : List Half) → begins_with (h ∷ y) (part_halves part) ≡ true
        → IsPartFinished rs (λ k. seen_at rs k < n) task part → ⊥)
        → Passes (λ t. begins_with (missing_list number h (pool_shares root path (take n entries))) t)
        (pool_shares root path (take n entries))
        → ⊥
    entry_there h missing (passes x there begun) =
        let z : List Half = replicate (span (pool_shares root path (take n entries))) Keep in
        let found = from_pool root path (take n entries) x there in
        let e : Entry = found.0 in
        let made = below_from rs entries n e known.ledger found.2 in
        let parts =
        start-begun number found.1 [] [] (h ∷ z) (part_halves e.part)
        (subst (λ s. begins_with (start_share (number ∷ []) ++ h ∷ z) s ≡ true) found.5 begun) in
        let up : e.path ≡ path ++ number ∷ [] =
        push_of_parent e.path path found.1 found.4 ∙ ap (λ k. path ++ k ∷ []) (sym parts.0) in
        entry_right rs made.0 e known.right made.2 (λ right.
        let P : ℕ → Type 0 = λ r. HasPath rs r e.task e.path in
        let Q : List ℕ → Type 0 = λ p. HasPath rs root e.task p in
        let one =
        one_task rs root task e.task (path ++ number ∷ []) (below number at_path.stands at_path.numbered)
        (subst Q up (subst P found.3 right.stands)) in
        missing e.part z parts.1 (made.0, made.2.finishes ∙ ap (λ t. Some (t, e.part)) (sym one), made.1))

pub pool_done : (rs : List Record) (entries : List Entry) (n root parent number task : ℕ) (path : List ℕ)
    → IsKnown rs entries → HasPath rs root parent path → IsChild rs parent number task
    → Hold (pool_shares root path (take n entries)) (start_share (number ∷ [])) → IsDone rs n task
pool_done rs entries n root parent number task path known stands numbered held =
    elim (done_or_not rs n task) [
      | inl done ↦ done
      | inr not_done ↦
          absurd
          (not_missing rs entries n root parent number task path known
          (record { stands = stands; numbered = numbered }) held not_done)
    ]
