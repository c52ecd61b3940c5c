-- What becomes held when a share is entered.
use Rattle.std.proofs.Common.{◌≡◌, ◌≢◌, ℕ, zero, suc, ◌+◌, ◌<◌, ◌≤◌, true, false, List, [], ◌∷◌, ◌++◌, length}
use Rattle.std.proofs.Common.{take, replicate, refl, sym, ◌∙◌, ap, subst, arith, length-append, ⊎_elim, inl}
use Rattle.std.proofs.Common.{inr, ◌⊎◌}
use Rattle.std.specs.Prelude.{Option, Some, None, is_some, slice_get, ◌↔◌}
use Rattle.std.proofs.lemmas.Bool.{and_parts, false≢true, both_ways, cases_Bool, cases_lt, cases_eq, leb-true}
use Rattle.std.proofs.lemmas.Bool.{le-leb, false_from_ne_true}
use Rattle.std.proofs.lemmas.List.{take_all, take-append-le}
use Rattle.credit_ledger.specs.declared.share.Half.{Half}
use Rattle.credit_ledger.specs.declared.share.Half.TheVariants.{Keep}
use Rattle.credit_ledger.specs.declared.tree.Run.{Run}
use Rattle.credit_ledger.specs.declared.tree.Progress.{Progress}
use Rattle.credit_ledger.specs.Shares.{is_same_half, begins_with, Hold}
use Rattle.credit_ledger.specs.Paths.{keeps, prefix}
use Rattle.credit_ledger.specs.Trees.{is_by, count_below, IsApart, HasNoShorter, IsHeldFrom, AreRunsCounted}
use Rattle.credit_ledger.specs.Trees.{IsTreeKnown}
use Rattle.credit_ledger.specs.Trees.{IsSettling, IsFull, full}
use Rattle.credit_ledger.proofs.HalvedLemmas.{same_half, begins_with-itself, begins_with-longer}
use Rattle.credit_ledger.proofs.HalvedLemmas.{begins_with_through}
use Rattle.credit_ledger.proofs.HalvedLemmas.{length-begins_with}
use Rattle.credit_ledger.proofs.PathLemmas.{keeps_apart, keeps-none, keeps-longer, length-keeps}
use Rattle.credit_ledger.proofs.PathLemmas.{length-prefix}
use Rattle.credit_ledger.proofs.PathLemmas.{prefix_apart, begins_with-empty, prefix-parent, prefix-above}
use Rattle.credit_ledger.proofs.PathLemmas.{begins_with-keeps, IsAbove, above, IsAbove-prefix}
use Rattle.credit_ledger.proofs.HeldLemmas.{Hold-longer, Hold-apart, Hold-append, Hold-without, Hold-no_run}
use Rattle.credit_ledger.proofs.HeldLemmas.{Hold-run}
use Rattle.credit_ledger.proofs.CountLemmas.{count_below-same, count_below-more, count_below-all}
use Rattle.credit_ledger.proofs.CountLemmas.{count_below-full}
use Rattle.credit_ledger.proofs.KnownLemmas.{none_some, same_some, slice_get-take, HasNoShorter-child}
use Rattle.credit_ledger.proofs.KnownLemmas.{held_child-before}

-- a list that begins with one as long is that one
pub same_begun : (x y : List Half) → begins_with x y ≡ true → length x ≤ length y → x ≡ y
same_begun [] [] e less = refl
same_begun [] (h ∷ y) e less = absurd (false≢true e)
same_begun (g ∷ x) [] e less = absurd (omega arith)
same_begun (g ∷ x) (h ∷ y) e less =
    let parts = and_parts (is_same_half g h) (begins_with x y) e in
    let first : g ≡ h = same_half g h parts.0 in
    let rest : x ≡ y = same_begun x y parts.1 (omega arith) in
    cc

is_by_some : (since : Option ℕ) (upto : ℕ) → is_by since upto ≡ true → is_some since ≡ true
is_by_some None upto by = by
is_by_some (Some x) upto by = refl

-- the number from which a known time counts
by_then : (since : Option ℕ) (n : ℕ) → is_some since ≡ true
    → (upto : ℕ) × (n ≤ upto) × (is_by since upto ≡ true)
by_then None n some = absurd (false≢true some)
by_then (Some x) n some = (x + n, omega arith, le-leb x (x + n) (omega arith))

pub all_held : (shares : List (List Half)) (since : Option ℕ) (s : List Half) → IsHeldFrom shares since s
    → is_some since ≡ true → Hold shares s
all_held shares since s from some =
    let when = by_then since (length shares) some in
    subst (λ r. Hold r s) (take_all when.0 shares when.1) ((from when.0).0 when.2)

pub known_held : (shares : List (List Half)) (since : Option ℕ) (s : List Half) → IsHeldFrom shares since s
    → Hold shares s → is_some since ≡ true
known_held shares since s from held =
    is_by_some since (length shares)
    ((from (length shares)).1
    (subst (λ r. Hold r s) (sym (take_all (length shares) shares (omega arith))) held))

-- each child's time is right
abbrev pub ChildrenKnown : List (List Half) → (List ℕ → Progress) → List ℕ → Type 0
ChildrenKnown shares at up =
    (k : ℕ) → HasNoShorter shares (prefix (k ∷ up)) → IsHeldFrom shares (at (k ∷ up)).since (prefix (k ∷ up))

-- a node with as many held children as its run has Keep halves is held
pub Hold-complete : (shares : List (List Half)) (at : List ℕ → Progress) → AreRunsCounted shares at
    → (up : List ℕ)
    → ChildrenKnown shares at up → (r : Run) → (at up).run ≡ Some r → (at up).held_children ≡ r.keeps
    → Hold shares (prefix up)
Hold-complete shares at counted up known r run even =
    subst (λ s. Hold shares s) (keeps-none (prefix up))
    (Hold-run shares (prefix up) r.time r.keeps (counted.run up r run) r.keeps 0 (omega arith)
    (λ j low high.
    let held = count_below-all r.keeps r.keeps (λ n. is_some (at (n ∷ up)).since) (omega arith)
    (λ n some. held_child-before shares at counted up r n run some)
    (counted.count up r.keeps (λ n some. held_child-before shares at counted up r n run some) ∙ even) j high
    in
    all_held shares (at (j ∷ up)).since (prefix (j ∷ up))
    (known j (HasNoShorter-child shares at counted up r j run high)) held))

-- and the other way round
pub IsFull-held : (shares : List (List Half)) (at : List ℕ → Progress) → AreRunsCounted shares at
    → (up : List ℕ)
    → ChildrenKnown shares at up → HasNoShorter shares (prefix up) → Hold shares (prefix up) → IsFull (at up)
IsFull-held shares at counted up known clear held = by_run (at up).run refl
  where
    none_begun : (at up).run ≡ None → (j i : ℕ) (t : List Half) → slice_get shares i ≡ Some t
        → begins_with (keeps (prefix up) j) t ≡ true → ⊥
    none_begun empty j i t there begun =
        ⊎_elim
        (λ (first : begins_with (prefix up) t ≡ true).
        let same : prefix up ≡ t = same_begun (prefix up) t first (clear i t there first) in
        none_some (record { keeps = 0; time = i })
        (sym empty
        ∙ counted.entered i up 0
        (there ∙ ap (λ r. Some r) (sym same ∙ sym (keeps-none (prefix up))))))
        (λ (second : (l : ℕ) × (l ≤ j) × (t ≡ keeps (prefix up) l)).
        none_some (record { keeps = second.0; time = i })
        (sym empty ∙ counted.entered i up second.0 (there ∙ ap (λ r. Some r) second.2)))
        (begins_with-keeps (prefix up) j t begun)

    by_run : (o : Option Run) → (at up).run ≡ o → IsFull (at up)
    by_run None e =
        absurd
        (Hold-no_run shares (prefix up) 0 (none_begun e)
        (subst (λ s. Hold shares s) (sym (keeps-none (prefix up))) held))
    by_run (Some r) e =
        full r e
        (sym (counted.count up r.keeps (λ n some. held_child-before shares at counted up r n e some))
        ∙ count_below-full r.keeps r.keeps (λ n. is_some (at (n ∷ up)).since) (omega arith)
        (λ n some. held_child-before shares at counted up r n e some)
        (
        λ j high.
        known_held shares (at (j ∷ up)).since (prefix (j ∷ up))
        (known j (HasNoShorter-child shares at counted up r j e high))
        (Hold-longer shares (prefix up) (prefix (j ∷ up)) (prefix-parent j up) held)))

pub same_path : (p q : List ℕ) → (p ≡ q) ⊎ (p ≢ q)
same_path [] [] = inl refl
same_path [] (n ∷ q) = inr (λ e. absurd (cc))
same_path (n ∷ p) [] = inr (λ e. absurd (cc))
same_path (n ∷ p) (m ∷ q) =
    ⊎_elim
    (λ (first : n ≡ m).
    ⊎_elim (λ (rest : p ≡ q). inl (cc)) (λ (apart : p ≢ q). inr (λ e. apart (cc))) (same_path p q))
    (λ (apart : n ≢ m). inr (λ e. apart (cc)))
    (cases_eq n m)

-- one node was marked as held; of the counts the lemmas below speak
pub record IsMarked (old new : List ℕ → Progress) (here : List ℕ) (time : ℕ) : Type 0 where
  pub mark : (new here).since ≡ Some time
  pub run : (q : List ℕ) → (new q).run ≡ (old q).run
  pub since : (q : List ℕ) → q ≢ here → (new q).since ≡ (old q).since

-- the mark at a node that is full is right
marked_since : (shares : List (List Half)) (at new : List ℕ → Progress) (up : List ℕ)
    → IsSettling shares at up → IsFull (at up) → (new up).since ≡ Some (length shares)
    → IsHeldFrom shares (new up).since (prefix up)
marked_since shares at new up was (full r run count) mark upto = (
  (λ by. subst (λ x. Hold x (prefix up))
      (sym (take_all upto shares (leb-true (length shares) upto (sym (ap (λ o. is_by o upto) mark) ∙ by))))
      (Hold-complete shares at was.counted up known r run count)),
  (λ held. ap (λ o. is_by o upto) mark
      ∙ ⊎_elim
      (λ (early : upto < length shares).
      absurd (was.unheld up (begins_with-itself (prefix up)) upto early held))
      (λ (late : length shares ≤ upto). le-leb (length shares) upto late) (cases_lt upto (length shares))),
)
  where
    known : ChildrenKnown shares at up
    known k clear = was.settled (k ∷ up)
        (false_from_ne_true _
        (λ e.
        let short = length-begins_with (prefix up) (prefix (k ∷ up)) e in
        omega (arith, short, length-prefix k up)))
        clear

marked_run : (shares : List (List Half)) (at new : List ℕ → Progress) (here : List ℕ) (time : ℕ)
    → AreRunsCounted shares at → IsFull (at here) → IsMarked at new here time → (up : List ℕ)
    → is_some (new up).since ≡ true → is_some (new up).run ≡ true
marked_run shares at new here time counted (full r run count) marked up some =
    ⊎_elim
    (λ (same : up ≡ here). ap is_some (marked.run up ∙ ap (λ q. (at q).run) same ∙ run))
    (λ (other : up ≢ here).
    ap is_some (marked.run up) ∙ counted.held up (ap is_some (sym (marked.since up other)) ∙ some))
    (same_path up here)

-- the runs of a marked tree are those that it had
record IsRunKnown (shares : List (List Half)) (at : List ℕ → Progress) : Type 0 where
  run : (up : List ℕ) (run : Run) → (at up).run ≡ Some run
      → slice_get shares run.time ≡ Some (keeps (prefix up) run.keeps)
  entered : (time : ℕ) (up : List ℕ) (count : ℕ) → slice_get shares time ≡ Some (keeps (prefix up) count)
      → (at up).run ≡ Some (record { keeps = count; time = time })

IsRunKnown-marked : (shares : List (List Half)) (at new : List ℕ → Progress) (here : List ℕ) (time : ℕ)
    → AreRunsCounted shares at → IsMarked at new here time → IsRunKnown shares new
IsRunKnown-marked shares at new here time counted marked = record {
  run = λ up r e. counted.run up r (sym (marked.run up) ∙ e);
  entered = λ i up count e. marked.run up ∙ counted.entered i up count e;
}

-- a full node is marked, and its parent counts it
pub IsSettling-parent : (shares : List (List Half)) (at new : List ℕ → Progress) (n : ℕ) (up : List ℕ)
    → IsSettling shares at (n ∷ up) → IsFull (at (n ∷ up)) → IsMarked at new (n ∷ up) (length shares)
    → (new up).held_children ≡ (at up).held_children + 1
    → ((q : List ℕ) → q ≢ up → (new q).held_children ≡ (at q).held_children) → IsSettling shares new up
IsSettling-parent shares at new n up was is_full marked more others = record {
  counted = record {
    apart = was.counted.apart;
    run = runs.run;
    entered = runs.entered;
    held = marked_run shares at new (n ∷ up) (length shares) was.counted is_full marked;
    count = counts;
  };
  clear = λ i t there begun.
      let below =
      was.clear i t there
      (begins_with_through (prefix (n ∷ up)) (prefix up) t (prefix-parent n up) begun) in
      omega (arith, below, length-prefix n up);
  unmarked = λ q begun. marked.since q (apart_from_node q begun) ∙ was.unmarked q (lower q begun);
  unheld = λ q begun. was.unheld q (lower q begun);
  settled = settled;
}
  where
    runs : IsRunKnown shares new
    runs = IsRunKnown-marked shares at new (n ∷ up) (length shares) was.counted marked

    lower : (q : List ℕ) → begins_with (prefix up) (prefix q) ≡ true
        → begins_with (prefix (n ∷ up)) (prefix q) ≡ true
    lower q begun = begins_with_through (prefix (n ∷ up)) (prefix up) (prefix q) (prefix-parent n up) begun

    apart_from_node : (q : List ℕ) → begins_with (prefix up) (prefix q) ≡ true → q ≢ n ∷ up
    apart_from_node q begun e =
        let short = length-begins_with (prefix up) (prefix q) begun in
        let same : length (prefix q) ≡ length (prefix (n ∷ up)) = ap (λ r. length (prefix r)) e in
        omega (arith, short, same, length-prefix n up)

    off : is_some (at (n ∷ up)).since ≡ false
    off = ap is_some (was.unmarked (n ∷ up) (begins_with-itself (prefix (n ∷ up))))

    on : is_some (new (n ∷ up)).since ≡ true
    on = ap is_some marked.mark

    within : (q : List ℕ) (bound : ℕ) → ((k : ℕ) → is_some (new (k ∷ q)).since ≡ true → k < bound) → (k : ℕ)
        → is_some (at (k ∷ q)).since ≡ true → k < bound
    within q bound below k some =
        ⊎_elim
        (λ (same : k ∷ q ≡ n ∷ up).
        absurd (both_ways _ off (sym (ap (λ p. is_some (at p).since) same) ∙ some)))
        (λ (other : k ∷ q ≢ n ∷ up). below k (ap is_some (marked.since (k ∷ q) other) ∙ some))
        (same_path (k ∷ q) (n ∷ up))

    counts : (q : List ℕ) (bound : ℕ) → ((k : ℕ) → is_some (new (k ∷ q)).since ≡ true → k < bound)
        → count_below bound (λ k. is_some (new (k ∷ q)).since) ≡ (new q).held_children
    counts q bound below =
        ⊎_elim
        (λ (same : q ≡ up).
        let here : ℕ = n in
        count_at_parent q same bound below)
        (λ (other : q ≢ up).
        count_below-same bound (λ k. is_some (new (k ∷ q)).since) (λ k. is_some (at (k ∷ q)).since)
        (λ k less. ap is_some (marked.since (k ∷ q) (λ e. other (cc))))
        ∙ was.counted.count q bound (within q bound below) ∙ sym (others q other))
        (same_path q up)
      where
        count_at_parent : (q : List ℕ) → q ≡ up → (bound : ℕ)
            → ((k : ℕ) → is_some (new (k ∷ q)).since ≡ true → k < bound)
            → count_below bound (λ k. is_some (new (k ∷ q)).since) ≡ (new q).held_children
        count_at_parent q same bound below =
            let less : n < bound = below n (ap (λ p. is_some (new (n ∷ p)).since) same ∙ on) in
            let one =
            count_below-more bound (λ k. is_some (at (k ∷ q)).since) (λ k. is_some (new (k ∷ q)).since) n
            less
            (ap (λ p. is_some (at (n ∷ p)).since) same ∙ off)
            (ap (λ p. is_some (new (n ∷ p)).since) same ∙ on)
            (λ k other. ap is_some (sym (marked.since (k ∷ q) (λ e. other (cc))))) in
            one
            ∙ ap (λ x. x + 1)
            (was.counted.count q bound (within q bound below) ∙ ap (λ p. (at p).held_children) same)
            ∙ sym more ∙ ap (λ p. (new p).held_children) (sym same)

    settled : (q : List ℕ) → begins_with (prefix up) (prefix q) ≡ false → HasNoShorter shares (prefix q)
        → IsHeldFrom shares (new q).since (prefix q)
    settled q apart clear =
        ⊎_elim
        (λ (same : q ≡ n ∷ up).
        subst (λ p. IsHeldFrom shares (new p).since (prefix p)) (sym same)
        (marked_since shares at new (n ∷ up) was is_full marked.mark))
        (λ (other : q ≢ n ∷ up).
        subst (λ o. IsHeldFrom shares o (prefix q)) (sym (marked.since q other))
        (was.settled q
        (false_from_ne_true _ (λ begun. not_above q apart other (IsAbove-prefix (n ∷ up) q begun)))
        clear))
        (same_path q (n ∷ up))
      where
        not_above : (q : List ℕ) → begins_with (prefix up) (prefix q) ≡ false → q ≢ n ∷ up
            → IsAbove q (n ∷ up) → ⊥
        not_above q apart other (above [] e) = other (sym e)
        not_above q apart other (above (k ∷ xs) e) =
            let rest : xs ++ q ≡ up = cc in
            both_ways _ apart (subst (λ p. begins_with (prefix p) (prefix q) ≡ true) rest (prefix-above xs q))

-- the root is marked last
pub IsTreeKnown-root : (shares : List (List Half)) (at new : List ℕ → Progress) → IsSettling shares at []
    → IsFull (at []) → IsMarked at new [] (length shares)
    → ((q : List ℕ) → (new q).held_children ≡ (at q).held_children) → IsTreeKnown shares new
IsTreeKnown-root shares at new was is_full marked same_count = record {
  counted = record {
    apart = was.counted.apart;
    run = runs.run;
    entered = runs.entered;
    held = marked_run shares at new [] (length shares) was.counted is_full marked;
    count = λ q bound below.
        count_below-same bound (λ k. is_some (new (k ∷ q)).since) (λ k. is_some (at (k ∷ q)).since)
        (λ k less. ap is_some (child_since k q))
        ∙ was.counted.count q bound (λ k some. below k (ap is_some (child_since k q) ∙ some))
        ∙ sym (same_count q);
  };
  since = λ q clear.
      ⊎_elim
      (λ (same : q ≡ []).
      subst (λ p. IsHeldFrom shares (new p).since (prefix p)) (sym same)
      (marked_since shares at new [] was is_full marked.mark))
      (λ (other : q ≢ []). subst (λ o. IsHeldFrom shares o (prefix q)) (sym (marked.since q other))
      (was.settled q
      (false_from_ne_true _ (λ begun. other (prefix_apart q [] (begins_with-empty (prefix q) begun))))
      clear))
      (same_path q []);
}
  where
    runs : IsRunKnown shares new
    runs = IsRunKnown-marked shares at new [] (length shares) was.counted marked

    child_since : (k : ℕ) (q : List ℕ) → (new (k ∷ q)).since ≡ (at (k ∷ q)).since
    child_since k q = marked.since (k ∷ q) (λ e. absurd (cc))

-- a node that is not full is held by nothing, nor is one above it
pub IsTreeKnown-stopped : (shares : List (List Half)) (at : List ℕ → Progress) (here : List ℕ)
    → IsSettling shares at here → (IsFull (at here) → ⊥) → IsTreeKnown shares at
IsTreeKnown-stopped shares at here was not_full = record {
  counted = was.counted;
  since = λ q clear.
      ⊎_elim
      (λ (begun : begins_with (prefix here) (prefix q) ≡ true).
      subst (λ o. IsHeldFrom shares o (prefix q)) (sym (was.unmarked q begun)) (never q begun))
      (λ (apart : begins_with (prefix here) (prefix q) ≡ false). was.settled q apart clear)
      (cases_Bool (begins_with (prefix here) (prefix q)));
}
  where
    known : ChildrenKnown shares at here
    known k clear = was.settled (k ∷ here)
        (false_from_ne_true _
        (λ e.
        let short = length-begins_with (prefix here) (prefix (k ∷ here)) e in
        omega (arith, short, length-prefix k here)))
        clear

    never : (q : List ℕ) → begins_with (prefix here) (prefix q) ≡ true → IsHeldFrom shares None (prefix q)
    never q begun upto = (
      (λ by. absurd (false≢true by)),
      (λ held. absurd (⊎_elim
          (λ (early : upto < length shares). was.unheld q begun upto early held)
          (λ (late : length shares ≤ upto).
          not_full (IsFull-held shares at was.counted here known was.clear
          (Hold-longer shares (prefix q) (prefix here) begun
          (subst (λ x. Hold x (prefix q)) (take_all upto shares late) held))))
          (cases_lt upto (length shares)))),
    )

-- ---- a share is entered

-- no share overlaps this one
pub record IsFree (shares : List (List Half)) (s : List Half) : Type 0 where
  pub shorter : (i : ℕ) (t : List Half) → slice_get shares i ≡ Some t → begins_with s t ≡ true → ⊥
  pub longer : (i : ℕ) (t : List Half) → slice_get shares i ≡ Some t → begins_with t s ≡ true → ⊥

data IsPushed {X : Type 0} (xs : List X) (x : X) (i : ℕ) (t : X) : Type 0 where
  old : slice_get xs i ≡ Some t → IsPushed xs x i t
  last : i ≡ length xs → t ≡ x → IsPushed xs x i t

IsPushed-from : {X : Type 0} (xs : List X) (x : X) (i : ℕ) (t : X) → slice_get (xs ++ x ∷ []) i ≡ Some t
    → IsPushed xs x i t
IsPushed-from [] x zero t at = last refl (same_some t x (sym at))
IsPushed-from [] x (suc i) t at = absurd (none_some t at)
IsPushed-from (y ∷ xs) x zero t at = old at
IsPushed-from (y ∷ xs) x (suc i) t at = IsPushed-later (IsPushed-from xs x i t at)
  where
    IsPushed-later : IsPushed xs x i t → IsPushed (y ∷ xs) x (suc i) t
    IsPushed-later (old there) = old there
    IsPushed-later (last e same) = last (omega (arith, e)) same

pub slice_get-push_old : {X : Type 0} (xs : List X) (x : X) (i : ℕ) (t : X) → slice_get xs i ≡ Some t
    → slice_get (xs ++ x ∷ []) i ≡ Some t
slice_get-push_old [] x i t at = absurd (none_some t at)
slice_get-push_old (y ∷ xs) x zero t at = at
slice_get-push_old (y ∷ xs) x (suc i) t at = slice_get-push_old xs x i t at

pub slice_get-push_last : {X : Type 0} (xs : List X) (x : X) → slice_get (xs ++ x ∷ []) (length xs) ≡ Some x
slice_get-push_last [] x = refl
slice_get-push_last (y ∷ xs) x = slice_get-push_last xs x

-- a node's run was put down, and nothing else changed
pub record IsRunPut (old new : List ℕ → Progress) (here : List ℕ) (run : Run) : Type 0 where
  pub put : (new here).run ≡ Some run
  pub other : (q : List ℕ) → q ≢ here → (new q).run ≡ (old q).run
  pub since : (q : List ℕ) → (new q).since ≡ (old q).since
  pub count : (q : List ℕ) → (new q).held_children ≡ (old q).held_children

either_order : (a b : ℕ) → (a ≤ b) ⊎ (b ≤ a)
either_order a b = ⊎_elim (λ (less : a < b). inl (omega arith)) (λ (more : b ≤ a). inr more) (cases_lt a b)

run_same : (a b i j : ℕ) → a ≡ b → i ≡ j
    → ◌≡◌ {A = Option Run} (Some (record { keeps = a; time = i })) (Some (record { keeps = b; time = j }))
run_same a b i j e f = cc

-- a share that does not overlap this one changes nothing for it
IsHeldFrom-push : (shares : List (List Half)) (s t : List Half) (since : Option ℕ)
    → (begins_with t s ≡ true → ⊥) → (begins_with s t ≡ true → ⊥) → IsHeldFrom shares since t
    → IsHeldFrom (shares ++ s ∷ []) since t
IsHeldFrom-push shares s t since apart off from upto =
    ⊎_elim
    (λ (early : upto ≤ length shares).
    subst (λ x. (is_by since upto ≡ true) ↔ Hold x t) (sym (take-append-le upto shares (s ∷ []) early))
    (from upto))
    (λ (late : length shares < upto).
    let all : take upto (shares ++ s ∷ []) ≡ shares ++ s ∷ [] =
    take_all upto (shares ++ s ∷ []) (omega (arith, late, length-append shares (s ∷ []))) in
    let was : take upto shares ≡ shares = take_all upto shares (omega arith) in (
      (λ by.
          subst (λ x. Hold x t) (sym all)
          (Hold-append shares (s ∷ []) t (subst (λ x. Hold x t) was ((from upto).0 by)))),
      (λ held.
          (from upto).1
          (subst (λ x. Hold x t) (sym was)
          (Hold-without shares s t apart off (subst (λ x. Hold x t) all held)))),
    ))
    (either_lt upto (length shares))
  where
    either_lt : (a b : ℕ) → (a ≤ b) ⊎ (b < a)
    either_lt a b = ⊎_elim (λ (less : b < a). inr less) (λ (more : a ≤ b). inl more) (cases_lt b a)

pub IsSettling-entered : (shares : List (List Half)) (at new : List ℕ → Progress) (p : List ℕ) (m : ℕ)
    → IsTreeKnown shares at → IsFree shares (keeps (prefix p) m)
    → IsRunPut at new p (record { keeps = m; time = length shares })
    → IsSettling (shares ++ keeps (prefix p) m ∷ []) new p
IsSettling-entered shares at new p m known free put = record {
  counted = record { apart = apart; run = run; entered = entered; held = held; count = count };
  clear = λ i t there begun. clear_case i t begun (IsPushed-from shares s i t there);
  unmarked = λ q begun. put.since q ∙ unmarked q begun (at q).since refl;
  unheld = λ q begun upto less held.
      let short : upto ≤ length shares = omega (arith, less, length-append shares (s ∷ [])) in
      nothing q begun upto (subst (λ x. Hold x (prefix q)) (take-append-le upto shares (s ∷ []) short) held);
  settled =
      λ q off clear.
      subst (λ o. IsHeldFrom (shares ++ s ∷ []) o (prefix q)) (sym (put.since q)) (settled q off clear);
}
  where
    s : List Half
    s = keeps (prefix p) m

    s_p : begins_with s (prefix p) ≡ true
    s_p = begins_with-longer (prefix p) (replicate m Keep)

    no_run_of : (o : Option Run) → (at p).run ≡ o → (at p).run ≡ None
    no_run_of None e = e
    no_run_of (Some r) e =
        let there = known.counted.run p r e in
        absurd (⊎_elim
        (λ (less : r.keeps ≤ m).
        free.shorter r.time (keeps (prefix p) r.keeps) there (keeps-longer (prefix p) m r.keeps less))
        (λ (less : m ≤ r.keeps).
        free.longer r.time (keeps (prefix p) r.keeps) there (keeps-longer (prefix p) r.keeps m less))
        (either_order r.keeps m))

    no_run : (at p).run ≡ None
    no_run = no_run_of (at p).run refl

    pair_apart : (i j : ℕ) (t r : List Half) → begins_with t r ≡ true → IsPushed shares s i t
        → IsPushed shares s j r → i ≡ j
    pair_apart i j t r begun (old one) (old two) = known.counted.apart i j t r one two begun
    pair_apart i j t r begun (old one) (last e same) =
        absurd (free.longer i t one (subst (λ x. begins_with t x ≡ true) same begun))
    pair_apart i j t r begun (last e same) (old two) =
        absurd (free.shorter j r two (subst (λ x. begins_with x r ≡ true) same begun))
    pair_apart i j t r begun (last e same) (last f also) = e ∙ sym f

    apart : IsApart (shares ++ s ∷ [])
    apart i j t r one two begun =
        pair_apart i j t r begun (IsPushed-from shares s i t one) (IsPushed-from shares s j r two)

    run : (up : List ℕ) (run : Run) → (new up).run ≡ Some run
        → slice_get (shares ++ s ∷ []) run.time ≡ Some (keeps (prefix up) run.keeps)
    run up r e =
        ⊎_elim
        (λ (same : up ≡ p).
        let this : record { keeps = m; time = length shares } ≡ r =
        same_some (record { keeps = m; time = length shares }) r
        (sym put.put ∙ ap (λ q. (new q).run) (sym same) ∙ e) in
        let keeps_m : m ≡ r.keeps = ap (λ (x : Run). x.keeps) this in
        let when : length shares ≡ r.time = ap (λ (x : Run). x.time) this in
        ap (slice_get (shares ++ s ∷ [])) (sym when) ∙ slice_get-push_last shares s
        ∙ ap (λ k. Some (keeps (prefix p) k)) keeps_m ∙ ap (λ q. Some (keeps (prefix q) r.keeps)) (sym same))
        (λ (other : up ≢ p).
        slice_get-push_old shares s r.time (keeps (prefix up) r.keeps)
        (known.counted.run up r (sym (put.other up other) ∙ e)))
        (same_path up p)

    entered_case : (time : ℕ) (up : List ℕ) (count : ℕ) → IsPushed shares s time (keeps (prefix up) count)
        → (new up).run ≡ Some (record { keeps = count; time = time })
    entered_case time up count (old there) =
        let was = known.counted.entered time up count there in
        ⊎_elim
        (λ (same : up ≡ p).
        absurd
        (none_some (record { keeps = count; time = time })
        (sym no_run ∙ ap (λ q. (at q).run) (sym same) ∙ was)))
        (λ (other : up ≢ p). put.other up other ∙ was)
        (same_path up p)
    entered_case time up count (last e same) =
        let parts = keeps_apart up p count m same in
        ap (λ q. (new q).run) parts.0 ∙ put.put ∙ run_same m count (length shares) time (sym parts.1) (sym e)

    entered : (time : ℕ) (up : List ℕ) (count : ℕ)
        → slice_get (shares ++ s ∷ []) time ≡ Some (keeps (prefix up) count)
        → (new up).run ≡ Some (record { keeps = count; time = time })
    entered time up count there =
        entered_case time up count (IsPushed-from shares s time (keeps (prefix up) count) there)

    held : (up : List ℕ) → is_some (new up).since ≡ true → is_some (new up).run ≡ true
    held up some =
        ⊎_elim
        (λ (same : up ≡ p). ap is_some (ap (λ q. (new q).run) same ∙ put.put))
        (λ (other : up ≢ p).
        ap is_some (put.other up other) ∙ known.counted.held up (ap is_some (sym (put.since up)) ∙ some))
        (same_path up p)

    count : (up : List ℕ) (bound : ℕ) → ((n : ℕ) → is_some (new (n ∷ up)).since ≡ true → n < bound)
        → count_below bound (λ n. is_some (new (n ∷ up)).since) ≡ (new up).held_children
    count up bound below =
        count_below-same bound (λ n. is_some (new (n ∷ up)).since) (λ n. is_some (at (n ∷ up)).since)
        (λ n less. ap is_some (put.since (n ∷ up)))
        ∙ known.counted.count up bound (λ n some. below n (ap is_some (put.since (n ∷ up)) ∙ some))
        ∙ sym (put.count up)

    clear_case : (i : ℕ) (t : List Half) → begins_with (prefix p) t ≡ true → IsPushed shares s i t
        → length (prefix p) ≤ length t
    clear_case i t begun (old there) =
        absurd (free.shorter i t there (begins_with_through s (prefix p) t s_p begun))
    clear_case i t begun (last e same) = omega (arith, ap length same, length-keeps (prefix p) m)

    nothing : (q : List ℕ) → begins_with (prefix p) (prefix q) ≡ true → (upto : ℕ)
        → Hold (take upto shares) (prefix q) → ⊥
    nothing q begun upto held =
        Hold-apart (take upto shares) s
        (λ i t there on. free.shorter i t (slice_get-take shares upto i t there).1 on)
        (λ i t there on. free.longer i t (slice_get-take shares upto i t there).1 on)
        (Hold-longer (take upto shares) (prefix q) s (begins_with_through s (prefix p) (prefix q) s_p begun)
        held)

    unmarked : (q : List ℕ) → begins_with (prefix p) (prefix q) ≡ true → (o : Option ℕ) → (at q).since ≡ o
        → (at q).since ≡ None
    unmarked q begun None e = e
    unmarked q begun (Some x) e =
        let clear : HasNoShorter shares (prefix q) =
        λ i t there on.
        absurd
        (free.shorter i t there
        (begins_with_through s (prefix q) t
        (begins_with_through s (prefix p) (prefix q) s_p begun) on)) in
        let by : is_by (at q).since x ≡ true = ap (λ o. is_by o x) e ∙ le-leb x x (omega arith) in
        absurd (nothing q begun x ((known.since q clear x).0 by))

    settled : (q : List ℕ) → begins_with (prefix p) (prefix q) ≡ false
        → HasNoShorter (shares ++ s ∷ []) (prefix q)
        → IsHeldFrom (shares ++ s ∷ []) (at q).since (prefix q)
    settled q off clear =
        IsHeldFrom-push shares s (prefix q) (at q).since
        (λ on. both_ways _ off
        (let whole : prefix q ≡ s =
        same_begun (prefix q) s on (clear (length shares) s (slice_get-push_last shares s) on) in
        let same : q ≡ p = (keeps_apart q p 0 m (keeps-none (prefix q) ∙ whole)).0 in
        subst (λ r. begins_with (prefix p) (prefix r) ≡ true) (sym same) (begins_with-itself (prefix p))))
        (λ on. both_ways _ off
        (⊎_elim (λ begun. begun)
        (λ (second : (j : ℕ) × (j ≤ m) × (prefix q ≡ keeps (prefix p) j)).
        let same : q ≡ p = (keeps_apart q p 0 second.0 (keeps-none (prefix q) ∙ second.2)).0 in
        subst (λ r. begins_with (prefix p) (prefix r) ≡ true) (sym same) (begins_with-itself (prefix p)))
        (begins_with-keeps (prefix p) m (prefix q) on)))
        (known.since q (λ i t there on. clear i t (slice_get-push_old shares s i t there) on))
