-- What a purse answers, from what its tree says.
use Rattle.std.proofs.Common.{◌≡◌, ◌≢◌, ℕ, zero, suc, ◌+◌, ◌-◌, ◌<◌, ◌≤◌, Bool, true, false, List, [], ◌∷◌}
use Rattle.std.proofs.Common.{length, take, refl, sym, ◌∙◌, ap, subst, arith, ⊎_elim}
use Rattle.std.specs.Prelude.{Option, Some, None, is_some, slice_get, max}
use Rattle.std.specs.List.{list_any}
use Rattle.std.specs.Option.{option_and_then}
use Rattle.std.proofs.lemmas.Bool.{false≢true, both_ways, cases_lt, cases_eq, or_cases, or_left, or_right}
use Rattle.std.proofs.lemmas.Bool.{leb-true, le-leb}
use Rattle.std.proofs.lemmas.Option.{slice_get_within}
use Rattle.credit_ledger.specs.declared.share.Half.{Half}
use Rattle.credit_ledger.specs.declared.tree.Run.{Run}
use Rattle.credit_ledger.specs.declared.tree.Progress.{Progress}
use Rattle.credit_ledger.specs.declared.tree.Node.{Node}
use Rattle.credit_ledger.specs.declared.tree.Tree.{Tree}
use Rattle.credit_ledger.specs.Shares.{begins_with, overlaps, Hold}
use Rattle.credit_ledger.specs.Paths.{keeps, prefix, path_of}
use Rattle.credit_ledger.specs.Trees.{no_progress, node_at, child, place, progress_at, time_above, is_by}
use Rattle.credit_ledger.specs.Trees.{both_of}
use Rattle.credit_ledger.specs.Trees.{child_since, since_all, HasNoShorter, IsHeldFrom, IsTreeKnown}
use Rattle.credit_ledger.proofs.HalvedLemmas.{begins_with-longer, begins_with_through}
use Rattle.credit_ledger.proofs.PathLemmas.{keeps-path_of, keeps-none, keeps-longer, IsBegunBy, here, higher}
use Rattle.credit_ledger.proofs.PathLemmas.{IsBegunBy-share, IsAbove, above, IsAbove-prefix}
use Rattle.credit_ledger.proofs.HeldLemmas.{list_any-found, list_any-none, Hold-longer, Hold-apart}
use Rattle.credit_ledger.proofs.HeldLemmas.{Hold-no_run}
use Rattle.credit_ledger.proofs.HeldLemmas.{Hold-run}
use Rattle.credit_ledger.proofs.KnownLemmas.{none_some, same_some, slice_get-take, slice_get-of_take}
use Rattle.credit_ledger.proofs.KnownLemmas.{IsEnteredIn}
use Rattle.credit_ledger.proofs.KnownLemmas.{entered_in, IsEnteredIn-above, IsRunOrShorter, is_run}
use Rattle.credit_ledger.proofs.KnownLemmas.{IsRunOrShorter-begun}
use Rattle.credit_ledger.proofs.KnownLemmas.{HasNoShorter-above, IsHeldFrom-entered, IsHeldFrom-none}
use Rattle.credit_ledger.proofs.KnownLemmas.{HasNoShorter-child}
use Rattle.credit_ledger.proofs.CountLemmas.{count_below-full}
use Rattle.credit_ledger.proofs.SettleLemmas.{IsFree}
use Rattle.credit_ledger.proofs.TreeLemmas.{place-none, place-child, progress_at-place, progress_at-none}

-- a share that an entered one begins, by a walk down
pub IsHeldFrom-above : (shares : List (List Half)) (at : List ℕ → Progress) → IsTreeKnown shares at
    → (p : List ℕ) (m time : ℕ) → time_above at p ≡ Some time
    → IsHeldFrom shares (Some (time + 1)) (keeps (prefix p) m)
IsHeldFrom-above shares at known p m time e =
    from_entered (IsEnteredIn-above shares at known.counted p time e)
  where
    from_entered : IsEnteredIn shares (prefix p) time
        → IsHeldFrom shares (Some (time + 1)) (keeps (prefix p) m)
    from_entered (entered_in t there begun) =
        IsHeldFrom-entered shares known.counted.apart time t (keeps (prefix p) m) there
        (begins_with_through (keeps (prefix p) m) (prefix p) t (begins_with-longer (prefix p) _) begun)

pub time_above-small : (shares : List (List Half)) (at : List ℕ → Progress) → IsTreeKnown shares at
    → (p : List ℕ) (time : ℕ) → time_above at p ≡ Some time → time < length shares
time_above-small shares at known p time e = from_entered (IsEnteredIn-above shares at known.counted p time e)
  where
    from_entered : IsEnteredIn shares (prefix p) time → time < length shares
    from_entered (entered_in t there begun) = slice_get_within shares time t there

pub run-small : (shares : List (List Half)) (at : List ℕ → Progress) → IsTreeKnown shares at
    → (p : List ℕ) (r : Run) → (at p).run ≡ Some r → r.time < length shares
run-small shares at known p r e =
    slice_get_within shares r.time (keeps (prefix p) r.keeps) (known.counted.run p r e)

-- a node with no run
pub IsHeldFrom-no_run : (shares : List (List Half)) (at : List ℕ → Progress) → IsTreeKnown shares at
    → (p : List ℕ) (m : ℕ) → time_above at p ≡ None → (at p).run ≡ None
    → IsHeldFrom shares None (keeps (prefix p) m)
IsHeldFrom-no_run shares at known p m none empty =
    IsHeldFrom-none shares (prefix p) m
    (λ j i t there begun.
    from_run j i t (IsRunOrShorter-begun shares at known.counted p none j i t there begun))
  where
    from_run : (j i : ℕ) (t : List Half) → IsRunOrShorter shares at p j i t → ⊥
    from_run j i t (is_run l less same run) = none_some (record { keeps = l; time = i }) (sym empty ∙ run)

-- a run that begins the share
pub IsHeldFrom-run : (shares : List (List Half)) (at : List ℕ → Progress) → IsTreeKnown shares at
    → (p : List ℕ) (m : ℕ) (r : Run) → (at p).run ≡ Some r → r.keeps ≤ m
    → IsHeldFrom shares (Some (r.time + 1)) (keeps (prefix p) m)
IsHeldFrom-run shares at known p m r run less =
    IsHeldFrom-entered shares known.counted.apart r.time (keeps (prefix p) r.keeps) (keeps (prefix p) m)
    (known.counted.run p r run) (keeps-longer (prefix p) m r.keeps less)

-- a node's own share
pub IsHeldFrom-node : (shares : List (List Half)) (at : List ℕ → Progress) → IsTreeKnown shares at
    → (p : List ℕ)
    → time_above at p ≡ None → IsHeldFrom shares (at p).since (keeps (prefix p) 0)
IsHeldFrom-node shares at known p none =
    subst (λ s. IsHeldFrom shares (at p).since s) (sym (keeps-none (prefix p)))
    (known.since p (HasNoShorter-above shares at known.counted p none))

-- ---- children one after another

is_by-both : (a b : Option ℕ) (upto : ℕ) → is_by (both_of a b) upto ≡ true
    → (is_by a upto ≡ true) × (is_by b upto ≡ true)
is_by-both None b upto by = absurd (false≢true by)
is_by-both (Some x) None upto by = absurd (false≢true by)
is_by-both (Some x) (Some y) upto by =
    let less : max x y ≤ upto = leb-true (max x y) upto by in
    (le-leb x upto (omega arith), le-leb y upto (omega arith))

is_by-of_both : (a b : Option ℕ) (upto : ℕ) → is_by a upto ≡ true → is_by b upto ≡ true
    → is_by (both_of a b) upto ≡ true
is_by-of_both None b upto one two = absurd (false≢true one)
is_by-of_both (Some x) None upto one two = absurd (false≢true two)
is_by-of_both (Some x) (Some y) upto one two =
    let first = leb-true x upto one in
    let second = leb-true y upto two in le-leb (max x y) upto (omega arith)

all_by : (since : ℕ → Option ℕ) (start first count upto : ℕ)
    → is_by (since_all since start first count) upto ≡ true
    → (start ≤ upto) × ((j : ℕ) → first ≤ j → j < first + count → is_by (since j) upto ≡ true)
all_by since start first zero upto by = (leb-true start upto by, λ j low high. absurd (omega arith))
all_by since start first (suc count) upto by =
    let parts = is_by-both (since_all since start first count) (since (first + count)) upto by in
    let rest = all_by since start first count upto parts.0 in (
      rest.0,
      λ j low high.
          ⊎_elim (λ (same : j ≡ first + count). ap (λ k. is_by (since k) upto) same ∙ parts.1)
          (λ (other : j ≢ first + count). rest.1 j low (omega arith)) (cases_eq j (first + count)),
    )

by_all : (since : ℕ → Option ℕ) (start first count upto : ℕ) → start ≤ upto
    → ((j : ℕ) → first ≤ j → j < first + count → is_by (since j) upto ≡ true)
    → is_by (since_all since start first count) upto ≡ true
by_all since start first zero upto late all = le-leb start upto late
by_all since start first (suc count) upto late all =
    is_by-of_both (since_all since start first count) (since (first + count)) upto
    (by_all since start first count upto late (λ j low high. all j low (omega arith)))
    (all (first + count) (omega arith) (omega arith))

pub since_all-none : (since : ℕ → Option ℕ) (start first count more : ℕ)
    → since_all since start first count ≡ None → since_all since start first (count + more) ≡ None
since_all-none since start first count zero e =
    let same : count + 0 ≡ count = omega arith in ap (since_all since start first) same ∙ e
since_all-none since start first count (suc more) e =
    let same : count + suc more ≡ suc (count + more) = omega arith in
    ap (since_all since start first) same
    ∙ ap (λ o. both_of o (since (first + (count + more)))) (since_all-none since start first count more e)

pub since_all-same : (since other : ℕ → Option ℕ) → ((n : ℕ) → since n ≡ other n) → (start first count : ℕ)
    → since_all since start first count ≡ since_all other start first count
since_all-same since other same start first zero = refl
since_all-same since other same start first (suc count) =
    ap (λ o. both_of o (since (first + count))) (since_all-same since other same start first count)
    ∙ ap (both_of (since_all other start first count)) (same (first + count))

-- a run that goes on behind the share
pub IsHeldFrom-children : (shares : List (List Half)) (at : List ℕ → Progress) → IsTreeKnown shares at
    → (p : List ℕ) (m : ℕ) (r : Run) → time_above at p ≡ None → (at p).run ≡ Some r → m ≤ r.keeps
    → IsHeldFrom shares (since_all (λ n. (at (n ∷ p)).since) (r.time + 1) m (r.keeps - m))
    (keeps (prefix p) m)
IsHeldFrom-children shares at known p m r none run less upto = (
  (λ by.
      let parts = all_by (λ n. (at (n ∷ p)).since) (r.time + 1) m (r.keeps - m) upto by in
      Hold-run (take upto shares) (prefix p) r.time r.keeps
      (slice_get-of_take shares upto r.time (keeps (prefix p) r.keeps) (omega (arith, parts.0))
      (known.counted.run p r run))
      (r.keeps - m) m (omega arith)
      (λ j low high. (known.since (j ∷ p) (clear j high) upto).0 (parts.1 j low (omega arith)))),
  (λ held.
      by_all (λ n. (at (n ∷ p)).since) (r.time + 1) m (r.keeps - m) upto (late held)
      (λ j low high. (known.since (j ∷ p) (clear j (omega arith)) upto).1
      (Hold-longer (take upto shares) (keeps (prefix p) j) (prefix (j ∷ p))
      (begins_with-longer (keeps (prefix p) j) _)
      (Hold-longer (take upto shares) (keeps (prefix p) m) (keeps (prefix p) j)
      (keeps-longer (prefix p) j m low) held)))),
)
  where
    clear : (j : ℕ) → j < r.keeps → HasNoShorter shares (prefix (j ∷ p))
    clear j high = HasNoShorter-child shares at known.counted p r j run high

    after : (i : ℕ) (l : ℕ) → (at p).run ≡ Some (record { keeps = l; time = i }) → i ≡ r.time
    after i l e = ap (λ (x : Run). x.time) (same_some (record { keeps = l; time = i }) r (sym e ∙ run))

    when : (j i : ℕ) (t : List Half) → IsRunOrShorter shares at p j i t → i ≡ r.time
    when j i t (is_run l less same there) = after i l there

    late : Hold (take upto shares) (keeps (prefix p) m) → r.time + 1 ≤ upto
    late held =
        ⊎_elim (λ (yes : r.time < upto). omega arith)
        (λ (early : upto ≤ r.time). absurd (Hold-no_run (take upto shares) (prefix p) m
        (λ j i t there begun.
        let was = slice_get-take shares upto i t there in
        let same = when j i t (IsRunOrShorter-begun shares at known.counted p none j i t was.1 begun) in
        omega (arith, was.0, same)) held))
        (cases_lt r.time upto)

-- from when each child is held, node by node
pub child_since-at : (tree : Tree) (p : List ℕ) (index : ℕ) → place (child tree) p ≡ Some index → (n : ℕ)
    → child_since tree index n ≡ (progress_at tree (n ∷ p)).since
child_since-at tree p index found n = by_child (child tree index n) refl
  where
    by_child : (o : Option ℕ) → child tree index n ≡ o
        → child_since tree index n ≡ (progress_at tree (n ∷ p)).since
    by_child None e =
        ap (option_and_then (λ k. (node_at tree k).progress.since)) e
        ∙ sym
        (ap (λ (x : Progress). x.since)
        (progress_at-none tree (n ∷ p) (place-child (child tree) n p index found ∙ e)))
    by_child (Some k) e =
        ap (option_and_then (λ k. (node_at tree k).progress.since)) e
        ∙ sym
        (ap (λ (x : Progress). x.since)
        (progress_at-place tree (n ∷ p) k (place-child (child tree) n p index found ∙ e)))

-- ---- overlaps

pub overlaps-above : (shares : List (List Half)) (at : List ℕ → Progress) → IsTreeKnown shares at
    → (p : List ℕ) (m time : ℕ) → time_above at p ≡ Some time
    → list_any (overlaps (keeps (prefix p) m)) shares ≡ true
overlaps-above shares at known p m time e = from_entered (IsEnteredIn-above shares at known.counted p time e)
  where
    from_entered : IsEnteredIn shares (prefix p) time → list_any (overlaps (keeps (prefix p) m)) shares ≡ true
    from_entered (entered_in t there begun) =
        list_any-found (overlaps (keeps (prefix p) m)) shares time t there
        (or_left _ _
        (begins_with_through (keeps (prefix p) m) (prefix p) t (begins_with-longer (prefix p) _) begun))

pub overlaps-run : (shares : List (List Half)) (at : List ℕ → Progress) → IsTreeKnown shares at
    → (p : List ℕ) (m : ℕ) (r : Run) → (at p).run ≡ Some r
    → list_any (overlaps (keeps (prefix p) m)) shares ≡ true
overlaps-run shares at known p m r e =
    list_any-found (overlaps (keeps (prefix p) m)) shares r.time (keeps (prefix p) r.keeps)
    (known.counted.run p r e)
    (⊎_elim
    (λ (less : r.keeps < m). or_left _ _ (keeps-longer (prefix p) m r.keeps (omega arith)))
    (λ (more : m ≤ r.keeps).
    or_right (begins_with (keeps (prefix p) m) (keeps (prefix p) r.keeps)) _
    (keeps-longer (prefix p) r.keeps m more))
    (cases_lt r.keeps m))

-- a node below which a run was entered stands
place-run : (tree : Tree) (q : List ℕ) (r : Run) → (progress_at tree q).run ≡ Some r
    → place (child tree) q ≡ None → ⊥
place-run tree q r e missing =
    none_some r (sym (ap (λ (x : Progress). x.run) (progress_at-none tree q missing)) ∙ e)

pub overlaps-none : (shares : List (List Half)) (tree : Tree) → IsTreeKnown shares (progress_at tree)
    → (p : List ℕ) (m : ℕ) → time_above (progress_at tree) p ≡ None → (progress_at tree p).run ≡ None
    → ((n k : ℕ) → place (child tree) (n ∷ p) ≡ Some k → n < m)
    → list_any (overlaps (keeps (prefix p) m)) shares ≡ false
overlaps-none shares tree known p m none empty low =
    list_any-none (overlaps (keeps (prefix p) m)) shares
    (λ i t there either.
    ⊎_elim
    (λ shorter.
    from_run i t (IsRunOrShorter-begun shares (progress_at tree) known.counted p none m i t there shorter))
    (λ longer.
    from_begun i t there
    (IsBegunBy-share (path_of t).0 (path_of t).1 p m
    (subst (λ x. begins_with x (keeps (prefix p) m) ≡ true) (sym (keeps-path_of t)) longer)))
    (or_cases (begins_with (keeps (prefix p) m) t) (begins_with t (keeps (prefix p) m)) either))
  where
    from_run : (i : ℕ) (t : List Half) → IsRunOrShorter shares (progress_at tree) p m i t → ⊥
    from_run i t (is_run l less same run) = none_some (record { keeps = l; time = i }) (sym empty ∙ run)

    run_of : (i : ℕ) (t : List Half) → slice_get shares i ≡ Some t
        → (progress_at tree (path_of t).0).run ≡ Some (record { keeps = (path_of t).1; time = i })
    run_of i t there =
        known.counted.entered i (path_of t).0 (path_of t).1 (there ∙ ap (λ x. Some x) (sym (keeps-path_of t)))

    below : (i : ℕ) (t : List Half) → slice_get shares i ≡ Some t → (n : ℕ) → m ≤ n
        → IsAbove (n ∷ p) (path_of t).0 → ⊥
    below i t there n more (above xs e) = by_place (place (child tree) (n ∷ p)) refl
      where
        by_place : (o : Option ℕ) → place (child tree) (n ∷ p) ≡ o → ⊥
        by_place None f =
            place-run tree (path_of t).0 (record { keeps = (path_of t).1; time = i }) (run_of i t there)
            (ap (place (child tree)) e ∙ place-none (child tree) xs (n ∷ p) f)
        by_place (Some k) f = let less = low n k f in omega arith

    from_begun : (i : ℕ) (t : List Half) → slice_get shares i ≡ Some t
        → IsBegunBy (path_of t).0 (path_of t).1 p m → ⊥
    from_begun i t there (here same less) =
        none_some (record { keeps = (path_of t).1; time = i })
        (sym empty ∙ ap (λ q. (progress_at tree q).run) same ∙ run_of i t there)
    from_begun i t there (higher n begun more) =
        below i t there n more (IsAbove-prefix (path_of t).0 (n ∷ p) begun)

-- no share overlaps this one
pub IsFree-overlaps : (shares : List (List Half)) (s : List Half) → list_any (overlaps s) shares ≡ false
    → IsFree shares s
IsFree-overlaps shares s none = record {
  shorter =
      λ i t there begun. both_ways _ none (list_any-found (overlaps s) shares i t there (or_left _ _ begun));
  longer =
      λ i t there begun.
      both_ways _ none
      (list_any-found (overlaps s) shares i t there (or_right (begins_with s t) _ begun));
}

-- ---- one tree in place of another

pub IsTreeKnown-same : (shares : List (List Half)) (at new : List ℕ → Progress)
    → ((up : List ℕ) → new up ≡ at up)
    → IsTreeKnown shares at → IsTreeKnown shares new
IsTreeKnown-same shares at new same known = subst (λ f. IsTreeKnown shares f) (sym (λ i up. same up i)) known

pub IsTreeKnown-empty : (at : List ℕ → Progress) → ((up : List ℕ) → at up ≡ no_progress) → IsTreeKnown [] at
IsTreeKnown-empty at empty = record {
  counted = record {
    apart = λ i j s t one two begun. absurd (none_some s one);
    run = λ up r e. absurd (none_some r (sym (ap (λ (p : Progress). p.run) (empty up)) ∙ e));
    entered = λ time up count there. absurd (none_some (keeps (prefix up) count) there);
    held = λ up some. absurd (false≢true (sym (off up) ∙ some));
    count = λ up bound below.
        count_below-full bound 0 (λ n. is_some (at (n ∷ up)).since) (omega arith)
        (λ n some. absurd (false≢true (sym (off (n ∷ up)) ∙ some))) (λ j less. absurd (omega arith))
        ∙ sym (ap (λ (p : Progress). p.held_children) (empty up));
  };
  since =
      λ up clear.
      subst (λ o. IsHeldFrom [] o (prefix up)) (sym (ap (λ (p : Progress). p.since) (empty up)))
      (never up);
}
  where
    off : (up : List ℕ) → is_some (at up).since ≡ false
    off up = ap (λ (p : Progress). is_some p.since) (empty up)

    never : (up : List ℕ) → IsHeldFrom [] None (prefix up)
    never up upto = (
      (λ by. absurd (false≢true by)),
      (λ held. absurd (Hold-apart (take upto []) (prefix up)
          (λ i t there begun. none_some t (slice_get-take [] upto i t there).1)
          (λ i t there begun. none_some t (slice_get-take [] upto i t there).1) held)),
    )

-- ---- the forms in which the functions have these

pub IsHeldFrom-seen : (shares seen : List (List Half)) (s : List Half) (since : Option ℕ) → shares ≡ seen
    → IsHeldFrom shares since (keeps (prefix (path_of s).0) (path_of s).1) → IsHeldFrom seen since s
IsHeldFrom-seen shares seen s since view from =
    subst (λ x. IsHeldFrom x since s) view (subst (λ x. IsHeldFrom shares since x) (keeps-path_of s) from)

pub run_at : (tree : Tree) (p : List ℕ) (index : ℕ) (node : Node) (o : Option Run)
    → place (child tree) p ≡ Some index → node ≡ node_at tree index → node.progress.run ≡ o
    → (progress_at tree p).run ≡ o
run_at tree p index node o found same e =
    ap (λ (x : Progress). x.run) (progress_at-place tree p index found)
    ∙ ap (λ (x : Node). x.progress.run) (sym same) ∙ e

pub since_at : (tree : Tree) (p : List ℕ) (index : ℕ) (node : Node) → place (child tree) p ≡ Some index
    → node ≡ node_at tree index → (progress_at tree p).since ≡ node.progress.since
since_at tree p index node found same =
    ap (λ (x : Progress). x.since) (progress_at-place tree p index found)
    ∙ ap (λ (x : Node). x.progress.since) (sym same)

pub overlaps-seen : (shares seen : List (List Half)) (s : List Half) (b : Bool) → shares ≡ seen
    → list_any (overlaps (keeps (prefix (path_of s).0) (path_of s).1)) shares ≡ b
    → b ≡ list_any (overlaps s) seen
overlaps-seen shares seen s b view e =
    sym
    (sym (ap (λ x. list_any (overlaps s) x) view)
    ∙ ap (λ x. list_any (overlaps x) shares) (sym (keeps-path_of s)) ∙ e)
