-- What is known of a purse as a tree tells from when it holds a share.
use Rattle.std.proofs.Common.{◌≡◌, ℕ, zero, suc, ◌+◌, ◌<◌, ◌≤◌, true, false, List, [], ◌∷◌, ◌++◌, length}
use Rattle.std.proofs.Common.{take, replicate, refl, sym, ◌∙◌, ap, subst, arith, leb, ⊎_elim, inl, inr, ◌⊎◌}
use Rattle.std.specs.Prelude.{Option, Some, None, is_some, slice_get}
use Rattle.std.proofs.lemmas.Bool.{false≢true, cases_Bool, cases_lt, cond-true, cond-false, leb-true, le-leb}
use Rattle.credit_ledger.specs.declared.share.Half.{Half}
use Rattle.credit_ledger.specs.declared.share.Half.TheVariants.{Keep, Give}
use Rattle.credit_ledger.specs.declared.tree.Run.{Run}
use Rattle.credit_ledger.specs.declared.tree.Progress.{Progress}
use Rattle.credit_ledger.specs.Shares.{begins_with}
use Rattle.credit_ledger.specs.Paths.{keeps, prefix, path_of}
use Rattle.credit_ledger.specs.Trees.{time_within, first_time, time_above, IsApart, HasNoShorter, IsHeldFrom}
use Rattle.credit_ledger.specs.Trees.{AreRunsCounted}
use Rattle.credit_ledger.proofs.HalvedLemmas.{begins_with-append, begins_with_through, length-begins_with}
use Rattle.credit_ledger.proofs.HoldLemmas.{begins_with-either}
use Rattle.credit_ledger.proofs.PathLemmas.{keeps-path_of, keeps_apart, keeps-none, keeps-longer}
use Rattle.credit_ledger.proofs.PathLemmas.{length-keeps}
use Rattle.credit_ledger.proofs.PathLemmas.{prefix-parent, begins_with-push, IsBegunBy, here, higher}
use Rattle.credit_ledger.proofs.PathLemmas.{IsBegunBy-share}
use Rattle.credit_ledger.proofs.PathLemmas.{IsAbove, above, IsAbove-prefix}
use Rattle.credit_ledger.proofs.HeldLemmas.{Hold-found, Hold-apart, Hold-no_run}

pub none_some : {X : Type 0} (x : X) → ◌≡◌ {A = Option X} None (Some x) → ⊥
none_some x e = cc

pub same_some : {X : Type 0} (x y : X) → ◌≡◌ {A = Option X} (Some x) (Some y) → x ≡ y
same_some x y e = cc

pub slice_get-take : {X : Type 0} (xs : List X) (k i : ℕ) (t : X) → slice_get (take k xs) i ≡ Some t
    → (i < k) × (slice_get xs i ≡ Some t)
slice_get-take xs zero i t at = absurd (none_some t at)
slice_get-take [] (suc k) i t at = absurd (none_some t at)
slice_get-take (x ∷ xs) (suc k) zero t at = (omega arith, at)
slice_get-take (x ∷ xs) (suc k) (suc i) t at =
    let rest = slice_get-take xs k i t at in (omega (arith, rest.0), rest.1)

pub slice_get-of_take : {X : Type 0} (xs : List X) (k i : ℕ) (t : X) → i < k → slice_get xs i ≡ Some t
    → slice_get (take k xs) i ≡ Some t
slice_get-of_take xs zero i t less at = absurd (omega arith)
slice_get-of_take [] (suc k) i t less at = absurd (none_some t at)
slice_get-of_take (x ∷ xs) (suc k) zero t less at = at
slice_get-of_take (x ∷ xs) (suc k) (suc i) t less at = slice_get-of_take xs k i t (omega arith) at

-- what a run within a number was
pub data IsRunWithin (run : Option Run) (n time : ℕ) : Type 0 where
  within : (r : Run) → run ≡ Some r → r.keeps ≤ n → r.time ≡ time → IsRunWithin run n time

pub IsRunWithin-from : (run : Option Run) (n time : ℕ) → time_within run n ≡ Some time
    → IsRunWithin run n time
IsRunWithin-from None n time e = absurd (none_some time e)
IsRunWithin-from (Some r) n time e =
    ⊎_elim
    (λ (yes : leb r.keeps n ≡ true).
    within r refl (leb-true r.keeps n yes)
    (same_some r.time time (sym (cond-true (leb r.keeps n) (Some r.time) None yes) ∙ e)))
    (λ (no : leb r.keeps n ≡ false).
    absurd (none_some time (sym (cond-false (leb r.keeps n) (Some r.time) None no) ∙ e)))
    (cases_Bool (leb r.keeps n))

pub time_within-none : (run : Option Run) (n : ℕ) (r : Run) → time_within run n ≡ None → run ≡ Some r
    → r.keeps ≤ n → ⊥
time_within-none run n r e same less =
    let yes : leb r.keeps n ≡ true = le-leb r.keeps n less in
    none_some r.time
    (sym e ∙ ap (λ o. time_within o n) same ∙ cond-true (leb r.keeps n) (Some r.time) None yes)

first_of-some : (a b : Option ℕ) (time : ℕ) → first_time a b ≡ Some time → (a ≡ Some time) ⊎ (b ≡ Some time)
first_of-some None b time e = inr e
first_of-some (Some x) b time e = inl e

first_of-none : (a b : Option ℕ) → first_time a b ≡ None → (a ≡ None) × (b ≡ None)
first_of-none None b e = (refl, e)
first_of-none (Some x) b e = absurd (none_some x (sym e))

-- a share that was entered and begins this one
pub data IsEnteredIn (shares : List (List Half)) (s : List Half) (time : ℕ) : Type 0 where
  entered_in : (t : List Half) → slice_get shares time ≡ Some t → begins_with s t ≡ true
      → IsEnteredIn shares s time

IsEnteredIn-longer : (shares : List (List Half)) (s r : List Half) (time : ℕ) → begins_with r s ≡ true
    → IsEnteredIn shares s time → IsEnteredIn shares r time
IsEnteredIn-longer shares s r time on (entered_in t at begun) =
    entered_in t at (begins_with_through r s t on begun)

pub IsEnteredIn-above : (shares : List (List Half)) (at : List ℕ → Progress) → AreRunsCounted shares at
    → (p : List ℕ) (time : ℕ) → time_above at p ≡ Some time → IsEnteredIn shares (prefix p) time
IsEnteredIn-above shares at counted [] time e = absurd (none_some time e)
IsEnteredIn-above shares at counted (n ∷ up) time e =
    ⊎_elim
    (λ (first : time_above at up ≡ Some time).
    IsEnteredIn-longer shares (prefix up) (prefix (n ∷ up)) time (prefix-parent n up)
    (IsEnteredIn-above shares at counted up time first))
    (λ (second : time_within (at up).run n ≡ Some time).
    from_run (IsRunWithin-from (at up).run n time second))
    (first_of-some (time_above at up) (time_within (at up).run n) time e)
  where
    from_run : IsRunWithin (at up).run n time → IsEnteredIn shares (prefix (n ∷ up)) time
    from_run (within r same less when) =
        entered_in (keeps (prefix up) r.keeps) (ap (slice_get shares) (sym when) ∙ counted.run up r same)
        (begins_with-append (keeps (prefix up) n) (Give ∷ []) (keeps (prefix up) r.keeps)
        (keeps-longer (prefix up) n r.keeps less))

pub time_above-none : (at : List ℕ → Progress) (xs up : List ℕ) → time_above at (xs ++ up) ≡ None
    → time_above at up ≡ None
time_above-none at [] up e = e
time_above-none at (n ∷ xs) up e =
    time_above-none at xs up
    (first_of-none (time_above at (xs ++ up)) (time_within (at (xs ++ up)).run n) e).0

pub time_above-some : (at : List ℕ → Progress) (xs up : List ℕ) (time : ℕ) → time_above at up ≡ Some time
    → time_above at (xs ++ up) ≡ Some time
time_above-some at [] up time e = e
time_above-some at (n ∷ xs) up time e =
    ap (λ o. first_time o (time_within (at (xs ++ up)).run n)) (time_above-some at xs up time e)

-- where no shorter share begins a node's, a share that begins a run of it is that run or a shorter one
pub data IsRunOrShorter (shares : List (List Half)) (at : List ℕ → Progress) (p : List ℕ) (m i : ℕ)
    (t : List Half) :
    Type 0 where
  is_run : (l : ℕ) → l ≤ m → t ≡ keeps (prefix p) l → (at p).run ≡ Some (record { keeps = l; time = i })
      → IsRunOrShorter shares at p m i t

pub IsRunOrShorter-begun : (shares : List (List Half)) (at : List ℕ → Progress) → AreRunsCounted shares at
    → (p : List ℕ)
    → time_above at p ≡ None → (m i : ℕ) (t : List Half) → slice_get shares i ≡ Some t
    → begins_with (keeps (prefix p) m) t ≡ true → IsRunOrShorter shares at p m i t
IsRunOrShorter-begun shares at counted p none m i t entered begun =
    by_case
    (IsBegunBy-share p m (path_of t).0 (path_of t).1
    (subst (λ r. begins_with (keeps (prefix p) m) r ≡ true) (sym (keeps-path_of t)) begun))
  where
    known : (at (path_of t).0).run ≡ Some (record { keeps = (path_of t).1; time = i })
    known = counted.entered i (path_of t).0 (path_of t).1 (entered ∙ ap (λ r. Some r) (sym (keeps-path_of t)))

    no_higher : (n : ℕ) → (path_of t).1 ≤ n → IsAbove (n ∷ (path_of t).0) p → ⊥
    no_higher n less (above xs e) =
        let rest = time_above-none at xs (n ∷ (path_of t).0) (ap (time_above at) (sym e) ∙ none) in
        time_within-none (at (path_of t).0).run n (record { keeps = (path_of t).1; time = i })
        (first_of-none (time_above at (path_of t).0) (time_within (at (path_of t).0).run n) rest).1 known less

    by_case : IsBegunBy p m (path_of t).0 (path_of t).1 → IsRunOrShorter shares at p m i t
    by_case (here same less) =
        is_run (path_of t).1 less
        (sym (keeps-path_of t) ∙ ap (λ q. keeps (prefix q) (path_of t).1) same)
        (ap (λ q. (at q).run) (sym same) ∙ known)
    by_case (higher n begun less) = absurd (no_higher n less (IsAbove-prefix p (n ∷ (path_of t).0) begun))

-- where no shorter share begins a node's share, none does
pub HasNoShorter-above : (shares : List (List Half)) (at : List ℕ → Progress) → AreRunsCounted shares at
    → (p : List ℕ)
    → time_above at p ≡ None → HasNoShorter shares (prefix p)
HasNoShorter-above shares at counted p none i t entered begun =
    from_run
    (IsRunOrShorter-begun shares at counted p none 0 i t entered
    (subst (λ r. begins_with r t ≡ true) (sym (keeps-none (prefix p))) begun))
  where
    from_run : IsRunOrShorter shares at p 0 i t → length (prefix p) ≤ length t
    from_run (is_run l less same run) = omega (arith, ap length same, length-keeps (prefix p) l)

-- a share that an entered one begins is held from then on
pub IsHeldFrom-entered : (shares : List (List Half)) → IsApart shares → (time : ℕ) (t s : List Half)
    → slice_get shares time ≡ Some t → begins_with s t ≡ true → IsHeldFrom shares (Some (time + 1)) s
IsHeldFrom-entered shares apart time t s at begun upto = (
  (λ by. Hold-found (take upto shares) time t s
      (slice_get-of_take shares upto time t (let less = leb-true (time + 1) upto by in omega arith) at)
      begun),
  (λ held. ⊎_elim
      (λ (late : time < upto). le-leb (time + 1) upto (omega arith))
      (λ (early : upto ≤ time). absurd
      (Hold-apart (take upto shares) s
      (λ i r there on_r. let was = slice_get-take shares upto i r there in
      let same : i ≡ time =
      ⊎_elim (λ r_t. sym (apart time i t r at was.1 r_t)) (λ t_r. apart i time r t was.1 at t_r)
      (begins_with-either s t r begun on_r) in
      omega (arith, was.0, same))
      (λ i r there on_s. let was = slice_get-take shares upto i r there in
      let same : i ≡ time = apart i time r t was.1 at (begins_with_through r s t on_s begun) in
      omega (arith, was.0, same))
      held))
      (cases_lt time upto)),
)

-- nothing entered begins a run at the node
pub IsHeldFrom-none : (shares : List (List Half)) (s : List Half) (m : ℕ)
    → ((j i : ℕ) (t : List Half) → slice_get shares i ≡ Some t → begins_with (keeps s j) t ≡ true → ⊥)
    → IsHeldFrom shares None (keeps s m)
IsHeldFrom-none shares s m none upto = (
  (λ by. absurd (false≢true by)),
  (λ held.
      absurd
      (Hold-no_run (take upto shares) s m
      (λ j i t there begun. none j i t (slice_get-take shares upto i t there).1 begun) held)),
)

-- a child before the end of the run is clear
pub HasNoShorter-child : (shares : List (List Half)) (at : List ℕ → Progress) → AreRunsCounted shares at
    → (up : List ℕ) (r : Run) (k : ℕ) → (at up).run ≡ Some r → k < r.keeps
    → HasNoShorter shares (prefix (k ∷ up))
HasNoShorter-child shares at counted up r k run less i t entered begun =
    ⊎_elim
    (λ (first : begins_with (keeps (prefix up) k) t ≡ true).
    let later =
    begins_with_through (keeps (prefix up) r.keeps) (keeps (prefix up) k) t
    (keeps-longer (prefix up) r.keeps k (omega arith)) first in
    let when : r.time ≡ i =
    counted.apart r.time i (keeps (prefix up) r.keeps) t (counted.run up r run) entered later in
    let same : keeps (prefix up) r.keeps ≡ t =
    same_some (keeps (prefix up) r.keeps) t
    (sym (counted.run up r run) ∙ ap (slice_get shares) when ∙ entered) in
    let short = length-begins_with (keeps (prefix up) k) t first in
    absurd
    (omega (arith, short, ap length same, length-keeps (prefix up) k, length-keeps (prefix up) r.keeps)))
    (λ (whole : t ≡ prefix (k ∷ up)). omega (arith, ap length whole))
    (begins_with-push (keeps (prefix up) k) Give t begun)

-- a held child stands before the end of the run
pub held_child-before : (shares : List (List Half)) (at : List ℕ → Progress) → AreRunsCounted shares at
    → (up : List ℕ) (r : Run) (k : ℕ) → (at up).run ≡ Some r → is_some (at (k ∷ up)).since ≡ true
    → k < r.keeps
held_child-before shares at counted up r k run held =
    ⊎_elim (λ less. less)
    (λ (past : r.keeps ≤ k). absurd (with_run past (at (k ∷ up)).run refl (counted.held (k ∷ up) held)))
    (cases_lt k r.keeps)
  where
    with_run : r.keeps ≤ k → (o : Option Run) → (at (k ∷ up)).run ≡ o → is_some o ≡ true → ⊥
    with_run past None e some = false≢true some
    with_run past (Some q) e some =
        let one =
        begins_with-append (keeps (prefix up) k) (Give ∷ []) (keeps (prefix up) r.keeps)
        (keeps-longer (prefix up) k r.keeps past) in
        let two =
        begins_with-append (prefix (k ∷ up)) (replicate q.keeps Keep) (keeps (prefix up) r.keeps) one in
        let there = counted.run (k ∷ up) q e in
        let when : q.time ≡ r.time =
        counted.apart q.time r.time (keeps (prefix (k ∷ up)) q.keeps) (keeps (prefix up) r.keeps) there
        (counted.run up r run) two in
        let same : keeps (prefix (k ∷ up)) q.keeps ≡ keeps (prefix up) r.keeps =
        same_some (keeps (prefix (k ∷ up)) q.keeps) (keeps (prefix up) r.keeps)
        (sym there ∙ ap (slice_get shares) when ∙ counted.run up r run) in
        let paths : k ∷ up ≡ up = (keeps_apart (k ∷ up) up q.keeps r.keeps same).0 in
        absurd (omega (arith, ap length paths))
