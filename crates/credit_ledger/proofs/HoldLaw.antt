-- Where the entered shares hold a share, no live one overlaps it, then or later.
use Rattle.std.proofs.Common.{◌≡◌, ℕ, ◌+◌, ◌≤◌, Bool, true, false, cond, List, [], ◌∷◌, ◌++◌, length, get_or}
use Rattle.std.proofs.Common.{replicate, refl, sym, ◌∙◌, ap, subst, arith, length-append, All, IsTrue, fold}
use Rattle.std.proofs.Common.{⊎_elim}
use Rattle.std.specs.Prelude.{◌&&◌, ◌==◌, map, filter}
use Rattle.std.specs.List.{list_any, AllByRecursion as ByRecursion}
use Rattle.std.proofs.lemmas.Bool.{and_parts, false≢true, cases_Bool, cond_both, or_cases, or_left, or_right}
use Rattle.std.proofs.lemmas.Bool.{and_left, and_right}
use Rattle.std.proofs.lemmas.List.{map-append, length-replicate}
use Rattle.std.proofs.lemmas.List.Folds.{list_any-append, list_any-from_Any, Any-from_list_any, list_any_at}
use Rattle.std.proofs.lemmas.List.Elements.{filter-append, recursion_from_All, All-from_recursion}
use Rattle.std.proofs.lemmas.List.Sums.{fold-append}
use Rattle.credit_ledger.specs.declared.share.Half.{Half}
use Rattle.credit_ledger.specs.declared.share.Half.TheVariants.{Keep}
use Rattle.credit_ledger.specs.Shares.{begins_with, Hold, overlaps}
use Rattle.credit_ledger.specs.Credits.{Credit, Holder, Running, Awaited, Entered, Event, Root, Create}
use Rattle.credit_ledger.specs.Credits.{Finish}
use Rattle.credit_ledger.specs.Credits.{Detach, Fulfil, is_entered, is_running, is_awaited, was_made, is_root}
use Rattle.credit_ledger.specs.Credits.{exchange, has_task_share, has_event_share, shared_halves}
use Rattle.credit_ledger.specs.Credits.{entered_credit}
use Rattle.credit_ledger.specs.Credits.{whole_credit, detached_halves, next_credits, credits_after}
use Rattle.credit_ledger.specs.Credits.{live_shares}
use Rattle.credit_ledger.specs.Credits.{entered_shares}
use Rattle.credit_ledger.proofs.HalvedLemmas.{IsAsLong, ByRecursion-append, length-begins_with}
use Rattle.credit_ledger.proofs.HalvedLemmas.{begins_with-append}
use Rattle.credit_ledger.proofs.HalvedLemmas.{begins_with-itself, count_by-some, list_any_weaker}
use Rattle.credit_ledger.proofs.CreditLemmas.{AreCreditsSound, AreCreditsSound-credits_after}
use Rattle.credit_ledger.proofs.TileLaw.{shares_where, is_live_of, is_entered_of, count_by-live-entered}
use Rattle.credit_ledger.proofs.TileLaw.{Fits-from_shares}

-- the second list has all the shares of the first, and perhaps more
pub record HasAllOf (old new : List (List Half)) : Type 0 where
  pub any : (p : List Half → Bool) → list_any p old ≡ true → list_any p new ≡ true
  pub all : (l : List Half) → ByRecursion (IsAsLong l) new → ByRecursion (IsAsLong l) old

HasAllOf-itself : (xs : List (List Half)) → HasAllOf xs xs
HasAllOf-itself xs = record { any = λ p h. h; all = λ l h. h }

HasAllOf-through : (xs ys zs : List (List Half)) → HasAllOf xs ys → HasAllOf ys zs → HasAllOf xs zs
HasAllOf-through xs ys zs f g = record { any = λ p h. g.any p (f.any p h); all = λ l h. f.all l (g.all l h) }

HasAllOf-before : (xs ys : List (List Half)) → HasAllOf ys (xs ++ ys)
HasAllOf-before xs ys = record {
  any = λ p h. rw list_any-append (or_right (list_any p xs) _ h);
  all = λ l h. (ByRecursion-append (IsAsLong l) xs ys h).1;
}

HasAllOf-cons : (x : List Half) (xs ys : List (List Half)) → HasAllOf xs ys → HasAllOf (x ∷ xs) (x ∷ ys)
HasAllOf-cons x xs ys w = record {
  any =
      λ p h.
      ⊎_elim (λ here. or_left _ _ here) (λ there. or_right (p x) _ (w.any p there))
      (or_cases (p x) (list_any p xs) h);
  all = λ l h. (h.0, w.all l h.1);
}

entered_shares-append : (root : ℕ) (cs ds : List Credit)
    → entered_shares root (cs ++ ds) ≡ entered_shares root cs ++ entered_shares root ds
entered_shares-append root cs ds =
    ap (λ es. map (λ (c : Credit). c.share) es) (filter-append (is_entered_of root) cs ds)
    ∙ map-append (λ (c : Credit). c.share) (filter (is_entered_of root) cs) (filter (is_entered_of root) ds)

HasAllOf-where : (b : Bool) (c : Credit) (xs ys : List Credit)
    → HasAllOf (map (λ (c : Credit). c.share) xs) (map (λ (c : Credit). c.share) ys)
    → HasAllOf (map (λ (c : Credit). c.share) (cond b (c ∷ xs) xs))
    (map (λ (c : Credit). c.share) (cond b (c ∷ ys) ys))
HasAllOf-where true c xs ys w = HasAllOf-cons c.share _ _ w
HasAllOf-where false c xs ys w = w

-- what an exchange takes away was not entered
HasAllOf-exchange : (root : ℕ) (passes : Credit → Bool) (others : Credit → List Credit)
    → ((c : Credit) → passes c ≡ true → is_entered c.holder ≡ false) → (cs : List Credit)
    → HasAllOf (entered_shares root cs) (entered_shares root (exchange passes others cs))
HasAllOf-exchange root passes others live [] = HasAllOf-itself []
HasAllOf-exchange root passes others live (c ∷ cs) =
    cond_both (passes c) (others c ++ cs) (c ∷ exchange passes others cs)
    (λ ds. HasAllOf (entered_shares root (c ∷ cs)) (entered_shares root ds))
    (λ yes.
    let skipped : is_entered_of root c ≡ false = and_right (c.root == root) _ (live c yes) in
    let was : entered_shares root (c ∷ cs) ≡ entered_shares root cs =
    ap
    (λ b.
    map (λ (c : Credit). c.share)
    (cond b (c ∷ filter (is_entered_of root) cs) (filter (is_entered_of root) cs)))
    skipped in
    subst (λ xs. HasAllOf xs (entered_shares root (others c ++ cs))) (sym was)
    (subst (λ ys. HasAllOf (entered_shares root cs) ys) (sym (entered_shares-append root (others c) cs))
    (HasAllOf-before (entered_shares root (others c)) (entered_shares root cs))))
    (
    λ no.
    HasAllOf-where (is_entered_of root c) c (filter (is_entered_of root) cs)
    (filter (is_entered_of root) (exchange passes others cs))
    (HasAllOf-exchange root passes others live cs))

is_running-not_entered : (h : Holder) → is_running h ≡ true → is_entered h ≡ false
is_running-not_entered Running e = refl
is_running-not_entered Awaited e = refl
is_running-not_entered Entered e = absurd (false≢true e)

is_awaited-not_entered : (h : Holder) → is_awaited h ≡ true → is_entered h ≡ false
is_awaited-not_entered Running e = refl
is_awaited-not_entered Awaited e = refl
is_awaited-not_entered Entered e = absurd (false≢true e)

has_task_share-live : (task : ℕ) (c : Credit) → has_task_share task c ≡ true → is_entered c.holder ≡ false
has_task_share-live task c h =
    is_running-not_entered c.holder (and_parts (c.task == task) (is_running c.holder) h).1

has_event_share-live : (task : ℕ) (c : Credit) → has_event_share task c ≡ true → is_entered c.holder ≡ false
has_event_share-live task c h =
    is_awaited-not_entered c.holder (and_parts (c.task == task) (is_awaited c.holder) h).1

HasAllOf-root : (root task : ℕ) (cs : List Credit)
    → HasAllOf (entered_shares root cs) (entered_shares root (whole_credit task ∷ cs))
HasAllOf-root root task cs =
    let skipped : ((task == root) && false) ≡ false = and_right (task == root) _ refl in
    let e : entered_shares root (whole_credit task ∷ cs) ≡ entered_shares root cs =
    ap
    (λ b.
    map (λ (c : Credit). c.share)
    (cond b (whole_credit task ∷ filter (is_entered_of root) cs) (filter (is_entered_of root) cs)))
    skipped in
    subst (λ ys. HasAllOf (entered_shares root cs) ys) (sym e) (HasAllOf-itself (entered_shares root cs))

-- what was entered stays so
HasAllOf-next_credits : (root : ℕ) (cs : List Credit) (e : Event)
    → HasAllOf (entered_shares root cs) (entered_shares root (next_credits cs e))
HasAllOf-next_credits root cs (Root task) =
    cond_both (was_made task cs) cs _ (λ ds. HasAllOf (entered_shares root cs) (entered_shares root ds))
    (λ old. HasAllOf-itself _) (λ new. HasAllOf-root root task cs)
HasAllOf-next_credits root cs (Create creator child) =
    cond_both (was_made child cs) cs _ (λ ds. HasAllOf (entered_shares root cs) (entered_shares root ds))
    (λ old. HasAllOf-itself _)
    (λ new.
    HasAllOf-exchange root (has_task_share creator) (shared_halves child)
    (has_task_share-live creator) cs)
HasAllOf-next_credits root cs (Finish task) =
    HasAllOf-exchange root (has_task_share task) entered_credit (has_task_share-live task) cs
HasAllOf-next_credits root cs (Detach task) =
    HasAllOf-exchange root (has_task_share task) detached_halves (has_task_share-live task) cs
HasAllOf-next_credits root cs (Fulfil task) =
    HasAllOf-exchange root (has_event_share task) entered_credit (has_event_share-live task) cs

HasAllOf-run : (root : ℕ) (cs : List Credit) (es : List Event)
    → HasAllOf (entered_shares root cs) (entered_shares root (fold next_credits cs es))
HasAllOf-run root cs [] = HasAllOf-itself _
HasAllOf-run root cs (e ∷ es) =
    HasAllOf-through _ _ _ (HasAllOf-next_credits root cs e) (HasAllOf-run root (next_credits cs e) es)

-- more shares hold what fewer hold
pub Hold-within : (old new : List (List Half)) (s : List Half) → HasAllOf old new → Hold old s → Hold new s
Hold-within old new s within held l begins long =
    let short = recursion_from_All (IsAsLong l) (s ∷ new) long in
    let found = held l begins (All-from_recursion (IsAsLong l) (s ∷ old) (short.0, within.all l short.1)) in
    Any-from_list_any (λ t. begins_with l t) new
    (within.any (λ t. begins_with l t) (list_any-from_Any (λ t. begins_with l t) old found))

-- the halves of all shares together, which no share exceeds
abbrev pub reach : List Credit → ℕ
reach [] = 0
reach (c ∷ cs) = length c.share + reach cs

IsAsLong-reach : (test : Credit → Bool) (l : List Half) (cs : List Credit) → reach cs ≤ length l
    → ByRecursion (IsAsLong l) (shares_where test cs)
IsAsLong-reach test l [] far = tt
IsAsLong-reach test l (c ∷ cs) far =
    let here : length c.share ≤ length l = omega arith in
    let rest : ByRecursion (IsAsLong l) (shares_where test cs) = IsAsLong-reach test l cs (omega arith) in
    cond_both (test c) (c ∷ filter test cs) (filter test cs)
    (λ ds. ByRecursion (IsAsLong l) (map (λ (c : Credit). c.share) ds))
    (λ yes. (here, rest)) (λ no. rest)

-- a root with a live share was made
is_root-live : (p : List Half → Bool) (root : ℕ) (cs : List Credit) → list_any p (live_shares root cs) ≡ true
    → is_root root cs ≡ true
is_root-live p root [] h = h
is_root-live p root (c ∷ cs) h =
    ⊎_elim
    (λ (here : (c.root == root) ≡ true). or_left _ _ here)
    (λ (apart : (c.root == root) ≡ false).
    let skipped : is_live_of root c ≡ false = and_left _ _ apart in
    let was : live_shares root (c ∷ cs) ≡ live_shares root cs =
    ap
    (λ b.
    map (λ (c : Credit). c.share)
    (cond b (c ∷ filter (is_live_of root) cs) (filter (is_live_of root) cs)))
    skipped in
    or_right (c.root == root) _ (is_root-live p root cs (subst (λ xs. list_any p xs ≡ true) was h)))
    (cases_Bool (c.root == root))

-- no list of halves begins with a share that is held and with a live one
Hold-apart : (cs : List Credit) (root : ℕ) (s u : List Half) → AreCreditsSound cs
    → Hold (entered_shares root cs) s
    → list_any (λ x. begins_with u x) (live_shares root cs) ≡ true → begins_with u s ≡ true → ⊥
Hold-apart cs root s u sound held live begins =
    let l : List Half = u ++ replicate (reach cs) Keep in
    let far : reach cs ≤ length l =
    omega (arith, length-append u (replicate (reach cs) Keep), length-replicate (reach cs) Keep) in
    let as_live : ByRecursion (IsAsLong l) (live_shares root cs) =
    IsAsLong-reach (is_live_of root) l cs far in
    let as_entered : ByRecursion (IsAsLong l) (entered_shares root cs) =
    IsAsLong-reach (is_entered_of root) l cs far in
    let on_s : begins_with l s ≡ true = begins_with-append u (replicate (reach cs) Keep) s begins in
    let found =
    held l on_s
    (All-from_recursion (IsAsLong l) (s ∷ entered_shares root cs)
    (length-begins_with l s on_s, as_entered)) in
    let one =
    sound.one l root (is_root-live (λ x. begins_with u x) root cs live)
    (Fits-from_shares l root cs as_live as_entered) in
    let entered_one =
    count_by-some (λ x. begins_with l x) (entered_shares root cs)
    (list_any-from_Any (λ x. begins_with l x) (entered_shares root cs) found) in
    let live_one = count_by-some (λ x. begins_with l x) (live_shares root cs)
    (list_any_weaker (λ x. begins_with u x) (λ x. begins_with l x)
    (λ x. begins_with-append u (replicate (reach cs) Keep) x) (live_shares root cs) live) in
    absurd (omega (arith, one, count_by-live-entered l root cs, entered_one, live_one))

Hold-here : (cs : List Credit) (root : ℕ) (s : List Half) → AreCreditsSound cs
    → Hold (entered_shares root cs) s
    → All (λ t. ¬ IsTrue (overlaps s t)) (live_shares root cs)
Hold-here cs root s sound held k d within shared =
    let t : List Half = get_or (live_shares root cs) k d in
    let at_t =
    λ (u : List Half) (h : begins_with u t ≡ true).
    list_any_at (λ x. begins_with u x) (live_shares root cs) k d within h in
    ⊎_elim
    (λ (h : begins_with s t ≡ true). Hold-apart cs root s s sound held (at_t s h) (begins_with-itself s))
    (λ (h : begins_with t s ≡ true). Hold-apart cs root s t sound held (at_t t (begins_with-itself t)) h)
    (or_cases (begins_with s t) (begins_with t s) shared)

pub Hold-credits_after : (es later : List Event) (root : ℕ) (s : List Half)
    → Hold (entered_shares root (credits_after es)) s
    → All (λ t. ¬ IsTrue (overlaps s t)) (live_shares root (credits_after (es ++ later)))
Hold-credits_after es later root s held =
    let on : credits_after (es ++ later) ≡ fold next_credits (credits_after es) later =
    fold-append next_credits [] es later in
    Hold-here (credits_after (es ++ later)) root s (AreCreditsSound-credits_after (es ++ later))
    (subst (λ cs. Hold (entered_shares root cs) s) (sym on)
    (Hold-within _ _ s (HasAllOf-run root (credits_after es) later) held))
