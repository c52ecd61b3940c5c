-- What the machine of credits keeps.
use Rattle.std.proofs.Common.{◌≡◌, ℕ, ◌+◌, ◌<◌, ◌≤◌, Bool, true, false, List, [], ◌∷◌, ◌++◌, length, refl}
use Rattle.std.proofs.Common.{sym, ◌∙◌, ap, subst, arith, length-append, fold, ⊎_elim}
use Rattle.std.specs.Prelude.{◌&&◌, ◌||◌, ◌==◌}
use Rattle.std.proofs.lemmas.Bool.{false≢true, cases_Bool, cond_both, both_ways, eqb-true, false_from_ne_true}
use Rattle.std.proofs.lemmas.Bool.{and_left, or_parts, or_cases, or_left, or_right}
use Rattle.std.proofs.lemmas.List.Folds.{list_any-append}
use Rattle.credit_ledger.specs.declared.share.Half.{Half}
use Rattle.credit_ledger.specs.declared.share.Half.TheVariants.{Keep}
use Rattle.credit_ledger.specs.Shares.{begins_with, keep_half, give_half}
use Rattle.credit_ledger.specs.Credits.{Credit, Holder, Running, Awaited, Entered, Event, Root, Create}
use Rattle.credit_ledger.specs.Credits.{Finish}
use Rattle.credit_ledger.specs.Credits.{Detach, Fulfil, was_made, is_root, exchange, has_task_share}
use Rattle.credit_ledger.specs.Credits.{has_event_share}
use Rattle.credit_ledger.specs.Credits.{shared_halves, entered_credit, whole_credit, detached_halves}
use Rattle.credit_ledger.specs.Credits.{next_credits}
use Rattle.credit_ledger.specs.Credits.{credits_after}
use Rattle.credit_ledger.proofs.HalvedLemmas.{ones, begins_with-halves}

-- how many of the root's shares the list of halves begins with
abbrev pub tally : List Half → ℕ → List Credit → ℕ
tally l root [] = 0
tally l root (c ∷ cs) = ones ((c.root == root) && begins_with l c.share) + tally l root cs

-- the list of halves is as long as each of the root's shares
abbrev pub Fits : List Half → ℕ → List Credit → Type 0
Fits l root [] = Unit {0}
Fits l root (c ∷ cs) = ((c.root == root) ≡ true → length c.share ≤ length l) × Fits l root cs

pub tally-append : (l : List Half) (root : ℕ) (cs ds : List Credit)
    → tally l root (cs ++ ds) ≡ tally l root cs + tally l root ds
tally-append l root [] ds = omega arith
tally-append l root (c ∷ cs) ds = omega (arith, tally-append l root cs ds)

pub Fits-append : (l : List Half) (root : ℕ) (cs ds : List Credit) → Fits l root (cs ++ ds)
    → Fits l root cs × Fits l root ds
Fits-append l root [] ds fits = (tt, fits)
Fits-append l root (c ∷ cs) ds fits =
    let rest = Fits-append l root cs ds fits.1 in ((fits.0, rest.0), rest.1)

-- what may stand in place of a credit: the same root, the same task among others, and shares that tile the
-- old one
pub record ReplacesCredit (c : Credit) (others : List Credit) : Type 0 where
  pub same_root : (root : ℕ) → is_root root others ≡ true → (c.root == root) ≡ true
  pub keeps_task : (task : ℕ) → (c.task == task) ≡ true → was_made task others ≡ true
  pub fits : (l : List Half) (root : ℕ) → Fits l root others → Fits l root (c ∷ [])
  pub tiles : (l : List Half) (root : ℕ) → Fits l root others → tally l root others ≡ tally l root (c ∷ [])

-- each root was made, and its shares tile
pub record AreCreditsSound (cs : List Credit) : Type 0 where
  pub made : (root : ℕ) → is_root root cs ≡ true → was_made root cs ≡ true
  pub one : (l : List Half) (root : ℕ) → is_root root cs ≡ true → Fits l root cs → tally l root cs ≡ 1

-- one root's test, for two credits of that root
both_of_root : (b : Bool) → (b || (b || false)) ≡ true → b ≡ true
both_of_root true h = refl
both_of_root false h = h

one_of_root : (b : Bool) → (b || false) ≡ true → b ≡ true
one_of_root true h = refl
one_of_root false h = h

count-halves : (b : Bool) (l s : List Half) → (b ≡ true → length (keep_half s) ≤ length l)
    → ones (b && begins_with l (keep_half s)) + (ones (b && begins_with l (give_half s)) + 0)
    ≡ ones (b && begins_with l s) + 0
count-halves false l s fits = refl
count-halves true l s fits =
    let longer : length s < length l = omega (arith, length-append s (Keep ∷ []), fits refl) in
    omega (arith, begins_with-halves l s longer)

-- the two halves stand for what was halved, whoever has them
pub ReplacesCredit-halves : (c : Credit) (here there : Holder) (task : ℕ)
    → ReplacesCredit c (record {
      root = c.root;
      task = c.task;
      holder = here;
      share = keep_half c.share;
    } ∷ record { root = c.root; task = task; holder = there; share = give_half c.share } ∷ [])
ReplacesCredit-halves c here there task = record {
  same_root = λ root h. both_of_root (c.root == root) h;
  keeps_task = λ t h. or_left _ _ h;
  fits =
      λ l root fits.
      ((λ h. let kept = fits.0 h in omega (arith, length-append c.share (Keep ∷ []), kept)), tt);
  tiles = λ l root fits. count-halves (c.root == root) l c.share fits.0;
}

pub ReplacesCredit-entered_credit : (c : Credit) → ReplacesCredit c (entered_credit c)
ReplacesCredit-entered_credit c = record {
  same_root = λ root h. one_of_root (c.root == root) h;
  keeps_task = λ t h. or_left _ _ h;
  fits = λ l root fits. fits;
  tiles = λ l root fits. refl;
}

pub is_root-append : (root : ℕ) (cs ds : List Credit)
    → is_root root (cs ++ ds) ≡ (is_root root cs || is_root root ds)
is_root-append root cs ds = list_any-append (λ (c : Credit). c.root == root) cs ds

pub is_made-append : (task : ℕ) (cs ds : List Credit)
    → was_made task (cs ++ ds) ≡ (was_made task cs || was_made task ds)
is_made-append task cs ds = list_any-append (λ (c : Credit). c.task == task) cs ds

-- what an exchange keeps
pub record IsExchanged (cs ds : List Credit) : Type 0 where
  pub same_root : (root : ℕ) → is_root root ds ≡ true → is_root root cs ≡ true
  pub keeps_task : (task : ℕ) → was_made task cs ≡ true → was_made task ds ≡ true
  pub fits : (l : List Half) (root : ℕ) → Fits l root ds → Fits l root cs
  pub tiles : (l : List Half) (root : ℕ) → Fits l root ds → tally l root ds ≡ tally l root cs

IsExchanged-itself : (cs : List Credit) → IsExchanged cs cs
IsExchanged-itself cs = record {
  same_root = λ root h. h;
  keeps_task = λ task h. h;
  fits = λ l root f. f;
  tiles = λ l root f. refl;
}

IsExchanged-here : (c : Credit) (others cs : List Credit) → ReplacesCredit c others
    → IsExchanged (c ∷ cs) (others ++ cs)
IsExchanged-here c others cs stands = record {
  same_root = λ root h.
      ⊎_elim (λ here. or_left _ _ (stands.same_root root here)) (λ there. or_right (c.root == root) _ there)
      (or_cases (is_root root others) (is_root root cs) (rw is_root-append at h));
  keeps_task = λ task h. rw is_made-append
      (⊎_elim (λ here. or_left _ _ (stands.keeps_task task here))
      (λ there. or_right (was_made task others) _ there)
      (or_cases (c.task == task) (was_made task cs) h));
  fits = λ l root f.
      let parts = Fits-append l root others cs f in ((stands.fits l root parts.0).0, parts.1);
  tiles = λ l root f.
      let parts = Fits-append l root others cs f in
      omega (arith, tally-append l root others cs, stands.tiles l root parts.0);
}

IsExchanged-there : (c : Credit) (cs ds : List Credit) → IsExchanged cs ds → IsExchanged (c ∷ cs) (c ∷ ds)
IsExchanged-there c cs ds was = record {
  same_root = λ root h.
      ⊎_elim (λ here. or_left _ _ here) (λ there. or_right (c.root == root) _ (was.same_root root there))
      (or_cases (c.root == root) (is_root root ds) h);
  keeps_task = λ task h.
      ⊎_elim (λ here. or_left _ _ here) (λ there. or_right (c.task == task) _ (was.keeps_task task there))
      (or_cases (c.task == task) (was_made task cs) h);
  fits = λ l root f. (f.0, was.fits l root f.1);
  tiles = λ l root f. ap (λ n. ones ((c.root == root) && begins_with l c.share) + n) (was.tiles l root f.1);
}

IsExchanged-exchange : (passes : Credit → Bool) (others : Credit → List Credit)
    → ((c : Credit) → ReplacesCredit c (others c)) → (cs : List Credit)
    → IsExchanged cs (exchange passes others cs)
IsExchanged-exchange passes others stands [] = IsExchanged-itself []
IsExchanged-exchange passes others stands (c ∷ cs) =
    cond_both (passes c) (others c ++ cs) (c ∷ exchange passes others cs) (λ ds. IsExchanged (c ∷ cs) ds)
    (λ yes. IsExchanged-here c (others c) cs (stands c))
    (λ no. IsExchanged-there c cs (exchange passes others cs) (IsExchanged-exchange passes others stands cs))

AreCreditsSound-exchanged : (cs ds : List Credit) → IsExchanged cs ds → AreCreditsSound cs
    → AreCreditsSound ds
AreCreditsSound-exchanged cs ds was sound = record {
  made = λ root h. was.keeps_task root (sound.made root (was.same_root root h));
  one = λ l root h f. was.tiles l root f ∙ sound.one l root (was.same_root root h) (was.fits l root f);
}

pub AreCreditsSound-exchange : (passes : Credit → Bool) (others : Credit → List Credit)
    → ((c : Credit) → ReplacesCredit c (others c)) → (cs : List Credit) → AreCreditsSound cs
    → AreCreditsSound (exchange passes others cs)
AreCreditsSound-exchange passes others stands cs sound =
    AreCreditsSound-exchanged cs _ (IsExchanged-exchange passes others stands cs) sound

-- a root that was not made has no share
tally-none : (l : List Half) (root : ℕ) (cs : List Credit) → is_root root cs ≡ false → tally l root cs ≡ 0
tally-none l root [] h = refl
tally-none l root (c ∷ cs) h =
    let parts = or_parts (c.root == root) (is_root root cs) h in
    let here : ones ((c.root == root) && begins_with l c.share) ≡ 0 = ap ones (and_left _ _ parts.0) in
    omega (arith, here, tally-none l root cs parts.1)

AreCreditsSound-root : (cs : List Credit) (task : ℕ) → was_made task cs ≡ false → AreCreditsSound cs
    → AreCreditsSound (whole_credit task ∷ cs)
AreCreditsSound-root cs task new sound = record {
  made = λ root h.
      ⊎_elim (λ here. or_left _ _ here) (λ there. or_right (task == root) _ (sound.made root there))
      (or_cases (task == root) (is_root root cs) h);
  one = λ l root h f.
      ⊎_elim
      (λ (here : (task == root) ≡ true).
      let same : task ≡ root = eqb-true task root here in
      let none : is_root task cs ≡ false =
      false_from_ne_true _ (λ old. both_ways _ new (sound.made task old)) in
      let first : ones ((task == root) && true) ≡ 1 = ap (λ b. ones (b && true)) here in
      let rest : tally l root cs ≡ 0 = subst (λ r. tally l r cs ≡ 0) same (tally-none l task cs none) in
      omega (arith, first, rest))
      (λ (apart : (task == root) ≡ false).
      let first : ones ((task == root) && true) ≡ 0 = ap (λ b. ones (b && true)) apart in
      let there : is_root root cs ≡ true = ap (λ b. b || is_root root cs) (sym apart) ∙ h in
      omega (arith, first, sound.one l root there f.1))
      (cases_Bool (task == root));
}

pub AreCreditsSound-next_credits : (cs : List Credit) (e : Event) → AreCreditsSound cs
    → AreCreditsSound (next_credits cs e)
AreCreditsSound-next_credits cs (Root task) sound =
    cond_both (was_made task cs) cs _ AreCreditsSound (λ old. sound)
    (λ new. AreCreditsSound-root cs task new sound)
AreCreditsSound-next_credits cs (Create creator child) sound =
    cond_both (was_made child cs) cs _ AreCreditsSound (λ old. sound)
    (λ new.
    AreCreditsSound-exchange (has_task_share creator) (shared_halves child)
    (λ c. ReplacesCredit-halves c Running Running child) cs sound)
AreCreditsSound-next_credits cs (Finish task) sound =
    AreCreditsSound-exchange (has_task_share task) entered_credit ReplacesCredit-entered_credit cs sound
AreCreditsSound-next_credits cs (Detach task) sound =
    AreCreditsSound-exchange (has_task_share task) detached_halves
    (λ c. ReplacesCredit-halves c Entered Awaited c.task) cs
    sound
AreCreditsSound-next_credits cs (Fulfil task) sound =
    AreCreditsSound-exchange (has_event_share task) entered_credit ReplacesCredit-entered_credit cs sound

pub AreCreditsSound-run : (cs : List Credit) (es : List Event) → AreCreditsSound cs
    → AreCreditsSound (fold next_credits cs es)
AreCreditsSound-run cs [] sound = sound
AreCreditsSound-run cs (e ∷ es) sound =
    AreCreditsSound-run (next_credits cs e) es (AreCreditsSound-next_credits cs e sound)

pub AreCreditsSound-credits_after : (es : List Event) → AreCreditsSound (credits_after es)
AreCreditsSound-credits_after es =
    AreCreditsSound-run [] es (record {
      made = λ root h. absurd (false≢true h);
      one = λ l root h. absurd (false≢true h);
    })
