-- Which holder has which credit of the machine, as an event replaces one credit by others.
use Rattle.std.proofs.Common.{ℕ, ◌≡◌, ◌≢◌, ◌∙◌, ◌⊎◌, ◌++◌, ◌∷◌, [], List, Bool, true, false, refl, sym, ap}
use Rattle.std.proofs.Common.{subst, inl, inr, Option, Some, None, cond, map}
use Rattle.std.proofs.lemmas.Bool.{cases_eq, false≢true}
use Rattle.std.proofs.lemmas.Option.{none-some, same_Some}
use Rattle.credit_ledger.specs.Credits.{Credit, exchange}
use Rattle.scripts.specs.Tiling.{Holder, of_task, of_record}

-- ---- holders

abbrev pub holder_number : Holder → ℕ
holder_number (of_task task) = task
holder_number (of_record at) = at

abbrev pub is_of_task : Holder → Bool
is_of_task (of_task task) = true
is_of_task (of_record at) = false

pub same_holder : (h k : Holder) → (h ≡ k) ⊎ (h ≢ k)
same_holder (of_task a) (of_task b) = elim (cases_eq a b) [
  | inl same ↦ inl (ap of_task same)
  | inr other ↦ inr (λ same. other (ap holder_number same))
]
same_holder (of_record a) (of_record b) = elim (cases_eq a b) [
  | inl same ↦ inl (ap of_record same)
  | inr other ↦ inr (λ same. other (ap holder_number same))
]
same_holder (of_task a) (of_record b) = inr (λ same. false≢true (sym (ap is_of_task same)))
same_holder (of_record a) (of_task b) = inr (λ same. false≢true (ap is_of_task same))

-- ---- lists of holders

abbrev pub IsIn : Holder → List Holder → Type 0
IsIn h [] = ⊥
IsIn h (x ∷ xs) = (x ≡ h) ⊎ IsIn h xs

abbrev pub AreOnce : List Holder → Type 0
AreOnce [] = Unit {0}
AreOnce (x ∷ xs) = (IsIn x xs → ⊥) × AreOnce xs

is_in-append : (h : Holder) (xs ys : List Holder) → IsIn h (xs ++ ys) → IsIn h xs ⊎ IsIn h ys
is_in-append h [] ys there = inr there
is_in-append h (x ∷ xs) ys (inl same) = inl (inl same)
is_in-append h (x ∷ xs) ys (inr there) = elim (is_in-append h xs ys there) [
  | inl first ↦ inl (inr first)
  | inr second ↦ inr second
]

is_in-first : (h : Holder) (xs ys : List Holder) → IsIn h xs → IsIn h (xs ++ ys)
is_in-first h [] ys there = absurd there
is_in-first h (x ∷ xs) ys (inl same) = inl same
is_in-first h (x ∷ xs) ys (inr there) = inr (is_in-first h xs ys there)

is_in-second : (h : Holder) (xs ys : List Holder) → IsIn h ys → IsIn h (xs ++ ys)
is_in-second h [] ys there = there
is_in-second h (x ∷ xs) ys there = inr (is_in-second h xs ys there)

are_once-append : (xs ys : List Holder) → AreOnce xs → AreOnce ys
    → ((h : Holder) → IsIn h xs → IsIn h ys → ⊥) → AreOnce (xs ++ ys)
are_once-append [] ys once also apart = also
are_once-append (x ∷ xs) ys once also apart = (
  (λ there. elim (is_in-append x xs ys there) [
    | inl first ↦ once.0 first
    | inr second ↦ apart x (inl refl) second
  ]),
  are_once-append xs ys once.1 also (λ h first second. apart h (inr first) second),
)

-- the list with others in place of one holder
abbrev pub put_by : {P : Type 0} → P ⊎ (P → ⊥) → List Holder → List Holder → List Holder
put_by (inl here) first second = first
put_by (inr other) first second = second

abbrev pub put : Holder → List Holder → List Holder → List Holder
put source added [] = []
put source added (x ∷ xs) = put_by (same_holder source x) (added ++ xs) (x ∷ put source added xs)

put_from : (h source : Holder) (added xs : List Holder) → IsIn h (put source added xs)
    → IsIn h added ⊎ IsIn h xs
put_from h source added [] there = absurd there
put_from h source added (x ∷ xs) there = by (same_holder source x) (put_from h source added xs) there
  where
    by : (o : (source ≡ x) ⊎ (source ≢ x)) → (IsIn h (put source added xs) → IsIn h added ⊎ IsIn h xs)
        → IsIn h (put_by o (added ++ xs) (x ∷ put source added xs)) → IsIn h added ⊎ IsIn h (x ∷ xs)
    by (inl here) more there = elim (is_in-append h added xs there) [
      | inl first ↦ inl first
      | inr second ↦ inr (inr second)
    ]
    by (inr other) more (inl same) = inr (inl same)
    by (inr other) more (inr there) = elim (more there) [
      | inl first ↦ inl first
      | inr second ↦ inr (inr second)
    ]

put_stays : (h source : Holder) (added xs : List Holder) → source ≢ h → IsIn h xs
    → IsIn h (put source added xs)
put_stays h source added [] apart there = absurd there
put_stays h source added (x ∷ xs) apart there =
    by (same_holder source x) (put_stays h source added xs apart) there
  where
    by : (o : (source ≡ x) ⊎ (source ≢ x)) → (IsIn h xs → IsIn h (put source added xs)) → IsIn h (x ∷ xs)
        → IsIn h (put_by o (added ++ xs) (x ∷ put source added xs))
    by (inl here) more (inl same) = absurd (apart (here ∙ same))
    by (inl here) more (inr there) = is_in-second h added xs there
    by (inr other) more (inl same) = inl same
    by (inr other) more (inr there) = inr (more there)

put_gets : (h source : Holder) (added xs : List Holder) → IsIn source xs → IsIn h added
    → IsIn h (put source added xs)
put_gets h source added [] there new = absurd there
put_gets h source added (x ∷ xs) there new =
    by (same_holder source x) (λ more. put_gets h source added xs more new) there
  where
    by : (o : (source ≡ x) ⊎ (source ≢ x)) → (IsIn source xs → IsIn h (put source added xs))
        → IsIn source (x ∷ xs) → IsIn h (put_by o (added ++ xs) (x ∷ put source added xs))
    by (inl here) more there = is_in-first h added xs new
    by (inr other) more (inl same) = absurd (other (sym same))
    by (inr other) more (inr there) = inr (more there)

put_once : (source : Holder) (added xs : List Holder) → AreOnce added → AreOnce xs
    → ((h : Holder) → IsIn h added → (h ≡ source) ⊎ (IsIn h xs → ⊥)) → AreOnce (put source added xs)
put_once source added [] once also fits = tt
put_once source added (x ∷ xs) once also fits = by (same_holder source x)
    (put_once source added xs once also.1 (λ h first. elim (fits h first) [
      | inl same ↦ inl same
      | inr new ↦ inr (λ there. new (inr there))
    ]))
  where
    by : (o : (source ≡ x) ⊎ (source ≢ x)) → AreOnce (put source added xs)
        → AreOnce (put_by o (added ++ xs) (x ∷ put source added xs))
    by (inl here) more = are_once-append added xs once also.1 (λ h first second. elim (fits h first) [
      | inl same ↦ also.0 (subst (λ k. IsIn k xs) (same ∙ here) second)
      | inr new ↦ new (inr second)
    ])
    by (inr other) more = (
      (λ there. elim (put_from x source added xs there) [
        | inl first ↦ elim (fits x first) [
          | inl same ↦ other (sym same)
          | inr new ↦ new (inl refl)
        ]
        | inr second ↦ also.0 second
      ]),
      more,
    )

-- ---- the credits of holders

abbrev pub Has : Type 0
Has = Holder → Option Credit

-- one after another, the credits are those of the holders
abbrev pub AreOf : Has → List Credit → List Holder → Type 0
AreOf has [] [] = Unit {0}
AreOf has [] (h ∷ hs) = ⊥
AreOf has (c ∷ cs) [] = ⊥
AreOf has (c ∷ cs) (h ∷ hs) = (has h ≡ Some c) × AreOf has cs hs

pub are_of-map : (has : Has) (cs : List Credit) (hs : List Holder) → AreOf has cs hs
    → map Some cs ≡ map has hs
are_of-map has [] [] are = refl
are_of-map has [] (h ∷ hs) are = absurd are
are_of-map has (c ∷ cs) [] are = absurd are
are_of-map has (c ∷ cs) (h ∷ hs) (is, are) =
    ap (λ (o : Option Credit). o ∷ map Some cs) (sym is) ∙ ap (λ l. has h ∷ l) (are_of-map has cs hs are)

are_of-append : (has : Has) (cs : List Credit) (hs : List Holder) (ds : List Credit) (ks : List Holder)
    → AreOf has cs hs → AreOf has ds ks → AreOf has (cs ++ ds) (hs ++ ks)
are_of-append has [] [] ds ks are also = also
are_of-append has [] (h ∷ hs) ds ks are also = absurd are
are_of-append has (c ∷ cs) [] ds ks are also = absurd are
are_of-append has (c ∷ cs) (h ∷ hs) ds ks (is, are) also = (is, are_of-append has cs hs ds ks are also)

pub are_of-kept : (old new : Has) (cs : List Credit) (hs : List Holder)
    → ((h : Holder) (c : Credit) → IsIn h hs → old h ≡ Some c → new h ≡ Some c) → AreOf old cs hs
    → AreOf new cs hs
are_of-kept old new [] [] kept are = tt
are_of-kept old new [] (h ∷ hs) kept are = absurd are
are_of-kept old new (c ∷ cs) [] kept are = absurd are
are_of-kept old new (c ∷ cs) (h ∷ hs) kept (is, are) =
    (kept h c (inl refl) is, are_of-kept old new cs hs (λ k d there. kept k d (inr there)) are)

pub in_has : (has : Has) (cs : List Credit) (hs : List Holder) (h : Holder) → AreOf has cs hs → IsIn h hs
    → (c : Credit) × (has h ≡ Some c)
in_has has [] [] h are there = absurd there
in_has has [] (k ∷ hs) h are there = absurd are
in_has has (c ∷ cs) [] h are there = absurd there
in_has has (c ∷ cs) (k ∷ hs) h (is, are) (inl same) = (c, subst (λ x. has x ≡ Some c) same is)
in_has has (c ∷ cs) (k ∷ hs) h (is, are) (inr there) = in_has has cs hs h are there

-- the holders have the credits, each once, and no other holder has any
pub record AreHolders (cs : List Credit) (has : Has) (hs : List Holder) : Type 0 where
  pub are : AreOf has cs hs
  pub once : AreOnce hs
  pub all : (h : Holder) (c : Credit) → has h ≡ Some c → IsIn h hs

-- ---- what an event leaves

-- nothing changes
pub holders_same : (cs : List Credit) (old new : Has) (hs : List Holder) → ((h : Holder) → old h ≡ new h)
    → AreHolders cs old hs → AreHolders cs new hs
holders_same cs old new hs same held = record {
  are = are_of-kept old new cs hs (λ h c there is. sym (same h) ∙ is) held.are;
  once = held.once;
  all = λ h c is. held.all h c (same h ∙ is);
}

-- one holder more
pub holders_more : (cs : List Credit) (old new : Has) (hs : List Holder) (fresh : Holder) (c : Credit)
    → old fresh ≡ None → new fresh ≡ Some c → ((h : Holder) → h ≢ fresh → old h ≡ new h)
    → AreHolders cs old hs → AreHolders (c ∷ cs) new (fresh ∷ hs)
holders_more cs old new hs fresh c none is same held = record {
  are = (
    is,
    are_of-kept old new cs hs (λ h d there was. sym (same h (λ one. absent (subst
        (λ k. IsIn k hs) one there))) ∙ was) held.are,
  );
  once = (absent, held.once);
  all = λ h d has. elim (same_holder fresh h) [
    | inl here ↦ inl here
    | inr other ↦ inr (held.all h d (same h (λ one. other (sym one)) ∙ has))
  ];
}
  where
    absent : IsIn fresh hs → ⊥
    absent there =
        let (d, was) = in_has old cs hs fresh held.are there in none-some d (sym none ∙ was)

-- the credit of one holder is exchanged for others
pub record IsExchanged (old new : Has) (passes : Credit → Bool) (others : Credit → List Credit)
    (source : Holder) (added : List Holder) (was : Credit) : Type 0 where
  pub from : old source ≡ Some was
  pub pass : passes was ≡ true
  pub fail : (h : Holder) (c : Credit) → source ≢ h → old h ≡ Some c → passes c ≡ false
  pub kept : (h : Holder) (c : Credit) → source ≢ h → old h ≡ Some c → new h ≡ Some c
  pub gives : AreOf new (others was) added
  pub once : AreOnce added
  pub fits : (h : Holder) → IsIn h added → (h ≡ source) ⊎ (old h ≡ None)
  pub back : (h : Holder) (c : Credit) → new h ≡ Some c
      → IsIn h added ⊎ ((source ≢ h) × (old h ≡ Some c))

exchanged_are : (old new : Has) (passes : Credit → Bool) (others : Credit → List Credit) (source : Holder)
    (added : List Holder) (was : Credit) → IsExchanged old new passes others source added was
    → (cs : List Credit) (hs : List Holder) → AreOf old cs hs → AreOnce hs → IsIn source hs
    → AreOf new (exchange passes others cs) (put source added hs)
exchanged_are old new passes others source added was on [] [] are once there = absurd there
exchanged_are old new passes others source added was on [] (h ∷ hs) are once there = absurd are
exchanged_are old new passes others source added was on (c ∷ cs) [] are once there = absurd are
exchanged_are old new passes others source added was on (c ∷ cs) (h ∷ hs) (is, are) once there =
    by (same_holder source h)
    (λ more. exchanged_are old new passes others source added was on cs hs are once.1 more) there
  where
    by : (o : (source ≡ h) ⊎ (source ≢ h))
        → (IsIn source hs → AreOf new (exchange passes others cs) (put source added hs))
        → IsIn source (h ∷ hs)
        → AreOf new (cond (passes c) (others c ++ cs) (c ∷ exchange passes others cs))
        (put_by o (added ++ hs) (h ∷ put source added hs))
    by (inl here) more there =
        let same : was ≡ c = same_Some was c (sym on.from ∙ subst (λ k. old k ≡ Some c) (sym here) is) in
        let pass : passes c ≡ true = ap passes (sym same) ∙ on.pass in
        subst
        (λ b. AreOf new (cond b (others c ++ cs) (c ∷ exchange passes others cs)) (added ++ hs)) (sym pass)
        (are_of-append new (others c) added cs hs (subst (λ d. AreOf new (others d) added) same on.gives)
        (are_of-kept old new cs hs
        (λ k d within has.
        on.kept k d (λ one. once.0 (subst (λ x. IsIn x hs) (sym one ∙ here) within)) has) are))
    by (inr other) more (inl same) = absurd (other (sym same))
    by (inr other) more (inr there) =
        subst
        (λ b. AreOf new (cond b (others c ++ cs) (c ∷ exchange passes others cs))
        (h ∷ put source added hs))
        (sym (on.fail h c other is))
        (on.kept h c other is, more there)

pub holders_exchanged : (cs : List Credit) (old new : Has) (hs : List Holder) (passes : Credit → Bool)
    (others : Credit → List Credit) (source : Holder) (added : List Holder) (was : Credit)
    → IsExchanged old new passes others source added was → AreHolders cs old hs
    → AreHolders (exchange passes others cs) new (put source added hs)
holders_exchanged cs old new hs passes others source added was on held = record {
  are = exchanged_are old new passes others source added was on cs hs held.are held.once there;
  once = put_once source added hs on.once held.once (λ h new_one. elim (on.fits h new_one) [
    | inl same ↦ inl same
    | inr none ↦ inr (λ within. let (d, has) = in_has old cs hs h held.are within in none-some d
        (sym none ∙ has))
  ]);
  all = λ h c has. elim (on.back h c has) [
    | inl new_one ↦ put_gets h source added hs there new_one
    | inr old_one ↦ put_stays h source added hs old_one.0 (held.all h c old_one.1)
  ];
}
  where
    there : IsIn source hs
    there = held.all source was on.from

-- the credit of one holder is exchanged for its own and that of a new one, or for that of the new one
pub exchanged_for : (old new : Has) (passes : Credit → Bool) (others : Credit → List Credit)
    (source fresh : Holder) (added : List Holder) (was : Credit)
    → old source ≡ Some was → old fresh ≡ None → passes was ≡ true
    → ((h : Holder) (c : Credit) → source ≢ h → old h ≡ Some c → passes c ≡ false)
    → ((h : Holder) → source ≢ h → fresh ≢ h → old h ≡ new h) → AreOf new (others was) added
    → AreOnce added → ((h : Holder) → IsIn h added → (h ≡ source) ⊎ (h ≡ fresh))
    → ((c : Credit) → new source ≡ Some c → IsIn source added) → IsIn fresh added
    → IsExchanged old new passes others source added was
exchanged_for old new passes others source fresh added was from none pass fail same gives once fits source_in
    fresh_in = record {
      from = from;
      pass = pass;
      fail = fail;
      kept = λ h c apart is.
          sym (same h apart (λ one. none-some c (sym none ∙ subst (λ k. old k ≡ Some c) (sym one) is))) ∙ is;
      gives = gives;
      once = once;
      fits = λ h there. elim (fits h there) [
        | inl first ↦ inl first
        | inr second ↦ inr (subst (λ k. old k ≡ None) (sym second) none)
      ];
      back = λ h c is. elim (same_holder source h) [
        | inl first ↦
            inl
            (subst (λ k. IsIn k added) first (source_in c (subst (λ k. new k ≡ Some c) (sym first) is)))
        | inr apart ↦ elim (same_holder fresh h) [
          | inl second ↦ inl (subst (λ k. IsIn k added) second fresh_in)
          | inr other ↦ inr (apart, same h apart other ∙ is)
        ]
      ];
    }

-- no holder's credit passes the test
pub exchanged_none : (has : Has) (passes : Credit → Bool) (others : Credit → List Credit) (cs : List Credit)
    (hs : List Holder)
    → AreOf has cs hs → ((h : Holder) (c : Credit) → has h ≡ Some c → passes c ≡ false)
    → exchange passes others cs ≡ cs
exchanged_none has passes others [] hs are fail = refl
exchanged_none has passes others (c ∷ cs) [] are fail = absurd are
exchanged_none has passes others (c ∷ cs) (h ∷ hs) (is, are) fail =
    ap (λ b. cond b (others c ++ cs) (c ∷ exchange passes others cs)) (fail h c is)
    ∙ ap (λ l. c ∷ l) (exchanged_none has passes others cs hs are fail)
