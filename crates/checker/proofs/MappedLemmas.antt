-- Two lists of records that are the same once each record is changed in a way: what does not depend on the
-- change is the same in both.
use Rattle.std.proofs.Common.{◌≡◌, ◌∙◌, ℕ, ◌+◌, List, [], ◌∷◌, length, Option, Some, None, Bool, true, false}
use Rattle.std.proofs.Common.{refl, sym, ap, map, cond, subst, get_or}
use Rattle.std.specs.Prelude.{slice_get, option_map, take, filter, fold, count_by, is_some, All, ◌↔◌}
use Rattle.std.specs.List.{find}
use Rattle.std.proofs.lemmas.Bool.{true≢false, false≢true}
use Rattle.std.proofs.lemmas.Option.{slice_get-map}
use Rattle.std.proofs.lemmas.List.{take-map, length-map}
use Rattle.std.proofs.lemmas.List.Elements.{All-nil, All-cons, All-head, All-tail, All-map}
use Rattle.ompt_events.specs.declared.records.Record.{Record}

-- the lists are the same once each record is changed so
abbrev pub AreSameBy : (Record → Record) → List Record → List Record → Type 0
AreSameBy change rs ss = map change rs ≡ map change ss

-- what is found of a record does not depend on the change
abbrev pub IsUnchanged : {X : Type 0} → (Record → Record) → (Record → X) → Type 0
IsUnchanged change f = (r : Record) → f (change r) ≡ f r

-- ---- at a place

pub get_by : (change : Record → Record) (rs ss : List Record) (i : ℕ) → AreSameBy change rs ss
    → option_map change (slice_get rs i) ≡ option_map change (slice_get ss i)
get_by change rs ss i same =
    sym (slice_get-map change rs i) ∙ ap (λ l. slice_get l i) same ∙ slice_get-map change ss i

pub read_by : {X : Type 0} (change : Record → Record) (f : Record → X) → IsUnchanged change f
    → (rs ss : List Record) (i : ℕ) → AreSameBy change rs ss
    → option_map f (slice_get rs i) ≡ option_map f (slice_get ss i)
read_by {X} change f blind rs ss i same =
    sym (through (slice_get rs i)) ∙ ap (option_map f) (get_by change rs ss i same)
    ∙ through (slice_get ss i)
  where
    through : (o : Option Record) → option_map f (option_map change o) ≡ option_map f o
    through None = refl
    through (Some r) = ap Some (blind r)

-- ---- lists

pub long_by : (change : Record → Record) (rs ss : List Record) → AreSameBy change rs ss
    → length rs ≡ length ss
long_by change rs ss same = sym (length-map rs change) ∙ ap length same ∙ length-map ss change

pub take_by : (change : Record → Record) (rs ss : List Record) (n : ℕ) → AreSameBy change rs ss
    → AreSameBy change (take n rs) (take n ss)
take_by change rs ss n same = sym (take-map change n rs) ∙ ap (take n) same ∙ take-map change n ss

kept_by : (change : Record → Record) (here there : Bool) (r : Record) (kept passed : List Record)
    → here ≡ there → kept ≡ map change passed
    → cond here (change r ∷ kept) kept ≡ map change (cond there (r ∷ passed) passed)
kept_by change true true r kept passed same rest = ap (λ l. change r ∷ l) rest
kept_by change false false r kept passed same rest = rest
kept_by change true false r kept passed same rest = absurd (true≢false same)
kept_by change false true r kept passed same rest = absurd (false≢true same)

filter_map_by : (change : Record → Record) (p : Record → Bool) → IsUnchanged change p → (rs : List Record)
    → filter p (map change rs) ≡ map change (filter p rs)
filter_map_by change p blind [] = refl
filter_map_by change p blind (r ∷ rs) =
    kept_by change (p (change r)) (p r) r (filter p (map change rs)) (filter p rs) (blind r)
    (filter_map_by change p blind rs)

pub filter_by : (change : Record → Record) (p : Record → Bool) → IsUnchanged change p
    → (rs ss : List Record) → AreSameBy change rs ss → AreSameBy change (filter p rs) (filter p ss)
filter_by change p blind rs ss same =
    sym (filter_map_by change p blind rs) ∙ ap (filter p) same ∙ filter_map_by change p blind ss

fold_map_by : {X : Type 0} (change : Record → Record) (f : X → Record → X)
    → ((x : X) → IsUnchanged change (f x)) → (x : X) (rs : List Record)
    → fold f x (map change rs) ≡ fold f x rs
fold_map_by change f blind x [] = refl
fold_map_by change f blind x (r ∷ rs) =
    ap (λ y. fold f y (map change rs)) (blind x r) ∙ fold_map_by change f blind (f x r) rs

pub fold_by : {X : Type 0} (change : Record → Record) (f : X → Record → X)
    → ((x : X) → IsUnchanged change (f x)) → (x : X) (rs ss : List Record) → AreSameBy change rs ss
    → fold f x rs ≡ fold f x ss
fold_by change f blind x rs ss same =
    sym (fold_map_by change f blind x rs) ∙ ap (fold f x) same ∙ fold_map_by change f blind x ss

pub count_same : (change : Record → Record) (p : Record → Bool) → IsUnchanged change p
    → (rs ss : List Record) → AreSameBy change rs ss → count_by p rs ≡ count_by p ss
count_same change p blind rs ss same =
    fold_by change (λ (n : ℕ) r. n + cond (p r) 1 0) (λ n r. ap (λ b. n + cond b 1 0) (blind r)) 0 rs ss same

found_map_by : (change : Record → Record) (p : Record → Bool) → IsUnchanged change p → (rs : List Record)
    → is_some (find p (map change rs)) ≡ is_some (find p rs)
found_map_by change p blind [] = refl
found_map_by change p blind (r ∷ rs) = by (p (change r)) (p r) (blind r) (found_map_by change p blind rs)
  where
    by : (here there : Bool) → here ≡ there → is_some (find p (map change rs)) ≡ is_some (find p rs)
        → is_some (cond here (Some (change r)) (find p (map change rs)))
        ≡ is_some (cond there (Some r) (find p rs))
    by true true same rest = refl
    by false false same rest = rest
    by true false same rest = absurd (true≢false same)
    by false true same rest = absurd (false≢true same)

pub found_by : (change : Record → Record) (p : Record → Bool) → IsUnchanged change p
    → (rs ss : List Record) → AreSameBy change rs ss → is_some (find p rs) ≡ is_some (find p ss)
found_by change p blind rs ss same =
    sym (found_map_by change p blind rs) ∙ ap (λ l. is_some (find p l)) same ∙ found_map_by change p blind ss

all_map_by : (change : Record → Record) (P : Record → Type 0) → ((r : Record) → P (change r) → P r)
    → (rs : List Record) → All P (map change rs) → All P rs
all_map_by change P back [] all = All-nil P
all_map_by change P back (r ∷ rs) all =
    All-cons P r rs (back r (All-head P (change r) (map change rs) all))
    (all_map_by change P back rs (All-tail P (change r) (map change rs) all))

-- what holds of each record of the one holds of each record of the other, if it does not depend on the change
pub all_by : (change : Record → Record) (P : Record → Type 0) → ((r : Record) → P r ↔ P (change r))
    → (rs ss : List Record) → AreSameBy change rs ss → All P rs → All P ss
all_by change P blind rs ss same all =
    all_map_by change P (λ r. (blind r).1) ss
    (subst (All P) same
    (All-map P change rs (λ i d below. (blind (get_or rs i d)).0 (all i d below))))
