-- Two lists of records that say the same of all but turns, and but for the team of a task that ends. What
-- their versions say of nesting may differ.
use Rattle.std.proofs.Common.{◌≡◌, ◌∙◌, ℕ, List, length, Option, Some, None, Bool, false}
use Rattle.std.proofs.Common.{refl, sym, ap, arith}
use Rattle.std.specs.Prelude.{slice_get, option_map, option_and_then, take, filter, fold, count_by, is_some}
use Rattle.std.specs.List.{find}
use Rattle.std.specs.Option.{option_map_or}
use Rattle.std.proofs.lemmas.Option.{none-some, same_Some}
use Rattle.ompt_events.specs.declared.records.Record.{Record}
use Rattle.ompt_events.specs.declared.records.Body.{Body}
use Rattle.ompt_events.specs.declared.records.Body.TheVariants.{TaskSchedule, ImplicitTask}
use Rattle.ompt_events.specs.declared.names.Endpoint.TheVariants.{End}
use Rattle.ompt_events.specs.Places.{at, thread_at, seen_at}
use Rattle.task_tree.specs.Renaming.{untold, SayAlike, IsRenaming}
use Rattle.task_tree.proofs.BlindLemmas.{IsBlind, blind_at}
use Rattle.checker.proofs.MappedLemmas.{AreSameBy, IsUnchanged, get_by, read_by, long_by, take_by, filter_by}
use Rattle.checker.proofs.MappedLemmas.{fold_by, count_same, found_by}

-- the record without turns, without the team of a task that ends, and without what its version says of
-- nesting
abbrev pub blank : Record → Record
blank r = record { thread = r.thread; nests = false; seq = r.seq; seen = r.seen; body = untold r.body }

-- the lists are the same without these
abbrev pub AreTwins : List Record → List Record → Type 0
AreTwins rs ss = AreSameBy blank rs ss

pub twins_back : (rs ss : List Record) → AreTwins rs ss → AreTwins ss rs
twins_back rs ss twins = sym twins

-- ---- at a place

pub twin_get : (rs ss : List Record) (i : ℕ) → AreTwins rs ss
    → option_map blank (slice_get rs i) ≡ option_map blank (slice_get ss i)
twin_get rs ss i twins = get_by blank rs ss i twins

-- what is read of a record whatever turns it tells is the same at each place
pub twin_read : {X : Type 0} (f : Record → X) → IsUnchanged blank f → (rs ss : List Record) (i : ℕ)
    → AreTwins rs ss → option_map f (slice_get rs i) ≡ option_map f (slice_get ss i)
twin_read f blind rs ss i twins = read_by blank f blind rs ss i twins

pub twin_thread : (rs ss : List Record) (i : ℕ) → AreTwins rs ss → thread_at rs i ≡ thread_at ss i
twin_thread rs ss i twins = twin_read (λ (r : Record). r.thread) (λ r. refl) rs ss i twins

pub twin_seen : (rs ss : List Record) (i : ℕ) → AreTwins rs ss → seen_at rs i ≡ seen_at ss i
twin_seen rs ss i twins =
    sym (through (slice_get rs i))
    ∙ ap (λ (o : Option ℕ). option_map_or (λ n. n) o 0)
    (twin_read (λ (r : Record). r.seen) (λ r. refl) rs ss i twins)
    ∙ through (slice_get ss i)
  where
    through : (o : Option Record)
        → option_map_or (λ n. n) (option_map (λ (r : Record). r.seen) o) 0
        ≡ option_map_or (λ (r : Record). r.seen) o 0
    through None = refl
    through (Some r) = refl

pub twins_alike : (rs ss : List Record) (i : ℕ) → AreTwins rs ss → SayAlike rs i ss i
twins_alike rs ss i twins =
    sym (through (slice_get rs i))
    ∙ twin_read (λ (r : Record). untold r.body) (λ r. untold_twice r.body) rs ss i twins
    ∙ through (slice_get ss i)
  where
    untold_twice : (b : Body) → untold (untold b) ≡ untold b
    untold_twice (TaskSchedule status turns prior next claimed) = refl
    untold_twice (ImplicitTask End actual index given parallel task) = refl
    untold_twice _ = refl

    through : (o : Option Record)
        → option_map (λ (r : Record). untold r.body) o
        ≡ option_and_then (λ (r : Record). Some (untold r.body)) o
    through None = refl
    through (Some r) = refl

pub twin_at : {X : Type 0} (f : Body → Option X) → IsBlind f → (rs ss : List Record) (i : ℕ) → AreTwins rs ss
    → at f rs i ≡ at f ss i
twin_at f blind rs ss i twins = blind_at f blind rs i ss i (twins_alike rs ss i twins)

-- the record at a place of the one has a twin at the same place of the other
pub twin_of : (rs ss : List Record) (i : ℕ) (r : Record) → AreTwins rs ss → slice_get rs i ≡ Some r
    → (s : Record) × (slice_get ss i ≡ Some s) × (blank r ≡ blank s)
twin_of rs ss i r twins stands = by (slice_get ss i) refl
  where
    by : (o : Option Record) → slice_get ss i ≡ o
        → (s : Record) × (slice_get ss i ≡ Some s) × (blank r ≡ blank s)
    by None e =
        absurd
        (none-some (blank r)
        (ap (option_map blank) (sym e) ∙ sym (twin_get rs ss i twins) ∙ ap (option_map blank) stands))
    by (Some s) e = (
      s,
      e,
      same_Some (blank r) (blank s)
          (sym (ap (option_map blank) stands) ∙ twin_get rs ss i twins ∙ ap (option_map blank) e),
    )

-- ---- lists

pub twins_long : (rs ss : List Record) → AreTwins rs ss → length rs ≡ length ss
twins_long rs ss twins = long_by blank rs ss twins

pub twins_take : (rs ss : List Record) (n : ℕ) → AreTwins rs ss → AreTwins (take n rs) (take n ss)
twins_take rs ss n twins = take_by blank rs ss n twins

pub twins_filter : (p : Record → Bool) → IsUnchanged blank p → (rs ss : List Record) → AreTwins rs ss
    → AreTwins (filter p rs) (filter p ss)
twins_filter p blind rs ss twins = filter_by blank p blind rs ss twins

pub twin_fold : {X : Type 0} (f : X → Record → X) → ((x : X) → IsUnchanged blank (f x)) → (x : X)
    → (rs ss : List Record) → AreTwins rs ss → fold f x rs ≡ fold f x ss
twin_fold f blind x rs ss twins = fold_by blank f blind x rs ss twins

pub twin_count : (p : Record → Bool) → IsUnchanged blank p → (rs ss : List Record) → AreTwins rs ss
    → count_by p rs ≡ count_by p ss
twin_count p blind rs ss twins = count_same blank p blind rs ss twins

pub twin_found : (p : Record → Bool) → IsUnchanged blank p → (rs ss : List Record) → AreTwins rs ss
    → is_some (find p rs) ≡ is_some (find p ss)
twin_found p blind rs ss twins = found_by blank p blind rs ss twins

-- ---- what is read of records

-- bodies that are the same without turns say the same of all else
pub same_said : {X : Type 0} (f : Body → X) → IsBlind f → (b c : Body) → untold b ≡ untold c → f b ≡ f c
same_said f blind b c same = sym (blind b) ∙ ap f same ∙ blind c

pub twin_body : (r s : Record) → blank r ≡ blank s → untold r.body ≡ untold s.body
twin_body r s same = ap (λ (q : Record). q.body) same

-- what is said at a place of the one is said there of the other
pub twin_says : {X : Type 0} (f : Body → Option X) → IsBlind f → (x : X) (rs ss : List Record) (i : ℕ)
    → AreTwins rs ss → at f rs i ≡ Some x → at f ss i ≡ Some x
twin_says f blind x rs ss i twins says = sym (twin_at f blind rs ss i twins) ∙ says

-- each stands in the place of the other
pub twin_renaming : (rs ss : List Record) → AreTwins rs ss → IsRenaming rs ss (λ i. i) (λ i. i)
twin_renaming rs ss twins = record {
  to_within = λ i within. omega (arith, long, within);
  to_past = λ i past. omega (arith, long, past);
  back_within = λ j within. omega (arith, long, within);
  back_to = λ i within. refl;
  to_back = λ j within. refl;
  alike = λ i within. sym (twins_alike rs ss i twins);
  own_rise = λ task i k one other less. less;
  members_rise = λ i k one other less. less;
}
  where
    long : length rs ≡ length ss
    long = twins_long rs ss twins
