-- Two lists of records of which none lets regions lie inside others, and which say the same of all but turns:
-- their walks, and the causes of them.
use Rattle.std.proofs.Common.{◌≡◌, ◌∙◌, ℕ, zero, suc, List, [], ◌∷◌, Option, Some, None, Bool, true}
use Rattle.std.proofs.Common.{false, cond, refl, sym, ap}
use Rattle.std.proofs.lemmas.Bool.{true≢false}
use Rattle.std.proofs.lemmas.Option.{none-some}
use Rattle.std.specs.Prelude.{◌==◌, slice_get, filter, fold, take}
use Rattle.std.specs.Option.{option_map_or}
use Rattle.ompt_events.specs.declared.records.Record.{Record}
use Rattle.ompt_events.specs.declared.cause.Cause.{Cause}
use Rattle.ompt_events.specs.Places.{nests_at}
use Rattle.ompt_events.specs.Threads.{Walk, at_start, after_body, after_record}
use Rattle.ompt_events.specs.Causes.{HasCause, IsMisnested, other_region, other_league}
use Rattle.checker.proofs.BlindBodyLemmas.{blind_walk}
use Rattle.checker.proofs.TwinLemmas.{AreTwins, twins_back, twins_take, twins_filter, twin_fold}
use Rattle.checker.proofs.TwinCauseLemmas.{HaveSameWalks}
use Rattle.checker.proofs.WalkTwinLemmas.{AreWalkTwins, IsWalkCause, walk_cause}

-- no record lets regions lie inside others
abbrev pub AreFlat : List Record → Type 0
AreFlat rs = (i : ℕ) (r : Record) → slice_get rs i ≡ Some r → r.nests ≡ false

get_taken : (n : ℕ) (rs : List Record) (i : ℕ) (r : Record) → slice_get (take n rs) i ≡ Some r
    → slice_get rs i ≡ Some r
get_taken zero rs i r is = absurd (none-some r is)
get_taken (suc n) [] i r is = absurd (none-some r is)
get_taken (suc n) (q ∷ rs) zero r is = is
get_taken (suc n) (q ∷ rs) (suc i) r is = get_taken n rs i r is

pub flat_take : (n : ℕ) (rs : List Record) → AreFlat rs → AreFlat (take n rs)
flat_take n rs flat i r is = flat i r (get_taken n rs i r is)

pub flat_at : (rs : List Record) (i : ℕ) → AreFlat rs → nests_at rs i ≡ false
flat_at rs i flat = by (slice_get rs i) refl
  where
    by : (o : Option Record) → slice_get rs i ≡ o → option_map_or (λ (r : Record). r.nests) o false ≡ false
    by None is = refl
    by (Some r) is = flat i r is

-- the lists say the same of all but turns, and are flat
pub record AreFlatTwins (rs ss : List Record) : Type 0 where
  pub twins : AreTwins rs ss
  pub flat : AreFlat rs
  pub is_flat : AreFlat ss

pub flat_twins_back : (rs ss : List Record) → AreFlatTwins rs ss → AreFlatTwins ss rs
flat_twins_back rs ss same = record {
  twins = twins_back rs ss same.twins;
  flat = same.is_flat;
  is_flat = same.flat;
}

-- ---- walks

-- the walk by one record, as if regions did not lie inside others
abbrev pub flat_step : Walk → Record → Walk
flat_step walk r = after_body false walk r.body

pub flat_walk : (on : Record → Bool) (walk : Walk) (rs : List Record) → AreFlat rs
    → fold after_record walk (filter on rs) ≡ fold flat_step walk (filter on rs)
flat_walk on walk [] flat = refl
flat_walk on walk (r ∷ rs) flat =
    let rest : AreFlat rs = λ i q is. flat (suc i) q is in
    by (on r) (flat_walk on (after_record walk r) rs rest) (flat_walk on walk rs rest)
  where
    by : (b : Bool)
        → fold after_record (after_record walk r) (filter on rs)
        ≡ fold flat_step (after_record walk r) (filter on rs)
        → fold after_record walk (filter on rs) ≡ fold flat_step walk (filter on rs)
        → fold after_record walk (cond b (r ∷ filter on rs) (filter on rs))
        ≡ fold flat_step walk (cond b (r ∷ filter on rs) (filter on rs))
    by true taken passed =
        taken ∙ ap (λ n. fold flat_step (after_body n walk r.body) (filter on rs)) (flat 0 r refl)
    by false taken passed = passed

-- that walk is the same by twins
pub twin_flat_walk : (rs ss : List Record) (thread : ℕ) → AreTwins rs ss
    → fold flat_step at_start (filter (λ r. r.thread == thread) rs)
    ≡ fold flat_step at_start (filter (λ r. r.thread == thread) ss)
twin_flat_walk rs ss thread twins =
    let on : Record → Bool = λ r. r.thread == thread in
    twin_fold flat_step (λ walk r. blind_walk false walk r.body) at_start (filter on rs) (filter on ss)
    (twins_filter on (λ r. refl) rs ss twins)

pub flat_walks : (rs ss : List Record) → AreFlatTwins rs ss → HaveSameWalks rs ss
flat_walks rs ss same thread n =
    let on : Record → Bool = λ r. r.thread == thread in
    flat_walk on at_start (take n rs) (flat_take n rs same.flat)
    ∙ twin_flat_walk (take n rs) (take n ss) thread (twins_take rs ss n same.twins)
    ∙ sym (flat_walk on at_start (take n ss) (flat_take n ss same.is_flat))

-- ---- causes

flat_walk_twins : (rs ss : List Record) → AreFlatTwins rs ss → AreWalkTwins rs ss
flat_walk_twins rs ss same = record {
  twins = same.twins;
  walks = flat_walks rs ss same;
  nests = λ i. flat_at rs i same.flat ∙ sym (flat_at ss i same.is_flat);
}

-- a flat list has no root that begins where it may not
pub never_misnested : (rs : List Record) (i : ℕ) → AreFlat rs → IsMisnested rs i → ⊥
never_misnested rs i flat (other_region m walk nests joins stands inside none) =
    true≢false (sym nests ∙ flat_at rs i flat)
never_misnested rs i flat (other_league task walk nests begins stands inside none) =
    true≢false (sym nests ∙ flat_at rs i flat)

pub flat_cause : (rs ss : List Record) (i : ℕ) (cause : Cause) → IsWalkCause cause → AreFlatTwins rs ss
    → HasCause rs i cause → HasCause ss i cause
flat_cause rs ss i cause is_so same has =
    walk_cause rs ss i cause is_so (flat_walk_twins rs ss same) has
