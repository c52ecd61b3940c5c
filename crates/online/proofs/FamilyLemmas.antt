-- The locations that the children of one task use, beside those of all others; and the walk over a list of
-- uses.
use Rattle.std.proofs.Common.{◌≡◌, ◌≢◌, ◌∙◌, ℕ, ◌+◌, ◌⊎◌, Bool, true, false, append_assoc}
use Rattle.std.proofs.Common.{List, [], ◌∷◌, ◌++◌, Option, Some, None, refl, sym, ap, subst}
use Rattle.std.proofs.Common.{inl, inr}
use Rattle.std.specs.Prelude.{Contains, option_map, cond, ◌==◌}
use Rattle.std.proofs.lemmas.Bool.{cases_eq, eq-eqb, ne_eqb}
use Rattle.std.proofs.lemmas.Option.{none-some, same_Some}
use Rattle.online.specs.declared.groups.Group.{Group}
use Rattle.online.specs.declared.uses.Use.{Use}
use Rattle.online.specs.declared.uses.Location.{Location}
use Rattle.online.specs.Groups.{put, with_group, with_member, HasEntered, KeepsCounts}
use Rattle.online.specs.Uses.{can_share, IsTable, Locations, last_in, location_in, with_family}
use Rattle.online.specs.Uses.{HasFound, HasPlaced, listing}
use Rattle.online.proofs.GroupLemmas.{put_here, put_apart, contains_none}
use Rattle.online.proofs.UseLemmas.{table_begun, table_counts, no_clash}
use Rattle.online.proofs.UseSteps.{table_entered}

-- ---- maps

-- a change of a map, seen through a function of its values
pub map_put : {X Y : Type 0} (f : X → Y) (old new : ℕ → Option X) (n : ℕ) (w : Option X) (q : ℕ)
    → new q ≡ put old n w q → option_map f (new q) ≡ put (λ m. option_map f (old m)) n (option_map f w) q
map_put {X} {Y} f old new n w q is = ap (option_map f) is ∙ of (n == q)
  where
    of : (b : Bool) → option_map f (cond {A = Option X} b w (old q))
        ≡ cond {A = Option Y} b (option_map f w) (option_map f (old q))
    of true = refl
    of false = refl

pub family_own : (parent : ℕ) (family : Locations) (locations : ℕ → ℕ → Option Location) (p w : ℕ)
    → parent ≡ p → with_family parent family locations p w ≡ last_in family w
family_own parent family locations p w is =
    ap (λ (b : Bool). cond {A = Option Location} b (last_in family w) (locations p w)) (eq-eqb parent p is)

pub family_other : (parent : ℕ) (family : Locations) (locations : ℕ → ℕ → Option Location) (p w : ℕ)
    → parent ≢ p → with_family parent family locations p w ≡ locations p w
family_other parent family locations p w apart =
    ap (λ (b : Bool). cond {A = Option Location} b (last_in family w) (locations p w)) (ne_eqb parent p apart)

-- the family that is in the map, or an empty one, changes nothing
pub family_same : (parent : ℕ) (family : Locations) (locations : ℕ → ℕ → Option Location)
    → ((w : ℕ) → last_in family w ≡ locations parent w) → (p w : ℕ)
    → with_family parent family locations p w ≡ locations p w
family_same parent family locations is p w = elim (cases_eq parent p) [
  | inl same ↦ family_own parent family locations p w same ∙ is w ∙ ap (λ q. locations q w) same
  | inr apart ↦ family_other parent family locations p w apart
]

-- the family put into the map
pub family_put : (parent : ℕ) (family : Locations) (old new : ℕ → Option Locations) (p w : ℕ)
    → new p ≡ put old parent (Some family) p
    → location_in (new p) w ≡ with_family parent family (λ q v. location_in (old q) v) p w
family_put parent family old new p w is = elim (cases_eq parent p) [
  | inl same ↦
      ap (λ f. location_in f w) (is ∙ put_here old parent (Some family) p same)
      ∙ sym (family_own parent family (λ q v. location_in (old q) v) p w same)
  | inr apart ↦
      ap (λ f. location_in f w) (is ∙ put_apart old parent (Some family) p apart)
      ∙ sym (family_other parent family (λ q v. location_in (old q) v) p w apart)
]

family_changes : (parent location : ℕ) (old new : Locations) (locations : ℕ → ℕ → Option Location)
    (made : Location) → ((q : ℕ) → last_in new q ≡ put (last_in old) location (Some made) q) → (p w : ℕ)
    → ((p ≡ parent) × (w ≡ location) × (with_family parent new locations p w ≡ Some made))
    ⊎ (with_family parent new locations p w ≡ with_family parent old locations p w)
family_changes parent location old new locations made is p w = elim (cases_eq parent p) [
  | inr apart ↦
      inr (family_other parent new locations p w apart ∙ sym (family_other parent old locations p w apart))
  | inl same ↦ elim (cases_eq location w) [
    | inl here ↦
        inl (
          sym same,
          sym here,
          family_own parent new locations p w same ∙ is w ∙ put_here (last_in old) location (Some made) w
              here,
        )
    | inr other ↦
        inr
        (family_own parent new locations p w same ∙ is w
        ∙ put_apart (last_in old) location (Some made) w other
        ∙ sym (family_own parent old locations p w same))
  ]
]

-- ---- the group of a use

pub open_room : (old : ℕ → Option Group) (next : ℕ) (family : Locations) (used : Use) (l : Location)
    → last_in family used.location ≡ Some l → can_share l.kind used.kind ≡ true
    → HasFound old next family old next family used l.last
open_room old next family used l here shares = λ history ends gone all numbers locations parent is. (
  all,
  is,
  record {
    location = l;
    found = here;
    last = refl;
    fits = inr shares;
    apart = λ u kind has fits apart. no_clash l.kind used.kind kind shares fits apart;
  },
)

last_map : (o : Option Location) (b : ℕ) → option_map (λ (l : Location). l.last) o ≡ Some b
    → (l : Location) × (o ≡ Some l) × (l.last ≡ b)
last_map None b is = absurd (none-some b is)
last_map (Some l) b is = (l, refl, same_Some l.last b is)

pub begun_room : (old new : ℕ → Option Group) (n first next : ℕ) (family after : Locations) (used : Use)
    (before : Option ℕ) → n ≡ first → n + 1 ≡ next
    → ((q : ℕ) → new q ≡ put old n (Some (record {
      left = 0;
      greatest = 0;
      floor = 0;
      before = before;
      needed = true;
    })) q)
    → before ≡ option_map (λ (l : Location). l.last) (last_in family used.location)
    → ((q : ℕ) → last_in after q
    ≡ put (last_in family) used.location (Some (record { last = n; kind = used.kind })) q)
    → HasFound old first family new next after used n
begun_room old new n first next family after used before is_first more is_new is_before is_after =
    λ history ends gone all numbers locations parent is.
    let own : with_family parent family locations parent used.location ≡ last_in family used.location =
    family_own parent family locations parent used.location refl in (
      with_group all n before,
      table_begun history ends gone all old new n next numbers (with_family parent family locations)
          (with_family parent after locations) parent used.location before made more refl is_new
          (family_changes parent used.location family after locations made is_after)
          (λ b is_b.
          let (l, at_l, same) = last_map (last_in family used.location) b (sym is_before ∙ is_b) in
          (l, own ∙ at_l, same))
          (λ l at_l.
          is_before ∙ ap (option_map (λ (k : Location). k.last)) (sym own ∙ at_l))
          (subst (λ m. IsTable history ends gone all old m numbers (with_family parent family locations))
          (sym is_first) is),
      record {
        location = made;
        found = is_after used.location
            ∙ put_here (last_in family) used.location (Some made) used.location refl;
        last = refl;
        fits = inl refl;
        apart = λ u kind has fits apart.
            contains_none u (subst (λ l. Contains l u) (put_here all.members n [] n refl) has);
      },
    )
  where
    made : Location
    made = record { last = n; kind = used.kind }

-- ---- a walk over uses

pub placed_one : (old mid new last : ℕ → Option Group) (next more : ℕ) (family after : Locations) (used : Use)
    (n : ℕ) → HasFound old next family mid more after used n → HasEntered mid new n → KeepsCounts new last
    → HasPlaced old next family last more after (used ∷ []) (n ∷ [])
placed_one old mid new last next more family after used n found enters keeps =
    λ history ends gone all numbers locations parent task uses own unlisted alive is.
    let (now, there, room) =
    found (history ++ listing parent task uses ∷ []) ends gone all (put numbers task (Some own)) locations
    parent
    is in
    let l = room.location in (
      with_member now l.last task,
      table_counts (history ++ listing parent task (uses ++ used ∷ []) ∷ []) ends gone
          (with_member now l.last task) new last more (put numbers task (Some (own ++ n ∷ [])))
          (with_family parent after locations) keeps
          (subst
          (λ m. IsTable (history ++ listing parent task (uses ++ used ∷ []) ∷ []) ends gone
          (with_member now l.last task) new more (put numbers task (Some (own ++ m ∷ [])))
          (with_family parent after locations)) room.last
          (table_entered history ends gone now mid new more numbers (with_family parent after locations)
          parent task
          uses used own l unlisted alive
          (family_own parent after locations parent used.location refl ∙ room.found) room.fits
          (λ u kind has fits apart.
          room.apart u kind (subst (λ m. Contains (now.members m) u) room.last has) fits apart)
          (subst (λ m. HasEntered mid new m) (sym room.last) enters) there)),
    )

pub placed_more : (old mid new : ℕ → Option Group) (next more most : ℕ) (family after last : Locations)
    (xs ys : List Use) (ns ms : List ℕ) → HasPlaced old next family mid more after xs ns
    → HasPlaced mid more after new most last ys ms
    → HasPlaced old next family new most last (xs ++ ys) (ns ++ ms)
placed_more old mid new next more most family after last xs ys ns ms first second =
    λ history ends gone all numbers locations parent task uses own unlisted alive is.
    let (now, there) = first history ends gone all numbers locations parent task uses own unlisted alive is in
    let (end, here) =
    second history ends gone now numbers locations parent task (uses ++ xs) (own ++ ns) unlisted alive
    there in (
      end,
      subst
          (λ (l : List ℕ). IsTable (history ++ listing parent task (uses ++ (xs ++ ys)) ∷ []) ends gone end
          new most
          (put numbers task (Some l)) (with_family parent last locations)) (append_assoc own ns ms)
          (subst
          (λ (l : List Use). IsTable (history ++ listing parent task l ∷ []) ends gone end new most
          (put numbers task (Some ((own ++ ns) ++ ms))) (with_family parent last locations))
          (append_assoc uses xs ys) here),
    )
