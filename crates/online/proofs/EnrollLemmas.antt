-- The rosters of teams, behind one record more.
use Rattle.std.proofs.Common.{◌≡◌, ◌≢◌, ◌∙◌, ℕ, ◌≤◌, ◌⊎◌, ◌||◌, Bool, true, false, zero, suc}
use Rattle.std.proofs.Common.{List, [], ◌∷◌, ◌++◌, length}
use Rattle.std.proofs.Common.{Some, None, refl, sym, ap, subst, arith, inl, inr, cond, eqb}
use Rattle.std.specs.Prelude.{Contains}
use Rattle.std.proofs.lemmas.Bool.{cases_eq, eq-eqb, ne_eqb, or_left, or_right, false≢true}
use Rattle.std.proofs.lemmas.Option.{none-some, same_Some}
use Rattle.std.proofs.lemmas.List.{length_push}
use Rattle.std.proofs.lemmas.List.Elements.{Contains-append_cases}
use Rattle.ompt_events.specs.declared.records.Record.{Record}
use Rattle.ompt_events.specs.declared.records.Membership.{Membership}
use Rattle.ompt_events.specs.Records.{joined}
use Rattle.ompt_events.specs.Places.{at}
use Rattle.ompt_events.specs.Teams.{members, members_before}
use Rattle.ompt_events.proofs.PlaceLemmas.{at_within}
use Rattle.online.specs.declared.rosters.Roster.{Roster}
use Rattle.online.specs.declared.rosters.Rosters.{Rosters}
use Rattle.online.specs.Ids.{has}
use Rattle.online.specs.Rosters.{lacking_of, is_kept_whole, HasEnrolled, AreRostersOf, EnrollsIn}
use Rattle.online.specs.Rosters.{TakesOut, KeepsRoster, as_whole, as_lacking, IsShortRoster, outside}
use Rattle.online.specs.Rosters.{same_index, other_size, few}
use Rattle.online.proofs.ReadLemmas.{same_append}
use Rattle.online.proofs.PushLemmas.{at_pushed}
use Rattle.online.proofs.TeamLemmas.{members_same, place_member}
use Rattle.online.proofs.PhaseLemmas.{members_stay, members_join}

-- ---- members before a place

before_same : (rs : List Record) (r : Record) (parallel i : ℕ) → i ≤ length rs
    → members_before (rs ++ r ∷ []) parallel i ≡ members_before rs parallel i
before_same rs r parallel i most =
    members_same (length rs) (rs ++ r ∷ []) rs (same_append rs (r ∷ [])) parallel i most

-- where a member joins among the first, it finds the same members there
before_back : (rs : List Record) (r : Record) (i : ℕ) (m e : Membership) → at joined rs i ≡ Some m
    → Contains (members_before (rs ++ r ∷ []) m.parallel i) e → Contains (members_before rs m.parallel i) e
before_back rs r i m e says has =
    let low = at_within joined rs i m says in
    subst (λ l. Contains l e) (before_same rs r m.parallel i (omega (arith, low))) has

-- ---- a record that joins no team

pub rosters_stay : (rs : List Record) (r : Record) (kept : Rosters) → joined r.body ≡ None
    → AreRostersOf rs kept → AreRostersOf (rs ++ r ∷ []) kept
rosters_stay rs r kept silent is = record {
  inside = λ i m says. is.inside i m (back i m says);
  own_index = λ i m e says among.
      is.own_index i m e (back i m says) (before_back rs r i m e (back i m says) among);
  same_size = λ i m e says among.
      is.same_size i m e (back i m says) (before_back rs r i m e (back i m says) among);
  lacking = λ parallel roster kept_there.
      subst (λ l. HasEnrolled l roster) (sym (same parallel)) (is.lacking parallel roster kept_there);
  whole = λ parallel m holds among.
      subst (λ l. m.actual ≤ length l) (sym (same parallel))
      (is.whole parallel m holds (subst (λ l. Contains l m) (same parallel) among));
  none = λ parallel out not_whole. same parallel ∙ is.none parallel out not_whole;
}
  where
    back : (i : ℕ) (m : Membership) → at joined (rs ++ r ∷ []) i ≡ Some m → at joined rs i ≡ Some m
    back i m says = elim (at_pushed joined rs r i m says) [
      | inl there ↦ there
      | inr (last, own) ↦ absurd (none-some m (sym silent ∙ own))
    ]

    same : (parallel : ℕ) → members (rs ++ r ∷ []) parallel ≡ members rs parallel
    same parallel = members_stay rs r parallel (λ m own. absurd (none-some m (sym silent ∙ own)))

-- ---- a member that joins

only : (m e : Membership) → Contains (m ∷ []) e → m ≡ e
only m e (zero, low, is) = is
only m e (suc k, low, is) = absurd (omega (arith, low))

pub record JoinsNext (rs : List Record) (r : Record) (old : Rosters) (m : Membership)
    (parallel index size : ℕ) : Type 0 where
  pub says : joined r.body ≡ Some m
  pub region : m.parallel ≡ parallel
  pub number : m.index ≡ index
  pub actual : m.actual ≡ size
  pub are : AreRostersOf rs old
  pub lacks : is_kept_whole old parallel ≡ false

module _ (rs : List Record) (r : Record) (old mid new : Rosters) (m : Membership) (parallel index size : ℕ)
    (before after : Roster) (joins : JoinsNext rs r old m parallel index size)
    (out : TakesOut old mid parallel size before) (enrolls : EnrollsIn before after index size)
    (keeps : KeepsRoster mid new parallel after) where
  -- ---- the member's team

  enrolled : HasEnrolled (members rs parallel) before
  enrolled = elim out.found [
    | inl there ↦ joins.are.lacking parallel before there
    | inr (absent, empty) ↦
        subst (λ l. HasEnrolled l before) (sym (joins.are.none parallel absent joins.lacks)) (record {
          joined = empty.joined;
          size = λ e (k, low, is). absurd (omega (arith, low));
          indices = λ e (k, low, is). absurd (omega (arith, low));
        })
  ]

  joined_members : members (rs ++ r ∷ []) parallel ≡ members rs parallel ++ m ∷ []
  joined_members =
      subst (λ p. members (rs ++ r ∷ []) p ≡ members rs p ++ m ∷ []) joins.region
      (members_join rs r m joins.says)

  -- a member of the team is one before, or the new one
  who : (e : Membership) → Contains (members (rs ++ r ∷ []) parallel) e
      → Contains (members rs parallel) e ⊎ (m ≡ e)
  who e among = elim
      (Contains-append_cases (members rs parallel) (m ∷ []) e
      (subst (λ l. Contains l e) joined_members among)) [
        | inl there ↦ inl there
        | inr last ↦ inr (only m e last)
      ]

  fresh : (e : Membership) → Contains (members rs parallel) e → (e.index ≢ m.index) × (e.actual ≡ m.actual)
  fresh e among = (
    λ same. false≢true
        (sym enrolls.fresh ∙ ap (has before.indices) (sym joins.number ∙ sym same)
        ∙ enrolled.indices e among),
    enrolled.size e among ∙ enrolls.old_size ∙ sym joins.actual,
  )

  enrolled_more : HasEnrolled (members (rs ++ r ∷ []) parallel) after
  enrolled_more = record {
    joined =
        let long = length_push (members rs parallel) m in
        let all = ap length joined_members in
        let was = enrolled.joined in
        let more = enrolls.joined in
        omega (arith, long, all, was, more);
    size = λ e among. elim (who e among) [
      | inl there ↦ enrolled.size e there ∙ sym enrolls.new_size
      | inr same ↦
          ap (λ (x : Membership). x.actual) (sym same) ∙ joins.actual ∙ sym enrolls.old_size
          ∙ sym enrolls.new_size
    ];
    indices = λ e among. enrolls.indices e.index ∙ elim (who e among) [
      | inl there ↦ or_right (eqb e.index index) (has before.indices e.index) (enrolled.indices e there)
      | inr same ↦
          or_left (eqb e.index index) (has before.indices e.index)
          (eq-eqb e.index index (ap (λ (x : Membership). x.index) (sym same) ∙ joins.number))
    ];
  }

  -- ---- the other teams

  other_members : (other : ℕ) → other ≢ parallel → members (rs ++ r ∷ []) other ≡ members rs other
  other_members other differ =
      members_stay rs r other (λ e own is.
      differ
      (sym is ∙ ap (λ (x : Membership). x.parallel) (same_Some e m (sym own ∙ joins.says)) ∙ joins.region))

  other_lacking : (other : ℕ) → other ≢ parallel → lacking_of mid other ≡ lacking_of old other
  other_lacking other differ =
      out.lacking other ∙ ap (λ b. cond b None (lacking_of old other)) (ne_eqb other parallel differ)

  own_lacking : lacking_of mid parallel ≡ None
  own_lacking =
      out.lacking parallel
      ∙ ap (λ b. cond b None (lacking_of old parallel)) (eq-eqb parallel parallel refl)

  own_whole : is_kept_whole mid parallel ≡ false
  own_whole = out.whole parallel ∙ joins.lacks

  -- ---- all teams

  lacking_more : (other : ℕ) (roster : Roster) → lacking_of new other ≡ Some roster
      → HasEnrolled (members (rs ++ r ∷ []) other) roster
  lacking_more other roster kept = elim (cases_eq other parallel) [
    | inl same ↦ of_own keeps same
    | inr differ ↦
        subst (λ l. HasEnrolled l roster) (sym (other_members other differ))
        (joins.are.lacking other roster (sym (other_lacking other differ) ∙ of_other keeps differ))
  ]
    where
      of_own : KeepsRoster mid new parallel after → other ≡ parallel
          → HasEnrolled (members (rs ++ r ∷ []) other) roster
      of_own (as_whole all wholes lackings) same =
          absurd
          (none-some roster
          (sym own_lacking ∙ ap (lacking_of mid) (sym same) ∙ sym (lackings other) ∙ kept))
      of_own (as_lacking wholes lackings) same =
          let own : Some after ≡ Some roster =
          sym (ap (λ b. cond b (Some after) (lacking_of mid other)) (eq-eqb other parallel same))
          ∙ sym (lackings other) ∙ kept in
          subst (HasEnrolled (members (rs ++ r ∷ []) other)) (same_Some after roster own)
          (subst (λ p. HasEnrolled (members (rs ++ r ∷ []) p) after) (sym same) enrolled_more)

      of_other : KeepsRoster mid new parallel after → other ≢ parallel → lacking_of mid other ≡ Some roster
      of_other (as_whole all wholes lackings) differ = sym (lackings other) ∙ kept
      of_other (as_lacking wholes lackings) differ =
          sym (ap (λ b. cond b (Some after) (lacking_of mid other)) (ne_eqb other parallel differ))
          ∙ sym (lackings other) ∙ kept

  whole_more : (other : ℕ) (e : Membership) → is_kept_whole new other ≡ true
      → Contains (members (rs ++ r ∷ []) other) e → e.actual ≤ length (members (rs ++ r ∷ []) other)
  whole_more other e holds among = elim (cases_eq other parallel) [
    | inl same ↦ of_own keeps same
    | inr differ ↦
        subst (λ l. e.actual ≤ length l) (sym (other_members other differ))
        (joins.are.whole other e (sym (out.whole other) ∙ of_other keeps differ)
        (subst (λ l. Contains l e) (other_members other differ) among))
  ]
    where
      of_own : KeepsRoster mid new parallel after → other ≡ parallel
          → e.actual ≤ length (members (rs ++ r ∷ []) other)
      of_own (as_whole all wholes lackings) same =
          subst (λ p. e.actual ≤ length (members (rs ++ r ∷ []) p)) (sym same)
          (let size = enrolled_more.size e (subst (λ p. Contains (members (rs ++ r ∷ []) p) e) same among) in
          let count = enrolled_more.joined in
          omega (arith, size, count, all))
      of_own (as_lacking wholes lackings) same =
          absurd (false≢true (sym own_whole ∙ ap (is_kept_whole mid) (sym same) ∙ sym (wholes other) ∙ holds))

      of_other : KeepsRoster mid new parallel after → other ≢ parallel → is_kept_whole mid other ≡ true
      of_other (as_whole all wholes lackings) differ =
          sym (ap (λ b. b || is_kept_whole mid other) (ne_eqb other parallel differ))
          ∙ sym (wholes other) ∙ holds
      of_other (as_lacking wholes lackings) differ = sym (wholes other) ∙ holds

  none_more : (other : ℕ) → lacking_of new other ≡ None → is_kept_whole new other ≡ false
      → members (rs ++ r ∷ []) other ≡ []
  none_more other absent lacks = elim (cases_eq other parallel) [
    | inl same ↦ absurd (of_own keeps same)
    | inr differ ↦
        other_members other differ
        ∙ joins.are.none other (sym (other_lacking other differ) ∙ (of_other keeps differ).0)
        (sym (out.whole other) ∙ (of_other keeps differ).1)
  ]
    where
      of_own : KeepsRoster mid new parallel after → other ≡ parallel → ⊥
      of_own (as_whole all wholes lackings) same =
          false≢true
          (sym lacks ∙ wholes other ∙ or_left (eqb other parallel) (is_kept_whole mid other)
          (eq-eqb other parallel same))
      of_own (as_lacking wholes lackings) same =
          none-some after
          (sym absent ∙ lackings other
          ∙ ap (λ b. cond b (Some after) (lacking_of mid other)) (eq-eqb other parallel same))

      of_other : KeepsRoster mid new parallel after → other ≢ parallel
          → (lacking_of mid other ≡ None) × (is_kept_whole mid other ≡ false)
      of_other (as_whole all wholes lackings) differ = (
        sym (lackings other) ∙ absent,
        sym (ap (λ b. b || is_kept_whole mid other) (ne_eqb other parallel differ))
            ∙ sym (wholes other) ∙ lacks,
      )
      of_other (as_lacking wholes lackings) differ = (
        sym (ap (λ b. cond b (Some after) (lacking_of mid other)) (ne_eqb other parallel differ))
            ∙ sym (lackings other) ∙ absent,
        sym (wholes other) ∙ lacks,
      )

  -- ---- the records with the member

  -- the members before the last record are those of its team
  before_last : (e : Membership) → Contains (members_before (rs ++ r ∷ []) m.parallel (length rs)) e
      → Contains (members rs parallel) e
  before_last e among =
      subst (λ p. Contains (members rs p) e) joins.region
      (subst (λ l. Contains l e) (before_same rs r m.parallel (length rs) (omega arith)) among)

  pub rosters_join : AreRostersOf (rs ++ r ∷ []) new
  rosters_join = record {
    inside = λ i x says. elim (at_pushed joined rs r i x says) [
      | inl there ↦ joins.are.inside i x there
      | inr (last, own) ↦
          let same = same_Some x m (sym own ∙ joins.says) in
          let index = ap (λ (e : Membership). e.index) same ∙ joins.number in
          let actual = ap (λ (e : Membership). e.actual) same ∙ joins.actual in
          let low = enrolls.inside in
          omega (arith, index, actual, low)
    ];
    own_index = λ i x e says among. elim (at_pushed joined rs r i x says) [
      | inl there ↦ joins.are.own_index i x e there (before_back rs r i x e there among)
      | inr (last, own) ↦
          let same = same_Some x m (sym own ∙ joins.says) in
          λ is. (fresh e (last_members i x e last same among)).0 (is ∙ ap (λ (q : Membership). q.index) same)
    ];
    same_size = λ i x e says among. elim (at_pushed joined rs r i x says) [
      | inl there ↦ joins.are.same_size i x e there (before_back rs r i x e there among)
      | inr (last, own) ↦
          let same = same_Some x m (sym own ∙ joins.says) in
          (fresh e (last_members i x e last same among)).1 ∙ ap (λ (q : Membership). q.actual) (sym same)
    ];
    lacking = lacking_more;
    whole = whole_more;
    none = none_more;
  }
    where
      last_members : (i : ℕ) (x e : Membership) → i ≡ length rs → x ≡ m
          → Contains (members_before (rs ++ r ∷ []) x.parallel i) e → Contains (members rs parallel) e
      last_members i x e last same among =
          before_last e
          (subst (λ n. Contains (members_before (rs ++ r ∷ []) m.parallel n) e) last
          (subst (λ (q : Membership). Contains (members_before (rs ++ r ∷ []) q.parallel i) e) same among))

-- ---- where no team lacks a member

pub none_short : (kept : Rosters) → ((parallel : ℕ) → lacking_of kept parallel ≡ None) → (rs : List Record)
    → AreRostersOf rs kept → (i : ℕ) → IsShortRoster rs i → ⊥
none_short kept none rs is i (outside m says high) =
    let low = is.inside i m says in omega (arith, low, high)
none_short kept none rs is i (same_index m e says among same) = is.own_index i m e says among same
none_short kept none rs is i (other_size m e says among differ) = differ (is.same_size i m e says among)
none_short kept none rs is i (few m says less) = of (is_kept_whole kept m.parallel) refl
  where
    here : Contains (members rs m.parallel) m
    here = place_member rs m.parallel (length rs) m (record {
      place = i;
      before = at_within joined rs i m says;
      joins = says;
      same = refl;
    })

    of : (b : Bool) → is_kept_whole kept m.parallel ≡ b → ⊥
    of true holds = let most = is.whole m.parallel m holds here in omega (arith, most, less)
    of false lacks =
        let empty = ap length (is.none m.parallel (none m.parallel) lacks) in
        let (k, low, there) = here in
        omega (arith, empty, low)
