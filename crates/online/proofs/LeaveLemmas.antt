-- What is kept of teams where a member has ended, and where a team is taken out.
use Rattle.std.proofs.Common.{◌≡◌, ◌≢◌, ◌∙◌, ℕ, ◌<◌, ◌≤◌, ◌+◌, Bool, true, false, List, [], ◌∷◌, ◌++◌, length}
use Rattle.std.proofs.Common.{Option, Some, None, refl, sym, ap, subst, arith, inl, inr, ◌⊎◌}
use Rattle.std.specs.Prelude.{nat_eq}
use Rattle.std.specs.Option.{option_map_or}
use Rattle.std.specs.HashMap.{HashMap, get, UpdatesBy}
use Rattle.std.proofs.lemmas.Bool.{cases_eq, ne_eqb}
use Rattle.std.proofs.lemmas.Option.{none-some}
use Rattle.ompt_events.specs.declared.records.Record.{Record}
use Rattle.ompt_events.specs.Records.{joined}
use Rattle.ompt_events.specs.Teams.{members}
use Rattle.online.specs.declared.kin.Kin.{Kin}
use Rattle.online.specs.declared.phase.Phase.{Phase}
use Rattle.online.specs.declared.team.Team.{Team}
use Rattle.online.specs.Waits.{IsScopeOf, IsSettled, IsOver, is_kept, MayFollow, EndsRoot}
use Rattle.online.specs.Teams.{no_phase, HasLeft, IsInPhase, is_gone, gone_of, IsTeamOf, IsTeamOver}
use Rattle.online.specs.Teams.{AreTeamsBefore, AreTeamsOf, IsTeamDone, ChangesTeam, ChangesTeamOf}
use Rattle.online.specs.Teams.{DropsTeams, LeavesTeam}
use Rattle.online.proofs.GoneLemmas.{gone_over, gone_grows, gone_last, gone_more, gone_all, gone_few}
use Rattle.online.proofs.PhaseLemmas.{members_stay}
use Rattle.online.proofs.TeamStepLemmas.{TeamFrom, team_of_from, team_none}

-- ---- a member has ended

left_team : (rs : List Record) (kept : ℕ → Bool) (parallel : ℕ) (team after : Team) → HasLeft team after
    → team.ended + 1 ≤ gone_of rs (members rs parallel) → IsTeamOf rs kept parallel team
    → IsTeamOf rs kept parallel after
left_team rs kept parallel team after left more is = record {
  actual = λ m has.
      let e = left.actual in
      let h = is.actual m has in
      omega (arith, e, h);
  joined = left.joined ∙ is.joined;
  ended = let e = left.ended in omega (arith, e, more);
  begun = λ number p there. is.begun number p (sym (left.phases number) ∙ there);
  going = λ number late.
      let e = left.over in
      let P : Option Phase → Type 0 =
      λ o.
      IsScopeOf (length rs) (IsInPhase rs parallel (λ k. k ≡ number)) kept (IsSettled rs)
      (option_map_or (λ (p : Phase). p) o no_phase).scope in
      subst P (sym (left.phases number)) (is.going number (omega (arith, e, late)));
  over = λ child has.
      let P : ℕ → Type 0 = λ n. IsSettled rs n child in
      let Q : ℕ → Type 0 = λ n. IsInPhase rs parallel (λ k. k < n) child in
      subst P (sym left.greatest) (is.over child (subst Q left.over has));
  each = λ number p low there.
      let e = left.over in
      is.each number p (omega (arith, e, low)) (sym (left.phases number) ∙ there);
}

counted_teams : (rs : List Record) (n : ℕ) (table : ℕ → Option Kin) (parallel : Option ℕ)
    (teams after : ℕ → Option Team) → ChangesTeamOf HasLeft parallel teams after
    → ((region : ℕ) (was : Team) → parallel ≡ Some region → teams region ≡ Some was
    → was.ended + 1 ≤ gone_of rs (members rs region))
    → AreTeamsBefore rs n table teams → AreTeamsBefore rs n table after
counted_teams rs n table parallel teams after changes more is = record {
  places = is.places;
  each = λ region team there. each region team (from region team there);
  absent = λ region none. is.absent region (before region none);
  ends = record {
    settled = is.ends.settled;
    over = λ i region number team below ends there.
        let it = from region team there in
        let less = is.ends.over i region number it.was below ends it.kept in
        let same = over_is it.was team it.how in
        omega (arith, less, same);
    gone = λ i region number m below ends none has.
        is.ends.gone i region number m below ends (before region none) has;
  };
}
  where
    from : (region : ℕ) (team : Team) → after region ≡ Some team
        → TeamFrom HasLeft (parallel ≡ Some region) teams region team
    from = team_of_from HasLeft parallel teams after changes

    before : (region : ℕ) → after region ≡ None → teams region ≡ None
    before region none = team_none HasLeft parallel teams after changes region none

    over_is : {X : Type 0} (was team : Team) → (X × HasLeft was team) ⊎ ((X → ⊥) × (was ≡ team))
        → team.over ≡ was.over
    over_is was team (inl (here, left)) = left.over
    over_is was team (inr (apart, same)) = ap (λ (t : Team). t.over) (sym same)

    each : (region : ℕ) (team : Team) → TeamFrom HasLeft (parallel ≡ Some region) teams region team
        → IsTeamOf rs (is_kept table) region team
    each region team it = by it.how
      where
        by : ((parallel ≡ Some region) × HasLeft it.was team)
            ⊎ ((parallel ≡ Some region → ⊥) × (it.was ≡ team)) → IsTeamOf rs (is_kept table) region team
        by (inl (here, left)) =
            left_team rs (is_kept table) region it.was team left (more region it.was here it.kept)
            (is.each region it.was it.kept)
        by (inr (apart, same)) =
            subst (λ t. IsTeamOf rs (is_kept table) region t) same (is.each region it.was it.kept)

-- ---- a team is taken out

done_over : (rs : List Record) (kept : ℕ → Bool) (parallel : ℕ) (team : Team) → IsTeamDone team
    → IsTeamOf rs kept parallel team → IsTeamOver rs parallel
done_over rs kept parallel team done is = record {
  whole = λ m has.
      let h = is.actual m has in
      let k = done.whole in
      let l = is.ended in
      let few = gone_few rs (members rs parallel) in
      omega (arith, h, k, l, few);
  ended = λ m has.
      let h = done.all in
      let e = is.joined in
      let l = is.ended in
      gone_all rs (members rs parallel) (omega (arith, h, e, l)) m has;
}

dropped_teams : (rs : List Record) (n : ℕ) (table : ℕ → Option Kin) (old new : ℕ → Option Team)
    → DropsTeams old new → AreTeamsBefore rs n table old → AreTeamsBefore rs n table new
dropped_teams rs n table old new drops is = record {
  places = is.places;
  each = λ region team there. is.each region team (drops.each region team there);
  absent = λ region none. elim (drops.gone region none) [
    | inl gone ↦ is.absent region gone
    | inr (team, found, done) ↦ done_over rs (is_kept table) region team done (is.each region team found)
  ];
  ends = record {
    settled = is.ends.settled;
    over = λ i region number team below ends there.
        is.ends.over i region number team below ends (drops.each region team there);
    gone = λ i region number m below ends none has. elim (drops.gone region none) [
      | inl gone ↦ is.ends.gone i region number m below ends gone has
      | inr (team, found, done) ↦
          let over = is.ends.over i region number team below ends found in
          let reached = done.begun rs (is_kept table) region (is.each region team found) m has in
          omega (arith, over, reached)
    ];
  };
}

-- ---- a root ends

pub leave_teams : (rs : List Record) (r : Record) (root : ℕ) (table : ℕ → Option Kin)
    (teams after : ℕ → Option Team) (team : Option ℕ) (kin : Kin) → EndsRoot root r → MayFollow rs r
    → joined r.body ≡ None → table root ≡ Some kin → team ≡ kin.team → LeavesTeam team teams after
    → AreTeamsOf rs table teams → AreTeamsBefore (rs ++ r ∷ []) (length rs) table teams
    → AreTeamsBefore (rs ++ r ∷ []) (length rs) table after
leave_teams rs r root table teams after team kin ends follows silent found team_is leaves were is =
    dropped_teams (rs ++ r ∷ []) (length rs) table leaves.between after leaves.drops
    (counted_teams (rs ++ r ∷ []) (length rs) table team teams leaves.between leaves.counts more is)
  where
    fresh : (task : ℕ) → task ≡ root → (b : Bool) → is_gone rs task ≡ b → is_gone rs task ≡ false
    fresh task same false e = e
    fresh task same true e =
        let P : ℕ → Type 0 = λ t. IsOver rs t in
        absurd ((follows.stops root ends).1 (subst P same (gone_over rs task e)))

    more : (region : ℕ) (was : Team) → team ≡ Some region → teams region ≡ Some was
        → was.ended + 1 ≤ gone_of (rs ++ r ∷ []) (members (rs ++ r ∷ []) region)
    more region was here kept =
        let (m, has, same) = (were.places root kin found).member region (sym team_is ∙ here) in
        let stay = members_stay rs r region (λ x joins. absurd (none-some x (sym silent ∙ joins))) in
        let e = ap (gone_of (rs ++ r ∷ [])) stay in
        let before = (were.each region was kept).ended in
        let one =
        gone_more rs (rs ++ r ∷ []) (gone_grows rs r) (members rs region) m has
        (fresh m.member same (is_gone rs m.member) refl)
        (gone_last rs r m.member (ends ∙ ap Some (sym same))) in
        omega (arith, e, before, one)

-- ---- what the code does

pub leaves_one : (parallel : Option ℕ) (region : ℕ) (old between new : ℕ → Option Team)
    → parallel ≡ Some region → ChangesTeam HasLeft region old between → DropsTeams between new
    → LeavesTeam parallel old new
leaves_one parallel region old between new is counts drops =
    let P : Option ℕ → Type 0 = λ p. LeavesTeam p old new in
    subst P (sym is) (record { between = between; counts = counts; drops = drops })

pub drops_one : {S : Type 0} (region : ℕ) (old new : HashMap ℕ Team S) (team : Team)
    → get nat_eq old region ≡ Some team → IsTeamDone team → UpdatesBy nat_eq (nat_eq region) old new None
    → DropsTeams (get nat_eq old) (get nat_eq new)
drops_one region old new team found done updates = record {
  each = λ other it there. elim (cases_eq other region) [
    | inl same ↦ absurd (none-some it (sym updates.1 ∙ ap (get nat_eq new) (sym same) ∙ there))
    | inr apart ↦ sym (stays other apart) ∙ there
  ];
  gone = λ other none. elim (cases_eq other region) [
    | inl same ↦ inr (team, ap (get nat_eq old) same ∙ found, done)
    | inr apart ↦ inl (sym (stays other apart) ∙ none)
  ];
}
  where
    stays : (other : ℕ) → other ≢ region → get nat_eq new other ≡ get nat_eq old other
    stays other apart = updates.2 other (ne_eqb region other (λ e. apart (sym e)))

pub drops_none : (teams : ℕ → Option Team) → DropsTeams teams teams
drops_none teams = record { each = λ parallel team found. found; gone = λ parallel none. inl none }

pub leaves_none : (parallel : Option ℕ) (teams : ℕ → Option Team) → parallel ≡ None
    → LeavesTeam parallel teams teams
leaves_none parallel teams is =
    let P : Option ℕ → Type 0 = λ p. LeavesTeam p teams teams in
    subst P (sym is)
    (record { between = teams; counts = λ other. refl; drops = drops_none teams })
