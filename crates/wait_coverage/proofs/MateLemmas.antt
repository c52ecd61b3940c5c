-- The members of a team by their numbers.
use Rattle.std.proofs.Common.{◌≡◌, ◌∙◌, ℕ, ◌<◌, List, length, refl, sym, ap, subst, inl, inr}
use Rattle.std.specs.Prelude.{Contains}
use Rattle.std.proofs.lemmas.Bool.{cases_order}
use Rattle.std.proofs.lemmas.Option.{same_Some}
use Rattle.ompt_events.specs.declared.records.Record.{Record}
use Rattle.ompt_events.specs.declared.records.Membership.{Membership}
use Rattle.ompt_events.specs.declared.cause.Cause.TheVariants.{CreatedTwice, TeamShort}
use Rattle.ompt_events.specs.Records.{joined, region}
use Rattle.ompt_events.specs.Places.{at}
use Rattle.ompt_events.specs.Teams.{members, IsInitial, IsTeammate, alone, together}
use Rattle.ompt_events.specs.Regions.{IsBarrierBegin}
use Rattle.ompt_events.specs.Causes.{IsFreeOf, team_short, same_index}
use Rattle.ompt_events.proofs.PlaceLemmas.{at_within}
use Rattle.teams.specs.Teams.{IsMemberNumbered}
use Rattle.teams.specs.Teams as numbered
use Rattle.teams.proofs.BarrierLemmas.{begin_says, begun_region}
use Rattle.teams.proofs.MemberLemmas.{IsMemberAt, member_place, place_member, joined_once, initial_once}

-- a number belongs to one member of a team
one_index : (rs : List Record) (parallel : ℕ) (m e : Membership) → IsFreeOf rs TeamShort
    → IsMemberAt rs parallel (length rs) m → IsMemberAt rs parallel (length rs) e → m.index ≡ e.index → m ≡ e
one_index rs parallel m e whole here there same = elim (cases_order here.place there.place) [
  | inl one ↦ same_Some m e (sym here.joins ∙ ap (at joined rs) one ∙ there.joins)
  | inr (inl less) ↦
      absurd
      (whole there.place
      (team_short
      (same_index e m there.joins
      (place_member rs e.parallel there.place here.place m less here.joins
      (here.same ∙ sym there.same))
      same)))
  | inr (inr more) ↦
      absurd
      (whole here.place
      (team_short
      (same_index m e here.joins
      (place_member rs m.parallel here.place there.place e more there.joins
      (there.same ∙ sym here.same))
      (sym same))))
]

own_together : (rs : List Record) (task parallel : ℕ) (own : Membership) → IsFreeOf rs CreatedTwice
    → IsInitial rs task → Contains (members rs parallel) own → own.member ≡ task → ⊥
own_together rs task parallel own once (k, begins) found is =
    initial_once rs k (member_place rs parallel (length rs) own found).place task own once begins
    (member_place rs parallel (length rs) own found).joins is

pub one_member : (rs : List Record) (task index other member mate : ℕ) → IsFreeOf rs CreatedTwice
    → IsFreeOf rs TeamShort → IsMemberNumbered rs task index member → IsMemberNumbered rs task other mate
    → index ≡ other → member ≡ mate
one_member rs task _ _ _ _ once whole (numbered.alone initial) (numbered.alone again) same = refl
one_member rs task _ _ _ _ once whole (numbered.alone initial)
    (numbered.together parallel own m found is mate) same =
    absurd (own_together rs task parallel own once initial found is)
one_member rs task _ _ _ _ once whole (numbered.together parallel own m found is mate)
    (numbered.alone initial) same =
    absurd (own_together rs task parallel own once initial found is)
one_member rs task _ _ _ _ once whole (numbered.together parallel own m found is mate)
    (numbered.together other self e seen its also) same =
    let here = member_place rs parallel (length rs) own found in
    let there = member_place rs other (length rs) self seen in
    let one = joined_once rs here.place there.place own self once here.joins there.joins (is ∙ sym its) in
    let team = sym here.same ∙ ap (λ (q : Membership). q.parallel) one.1 ∙ there.same in
    let P : ℕ → Type 0 = λ p. Contains (members rs p) e in
    ap (λ (q : Membership). q.member)
    (one_index rs parallel m e whole (member_place rs parallel (length rs) m mate)
    (member_place rs parallel (length rs) e (subst P (sym team) also)) same)

pub number_of_mate : (rs : List Record) (task mate : ℕ) → IsTeammate rs task mate
    → (index : ℕ) × IsMemberNumbered rs task index mate
number_of_mate rs task _ (alone initial) = (0, numbered.alone initial)
number_of_mate rs task _ (together parallel own other found is mate) =
    (other.index, numbered.together parallel own other found is mate)

pub mate_of_number : (rs : List Record) (task index mate : ℕ) → IsMemberNumbered rs task index mate
    → IsTeammate rs task mate
mate_of_number rs task _ _ (numbered.alone initial) = alone initial
mate_of_number rs task _ _ (numbered.together parallel own other found is mate) =
    together parallel own other found is mate

-- a barrier begins at one of the records
pub begin_within : (rs : List Record) (task number start : ℕ) → IsBarrierBegin rs task number start
    → start < length rs
begin_within rs task number start is =
    let begun = begun_region rs start task (begin_says rs task number start is) in
    at_within region rs start (task, begun.0, begun.1) begun.2
