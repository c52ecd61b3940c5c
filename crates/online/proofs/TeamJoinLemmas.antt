-- What is kept of teams where a member joins its team.
use Rattle.std.proofs.Common.{◌≡◌, ◌≢◌, ◌∙◌, ℕ, zero, suc, ◌<◌, ◌≤◌, ◌+◌, ◌^◌, List, [], ◌∷◌, ◌++◌}
use Rattle.std.proofs.Common.{length, Option, Some, None, refl, sym, ap, subst, arith, inl, inr, ◌⊎◌}
use Rattle.std.specs.Prelude.{Contains, slice_get}
use Rattle.std.specs.Option.{option_map_or}
use Rattle.std.proofs.lemmas.Bool.{cases_eq}
use Rattle.std.proofs.lemmas.Option.{none-some, same_Some}
use Rattle.std.proofs.lemmas.List.{length_push}
use Rattle.std.proofs.lemmas.List.Elements.{Contains-push, Contains-append_left, Contains-push_cases}
use Rattle.ompt_events.specs.declared.records.Record.{Record}
use Rattle.ompt_events.specs.declared.records.Membership.{Membership}
use Rattle.ompt_events.specs.Records.{joined, creation}
use Rattle.ompt_events.specs.Teams.{members}
use Rattle.ompt_events.specs.Causes.{IsMade}
use Rattle.ompt_events.proofs.ListLemmas.{contains_get}
use Rattle.online.specs.declared.scope.Scope.{Scope}
use Rattle.online.specs.declared.kin.Kin.{Kin}
use Rattle.online.specs.declared.phase.Phase.{Phase}
use Rattle.online.specs.declared.team.Team.{Team}
use Rattle.online.specs.Waits.{IsScopeOf, IsSettled, is_kept}
use Rattle.online.specs.Teams.{IsFirst, HasJoined, ahead, no_phase, phase_in, IsTeamOf}
use Rattle.online.specs.Teams.{IsMemberOf, IsInTeams, IsInPhase, AreTeamsBefore, AreTeamsOf}
use Rattle.online.specs.Teams.{JoinsTeam, FindsRoom, gone_of}
use Rattle.online.proofs.ScopeLemmas.{scope_none}
use Rattle.online.proofs.GrowLemmas.{said_before}
use Rattle.online.proofs.StayLemmas.{creator_made}
use Rattle.online.proofs.PhaseLemmas.{members_stay, members_join, members_few}
use Rattle.online.proofs.PhaseLemmas.{member_is_made}
use Rattle.online.proofs.RosterLemmas.{Grows, AreBack, AreKept, ahead_rises, ahead_push, in_phase_back}
use Rattle.online.proofs.RosterLemmas.{scope_moves, team_moves, team_same}
use Rattle.online.proofs.EndedLemmas.{ends_grow, TeamsRise}
use Rattle.online.proofs.GoneLemmas.{gone_rises, gone_push, team_over_moves}
use Rattle.online.proofs.RootTeamLemmas.{Roots, none, unmade, away, grows, kept_child, root_place, places}

-- ---- a member joins its team

module _ (rs : List Record) (r : Record) (m : Membership) (old new : ℕ → Option Kin) (kin : Kin)
    (teams after_teams : ℕ → Option Team) (o : Roots rs r m.member (Some m.parallel) old new kin)
    (joins : joined r.body ≡ Some m) (enters : JoinsTeam m.parallel m.actual teams after_teams)
    (fits : FindsRoom rs r) (is : AreTeamsOf rs old teams) where
  others_same : (parallel : ℕ) → parallel ≢ m.parallel
      → members (rs ++ r ∷ []) parallel ≡ members rs parallel
  others_same parallel apart =
      members_stay rs r parallel
      (λ e says same.
      apart (sym same ∙ ap (λ (x : Membership). x.parallel) (same_Some e m (sym says ∙ joins))))

  here : members (rs ++ r ∷ []) m.parallel ≡ members rs m.parallel ++ m ∷ []
  here = members_join rs r m joins

  -- a member is one of before, or the new one
  mate_cases : (parallel task : ℕ) → IsMemberOf (rs ++ r ∷ []) parallel task
      → IsMemberOf rs parallel task ⊎ ((parallel ≡ m.parallel) × (task ≡ m.member))
  mate_cases parallel task (e, has, same_task) = elim (cases_eq parallel m.parallel) [
    | inl same ↦
        let P : ℕ → Type 0 = λ t. Contains (members (rs ++ r ∷ []) t) e in
        elim
        (Contains-push_cases (members rs m.parallel) m e
        (subst (λ ms. Contains ms e) here (subst P same has))) [
          | inl early ↦
              let Q : ℕ → Type 0 = λ t. Contains (members rs t) e in
              inl (e, subst Q (sym same) early, same_task)
          | inr last ↦ inr (same, sym same_task ∙ ap (λ (x : Membership). x.member) (sym last))
        ]
    | inr apart ↦ inl (e, subst (λ ms. Contains ms e) (others_same parallel apart) has, same_task)
  ]

  mate_forth : (parallel task : ℕ) → IsMemberOf rs parallel task → IsMemberOf (rs ++ r ∷ []) parallel task
  mate_forth parallel task (e, has, same_task) = elim (cases_eq parallel m.parallel) [
    | inl same ↦
        let P : ℕ → Type 0 = λ t. Contains (members rs t) e in
        let Q : ℕ → Type 0 = λ t. Contains (members (rs ++ r ∷ []) t) e in (
          e,
          subst Q (sym same)
              (subst (λ ms. Contains ms e) (sym here)
              (Contains-append_left (members rs m.parallel) (m ∷ []) e (subst P same has))),
          same_task,
        )
    | inr apart ↦ (e, subst (λ ms. Contains ms e) (sym (others_same parallel apart)) has, same_task)
  ]

  mate_back : (parallel task : ℕ) → IsMade rs task → IsMemberOf (rs ++ r ∷ []) parallel task
      → IsMemberOf rs parallel task
  mate_back parallel task found member = elim (mate_cases parallel task member) [
    | inl early ↦ early
    | inr late ↦ absurd (away rs r m.member (Some m.parallel) old new kin o task found late.1)
  ]

  mate_here : IsMemberOf (rs ++ r ∷ []) m.parallel m.member
  mate_here = (m, subst (λ ms. Contains ms m) (sym here) (Contains-push (members rs m.parallel) m), refl)

  member_place : IsInTeams (rs ++ r ∷ []) m.member kin
  member_place =
      root_place rs r m.member (Some m.parallel) old new kin o (λ parallel member. back parallel member)
      (λ parallel e.
      let P : ℕ → Type 0 = λ t. IsMemberOf (rs ++ r ∷ []) t m.member in
      subst P (same_Some m.parallel parallel e) mate_here)
      (λ e. absurd (none-some m.parallel (sym e)))
    where
      back : (parallel : ℕ) → IsMemberOf (rs ++ r ∷ []) parallel m.member → Some m.parallel ≡ Some parallel
      back parallel member = elim (mate_cases parallel m.member member) [
        | inl early ↦
            let (e, has, same_task) = early in
            let P : ℕ → Type 0 = λ t. IsMade rs t in
            absurd
            (unmade rs r m.member (Some m.parallel) old new kin o
            (subst P same_task (member_is_made rs parallel e has)))
        | inr late ↦ ap Some (sym late.0)
      ]

  room : length rs + 1 < 2 ^ 64
  room = let h = o.follows.few in omega (arith, h)

  -- ---- its team

  grown : Grows rs (rs ++ r ∷ [])
  grown = grows rs r m.member (Some m.parallel) old new kin o

  back : (parallel : ℕ) → AreBack rs (rs ++ r ∷ []) parallel
  back parallel i parent child member creates =
      let early =
      said_before creation rs r (none rs r m.member (Some m.parallel) old new kin o) i (parent, child)
      creates in
      record {
        member =
            mate_back parallel parent (creator_made rs r o.follows.watchable i parent child early) member;
        creates = early;
      }

  kept_same' : (parallel : ℕ) → AreKept rs parallel (is_kept old) (is_kept new)
  kept_same' parallel i parent child member creates =
      kept_child rs r m.member (Some m.parallel) old new kin o i parent child creates

  joined_team : (team : Team) → teams m.parallel ≡ Some team → HasJoined m.actual team enters.after
      → IsTeamOf (rs ++ r ∷ []) (is_kept new) m.parallel enters.after
  joined_team team kept changed = record {
    actual = λ e has.
        let f = changed.actual in
        elim
        (Contains-push_cases (members rs m.parallel) m e (subst (λ ms. Contains ms e) here has)) [
          | inl early ↦ let h = was.actual e early in omega (arith, f, h)
          | inr last ↦ let h = ap (λ (x : Membership). x.actual) last in omega (arith, f, h)
        ];
    ended =
        let e = changed.ended in
        let f = ap (gone_of (rs ++ r ∷ [])) here in
        let h = was.ended in
        let k = gone_rises rs (rs ++ r ∷ []) grown.gone (members rs m.parallel) in
        let l = gone_push (rs ++ r ∷ []) (members rs m.parallel) m in
        omega (arith, e, f, h, k, l);
    joined =
        let e = was.joined in
        let f = changed.joined in
        let g = ap length here ∙ length_push (members rs m.parallel) m in
        let h = members_few rs m.parallel (length rs) in
        let k = room in
        omega (arith, e, f, g, h, k);
    begun = λ number p there.
        let f = ap (λ ms. ahead (rs ++ r ∷ []) ms number) here in
        let h = was.begun number p (sym (changed.phases number) ∙ there) in
        let k = ahead_rises rs (rs ++ r ∷ []) grown (members rs m.parallel) number in
        let l = ahead_push (rs ++ r ∷ []) (members rs m.parallel) m number in
        omega (arith, f, h, k, l);
    going = λ number late.
        let e = changed.over in
        let P : Scope → Type 0 =
        λ s.
        IsScopeOf (length (rs ++ r ∷ [])) (IsInPhase (rs ++ r ∷ []) m.parallel (λ k. k ≡ number))
        (is_kept new) (IsSettled (rs ++ r ∷ []))
        s in
        subst P (scope_same_in number)
        (scope_moves rs (rs ++ r ∷ []) m.parallel (is_kept old) (is_kept new) (λ k. k ≡ number)
        (phase_in team number).scope grown (back m.parallel) (kept_same' m.parallel)
        (was.going number (omega (arith, e, late))));
    over = λ child has.
        let P : ℕ → Type 0 = λ n. IsInPhase (rs ++ r ∷ []) m.parallel (λ k. k < n) child in
        let Q : ℕ → Type 0 = λ n. IsSettled (rs ++ r ∷ []) n child in
        subst Q (sym changed.greatest)
        (grown.moves.settled child team.greatest
        (was.over child (early (λ k. k < team.over) child (subst P changed.over has))));
    each = λ number p low there child has.
        let e = changed.over in
        grown.moves.settled child p.scope.greatest
        (was.each number p (omega (arith, e, low)) (sym (changed.phases number) ∙ there) child
        (early (λ k. k ≤ number) child has));
  }
    where
      was : IsTeamOf rs (is_kept old) m.parallel team
      was = is.each m.parallel team kept

      early : (is_phase : ℕ → Type 0) (child : ℕ) → IsInPhase (rs ++ r ∷ []) m.parallel is_phase child
          → IsInPhase rs m.parallel is_phase child
      early is_phase child has =
          in_phase_back rs (rs ++ r ∷ []) m.parallel grown (back m.parallel) is_phase child has

      scope_same_in : (number : ℕ) → (phase_in team number).scope ≡ (phase_in enters.after number).scope
      scope_same_in number =
          ap (λ (q : Option Phase). (option_map_or (λ (p : Phase). p) q no_phase).scope)
          (sym (changed.phases number))

  -- where nothing is kept of the team it has no member yet: a team that is over has no room
  empty_before : teams m.parallel ≡ None → members rs m.parallel ≡ []
  empty_before absent = of (members rs m.parallel) refl
    where
      of : (ms : List Membership) → members rs m.parallel ≡ ms → members rs m.parallel ≡ []
      of [] e = e
      of (x ∷ ms) e =
          let has : Contains (members rs m.parallel) x =
          subst (λ l. Contains l x) (sym e) (0, omega arith, refl) in
          let whole = (is.absent m.parallel absent).whole x has in
          let same = fits.same m x joins has in
          let fewer = fits.fewer m joins in
          absurd (omega (arith, whole, same, fewer))

  -- of its first member
  first_list : teams m.parallel ≡ None → members (rs ++ r ∷ []) m.parallel ≡ m ∷ []
  first_list absent = here ∙ ap (λ l. l ++ m ∷ []) (empty_before absent)

  first_childless : teams m.parallel ≡ None → (is_phase : ℕ → Type 0) (child : ℕ)
      → IsInPhase (rs ++ r ∷ []) m.parallel is_phase child → ⊥
  first_childless absent is_phase child (i, parent, member, creates, phase) =
      let there = back m.parallel i parent child member creates in
      let (e, has, same_task) = there.member in
      let (k, low, at_k) = subst (λ ms. Contains ms e) (empty_before absent) has in
      omega (arith, low)

  first_team : teams m.parallel ≡ None → IsFirst m.actual enters.after
      → IsTeamOf (rs ++ r ∷ []) (is_kept new) m.parallel enters.after
  first_team absent first = record {
    actual = λ e has.
        let (k, at_k) = contains_get (m ∷ []) e (subst (λ ms. Contains ms e) (first_list absent) has) in
        let f = first.actual in
        let h = ap (λ (x : Membership). x.actual) (only k at_k) in
        omega (arith, f, h);
    ended = let e = first.ended in omega (arith, e);
    joined = first.joined ∙ sym (ap length (first_list absent));
    begun = λ number p there. absurd (none-some p (sym (first.none number) ∙ there));
    going = λ number late.
        let P : Scope → Type 0 =
        λ s.
        IsScopeOf (length (rs ++ r ∷ [])) (IsInPhase (rs ++ r ∷ []) m.parallel (λ k. k ≡ number))
        (is_kept new) (IsSettled (rs ++ r ∷ []))
        s in
        subst P
        (ap (λ (q : Option Phase). (option_map_or (λ (p : Phase). p) q no_phase).scope)
        (sym (first.none number)))
        (scope_none (length (rs ++ r ∷ [])) (IsInPhase (rs ++ r ∷ []) m.parallel (λ k. k ≡ number))
        (is_kept new)
        (IsSettled (rs ++ r ∷ [])) (λ child has. first_childless absent (λ k. k ≡ number) child has));
    over = λ child has. absurd (first_childless absent (λ k. k < enters.after.over) child has);
    each = λ number p low there. absurd (none-some p (sym (first.none number) ∙ there));
  }
    where
      only : {e : Membership} (k : ℕ) → slice_get (m ∷ []) k ≡ Some e → m ≡ e
      only {e = e} zero here' = same_Some m e here'
      only {e = e} (suc k) there = absurd (none-some e there)

  team_here : (it : Option Team) → teams m.parallel ≡ it
      → IsTeamOf (rs ++ r ∷ []) (is_kept new) m.parallel enters.after
  team_here None e = first_team e (enters.first e)
  team_here (Some team) e = joined_team team e (enters.further team e)

  -- ---- all teams

  rises : TeamsRise rs r teams after_teams
  rises = record {
    kept = λ parallel after there. elim (cases_eq parallel m.parallel) [
      | inl same ↦ of parallel after there same (teams m.parallel) refl
      | inr apart ↦ inl (after, sym (enters.others parallel apart) ∙ there, omega arith)
    ];
    none = λ parallel none'. elim (cases_eq parallel m.parallel) [
      | inl same ↦ absurd (none-some enters.after (sym none' ∙ ap after_teams same ∙ enters.here))
      | inr apart ↦ (sym (enters.others parallel apart) ∙ none', others_same parallel apart)
    ];
  }
    where
      of : (parallel : ℕ) (after : Team) → after_teams parallel ≡ Some after → parallel ≡ m.parallel
          → (it : Option Team) → teams m.parallel ≡ it
          → ((was : Team) × (teams parallel ≡ Some was) × (was.over ≤ after.over))
          ⊎ (members rs parallel ≡ [])
      of parallel after there same None e =
          let P : ℕ → Type 0 = λ t. members rs t ≡ [] in inr (subst P (sym same) (empty_before e))
      of parallel after there same (Some was) e =
          let is_after : enters.after ≡ after =
          same_Some enters.after after (sym enters.here ∙ ap after_teams (sym same) ∙ there) in
          let f = ap (λ (t : Team). t.over) is_after in
          let g = (enters.further was e).over in
          inl (was, ap teams same ∙ e, omega (arith, f, g))

  pub join_teams : AreTeamsBefore (rs ++ r ∷ []) (length rs) new after_teams
  join_teams = record {
    places =
        places rs r m.member (Some m.parallel) old new kin o
        (λ parallel task found member. mate_back parallel task found member)
        (λ parallel task member. mate_forth parallel task member) is.places member_place;
    each = λ parallel after there. elim (cases_eq parallel m.parallel) [
      | inl same ↦
          let e : enters.after ≡ after =
          same_Some enters.after after (sym enters.here ∙ ap after_teams (sym same) ∙ there) in
          let P : ℕ → Type 0 = λ t. IsTeamOf (rs ++ r ∷ []) (is_kept new) t after in
          let Q : Team → Type 0 = λ t. IsTeamOf (rs ++ r ∷ []) (is_kept new) m.parallel t in
          subst P (sym same) (subst Q e (team_here (teams m.parallel) refl))
      | inr apart ↦
          team_moves rs (rs ++ r ∷ []) parallel (is_kept old) (is_kept new) after after grown
          (others_same parallel apart) (back parallel) (kept_same' parallel) (team_same after)
          (is.each parallel after (sym (enters.others parallel apart) ∙ there))
    ];
    absent = λ parallel none'. elim (cases_eq parallel m.parallel) [
      | inl same ↦
          absurd (none-some enters.after (sym none' ∙ ap after_teams same ∙ enters.here))
      | inr apart ↦
          team_over_moves rs (rs ++ r ∷ []) parallel grown.gone (others_same parallel apart)
          (is.absent parallel (sym (enters.others parallel apart) ∙ none'))
    ];
    ends =
        ends_grow rs r old teams after_teams o.follows
        (λ parent child parallel team creates.
        absurd
        (none-some (parent, child) (sym (none rs r m.member (Some m.parallel) old new kin o) ∙ creates)))
        rises is;
  }
