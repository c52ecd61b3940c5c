-- What stays of a team where the records grow, or what is kept of tasks changes.
use Rattle.std.proofs.Common.{◌≡◌, ◌∙◌, ℕ, zero, suc, ◌<◌, ◌≤◌, ◌+◌, Bool, true, false, List, []}
use Rattle.std.proofs.Common.{◌∷◌, ◌++◌, length, Option, Some, None, refl, sym, ap, subst, arith, inl, inr}
use Rattle.std.specs.Prelude.{slice_get, Contains, nat_lt, if◌then◌else◌}
use Rattle.std.specs.Option.{option_map_or}
use Rattle.std.proofs.lemmas.Bool.{cases_lt, lt-ltb, le-ltb}
use Rattle.std.proofs.lemmas.Bool.{ltb-true}
use Rattle.std.proofs.lemmas.Option.{none-some, same_Some}
use Rattle.std.proofs.lemmas.List.{length_push}
use Rattle.ompt_events.specs.declared.records.Record.{Record}
use Rattle.ompt_events.specs.declared.records.Membership.{Membership}
use Rattle.ompt_events.specs.Records.{joined, begun_initial, creation, region}
use Rattle.ompt_events.specs.Tree.{IsCreatedAt}
use Rattle.ompt_events.specs.Teams.{members, IsInitial}
use Rattle.ompt_events.specs.Regions.{barrier_begun}
use Rattle.ompt_events.proofs.PlaceLemmas.{at_within}
use Rattle.online.specs.declared.scope.Scope.{Scope}
use Rattle.online.specs.declared.kin.Kin.{Kin}
use Rattle.online.specs.declared.phase.Phase.{Phase}
use Rattle.online.specs.declared.team.Team.{Team}
use Rattle.online.specs.Waits.{IsScopeOf, IsSettled, KeepsTold, is_kept, MayFollow}
use Rattle.online.specs.Teams.{no_phase, phase_in, IsSameTeam, phase_at, ahead, IsMemberOf}
use Rattle.online.specs.Teams.{IsInTeams, IsInPhase, AreSettledUpTo, IsTeamOf, AreEndsOver, AreTeamsBefore}
use Rattle.online.specs.Teams.{AreTeamsOf, gone_of}
use Rattle.online.proofs.ScopeLemmas.{scope_same}
use Rattle.online.proofs.GrowLemmas.{IsByLive, said_grows, said_before}
use Rattle.online.proofs.KinLemmas.{Moves, moves_same, moves_grows}
use Rattle.online.proofs.StayLemmas.{by_none}
use Rattle.online.proofs.PhaseLemmas.{phase_rises, phase_same, phase_stays, members_stay}
use Rattle.online.proofs.GoneLemmas.{StaysGone, gone_grows, gone_rises, team_over_moves}
use Rattle.online.proofs.EndedLemmas.{ends_grow, teams_stay}

-- ---- records that grow

pub record Grows (rs more : List Record) : Type 0 where
  pub moves : Moves rs more
  pub phases : (task i : ℕ) → i ≤ length rs → phase_at more task i ≡ phase_at rs task i
  pub now : (task : ℕ) → phase_at rs task (length rs) ≤ phase_at more task (length more)
  pub initial : (task : ℕ) → IsInitial rs task → IsInitial more task
  pub gone : StaysGone rs more

pub grows_same : (rs : List Record) → Grows rs rs
grows_same rs = record {
  moves = moves_same rs;
  phases = λ task i most. refl;
  now = λ task. omega arith;
  initial = λ task is. is;
  gone = λ task gone. gone;
}

pub grows_one : (rs : List Record) (r : Record) → IsByLive rs r → Grows rs (rs ++ r ∷ [])
grows_one rs r live = record {
  moves = moves_grows rs r live;
  phases = λ task i most. phase_same rs r task i most;
  now = λ task.
      let e = ap (phase_at (rs ++ r ∷ []) task) (length_push rs r) in
      let f = phase_rises (rs ++ r ∷ []) task (length rs) 1 in
      let g = phase_same rs r task (length rs) (omega arith) in
      omega (arith, e, f, g);
  initial = λ task is. let (i, says) = is in (i, said_grows begun_initial rs r i task says);
  gone = λ task gone. gone_grows rs r task gone;
}

-- ---- how many are ahead

pub ahead_rises : (rs more : List Record) → Grows rs more → (ms : List Membership) (number : ℕ)
    → ahead rs ms number ≤ ahead more ms number
ahead_rises rs more grows [] number = omega arith
ahead_rises rs more grows (m ∷ ms) number =
    of (nat_lt number (phase_at rs m.member (length rs))) refl (ahead_rises rs more grows ms number)
  where
    of : (b : Bool) → nat_lt number (phase_at rs m.member (length rs)) ≡ b
        → ahead rs ms number ≤ ahead more ms number
        → (if b then 1 else 0) + ahead rs ms number ≤ ahead more (m ∷ ms) number
    of false e rest = omega (arith, rest)
    of true e rest =
        let less = ltb-true number (phase_at rs m.member (length rs)) e in
        let rises = grows.now m.member in
        one
        (lt-ltb number (phase_at more m.member (length more)) (omega (arith, less, rises))) rest
      where
        one : nat_lt number (phase_at more m.member (length more)) ≡ true
            → ahead rs ms number ≤ ahead more ms number
            → 1 + ahead rs ms number ≤ ahead more (m ∷ ms) number
        one is rest' =
            let f : Bool → ℕ = λ t. (if t then 1 else 0) + ahead more ms number in
            let e' : ahead more (m ∷ ms) number ≡ 1 + ahead more ms number = ap f is in
            omega (arith, e', rest')

pub ahead_most : (rs : List Record) (ms : List Membership) (number : ℕ) → ahead rs ms number ≤ length ms
ahead_most rs [] number = omega arith
ahead_most rs (m ∷ ms) number =
    of (nat_lt number (phase_at rs m.member (length rs))) (ahead_most rs ms number)
  where
    of : (b : Bool) → ahead rs ms number ≤ length ms
        → (if b then 1 else 0) + ahead rs ms number ≤ length (m ∷ ms)
    of true most = omega (arith, most)
    of false most = omega (arith, most)

pub ahead_push : (rs : List Record) (ms : List Membership) (m : Membership) (number : ℕ)
    → ahead rs ms number ≤ ahead rs (ms ++ m ∷ []) number
ahead_push rs [] m number = omega arith
ahead_push rs (e ∷ ms) m number =
    let rest = ahead_push rs ms m number in
    of (nat_lt number (phase_at rs e.member (length rs))) rest
  where
    of : (b : Bool) → ahead rs ms number ≤ ahead rs (ms ++ m ∷ []) number
        → (if b then 1 else 0) + ahead rs ms number
        ≤ (if b then 1 else 0) + ahead rs (ms ++ m ∷ []) number
    of true rest = omega (arith, rest)
    of false rest = omega (arith, rest)

-- the values for one member
ahead_yes : (rs : List Record) (m : Membership) (ms : List Membership) (number : ℕ)
    → number < phase_at rs m.member (length rs) → ahead rs (m ∷ ms) number ≡ 1 + ahead rs ms number
ahead_yes rs m ms number less =
    ap (λ t. (if t then 1 else 0) + ahead rs ms number)
    (lt-ltb number (phase_at rs m.member (length rs)) less)

ahead_no : (rs : List Record) (m : Membership) (ms : List Membership) (number : ℕ)
    → phase_at rs m.member (length rs) ≤ number → ahead rs (m ∷ ms) number ≡ 0 + ahead rs ms number
ahead_no rs m ms number most =
    ap (λ t. (if t then 1 else 0) + ahead rs ms number)
    (le-ltb number (phase_at rs m.member (length rs)) most)

-- one member more is ahead
pub ahead_more : (rs more : List Record) → Grows rs more → (ms : List Membership) (m : Membership)
    (number k : ℕ) → slice_get ms k ≡ Some m → phase_at rs m.member (length rs) ≤ number
    → number < phase_at more m.member (length more) → ahead rs ms number + 1 ≤ ahead more ms number
ahead_more rs more grows [] m number k at_k most less = absurd (none-some m at_k)
ahead_more rs more grows (e ∷ ms) m number zero at_k most less =
    let same : e ≡ m = same_Some e m at_k in
    let P : Membership → Type 0 = λ x. phase_at rs x.member (length rs) ≤ number in
    let Q : Membership → Type 0 = λ x. number < phase_at more x.member (length more) in
    let no = ahead_no rs e ms number (subst P (sym same) most) in
    let yes = ahead_yes more e ms number (subst Q (sym same) less) in
    let rest = ahead_rises rs more grows ms number in
    omega (arith, no, yes, rest)
ahead_more rs more grows (e ∷ ms) m number (suc k) at_k most less =
    let rest = ahead_more rs more grows ms m number k at_k most less in
    elim (cases_lt number (phase_at rs e.member (length rs))) [
      | inl before ↦
          let rises = grows.now e.member in
          let was = ahead_yes rs e ms number before in
          let now = ahead_yes more e ms number (omega (arith, before, rises)) in
          omega (arith, rest, was, now)
      | inr behind ↦
          let was = ahead_no rs e ms number behind in
          elim (cases_lt number (phase_at more e.member (length more))) [
            | inl later ↦ let now = ahead_yes more e ms number later in omega (arith, rest, was, now)
            | inr still ↦ let now = ahead_no more e ms number still in omega (arith, rest, was, now)
          ]
    ]

-- where as many are ahead as there are, all are
pub ahead_all : (rs : List Record) (ms : List Membership) (number : ℕ) → length ms ≤ ahead rs ms number
    → (m : Membership) (k : ℕ) → slice_get ms k ≡ Some m → number < phase_at rs m.member (length rs)
ahead_all rs [] number all m k at_k = absurd (none-some m at_k)
ahead_all rs (e ∷ ms) number all m k at_k = elim (cases_lt number (phase_at rs e.member (length rs))) [
  | inl less ↦
      let was = ahead_yes rs e ms number less in
      let rest : length ms ≤ ahead rs ms number = omega (arith, all, was) in
      of k at_k less (λ j there. ahead_all rs ms number rest m j there)
  | inr most ↦
      let was = ahead_no rs e ms number most in
      let few = ahead_most rs ms number in
      absurd (omega (arith, all, was, few))
]
  where
    of : (j : ℕ) → slice_get (e ∷ ms) j ≡ Some m → number < phase_at rs e.member (length rs)
        → ((i : ℕ) → slice_get ms i ≡ Some m → number < phase_at rs m.member (length rs))
        → number < phase_at rs m.member (length rs)
    of zero here less rest =
        let P : Membership → Type 0 = λ x. number < phase_at rs x.member (length rs) in
        subst P (same_Some e m here) less
    of (suc j) there less rest = rest j there

-- ---- what stays of a team

pub team_same : (t : Team) → IsSameTeam t t
team_same t = record {
  keeps = record { actual = refl; joined = refl; ended = refl; over = refl; greatest = refl };
  phases = λ number. refl;
}

-- who is a child of a member by the longer list, in a phase
pub record IsBack (rs more : List Record) (parallel i parent child : ℕ) : Type 0 where
  pub member : IsMemberOf rs parallel parent
  pub creates : IsCreatedAt rs i parent child

abbrev pub AreBack : List Record → List Record → ℕ → Type 0
AreBack rs more parallel =
    (i parent child : ℕ) → IsMemberOf more parallel parent → IsCreatedAt more i parent child
    → IsBack rs more parallel i parent child

-- the children of members are kept the same
abbrev pub AreKept : List Record → ℕ → (ℕ → Bool) → (ℕ → Bool) → Type 0
AreKept rs parallel old new =
    (i parent child : ℕ) → IsMemberOf rs parallel parent → IsCreatedAt rs i parent child
    → new child ≡ old child

pub phase_back : (rs more : List Record) → Grows rs more → (i parent child : ℕ)
    → IsCreatedAt rs i parent child
    → phase_at more parent i ≡ phase_at rs parent i
phase_back rs more grows i parent child creates =
    let low = at_within creation rs i (parent, child) creates in
    grows.phases parent i (omega (arith, low))

pub in_phase_back : (rs more : List Record) (parallel : ℕ) → Grows rs more → AreBack rs more parallel
    → (is_phase : ℕ → Type 0) (child : ℕ) → IsInPhase more parallel is_phase child
    → IsInPhase rs parallel is_phase child
in_phase_back rs more parallel grows back is_phase child (i, parent, member, creates, phase) =
    let there = back i parent child member creates in (
      i,
      parent,
      there.member,
      there.creates,
      subst is_phase (phase_back rs more grows i parent child there.creates) phase,
    )

pub scope_moves : (rs more : List Record) (parallel : ℕ) (old new : ℕ → Bool) (is_phase : ℕ → Type 0)
    (s : Scope) → Grows rs more → AreBack rs more parallel → AreKept rs parallel old new
    → IsScopeOf (length rs) (IsInPhase rs parallel is_phase) old (IsSettled rs) s
    → IsScopeOf (length more) (IsInPhase more parallel is_phase) new (IsSettled more) s
scope_moves rs more parallel old new is_phase s grows back kept is =
    scope_same (length rs) (length more) (IsInPhase rs parallel is_phase) (IsInPhase more parallel
    is_phase) old
    new (IsSettled rs) (IsSettled more) s is grows.moves.longer
    (λ child has. in_phase_back rs more parallel grows back is_phase child has)
    (λ child has. of child (in_phase_back rs more parallel grows back is_phase child has))
    (λ child n has late. grows.moves.settled child n late)
  where
    of : (child : ℕ) → IsInPhase rs parallel is_phase child → new child ≡ old child
    of child (i, parent, member, creates, phase) = kept i parent child member creates

pub settled_moves : (rs more : List Record) (parallel number n : ℕ) → Grows rs more → AreBack rs more parallel
    → AreSettledUpTo rs parallel number n → AreSettledUpTo more parallel number n
settled_moves rs more parallel number n grows back is child has =
    grows.moves.settled child n
    (is child (in_phase_back rs more parallel grows back (λ k. k ≤ number) child has))

pub team_moves : (rs more : List Record) (parallel : ℕ) (old new : ℕ → Bool) (was after : Team)
    → Grows rs more → members more parallel ≡ members rs parallel → AreBack rs more parallel
    → AreKept rs parallel old new → IsSameTeam was after → IsTeamOf rs old parallel was
    → IsTeamOf more new parallel after
team_moves rs more parallel old new was after grows same back kept stays is = record {
  actual = λ m has.
      let e = stays.keeps.actual in
      let h = is.actual m (subst (λ ms. Contains ms m) same has) in
      omega (arith, e, h);
  ended =
      let e = stays.keeps.ended in
      let f = ap (gone_of more) same in
      let h = is.ended in
      let k = gone_rises rs more grows.gone (members rs parallel) in
      omega (arith, e, f, h, k);
  joined = stays.keeps.joined ∙ is.joined ∙ ap length (sym same);
  begun = λ number p kept'.
      let h = is.begun number p (sym (stays.phases number) ∙ kept') in
      let f = ap (λ ms. ahead more ms number) same in
      let k = ahead_rises rs more grows (members rs parallel) number in
      omega (arith, f, h, k);
  going = λ number late.
      let e = stays.keeps.over in
      let P : Option Phase → Type 0 =
      λ o.
      IsScopeOf (length more) (IsInPhase more parallel (λ k. k ≡ number)) new (IsSettled more)
      (option_map_or (λ (p : Phase). p) o no_phase).scope in
      subst P (sym (stays.phases number))
      (scope_moves rs more parallel old new (λ k. k ≡ number) (phase_in was number).scope grows back kept
      (is.going number (omega (arith, late, e))));
  over = λ child has.
      let P : ℕ → Type 0 = λ n. IsSettled more n child in
      let Q : ℕ → Type 0 = λ n. IsInPhase more parallel (λ k. k < n) child in
      subst P (sym stays.keeps.greatest)
      (grows.moves.settled child was.greatest
      (is.over child
      (in_phase_back rs more parallel grows back (λ k. k < was.over) child (subst Q stays.keeps.over has))));
  each = λ number p low kept' child has.
      let e = stays.keeps.over in
      settled_moves rs more parallel number p.scope.greatest grows back
      (is.each number p (omega (arith, low, e)) (sym (stays.phases number) ∙ kept')) child has;
}

-- ---- what stays of a task

pub record TellsSame (rs more : List Record) (task : ℕ) : Type 0 where
  pub own : (i parent : ℕ) → IsCreatedAt more i parent task → IsCreatedAt rs i parent task
  pub barriers : phase_at more task (length more) ≡ phase_at rs task (length rs)
  pub back : (parallel : ℕ) → IsMemberOf more parallel task → IsMemberOf rs parallel task
  pub forth : (parallel other : ℕ) → IsMemberOf rs parallel other → IsMemberOf more parallel other
  pub above : (i parent parallel : ℕ) → IsCreatedAt rs i parent task → IsMemberOf more parallel parent
      → IsMemberOf rs parallel parent

pub tells_moves : (rs more : List Record) (task : ℕ) (was after : Kin) → Grows rs more
    → TellsSame rs more task → was.parent ≡ after.parent → KeepsTold was after → IsInTeams rs task was
    → IsInTeams more task after
tells_moves rs more task was after grows same parents keeps is = record {
  barriers = keeps.barriers ∙ is.barriers ∙ sym same.barriers;
  team = λ parallel member. keeps.team ∙ is.team parallel (same.back parallel member);
  member = λ parallel e. same.forth parallel task (is.member parallel (sym keeps.team ∙ e));
  initial = λ none alone. grows.initial task (is.initial (parents ∙ none) (sym keeps.team ∙ alone));
  phase = λ i parent creates.
      let here = same.own i parent creates in
      keeps.phase ∙ is.phase i parent here ∙ sym (phase_back rs more grows i parent task here);
  parent_team = λ i parent parallel creates member.
      let here = same.own i parent creates in
      keeps.parent_team ∙ is.parent_team i parent parallel here (same.above i parent parallel here member);
  parent_member = λ parallel e.
      let (i, parent, creates, member) = is.parent_member parallel (sym keeps.parent_team ∙ e) in
      (i, parent, grows.moves.creates i parent task creates, same.forth parallel parent member);
}

pub told_same : (was : Kin) → KeepsTold was was
told_same was = record { team = refl; parent_team = refl; phase = refl; barriers = refl }

-- ---- all teams, where no task is made, created or joins, and no barrier begins

-- what is kept of a task was kept before, with what it was told
abbrev pub IsToldBefore : (ℕ → Option Kin) → ℕ → Kin → Type 0
IsToldBefore old task after =
    (was : Kin) × (old task ≡ Some was) × (was.parent ≡ after.parent) × KeepsTold was after

pub teams_move : (rs more : List Record) (m n : ℕ) (old new : ℕ → Option Kin) (teams : ℕ → Option Team)
    → Grows rs more → ((parallel : ℕ) → members more parallel ≡ members rs parallel)
    → ((i parent child : ℕ) → IsCreatedAt more i parent child → IsCreatedAt rs i parent child)
    → ((task : ℕ) (after : Kin) → new task ≡ Some after
    → phase_at more task (length more) ≡ phase_at rs task (length rs))
    → ((task : ℕ) (after : Kin) → new task ≡ Some after → IsToldBefore old task after)
    → ((task : ℕ) → is_kept new task ≡ is_kept old task) → AreEndsOver more n teams
    → AreTeamsBefore rs m old teams → AreTeamsBefore more n new teams
teams_move rs more m n old new teams grows same back barriers told kept ends is = record {
  places = λ task after there.
      let (was, found, parents, keeps) = told task after there in
      tells_moves rs more task was after grows (tells task (barriers task after there)) parents keeps
      (is.places task was found);
  each = λ parallel team there.
      team_moves rs more parallel (is_kept old) (is_kept new) team team grows (same parallel)
      (λ i parent child member creates.
      record { member = member_back parallel parent member; creates = back i parent child creates })
      (λ i parent child member creates. kept child) (team_same team) (is.each parallel team there);
  absent = λ parallel none.
      team_over_moves rs more parallel grows.gone (same parallel) (is.absent parallel none);
  ends = ends;
}
  where
    member_back : (parallel task : ℕ) → IsMemberOf more parallel task → IsMemberOf rs parallel task
    member_back parallel task (m, has, e) = (m, subst (λ ms. Contains ms m) (same parallel) has, e)

    member_forth : (parallel task : ℕ) → IsMemberOf rs parallel task → IsMemberOf more parallel task
    member_forth parallel task (m, has, e) = (m, subst (λ ms. Contains ms m) (sym (same parallel)) has, e)

    tells : (task : ℕ) → phase_at more task (length more) ≡ phase_at rs task (length rs)
        → TellsSame rs more task
    tells task same_barriers = record {
      own = λ i parent creates. back i parent task creates;
      barriers = same_barriers;
      back = λ parallel member. member_back parallel task member;
      forth = λ parallel other member. member_forth parallel other member;
      above = λ i parent parallel creates member. member_back parallel parent member;
    }

-- a record that says nothing of these
pub record IsSilent (r : Record) : Type 0 where
  pub creates : creation r.body ≡ None
  pub joins : joined r.body ≡ None
  pub begins : barrier_begun (region r.body) ≡ None

pub teams_grow : (rs : List Record) (r : Record) (old new : ℕ → Option Kin) (teams : ℕ → Option Team)
    → MayFollow rs r → IsSilent r
    → ((task : ℕ) (after : Kin) → new task ≡ Some after → IsToldBefore old task after)
    → ((task : ℕ) → is_kept new task ≡ is_kept old task) → AreTeamsOf rs old teams
    → AreTeamsBefore (rs ++ r ∷ []) (length rs) new teams
teams_grow rs r old new teams follows silent told kept is =
    teams_move rs (rs ++ r ∷ []) (length rs) (length rs) old new teams
    (grows_one rs r (by_none rs r silent.creates)) same
    (λ i parent child. said_before creation rs r silent.creates i (parent, child))
    (λ task after there. phase_stays rs r task (λ e. none-some task (sym silent.begins ∙ e))) told kept
    (ends_grow rs r old teams teams follows
    (λ parent child parallel team creates member found.
    absurd (none-some (parent, child) (sym silent.creates ∙ creates)))
    (teams_stay rs r teams same) is)
    is
  where
    same : (parallel : ℕ) → members (rs ++ r ∷ []) parallel ≡ members rs parallel
    same parallel =
        members_stay rs r parallel (λ m joins. absurd (none-some m (sym silent.joins ∙ joins)))

pub teams_same : (rs : List Record) (n : ℕ) (old new : ℕ → Option Kin) (teams : ℕ → Option Team)
    → ((task : ℕ) (after : Kin) → new task ≡ Some after → IsToldBefore old task after)
    → ((task : ℕ) → is_kept new task ≡ is_kept old task) → AreTeamsBefore rs n old teams
    → AreTeamsBefore rs n new teams
teams_same rs n old new teams told kept is =
    teams_move rs rs n n old new teams (grows_same rs) (λ parallel. refl) (λ i parent child creates. creates)
    (λ task after there. refl) told kept is.ends is
