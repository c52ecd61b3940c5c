-- How each phase of a check hands on that no cause so far occurs.
use Rattle.std.proofs.Common.{◌≡◌, ◌∙◌, ℕ, zero, suc, ◌≤◌, ◌&&◌, List, [], ◌∷◌, ◌++◌, Bool, true, false, refl}
use Rattle.std.proofs.Common.{length}
use Rattle.std.proofs.Common.{sym, ap, subst, arith, inl, inr}
use Rattle.std.proofs.Math.Dec.{ltb, leb}
use Rattle.std.proofs.lemmas.Bool.{leb-true, false≢true}
use Rattle.std.proofs.lemmas.List.Elements.{Contains-append_left, Contains-append_right}
use Rattle.std.proofs.lemmas.List.Elements.{Contains-append_cases}
use Rattle.std.specs.Prelude.{◌↔◌, Contains, filter, not}
use Rattle.std.specs.Cmp.{first_so, second_so}
use Rattle.ompt_events.specs.declared.records.Record.{Record}
use Rattle.ompt_events.specs.declared.cause.Cause.{Cause}
use Rattle.ompt_events.specs.declared.fault.Fault.{Fault}
use Rattle.ompt_events.specs.declared.fault.Fault.TheVariants.{Memory, Malformed}
use Rattle.ompt_events.specs.declared.cause.Cause.TheVariants.{NotCurrent, Moved, TurnGap, StatusOrder}
use Rattle.ompt_events.specs.declared.cause.Cause.TheVariants.{RegionOrder, TeamShort, NestedParallel}
use Rattle.ompt_events.specs.declared.cause.Cause.TheVariants.{RegionNesting, DepsPlace, ShareWrong}
use Rattle.ompt_events.specs.CauseNames.{cause_number, all_causes, before}
use Rattle.ompt_events.specs.Causes.{HasCause, IsFreeOf, Shows, ShowsNowhere}
use Rattle.ompt_events.specs.Faults.{IsFault, IsShownFault}
use Rattle.task_tree.specs.Runs.{RunView}
use Rattle.task_tree.specs.Own.{OwnView, IsOwnFault, of_regions, of_teams, of_claims}
use Rattle.task_tree.specs.OwnOrder.{AreAllPlaces}
use Rattle.task_tree.specs.Families.{IsOwnOf}
use Rattle.task_tree.proofs.ShownLemmas.{own_fault, own_free}
use Rattle.task_states.specs.States.{StatesView}
use Rattle.depend_edges.specs.Edges.{EdgesView}
use Rattle.teams.specs.Teams.{TeamsView, IsTeams, own_of}
use Rattle.checker.specs.Search.{IsClear, IsLeastFound, AreStatesOf, AreEdgesOf, IsSoundView}
use Rattle.checker.specs.Search.{state_causes, edge_causes}

-- the causes with greater numbers than this one
abbrev pub beyond : Cause → List Cause
beyond cause = filter (λ other. ltb (cause_number cause) (cause_number other)) all_causes

-- no cause has a smaller number than the one before it, and the first one none than this number
abbrev pub rises : ℕ → List Cause → Bool
rises low [] = true
rises low (c ∷ rest) = leb low (cause_number c) && rises (cause_number c) rest

rising_above : (low : ℕ) (xs : List Cause) (other : Cause) → rises low xs ≡ true → Contains xs other
    → low ≤ cause_number other
rising_above low [] other rising (j, below, is) = absurd (omega arith)
rising_above low (c ∷ rest) other rising (zero, below, is) =
    let P : Cause → Type 0 = λ x. low ≤ cause_number x in
    subst P is
    (leb-true low (cause_number c) (first_so (leb low (cause_number c)) (rises (cause_number c) rest) rising))
rising_above low (c ∷ rest) other rising (suc j, below, is) =
    let first =
    leb-true low (cause_number c)
    (first_so (leb low (cause_number c)) (rises (cause_number c) rest) rising) in
    let above =
    rising_above (cause_number c) rest other
    (second_so (leb low (cause_number c)) (rises (cause_number c) rest) rising) (j, omega arith, is) in
    omega (arith, first, above)

-- a cause behind others has no smaller number than any of them
rising_behind : (low : ℕ) (xs rest : List Cause) (cause other : Cause) → rises low (xs ++ rest) ≡ true
    → Contains xs cause → Contains rest other → cause_number cause ≤ cause_number other
rising_behind low [] rest cause other rising (j, below, is) has = absurd (omega arith)
rising_behind low (c ∷ xs) rest cause other rising (zero, below, is) has =
    let P : Cause → Type 0 = λ x. cause_number x ≤ cause_number other in
    subst P is
    (rising_above (cause_number c) (xs ++ rest) other
    (second_so (leb low (cause_number c)) (rises (cause_number c) (xs ++ rest)) rising)
    (Contains-append_right xs rest other has))
rising_behind low (c ∷ xs) rest cause other rising (suc j, below, is) has =
    rising_behind (cause_number c) xs rest cause other
    (second_so (leb low (cause_number c)) (rises (cause_number c) (xs ++ rest)) rising) (j, omega arith, is)
    has

-- ---- causes that are read in the order of the file

-- the cause is read in the tasks' own order
abbrev pub is_own_cause : Cause → Bool
is_own_cause RegionOrder = true
is_own_cause TeamShort = true
is_own_cause ShareWrong = true
is_own_cause _ = false

-- none of these is
abbrev pub are_of_file : List Cause → Bool
are_of_file [] = true
are_of_file (c ∷ rest) = not (is_own_cause c) && are_of_file rest

-- any other is shown where a record has it
pub of_file_shown : (rs : List Record) (i : ℕ) (cause : Cause) → is_own_cause cause ≡ false
    → Shows rs i cause ↔ HasCause rs i cause
of_file_shown rs i RegionOrder other = absurd (false≢true (sym other))
of_file_shown rs i TeamShort other = absurd (false≢true (sym other))
of_file_shown rs i ShareWrong other = absurd (false≢true (sym other))
of_file_shown rs i _ other = (λ has. has, λ shown. shown)

among_file : (causes : List Cause) (cause : Cause) → are_of_file causes ≡ true → Contains causes cause
    → is_own_cause cause ≡ false
among_file [] cause all (k, below, is) = absurd (omega (arith, below))
among_file (c ∷ rest) cause all (zero, below, is) =
    ap is_own_cause (sym is)
    ∙ negated (is_own_cause c) (first_so (not (is_own_cause c)) (are_of_file rest) all)
  where
    negated : (b : Bool) → not b ≡ true → b ≡ false
    negated false h = refl
    negated true h = absurd (false≢true h)
among_file (c ∷ rest) cause all (suc k, below, is) =
    among_file rest cause (second_so (not (is_own_cause c)) (are_of_file rest) all)
    (k, omega (arith, below), is)

-- so a fault of the file is what the trace shows
pub fault_shown : (rs : List Record) (sought : List Cause) (fault : Fault) → are_of_file sought ≡ true
    → IsFault rs sought fault → IsShownFault rs sought fault
fault_shown rs sought Memory all is = tt
fault_shown rs sought (Malformed i cause) all is = record {
  sought_for = is.sought_for;
  found = record {
    within = is.found.within;
    shown = (of_file_shown rs i cause own).1 is.found.has;
    first = λ k below shown. is.found.first k below ((of_file_shown rs k cause own).0 shown);
  };
  least =
      λ other has less k shown.
      is.least other has less k ((of_file_shown rs k other (among_file sought other all has)).0 shown);
}
  where
    own : is_own_cause cause ≡ false
    own = among_file sought cause all is.sought_for

-- ---- from phase to phase

-- a search for some causes, once those before them do not occur: it finds the least of these all
pub shown_more : (rs : List Record) (all cleared sought rest : List Cause) (fault : Fault)
    → all ≡ (cleared ++ sought) ++ rest → rises 0 all ≡ true → IsClear rs cleared
    → IsShownFault rs sought fault → IsShownFault rs all fault
shown_more rs all cleared sought rest Memory parts rise clear found = tt
shown_more rs all cleared sought rest (Malformed i cause) parts rise clear found = record {
  sought_for =
      whole cause
      (Contains-append_left (cleared ++ sought) rest cause
      (Contains-append_right cleared sought cause found.sought_for));
  found = found.found;
  least = λ other has less. elim (Contains-append_cases (cleared ++ sought) rest other (part other has)) [
    | inl among ↦ elim (Contains-append_cases cleared sought other among) [
      | inl earlier ↦ clear other earlier
      | inr same ↦ found.least other same less
    ]
    | inr later ↦
        absurd
        (let more =
        rising_behind 0 (cleared ++ sought) rest cause other rising
        (Contains-append_right cleared sought cause found.sought_for) later in
        omega (arith, more, less))
  ];
}
  where
    whole : (other : Cause) → Contains ((cleared ++ sought) ++ rest) other → Contains all other
    whole other has = let P : List Cause → Type 0 = λ l. Contains l other in subst P (sym parts) has

    part : (other : Cause) → Contains all other → Contains ((cleared ++ sought) ++ rest) other
    part other has = let P : List Cause → Type 0 = λ l. Contains l other in subst P parts has

    rising : rises 0 ((cleared ++ sought) ++ rest) ≡ true
    rising = let P : List Cause → Type 0 = λ l. rises 0 l ≡ true in subst P parts rise

-- and a phase that of all causes
pub least_more : (rs : List Record) (cleared sought rest : List Cause) (fault : Fault)
    → all_causes ≡ (cleared ++ sought) ++ rest → IsClear rs cleared → IsShownFault rs sought fault
    → IsLeastFound rs fault
least_more rs cleared sought rest fault parts clear found =
    shown_more rs all_causes cleared sought rest fault parts refl clear found

-- or they do not occur either
pub clear_more : (rs : List Record) (cleared sought : List Cause) → IsClear rs cleared → IsClear rs sought
    → IsClear rs (cleared ++ sought)
clear_more rs cleared sought before here cause among =
    elim (Contains-append_cases cleared sought cause among) [
      | inl earlier ↦ before cause earlier
      | inr part ↦ here cause part
    ]

-- causes one by one
pub none_clear : (rs : List Record) → IsClear rs []
none_clear rs other (k, below, is) = absurd (omega arith)

pub one_clear : (rs : List Record) (cause : Cause) (rest : List Cause) → ShowsNowhere rs cause
    → IsClear rs rest → IsClear rs (cause ∷ rest)
one_clear rs cause rest free clear other (zero, below, is) =
    let P : Cause → Type 0 = ShowsNowhere rs in subst P is free
one_clear rs cause rest free clear other (suc k, below, is) = clear other (k, omega arith, is)

pub only_clear : (rs : List Record) (cause : Cause) → ShowsNowhere rs cause → IsClear rs (cause ∷ [])
only_clear rs cause free = one_clear rs cause [] free (none_clear rs)

-- what is clear after each phase: the causes of regions, teams and claims are read in the tasks' own order
pub states_clear : (rs : List Record) (own : OwnView) → IsOwnOf rs own → IsFreeOf rs NotCurrent
    → IsFreeOf rs Moved → IsFreeOf rs TurnGap → IsFreeOf rs StatusOrder → IsFreeOf own.run.records RegionOrder
    → IsClear rs state_causes
states_clear rs own of current stay gapless ordered closed =
    let regions = own_free rs own RegionOrder of_regions of closed in
    one_clear rs NotCurrent (Moved ∷ TurnGap ∷ StatusOrder ∷ RegionOrder ∷ []) current
    (one_clear rs Moved (TurnGap ∷ StatusOrder ∷ RegionOrder ∷ []) stay
    (one_clear rs TurnGap (StatusOrder ∷ RegionOrder ∷ []) gapless
    (one_clear rs StatusOrder (RegionOrder ∷ []) ordered (only_clear rs RegionOrder regions))))

pub teams_clear : (rs : List Record) (own : OwnView) → IsOwnOf rs own → IsClear rs (before TeamShort)
    → IsFreeOf own.run.records TeamShort → IsClear rs (before NestedParallel)
teams_clear rs own of clear whole =
    clear_more rs (before TeamShort) (TeamShort ∷ []) clear
    (only_clear rs TeamShort (own_free rs own TeamShort of_teams of whole))

pub edges_clear : (rs : List Record) (own : OwnView) → IsOwnOf rs own → IsFreeOf rs NestedParallel
    → IsFreeOf rs RegionNesting → IsFreeOf rs DepsPlace → IsFreeOf own.run.records ShareWrong
    → IsClear rs edge_causes
edges_clear rs own of flat inside placed claims =
    one_clear rs NestedParallel (RegionNesting ∷ DepsPlace ∷ ShareWrong ∷ []) flat
    (one_clear rs RegionNesting (DepsPlace ∷ ShareWrong ∷ []) inside
    (one_clear rs DepsPlace (ShareWrong ∷ []) placed
    (only_clear rs ShareWrong (own_free rs own ShareWrong of_claims of claims))))

-- two views of a run in its tasks' own order with the same run and the same places are the same
pub same_own : (own other : OwnView) → own.run ≡ other.run → own.places ≡ other.places → own ≡ other
same_own own other run places =
    let with_run : RunView → OwnView = λ run. record { run = run; places = own.places } in
    let with_places : List ℕ → OwnView = λ places. record { run = other.run; places = places } in
    ap with_run run ∙ ap with_places places

-- where none of the causes that a phase looks for occurs, it fails for memory alone
pub memory_alone : (rs : List Record) (sought : List Cause) (fault : Fault) → IsClear rs sought
    → IsShownFault rs sought fault → fault ≡ Memory
memory_alone rs sought Memory clear found = refl
memory_alone rs sought (Malformed i cause) clear found =
    absurd (clear cause found.sought_for i found.found.shown)

-- ---- from phase to phase of a run

-- a fault of the states is the least cause
pub states_least : (rs : List Record) (run : RunView) (fault : Fault) → run.records ≡ rs
    → IsClear rs (before NotCurrent) → IsShownFault run.records state_causes fault → IsLeastFound rs fault
states_least rs run fault of_file clear found =
    least_more rs (before NotCurrent) state_causes (beyond RegionOrder) fault refl clear
    (rw of_file at found)

-- what is clear once they are made
made_states : (rs : List Record) (run : RunView) (own : OwnView) (states : StatesView) → run.records ≡ rs
    → IsClear rs (before NotCurrent) → AreStatesOf run own states → IsClear rs (before TeamShort)
made_states rs run own states of_file clear made =
    clear_more rs (before NotCurrent) state_causes clear (rw of_file at made.clear)

-- a fault of the teams then
pub teams_least : (rs : List Record) (run : RunView) (own : OwnView) (states : StatesView) (fault : Fault)
    → run.records ≡ rs → IsOwnOf rs own → IsClear rs (before NotCurrent) → AreStatesOf run own states
    → IsOwnFault states.regions.own TeamShort fault → IsLeastFound rs fault
teams_least rs run own states fault of_file is_own clear made found =
    let places : AreAllPlaces own.places (length own.run.records) =
    rw made.of_own at made.are.regions.own.places in
    least_more rs (before TeamShort) (TeamShort ∷ []) (beyond TeamShort) fault refl
    (made_states rs run own states of_file clear made)
    (own_fault rs own TeamShort fault of_teams is_own places (rw made.of_own at found))

-- what is clear once the teams are made
made_teams : (rs : List Record) (run : RunView) (own : OwnView) (states : StatesView) (teams : TeamsView)
    → run.records ≡ rs → IsOwnOf rs own → IsClear rs (before NotCurrent) → AreStatesOf run own states
    → teams.run ≡ states.regions.own.run → IsTeams teams → IsClear rs (before NestedParallel)
made_teams rs run own states teams of_file is_own clear made same are =
    teams_clear rs own is_own (made_states rs run own states of_file clear made)
    (rw (same, made.of_own) at are.whole)

-- a fault of the edges then
pub edges_least : (rs : List Record) (run : RunView) (own : OwnView) (states : StatesView) (teams : TeamsView)
    (fault : Fault)
    → run.records ≡ rs → IsOwnOf rs own → IsClear rs (before NotCurrent) → AreStatesOf run own states
    → teams.run ≡ states.regions.own.run → IsTeams teams → IsShownFault run.records edge_causes fault
    → IsLeastFound rs fault
edges_least rs run own states teams fault of_file is_own clear made same are found =
    least_more rs (before NestedParallel) edge_causes (beyond ShareWrong) fault refl
    (made_teams rs run own states teams of_file is_own clear made same are) (rw of_file at found)

-- and if the edges are made, the run is sound
pub made_sound : (rs : List Record) (run : RunView) (own : OwnView) (states : StatesView) (teams : TeamsView)
    (edges : EdgesView)
    → run.records ≡ rs → IsOwnOf rs own → IsClear rs (before NotCurrent) → AreStatesOf run own states
    → teams.run ≡ states.regions.own.run → teams.places ≡ states.regions.own.places → IsTeams teams
    → AreEdgesOf run own edges
    → IsSoundView (record { run = run; own = own_of teams }) × (run.records ≡ rs) × (edges.run ≡ teams.run)
made_sound rs run own states teams edges of_file is_own clear made same_run same_places are edges_made =
    let with_own = rw made.of_own at same_run in
    let same : own_of teams ≡ own = same_own (own_of teams) own with_own (rw made.of_own at same_places) in (
      record {
        sound = record {
          is_run = rw made.of_run at made.are.run;
          clear = rw of_file
              (clear_more rs (before NestedParallel) edge_causes
              (made_teams rs run own states teams of_file is_own clear made same_run are)
              (rw of_file at edges_made.clear));
        };
        one = record {
          is_own = are.placed;
          of_file = rw (same, of_file) is_own;
        };
      },
      of_file,
      rw (edges_made.of_run, with_own) refl,
    )
