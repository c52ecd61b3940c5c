-- What a thread runs is the same in version 2 and in version 3, where in neither a region or a root begins
-- where it may not: the task that ran when a root began is the root below it.
use Rattle.std.proofs.Common.{◌≡◌, ◌≢◌, ◌∙◌, ℕ, ◌+◌, List, [], ◌∷◌, ◌++◌, Option, Some}
use Rattle.std.proofs.Common.{None, Bool, true, false, get_or, drop, refl, sym, ap, map, subst, arith, inl}
use Rattle.std.proofs.Common.{inr, ◌⊎◌}
use Rattle.std.proofs.lemmas.Option.{none-some, slice_get-map, slice_get_cases}
use Rattle.std.proofs.lemmas.List.Sums.{fold_push}
use Rattle.std.specs.Prelude.{◌==◌, slice_get, option_map, take, filter, fold, if◌then◌else◌}
use Rattle.std.specs.Option.{option_map_or}
use Rattle.ompt_events.specs.declared.records.Record.{Record}
use Rattle.ompt_events.specs.declared.records.Body.{Body}
use Rattle.ompt_events.specs.declared.records.Body.TheVariants.{ImplicitTask, TaskSchedule}
use Rattle.ompt_events.specs.declared.records.Membership.{Membership}
use Rattle.ompt_events.specs.declared.names.Endpoint.TheVariants.{Begin, End}
use Rattle.ompt_events.specs.declared.cause.Cause.TheVariants.{NotCurrent, NestedParallel, RegionNesting}
use Rattle.ompt_events.specs.Names.{demands_next}
use Rattle.ompt_events.specs.Flags as flag
use Rattle.ompt_events.specs.Flags.{has_flag}
use Rattle.ompt_events.specs.Records.{begun_root, begun_initial, joined, forked, running, started}
use Rattle.ompt_events.specs.Places.{at, thread_at, nests_at}
use Rattle.ompt_events.specs.Tree.{IsRoot}
use Rattle.ompt_events.specs.Teams.{IsInitial}
use Rattle.ompt_events.specs.Threads.{Walk, at_start, after_body, after_record, walk_of}
use Rattle.ompt_events.specs.Causes.{IsFreeOf, HasBegun, initial_inside, forked_inside, other_region}
use Rattle.ompt_events.specs.Causes.{nested_parallel, region_nesting}
use Rattle.ompt_events.specs.Upgrades.{nesting}
use Rattle.ompt_events.proofs.ListLemmas.{take_past}
use Rattle.ompt_events.proofs.PlaceLemmas.{at_get, get_at}
use Rattle.ompt_events.proofs.RecordLemmas.{initial_begun}
use Rattle.task_tree.proofs.SuspendedLemmas.{runs_there, part_of, part_own, part_other, part_keeps}
use Rattle.checker.proofs.TurnWalkLemmas.{same_option, start_on}
use Rattle.checker.proofs.TwinCauseLemmas.{HaveSameWalks}
use Rattle.checker.proofs.FlatTwinLemmas.{AreFlat, flat_at}
use Rattle.checker.proofs.RelabelledLemmas.{nesting_relabelled, relabelled_back, says_same}
use Rattle.checker.proofs.TeamBlindLemmas.{team_forked}

-- what is known of a trace of version 2 that may have version 3
pub record MayNest (rs : List Record) : Type 0 where
  pub flat : AreFlat rs
  pub current : IsFreeOf rs NotCurrent
  pub outside : IsFreeOf rs NestedParallel
  pub inside : IsFreeOf (map nesting rs) RegionNesting

-- ---- walks by which each root began while the root below it ran

-- for each root the one below it
abbrev roots_below : List ℕ → List (Option ℕ)
roots_below [] = []
roots_below (root ∷ roots) = slice_get roots 0 ∷ roots_below roots

record IsPlainWalk (rs : List Record) (walk : Walk) : Type 0 where
  outer : walk.outer ≡ roots_below walk.roots
  idle : walk.roots ≡ [] → walk.current ≡ None
  innermost : (task : ℕ) → walk.current ≡ Some task → IsRoot rs task → slice_get walk.roots 0 ≡ Some task

first_below : (roots : List ℕ) → get_or (roots_below roots) 0 None ≡ slice_get roots 1
first_below [] = refl
first_below (root ∷ roots) = refl

rest_below : (roots : List ℕ) → drop 1 (roots_below roots) ≡ roots_below (drop 1 roots)
rest_below [] = refl
rest_below (root ∷ roots) = refl

top_below : (roots : List ℕ) → slice_get (drop 1 roots) 0 ≡ slice_get roots 1
top_below [] = refl
top_below (root ∷ roots) = refl

idle_below : (roots : List ℕ) → drop 1 roots ≡ [] → slice_get roots 1 ≡ None
idle_below [] is = refl
idle_below (root ∷ []) is = refl
idle_below (root ∷ other ∷ roots) is = cc

-- in both versions such a walk goes on alike
same_step : (walk : Walk) (b : Body) → walk.outer ≡ roots_below walk.roots
    → after_body false walk b ≡ after_body true walk b
same_step walk (ImplicitTask End actual index given parallel task) outer =
    let behind : Option ℕ → Walk =
    λ next. record { roots = drop 1 walk.roots; outer = drop 1 walk.outer; current = next } in
    ap behind (sym (ap (λ l. get_or l 0 None) outer ∙ first_below walk.roots))
same_step walk _ outer = refl

-- what is known of the record that comes next
record ComesNext (rs : List Record) (walk : Walk) (b : Body) : Type 0 where
  begins : (task : ℕ) → begun_root b ≡ Some task → walk.current ≡ slice_get walk.roots 0
  starts : (task : ℕ) → started b ≡ Some task → IsRoot rs task → slice_get walk.roots 0 ≡ Some task
  runs : (task : ℕ) → running b ≡ Some task → walk.current ≡ Some task

plain_next : (rs : List Record) (walk : Walk) (b : Body) → ComesNext rs walk b → IsPlainWalk rs walk
    → IsPlainWalk rs (after_body false walk b)
plain_next rs walk (ImplicitTask Begin actual index given parallel task) next is = record {
  outer =
      ap (λ o. o ∷ walk.outer) (next.begins task refl) ∙ ap (λ l. slice_get walk.roots 0 ∷ l) is.outer;
  idle = λ none. cc;
  innermost = λ t runs root. runs;
}
plain_next rs walk (ImplicitTask End actual index given parallel task) next is = record {
  outer = ap (drop 1) is.outer ∙ rest_below walk.roots;
  idle = idle_below walk.roots;
  innermost = λ t runs root. top_below walk.roots ∙ runs;
}
plain_next rs walk (TaskSchedule status turns prior following claimed) next is =
    by (demands_next status) refl
  where
    gone : Walk
    gone = record { roots = walk.roots; outer = walk.outer; current = following }

    by : (d : Bool) → demands_next status ≡ d → IsPlainWalk rs (if d then gone else walk)
    by true demands = record {
      outer = is.outer;
      idle =
          λ none.
          absurd
          (none-some prior
          (sym (is.idle none) ∙ next.runs prior (ap (λ d. if d then Some prior else None) demands)));
      innermost = λ t runs root. next.starts t runs root;
    }
    by false demands = is
plain_next rs walk _ next is = is

-- ---- where a root begins

-- an initial task or a member of a team
root_kinds : (b : Body) (task : ℕ) → begun_root b ≡ Some task
    → (begun_initial b ≡ Some task) ⊎ ((m : Membership) × (joined b ≡ Some m))
root_kinds (ImplicitTask Begin actual index given parallel root) task is = by (has_flag given.0 flag.initial)
  where
    member : Membership
    member = record { parallel = parallel; actual = actual; index = index; member = root }

    by : (d : Bool)
        → ((if d then Some root else None) ≡ Some task)
        ⊎ ((m : Membership) × ((if d then None else Some member) ≡ Some m))
    by true = inl is
    by false = inr (member, refl)
root_kinds _ task is = absurd (none-some task is)

-- the current task is the innermost open root there
begins_there : (rs : List Record) (m : ℕ) (r : Record) (walk : Walk) (task : ℕ) → MayNest rs
    → slice_get rs m ≡ Some r → walk ≡ walk_of r.thread (take m rs)
    → walk ≡ walk_of r.thread (take m (map nesting rs)) → IsPlainWalk rs walk → begun_root r.body ≡ Some task
    → walk.current ≡ slice_get walk.roots 0
begins_there rs m r walk task known stands here there is begins = by walk.roots refl
  where
    stands_too : slice_get (map nesting rs) m ≡ Some (nesting r)
    stands_too = slice_get-map nesting rs m ∙ ap (option_map nesting) stands

    -- the region of a member has been begun by the innermost open root
    begun : (parallel : ℕ) → walk.current ≢ slice_get walk.roots 0
        → HasBegun (map nesting rs) m walk parallel → ⊥
    begun parallel apart (k, forker, before, same, runs, forks) =
        let forks_too : at forked rs k ≡ Some (forker, parallel) =
        says_same forked team_forked (forker, parallel) (map nesting rs) rs k
        (relabelled_back rs (map nesting rs) (nesting_relabelled rs)) forks in
        known.outside k
        (nested_parallel
        (forked_inside forker parallel (flat_at rs k known.flat) forks_too
        (λ initial. apart (runs ∙ sym (is.innermost forker runs (is_root initial))))))
      where
        is_root : IsInitial rs forker → IsRoot rs forker
        is_root (i, begins_it) =
            let (q, there', body) = get_at begun_initial rs i forker begins_it in
            (i, at_get begun_root rs i q there' ∙ initial_begun forker q.body body)

    wrong : walk.roots ≢ [] → walk.current ≢ slice_get walk.roots 0 → ⊥
    wrong some apart = elim (root_kinds r.body task begins) [
      | inl initial ↦
          known.outside m
          (nested_parallel
          (initial_inside task walk (flat_at rs m known.flat)
          (at_get begun_initial rs m r stands ∙ initial) (r, stands, here) some))
      | inr (member, joins) ↦
          known.inside m
          (region_nesting
          (other_region member walk nests (at_get joined (map nesting rs) m (nesting r) stands_too ∙ joins)
          (nesting r, stands_too, there) some (begun member.parallel apart)))
    ]
      where
        nests : nests_at (map nesting rs) m ≡ true
        nests = ap (λ o. option_map_or (λ (q : Record). q.nests) o false) stands_too

    by : (roots : List ℕ) → walk.roots ≡ roots → walk.current ≡ slice_get walk.roots 0
    by [] none = is.idle none ∙ sym (ap (λ l. slice_get l 0) none)
    by (root ∷ roots) some =
        same_option walk.current (slice_get walk.roots 0) (λ apart. wrong (λ none. cc) apart)

-- ---- all walks

-- a record of another thread leaves the walk
part_stays : (rs : List Record) (thread m : ℕ) → thread_at rs m ≢ Some thread
    → part_of rs thread (m + 1) ≡ part_of rs thread m
part_stays rs thread m apart = elim (slice_get_cases rs m).1 [
  | inl (r, within, stands, read) ↦
      part_other rs thread m r stands
      (λ same. apart (ap (option_map (λ (q : Record). q.thread)) stands ∙ ap Some same))
  | inr (past, none) ↦
      ap (filter (λ (q : Record). q.thread == thread))
      (take_past rs (m + 1) (omega arith) ∙ sym (take_past rs m past))
]

-- the walk before the record is the same in version 3
record IsKept (rs : List Record) (thread m : ℕ) (walk : Walk) : Type 0 where
  same : walk ≡ walk_of thread (take m (map nesting rs))
  is_plain : IsPlainWalk rs walk

pub nesting_walks : (rs : List Record) → MayNest rs → HaveSameWalks rs (map nesting rs)
nesting_walks rs known thread n =
    (part_keeps rs thread (λ m l. IsKept rs thread m (fold after_record at_start l)) start own other n).same
  where
    ss : List Record
    ss = map nesting rs

    start : IsKept rs thread 0 at_start
    start = record {
      same = refl;
      is_plain = record {
        outer = refl;
        idle = λ none. refl;
        innermost = λ task runs root. absurd (none-some task runs);
      };
    }

    other : (m : ℕ) → thread_at rs m ≢ Some thread → IsKept rs thread m (walk_of thread (take m rs))
        → IsKept rs thread (m + 1) (walk_of thread (take m rs))
    other m apart before = record {
      same =
          before.same
          ∙ sym (ap (fold after_record at_start) (part_stays ss thread m
          (λ is.
          apart (thread_too (slice_get rs m) (sym (ap (option_map (λ (q : Record). q.thread))
          (slice_get-map nesting rs m)) ∙ is)))));
      is_plain = before.is_plain;
    }
      where
        thread_too : (o : Option Record)
            → option_map (λ (q : Record). q.thread) (option_map nesting o) ≡ Some thread
            → option_map (λ (q : Record). q.thread) o ≡ Some thread
        thread_too None is = is
        thread_too (Some r) is = is

    own : (m : ℕ) (r : Record) → slice_get rs m ≡ Some r → r.thread ≡ thread
        → IsKept rs thread m (walk_of thread (take m rs))
        → IsKept rs thread (m + 1) (fold after_record at_start (part_of rs thread m ++ r ∷ []))
    own m r stands on before =
        let walk : Walk = walk_of thread (take m rs) in
        let stands_too : slice_get ss m ≡ Some (nesting r) =
        slice_get-map nesting rs m ∙ ap (option_map nesting) stands in
        let next : ComesNext rs walk r.body = record {
          begins =
              λ task is.
              begins_there rs m r walk task known stands (ap (λ t. walk_of t (take m rs)) (sym on))
              (before.same ∙ ap (λ t. walk_of t (take m ss)) (sym on)) before.is_plain is;
          starts =
              λ task is root.
              subst (λ t. slice_get (walk_of t (take m rs)).roots 0 ≡ Some task) on
              (start_on rs m task r known.current stands is root);
          runs =
              λ task is.
              subst (λ t. (walk_of t (take m rs)).current ≡ Some task) on
              (runs_there rs m task r known.current stands is);
        } in
        let there : walk_of thread (take (m + 1) ss) ≡ after_body true walk r.body =
        ap (fold after_record at_start) (part_own ss thread m (nesting r) stands_too on)
        ∙ fold_push after_record at_start (part_of ss thread m) (nesting r)
        ∙ ap (λ w. after_body true w r.body) (sym before.same) in
        let here : fold after_record at_start (part_of rs thread m ++ r ∷ []) ≡ after_body false walk r.body =
        fold_push after_record at_start (part_of rs thread m) r
        ∙ ap (λ b. after_body b walk r.body) (known.flat m r stands) in
        subst (IsKept rs thread (m + 1)) (sym here) (record {
          same = same_step walk r.body before.is_plain.outer ∙ sym there;
          is_plain = plain_next rs walk r.body next before.is_plain;
        })
