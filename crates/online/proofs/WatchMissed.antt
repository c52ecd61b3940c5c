-- Where a record failed the test of waits: what is still known, and that a task that is found then is missed.
use Rattle.std.proofs.Common.{◌≡◌, ◌∙◌, ℕ, true, false, List, [], ◌∷◌, ◌++◌, length, Option, Some, None}
use Rattle.std.proofs.Common.{refl, sym, ap, subst, arith, inl}
use Rattle.std.specs.Prelude.{◌&&◌, slice_get, option_map, is_some}
use Rattle.std.proofs.lemmas.Bool.{false≢true}
use Rattle.std.proofs.lemmas.List.{take_all}
use Rattle.std.proofs.lemmas.Option.{none-some}
use Rattle.ompt_events.specs.declared.records.Record.{Record}
use Rattle.ompt_events.specs.declared.records.Body.TheVariants.{SyncRegion}
use Rattle.ompt_events.specs.declared.records.Part.{Part}
use Rattle.ompt_events.specs.declared.records.Part.TheVariants as part
use Rattle.ompt_events.specs.declared.names.SyncKind.{SyncKind}
use Rattle.ompt_events.specs.declared.names.SyncKind.TheVariants.{Taskwait}
use Rattle.ompt_events.specs.declared.names.Endpoint.{Endpoint}
use Rattle.ompt_events.specs.declared.names.Endpoint.TheVariants.{Begin, End, BeginEnd}
use Rattle.ompt_events.specs.Places.{at}
use Rattle.ompt_events.specs.Records.{finish, region}
use Rattle.ompt_events.proofs.PlaceLemmas.{at_within}
use Rattle.ompt_events.proofs.RegionLemmas.{begin_before}
use Rattle.scripts.specs.declared.script.Step.{Step}
use Rattle.scripts.specs.declared.lives.Life.{Life}
use Rattle.scripts.specs.declared.lives.Life.TheVariants.{Live}
use Rattle.scripts.specs.Rules.{IsEnded}
use Rattle.scripts.specs.Scripts.{IsScript, life, may_follow, may_be_named}
use Rattle.scripts.proofs.RuleLemmas.{rules_from}
use Rattle.online.specs.declared.kin.Kin.{Kin}
use Rattle.online.specs.declared.missed.Awaited.{Awaited}
use Rattle.online.specs.declared.replay.Replay.{Replay}
use Rattle.online.specs.declared.watch.Watch.{Watch}
use Rattle.online.specs.Kept.{kept_by}
use Rattle.online.specs.Missed.{EndsTooEarly, IsFoundAt, AreAwaitedAt, at_taskwait, at_taskgroup, at_barrier}
use Rattle.online.specs.Replays.{IsReplayOf, calls_of}
use Rattle.online.specs.Tasks.{value_of}
use Rattle.online.specs.Waits.{IsSameTable, IsOver, ends_region}
use Rattle.online.specs.Watches.{IsWatchOf, IsRefusedWatch, HasRefused, HasWatched}
use Rattle.online.proofs.AlikeLemmas.{missed_alike}
use Rattle.online.proofs.CurrentLemmas.{open_same}
use Rattle.online.proofs.GrowLemmas.{said_grows}
use Rattle.online.proofs.MissedCovers.{reached_covered}
use Rattle.online.proofs.OpenedLemmas.{HaveBegins}
use Rattle.online.proofs.PassLemmas.{none_twice}
use Rattle.online.proofs.ReadLemmas.{same_append, at_same}
use Rattle.online.proofs.ReplayEnds.{replayed_region}
use Rattle.online.proofs.ReplayNames.{over_ended}
use Rattle.online.proofs.TakenLemmas.{calls_long}
use Rattle.online.proofs.WaitLemmas.{keeps_table}
use Rattle.online.proofs.WatchSteps.{IsFollowed, is_next}

-- ---- what is still known

-- what the parts of the watch that come before the test of waits say, and this test
pub record IsRefusedStep (old new : Watch) (r : Record) : Type 0 where
  pub followed : IsFollowed old new r
  pub same : IsSameTable (kept_by old.waits) (kept_by new.waits)
  pub outside : new.outside ≡ old.outside

pub watch_refused : (rs : List Record) (old new : Watch) (r : Record) → IsWatchOf rs old
    → IsRefusedStep old new r → IsRefusedWatch rs r new
watch_refused rs old new r kept refused =
    let next = is_next rs old new r kept refused.followed in
    record {
      replay = next.replay;
      tasks = record {
        follows = next.follows;
        waits =
            keeps_table (kept_by old.waits) (kept_by new.waits) refused.same rs (none_twice rs kept.passes)
            kept.waits;
        places = λ task kin there. kept.teams.places task kin (sym (refused.same task) ∙ there);
        settled = λ i parallel number low ends. kept.teams.ends.settled i parallel number low ends;
      };
      outside = λ so. kept.outside (sym refused.outside ∙ so);
    }

-- where the record is none that ends a root, it is taken as it is
pub refused_same : (old new : Watch) (r : Record)
    → ((rs : List Record) → IsWatchOf rs old → ends_region (region r.body) ≡ true → IsRefusedWatch rs r new)
    → (records : List Record) → HasWatched records old → HasRefused records r new
refused_same old new r refused records (rs, alike, kept) ends = (rs, alike, refused rs kept ends)

-- one that ends a root ends no region
pub refused_root : (new : Watch) (r : Record) → region r.body ≡ None → (records : List Record)
    → HasRefused records r new
refused_root new r none records ends = absurd (false≢true (sym (ap ends_region none) ∙ ends))

-- ---- a live task is not finished, whole or by its event

not_ended : (steps : List Step) (task : ℕ) → IsScript steps → life steps task ≡ Some Live
    → IsEnded steps task → ⊥
not_ended steps task script live over =
    ((rules_from steps None (SyncRegion Taskwait Begin None task) script may).live task (0, omega arith, refl)
    (λ makes. none-some task makes)).1
    over
  where
    may : may_follow steps None (SyncRegion Taskwait Begin None task) ≡ true
    may = ap (λ (o : Option Life). may_be_named false o && true) live

pub live_unfinished : (rs : List Record) (kept : Replay) (task : ℕ) → IsReplayOf rs kept
    → is_some (value_of kept.tasks task) ≡ true → (k : ℕ) (p : Part) → at finish rs k ≡ Some (task, p)
    → p ≡ part.Body
live_unfinished rs kept task is live k p says = of p says
  where
    over : IsOver rs task → ⊥
    over ended =
        let steps = calls_of rs in
        let P : List Record → Type 0 = λ l. IsOver l task in
        let Q : List Step → Type 0 = λ l. IsEnded l task in
        not_ended steps task is.replayed.rules (is.live task live)
        (subst Q (take_all (length rs) steps (let long = calls_long rs in omega (arith, long)))
        (over_ended kept.nests rs (value_of kept.tasks) (length rs) task is.replayed
        (subst P (sym (take_all (length rs) rs (omega arith))) ended)))

    of : (q : Part) → at finish rs k ≡ Some (task, q) → q ≡ part.Body
    of part.Body is = refl
    of part.Whole is = absurd (over (inl (k, part.Whole, is, λ e. cc)))
    of part.Event is = absurd (over (inl (k, part.Event, is, λ e. cc)))

-- ---- each end has its begin

begins_there : (rs : List Record) (r : Record) (kept : Replay) → IsReplayOf (rs ++ r ∷ []) kept
    → HaveBegins rs
begins_there rs r kept is e task kind says =
    let (begin, ends) =
    replayed_region kept.nests (rs ++ r ∷ []) (value_of kept.tasks) e task kind is.replayed
    (said_grows region rs r e (task, kind, End) says) in
    let low = at_within region rs e (task, kind, End) says in
    let early = begin_before (rs ++ r ∷ []) e task begin kind ends in (
      begin,
      record {
        ends = says;
        innermost =
            sym
            (ap (λ l. slice_get l 0)
            (open_same (length rs) (rs ++ r ∷ []) rs (same_append rs (r ∷ [])) task e (omega (arith, low))))
            ∙ ends.innermost;
        same_kind =
            sym
            (ap (option_map (λ (q : ℕ × SyncKind × Endpoint). q.1))
            (at_same region (length rs) (rs ++ r ∷ []) rs (same_append rs (r ∷ [])) begin
            (omega (arith, low, early))))
            ∙ ends.same_kind;
      },
    )

-- ---- the task that is found

awaited_ends : (table : ℕ → Option Kin) (own : ℕ) (kind : SyncKind) (endpoint : Endpoint) (awaited : Awaited)
    → AreAwaitedAt table own kind endpoint awaited → ends_region (Some (own, kind, endpoint)) ≡ true
awaited_ends table own _ Begin _ (at_taskwait apart) = absurd (apart refl)
awaited_ends table own _ End _ (at_taskwait apart) = refl
awaited_ends table own _ BeginEnd _ (at_taskwait apart) = refl
awaited_ends table own _ _ awaited (at_taskgroup inside) = refl
awaited_ends table own kind _ awaited (at_barrier barrier inside) = refl

pub missed_found : (w : Watch) (r : Record) (own task : ℕ) (kind : SyncKind) (endpoint : Endpoint)
    → region r.body ≡ Some (own, kind, endpoint) → (kind ≡ Taskwait → w.outside ≡ true)
    → IsFoundAt w.replay (kept_by w.waits) own kind endpoint task → (records : List Record)
    → HasRefused records r w → EndsTooEarly records r task
missed_found w r own task kind endpoint says outside (awaited, are, (live, reached)) records refused =
    let ends = ap ends_region says ∙ awaited_ends (kept_by w.waits) own kind endpoint awaited are in
    let (rs, alike, refusal) = refused ends in
    let unfinished = live_unfinished (rs ++ r ∷ []) w.replay task refusal.replay live in
    missed_alike records rs r task alike
    (record {
      covered =
          reached_covered rs r (kept_by w.waits) own task kind endpoint awaited refusal.tasks
          (begins_there rs r w.replay refusal.replay) (λ is. refusal.outside (outside is)) says are reached
          (λ k p finishes. unfinished k p (said_grows finish rs r k (task, p) finishes));
      unfinished = unfinished;
    })
