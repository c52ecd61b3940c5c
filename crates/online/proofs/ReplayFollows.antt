-- A record that recorders would make behind others may follow them.
use Rattle.std.proofs.Common.{ℕ, ◌≡◌, ◌≢◌, ◌∙◌, ◌+◌, ◌<◌, List, [], ◌∷◌, ◌++◌, length, take, Option}
use Rattle.std.proofs.Common.{Some, None, Bool, true, false, refl, sym, ap, subst, arith, cond}
use Rattle.std.specs.Prelude.{◌^◌, Contains, slice_get, option_map}
use Rattle.std.proofs.lemmas.List.{take_at}
use Rattle.std.proofs.lemmas.Option.{none-some, same_Some}
use Rattle.ompt_events.specs.declared.records.Record.{Record}
use Rattle.ompt_events.specs.declared.records.Body.{Body}
use Rattle.ompt_events.specs.declared.records.Body.TheVariants.{ImplicitTask, TaskCreate, TaskSchedule}
use Rattle.ompt_events.specs.declared.records.Body.TheVariants.{Cancel}
use Rattle.ompt_events.specs.declared.records.Part.{Part}
use Rattle.ompt_events.specs.declared.records.Part.TheVariants as part
use Rattle.ompt_events.specs.declared.names.Endpoint.TheVariants.{End}
use Rattle.ompt_events.specs.declared.cause.Cause.TheVariants.{CreatedTwice}
use Rattle.ompt_events.specs.Causes.{IsFreeOf}
use Rattle.ompt_events.specs.Flags as flag
use Rattle.ompt_events.specs.Flags.{has_flag}
use Rattle.ompt_events.specs.Names.{status_part}
use Rattle.ompt_events.specs.Places.{at}
use Rattle.ompt_events.specs.Records.{made, named, creation, finish, ended_root, region}
use Rattle.ompt_events.proofs.ListLemmas.{get_last}
use Rattle.ompt_events.proofs.PlaceLemmas.{at_get}
use Rattle.packed_trace.specs.Named.{subject, object}
use Rattle.scripts.specs.Called.{called}
use Rattle.scripts.specs.Progress.{Values}
use Rattle.scripts.proofs.SaidLemmas.{creation_called}
use Rattle.scripts.proofs.ValueSteps.{two_apart}
use Rattle.online.specs.Online.{IsWatchable}
use Rattle.online.specs.Replays.{script_of, IsReplayed}
use Rattle.online.specs.Waits.{MayFollow, IsLive}
use Rattle.online.proofs.ReplayEnds.{replayed_region}
use Rattle.online.proofs.ReplayLaw.{replayed_whole}
use Rattle.online.proofs.ReplayNames.{replayed_live}
use Rattle.online.proofs.ReplayOrder.{replayed_event}
use Rattle.online.proofs.ReplayRecords.{IsOfStep, of_step, says_call}

-- ---- what a record names

record IsCreation (body : Body) (parent child : ℕ) : Type 0 where
  first : subject body ≡ Some parent
  second : object body ≡ Some child
  names : Contains (named (called body)) parent
  makes : made body ≡ Some child

creation_parts : (body : Body) (parent child : ℕ) → creation body ≡ Some (parent, child)
    → IsCreation body parent child
creation_parts (TaskCreate deps given own kid) parent child is = record {
  first = ap (option_map (λ (p : ℕ × ℕ). p.0)) is;
  second = ap (option_map (λ (p : ℕ × ℕ). p.1)) is;
  names = (0, omega arith, ap (λ (p : ℕ × ℕ). p.0) (same_Some (own, kid) (parent, child) is));
  makes = ap (option_map (λ (p : ℕ × ℕ). p.1)) is;
}
creation_parts _ parent child is = absurd (none-some (parent, child) is)

finish_parts : (body : Body) (task : ℕ) (p : Part) → finish body ≡ Some (task, p)
    → Contains (named (called body)) task × (made body ≡ None)
finish_parts (TaskSchedule status turns prior next claimed) task p is =
    ((0, omega arith, of (status_part status) is), refl)
  where
    of : (o : Option Part) → option_map {U = ℕ × Part} (λ q. (prior, q)) o ≡ Some (task, p) → prior ≡ task
    of None none = absurd (none-some (task, p) none)
    of (Some q) there = ap (λ (x : ℕ × Part). x.0) (same_Some (prior, q) (task, p) there)
finish_parts (Cancel given own claimed) task p is =
    ((0, omega arith, of (has_flag given.0 flag.discarded_task) is), refl)
  where
    of : (b : Bool) → cond {A = Option (ℕ × Part)} b (Some (own, part.Whole)) None ≡ Some (task, p)
        → own ≡ task
    of true there = ap (λ (x : ℕ × Part). x.0) (same_Some (own, part.Whole) (task, p) there)
    of false none = absurd (none-some (task, p) none)
finish_parts _ task p is = absurd (none-some (task, p) is)

end_parts : (body : Body) (task : ℕ) → ended_root body ≡ Some task
    → Contains (named (called body)) task × (made body ≡ None)
end_parts (ImplicitTask End actual index given parallel own) task is =
    ((0, omega arith, same_Some own task is), refl)
end_parts _ task is = absurd (none-some task is)

-- ---- so it may

pub replayed_follows : (nests : Bool) (rs : List Record) (r : Record) (values : Values)
    → IsReplayed nests (rs ++ r ∷ []) values → IsWatchable (rs ++ r ∷ [])
    → IsFreeOf (rs ++ r ∷ []) CreatedTwice → length rs + 2 < 2 ^ 64 → MayFollow rs r
replayed_follows nests rs r values replayed watchable once few = record {
  watchable = watchable;
  once = once;
  few = few;
  creates = λ parent child makes.
      let it = creation_parts r.body parent child makes in
      live parent it.names
      (λ own. two_apart (script_of nests all) (length rs) o.step parent child
      (replayed_whole nests all values replayed) o.stands
      (creation_parts o.step.body parent child (creates_step ∙ makes)).first
      (creation_parts o.step.body parent child (creates_step ∙ makes)).second
      (same_Some parent child (sym own ∙ it.makes)));
  finishes = λ task p finishes other.
      let (names, none) = finish_parts r.body task p finishes in
      live task names (λ makes. none-some task (sym none ∙ makes));
  fulfils = λ task finishes.
      let (k, ends) = replayed_event nests all values (length rs) r task replayed last finishes in
      (k, ap (λ l. at finish l k) (sym before) ∙ ends);
  stops = λ task ends.
      let (names, none) = end_parts r.body task ends in
      live task names (λ makes. none-some task (sym none ∙ makes));
  ends = λ task kind ends.
      replayed_region nests all values (length rs) task kind replayed
      (at_get region all (length rs) r last ∙ ends);
}
  where
    all : List Record
    all = rs ++ r ∷ []

    last : slice_get all (length rs) ≡ Some r
    last = get_last rs r (length rs) refl

    before : take (length rs) all ≡ rs
    before = take_at rs (r ∷ []) (length rs) refl

    o : IsOfStep (script_of nests all) all (length rs) r
    o = of_step nests all values (length rs) r replayed last

    creates_step : creation o.step.body ≡ creation r.body
    creates_step = sym (says_call creation nests all values (length rs) r replayed creation_called o)

    live : (task : ℕ) → Contains (named (called r.body)) task → made r.body ≢ Some task → IsLive rs task
    live task names unmade =
        subst (λ l. IsLive l task) before
        (replayed_live nests all values (length rs) r task replayed last names unmade)
