-- What the end of an initial or implicit task says of its team changes no verdict and no counter order.
use Rattle.std.proofs.Common.{◌≡◌, ◌∙◌, ℕ, List, [], ◌∷◌, Option, Some, None, Bool, false, refl, sym, ap, map}
use Rattle.std.specs.Prelude.{◌↔◌, ◌==◌, slice_get, option_map, filter, take}
use Rattle.std.specs.Option.{option_map_or}
use Rattle.ompt_events.specs.declared.records.Record.{Record}
use Rattle.ompt_events.specs.declared.records.Body.{Body}
use Rattle.ompt_events.specs.Places.{nests_at}
use Rattle.ompt_events.specs.Threads.{at_start, after_body, after_record}
use Rattle.ompt_events.specs.Ends.{ending_alone, AreSameButForEnds}
use Rattle.checker.specs.declared.verdict.Verdict.{Verdict}
use Rattle.checker.specs.Readings.{by_task}
use Rattle.checker.specs.Verdicts.{IsVerdict}
use Rattle.checker.specs.Counter.{IsCounterBy}
use Rattle.checker.proofs.BlindBodyLemmas.{blind_walk}
use Rattle.checker.proofs.TeamBlindLemmas.{team_blind, team_twice}
use Rattle.checker.proofs.MappedLemmas.{fold_by, filter_by, take_by, read_by}
use Rattle.checker.proofs.TwinCauseLemmas.{HaveSameWalks}
use Rattle.checker.proofs.WalkTwinLemmas.{AreWalkTwins, walk_cause}
use Rattle.checker.proofs.RelabelledLemmas.{plain, AreRelabelled, relabelled_twins}
use Rattle.checker.proofs.RelabelledRunLemmas.{AreSameRuns, same_runs_alike}
use Rattle.checker.proofs.ReadingLemmas.{AreAlike, alike_verdicts, alike_counters}

pub ends_back : (rs ss : List Record) → AreSameButForEnds rs ss → AreSameButForEnds ss rs
ends_back rs ss same = sym same

pub ends_relabelled : (rs ss : List Record) → AreSameButForEnds rs ss → AreRelabelled rs ss
ends_relabelled rs ss same = sym (through rs) ∙ ap (map plain) same ∙ through ss
  where
    saying : Record → Body → Record
    saying r b = record { thread = r.thread; nests = false; seq = r.seq; seen = r.seen; body = b }

    through : (l : List Record) → map plain (map ending_alone l) ≡ map plain l
    through [] = refl
    through (r ∷ l) =
        ap (λ m. plain (ending_alone r) ∷ m) (through l)
        ∙ ap (λ b. saying r b ∷ map plain l) (team_twice r.body)

-- ---- walks

ends_walks : (rs ss : List Record) → AreSameButForEnds rs ss → HaveSameWalks rs ss
ends_walks rs ss same thread n =
    let on : Record → Bool = λ r. r.thread == thread in
    fold_by ending_alone after_record
    (λ walk r. team_blind (after_body r.nests walk) (blind_walk r.nests walk) r.body) at_start
    (filter on (take n rs)) (filter on (take n ss))
    (filter_by ending_alone on (λ r. refl) (take n rs) (take n ss) (take_by ending_alone rs ss n same))

ends_nests : (rs ss : List Record) (i : ℕ) → AreSameButForEnds rs ss → nests_at rs i ≡ nests_at ss i
ends_nests rs ss i same =
    sym (through (slice_get rs i))
    ∙ ap (λ (o : Option Bool). option_map_or (λ b. b) o false)
    (read_by ending_alone (λ (r : Record). r.nests) (λ r. refl) rs ss i same)
    ∙ through (slice_get ss i)
  where
    through : (o : Option Record)
        → option_map_or (λ b. b) (option_map (λ (r : Record). r.nests) o) false
        ≡ option_map_or (λ (r : Record). r.nests) o false
    through None = refl
    through (Some r) = refl

walk_twins : (rs ss : List Record) → AreSameButForEnds rs ss → AreWalkTwins rs ss
walk_twins rs ss same = record {
  twins = relabelled_twins rs ss (ends_relabelled rs ss same);
  walks = ends_walks rs ss same;
  nests = λ i. ends_nests rs ss i same;
}

-- ---- verdicts

ends_runs : (rs ss : List Record) → AreSameButForEnds rs ss → AreSameRuns rs ss
ends_runs rs ss same = record {
  same = ends_relabelled rs ss same;
  admits =
      λ i cause is_so. (
        walk_cause rs ss i cause is_so (walk_twins rs ss same),
        walk_cause ss rs i cause is_so (walk_twins ss rs (ends_back rs ss same)),
      );
}

pub ends_alike : (rs ss : List Record) → AreSameButForEnds rs ss → AreAlike (by_task rs) (by_task ss)
ends_alike rs ss same = same_runs_alike rs ss (ends_runs rs ss same)

pub ends_verdict : (rs ss : List Record) (verdict : Verdict) → AreSameButForEnds rs ss
    → IsVerdict rs verdict ↔ IsVerdict ss verdict
ends_verdict rs ss verdict same = alike_verdicts (by_task rs) (by_task ss) verdict (ends_alike rs ss same)

pub ends_counter : (rs ss : List Record) (i task : ℕ) (found : Option (List ℕ)) → AreSameButForEnds rs ss
    → IsCounterBy (by_task rs) i task found ↔ IsCounterBy (by_task ss) i task found
ends_counter rs ss i task found same =
    alike_counters (by_task rs) (by_task ss) i task found (ends_alike rs ss same)
