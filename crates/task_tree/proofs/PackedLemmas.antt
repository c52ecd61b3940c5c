-- What is so of the body of the record at a place.
use Rattle.std.proofs.Common.{Bool, ◌≡◌, ◌∙◌, ℕ, ◌<◌, List, length, Option, Some, None}
use Rattle.std.proofs.Common.{sym, ap}
use Rattle.std.proofs.lemmas.Option.{none-some}
use Rattle.std.specs.Prelude.{is_some, MatchOption, option_and_then, option_map}
use Rattle.ompt_events.specs.declared.records.Record.{Record}
use Rattle.ompt_events.specs.declared.records.Body.{Body}
use Rattle.ompt_events.specs.Places.{at}
use Rattle.ompt_events.specs.Records.{forked}
use Rattle.ompt_events.proofs.ListLemmas.{get_within}
use Rattle.task_tree.specs.Runs.{RunView, IsIndexOf, IsFork}
use Rattle.task_tree.specs.Subjects.{Calls}

-- ---- what is so of the body of the record at a place is so there

pub said_there : {X : Type 0} (says : Body → Option X) (rs : List Record) (i : ℕ) (value : Option X)
    → i < length rs → ((body : Body) → at Some rs i ≡ Some body → says body ≡ value) → at says rs i ≡ value
said_there says rs i value within all =
    let there = get_within rs i within in
    ap (option_and_then (λ (r : Record). says r.body)) there.1
    ∙ all there.0.body (ap (option_and_then (λ (r : Record). Some r.body)) there.1)

pub some_said_there : {X : Type 0} (says : Body → Option X) (rs : List Record) (i : ℕ) (test : Bool)
    → i < length rs → ((body : Body) → at Some rs i ≡ Some body → test ≡ is_some (says body))
    → test ≡ is_some (at says rs i)
some_said_there says rs i test within all =
    let there = get_within rs i within in
    all there.0.body (ap (option_and_then (λ (r : Record). Some r.body)) there.1)
    ∙ sym (ap (λ o. is_some (option_and_then (λ (r : Record). says r.body) o)) there.1)

fork_named : (run : RunView) (i : ℕ) (said : Option (ℕ × ℕ)) (result : Option ℕ)
    → at forked run.records i ≡ said
    → Calls run.family.tasks (option_map (λ (f : ℕ × ℕ). f.0) said) result
    → MatchOption result (at forked run.records i ≡ None) (IsFork run i)
fork_named run i None None is calls = is
fork_named run i None (Some index) is calls = absurd (none-some index (sym calls))
fork_named run i (Some (task, region)) result is (index, there, indexed) =
    rw there (record { task = task; parallel = region; says = is; indexed = indexed })

pub fork_there : (run : RunView) (i : ℕ) (result : Option ℕ) → i < length run.records
    → IsIndexOf run (λ body. option_map (λ (f : ℕ × ℕ). f.0) (forked body)) i result
    → MatchOption result (at forked run.records i ≡ None) (IsFork run i)
fork_there run i result within calls =
    let there = get_within run.records i within in
    fork_named run i (forked there.0.body) result
    (ap (option_and_then (λ (r : Record). forked r.body)) there.1)
    (rw there.1 at calls)
