-- Where the records are in order but for what the ends of initial and implicit tasks say of their teams, the
-- verdict of a trace is yes, with the order of its file.
use Rattle.std.proofs.Common.{◌≡◌, ◌∙◌, ℕ, List, sym, subst, inl, inr, ◌⊎◌}
use Rattle.std.specs.Prelude.{◌↔◌, is_some, All}
use Rattle.ompt_events.specs.declared.records.Record.{Record}
use Rattle.ompt_events.specs.declared.records.Body.{Body}
use Rattle.ompt_events.specs.declared.records.Body.TheVariants.{ImplicitTask}
use Rattle.ompt_events.specs.declared.names.Endpoint.TheVariants.{End}
use Rattle.ompt_events.specs.declared.cause.Cause.{Cause}
use Rattle.ompt_events.specs.Records.{told_turns, started}
use Rattle.ompt_events.specs.Places.{places}
use Rattle.ompt_events.specs.Traces.{IsKnown, IsSound, FitsIn}
use Rattle.ompt_events.specs.Turns.{TellsNoTurns}
use Rattle.ompt_events.specs.Ends.{without_team, ending_alone, AreSameButForEnds}
use Rattle.ompt_events.specs.Linearization.{IsLinearization}
use Rattle.ompt_events.specs.Completion.{IsCompleteAt}
use Rattle.ompt_events.specs.Violations.{IsRequired}
use Rattle.ompt_events.specs.Causes.{HasCause}
use Rattle.task_tree.proofs.SuspendedLemmas.{TellsStarts}
use Rattle.checker.specs.declared.verdict.Verdict.TheVariants.{Yes}
use Rattle.checker.specs.Verdicts.{IsVerdict}
use Rattle.checker.proofs.MappedLemmas.{all_by}
use Rattle.checker.proofs.TeamBlindLemmas.{team_told}
use Rattle.checker.proofs.RelabelledLemmas.{same_at, same_places}
use Rattle.checker.proofs.EndVerdictLemmas.{ends_relabelled, ends_verdict}
use Rattle.checker.proofs.FileYesLemmas.{yes_by_file, turns_of, sound_of}

-- ---- what a trace says of the records

-- a body is sound whatever it says of the team where its task ends
team_sound : (b : Body) → IsSound b ↔ IsSound (without_team b)
team_sound (ImplicitTask End actual index given parallel task) = (
  λ is. record {
    named_flags = is.named_flags;
    named_cancellation = is.named_cancellation;
    begins_or_ends = is.begins_or_ends;
    claimed = is.claimed;
    short_path = is.short_path;
    few_dependences = is.few_dependences;
    next = is.next;
  },
  λ is. record {
    named_flags = is.named_flags;
    named_cancellation = is.named_cancellation;
    begins_or_ends = is.begins_or_ends;
    claimed = is.claimed;
    short_path = is.short_path;
    few_dependences = is.few_dependences;
    next = is.next;
  },
)
team_sound _ = (λ is. is, λ is. is)

-- and it has its turns or not
team_turned : (b : Body)
    → (is_some (told_turns b) ≡ is_some (started b))
    ↔ (is_some (told_turns (without_team b)) ≡ is_some (started (without_team b)))
team_turned (ImplicitTask End actual index given parallel task) = (λ is. is, λ is. is)
team_turned _ = (λ is. is, λ is. is)

same_turned : (rs ss : List Record) → AreSameButForEnds rs ss → TellsNoTurns rs ⊎ TellsStarts rs
    → TellsNoTurns ss ⊎ TellsStarts ss
same_turned rs ss same (inl untold) =
    inl (λ i. sym (same_at told_turns team_told rs ss i (ends_relabelled rs ss same)) ∙ untold i)
same_turned rs ss same (inr told) =
    inr
    (all_by ending_alone (λ r. is_some (told_turns r.body) ≡ is_some (started r.body))
    (λ r. team_turned r.body) rs ss same told)

-- ---- a yes

pub yes_but_for_ends : (version : ℕ) (records rs : List Record) → IsKnown version
    → All (FitsIn version) records → AreSameButForEnds records rs
    → ((i : ℕ) (cause : Cause) → HasCause rs i cause → ⊥)
    → ((i task : ℕ) → IsRequired rs i task → IsCompleteAt rs task i) → IsLinearization rs (places rs)
    → IsVerdict records (Yes (places records))
yes_but_for_ends version records rs known fit same none complete linear =
    let long : places records ≡ places rs = same_places records rs (ends_relabelled records rs same) in
    let yes : IsVerdict rs (Yes (places rs)) =
    yes_by_file rs (record {
      turns = same_turned records rs same (turns_of version records known fit);
      sound =
          all_by ending_alone (λ r. IsSound r.body) (λ r. team_sound r.body) records rs same
          (sound_of version records fit);
      none = none;
      complete = complete;
      linear = linear;
    }) in
    subst (λ (l : List ℕ). IsVerdict records (Yes l)) (sym long)
    ((ends_verdict records rs (Yes (places rs)) same).1 yes)
