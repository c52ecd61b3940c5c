-- What the end of an initial or implicit task says of its team tells nothing: at an end a runtime gives 0 as
-- the size of the team (OpenMP 5.2, 19.5.2.11), and what the task's place in its team is, its begin says.
use Rattle.std.specs.Prelude.{◌≡◌, List, map}
use Rattle.ompt_events.specs.declared.records.Record.{Record}
use Rattle.ompt_events.specs.declared.records.Body.{Body}
use Rattle.ompt_events.specs.declared.records.Body.TheVariants.{ImplicitTask}
use Rattle.ompt_events.specs.declared.names.Endpoint.TheVariants.{End}

-- the body without the size of the team and the number there, where a task of a team ends
abbrev pub without_team : Body → Body
without_team (ImplicitTask End actual index flags parallel task) = ImplicitTask End 0 0 flags parallel task
without_team body = body

abbrev pub ending_alone : Record → Record
ending_alone r = record {
  thread = r.thread;
  nests = r.nests;
  seq = r.seq;
  seen = r.seen;
  body = without_team r.body;
}

-- the lists are the same but for that
abbrev pub AreSameButForEnds : List Record → List Record → Type 0
AreSameButForEnds rs ss = map ending_alone rs ≡ map ending_alone ss
