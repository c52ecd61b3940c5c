-- Lemmas of scripts.
mod CallLemmas
mod LifeLemmas
pub mod RuleLemmas
mod ScriptLemmas
mod TallyLemmas
-- Lemmas of runs: RunCallLemmas of one call, PlaceLemmas of the places of a thread's steps, UseLemmas of the uses of
-- tasks, ProgressLemmas of what the steps leave one after another, StepLemmas of a step that a thread takes,
-- SeatLemmas of the seats that the threads get, RunLemmas of the threads, GatherLemmas of the gathered trace,
-- CloseLemmas of the closed recorders, HistoryLemmas of the history of their ledger, and EndLemmas of the end
-- of a run. TilingLemmas proves that the entries of a run do not overlap, over ShareLemmas, on entries that
-- share no credit, and ValueLemmas, on what one call does to the values. CalledLemmas proves that records have
-- the calls of the steps, and HandOverLemmas that tasks are handed over with the ledger's length, over
-- TurnLemmas, on the turns of one task, where PassLemmas proves that they go with it from step to step. This
-- stands on KnownLemmas, of what two seats know of one history, AwareLemmas, of what a recorder knows after its
-- steps, NoteLemmas, of the notes that go with tasks, and HeardLemmas, of those for steps that wait for others.
-- CreditLemmas proves that the credits are the machine's, over HolderLemmas, on who has which credit,
-- HeldLemmas, on what one record changes, MoveLemmas, on the moves of one task, and MachineLemmas, on one call.
pub mod RunCallLemmas
pub mod PlaceLemmas
pub mod UseLemmas
pub mod ProgressLemmas
pub mod StepLemmas
pub mod SeatLemmas
pub mod KnownLemmas
pub mod RunLemmas
pub mod GatherLemmas
pub mod CloseLemmas
pub mod HistoryLemmas
pub mod EndLemmas
pub mod ShareLemmas
pub mod ValueLemmas
pub mod TilingLemmas
pub mod CalledLemmas
pub mod TurnLemmas
pub mod HandOverLemmas
pub mod AwareLemmas
pub mod NoteLemmas
pub mod HeardLemmas
pub mod PassLemmas
pub mod HolderLemmas
pub mod HeldLemmas
pub mod MoveLemmas
pub mod MachineLemmas
pub mod CreditLemmas
-- Lemmas of what no trace of a run shows. Of steps and records: ThreadPlaces of the places of a thread's
-- elements, AcceptedLemmas of accepted calls, ValueSteps of what a step does to a task's value, SaidLemmas and
-- PlacedLemmas of the record that a step made, and OrderedLemmas of all records in the order of the script.
-- HomeLemmas tells on which thread a task began its last turn, and CoverLemmas that it runs nowhere else.
-- NatureLemmas tells what a task is.
--
-- The laws: CurrentLaw that records are of the task that runs, GapLaw of turns, RegionLaw of regions, ShareLaw of
-- claims, and MovedParts of states. This one stands on SoundLemmas, that the moves of a task in the order of the
-- script are such that its states allow; the definition reads them in parts, so MoveWords and PartLemmas move
-- fulfilments to the front, PlaceWords goes from places of records to steps, StatusLaw and StatusParts do it for
-- a task that stays on its thread, and TurnParts and TurnEnds for one that moves, turn by turn.
pub mod ThreadPlaces
pub mod AcceptedLemmas
pub mod ValueSteps
pub mod HomeLemmas
pub mod CoverLemmas
pub mod SaidLemmas
pub mod PlacedLemmas
pub mod GapLaw
pub mod OrderedLemmas
pub mod RegionLaw
pub mod ShareLaw
pub mod CurrentLaw
pub mod MoveWords
pub mod PartLemmas
pub mod SoundLemmas
pub mod NatureLemmas
pub mod PlaceWords
pub mod StatusLaw
pub mod StatusParts
pub mod TurnParts
pub mod TurnEnds
pub mod MovedParts
