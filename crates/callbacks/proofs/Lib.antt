-- Lemmas of a recorder.
pub mod BegunLemmas
pub mod LogLemmas
pub mod RecorderLemmas
pub mod CreditLemmas
-- Lemmas of closed recorders and of the trace that is gathered.
pub mod ClosedLemmas
pub mod GatheredLemmas
pub mod GatherLemmas
pub mod ThreadLaws
pub mod KnownLaw
pub mod StandingLemmas
pub mod NestedLaw
pub mod SeenLemmas
pub mod PairLaw
pub mod TraceLemmas
pub mod MadeLemmas
pub mod NoteLaw
