pub mod CommandLemmas
mod NumberLemmas
mod LookLemmas
mod VersionLemmas
mod ServingLemmas
mod CountLemmas
mod HeadlineLemmas
mod AuditLemmas
mod OrderLemmas
mod OrderingLemmas
mod FindingLemmas
mod RecordingLemmas
mod UpgradingLemmas
mod WatchingLemmas
