mod MemberLemmas
mod MeaningLemmas
mod NumberLemmas
pub mod RecordLemmas
mod LooseLemmas
pub mod SoundLemmas
pub mod JsonLemmas
mod ObjectLemmas
mod ItemLemmas
mod TakeLemmas
mod PartLemmas
mod FlagLemmas
pub mod TextLemmas
pub mod FrontLemmas
mod SaysLemmas
pub mod LineLemmas
mod WrittenLemmas
mod InFrontLemmas
mod KnownLemmas
