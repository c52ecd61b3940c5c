pub mod OrderLemmas
pub mod ReadLemmas
pub mod NameLemmas
pub mod CurrentLemmas
pub mod ChildLemmas
pub mod BarrierLemmas
pub mod TeamLemmas
pub mod KeptLemmas
pub mod CompleteLemmas
pub mod CoverLemmas
pub mod PrecededLemmas
pub mod RequiredLemmas
mod SizeLemmas
mod NestingLemmas
mod CauseLaw
pub mod PassLemmas
pub mod WatchLemmas
pub mod AwaitLemmas
mod CreatorLemmas
pub mod ClearLaw
pub mod SettledLemmas
mod ReplayLemmas
mod LiveLemmas
mod CallLemmas
mod TakenLemmas
pub mod ReplayLaw
pub mod ReplayRecords
pub mod ReplayThreads
pub mod ReplayNames
pub mod ReplayOrder
pub mod ReplayEnds
pub mod ReplayFollows
pub mod ReplayTasks
mod GoneLemmas
mod LeaveLemmas
mod GroupLemmas
mod GroupSteps
mod GroupEnds
mod GroupWalks
mod UseLemmas
mod UseSteps
mod UseEnds
mod FamilyLemmas
mod PushLemmas
mod ListingLemmas
mod ListLaw
mod ItemStepLemmas
mod ListOrder
mod FirstLemmas
mod KeptLists
mod MergeLemmas
mod TableLemmas
mod ScopeLemmas
mod OpenGroupLemmas
mod GrowLemmas
mod ViewLemmas
mod KinLemmas
mod StayLemmas
mod CreateLemmas
mod DoneLemmas
mod SettleLemmas
mod TaskgroupLemmas
mod EndLemmas
mod WaitLemmas
mod PhaseLemmas
mod EndedLemmas
mod RosterLemmas
mod PhaseSteps
mod TeamStepLemmas
mod UnmadeLemmas
mod TeamCreateLemmas
mod RootTeamLemmas
mod TeamJoinLemmas
mod TeamBarrierLemmas
mod BarrierEndLemmas
mod WaitTeamLemmas
mod MissedLemmas
mod OpenedLemmas
mod MissedCovers
mod AlikeLemmas
mod OutsideLemmas
mod WaitStepLemmas
mod LengthLemmas
mod RegionLemmas
pub mod WatchSteps
pub mod WatchEnd
pub mod WatchedLemmas
mod WatchMissed
mod WatchEarly
mod SpanLemmas
mod EnrollLemmas
mod RosterLaw
