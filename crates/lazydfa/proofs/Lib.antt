pub mod ContsLemmas
pub mod IsClosureLemmas
pub mod DominatesLemmas
pub mod IsCoverLemmas
pub mod IsPrunedLemmas
pub mod MoveLemmas
pub mod TransitionLemmas
pub mod ReportLemmas
pub mod AreCachedLemmas
pub mod KernelsLemmas
pub mod IsAtLemmas
pub mod IsMoveOnLemmas
pub mod IsSplitOffLemmas
pub mod PutsBackLemmas
pub mod IsOverLemmas
pub mod AreTransitionsLemmas
pub mod IsTrackLemmas
pub mod IsRunVerdictLemmas
pub mod TopDotLemmas
pub mod ExpectedLemmas
pub mod AreUncountedLemmas
pub mod StateSetsLemmas
mod StackCutsLemmas
pub mod WalksOverLemmas
mod NameWalksLemmas
mod WalkedOverLemmas
mod TopPartLemmas
mod AwaitedLemmas
