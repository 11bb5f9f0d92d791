mod BacksLemmas
mod DistanceLemmas
mod FillsLemmas
mod RoundsLemmas
mod ShortChainsLemmas
pub mod AreListsLemmas
pub mod AtLemmas
pub mod ClosesLemmas
pub mod ContainsLemmas
pub mod FinishesLemmas
pub mod GoesOnLemmas
pub mod IsDerivedLemmas
pub mod IsMarkedLemmas
pub mod JoinsLemmas
pub mod LeadsLemmas
pub mod LeastLemmas
pub mod MeetsLemmas
pub mod OpensLemmas
pub mod ReachLemmas
pub mod RowsOfLemmas
pub mod TallyLemmas
pub mod TimesLemmas
pub mod ReportedLemmas
pub mod IterationsLemmas
pub mod AreMarksLemmas
pub mod ChosenLemmas
pub mod IsAddedLemmas
pub mod IsPositionLemmas
pub mod IsScannedLemmas
