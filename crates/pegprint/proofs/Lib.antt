mod ByteShapeLemmas
mod CanonExamples
mod ClassTextLemmas
mod CutsLemmas
pub mod LeftOfLemmas
mod ListedRulesLemmas
pub mod ReadBackLemmas
pub mod ReadsFormedLemmas
pub mod SameWordsLemmas
pub mod StandLemmas
pub mod CanStandLemmas
pub mod TakenTokensLemmas
pub mod PegExplainedLemmas
pub mod PegWhyLemmas
pub mod PegAllFaultLemmas
mod ReportsKindsLemmas
