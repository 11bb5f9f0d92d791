pub mod GainsLemmas
pub mod IsAfterInLemmas
pub mod IsFlatVerdictLemmas
pub mod DotTableLemmas
pub mod RowChartLemmas
pub mod RowIndexesLemmas
pub mod RowItemsLemmas
pub mod RowDotsLemmas
pub mod RowStepLemmas
pub mod RowWorklistLemmas
pub mod LenLemmas
pub mod RowMembersLemmas
pub mod RowSetsLemmas
pub mod WordInLemmas
mod OldDotsLemmas
