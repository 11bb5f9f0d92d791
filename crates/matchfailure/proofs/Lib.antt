pub mod AddsVisitsLemmas
pub mod FailureStepsLemmas
pub mod FailureStatesLemmas
pub mod KeptFailuresLemmas
pub mod ByteRunsLemmas
pub mod OutsideLemmas
pub mod StoppedLemmas
pub mod VisitOrderLemmas
pub mod FailingLeafLemmas
pub mod AscendsLemmas
pub mod FarthestWithinLemmas
pub mod LongerFarthestLemmas
mod PositionAfterLemmas
pub mod RuleOfNodeLemmas
mod ReportOrderLemmas
mod EachOnceLemmas
mod UseRowsLemmas
mod ExpectedLinesLemmas
mod FoundLinesLemmas
mod PieceJoinsLemmas
mod FoundFailuresLemmas
mod NoMatchLemmas
