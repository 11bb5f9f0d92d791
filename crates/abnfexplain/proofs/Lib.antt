pub mod AbnfStandLemmas
pub mod BracketLemmas
mod ChainLinesLemmas
pub mod LargeRunLemmas
pub mod AbnfCanStandLemmas
pub mod TakenMarksLemmas
mod ReportsFormsLemmas
pub mod AbnfExplainedLemmas
pub mod AbnfWhyLemmas
pub mod AbnfAllFaultLemmas
