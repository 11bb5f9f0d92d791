pub mod CompareLemmas
pub mod FilledEscapedLemmas
pub mod FirstPieceLemmas
pub mod IsPrintedLemmas
pub mod MatchStepLemmas
pub mod NodeShapeLemmas
pub mod OperandLemmas
mod PrintedTextExamples
pub mod WrittenTextLemmas
pub mod NodeGivesLemmas
pub mod GivesLemmas
pub mod AsksLemmas
pub mod VisitsLemmas
pub mod LookedLemmas
pub mod CodeLemmas
