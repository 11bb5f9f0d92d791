pub mod JudgeFrontLemmas
pub mod KeptLineLemmas
pub mod LineRunLemmas
pub mod LineStepLemmas
pub mod LinesLemmas
pub mod LinesReplyLemmas
pub mod NextLineLemmas
