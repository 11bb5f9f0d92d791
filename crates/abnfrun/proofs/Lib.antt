mod AbnfExplainedNotesLemmas
pub mod AbnfStatesLemmas
pub mod AbnfTextHintsLemmas
pub mod AllRulesLemmas
pub mod AreRedefinitionsLemmas
mod AbnfExplainedByLemmas
pub mod FactoredChoicesLemmas
pub mod FactoredRulesLemmas
pub mod IsAnswerOnLemmas
pub mod IsAnswerToLemmas
pub mod JudgedAlikeLemmas
pub mod OpenAbnfLemmas
pub mod SpellsLengthLemmas
