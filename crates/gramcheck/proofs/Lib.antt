pub mod AreNotesLemmas
pub mod ComesBackLemmas
pub mod IsAnalysedLemmas
pub mod IsLeftLemmas
pub mod JudgeLemmas
pub mod LeftStepLemmas
pub mod LongerInputLemmas
pub mod LoopMarksLemmas
mod NotesExamples
pub mod NullIfLemmas
pub mod NullableLemmas
pub mod OneOutcomeLemmas
mod OutcomeExamples
pub mod PrintMarksLemmas
pub mod RiseLemmas
pub mod RuleNameLemmas
pub mod ShorterInputLemmas
pub mod SomeOutcomeLemmas
pub mod StartRuleLemmas
pub mod StepsToBodyLemmas
pub mod UsesLemmas
