pub mod AreMarkedLemmas
mod CharExamples
pub mod CharFormLemmas
pub mod CharFrontLemmas
pub mod FirstByteLemmas
mod GrammarExamples
mod GrammarMachineLemmas
mod GrammarSpellingLemmas
pub mod GrammarViabilityLemmas
pub mod IsFaultOfLemmas
pub mod IsShallowLemmas
pub mod IsTableOfLemmas
mod PatternsOfLemmas
mod ReadDefinitionsLemmas
pub mod SaysLemmas
pub mod SliceLemmas
pub mod SpellsBytesLemmas
pub mod SpellsSetLemmas
