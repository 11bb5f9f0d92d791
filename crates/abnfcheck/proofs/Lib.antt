pub mod AbnfNotesLemmas
pub mod AimLemmas
mod BeginsMemberLemmas
mod BrokenNeedsLemmas
mod ChainEndsLemmas
mod DerivesDecidedLemmas
mod ElementNeedsLemmas
mod FiniteLeastLemmas
mod GraphLemmas
pub mod IsPathLemmas
pub mod JoinLemmas
pub mod LiesLemmas
mod NameChainLemmas
mod NameIdsLemmas
mod NameMarksLemmas
pub mod RuleIdLemmas
pub mod UnrolledRulesLemmas
mod WithCoreLemmas
pub mod YieldsLemmas
mod CopiedRulesLemmas
pub mod ReachedGrammarLemmas
mod NewSymbolsLemmas
mod AlikeSymbolsLemmas
