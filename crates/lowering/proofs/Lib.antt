pub mod AreNodesReportedLemmas
pub mod BeforeLemmas
pub mod CappedMostLemmas
pub mod FlatCutLemmas
pub mod FlatNumbersLemmas
pub mod IsEmptyRepeatLemmas
pub mod LoweredLemmas
pub mod NamesSettleLemmas
pub mod NodeRunsLemmas
pub mod OnLineLemmas
pub mod ReachedLemmas
pub mod RuleDerivesLemmas
pub mod RuleNodeLemmas
pub mod SpellAllLemmas
pub mod SettlesLemmas
pub mod AreNullAlikeLemmas
pub mod ArePrunedLemmas
pub mod ContextLemmas
pub mod HasItemLemmas
pub mod KeepsLemmas
pub mod LiveLemmas
pub mod NothingLemmas
pub mod PruneLemmas
pub mod PruneRulesLemmas
pub mod AwaitedItemsLemmas
pub mod AwaitsLemmas
pub mod ArePlantedLemmas
pub mod PrunedOneLemmas
mod AwaitsElementLemmas
mod MoreMarksLemmas
mod RuleStartsLemmas
