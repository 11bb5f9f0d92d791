pub mod FoundAtLemmas
pub mod PartsLemmas
pub mod RunLemmas
pub mod KeyLogLemmas
pub mod LogEntriesLemmas
pub mod TaskLinksLemmas
