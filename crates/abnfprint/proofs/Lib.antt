mod CanonicalAbnfExamples
pub mod AbnfCutsLemmas
pub mod AbnfListedLemmas
pub mod AbnfReadBackLemmas
pub mod AbnfSpelledLemmas
pub mod FormedAbnfLemmas
pub mod LeftTextLemmas
pub mod PrintedLimitLemmas
pub mod PrintedNumberLemmas
pub mod PrintedTableLemmas
pub mod PrintedTextLemmas
pub mod PrintedTokenLemmas
pub mod SameWordLemmas
