pub mod AddedLemmas
pub mod AppLemmas
mod EntryLemmas
mod FileRunsLemmas
pub mod AreWholeLemmas
pub mod AskLemmas
mod InputLemmas
pub mod JobStatesLemmas
mod SizesLemmas
