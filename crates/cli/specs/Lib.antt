pub mod Asked
pub mod Command
pub mod FileRuns
pub mod Inputs
pub mod Jobs
pub mod Parsing
pub mod LimitWords
pub mod WrittenOut
