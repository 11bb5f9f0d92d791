pub mod BufferContents
pub mod Filled
pub mod MemoryRun
pub mod PlannedRun
