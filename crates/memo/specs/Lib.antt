pub mod Entries
pub mod Parts
pub mod Run
pub mod KeyLog
pub mod PackedTasks
pub mod TaskLinks
pub mod LogEntries
