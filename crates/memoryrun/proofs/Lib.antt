pub mod BufferSinkLemmas
mod GhostBytesLemmas
mod MemoryRunLemmas
mod PlannedRunLemmas
