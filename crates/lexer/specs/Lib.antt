pub mod GrammarLimits
pub mod Pieces
pub mod ReadBodies
pub mod SliceEnds
pub mod TokenLists
pub mod Viability
