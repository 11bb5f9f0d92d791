pub mod DotTables
pub mod RowItems
pub mod RowCharts
pub mod RowIndexes
pub mod RowMembers
pub mod RowSets
pub mod OldDots
