pub mod ListAnswers
pub mod ListWords
pub mod ListedLines
pub mod ListModes
pub mod ListRefusals
pub mod CoverGoals
pub mod CoverLists
