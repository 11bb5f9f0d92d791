pub mod AnswersAlone
pub mod Choices
pub mod CommentLines
pub mod Loaded
pub mod LoadedAbnf
pub mod Printed
pub mod RunsAlone
pub mod Taken
