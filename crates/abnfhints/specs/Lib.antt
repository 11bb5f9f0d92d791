pub mod AbnfHints
pub mod AbnfTrees
pub mod LineEnds
pub mod WithoutLetter
