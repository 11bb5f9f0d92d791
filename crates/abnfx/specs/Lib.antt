pub mod FlagWords
pub mod JoinAnswers
pub mod JoinWords
pub mod TextsRead
