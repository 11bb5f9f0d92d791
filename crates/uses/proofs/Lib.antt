mod AreBytesLemmas
mod ChoiceLemmas
mod CommentLemmas
mod CountTokensLemmas
mod LoadedAbnfLemmas
mod TakenLemmas
