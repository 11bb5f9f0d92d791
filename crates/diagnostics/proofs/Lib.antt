pub mod TakenPartLemmas
pub mod PictureLemmas
pub mod PhraseLemmas
pub mod OneReportedLemmas
pub mod ReportAllLemmas
pub mod ReportTreeLemmas
mod LineEndsLemmas
mod KeptTokenLemmas
mod HeadsTakenLemmas
mod MentionsTakenLemmas
pub mod AgainLinesLemmas
pub mod ExplainedNoteLemmas
mod FirstMentionLemmas
pub mod NumberListsLemmas
mod RisingStartsLemmas
mod MentionsUnderLemmas
mod StandingProseLemmas
pub mod NearNamesLemmas
pub mod LaterFaultLemmas
