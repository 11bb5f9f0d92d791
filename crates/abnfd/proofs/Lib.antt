mod OpenedSideLemmas
pub mod CheckedTextLemmas
pub mod CompareAnswersLemmas
pub mod CompareWordsLemmas
pub mod RulesByNameLemmas
pub mod StatusLemmas
pub mod UnchangedRulesLemmas
