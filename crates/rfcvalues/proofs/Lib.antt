pub mod HexWordLemmas
pub mod RuleSketchLemmas
pub mod SameNamesLemmas
pub mod GroundedRulesLemmas
pub mod ValueMarksLemmas
pub mod OneSketchLemmas
