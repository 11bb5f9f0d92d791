pub mod StatementLines
pub mod HexWords
pub mod RuleSketches
pub mod AssignedValues
pub mod GroundedNeeds
