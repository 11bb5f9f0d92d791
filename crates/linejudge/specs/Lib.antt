pub mod InputLines
pub mod LineRefusals
pub mod LineSteps
