-- Where the start rule ends on a text.
use Rattle.std.specs.Prelude.{ℕ, ◌==◌, Bool, false, List, Option, Some, None}
use Rattle.gramcheck.specs.Outcome.{Event, Outcome, Fails, Takes, RuleGives}
use Rattle.memo.specs.declared.found.Found.{Found}
use Rattle.memo.specs.declared.found.Found.TheVariants.{Took, Failed}
use Rattle.pegread.specs.Pattern.{Rule}

-- the outcome of a success that ends there, or of a failure
abbrev pub outcome_at : Option ℕ → List Event → Outcome
outcome_at None events = Fails
outcome_at (Some end) events = Takes end events

-- the start rule succeeds on the text and ends there, or fails
pub record EndsSo (rules : List Rule) (start : ℕ) (x : List ℕ) (end : Option ℕ) : Type 0 where
  pub events : List Event
  pub looked : ℕ
  pub gives : RuleGives rules start x (outcome_at end events) looked

-- it succeeds and takes no byte
abbrev pub takes_no_byte : Outcome → Bool
takes_no_byte Fails = false
takes_no_byte (Takes end events) = end == 0

-- where a success ends
abbrev pub end_of_found : Found → Option ℕ
end_of_found (Took end) = Some end
end_of_found Failed = None
