-- Parsing expressions (Ford 2004, section 3), with the captures and actions of peg(1).
use Rattle.std.specs.Prelude.{ℕ, Bool, List, [], ◌∷◌, Option, Some, None, bytes_eq, if◌then◌else◌}
use Rattle.ruletable.specs.Rules as table

mutual
  pub data Pattern : Type 0 where
    -- any one byte
    Any : Pattern
    -- these bytes
    Bytes : List ℕ → Pattern
    -- one byte that the test accepts
    Set : (ℕ → Bool) → Pattern
    -- the rule of that name
    Name : List ℕ → Pattern
    -- all members, in order
    Seq : Patterns → Pattern
    -- the first alternative that succeeds
    Choice : Patterns → Pattern
    -- as often as it succeeds
    Star : Pattern → Pattern
    -- as often as it succeeds, but at least once
    Plus : Pattern → Pattern
    -- once, if it succeeds
    Opt : Pattern → Pattern
    -- whether it succeeds
    And : Pattern → Pattern
    -- whether it fails
    Not : Pattern → Pattern
    -- an action, with its template
    Act : List ℕ → Pattern
    -- the start and the end of a capture
    Open : Pattern
    Close : Pattern

  -- the members of a sequence, or the alternatives of a choice
  pub data Patterns : Type 0 where
    none : Patterns
    more : Pattern → Patterns → Patterns

-- a rule: its name, its body, and where the name of its definition stands
abbrev pub Rule : Type 0
Rule = table.Rule Pattern

-- the body of the first rule of that name
abbrev pub body_of : List Rule → List ℕ → Option Pattern
body_of [] name = None
body_of (rule ∷ rules) name = if bytes_eq rule.name name then Some rule.body else body_of rules name
