-- What stands in the body of a rule, in the order of the text, and where a capture ends that begins nowhere.
use Rattle.std.specs.Prelude.{ℕ, ◌+◌, ◌||◌, ◌&&◌, not, Bool, true, false, List, [], ◌∷◌, ◌++◌, if◌then◌else◌}
use Rattle.std.specs.List.{flat_map}
use Rattle.pegread.specs.Pattern.{Pattern, Patterns, Any, Bytes, Set, Name, Seq, Choice, Star, Plus, Opt, And, Not, Act}
use Rattle.pegread.specs.Pattern.{Open, Close, none, more, Rule}

abbrev mutual
  -- `<` stands in an expression
  pub begins_in : Pattern → Bool
  begins_in Any = false
  begins_in (Bytes bytes) = false
  begins_in (Set test) = false
  begins_in (Name name) = false
  begins_in (Seq es) = begins_in_any es
  begins_in (Choice es) = begins_in_any es
  begins_in (Star e) = begins_in e
  begins_in (Plus e) = begins_in e
  begins_in (Opt e) = begins_in e
  begins_in (And e) = begins_in e
  begins_in (Not e) = begins_in e
  begins_in (Act template) = false
  begins_in Open = true
  begins_in Close = false

  pub begins_in_any : Patterns → Bool
  begins_in_any none = false
  begins_in_any (more e es) = begins_in e || begins_in_any es

-- an expression without operands, and whether `<` stands before it, outside alternatives beside its own
pub record LeafAt : Type 0 where
  pub e : Pattern
  pub begun : Bool

abbrev mutual
  -- the leaves of an expression, where `<` stands before it or not
  pub leaves_in : Bool → Pattern → List LeafAt
  leaves_in begun Any = record { e = Any; begun = begun } ∷ []
  leaves_in begun (Bytes bytes) = record { e = Bytes bytes; begun = begun } ∷ []
  leaves_in begun (Set test) = record { e = Set test; begun = begun } ∷ []
  leaves_in begun (Name name) = record { e = Name name; begun = begun } ∷ []
  leaves_in begun (Seq es) = member_leaves begun es
  leaves_in begun (Choice es) = alternative_leaves begun es
  leaves_in begun (Star e) = leaves_in begun e
  leaves_in begun (Plus e) = leaves_in begun e
  leaves_in begun (Opt e) = leaves_in begun e
  leaves_in begun (And e) = leaves_in begun e
  leaves_in begun (Not e) = leaves_in begun e
  leaves_in begun (Act template) = record { e = Act template; begun = begun } ∷ []
  leaves_in begun Open = record { e = Open; begun = begun } ∷ []
  leaves_in begun Close = record { e = Close; begun = begun } ∷ []

  pub member_leaves : Bool → Patterns → List LeafAt
  member_leaves begun none = []
  member_leaves begun (more e es) = leaves_in begun e ++ member_leaves (begun || begins_in e) es

  -- `<` in one alternative stands before none of the others
  pub alternative_leaves : Bool → Patterns → List LeafAt
  alternative_leaves begun none = []
  alternative_leaves begun (more e es) = leaves_in begun e ++ alternative_leaves begun es

abbrev pub is_close : Pattern → Bool
is_close Close = true
is_close _ = false

-- `>` without `<` before it
abbrev pub is_lone_end : LeafAt → Bool
is_lone_end leaf = is_close leaf.e && not leaf.begun

-- a leaf in a rule: the rule's body, and how many leaves stand before it
pub record RuleLeafAt : Type 0 where
  pub rule : List ℕ
  pub body : Pattern
  pub position : ℕ

-- a leaf, if it is such an end
abbrev pub lone_end_if : RuleLeafAt → LeafAt → List RuleLeafAt
lone_end_if rule_leaf leaf = if is_lone_end leaf then rule_leaf ∷ [] else []

-- those among leaves after so many
abbrev pub ends_among : List ℕ → Pattern → ℕ → List LeafAt → List RuleLeafAt
ends_among rule body position [] = []
ends_among rule body position (leaf ∷ leaves) =
    lone_end_if (record { rule = rule; body = body; position = position }) leaf
    ++ ends_among rule body (position + 1) leaves

-- the ends without a beginning in the rules, in order
abbrev pub lone_ends_in : List ℕ → Pattern → List RuleLeafAt
lone_ends_in rule body = ends_among rule body 0 (leaves_in false body)

abbrev pub lone_ends : List Rule → List RuleLeafAt
lone_ends rules = flat_map (λ rule. lone_ends_in rule.name rule.body) rules
