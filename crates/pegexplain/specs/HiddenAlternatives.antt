-- Alternatives that no choice comes to, since one before them is taken first
-- (Ford 2004, section 3.3: a choice gives what the first of its alternatives does that succeeds).
use Rattle.std.specs.Prelude.{ℕ, ◌==◌, ◌&&◌, not, Bool, true, false, List, [], ◌∷◌, ◌++◌, length, Option, Some, None}
use Rattle.std.specs.Prelude.{if◌then◌else◌}
use Rattle.std.specs.List.{starts_with}
use Rattle.diagnostics.specs.declared.noteplaces.mentions.MentionKind.{MentionKind}
use Rattle.diagnostics.specs.declared.noteplaces.mentions.MentionKind.TheVariants.{Literal, Use}
use Rattle.pegread.specs.Pattern.{Pattern, Patterns, Any, Bytes, Set, Name, Seq, Choice, Star, Plus, Opt, And, Not, Act}
use Rattle.pegread.specs.Pattern.{Open, Close, none, more, Rule, body_of}
use Rattle.pegexplain.specs.LeftUses.{or_else}
use Rattle.pegexplain.specs.declared.hints.why.Why.{Why}
use Rattle.pegexplain.specs.declared.hints.why.Why.TheVariants.{NeverFails, TakesAny, Prefix}

-- the bytes of an expression that is a literal
abbrev pub literal_bytes : Pattern → Option (List ℕ)
literal_bytes (Bytes bytes) = Some bytes
literal_bytes _ = None

abbrev pub literal_if : Option Pattern → Option (List ℕ)
literal_if None = None
literal_if (Some e) = literal_bytes e

-- the bytes of the literal that is the rule of a name
abbrev pub named_literal : List Rule → List ℕ → Option (List ℕ)
named_literal rules name = literal_if (body_of rules name)

-- the first member of a sequence, and any other expression itself
abbrev pub first_member : Pattern → Pattern
first_member (Seq (more e es)) = e
first_member e = e

abbrev pub is_any : Pattern → Bool
is_any Any = true
is_any _ = false

-- whether the first of two literals is a prefix of the other
abbrev pub is_prefix : Option (List ℕ) → Option (List ℕ) → Bool
is_prefix None whole = false
is_prefix (Some front) None = false
is_prefix (Some front) (Some whole) = starts_with (λ x y. x == y) whole front

-- Why an alternative is taken wherever a later one would be, if it is: whether it fails nowhere, whether it is `.`, and
-- the literal that it is; whether the later one may take nothing, and the literal with which it begins.
abbrev pub why_by : Bool → Bool → Option (List ℕ) → Bool → Option (List ℕ) → Option Why
why_by sure any front null whole = if sure then Some NeverFails else (if any && not null then Some TakesAny else
    (if is_prefix front whole then Some Prefix else None))

-- an alternative, whether it fails nowhere, and the literal that it is
pub record AlternativeAt : Type 0 where
  pub e : Pattern
  pub sure : Bool
  pub literal : Option (List ℕ)

-- an alternative that is never taken: what is shown of it, the one before it that is taken first, and why
pub record HiddenBy : Type 0 where
  pub later : Pattern
  pub earlier : Pattern
  pub why : Why

-- what is shown of an alternative: if it is hidden by a literal, the one that begins it
abbrev pub shown_of : Why → Pattern → Pattern
shown_of NeverFails e = e
shown_of TakesAny e = e
shown_of Prefix e = first_member e

abbrev pub hidden_if : Pattern → Pattern → Option Why → Option HiddenBy
hidden_if d e None = None
hidden_if d e (Some why) = Some (record { later = shown_of why e; earlier = d; why = why })

-- by the first of the alternatives before it, given what is known of the later one
abbrev pub hidden_by : Pattern → Bool → Option (List ℕ) → List AlternativeAt → Option HiddenBy
hidden_by e null whole [] = None
hidden_by e null whole (a ∷ before) =
    or_else (hidden_if a.e e (why_by a.sure (is_any a.e) a.literal null whole)) (hidden_by e null whole before)

abbrev mutual
  -- what stands in an expression, in the order of the text: names that are used, and what else takes or does something
  pub marks_in : Pattern → List MentionKind
  marks_in Any = Literal ∷ []
  marks_in (Bytes bytes) = Literal ∷ []
  marks_in (Set test) = Literal ∷ []
  marks_in (Name name) = Use ∷ []
  marks_in (Seq es) = marks_in_all es
  marks_in (Choice es) = marks_in_all es
  marks_in (Star e) = marks_in e
  marks_in (Plus e) = marks_in e
  marks_in (Opt e) = marks_in e
  marks_in (And e) = marks_in e
  marks_in (Not e) = marks_in e
  marks_in (Act template) = Literal ∷ []
  marks_in Open = Literal ∷ []
  marks_in Close = Literal ∷ []

  pub marks_in_all : Patterns → List MentionKind
  marks_in_all none = []
  marks_in_all (more e es) = marks_in e ++ marks_in_all es

-- a hint: a rule and its body, how many marks stand before the alternative, and by which one it is hidden
pub record HintAt : Type 0 where
  pub rule : List ℕ
  pub body : Pattern
  pub position : ℕ
  pub hidden : HiddenBy

-- the hint on an alternative in which these marks stand, if any do, and if it is hidden
abbrev pub hint_if : List ℕ → Pattern → ℕ → List MentionKind → Option HiddenBy → List HintAt
hint_if rule body position [] hidden = []
hint_if rule body position (m ∷ marks) None = []
hint_if rule body position (m ∷ marks)
    (Some hidden) = record { rule = rule; body = body; position = position; hidden = hidden } ∷ []

-- where it is known which literal is the rule of a name, which expressions fail nowhere, and which may take nothing
module _ (named : List ℕ → Option (List ℕ)) (sure null : Pattern → Bool) where
  -- the literal that an expression is, or its rule
  abbrev pub literal_of : Pattern → Option (List ℕ)
  literal_of (Name name) = named name
  literal_of e = literal_bytes e

  abbrev pub described : Pattern → AlternativeAt
  described e = record { e = e; sure = sure e; literal = literal_of e }

  -- by which of the alternatives before it one is hidden
  abbrev pub hiding : List AlternativeAt → Pattern → Option HiddenBy
  hiding before e = hidden_by e (null e) (literal_of (first_member e)) before

  module _ (rule : List ℕ) (body : Pattern) where
    abbrev mutual
      -- the hints on the alternatives in an expression of a rule's body, after these marks
      pub hints_in : List MentionKind → Pattern → List HintAt
      hints_in marks Any = []
      hints_in marks (Bytes bytes) = []
      hints_in marks (Set test) = []
      hints_in marks (Name name) = []
      hints_in marks (Seq es) = member_hints marks es
      hints_in marks (Choice es) = alternative_hints marks [] es
      hints_in marks (Star e) = hints_in marks e
      hints_in marks (Plus e) = hints_in marks e
      hints_in marks (Opt e) = hints_in marks e
      hints_in marks (And e) = hints_in marks e
      hints_in marks (Not e) = hints_in marks e
      hints_in marks (Act template) = []
      hints_in marks Open = []
      hints_in marks Close = []

      pub member_hints : List MentionKind → Patterns → List HintAt
      member_hints marks none = []
      member_hints marks (more e es) = hints_in marks e ++ member_hints (marks ++ marks_in e) es

      -- those on alternatives after others, each one's own before those within it
      pub alternative_hints : List MentionKind → List AlternativeAt → Patterns → List HintAt
      alternative_hints marks before none = []
      alternative_hints marks before (more e es) =
          hint_if rule body (length marks) (marks_in e) (hiding before e)
          ++ (hints_in marks e ++ alternative_hints (marks ++ marks_in e) (before ++ described e ∷ []) es)
