-- What explains a note on the grammar of a text.
use Rattle.std.specs.Prelude.{◌≡◌, ◌||◌, ℕ, Bool, false, List, [], ◌++◌, Option, None, length, map}
use Rattle.diagnostics.specs.BodyMentions.{mentioned_at, mentions_in}
use Rattle.diagnostics.specs.DefinitionHeads.{definitions_in, sign_at}
use Rattle.diagnostics.specs.ExplainedNotes.{ArePositions, IsNoteExplained}
use Rattle.diagnostics.specs.MentionLines.{lines_mentioned}
use Rattle.diagnostics.specs.NearNames.{IsMeantIf, is_before_limit}
use Rattle.diagnostics.specs.NoteLines.{defined_line}
use Rattle.diagnostics.specs.ReportedTrees.{TreeRule}
use Rattle.diagnostics.specs.UseLines.{is_given}
use Rattle.diagnostics.specs.declared.noteplaces.mentions.MentionKind.TheVariants.{Repeat, Use}
use Rattle.diagnostics.specs.declared.noteplaces.positions.Positions.{Positions}
use Rattle.diagnostics.specs.declared.noteplaces.sign.Sign.{Sign}
use Rattle.diagnostics.specs.declared.noteplaces.sign.Sign.TheVariants.{Name, Defines, Repeats, Other}
use Rattle.diagnostics.specs.declared.noteplaces.sign.Sign.TheVariants as signs
use Rattle.pegread.specs.Definitions.{firsts, id_in}
use Rattle.pegread.specs.Kinds.{is_end}
use Rattle.pegread.specs.Pattern.{Pattern, Rule, body_of}
use Rattle.pegread.specs.PegViews.{rules_of}
use Rattle.pegread.specs.Reading.{Reads}
use Rattle.pegread.specs.Slices.{White, First}
use Rattle.pegread.specs.Tokens.{Tok, AreTokens}
use Rattle.pegread.specs.declared.expr.Expr.{Expr}
use Rattle.pegread.specs.declared.kind.Kind.{Kind}
use Rattle.pegread.specs.declared.kind.Kind.TheVariants.{Ident, Arrow, Star, Plus, Literal, Class, Dot, Action, Begin}
use Rattle.pegread.specs.declared.kind.Kind.TheVariants.{EndCap}
use Rattle.ruletable.specs.Notes.{Said}
use Rattle.ruletable.specs.Rules as table
use Rattle.ruletable.specs.declared.lines.LineRule.TheVariants.{Any}
use Rattle.ruletable.specs.declared.note.NoteKind.{NoteKind}
use Rattle.ruletable.specs.declared.note.NoteKind.TheVariants.{Undefined, LeftRecursion, Loop}
use Rattle.ruletable.specs.declared.table.NameCase.TheVariants.{Exact}
use Rattle.gramcheck.specs.GrammarNotes.{AreMarks}
use Rattle.gramcheck.specs.Left.{IsLeftRecursive, Nullable}
use Rattle.gramcheck.specs.Uses.{names_in, rule_names}
use Rattle.pegexplain.specs.FailsNowhere.{FailsNowhere}
use Rattle.pegexplain.specs.LeftNotes.{AreLeftLines, EndsEarly, SettlesNullable}
use Rattle.pegexplain.specs.MeantRules.{all_names, is_early_name, used_names}
use Rattle.pegexplain.specs.PegLoops.{IsLoopLineIf}
use Rattle.pegexplain.specs.declared.positions.PegPositions.{PegPositions}

-- what a token is to the definitions of a grammar: a name right before an arrow is defined, and any other is used; `*`
-- and `+` repeat what stands before them; the other tokens that are expressions count as literals
abbrev pub sign_of : Kind → Sign
sign_of Ident = Name
sign_of Arrow = Defines
sign_of Star = Repeats
sign_of Plus = Repeats
sign_of Literal = signs.Literal
sign_of Class = signs.Literal
sign_of Dot = signs.Literal
sign_of Action = signs.Literal
sign_of Begin = signs.Literal
sign_of EndCap = signs.Literal
sign_of _ = Other

-- the definitions, as the tokens report them
abbrev pub tree_rules : List Rule → List TreeRule
tree_rules definitions =
    map (λ rule. record { name = rule.name; start = rule.span.start; adds = false; uses = names_in rule.body })
    definitions

-- on which lines the repetitions of the first definition of a name have their marks
abbrev pub marked_lines : List ℕ → List Tok → List ℕ → List ℕ
marked_lines text tokens name = lines_mentioned Any Exact text (map (sign_at sign_of) tokens) Repeat name

-- the line of the first repetition, in the rule of that name, of what may take nothing
pub record IsLoopReported (text : List ℕ) (name line : List ℕ) : Type 0 where
  pub tokens : List Tok
  pub are_tokens : AreTokens (length text) text tokens
  pub definitions : List Rule
  pub reads : Reads text definitions
  pub is : IsLoopLineIf (firsts [] definitions) (marked_lines text tokens name)
      (body_of (firsts [] definitions) name) line

-- on which lines the names in the first definition of a name stand
abbrev pub named_lines : List ℕ → List Tok → List ℕ → List ℕ
named_lines text tokens name = lines_mentioned Any Exact text (map (sign_at sign_of) tokens) Use name

-- where the rule of a name is defined, as after a note on a rule that is not used
abbrev pub defined_lines : List ℕ → List Tok → List ℕ → List ℕ
defined_lines text tokens name = defined_line Exact (definitions_in Any text (map (sign_at sign_of) tokens)) name

-- the steps of the way from the left-recursive rule of that name back to itself, if it is among the first ones
pub record IsLeftReported (text : List ℕ) (name line : List ℕ) : Type 0 where
  pub tokens : List Tok
  pub are_tokens : AreTokens (length text) text tokens
  pub definitions : List Rule
  pub reads : Reads text definitions
  pub null : Pattern → Bool
  pub reports : SettlesNullable (firsts [] definitions) null
  pub recursive : List Bool
  pub are_recursive : AreMarks (IsLeftRecursive (firsts [] definitions)) (firsts [] definitions) recursive
  pub is : AreLeftLines (firsts [] definitions) null (named_lines text tokens) (defined_lines text tokens name)
      recursive (id_in (firsts [] definitions) name) line

-- the names that the definitions of a text use, in its order
abbrev pub names_mentioned : List ℕ → List Tok → List (List ℕ)
names_mentioned text tokens = used_names (mentions_in Any text None (map (sign_at sign_of) tokens))

-- the line of the first rule whose name is one slip away from that name, if that is early and there is one
pub record IsMeantReported (text : List ℕ) (start : Option (List ℕ)) (name line : List ℕ) : Type 0 where
  pub tokens : List Tok
  pub are_tokens : AreTokens (length text) text tokens
  pub definitions : List Rule
  pub reads : Reads text definitions
  pub is : IsMeantIf (is_early_name start (rule_names (firsts [] definitions)) (names_mentioned text tokens) name)
      (rule_names (firsts [] definitions)) name line

-- they follow notes on names that no rule has, on left-recursive rules, and on rules that repeat what may take nothing
abbrev pub IsFollowingLine : List ℕ → Option (List ℕ) → NoteKind → List ℕ → List ℕ → Type 0
IsFollowingLine text start Undefined name line = IsMeantReported text start name line
IsFollowingLine text start LeftRecursion name line = IsLeftReported text name line
IsFollowingLine text start Loop name line = IsLoopReported text name line
IsFollowingLine text start _ name line = line ≡ []

-- the lines after a note, where that name is given for the start rule
pub record ExplainsNote (text : List ℕ) (start : Option (List ℕ)) (note : Said) (why : List ℕ) : Type 0 where
  pub lines : List ℕ
  pub line : List ℕ
  pub explains : IsNoteExplained White First is_end sign_of Any Exact text start note lines
  pub after : IsFollowingLine text start note.kind note.name line
  pub is : why ≡ lines ++ line

-- where a text defines rules and mentions them
abbrev pub AreTextPositions : List ℕ → Positions → Type 0
AreTextPositions = ArePositions White First is_end sign_of Any Exact

-- the code's rules are those of a text
pub record IsPegRead (text : List ℕ) (rules : table.Rules Expr) : Type 0 where
  pub definitions : List Rule
  pub reads : Reads text definitions
  pub exact : rules.names ≡ Exact
  pub rules_are : rules_of rules ≡ firsts [] definitions

-- The code's positions are those of a text, with its rules, their names and those that no rule has, marks of the rules
-- that may take nothing, of those that fail nowhere and of those that are left-recursive, and where the first eight of
-- these end.
pub record ArePegPositions (text : List ℕ) (found : PegPositions) : Type 0 where
  pub positions : AreTextPositions text found.positions
  pub rules : IsPegRead text found.rules
  pub compares : found.names.names ≡ Exact
  pub named : table.names_of found.names ≡ all_names (table.names_of found.rules)
      (used_names (map mentioned_at found.positions.mentions.items))
  pub marks : AreMarks (λ rule. Nullable (rules_of found.rules) rule.body) (rules_of found.rules) found.nulls.items
  pub sure : AreMarks (λ rule. FailsNowhere (rules_of found.rules) rule.body) (rules_of found.rules) found.sure.items
  pub recursive : AreMarks (IsLeftRecursive (rules_of found.rules)) (rules_of found.rules) found.recursive.items
  pub ways : EndsEarly found.recursive.items found.ways

-- whether the code's positions report that a name is early. It serves private helpers alone.
abbrev pub is_early_by : Option (List ℕ) → PegPositions → List ℕ → Bool
is_early_by start found name = is_given Exact start name
    || is_before_limit (length found.rules.rules) (table.find_in found.names name)
