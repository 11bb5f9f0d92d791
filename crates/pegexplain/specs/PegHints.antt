-- The hints on the grammar of a text.
use Rattle.std.specs.Prelude.{◌≡◌, ℕ, ◌+◌, ◌-◌, Bool, List, [], ◌∷◌, ◌++◌, length, map, take, Option, Some, None}
use Rattle.std.specs.Prelude.{codes, count_by, decimal, slice_get}
use Rattle.std.specs.List.{flat_map}
use Rattle.diagnostics.specs.BodyMentions.{is_kind}
use Rattle.diagnostics.specs.ShownBytes.{cut}
use Rattle.diagnostics.specs.DefinitionHeads.{sign_at}
use Rattle.diagnostics.specs.MentionLines.{lines_mentioned}
use Rattle.diagnostics.specs.NoteLines.{more_reported}
use Rattle.diagnostics.specs.declared.noteplaces.mentions.MentionKind.{MentionKind}
use Rattle.pegprint.specs.Canon.{text_of}
use Rattle.pegread.specs.Definitions.{firsts}
use Rattle.pegread.specs.Pattern.{Pattern, Bytes, Name, Rule}
use Rattle.pegread.specs.Reading.{Reads}
use Rattle.pegread.specs.Tokens.{Tok, AreTokens}
use Rattle.ruletable.specs.Lines.{line_ends}
use Rattle.ruletable.specs.declared.lines.LineRule.TheVariants.{Any}
use Rattle.ruletable.specs.declared.table.NameCase.TheVariants.{Exact}
use Rattle.pegexplain.specs.BodyLeaves.{RuleLeafAt, lone_ends}
use Rattle.pegexplain.specs.FailsNowhere.{SettlesSure}
use Rattle.pegexplain.specs.HeldDefinitions.{HeldAt, held_definitions}
use Rattle.pegexplain.specs.HiddenAlternatives.{HiddenBy, HintAt, hints_in, marks_in, named_literal}
use Rattle.pegexplain.specs.LeftNotes.{SettlesNullable}
use Rattle.pegexplain.specs.PegNotes.{sign_of}
use Rattle.pegexplain.specs.declared.hints.why.Why.{Why}
use Rattle.pegexplain.specs.declared.hints.why.Why.TheVariants.{NeverFails, TakesAny, Prefix}

-- what is reported of the rule
abbrev pub rule_reported : List ℕ → List ℕ
rule_reported rule = codes "alternative never taken in rule '" ++ (cut rule ++ codes "'\n")

-- a literal after the name of its rule
abbrev pub in_parentheses : Option (List ℕ) → List ℕ
in_parentheses None = []
in_parentheses (Some bytes) = codes " (" ++ (cut (text_of (Bytes bytes)) ++ codes ")")

-- an alternative by its canonical text
abbrev pub text_or_empty : List ℕ → List ℕ
text_or_empty [] = codes "an empty alternative"
text_or_empty (b ∷ bs) = cut (b ∷ bs)

-- on which line a mark stands, by the lines of those of each kind
abbrev pub line_of_kind : (MentionKind → List ℕ) → List MentionKind → Option MentionKind → Option ℕ
line_of_kind lines before None = None
line_of_kind lines before (Some kind) = slice_get (lines kind) (count_by (is_kind kind) before)

abbrev pub mark_line : (MentionKind → List ℕ) → List MentionKind → ℕ → Option ℕ
mark_line lines marks position = line_of_kind lines (take position marks) (slice_get marks position)

-- where it is known which literal is the rule of a name
module _ (named : List ℕ → Option (List ℕ)) where
  -- the literal that a name stands for, if it stands for one
  abbrev pub literal_shown : Pattern → List ℕ
  literal_shown (Name name) = in_parentheses (named name)
  literal_shown e = []

  -- a literal, or a name and its literal
  abbrev pub shown_literal : Pattern → List ℕ
  shown_literal e = cut (text_of e) ++ literal_shown e

  abbrev pub later_shown : Why → Pattern → List ℕ
  later_shown NeverFails e = cut (text_of e)
  later_shown TakesAny e = cut (text_of e)
  later_shown Prefix e = shown_literal e

  abbrev pub earlier_shown : Why → Pattern → List ℕ
  earlier_shown NeverFails e = text_or_empty (text_of e) ++ codes ", which cannot fail\n"
  earlier_shown TakesAny e = cut (text_of e) ++ codes ", which takes any byte\n"
  earlier_shown Prefix e = shown_literal e ++ codes "\n"

  -- both alternatives, where the line of the later one is known
  abbrev pub hint_line : Option ℕ → HiddenBy → List ℕ
  hint_line None h = []
  hint_line (Some line) h = codes "  line " ++ (decimal line ++ (codes ": " ++ (later_shown h.why h.later
      ++ (codes " after " ++ earlier_shown h.why h.earlier))))

  -- where it is known on which lines the marks of each kind in a rule stand
  module _ (lines : MentionKind → List ℕ → List ℕ) where
    abbrev pub hint_reported : HintAt → List ℕ
    hint_reported h = rule_reported h.rule
        ++ hint_line (mark_line (λ kind. lines kind h.rule) (marks_in h.body) h.position) h.hidden

    -- the first 16 hints, and how many more there are
    abbrev pub hints_reported : List HintAt → List ℕ
    hints_reported hints = flat_map hint_reported (take 16 hints) ++ more_reported (length hints - 16)

-- where a capture ends that begins nowhere, if its line is known
abbrev pub end_line : Option ℕ → List ℕ
end_line None = []
end_line (Some line) = codes "  line " ++ (decimal line ++ codes ": no \"<\" stands before it in its alternative\n")

-- the line of a definition in an action, if that of the action is known
abbrev pub held_line : Option ℕ → HeldAt → List ℕ
held_line None h = []
held_line (Some line) h = codes "  line " ++ (decimal (line + line_ends Any h.template h.at) ++ (codes ": '"
    ++ (cut h.name ++ (codes "' in the action of line " ++ (decimal line ++ codes "\n")))))

-- where it is known on which lines the marks of each kind in a rule stand
module _ (lines : MentionKind → List ℕ → List ℕ) where
  -- the line of a leaf
  abbrev pub leaf_line : RuleLeafAt → Option ℕ
  leaf_line action = mark_line (λ kind. lines kind action.rule) (marks_in action.body) action.position

  abbrev pub held_reported : HeldAt → List ℕ
  held_reported h = codes "action holds a definition in rule '" ++ (cut h.action.rule ++ (codes "'\n"
      ++ held_line (leaf_line h.action) h))

  -- the first 16 hints on definitions in actions, and how many more there are
  abbrev pub helds_reported : List HeldAt → List ℕ
  helds_reported helds = flat_map held_reported (take 16 helds) ++ more_reported (length helds - 16)

  abbrev pub end_reported : RuleLeafAt → List ℕ
  end_reported end = codes "\">\" without \"<\" in rule '" ++ (cut end.rule ++ (codes "'\n"
      ++ end_line (leaf_line end)))

  -- the first 16 hints on ends, and how many more there are
  abbrev pub ends_reported : List RuleLeafAt → List ℕ
  ends_reported ends = flat_map end_reported (take 16 ends) ++ more_reported (length ends - 16)

-- the hints on the rules, in order, where it is known which expressions fail nowhere, and which may take nothing
abbrev pub hints_of : (List ℕ → Option (List ℕ)) → (Pattern → Bool) → (Pattern → Bool) → List Rule → List HintAt
hints_of named sure null rules = flat_map (λ rule. hints_in named sure null rule.name rule.body [] rule.body) rules

-- on which lines the marks of a kind in the first definition of a name stand
abbrev pub kind_lines : List ℕ → List Tok → MentionKind → List ℕ → List ℕ
kind_lines text tokens kind rule = lines_mentioned Any Exact text (map (sign_at sign_of) tokens) kind rule

-- what is reported of the rules of a text that stand
pub record ArePegHints (text reported : List ℕ) : Type 0 where
  pub tokens : List Tok
  pub are_tokens : AreTokens (length text) text tokens
  pub definitions : List Rule
  pub reads : Reads text definitions
  pub sure : Pattern → Bool
  pub is_sure : SettlesSure (firsts [] definitions) sure
  pub null : Pattern → Bool
  pub is_null : SettlesNullable (firsts [] definitions) null
  pub is : reported ≡ hints_reported (named_literal (firsts [] definitions)) (kind_lines text tokens)
      (hints_of (named_literal (firsts [] definitions)) sure null (firsts [] definitions))
      ++ (helds_reported (kind_lines text tokens) (held_definitions (firsts [] definitions))
      ++ ends_reported (kind_lines text tokens) (lone_ends (firsts [] definitions)))
