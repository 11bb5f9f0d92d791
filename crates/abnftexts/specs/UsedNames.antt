-- The names that rules use, and those that are not defined.
use Rattle.std.specs.Prelude.{◌≡◌, ℕ, ◌||◌, ◌&&◌, not, Bool, List, [], ◌∷◌, ◌++◌, None, codes, map, take, if◌then◌else◌}
use Rattle.std.specs.List.{enumerate_from, flat_map, list_any}
use Rattle.lexer.specs.TokenLists.{Tok}
use Rattle.ruletable.specs.Rules.{same_name}
use Rattle.ruletable.specs.declared.lines.LineRule.TheVariants.{Lf}
use Rattle.ruletable.specs.declared.table.NameCase.TheVariants.{Fold}
use Rattle.diagnostics.specs.BodyMentions.{MentionedAt, is_kind, mentions_in}
use Rattle.diagnostics.specs.DefinitionHeads.{sign_at}
use Rattle.diagnostics.specs.declared.noteplaces.mentions.MentionKind.TheVariants.{Use}
use Rattle.abnfread.specs.CoreRules.{core_names}
use Rattle.abnfread.specs.MarkedTokens.{AreTokens}
use Rattle.abnfread.specs.declared.kind.AbnfKind.{AbnfKind}
use Rattle.abnfexplain.specs.AbnfNoteLines.{sign_of}
use Rattle.abnftexts.specs.GivenRules.{RuleGiven}
use Rattle.abnftexts.specs.RulesGathered.{RuleLines}
use Rattle.abnftexts.specs.TextPositions.{number_at, position_shown}

-- a name that a rule uses: the name of the text, the line, and the name as it is spelled there
pub record UsedName : Type 0 where
  pub text : List ℕ
  pub line : ℕ
  pub name : List ℕ

-- the use that a mention in the lines of a rule is, if it is one
abbrev pub used_at : RuleLines → MentionedAt → List UsedName
used_at position m = if is_kind Use m.kind then record {
  text = position.name;
  line = number_at position.lines m.line;
  name = m.text;
} ∷ [] else []

-- the names that a rule uses, in order: those of the tokens of what is written that stand before no `=` or `=/`
pub record AreRuleUses (position : RuleLines) (uses : List UsedName) : Type 0 where
  pub tokens : List (Tok AbnfKind)
  pub are_tokens : AreTokens position.text tokens
  pub are : uses ≡ flat_map (used_at position) (mentions_in Lf position.text None (map (sign_at sign_of) tokens))

-- those that rules use, one after another
pub data AreNameUses : List RuleLines → List UsedName → Type 0 where
  no_rules : AreNameUses [] []
  next_uses : {position : RuleLines} {positions : List RuleLines} {here after : List UsedName}
      → AreRuleUses position here
      → AreNameUses positions after → AreNameUses (position ∷ positions) (here ++ after)

-- a rule has the name, or a core rule (RFC 5234, appendix B.1)
abbrev pub is_known_name : List RuleGiven → List ℕ → Bool
is_known_name rules name = list_any (λ rule. same_name Fold name rule.name) rules
    || list_any (same_name Fold name) core_names

-- a use reports that the name is not defined, if no use before it has the name
abbrev pub reports_undefined : List RuleGiven → List UsedName → UsedName → Bool
reports_undefined rules before u = not (is_known_name rules u.name)
    && not (list_any (λ other. same_name Fold u.name other.name) before)

abbrev pub undefined_line : UsedName → List ℕ
undefined_line u = position_shown u.text u.line ++ (codes ": '" ++ (u.name ++ codes "' is not defined\n"))

-- the line of a use that reports so
abbrev pub use_reported : List RuleGiven → List UsedName → UsedName → List ℕ
use_reported rules before u = if reports_undefined rules before u then undefined_line u else []

-- the reports of names that are not defined: the first use of each, in the order of the uses
abbrev pub undefined_reported : List RuleGiven → List UsedName → List ℕ
undefined_reported rules uses = flat_map (λ p. use_reported rules (take p.0 uses) p.1) (enumerate_from 0 uses)
