-- Names in angle brackets (RFC 5234, section 2.1 allows them round a name): `<name>` is written as `name`, where a rule
-- has that name, and a comment before the rule has each line that is written otherwise.
use Rattle.std.specs.Prelude.{◌≡◌, ◌≢◌, ℕ, ◌-◌, ◌&&◌, not, min, bytes_eq, Bool, true, false, List, [], ◌∷◌, ◌++◌, codes}
use Rattle.std.specs.Prelude.{length, take, drop, if◌then◌else◌}
use Rattle.lexer.specs.TokenLists.{Tok, kind_of, slice_of, start_of, end_of}
use Rattle.ruletable.specs.Rules.{same_name}
use Rattle.ruletable.specs.declared.table.NameCase.TheVariants.{Fold}
use Rattle.abnfread.specs.MarkedTokens.{AreTokens}
use Rattle.abnfread.specs.declared.kind.AbnfKind.{AbnfKind}
use Rattle.abnfread.specs.declared.kind.AbnfKind.TheVariants.{Prose}
use Rattle.abnfblocks.specs.RuleLines.{begins_letter, margin_of}
use Rattle.abnfblocks.specs.TextLines.{NumberedLine}
use Rattle.abnftexts.specs.GivenRules.{RuleGiven, is_same_rule}
use Rattle.abnftexts.specs.RulesGathered.{RuleLines, RulesGathered}
use Rattle.abnftexts.specs.TextRules.{SpellRule}
use Rattle.abnftexts.specs.UsedNames.{is_known_name}

abbrev pub is_prose_kind : AbnfKind → Bool
is_prose_kind Prose = true
is_prose_kind _ = false

-- what stands between the first byte and the last one
abbrev pub inside_of : List ℕ → List ℕ
inside_of slice = drop 1 (take (length slice - 1) slice)

-- A token as it is written in the rule of that name: a name that is known, and is not its own, loses angle brackets.
abbrev pub token_named : (List ℕ → Bool) → List ℕ → Tok AbnfKind → List ℕ
token_named known own x =
    if is_prose_kind (kind_of x)
    && (known (inside_of (slice_of x)) && not (same_name Fold own (inside_of (slice_of x))))
    then inside_of (slice_of x) else slice_of x

-- the text from that position on, where these are its tokens there: what stands between tokens stays
abbrev pub tokens_named : (List ℕ → Bool) → List ℕ → List ℕ → ℕ → List (Tok AbnfKind) → List ℕ
tokens_named known own text at [] = []
tokens_named known own text at (x ∷ xs) =
    drop at (take (start_of x) text) ++ (token_named known own x ++ tokens_named known own text (end_of x) xs)

-- a line, and what is written for it
pub record IsLineNamed (known : List ℕ → Bool) (own line new : List ℕ) : Type 0 where
  pub tokens : List (Tok AbnfKind)
  pub are_tokens : AreTokens line tokens
  pub is : new ≡ tokens_named known own line 0 tokens

-- the comment that has a line which is written otherwise
abbrev pub comment_of : List ℕ → List ℕ → List ℕ
comment_of line new = if bytes_eq line new then [] else codes "; from: " ++ (line ++ codes "\n")

-- a line without that margin, or without its own where that is smaller
abbrev pub bare_line : ℕ → NumberedLine → List ℕ
bare_line margin line = drop (min margin (margin_of line.bytes)) line.bytes

-- the first of the lines as their text has them, or else that one
abbrev pub source_of : List NumberedLine → NumberedLine → NumberedLine
source_of [] line = line
source_of (source ∷ sources) line = source

-- The comments on lines, and the text that is written for them. The first lines are these as their text has them.
pub data AreLinesNamed (known : List ℕ → Bool) (own : List ℕ) (margin : ℕ)
    : List NumberedLine → List NumberedLine → List ℕ → List ℕ → Type 0 where
  no_lines : {sources : List NumberedLine} → AreLinesNamed known own margin sources [] [] []
  next_line : {sources : List NumberedLine} {line : NumberedLine} {lines : List NumberedLine}
      {new comments text : List ℕ}
      → IsLineNamed known own (bare_line margin line) new
      → AreLinesNamed known own margin (drop 1 sources) lines comments text
      → AreLinesNamed known own margin sources (line ∷ lines)
      (comment_of (bare_line margin (source_of sources line)) new ++ comments) (new ++ (codes "\n" ++ text))

-- The text is not indented, and spells the rule, but that names may stand for prose.
pub record SpellsNamed (rule : RuleGiven) (text : List ℕ) : Type 0 where
  pub letter : begins_letter text ≡ true
  pub given : RuleGiven
  pub spells : SpellRule text given
  pub like : is_same_rule true rule given ≡ true

-- where a rule stands with its names: some line is written otherwise, or none is
pub data IsPositionNamed (known : List ℕ → Bool) (rule : RuleGiven) (position : RuleLines) : RuleLines → Type 0 where
  is_named : {comments text : List ℕ} → AreLinesNamed known rule.name position.margin position.sources
      position.lines comments text
      → comments ≢ [] → SpellsNamed rule text
      → IsPositionNamed known rule position (record {
        name = position.name;
        margin = position.margin;
        sources = position.sources;
        lines = position.lines;
        blanks = position.blanks;
        comments = comments;
        text = text;
      })
  stays : {comments text : List ℕ} → AreLinesNamed known rule.name position.margin position.sources
      position.lines comments text
      → (comments ≢ [] → SpellsNamed rule text → ⊥) → IsPositionNamed known rule position position

-- the rules with their positions, and these positions with names
pub data ArePositionsNamed (known : List ℕ → Bool) : List RuleGiven → List RuleLines → List RuleLines → Type 0 where
  rules_end : {positions : List RuleLines} → ArePositionsNamed known [] positions []
  positions_end : {rules : List RuleGiven} → ArePositionsNamed known rules [] []
  one_position : {rule : RuleGiven} {rules : List RuleGiven} {position new : RuleLines}
      {positions others : List RuleLines}
      → IsPositionNamed known rule position new → ArePositionsNamed known rules positions others
      → ArePositionsNamed known (rule ∷ rules) (position ∷ positions) (new ∷ others)

-- the rule that a text is read as; its own text wrote it as prose alone, or not
abbrev pub with_prose : Bool → RuleGiven → RuleGiven
with_prose is_prose rule = record { adds = rule.adds; name = rule.name; body = rule.body; is_prose = is_prose }

-- a rule is what its text spells, where comments say that a line is written otherwise
pub data IsRuleNamed (position : RuleLines) (rule : RuleGiven) : RuleGiven → Type 0 where
  same_rule : position.comments ≡ [] → IsRuleNamed position rule rule
  read_again : {given : RuleGiven} → position.comments ≢ [] → SpellRule position.text given
      → IsRuleNamed position rule (with_prose rule.is_prose given)

pub data AreRulesNamed : List RuleLines → List RuleGiven → List RuleGiven → Type 0 where
  no_more_positions : {rules : List RuleGiven} → AreRulesNamed [] rules []
  no_more_rules : {positions : List RuleLines} → AreRulesNamed positions [] []
  one_rule : {position : RuleLines} {positions : List RuleLines} {rule new : RuleGiven} {rules others : List RuleGiven}
      → IsRuleNamed position rule new → AreRulesNamed positions rules others
      → AreRulesNamed (position ∷ positions) (rule ∷ rules) (new ∷ others)

-- What was gathered, where names of its rules and of core rules lose angle brackets in all others.
pub record AreRenamed (given named : RulesGathered) : Type 0 where
  pub positions : ArePositionsNamed (is_known_name given.rules) given.rules given.positions named.positions
  pub rules : AreRulesNamed named.positions given.rules named.rules
  pub reported : named.reported ≡ given.reported
  pub list : named.list ≡ given.list
