-- Ends of lines at which a rule cannot end, by its tokens (RFC 5234, section 4). It serves private helpers alone.
use Rattle.std.specs.Prelude.{◌≡◌, ℕ, ◌+◌, ◌<◌, ◌≤◌, ◌-◌, ◌==◌, ◌&&◌, min, nat_lt, not, Bool, true, false, Option}
use Rattle.std.specs.Prelude.{None, Some, List, [], ◌∷◌, length, take, get_or, if◌then◌else◌}
use Rattle.ruletable.specs.declared.fault.ReadFault.{ReadFault}
use Rattle.ruletable.specs.declared.fault.ReadFault.TheVariants as faults
use Rattle.lexer.specs.GrammarLimits.{max_open}
use Rattle.lexer.specs.TokenLists.{Tok, kind_of}
use Rattle.abnfread.specs.declared.kind.AbnfKind.{AbnfKind}
use Rattle.abnfread.specs.declared.kind.AbnfKind.TheVariants.{Name, Is, Adds, Slash, LParen, RParen, LBrack, RBrack}
use Rattle.abnfread.specs.declared.kind.AbnfKind.TheVariants.{Repeat, Text, Num, Prose, Bad, End}
use Rattle.abnfread.specs.MarkedTokens.{AreTokens}
use Rattle.abnfblocks.specs.FoundRules.{IsAbnf, IsAbnfCut}
use Rattle.abnfblocks.specs.RuleCuts.{lines_text}
use Rattle.abnfblocks.specs.TextLines.{NumberedLine}
use Rattle.abnfblocks.specs.declared.ends.LeftOpen.{LeftOpen}
use Rattle.abnfblocks.specs.declared.ends.LeftOpen.TheVariants.{Open, Unknown}

-- one bracket more is open, if the limit allows it
abbrev pub deeper : ℕ → LeftOpen
deeper d = if nat_lt d max_open then Open (d + 1) true else Unknown

-- What a token leaves open: brackets, and an element that has to follow. Bytes that begin no token leave all unknown.
abbrev pub stand_after : LeftOpen → AbnfKind → LeftOpen
stand_after Unknown k = Unknown
stand_after (Open d w) LParen = deeper d
stand_after (Open d w) LBrack = deeper d
stand_after (Open d w) RParen = Open (d - 1) false
stand_after (Open d w) RBrack = Open (d - 1) false
stand_after (Open d w) Is = Open d true
stand_after (Open d w) Adds = Open d true
stand_after (Open d w) Slash = Open d true
stand_after (Open d w) Repeat = Open d true
stand_after (Open d w) Name = Open d false
stand_after (Open d w) Text = Open d false
stand_after (Open d w) Num = Open d false
stand_after (Open d w) Prose = Open d false
stand_after (Open d w) Bad = Unknown
stand_after (Open d w) End = Open d w

abbrev pub stands_after : LeftOpen → List (Tok AbnfKind) → LeftOpen
stands_after s [] = s
stands_after s (x ∷ xs) = stands_after (stand_after s (kind_of x)) xs

-- nothing is open, or that is unknown
abbrev pub nothing_open : LeftOpen → Bool
nothing_open Unknown = true
nothing_open (Open d w) = (d == 0) && not w

-- what the tokens of a text leave open, after that
abbrev pub LeavesOpen : LeftOpen → List ℕ → LeftOpen → Type 0
LeavesOpen before text s = (ts : List (Tok AbnfKind)) × AreTokens text ts × (s ≡ stands_after before ts)

-- Where the test of a line is false, the lines up to there read as nothing.
abbrev pub BarEnds : ℕ → List NumberedLine → List Bool → Type 0
BarEnds margin rule tests = (k : ℕ) → get_or tests k true ≡ false
    → IsAbnf (lines_text margin (take (k + 1) rule)) → ⊥

-- And more lines than tests read as nothing.
pub record AreTests (margin : ℕ) (rule : List NumberedLine) (tests : List Bool) : Type 0 where
  pub bar : BarEnds margin rule tests
  pub within : length tests ≤ length rule
  pub long : (k : ℕ) → length tests < k → k ≤ length rule → IsAbnf (lines_text margin (take k rule)) → ⊥

-- the line of a fault of so many lines, or how many there are
abbrev pub line_bound : ReadFault → ℕ → ℕ
line_bound (faults.Syntax line) n = min line n
line_bound (faults.Depth line) n = min line n
line_bound (faults.NumberTooLarge line) n = min line n
line_bound _ n = n

-- So many lines are a cut that reads, or no cut reads that has the limit of them at least, and no more than those.
abbrev pub IsCutLimit : List NumberedLine → ℕ → Option ℕ → Type 0
IsCutLimit rule n None = IsAbnfCut rule n
IsCutLimit rule n (Some limit) = (limit ≤ n) × ((k : ℕ) → limit ≤ k → k ≤ n → IsAbnfCut rule k → ⊥)
