-- What explains a note on the grammar of a text: its lines, what is perhaps meant, whether prose is the name of a rule,
-- and by which rules the judged one reaches its name.
use Rattle.std.specs.Prelude.{◌≡◌, ℕ, ◌-◌, Bool, List, [], ◌++◌, length, position, Option, Some, None, codes}
use Rattle.std.specs.Prelude.{drop, take, if◌then◌else◌}
use Rattle.diagnostics.specs.NearNames.{IsMeantIf, is_before_limit}
use Rattle.diagnostics.specs.declared.noteplaces.forms.UseForm.{UseForm}
use Rattle.diagnostics.specs.declared.noteplaces.forms.UseForm.TheVariants.{Plain, CodePoint, Range}
use Rattle.ruletable.specs.Rules.{same_name}
use Rattle.ruletable.specs.Notes.{Said}
use Rattle.ruletable.specs.Rules as table
use Rattle.ruletable.specs.declared.note.NoteKind.{NoteKind}
use Rattle.ruletable.specs.declared.note.NoteKind.TheVariants.{Undefined, Prose}
use Rattle.ruletable.specs.declared.table.NameCase.TheVariants.{Fold}
use Rattle.abnfread.specs.AbnfReading.{Reads}
use Rattle.abnfread.specs.AbnfViews.{rules_of}
use Rattle.abnfread.specs.Element.{Definition, Rule}
use Rattle.abnfread.specs.declared.elem.Elem.{Elem}
use Rattle.abnfcheck.specs.AbnfUses.{rule_names}
use Rattle.abnfcheck.specs.NameChains.{AreNameChains, IsNameChain}
use Rattle.abnfcheck.specs.NameIds.{all_names}
use Rattle.abnfcheck.specs.WithCore.{has_name}
use Rattle.abnfexplain.specs.AbnfNoteLines.{AreAbnfPositions, ExplainsNote, IsFirstProse, IsUsedForm}
use Rattle.abnfexplain.specs.ChainLines.{chain_reported}
use Rattle.abnfprint.specs.AbnfReadBack.{file_rules}
use Rattle.abnfrun.specs.AbnfNoted.{all_rules}
use Rattle.abnfrun.specs.declared.abnf_positions.AbnfPositions.{AbnfPositions}

-- the line of the chain to a name, where that name is given for the judged rule
pub record IsReachLine (text : List ℕ) (start : Option (List ℕ)) (name line : List ℕ) : Type 0 where
  pub definitions : List Definition
  pub reads : Reads text definitions
  pub chain : Option (List (List ℕ))
  pub is_chain : IsNameChain (all_rules definitions) start name chain
  pub is : line ≡ chain_reported chain

-- whether a name is among the first 16 that no rule has, by first use
abbrev pub is_early_name : List Rule → Option (List ℕ) → List ℕ → Bool
is_early_name rules start name = is_before_limit (length rules) (position (same_name Fold name) (all_names rules start))

-- the line of the first rule whose name is one slip away from a name, if that is early and there is one
abbrev pub IsMeantLine : List Rule → Option (List ℕ) → List ℕ → List ℕ → Type 0
IsMeantLine rules start name line = IsMeantIf (is_early_name rules start name) (rule_names rules) name line

-- The line of what is perhaps meant by a name, by the form of its use: how a code point or a range is written
-- (RFC 5234, sections 2.3 and 3.4), or a rule.
abbrev pub IsPerhapsLine : UseForm → List Rule → Option (List ℕ) → List ℕ → List ℕ → Type 0
IsPerhapsLine CodePoint rules start name line = line ≡ codes "  a code point is written %x41\n"
IsPerhapsLine Range rules start name line = line ≡ codes "  a range is written %x30-39\n"
IsPerhapsLine Plain rules start name line = IsMeantLine rules start name line

-- the lines after those of a note on a name that no rule has
pub record AreUndefinedLines (text : List ℕ) (start : Option (List ℕ)) (name lines : List ℕ) : Type 0 where
  pub definitions : List Definition
  pub reads : Reads text definitions
  pub form : UseForm
  pub meant : List ℕ
  pub reach : List ℕ
  pub is_form : IsUsedForm text start name form
  pub is_meant : IsPerhapsLine form (all_rules definitions) start name meant
  pub is_reach : IsReachLine text start name reach
  pub is : lines ≡ meant ++ reach

-- what stands between the brackets of prose (RFC 5234, section 4: prose-val)
abbrev pub between_brackets : List ℕ → List ℕ
between_brackets prose = take (length (drop 1 prose) - 1) (drop 1 prose)

-- The line after that of prose, if one of these rules has its name: angle brackets may stand around a rule name, and a
-- reader may have meant the rule (RFC 5234, section 2.1).
abbrev pub named_line : List Rule → Option (List ℕ) → List ℕ
named_line rules None = []
named_line rules (Some prose) = if has_name Fold rules (between_brackets prose)
    then codes "  without < and > this is the rule of that name\n" else []

-- the lines after those of a note on a rule that holds prose
pub record AreProseLines (text : List ℕ) (start : Option (List ℕ)) (name lines : List ℕ) : Type 0 where
  pub definitions : List Definition
  pub reads : Reads text definitions
  pub prose : Option (List ℕ)
  pub reach : List ℕ
  pub is_prose : IsFirstProse text name prose
  pub is_reach : IsReachLine text start name reach
  pub is : lines ≡ named_line (all_rules definitions) prose ++ reach

-- they follow notes on names that no rule has, and on rules that hold prose
abbrev pub IsReachAfter : List ℕ → Option (List ℕ) → NoteKind → List ℕ → List ℕ → Type 0
IsReachAfter text start Undefined name line = AreUndefinedLines text start name line
IsReachAfter text start Prose name line = AreProseLines text start name line
IsReachAfter text start _ name line = line ≡ []

-- the lines explain the note
pub record ExplainsAbnfNote (text : List ℕ) (start : Option (List ℕ)) (note : Said) (why : List ℕ) : Type 0 where
  pub lines : List ℕ
  pub line : List ℕ
  pub explains : ExplainsNote text start note lines
  pub after : IsReachAfter text start note.kind note.name line
  pub is : why ≡ lines ++ line

-- the code's rules are those of a text, so many, and then the core rules that it leaves alone
pub record AreAllRules (text : List ℕ) (rules : table.Rules Elem) (count : ℕ) : Type 0 where
  pub definitions : List Definition
  pub reads : Reads text definitions
  pub folds : rules.names ≡ Fold
  pub all : rules_of rules ≡ all_rules definitions
  pub counted : count ≡ length (file_rules definitions)

-- the code's positions are those of a text, with the chains from its judged rule, and its rules
pub record AreNotePositions (text : List ℕ) (start : Option (List ℕ)) (found : AbnfPositions) : Type 0 where
  pub definitions : List Definition
  pub reads : Reads text definitions
  pub positions : AreAbnfPositions text found.positions
  pub chains : AreNameChains (all_rules definitions) start found.chains
  pub all : rules_of found.all.rules ≡ all_rules definitions
  pub counted : found.all.count ≡ length (file_rules definitions)
