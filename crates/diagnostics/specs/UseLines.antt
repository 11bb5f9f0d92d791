-- The lines after a note, by the definitions of a text and what their bodies mention.
use Rattle.std.specs.Prelude.{◌≡◌, ℕ, Bool, false, List, [], ◌++◌, Option, Some, None, codes, decimal, if◌then◌else◌}
use Rattle.diagnostics.specs.ShownBytes.{cut}
use Rattle.ruletable.specs.Notes.{Said}
use Rattle.ruletable.specs.Rules.{same_name}
use Rattle.ruletable.specs.declared.note.NoteKind.{NoteKind}
use Rattle.ruletable.specs.declared.note.NoteKind.TheVariants.{Undefined, Prose}
use Rattle.ruletable.specs.declared.table.NameCase.{NameCase}
use Rattle.diagnostics.specs.BodyMentions.{MentionedAt}
use Rattle.diagnostics.specs.DefinitionHeads.{DefinedAt}
use Rattle.diagnostics.specs.FirstMentions.{IsFirstIfAny, RuleMention, first_prose, standing_definitions, uses_of}
use Rattle.diagnostics.specs.NoteLines.{lines_of, named}
use Rattle.diagnostics.specs.declared.noteplaces.forms.UseForm.{UseForm}
use Rattle.diagnostics.specs.declared.noteplaces.forms.UseForm.TheVariants.{Plain}

-- where a name is used
abbrev pub use_line : Option RuleMention → List ℕ
use_line None = []
use_line (Some u) = codes "  line " ++ (decimal u.mention.line ++ (codes ": used in rule '" ++ (cut u.rule.name
    ++ codes "'\n")))

-- where prose stands
abbrev pub prose_line : Option MentionedAt → List ℕ
prose_line None = []
prose_line (Some m) = codes "  line " ++ (decimal m.line ++ (codes ": " ++ (cut m.text ++ codes "\n")))

-- whether the name is the one that is given for the start rule
abbrev pub is_given : NameCase → Option (List ℕ) → List ℕ → Bool
is_given names None name = false
is_given names (Some start) name = same_name names name start

-- the use by which a name is noted that no rule has, given its first one in bodies: that for the start rule stands
-- before it
abbrev pub used_line : NameCase → Option (List ℕ) → Option RuleMention → List ℕ → List ℕ
used_line names start first name = if is_given names start name then codes "  given by -s\n" else use_line first

-- what a use is in other notations
abbrev pub form_found : Option RuleMention → UseForm
form_found None = Plain
form_found (Some u) = u.mention.form

-- what the use by which a name is noted is there, given its first one in bodies
abbrev pub form_noted : NameCase → Option (List ℕ) → Option RuleMention → List ℕ → UseForm
form_noted names start first name = if is_given names start name then Plain else form_found first

-- the first prose of the rule of that name, in the definition that begins it or in one that adds to it
abbrev pub prose_of : NameCase → List DefinedAt → List MentionedAt → List ℕ → Option MentionedAt
prose_of names definitions mentions name = first_prose (standing_definitions (named names name definitions)) mentions

module _ (names : NameCase) (definitions : List DefinedAt) (mentions : List MentionedAt) (start : Option (List ℕ)) where
  abbrev pub lines_by : Option RuleMention → NoteKind → List ℕ → List ℕ
  lines_by first Undefined name = used_line names start first name
  lines_by first Prose name = prose_line (prose_of names definitions mentions name)
  lines_by first kind name = lines_of kind (named names name definitions)

  -- what they report after a note, by the first use of its name
  pub record AreLinesAfter (note : Said) (why : List ℕ) : Type 0 where
    pub first : Option RuleMention
    pub is_first : IsFirstIfAny names definitions (uses_of names note.name mentions) first
    pub is : why ≡ lines_by first note.kind note.name

  -- what the use is in other notations by which that name is noted
  pub record IsFormOfUse (name : List ℕ) (form : UseForm) : Type 0 where
    pub first : Option RuleMention
    pub is_first : IsFirstIfAny names definitions (uses_of names name mentions) first
    pub is : form ≡ form_noted names start first name
