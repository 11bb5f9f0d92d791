-- The lines that explain a note on the grammar of a text.
use Rattle.std.specs.Prelude.{◌≡◌, ℕ, Bool, List, Option, None, length, map, option_map}
use Rattle.lexer.specs.TokenLists.{Tok, AreTokens}
use Rattle.ruletable.specs.Notes.{Said}
use Rattle.ruletable.specs.declared.lines.LineRule.{LineRule}
use Rattle.ruletable.specs.declared.table.NameCase.{NameCase}
use Rattle.diagnostics.specs.BodyMentions.{MentionedAt, mentioned_at, mentions_in}
use Rattle.diagnostics.specs.DefinitionHeads.{SignAt, defined_at, definitions_in, sign_at}
use Rattle.diagnostics.specs.UseLines.{AreLinesAfter, IsFormOfUse, prose_of}
use Rattle.diagnostics.specs.declared.noteplaces.forms.UseForm.{UseForm}
use Rattle.diagnostics.specs.declared.noteplaces.positions.Positions.{Positions}
use Rattle.diagnostics.specs.declared.noteplaces.sign.Sign.{Sign}

-- the lines after a note on the grammar of these tokens of a text, where that name is given for the start rule
abbrev pub AreNoteLines : LineRule → NameCase → List ℕ → List SignAt → Option (List ℕ) → Said → List ℕ → Type 0
AreNoteLines rule names text signs =
    AreLinesAfter names (definitions_in rule text signs) (mentions_in rule text None signs)

-- the lines that such positions report
abbrev pub AreReportedBy : Positions → Option (List ℕ) → Said → List ℕ → Type 0
AreReportedBy positions =
    AreLinesAfter positions.names (map defined_at positions.heads.items) (map mentioned_at positions.mentions.items)

-- what the use is in other notations by which a name is noted, that such positions report
abbrev pub IsFormBy : Positions → Option (List ℕ) → List ℕ → UseForm → Type 0
IsFormBy positions =
    IsFormOfUse positions.names (map defined_at positions.heads.items) (map mentioned_at positions.mentions.items)

-- the first prose of the rule of that name that such positions report
abbrev pub prose_by : Positions → List ℕ → Option MentionedAt
prose_by positions = prose_of positions.names (map defined_at positions.heads.items)
    (map mentioned_at positions.mentions.items)

module _ {K : Type 0} (White : List ℕ → List ℕ → Type 0) (First : K → List ℕ → List ℕ → Type 0) (is_end : K → Bool)
    (sign_of : K → Sign) (rule : LineRule) (names : NameCase) (text : List ℕ) where
  -- the positions are the text's
  pub record ArePositions (positions : Positions) : Type 0 where
    pub tokens : List (Tok K)
    pub are_tokens : AreTokens White First is_end (length text) text tokens
    pub names_are : positions.names ≡ names
    pub heads_are : map defined_at positions.heads.items ≡ definitions_in rule text (map (sign_at sign_of) tokens)
    pub mentions_are : map mentioned_at positions.mentions.items
        ≡ mentions_in rule text None (map (sign_at sign_of) tokens)

  -- the lines explain the note
  pub record IsNoteExplained (start : Option (List ℕ)) (note : Said) (why : List ℕ) : Type 0 where
    pub tokens : List (Tok K)
    pub are_tokens : AreTokens White First is_end (length text) text tokens
    pub are : AreNoteLines rule names text (map (sign_at sign_of) tokens) start note why

  -- what the use is in other notations by which that name is noted
  pub record IsNotedForm (start : Option (List ℕ)) (name : List ℕ) (form : UseForm) : Type 0 where
    pub tokens : List (Tok K)
    pub are_tokens : AreTokens White First is_end (length text) text tokens
    pub is : IsFormOfUse names (definitions_in rule text (map (sign_at sign_of) tokens))
        (mentions_in rule text None (map (sign_at sign_of) tokens)) start name form

  -- the first prose of the rule of that name, as the text spells it, if it has one
  pub record IsFirstProse (name : List ℕ) (prose : Option (List ℕ)) : Type 0 where
    pub tokens : List (Tok K)
    pub are_tokens : AreTokens White First is_end (length text) text tokens
    pub is : prose ≡ option_map (λ m. m.text) (prose_of names
        (definitions_in rule text (map (sign_at sign_of) tokens))
        (mentions_in rule text None (map (sign_at sign_of) tokens)) name)
