-- Hints on a grammar in ABNF: what RFC 5234 allows, and most likely is not meant. Own.
use Rattle.std.specs.Prelude.{◌≡◌, ℕ, ◌-◌, ◌<◌, ◌==◌, Bool, List, [], ◌∷◌, ◌++◌, Option, Some, None, length, map}
use Rattle.std.specs.Prelude.{take, Contains, codes, decimal, slice_index_or}
use Rattle.std.specs.List.{find, flat_map}
use Rattle.abnfcheck.specs.AbnfGrammar.{IsSound}
use Rattle.abnfcheck.specs.AbnfNotes.{Those}
use Rattle.abnfcheck.specs.AbnfUses.{rule_names}
use Rattle.abnfcheck.specs.Derivable.{AreLetters, RuleDerives}
use Rattle.abnfexplain.specs.AbnfNoteLines.{sign_of}
use Rattle.abnfhints.specs.LineEnds.{end_byte}
use Rattle.abnfhints.specs.declared.line_end.LineEnd.{LineEnd}
use Rattle.abnfhints.specs.declared.line_end.LineEnd.TheVariants.{Lf as AtLf, Nul as AtNul}
use Rattle.abnfread.specs.AbnfKinds.{ends_list}
use Rattle.abnfread.specs.AbnfSlices.{White, First}
use Rattle.abnfread.specs.AbnfWords as words
use Rattle.abnfread.specs.Element.{Rule}
use Rattle.abnfread.specs.Numerals.{SaysNum, SaysRepeat}
use Rattle.abnfread.specs.declared.kind.AbnfKind.{AbnfKind}
use Rattle.lexer.specs.TokenLists.{Tok, AreTokens}
use Rattle.diagnostics.specs.BodyMentions.{MentionedAt, mentions_in}
use Rattle.diagnostics.specs.DefinitionHeads.{DefinedAt, definitions_in, sign_at}
use Rattle.diagnostics.specs.NoteLines.{defined_line, more_reported}
use Rattle.diagnostics.specs.declared.noteplaces.mentions.MentionKind.TheVariants.{Number, Repeat}
use Rattle.diagnostics.specs.ShownBytes.{cut}
use Rattle.ruletable.specs.declared.lines.LineRule.TheVariants.{Lf}
use Rattle.ruletable.specs.declared.table.NameCase.TheVariants.{Fold}

-- `has` tests for the symbols of the alphabet
module _ (has : ℕ → Bool) (rules : List Rule) where
  -- The rule of that id derives no list of symbols. What it reaches is all there: each name has a rule, and there is no
  -- prose.
  pub record DerivesNothing (id : ℕ) : Type 0 where
    pub sound : IsSound rules id
    pub nothing : (w : List ℕ) → AreLetters has w → RuleDerives has rules id w → ⊥

  -- It derives some list of symbols, and in each of them that symbol stands. Likewise what it reaches is all there.
  pub record DerivesOnlyWith (letter id : ℕ) : Type 0 where
    pub sound : IsSound rules id
    pub word : List ℕ
    pub letters : AreLetters has word
    pub derives : RuleDerives has rules id word
    pub holds : (w : List ℕ) → AreLetters has w → RuleDerives has rules id w → Contains w letter

-- the token of a range gives a number and a smaller one after it (RFC 5234, section 3.4)
pub record IsReversed (slice : List ℕ) : Type 0 where
  pub low : ℕ
  pub high : ℕ
  pub says : SaysNum slice (words.Range low high)
  pub less : high < low

-- the token of a repetition gives a number before `*` and a smaller one after it (RFC 5234, section 3.6)
pub record IsReversedRepeat (slice : List ℕ) : Type 0 where
  pub least : ℕ
  pub most : ℕ
  pub says : SaysRepeat slice least (Some most)
  pub less : most < least

-- a mention is a range or a repetition whose numbers are reversed
pub data IsReversedMention (m : MentionedAt) : Type 0 where
  is_range : m.kind ≡ Number → IsReversed m.text → IsReversedMention m
  is_repeat : m.kind ≡ Repeat → IsReversedRepeat m.text → IsReversedMention m

-- those of what bodies mention, in order
pub data AreReversed : List MentionedAt → List MentionedAt → Type 0 where
  none_reversed : AreReversed [] []
  one_reversed : {m : MentionedAt} {ms rs : List MentionedAt} → IsReversedMention m → AreReversed ms rs
      → AreReversed (m ∷ ms) (m ∷ rs)
  other_mention : {m : MentionedAt} {ms rs : List MentionedAt} → (IsReversedMention m → ⊥) → AreReversed ms rs
      → AreReversed (m ∷ ms) rs

-- the first 16 as they are reported, and how many more there are
abbrev pub reported_first : {A : Type 0} → (A → List ℕ) → List A → List ℕ
reported_first reported xs = flat_map reported (take 16 xs) ++ more_reported (length xs - 16)

-- the name at the head of a definition, if there is one
abbrev pub name_of_head : Option DefinedAt → List ℕ
name_of_head None = []
name_of_head (Some d) = d.name

module _ (definitions : List DefinedAt) where
  -- a rule that derives nothing, and where it is first defined
  abbrev pub barren_reported : List ℕ → List ℕ
  barren_reported name = codes "rule '" ++ (cut name ++ (codes "' derives nothing\n"
      ++ defined_line Fold definitions name))

  -- reversed numbers, in the rule of the definition in whose body they stand
  abbrev pub reversed_reported : MentionedAt → List ℕ
  reversed_reported m = codes "reversed numbers in rule '"
      ++ (cut (name_of_head (find (λ d. d.start == m.within) definitions)) ++ (codes "'\n  line "
      ++ (decimal m.line ++ (codes ": " ++ (cut m.text ++ codes " derives nothing\n")))))

-- the byte that ends a line, and the options by which a line may hold it
abbrev pub end_reported : LineEnd → List ℕ
end_reported AtLf = codes "%x0A\n  with -k, a line keeps its %x0A\n  with -z, records end with %x00 and may hold %x0A\n"
end_reported AtNul = codes "%x00\n"

-- a rule that derives no line
abbrev pub lineless_reported : LineEnd → List ℕ → List ℕ
lineless_reported end name = codes "rule '" ++ (cut name ++ (codes "' derives no line\n  all that it derives holds "
    ++ end_reported end))

-- what is reported of the judged rule: that it derives no line, if it derives something
pub data IsReportedOfJudged (has : ℕ → Bool) (rules : List Rule) (end : LineEnd) : Option ℕ → List ℕ → Type 0 where
  no_rule : IsReportedOfJudged has rules end None []
  no_line : {id : ℕ} → DerivesOnlyWith has rules (end_byte end) id
      → IsReportedOfJudged has rules end (Some id) (lineless_reported end (slice_index_or (rule_names rules) id []))
  some_line : {id : ℕ} → (DerivesOnlyWith has rules (end_byte end) id → ⊥)
      → IsReportedOfJudged has rules end (Some id) []

module _ (has : ℕ → Bool) (rules : List Rule) (count : ℕ) (judged : Option ℕ) (end : LineEnd) where
  -- The hints, given all rules, of which those of the file are the first ones, their count, and the judged rule: on
  -- rules of the file that derive nothing, by their order; on reversed numbers, by the order of the text; and on the
  -- judged rule.
  pub record AreHintsBy (definitions : List DefinedAt) (mentions : List MentionedAt) (hints : List ℕ) : Type 0 where
    pub barren : List (List ℕ)
    pub reversed : List MentionedAt
    pub last : List ℕ
    pub are_barren : Those (DerivesNothing has rules) 0 (take count rules) barren
    pub are_reversed : AreReversed mentions reversed
    pub is_last : IsReportedOfJudged has rules end judged last
    pub all : hints ≡ reported_first (barren_reported definitions) barren
        ++ (reported_first (reversed_reported definitions) reversed ++ last)

  -- the hints on the grammar of a text
  pub record AreAbnfHints (text hints : List ℕ) : Type 0 where
    pub tokens : List (Tok AbnfKind)
    pub are_tokens : AreTokens White First ends_list (length text) text tokens
    pub are_hints : AreHintsBy (definitions_in Lf text (map (sign_at sign_of) tokens))
        (mentions_in Lf text None (map (sign_at sign_of) tokens)) hints
