-- The lines of a text in which rules are looked for: without furniture, and with others masked.
use Rattle.std.specs.Prelude.{◌≡◌, ℕ, suc, Bool, true, false, List, [], ◌∷◌, ◌++◌, map, take, drop, codes}
use Rattle.abnfblocks.specs.Fences.{fenced_size, hides_block, title_size}
use Rattle.abnfblocks.specs.Furniture.{KeepsLines}
use Rattle.abnfblocks.specs.OpenTags.{tag_size}
use Rattle.abnfblocks.specs.RuleCuts.{blanks_first}
use Rattle.abnfblocks.specs.TextLines.{NumberedLine, text_lines}
use Rattle.abnfblocks.specs.XmlLines.{HoldsXml}
use Rattle.rfcforms.specs.XmlTags.{begins_xml}
use Rattle.abnfblocks.specs.declared.rfctext.line_kind.LineKind.TheVariants.{Other}

-- what a masked line is read as: `<`, which begins no rule, and ends one
abbrev pub masked_line : NumberedLine → NumberedLine
masked_line line = record { number = line.number; bytes = codes "<"; kind = Other }

-- The first list with its blocks masked. `size` says how many lines the block has that the first line opens, or 0. None
-- opens inside of another. `hides` says by the first line of a block whether it is masked.
pub data MasksBlocks (size : List NumberedLine → ℕ) (hides : NumberedLine → Bool)
    : List NumberedLine → List NumberedLine → Type 0 where
  none_left : MasksBlocks size hides [] []
  no_block : {line : NumberedLine} {lines masked : List NumberedLine} → size (line ∷ lines) ≡ 0
      → MasksBlocks size hides lines masked → MasksBlocks size hides (line ∷ lines) (line ∷ masked)
  stays : {n : ℕ} {line : NumberedLine} {lines masked : List NumberedLine} → size (line ∷ lines) ≡ suc n
      → hides line ≡ false → MasksBlocks size hides (drop n lines) masked
      → MasksBlocks size hides (line ∷ lines) (take (suc n) (line ∷ lines) ++ masked)
  hidden : {n : ℕ} {line : NumberedLine} {lines masked : List NumberedLine} → size (line ∷ lines) ≡ suc n
      → hides line ≡ true → MasksBlocks size hides (drop n lines) masked
      → MasksBlocks size hides (line ∷ lines) (map masked_line (take (suc n) (line ∷ lines)) ++ masked)

-- the lines from the first one on that is not blank
abbrev pub after_blanks : List NumberedLine → List NumberedLine
after_blanks lines = drop (blanks_first lines) lines

-- Of a text in Markdown, the lines of a title block are masked, from `%%%` on the first line that is not blank to the
-- next `%%%`; and fenced blocks in another language.
pub record MasksMarkdown (lines masked : List NumberedLine) : Type 0 where
  pub rest : List NumberedLine
  pub blocks : MasksBlocks fenced_size hides_block
      (drop (title_size (after_blanks lines)) (after_blanks lines)) rest
  pub is : masked ≡ take (blanks_first lines) lines
      ++ (map masked_line (take (title_size (after_blanks lines)) (after_blanks lines)) ++ rest)

-- Then tags are masked that one line opens and a later one closes, with the lines between.
abbrev pub MasksTags : List NumberedLine → List NumberedLine → Type 0
MasksTags lines masked = MasksBlocks tag_size (λ line. true) lines masked

-- The lines of a text in Markdown without furniture, with others masked.
pub record ReadsMarkdown (text : List ℕ) (lines : List NumberedLine) : Type 0 where
  pub kept : List NumberedLine
  pub keeps : KeepsLines [] (text_lines text) kept
  pub shown : List NumberedLine
  pub masks : MasksMarkdown kept shown
  pub tags : MasksTags shown lines

-- In the text that is read of XML no blocks are masked.
pub record ReadsPlain (text : List ℕ) (lines : List NumberedLine) : Type 0 where
  pub kept : List NumberedLine
  pub keeps : KeepsLines [] (text_lines text) kept
  pub tags : MasksTags kept lines

-- the lines of a text, which was read of XML, or can have blocks of Markdown
abbrev pub ReadsLines : Bool → List ℕ → List NumberedLine → Type 0
ReadsLines true text lines = ReadsPlain text lines
ReadsLines false text lines = ReadsMarkdown text lines

-- The text that is read of one: that of an XML text, or else the text.
abbrev pub ShowsText : Bool → List ℕ → List ℕ → Type 0
ShowsText true text shown = HoldsXml text shown
ShowsText false text shown = shown ≡ text

-- the lines of a text in which rules are looked for
pub record AreRead (text : List ℕ) (lines : List NumberedLine) : Type 0 where
  pub source : List ℕ
  pub shows : ShowsText (begins_xml text) text source
  pub reads : ReadsLines (begins_xml text) source lines
