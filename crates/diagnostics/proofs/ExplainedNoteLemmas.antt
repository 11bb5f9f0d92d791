-- What the positions of a text report explains a note, and only that.
-- Serves: explain_peg_note, one_note_explanation, one_note_explanation_of_abnf; abnfi_main of abnfi
use Rattle.std.proofs.Common.{◌≡◌, ℕ, Bool, List, Option, None, length, map, sym, ap, ◌∙◌, subst}
use Rattle.std.specs.Prelude.{option_map}
use Rattle.diagnostics.specs.BodyMentions.{MentionedAt, mentioned_at, mentions_in}
use Rattle.lexer.specs.TokenLists.{Tok, AreTokens}
use Rattle.ruletable.specs.Notes.{Said}
use Rattle.ruletable.specs.declared.lines.LineRule.{LineRule}
use Rattle.ruletable.specs.declared.table.NameCase.{NameCase}
use Rattle.diagnostics.specs.DefinitionHeads.{DefinedAt, definitions_in, sign_at}
use Rattle.diagnostics.specs.ExplainedNotes.{ArePositions, IsFirstProse, IsNoteExplained, AreNoteLines}
use Rattle.diagnostics.specs.ExplainedNotes.{AreReportedBy, IsFormBy, IsNotedForm, prose_by}
use Rattle.diagnostics.specs.FirstMentions.{rule_named, uses_of}
use Rattle.diagnostics.specs.MentionLines.{lines_mentioned, mention_lines_by, mention_lines_of}
use Rattle.diagnostics.specs.UseLines.{AreLinesAfter, IsFormOfUse, form_noted, lines_by, prose_of}
use Rattle.diagnostics.specs.declared.noteplaces.forms.UseForm.{UseForm}
use Rattle.diagnostics.specs.declared.noteplaces.mentions.MentionKind.{MentionKind}
use Rattle.diagnostics.specs.declared.noteplaces.positions.Positions.{Positions}
use Rattle.diagnostics.specs.declared.noteplaces.sign.Sign.{Sign}
use Rattle.diagnostics.proofs.FirstMentionLemmas.{first-one}

-- one text follows a note
after-one : (names : NameCase) (definitions : List DefinedAt) (mentions : List MentionedAt) (start : Option (List ℕ))
    (note : Said) (a b : List ℕ) → AreLinesAfter names definitions mentions start note a
    → AreLinesAfter names definitions mentions start note b → a ≡ b
after-one names definitions mentions start note a b g h =
    g.is ∙ ap (λ first. lines_by names definitions mentions start first note.kind note.name)
    (first-one names definitions (uses_of names note.name mentions) g.first h.first g.is_first h.is_first) ∙ sym h.is

module _ {K : Type 0} (White : List ℕ → List ℕ → Type 0) (First : K → List ℕ → List ℕ → Type 0) (is_end : K → Bool)
    (sign_of : K → Sign) (rule : LineRule) (names : NameCase) (text : List ℕ) where
  pub positions-explain : (positions : Positions) (start : Option (List ℕ)) (note : Said) (why : List ℕ)
      → ArePositions White First is_end sign_of rule names text positions → AreReportedBy positions start note why
      → IsNoteExplained White First is_end sign_of rule names text start note why
  positions-explain positions start note why are by = record {
    tokens = are.tokens;
    are_tokens = are.are_tokens;
    are = subst (λ (c : NameCase). AreLinesAfter c (definitions_in rule text (map (sign_at sign_of) are.tokens))
        (mentions_in rule text None (map (sign_at sign_of) are.tokens)) start note why) are.names_are
        (subst (λ ms. AreLinesAfter positions.names
        (definitions_in rule text (map (sign_at sign_of) are.tokens)) ms start
        note why) are.mentions_are
        (subst (λ ds. AreLinesAfter positions.names ds (map mentioned_at positions.mentions.items) start note why)
        are.heads_are by));
  }

  -- one text explains, where the tokens are one list
  pub explained-one : ((a b : List (Tok K)) → AreTokens White First is_end (length text) text a
      → AreTokens White First is_end (length text) text b → a ≡ b)
      → (start : Option (List ℕ)) (note : Said) (a b : List ℕ)
      → IsNoteExplained White First is_end sign_of rule names text start note a
      → IsNoteExplained White First is_end sign_of rule names text start note b → a ≡ b
  explained-one one start note a b g h =
      after-one names (definitions_in rule text (map (sign_at sign_of) h.tokens))
      (mentions_in rule text None (map (sign_at sign_of) h.tokens)) start note a b
      (subst (λ ts. AreNoteLines rule names text (map (sign_at sign_of) ts) start note a)
      (one g.tokens h.tokens g.are_tokens h.are_tokens) g.are) h.are

  -- the form that the positions report is that of the tokens
  pub positions-form : (positions : Positions) (start : Option (List ℕ)) (name : List ℕ) (form : UseForm)
      → ArePositions White First is_end sign_of rule names text positions → IsFormBy positions start name form
      → IsNotedForm White First is_end sign_of rule names text start name form
  positions-form positions start name form are by = record {
    tokens = are.tokens;
    are_tokens = are.are_tokens;
    is = subst (λ (c : NameCase). IsFormOfUse c (definitions_in rule text (map (sign_at sign_of) are.tokens))
        (mentions_in rule text None (map (sign_at sign_of) are.tokens)) start name form) are.names_are
        (subst (λ ms. IsFormOfUse positions.names
        (definitions_in rule text (map (sign_at sign_of) are.tokens)) ms start
        name form) are.mentions_are
        (subst (λ ds. IsFormOfUse positions.names ds (map mentioned_at positions.mentions.items) start name form)
        are.heads_are by));
  }

  -- it is one, where the tokens are one list
  pub form-one : ((a b : List (Tok K)) → AreTokens White First is_end (length text) text a
      → AreTokens White First is_end (length text) text b → a ≡ b)
      → (start : Option (List ℕ)) (name : List ℕ) (a b : UseForm)
      → IsNotedForm White First is_end sign_of rule names text start name a
      → IsNotedForm White First is_end sign_of rule names text start name b → a ≡ b
  form-one one start name a b g h =
      let definitions = definitions_in rule text (map (sign_at sign_of) h.tokens) in
      let mentions = mentions_in rule text None (map (sign_at sign_of) h.tokens) in
      let moved : IsFormOfUse names definitions mentions start name a =
      subst (λ ts. IsFormOfUse names (definitions_in rule text (map (sign_at sign_of) ts))
      (mentions_in rule text None (map (sign_at sign_of) ts)) start name a)
      (one g.tokens h.tokens g.are_tokens h.are_tokens) g.is in
      let other : IsFormOfUse names definitions mentions start name b = h.is in
      moved.is ∙ ap (λ first. form_noted names start first name)
      (first-one names definitions (uses_of names name mentions) moved.first other.first moved.is_first other.is_first)
      ∙ sym other.is

  -- the first prose that the positions report is that of the tokens
  pub positions-prose : (positions : Positions) (name : List ℕ)
      → ArePositions White First is_end sign_of rule names text positions
      → IsFirstProse White First is_end sign_of rule names text name
      (option_map (λ (m : MentionedAt). m.text) (prose_by positions name))
  positions-prose positions name are = record {
    tokens = are.tokens;
    are_tokens = are.are_tokens;
    is = ap (option_map (λ (m : MentionedAt). m.text))
        (ap (λ ds. prose_of positions.names ds (map mentioned_at positions.mentions.items) name) are.heads_are
        ∙ ap (λ ms. prose_of positions.names (definitions_in rule text (map (sign_at sign_of) are.tokens)) ms name)
        are.mentions_are
        ∙ ap (λ (c : NameCase). prose_of c (definitions_in rule text (map (sign_at sign_of) are.tokens))
        (mentions_in rule text None (map (sign_at sign_of) are.tokens)) name) are.names_are);
  }

  -- it is one, where the tokens are one list
  pub prose-one : ((a b : List (Tok K)) → AreTokens White First is_end (length text) text a
      → AreTokens White First is_end (length text) text b → a ≡ b)
      → (name : List ℕ) (a b : Option (List ℕ)) → IsFirstProse White First is_end sign_of rule names text name a
      → IsFirstProse White First is_end sign_of rule names text name b → a ≡ b
  prose-one one name a b g h =
      g.is ∙ ap (λ (ts : List (Tok K)). option_map (λ (m : MentionedAt). m.text)
      (prose_of names (definitions_in rule text (map (sign_at sign_of) ts))
      (mentions_in rule text None (map (sign_at sign_of) ts)) name))
      (one g.tokens h.tokens g.are_tokens h.are_tokens) ∙ sym h.is

  -- the lines of mentions that the positions report are those of the tokens
  pub positions-mention : (positions : Positions) (kind : MentionKind) (name : List ℕ)
      (are : ArePositions White First is_end sign_of rule names text positions)
      → mention_lines_by positions kind name
      ≡ lines_mentioned rule names text (map (sign_at sign_of) are.tokens) kind name
  positions-mention positions kind name are =
      ap (λ ds. mention_lines_of kind (rule_named positions.names ds name) (map mentioned_at positions.mentions.items))
      are.heads_are
      ∙ ap (λ ms. mention_lines_of kind (rule_named positions.names
      (definitions_in rule text (map (sign_at sign_of) are.tokens)) name) ms) are.mentions_are
      ∙ ap (λ (c : NameCase). mention_lines_of kind (rule_named c
      (definitions_in rule text (map (sign_at sign_of) are.tokens)) name)
      (mentions_in rule text None (map (sign_at sign_of) are.tokens))) are.names_are
