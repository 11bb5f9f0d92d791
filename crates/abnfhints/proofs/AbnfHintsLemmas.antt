-- The hints on the grammar of a text are one text.
-- Serves: one_text_of_abnf_hints
use Rattle.std.proofs.Common.{◌≡◌, ℕ, Bool, List, ◌++◌, length, map, Option, None, refl, sym, ◌∙◌, ap, subst}
use Rattle.lexer.specs.TokenLists.{Tok, AreTokens}
use Rattle.abnfread.specs.AbnfKinds.{ends_list}
use Rattle.abnfread.specs.AbnfSlices.{White, First}
use Rattle.abnfread.specs.Element.{Rule}
use Rattle.abnfread.specs.declared.kind.AbnfKind.{AbnfKind}
use Rattle.abnfcheck.proofs.AbnfNotesLemmas.{those_same}
use Rattle.abnfexplain.specs.AbnfNoteLines.{AreAbnfPositions, sign_of}
use Rattle.diagnostics.specs.BodyMentions.{MentionedAt, mentioned_at, mentions_in}
use Rattle.diagnostics.specs.DefinitionHeads.{DefinedAt, defined_at, definitions_in, sign_at}
use Rattle.diagnostics.specs.declared.noteplaces.positions.Positions.{Positions}
use Rattle.ruletable.specs.declared.lines.LineRule.TheVariants.{Lf}
use Rattle.abnfhints.specs.AbnfHints.{AreAbnfHints, AreHintsBy, DerivesNothing, IsReportedOfJudged, no_rule, no_line}
use Rattle.abnfhints.specs.AbnfHints.{some_line, reported_first, barren_reported, reversed_reported}
use Rattle.abnfhints.specs.declared.line_end.LineEnd.{LineEnd}
use Rattle.abnfhints.proofs.AreReversedLemmas.{one_reversed_list}

one_last : {has : ℕ → Bool} {rules : List Rule} {end : LineEnd} {judged : Option ℕ} {a b : List ℕ}
    → IsReportedOfJudged has rules end judged a → IsReportedOfJudged has rules end judged b → a ≡ b
one_last no_rule no_rule = refl
one_last (no_line d) (no_line e) = refl
one_last (no_line d) (some_line f) = absurd (f d)
one_last (some_line f) (no_line d) = absurd (f d)
one_last (some_line f) (some_line g) = refl

module _ (has : ℕ → Bool) (rules : List Rule) (count : ℕ) (judged : Option ℕ) (end : LineEnd) where
  one_by : (ds : List DefinedAt) (ms : List MentionedAt) (a b : List ℕ)
      → AreHintsBy has rules count judged end ds ms a → AreHintsBy has rules count judged end ds ms b → a ≡ b
  one_by ds ms a b h g =
      let barren = those_same (DerivesNothing has rules) h.are_barren g.are_barren in
      let reversed = one_reversed_list h.are_reversed g.are_reversed in
      let last = one_last h.is_last g.is_last in
      h.all
      ∙ ap (λ l. reported_first (barren_reported ds) l ++ (reported_first (reversed_reported ds) h.reversed ++ h.last))
      barren
      ∙ ap (λ l. reported_first (barren_reported ds) g.barren ++ (reported_first (reversed_reported ds) l ++ h.last))
      reversed
      ∙ ap (λ l. reported_first (barren_reported ds) g.barren ++ (reported_first (reversed_reported ds) g.reversed
      ++ l)) last
      ∙ sym g.all

  pub one_text : (text a b : List ℕ)
      → ((us vs : List (Tok AbnfKind)) → AreTokens White First ends_list (length text) text us
      → AreTokens White First ends_list (length text) text vs → us ≡ vs)
      → AreAbnfHints has rules count judged end text a → AreAbnfHints has rules count judged end text b → a ≡ b
  one_text text a b one h g =
      let same = one h.tokens g.tokens h.are_tokens g.are_tokens in
      one_by (definitions_in Lf text (map (sign_at sign_of) g.tokens))
      (mentions_in Lf text None (map (sign_at sign_of) g.tokens)) a b
      (subst (λ ts. AreHintsBy has rules count judged end (definitions_in Lf text (map (sign_at sign_of) ts))
      (mentions_in Lf text None (map (sign_at sign_of) ts)) a) same h.are_hints)
      g.are_hints

  -- the hints by the positions of a text
  pub hints_by_positions : (text hints : List ℕ) (positions : Positions) → AreAbnfPositions text positions
      → AreHintsBy has rules count judged end (map defined_at positions.heads.items)
      (map mentioned_at positions.mentions.items) hints → AreAbnfHints has rules count judged end text hints
  hints_by_positions text hints positions are by = record {
    tokens = are.tokens;
    are_tokens = are.are_tokens;
    are_hints = subst (λ v. AreHintsBy has rules count judged end v
        (mentions_in Lf text None (map (sign_at sign_of) are.tokens)) hints) are.heads_are
        (subst (λ v. AreHintsBy has rules count judged end (map defined_at positions.heads.items) v hints)
        are.mentions_are by);
  }
