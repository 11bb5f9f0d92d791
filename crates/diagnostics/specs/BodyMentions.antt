-- What the bodies of a grammar's rules mention: names, prose, repetitions, numbers and literals.
use Rattle.std.specs.Prelude.{◌≡◌, ℕ, Bool, true, false, List, [], ◌∷◌, ◌++◌, Option, Some, None, length, map}
use Rattle.ruletable.specs.Lines.{line_at}
use Rattle.ruletable.specs.declared.lines.LineRule.{LineRule}
use Rattle.lexer.specs.TokenLists.{Tok, AreTokens}
use Rattle.diagnostics.specs.DefinitionHeads.{SignAt, begun_by, sign_at}
use Rattle.diagnostics.specs.UseForms.{use_form}
use Rattle.diagnostics.specs.declared.noteplaces.forms.UseForm.{UseForm}
use Rattle.diagnostics.specs.declared.noteplaces.mentions.Mention.{Mention}
use Rattle.diagnostics.specs.declared.noteplaces.mentions.MentionKind.{MentionKind}
use Rattle.diagnostics.specs.declared.noteplaces.mentions.MentionKind.TheVariants as kinds
use Rattle.diagnostics.specs.declared.noteplaces.sign.Sign.{Sign}
use Rattle.diagnostics.specs.declared.noteplaces.sign.Sign.TheVariants.{Name, Prose, Repeats, Number, Literal}

-- a name that is used, prose, the mark of a repetition, numbers or a text in quotes: its text, its line, the position
-- of the definition in whose body it stands, which it is, and what it is in other notations
pub record MentionedAt : Type 0 where
  pub text : List ℕ
  pub line : ℕ
  pub within : ℕ
  pub kind : MentionKind
  pub form : UseForm

-- what the code's mention stands for
abbrev pub mentioned_at : Mention → MentionedAt
mentioned_at m = record {
  text = m.text.items;
  line = m.line;
  within = m.within;
  kind = m.kind;
  form = m.form;
}

-- whether two kinds are one
abbrev pub is_kind : MentionKind → MentionKind → Bool
is_kind kinds.Use kinds.Use = true
is_kind kinds.Prose kinds.Prose = true
is_kind kinds.Repeat kinds.Repeat = true
is_kind kinds.Number kinds.Number = true
is_kind kinds.Literal kinds.Literal = true
is_kind _ _ = false

-- by a token's sign, where a definition stands before it
abbrev pub mention_by : Sign → (MentionKind → MentionedAt) → List MentionedAt
mention_by Name made = made kinds.Use ∷ []
mention_by Prose made = made kinds.Prose ∷ []
mention_by Repeats made = made kinds.Repeat ∷ []
mention_by Number made = made kinds.Number ∷ []
mention_by Literal made = made kinds.Literal ∷ []
mention_by _ made = []

-- the mention of a token of a text, on a line, in the body of the definition at a position
abbrev pub mention_made : List ℕ → ℕ → ℕ → SignAt → MentionKind → MentionedAt
mention_made text within line t kind = record {
  text = t.slice;
  line = line;
  within = within;
  kind = kind;
  form = use_form text t.start t.slice;
}

abbrev pub mention_of : List ℕ → Option ℕ → ℕ → SignAt → List MentionedAt
mention_of text None line t = []
mention_of text (Some within) line t = mention_by t.sign (mention_made text within line t)

-- what a token mentions that begins no definition
abbrev pub mention_unless : List ℕ → Option Bool → Option ℕ → ℕ → SignAt → List MentionedAt
mention_unless text None within line t = mention_of text within line t
mention_unless text (Some adds) within line t = []

-- the definition in whose body stands what is after a token
abbrev pub body_after : Option Bool → Option ℕ → SignAt → Option ℕ
body_after None within t = within
body_after (Some adds) within t = Some t.start

-- What the tokens of a text mention, in order, after a definition at that position: each name without the sign of a
-- definition right after it, prose, the marks of repetitions, numbers and literals.
abbrev pub mentions_in : LineRule → List ℕ → Option ℕ → List SignAt → List MentionedAt
mentions_in rule text within [] = []
mentions_in rule text within (t ∷ []) = []
mentions_in rule text within (t ∷ u ∷ ts) =
    mention_unless text (begun_by t.sign u.sign) within (line_at rule text t.start) t
    ++ mentions_in rule text (body_after (begun_by t.sign u.sign) within t) (u ∷ ts)

-- what the tokens of a text mention
pub record AreMentions {K : Type 0} (White : List ℕ → List ℕ → Type 0) (First : K → List ℕ → List ℕ → Type 0)
    (is_end : K → Bool) (sign_of : K → Sign) (rule : LineRule) (text : List ℕ) (mentions : List MentionedAt) : Type
    0 where
  pub tokens : List (Tok K)
  pub are_tokens : AreTokens White First is_end (length text) text tokens
  pub all : mentions ≡ mentions_in rule text None (map (sign_at sign_of) tokens)
