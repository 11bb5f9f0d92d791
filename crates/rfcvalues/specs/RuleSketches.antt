-- What distinguishes a rule of ABNF from lines that assign values, as test vectors and programs have them.
use Prim.Native.Char.{code}
use Rattle.std.specs.Prelude.{◌≡◌, ℕ, ◌<◌, ◌≤◌, ◌==◌, ◌-◌, ◌||◌, ◌&&◌, nat_lt, not, Bool, true, false, List, [], ◌∷◌}
use Rattle.std.specs.Prelude.{◌+◌, length, drop, take, map, slice_index_or}
use Rattle.std.specs.List.{filter, list_any, prefix_len}
use Rattle.lexer.specs.GrammarLimits.{max_grammar}
use Rattle.lexer.specs.TokenLists.{Tok, tok, kind_of, slice_of, start_of}
use Rattle.abnfread.specs.AbnfSlices.{continues_name}
use Rattle.abnfread.specs.MarkedTokens.{AreTokens}
use Rattle.abnfread.specs.declared.kind.AbnfKind.{AbnfKind}
use Rattle.abnfread.specs.declared.kind.AbnfKind.TheVariants as kinds
use Rattle.abnfexplain.specs.AbnfDecisions.{IsFaultToken, NoneDecides}
use Rattle.rfcvalues.specs.HexWords.{has_hex_word}
use Rattle.rfcvalues.specs.StatementLines.{ends_statement, is_gap}
use Rattle.rfcvalues.specs.declared.sketch.RuleSketch.{RuleSketch}
use Rattle.rfcvalues.specs.declared.sketch.SeenRule.{SeenRule}
use Rattle.rfcvalues.specs.declared.words.WordsEnd.{WordsEnd}
use Rattle.rfcvalues.specs.declared.words.WordsEnd.TheVariants.{Whole, TooLong, Wrong}

-- a rule as it is found: its first line; its lines up to the end of the cut that reads, or all, without the margin;
-- whether they read; and whether a list is written out in them
pub record RuleSeen : Type 0 where
  pub first : List ℕ
  pub text : List ℕ
  pub reads : Bool
  pub has_list : Bool

-- the tokens that begin before that position
abbrev pub tokens_before : ℕ → List (Tok AbnfKind) → List (Tok AbnfKind)
tokens_before n ts = filter (λ x. nat_lt (start_of x) n) ts

-- those tokens of a text
abbrev pub AreTokensBefore : List ℕ → ℕ → List (Tok AbnfKind) → Type 0
AreTokensBefore text n found = (ts : List (Tok AbnfKind)) × AreTokens text ts × (found ≡ tokens_before n ts)

-- the first of the bytes that begin no token; 0 of a token
abbrev pub wrong_byte : Tok AbnfKind → ℕ
wrong_byte (tok kinds.Bad (b ∷ z) p) = b
wrong_byte _ = 0

-- The tokens of a rule up to the end of its words: those before its end if it reads, and else before the token with
-- which it goes wrong. One that is too long to read has none.
pub data AreRuleTokens (rule : RuleSeen) : WordsEnd → List (Tok AbnfKind) → Type 0 where
  to_its_end : {ts : List (Tok AbnfKind)} → rule.reads ≡ true → AreTokens rule.text ts
      → AreRuleTokens rule Whole (tokens_before (length rule.text) ts)
  to_its_fault : {ts : List (Tok AbnfKind)} {x : Tok AbnfKind} → rule.reads ≡ false → length rule.text ≤ max_grammar
      → IsFaultToken rule.text x → AreTokens rule.text ts
      → AreRuleTokens rule (Wrong (wrong_byte x)) (tokens_before (start_of x) ts)
  with_no_fault : {ts : List (Tok AbnfKind)} → rule.reads ≡ false → length rule.text ≤ max_grammar
      → NoneDecides rule.text → AreTokens rule.text ts → AreRuleTokens rule Whole (tokens_before (length rule.text) ts)
  too_long : rule.reads ≡ false → max_grammar < length rule.text → AreRuleTokens rule TooLong []

-- the words: what follows the name, and `=` or `=/`
abbrev pub words_after : List (Tok AbnfKind) → List (Tok AbnfKind)
words_after ts = drop 2 ts

-- texts, numbers, prose and `/` are marks
abbrev pub is_marking : AbnfKind → Bool
is_marking kinds.Text = true
is_marking kinds.Num = true
is_marking kinds.Prose = true
is_marking kinds.Slash = true
is_marking _ = false

abbrev pub is_opening : AbnfKind → Bool
is_opening kinds.LParen = true
is_opening kinds.LBrack = true
is_opening _ = false

abbrev pub is_name_kind : AbnfKind → Bool
is_name_kind kinds.Name = true
is_name_kind _ = false

abbrev pub is_adding : AbnfKind → Bool
is_adding kinds.Adds = true
is_adding _ = false

-- a repeat with `*`
abbrev pub is_starred : Tok AbnfKind → Bool
is_starred (tok kinds.Repeat z p) = list_any (λ b. b == code "*") z
is_starred _ = false

-- a repeat with `*` stands before another word
abbrev pub has_count : List (Tok AbnfKind) → Bool
has_count words = list_any is_starred (take (length words - 1) words)

-- a rule that goes wrong at such a byte is one
abbrev pub is_rule_byte : ℕ → Bool
is_rule_byte b = (b == code "|") || (b == code "#") || (b == code "\"") || (b == code "<") || (b == code "%")
    || (b == code "'")

-- Brackets and lists mark a rule that reads, and such a byte marks one that goes wrong at it.
abbrev pub end_marks : Bool → WordsEnd → List (Tok AbnfKind) → Bool
end_marks has_list Whole words = has_list || list_any (λ x. is_opening (kind_of x)) words
end_marks has_list TooLong words = true
end_marks has_list (Wrong b) words = is_rule_byte b

-- a mark shows that it is a rule of ABNF
abbrev pub has_mark : Bool → WordsEnd → List (Tok AbnfKind) → Bool
has_mark has_list end ts = list_any (λ x. is_adding (kind_of x)) (take 2 ts)
    || list_any (λ x. is_marking (kind_of x)) (words_after ts) || has_count (words_after ts)
    || end_marks has_list end (words_after ts)

-- how many bytes stand before the first `=`
abbrev pub sign_position : List ℕ → ℕ
sign_position text = prefix_len (λ b. not (b == code "=")) text

-- what follows it
abbrev pub assigned_text : List ℕ → List ℕ
assigned_text text = drop (sign_position text + 1) text

-- the byte at that position, or a space past the end
abbrev pub byte_at : List ℕ → ℕ → ℕ
byte_at line n = slice_index_or line n (code " ")

-- no blank stands before the first `=`, and neither a blank nor `/` after it
abbrev pub is_tight : List ℕ → Bool
is_tight line =
    let n = sign_position line in
    not (is_gap (byte_at line (n - 1))) && not (is_gap (byte_at line (n + 1))) && not (byte_at line (n + 1) == code "/")

-- the rule reads as one text, or goes wrong, but not at `|` or `#` that begins no token
abbrev pub is_odd : WordsEnd → List (Tok AbnfKind) → Bool
is_odd Whole (tok kinds.Text z p ∷ []) = true
is_odd Whole _ = false
is_odd TooLong _ = true
is_odd (Wrong b) _ = not (b == code "|") && not (b == code "#")

-- what distinguishes a rule from lines that assign values: its name, the names among its words, whether it has a mark,
-- ends like a statement, is written without blanks, reads, and has a word in hexadecimal digits
pub record SketchedRule : Type 0 where
  pub name : List ℕ
  pub uses : List (List ℕ)
  pub is_marked : Bool
  pub is_statement : Bool
  pub is_compact : Bool
  pub reads : Bool
  pub has_hex : Bool

-- the name that begins a text
abbrev pub name_first : List ℕ → List ℕ
name_first text = take (prefix_len continues_name text) text

abbrev pub names_among : List (Tok AbnfKind) → List (List ℕ)
names_among words = map slice_of (filter (λ x. is_name_kind (kind_of x)) words)

-- the sketch of a rule whose tokens up to the end of its words these are
abbrev pub sketch_of : RuleSeen → WordsEnd → List (Tok AbnfKind) → SketchedRule
sketch_of rule end ts = record {
  name = name_first rule.text;
  uses = names_among (words_after ts);
  is_marked = has_mark rule.has_list end ts;
  is_statement = ends_statement rule.first;
  is_compact = is_tight rule.first && is_odd end (words_after ts);
  reads = rule.reads;
  has_hex = has_hex_word (assigned_text rule.text);
}

pub record IsSketch (rule : RuleSeen) (sketch : SketchedRule) : Type 0 where
  pub end : WordsEnd
  pub tokens : List (Tok AbnfKind)
  pub are_tokens : AreRuleTokens rule end tokens
  pub is : sketch ≡ sketch_of rule end tokens

-- what the code's values stand for
abbrev pub rule_seen : SeenRule → RuleSeen
rule_seen rule = record {
  first = rule.first.now;
  text = rule.text.now;
  reads = rule.reads;
  has_list = rule.has_list;
}

abbrev pub rule_sketched : RuleSketch → SketchedRule
rule_sketched rule = record {
  name = rule.name.items;
  uses = map (λ name. name.items) rule.uses.items;
  is_marked = rule.is_marked;
  is_statement = rule.is_statement;
  is_compact = rule.is_compact;
  reads = rule.reads;
  has_hex = rule.has_hex;
}
