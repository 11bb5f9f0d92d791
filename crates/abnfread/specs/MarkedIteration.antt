-- What an iterator over tokens with marks gives.
use Rattle.std.specs.Prelude.{◌≡◌, List, [], ◌∷◌, Option, MatchOption}
use Rattle.lexer.specs.TokenLists as lexing
use Rattle.lexer.specs.TokenLists.{Tok, Next, total_of}
use Rattle.abnfread.specs.declared.kind.AbnfKind.{AbnfKind}
use Rattle.abnfread.specs.declared.marks.MarkedToken.{MarkedToken}
use Rattle.abnfread.specs.declared.marks.AbnfTokenIter.{AbnfTokenIter}
use Rattle.abnfread.specs.AbnfKinds.{ends_list}
use Rattle.abnfread.specs.MarkedTokens.{Marked, marks, marked_of}
use Rattle.abnfread.specs.AbnfSlices.{White, First}

-- what is left
pub record AreLeft (s : AbnfTokenIter) (ms : List Marked) : Type 0 where
  pub tokens : List (Tok AbnfKind)
  pub left : lexing.AreLeft White First ends_list s.inner tokens
  pub same : ms ≡ marks s.text.now s.margin s.end tokens

-- what a call of `next` gives: a token of the text, which comes before whatever is left after it
abbrev pub GivesToken : AbnfTokenIter → Option MarkedToken → AbnfTokenIter → Type 0
GivesToken s r t = MatchOption r (AreLeft s [])
    (λ x. Next White First (total_of s.inner) s.inner.rest.now (lexing.tok_of x.token) t.inner.rest.now
    × ((others : List Marked) → AreLeft t others → AreLeft s (marked_of x ∷ others)))

-- What a call of `next` gives, in the words of the whole list: whichever tokens are left, it gave the first of them,
-- and left the others.
abbrev pub TakesFirst : AbnfTokenIter → Option MarkedToken → AbnfTokenIter → Type 0
TakesFirst s r t = (ms : List Marked) → AreLeft s ms
    → MatchOption r (ms ≡ []) (λ x. (others : List Marked) × (ms ≡ marked_of x ∷ others) × AreLeft t others)

-- both
pub record GivesFirst (s : AbnfTokenIter) (r : Option MarkedToken) (t : AbnfTokenIter) : Type 0 where
  pub step : GivesToken s r t
  pub first : TakesFirst s r t
