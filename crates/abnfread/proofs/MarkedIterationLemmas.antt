-- A token that was given stands before whatever is left after it.
-- Serves: AbnfTokenIter::next
use Rattle.std.proofs.Common.{◌≡◌, ℕ, ◌==◌, not, true, false, Option, Some, List, ◌∷◌, refl, sym, ap, ◌∙◌}
use Rattle.lexer.specs.TokenLists as lexing
use Rattle.lexer.specs.TokenLists.{Tok}
use Rattle.lexer.proofs.TokenListLemmas.{left-step}
use Rattle.lexer.specs.declared.token_iter.Token.{Token}
use Rattle.abnfread.specs.declared.kind.AbnfKind.{AbnfKind}
use Rattle.abnfread.specs.declared.marks.AbnfTokenIter.{AbnfTokenIter}
use Rattle.abnfread.specs.declared.marks.MarkedToken.{MarkedToken}
use Rattle.abnfread.specs.AbnfKinds.{ends_list}
use Rattle.abnfread.specs.AbnfSlices.{White, First}
use Rattle.abnfread.specs.MarkedIteration.{AreLeft, GivesFirst}
use Rattle.abnfread.specs.MarkedTokens.{Marked, is_first, marks, marked_of, begins_rule, indent_at}

-- the token has the marks of the text, and the iterator goes on at its end
pub record IsMarkedNext (s : AbnfTokenIter) (x : MarkedToken) (t : AbnfTokenIter) : Type 0 where
  pub text : t.text.now ≡ s.text.now
  pub margin : t.margin ≡ s.margin
  pub end : t.end ≡ x.token.span.end
  pub gap : x.gap ≡ not (x.token.span.start == s.end)
  pub first : x.first ≡ is_first s.text.now s.margin (lexing.tok_of x.token)

module _ (s t : AbnfTokenIter) (x : MarkedToken) (is : IsMarkedNext s x t)
    (given : lexing.GivesFirst White First ends_list s.inner (Some x.token) t.inner) where
  others-marked : (others : List (Tok AbnfKind)) → marks s.text.now s.margin s.end (lexing.tok_of x.token ∷ others)
      ≡ marked_of x ∷ marks t.text.now t.margin t.end others
  others-marked others = rw (is.text, is.margin, is.end, is.gap, is.first) refl

  token-before : (others : List Marked) → AreLeft t others → AreLeft s (marked_of x ∷ others)
  token-before others h = record {
    tokens = lexing.tok_of x.token ∷ h.tokens;
    left = left-step White First ends_list s.inner t.inner x.token h.tokens given.step h.left;
    same = ap (λ (ms : List Marked). marked_of x ∷ ms) h.same ∙ sym (others-marked h.tokens);
  }

  first-left : (ms : List Marked) → AreLeft s ms → (others : List Marked) × (ms ≡ marked_of x ∷ others)
      × AreLeft t others
  first-left ms h =
      let o = given.first h.tokens h.left in (
        marks t.text.now t.margin t.end o.0,
        h.same ∙ ap (λ (ts : List (Tok AbnfKind)). marks s.text.now s.margin s.end ts) o.1 ∙ others-marked o.0,
        record { tokens = o.0; left = o.2; same = refl },
      )

  pub gives-first : GivesFirst s (Some x) t
  gives-first =
      let steps = given.step.1 in
      record { step = (steps.1, token-before); first = first-left }

-- the end is the first token of no line that begins a rule
pub not-first : (x : Token AbnfKind) (text : List ℕ) (m : Option ℕ) → ends_list x.kind ≡ true
    → is_first text m (lexing.tok_of x) ≡ false
not-first x text m e = rw e refl

pub maybe-first : (x : Token AbnfKind) (text : List ℕ) (m : Option ℕ) → ends_list x.kind ≡ false
    → is_first text m (lexing.tok_of x) ≡ begins_rule m (indent_at text x.span.start)
maybe-first x text m e = rw e refl
