-- Every token of a text says one word, but for a bad one, which says none.
-- Serves: is_read_back, one_tree, read_peg
use Rattle.std.proofs.Common.{◌≡◌, ◌≢◌, ℕ, List, refl, ◌∙◌, sym, ap}
use Rattle.ruletable.specs.declared.span.Span.{Span}
use Rattle.pegread.specs.declared.kind.Kind.TheVariants as kinds
use Rattle.lexer.specs.TokenLists.{tok, kind_of}
use Rattle.pegread.specs.Tokens.{Tok, Next}
use Rattle.pegread.specs.Words.{Word, Ident, Arrow, Begin, EndCap, Slash, Amp, Bang, Quest, Star, Plus, Dot, LParen}
use Rattle.pegread.specs.Words.{RParen, Literal, Class, Action, End, Says, says_name, says_arrow, says_begin}
use Rattle.pegread.specs.Words.{says_end_cap, says_slash, says_amp, says_bang, says_quest, says_star, says_plus}
use Rattle.pegread.specs.Words.{says_dot, says_lparen, says_rparen, says_literal, says_class, says_action, says_end}
use Rattle.pegread.proofs.SpellsSetLemmas.{one-class, some-class}
use Rattle.pegread.proofs.SpellsBytesLemmas.{one-literal, some-literal, same-inside}
use Rattle.pegread.proofs.AreMarkedLemmas.{literal-token, class-token, braced-token}

pub bad-silent : (z : List ℕ) (p : Span) (w : Word) → Says (tok kinds.Bad z p) w → ⊥
bad-silent z p w h = elim h [ ]

pub token-says : (total : ℕ) (t r : List ℕ) (x : Tok) → Next total t x r → kind_of x ≢ kinds.Bad → (w : Word) × Says x w
token-says total t r (tok kinds.Ident z p) n g = (Ident z p, says_name)
token-says total t r (tok kinds.Arrow z p) n g = (Arrow, says_arrow)
token-says total t r (tok kinds.Begin z p) n g = (Begin, says_begin)
token-says total t r (tok kinds.EndCap z p) n g = (EndCap, says_end_cap)
token-says total t r (tok kinds.Slash z p) n g = (Slash, says_slash)
token-says total t r (tok kinds.Amp z p) n g = (Amp, says_amp)
token-says total t r (tok kinds.Bang z p) n g = (Bang, says_bang)
token-says total t r (tok kinds.Quest z p) n g = (Quest, says_quest)
token-says total t r (tok kinds.Star z p) n g = (Star, says_star)
token-says total t r (tok kinds.Plus z p) n g = (Plus, says_plus)
token-says total t r (tok kinds.Dot z p) n g = (Dot, says_dot)
token-says total t r (tok kinds.LParen z p) n g = (LParen, says_lparen)
token-says total t r (tok kinds.RParen z p) n g = (RParen, says_rparen)
token-says total t r (tok kinds.Literal z p) n g = let s = some-literal z (literal-token total t r z p n) in
    (Literal s.0, says_literal s.1)
token-says total t r (tok kinds.Class z p) n g = let s = some-class z (class-token total t r z p n) in
    (Class s.0, says_class s.1)
token-says total t r (tok kinds.Action z p) n g = let s = braced-token total t r z p n in (Action s.0, says_action s.1)
token-says total t r (tok kinds.Bad z p) n g = absurd (g refl)
token-says total t r (tok kinds.End z p) n g = (End, says_end)

pub one-word : (t : Tok) (v w : Word) → Says t v → Says t w → v ≡ w
one-word t v w says_name says_name = refl
one-word t v w says_arrow says_arrow = refl
one-word t v w says_begin says_begin = refl
one-word t v w says_end_cap says_end_cap = refl
one-word t v w says_slash says_slash = refl
one-word t v w says_amp says_amp = refl
one-word t v w says_bang says_bang = refl
one-word t v w says_quest says_quest = refl
one-word t v w says_star says_star = refl
one-word t v w says_plus says_plus = refl
one-word t v w says_dot says_dot = refl
one-word t v w says_lparen says_lparen = refl
one-word t v w says_rparen says_rparen = refl
one-word t v w (says_literal {z} h) (says_literal k) = ap Literal (one-literal z _ _ h k)
one-word t v w (says_class {z} h) (says_class k) = ap Class (one-class z _ _ h k)
one-word t v w (says_action {t = a} h) (says_action {t = b} k) = ap Action (same-inside 123 125 123 125 a b (sym h ∙ k))
one-word t v w says_end says_end = refl
