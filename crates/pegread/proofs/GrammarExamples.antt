-- Examples of what the definitions say.
use Rattle.std.proofs.Common.{ℕ, List, [], ◌∷◌, arith, codes, refl}
use Rattle.ruletable.specs.declared.span.Span.{Span}
use Rattle.pegread.specs.declared.kind.Kind.TheVariants as kinds
use Rattle.pegread.specs.Pattern.{Any, Bytes, Name, Seq, Choice, Opt, Not, Act, none, more}
use Rattle.pegread.specs.Literals.{SpellsBytes}
use Rattle.pegread.specs.Chars.{no_chars, more_chars}
use Rattle.pegread.specs.Limits.{IsShallow}
use Rattle.pegread.specs.Slices.{First}
use Rattle.lexer.specs.TokenLists.{tok}
use Rattle.pegread.specs.Tokens.{Tok}
use Rattle.lexer.specs.Viability.{say_none, say_more}
use Rattle.pegread.specs.Words.{Ident, Arrow, Slash, Bang, Quest, Dot, LParen, RParen, Literal, Action, End, says_name}
use Rattle.pegread.specs.Words.{says_arrow, says_amp, says_star, says_lparen, says_literal, says_action}
use Rattle.pegread.specs.Spelling.{name, literal, dot, action, parens, bare, quest, plain, bang, no_item, item, only}
use Rattle.pegread.specs.Spelling.{further, expression, rule_at, Grammar, last_definition, more_definitions}
use Rattle.pegread.proofs.FirstByteLemmas.{first-arrow, first-begin}
use Rattle.pegread.proofs.CharFormLemmas.{char-plain}
use Rattle.pegread.proofs.GrammarViabilityLemmas.{hopeless-step}
use Rattle.pegread.specs.Reading.{IsHopeless}

-- `<-x` begins with an arrow, `<x` with the start of a capture
arrow-first : First kinds.Arrow (codes "<-x") (codes "x")
arrow-first = first-arrow refl

begin-first : First kinds.Begin (codes "<x") (codes "x")
begin-first = first-begin (omega arith)

module _ (s t a x : List ℕ) (p q : Span) where
  -- `S <- 'a'? !.` is a sequence of two
  optional-spelled : Grammar (Ident s p ∷ Arrow ∷ Literal a ∷ Quest ∷ Bang ∷ Dot ∷ End ∷ [])
      (rule_at s p (Seq (more (Opt (Bytes a)) (more (Not Any) none))) ∷ [])
  optional-spelled = last_definition (expression (only (item (plain (quest literal)) (item (bang (bare dot)) no_item))))

  -- `S <- T / . T <- 'a'`: an arrow after a name begins a definition, and there is no node for a sequence of one
  two-spelled : Grammar (Ident s p ∷ Arrow ∷ Ident t q ∷ Slash ∷ Dot ∷ Ident t q ∷ Arrow ∷ Literal a ∷ End ∷ [])
      (rule_at s p (Choice (more (Name t) (more Any none))) ∷ rule_at t q (Bytes a) ∷ [])
  two-spelled =
      more_definitions (expression (further (item (plain (bare name)) no_item)
      (only (item (plain (bare dot)) no_item))))
      (last_definition (expression (only (item (plain (bare literal)) no_item))))

  -- `S <- (('a'))`: no node for parentheses
  parens-spelled : Grammar (Ident s p ∷ Arrow ∷ LParen ∷ LParen ∷ Literal a ∷ RParen ∷ RParen ∷ End ∷ [])
      (rule_at s p (Bytes a) ∷ [])
  parens-spelled =
      last_definition (expression (only (item (plain
      (bare (parens (expression (only (item (plain
      (bare (parens (expression (only (item (plain (bare literal)) no_item)))))) no_item)))))) no_item)))

  -- `S <- / ()` is a choice of two empty sequences
  empty-spelled : Grammar (Ident s p ∷ Arrow ∷ Slash ∷ LParen ∷ RParen ∷ End ∷ [])
      (rule_at s p (Choice (more (Seq none) (more (Seq none) none))) ∷ [])
  empty-spelled = last_definition (expression (further no_item
      (only (item (plain (bare (parens (expression (only no_item))))) no_item))))

  -- `S <- !{x}` tests an action
  not_action-spelled : Grammar (Ident s p ∷ Arrow ∷ Bang ∷ Action x ∷ End ∷ []) (rule_at s p (Not (Act x)) ∷ [])
  not_action-spelled = last_definition (expression (only (item (bang (bare action)) no_item)))

-- `'a'` says its byte
literal-a : SpellsBytes (codes "'a'") (codes "a")
literal-a = record { mark = 39; inside = codes "a"; cut = refl; chars = more_chars (char-plain (omega arith)) no_chars }

module _ (s t : List ℕ) (p : Span) (us : List Tok) where
  -- `S <- &{x}`: C's code as a predicate is hopeless with the action
  and_action-hopeless : IsHopeless (tok kinds.Ident s p ∷ tok kinds.Arrow (codes "<-") p ∷ tok kinds.Amp (codes "&") p
      ∷ tok kinds.Action (codes "{x}") p ∷ us) 3
  and_action-hopeless = hopeless-step _ (say_more says_name (say_more says_arrow (say_more says_amp say_none))) refl
      (omega arith, (omega arith, (omega arith, omega arith))) _ us (says_action {t = codes "x"} refl) refl

  -- `S <- 'a'**`: at most one suffix
  two_stars-hopeless : IsHopeless (tok kinds.Ident s p ∷ tok kinds.Arrow (codes "<-") p
      ∷ tok kinds.Literal (codes "'a'") p ∷ tok kinds.Star (codes "*") p ∷ tok kinds.Star (codes "*") p ∷ us) 4
  two_stars-hopeless = hopeless-step _ (say_more says_name
      (say_more says_arrow (say_more (says_literal literal-a) (say_more says_star say_none)))) refl
      (omega arith, (omega arith, (omega arith, (omega arith, omega arith)))) _ us says_star refl

  -- `S <- (T <-`: no definition begins within brackets
  arrow_inside-hopeless : IsHopeless (tok kinds.Ident s p ∷ tok kinds.Arrow (codes "<-") p
      ∷ tok kinds.LParen (codes "(") p ∷ tok kinds.Ident t p ∷ tok kinds.Arrow (codes "<-") p ∷ us) 4
  arrow_inside-hopeless = hopeless-step _ (say_more says_name
      (say_more says_arrow (say_more says_lparen (say_more says_name say_none)))) refl
      (omega arith, (omega arith, (omega arith, (omega arith, omega arith)))) _ us says_arrow refl

  -- two brackets are open at most, and not one
  two-open : IsShallow 2 0 (tok kinds.LParen (codes "(") p ∷ tok kinds.LParen (codes "(") p
      ∷ tok kinds.RParen (codes ")") p ∷ tok kinds.LParen (codes "(") p ∷ [])
  two-open = (omega arith, (omega arith, (omega arith, (omega arith, omega arith))))

  two-open-not_one : IsShallow 1 0 (tok kinds.LParen (codes "(") p ∷ tok kinds.LParen (codes "(") p ∷ []) → ⊥
  two-open-not_one h = let inner = h.1 in omega (arith, inner.1)
