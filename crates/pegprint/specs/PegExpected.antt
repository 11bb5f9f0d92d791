-- What can stand at a position of a grammar's text, and the phrases for it.
use Rattle.std.specs.Prelude.{◌≡◌, ℕ, List, [], ◌∷◌, ◌++◌, take, codes}
use Rattle.diagnostics.specs.ReportedPhrases.{Phrase}
use Rattle.lexer.specs.TokenLists.{kind_of}
use Rattle.pegread.specs.declared.kind.Kind.{Kind}
use Rattle.pegread.specs.declared.kind.Kind.TheVariants.{Ident, Arrow, Begin, EndCap, Slash, Amp, Bang, Quest, Star}
use Rattle.pegread.specs.declared.kind.Kind.TheVariants.{Plus, Dot, LParen, RParen, Literal, Class, Action, End}
use Rattle.pegread.specs.Spelling.{Viable}
use Rattle.pegread.specs.Tokens.{Tok}

-- with some token of the kind in the place of token i the tokens still begin a grammar
pub record CanStand (ts : List Tok) (i : ℕ) (k : Kind) : Type 0 where
  pub token : Tok
  pub kind : kind_of token ≡ k
  pub viable : Viable (take i ts ++ token ∷ [])

-- a phrase that nothing bars
abbrev pub plain : List ℕ → List Kind → Phrase Kind
plain z ks = record { words = z; kinds = ks; bars = [] }

-- the kinds that begin an item after any prefix
abbrev pub firm_items : List Kind
firm_items = Ident ∷ Literal ∷ Class ∷ Dot ∷ LParen ∷ Begin ∷ EndCap ∷ []

-- The phrases, in the order in which they are reported. A name that only may begin a definition is reported as a
-- name, and else as an element.
abbrev pub phrases : List (Phrase Kind)
phrases =
    record { words = codes "a name"; kinds = Ident ∷ []; bars = Literal ∷ [] } ∷ plain (codes "\"<-\"") (Arrow ∷ [])
    ∷ plain (codes "an element") (Ident ∷ Literal ∷ Class ∷ Dot ∷ LParen ∷ Begin ∷ EndCap ∷ Action ∷ [])
    ∷ record { words = codes "an element but an action"; kinds = firm_items; bars = Action ∷ [] }
    ∷ plain (codes "\"&\"") (Amp ∷ []) ∷ plain (codes "\"!\"") (Bang ∷ []) ∷ plain (codes "\"?\"") (Quest ∷ [])
    ∷ plain (codes "\"*\"") (Star ∷ []) ∷ plain (codes "\"+\"") (Plus ∷ []) ∷ plain (codes "\"/\"") (Slash ∷ [])
    ∷ plain (codes "\")\"") (RParen ∷ []) ∷ plain (codes "the end of the text") (End ∷ []) ∷ []
