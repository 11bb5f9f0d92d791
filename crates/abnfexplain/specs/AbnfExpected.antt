-- What can stand at a position of a grammar's text, and the phrases for it.
use Rattle.std.specs.Prelude.{◌≡◌, ℕ, Bool, true, false, List, [], ◌∷◌, ◌++◌, map, take, codes}
use Rattle.diagnostics.specs.ReportedPhrases.{Phrase}
use Rattle.lexer.specs.TokenLists.{Tok, kind_of}
use Rattle.abnfread.specs.declared.kind.AbnfKind.{AbnfKind}
use Rattle.abnfread.specs.declared.kind.AbnfKind.TheVariants.{Name, Is, Adds, Slash, LParen, RParen, LBrack, RBrack}
use Rattle.abnfread.specs.declared.kind.AbnfKind.TheVariants.{Repeat, Text, Num, Prose, End}
use Rattle.abnfread.specs.AbnfSays.{Viable}
use Rattle.abnfread.specs.MarkedTokens.{Marked, marked}
use Rattle.abnfexplain.specs.declared.abnf_stand.Form.{Form}

-- with some token of the kind and with those marks in the place of token i the tokens still begin a grammar
pub record CanStand (ms : List Marked) (i : ℕ) (form : Form) : Type 0 where
  pub token : Tok AbnfKind
  pub kind : kind_of token ≡ form.kind
  pub viable : Viable (take i ms ++ marked token form.gap form.first ∷ [])

-- not the first of a line that begins a rule
abbrev pub later : Bool → AbnfKind → Form
later g k = record { kind = k; gap = g; first = false }

abbrev pub either_gap : AbnfKind → List Form
either_gap k = later true k ∷ later false k ∷ []

-- a phrase of one kind that nothing bars
abbrev pub one : List ℕ → AbnfKind → Phrase Form
one z k = record { words = z; kinds = either_gap k; bars = [] }

-- the kinds that begin an element
abbrev pub inner_kinds : List AbnfKind
inner_kinds = Name ∷ Text ∷ Num ∷ Prose ∷ LParen ∷ LBrack ∷ []

-- The phrases, in the order in which they are reported.
abbrev pub phrases : List (Phrase Form)
phrases =
    record {
      words = codes "an element";
      kinds = map (later true) (inner_kinds ++ Repeat ∷ []) ++ map (later false) (inner_kinds ++ Repeat ∷ []);
      bars = [];
    }
    ∷ record {
      words = codes "white space and an element";
      kinds = map (later true) (inner_kinds ++ Repeat ∷ []);
      bars = later false Name ∷ [];
    }
    ∷ record {
      words = codes "an element right behind it";
      kinds = map (later false) inner_kinds;
      bars = later false Repeat ∷ [];
    }
    ∷ one (codes "\"=\"") Is ∷ one (codes "\"=/\"") Adds ∷ one (codes "\"/\"") Slash ∷ one (codes "\")\"") RParen
    ∷ one (codes "\"]\"") RBrack
    ∷ record {
      words = codes "a rule";
      kinds = record { kind = Name; gap = true; first = true } ∷ record { kind = Name; gap = false; first = true } ∷ [];
      bars = [];
    }
    ∷ one (codes "the end of the text") End ∷ []
