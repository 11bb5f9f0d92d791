-- The machine's steps, as far as kinds say.
-- Serves: explain_fault
use Rattle.std.proofs.Common.{◌≡◌, ℕ, Option, Some, None, List, [], ◌∷◌, refl}
use Rattle.ruletable.specs.declared.span.Span.{Span}
use Rattle.lexer.specs.TokenLists.{kind_of}
use Rattle.pegread.specs.declared.kind.Kind.{Kind}
use Rattle.pegread.specs.declared.kind.Kind.TheVariants as kinds
use Rattle.pegread.specs.Pattern.{Pattern, Name, Patterns}
use Rattle.pegread.specs.Tokens.{Tok}
use Rattle.pegread.specs.Words.{Word, Ident, Arrow, Begin, EndCap, Slash, Amp, Bang, Quest, Star, Plus, Dot, LParen}
use Rattle.pegread.specs.Words.{RParen, Literal, Class, Action, End, Says, says_name, says_arrow, says_begin}
use Rattle.pegread.specs.Words.{says_end_cap, says_slash, says_amp, says_bang, says_quest, says_star, says_plus}
use Rattle.pegread.specs.Words.{says_dot, says_lparen, says_rparen, says_literal, says_class, says_action, says_end}
use Rattle.pegread.specs.Machine.{Config, start, named, body, done, Head, Level, level, levels}
use Rattle.pegread.specs.Machine.{levels_in, Mark, no_mark}
use Rattle.pegread.specs.Machine.{not_mark, and_mark, fresh, read, read_name, snoc, apply, fresh_step, read_step}
use Rattle.pegread.specs.Machine.{name_step, step}
use Rattle.pegprint.specs.declared.faults.stand.Position.{Position}
use Rattle.pegprint.specs.PegStands.{position_of, stand_of, goes, after_primary}

-- the kind of the tokens that say a word
abbrev pub kind_said : Word → Kind
kind_said (Ident n p) = kinds.Ident
kind_said Arrow = kinds.Arrow
kind_said Begin = kinds.Begin
kind_said EndCap = kinds.EndCap
kind_said Slash = kinds.Slash
kind_said Amp = kinds.Amp
kind_said Bang = kinds.Bang
kind_said Quest = kinds.Quest
kind_said Star = kinds.Star
kind_said Plus = kinds.Plus
kind_said Dot = kinds.Dot
kind_said LParen = kinds.LParen
kind_said RParen = kinds.RParen
kind_said (Literal z) = kinds.Literal
kind_said (Class f) = kinds.Class
kind_said (Action t) = kinds.Action
kind_said End = kinds.End

pub says-kind : {t : Tok} {w : Word} → Says t w → kind_said w ≡ kind_of t
says-kind says_name = refl
says-kind says_arrow = refl
says-kind says_begin = refl
says-kind says_end_cap = refl
says-kind says_slash = refl
says-kind says_amp = refl
says-kind says_bang = refl
says-kind says_quest = refl
says-kind says_star = refl
says-kind says_plus = refl
says-kind says_dot = refl
says-kind says_lparen = refl
says-kind says_rparen = refl
says-kind (says_literal h) = refl
says-kind (says_class h) = refl
says-kind (says_action h) = refl
says-kind says_end = refl

-- where the machine stands after a step
abbrev pub position_after : Option Config → Option Position
position_after None = None
position_after (Some c) = Some (position_of c)

fresh-goes : (h : Head) (o : List Level) (bs es : Patterns) (m : Mark) (w : Word)
    → position_after (fresh_step h o bs es m w) ≡ goes (stand_of (body h o bs es m fresh)) (levels o) (kind_said w)
fresh-goes h [] bs es no_mark RParen = refl
fresh-goes h (level b f m ∷ o) bs es no_mark RParen = refl
fresh-goes h [] bs es no_mark End = refl
fresh-goes h (l ∷ o) bs es no_mark End = refl
fresh-goes h o bs es no_mark _ = refl
fresh-goes h o bs es not_mark (Ident n p) = refl
fresh-goes h o bs es not_mark Arrow = refl
fresh-goes h o bs es not_mark Begin = refl
fresh-goes h o bs es not_mark EndCap = refl
fresh-goes h o bs es not_mark Slash = refl
fresh-goes h o bs es not_mark Amp = refl
fresh-goes h o bs es not_mark Bang = refl
fresh-goes h o bs es not_mark Quest = refl
fresh-goes h o bs es not_mark Star = refl
fresh-goes h o bs es not_mark Plus = refl
fresh-goes h o bs es not_mark Dot = refl
fresh-goes h o bs es not_mark LParen = refl
fresh-goes h o bs es not_mark RParen = refl
fresh-goes h o bs es not_mark (Literal z) = refl
fresh-goes h o bs es not_mark (Class f) = refl
fresh-goes h o bs es not_mark (Action t) = refl
fresh-goes h o bs es not_mark End = refl
fresh-goes h o bs es and_mark (Ident n p) = refl
fresh-goes h o bs es and_mark Arrow = refl
fresh-goes h o bs es and_mark Begin = refl
fresh-goes h o bs es and_mark EndCap = refl
fresh-goes h o bs es and_mark Slash = refl
fresh-goes h o bs es and_mark Amp = refl
fresh-goes h o bs es and_mark Bang = refl
fresh-goes h o bs es and_mark Quest = refl
fresh-goes h o bs es and_mark Star = refl
fresh-goes h o bs es and_mark Plus = refl
fresh-goes h o bs es and_mark Dot = refl
fresh-goes h o bs es and_mark LParen = refl
fresh-goes h o bs es and_mark RParen = refl
fresh-goes h o bs es and_mark (Literal z) = refl
fresh-goes h o bs es and_mark (Class f) = refl
fresh-goes h o bs es and_mark (Action t) = refl
fresh-goes h o bs es and_mark End = refl

read-goes : (h : Head) (o : List Level) (bs es : Patterns) (m : Mark) (x : Pattern) (w : Word)
    → position_after (read_step h o bs es m x w) ≡ after_primary (levels o) (kind_said w)
read-goes h o bs es m x Quest = refl
read-goes h o bs es m x Star = refl
read-goes h o bs es m x Plus = refl
read-goes h o bs es m x w = fresh-goes h o bs (snoc es (apply m x)) no_mark w

name-goes : (h : Head) (o : List Level) (bs es : Patterns) (m : Mark) (n : List ℕ) (p : Span) (w : Word)
    → position_after (name_step h o bs es m n p w) ≡ goes (stand_of (body h o bs es m (read_name n p))) (levels o)
    (kind_said w)
name-goes h [] bs es no_mark n p Arrow = refl
name-goes h (l ∷ o) bs es no_mark n p Arrow = refl
name-goes h [] bs es not_mark n p Arrow = refl
name-goes h (l ∷ o) bs es not_mark n p Arrow = refl
name-goes h [] bs es and_mark n p Arrow = refl
name-goes h (l ∷ o) bs es and_mark n p Arrow = refl
name-goes h o bs es no_mark n p w = read-goes h o bs es no_mark (Name n) w
name-goes h o bs es not_mark n p w = read-goes h o bs es not_mark (Name n) w
name-goes h o bs es and_mark n p w = read-goes h o bs es and_mark (Name n) w

pub step-goes : (c : Config) (w : Word) → position_after (step c w) ≡ goes (stand_of c) (levels_in c) (kind_said w)
step-goes start (Ident n p) = refl
step-goes start Arrow = refl
step-goes start Begin = refl
step-goes start EndCap = refl
step-goes start Slash = refl
step-goes start Amp = refl
step-goes start Bang = refl
step-goes start Quest = refl
step-goes start Star = refl
step-goes start Plus = refl
step-goes start Dot = refl
step-goes start LParen = refl
step-goes start RParen = refl
step-goes start (Literal z) = refl
step-goes start (Class f) = refl
step-goes start (Action t) = refl
step-goes start End = refl
step-goes (named n p) (Ident m q) = refl
step-goes (named n p) Arrow = refl
step-goes (named n p) Begin = refl
step-goes (named n p) EndCap = refl
step-goes (named n p) Slash = refl
step-goes (named n p) Amp = refl
step-goes (named n p) Bang = refl
step-goes (named n p) Quest = refl
step-goes (named n p) Star = refl
step-goes (named n p) Plus = refl
step-goes (named n p) Dot = refl
step-goes (named n p) LParen = refl
step-goes (named n p) RParen = refl
step-goes (named n p) (Literal z) = refl
step-goes (named n p) (Class f) = refl
step-goes (named n p) (Action t) = refl
step-goes (named n p) End = refl
step-goes (body h o bs es m fresh) w = fresh-goes h o bs es m w
step-goes (body h o bs es m (read x)) w = read-goes h o bs es m x w
step-goes (body h o bs es m (read_name n p)) w = name-goes h o bs es m n p w
step-goes (done rules) _ = refl
