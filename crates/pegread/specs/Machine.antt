-- A machine that takes words from the left, with the patterns that it has made so far: what the reader's steps do.
use Rattle.std.specs.Prelude.{ℕ, suc, Option, Some, None, List, [], ◌∷◌, ◌++◌}
use Rattle.lexer.specs.Viability as viability
use Rattle.ruletable.specs.declared.span.Span.{Span}
use Rattle.pegread.specs.Pattern as e
use Rattle.pegread.specs.Pattern.{Pattern, Any, Bytes, Set, Name, Opt, And, Not, Act, Open, Close, Patterns, none, more}
use Rattle.pegread.specs.Pattern.{Rule}
use Rattle.pegread.specs.Spelling.{sequence, choice, rule_at}
use Rattle.pegread.specs.Words.{Word, Ident, Arrow, Begin, EndCap, Slash, Amp, Bang, Quest, Star, Plus, Dot, LParen}
use Rattle.pegread.specs.Words.{RParen, Literal, Class, Action, End}

-- one list of members after another
abbrev pub append : Patterns → Patterns → Patterns
append none fs = fs
append (more e es) fs = more e (append es fs)

-- one member more
abbrev pub snoc : Patterns → Pattern → Patterns
snoc es x = append es (more x none)

-- the expression of these alternatives and one more, of these items
abbrev pub finish : Patterns → Patterns → Pattern
finish bs es = choice (snoc bs (sequence es))

-- a prefix that waits for its item
pub data Mark : Type 0 where
  no_mark : Mark
  not_mark : Mark
  and_mark : Mark

-- an item under it
abbrev pub apply : Mark → Pattern → Pattern
apply no_mark x = x
apply not_mark x = Not x
apply and_mark x = And x

-- what was taken last: nothing that a suffix may follow, a primary, or a name, which may begin the next definition
pub data Last : Type 0 where
  fresh : Last
  read : Pattern → Last
  read_name : List ℕ → Span → Last

-- an expression that stands open round a bracket: its alternatives that ended, the items of the last one, and a prefix
pub data Level : Type 0 where
  level : Patterns → Patterns → Mark → Level

-- the definitions that ended, and the name of the one that goes on, with its position
pub data Head : Type 0 where
  head : List Rule → List ℕ → Span → Head

-- all definitions, where the last one has that body
abbrev pub ended : Head → Pattern → List Rule
ended (head rules n p) x = rules ++ rule_at n p x ∷ []

-- nothing yet; the first definition's name; a definition, with the levels round its open brackets, the innermost first,
-- and the innermost expression; the whole
pub data Config : Type 0 where
  start : Config
  named : List ℕ → Span → Config
  body : Head → List Level → Patterns → Patterns → Mark → Last → Config
  done : List Rule → Config

-- only where no prefix waits
abbrev pub unmarked : Mark → Option Config → Option Config
unmarked no_mark x = x
unmarked not_mark x = None
unmarked and_mark x = None

-- only where no `&` waits
abbrev pub not_after_and : Mark → Option Config → Option Config
not_after_and no_mark x = x
not_after_and not_mark x = x
not_after_and and_mark x = None

-- a bracket closes round an expression
abbrev pub close_step : List Level → Head → Pattern → Option Config
close_step [] h x = None
close_step (level bs es m ∷ o) h x = Some (body h o bs es m (read x))

-- the end, where no bracket is open
abbrev pub end_step : List Level → List Rule → Option Config
end_step [] rules = Some (done rules)
end_step (l ∷ o) rules = None

-- a definition of that name begins after these
abbrev pub arrow_step : List Level → Mark → List Rule → List ℕ → Span → Option Config
arrow_step [] m rules n p = unmarked m (Some (body (head rules n p) [] none none no_mark fresh))
arrow_step (l ∷ o) m rules n p = None

-- a word where no suffix may stand
abbrev pub fresh_step : Head → List Level → Patterns → Patterns → Mark → Word → Option Config
fresh_step h o bs es m (Ident n p) = Some (body h o bs es m (read_name n p))
fresh_step h o bs es m (Literal z) = Some (body h o bs es m (read (Bytes z)))
fresh_step h o bs es m (Class f) = Some (body h o bs es m (read (Set f)))
fresh_step h o bs es m Dot = Some (body h o bs es m (read Any))
fresh_step h o bs es m Begin = Some (body h o bs es m (read Open))
fresh_step h o bs es m EndCap = Some (body h o bs es m (read Close))
fresh_step h o bs es m (Action t) = not_after_and m (Some (body h o bs es m (read (Act t))))
fresh_step h o bs es m LParen = Some (body h (level bs es m ∷ o) none none no_mark fresh)
fresh_step h o bs es m Bang = unmarked m (Some (body h o bs es not_mark fresh))
fresh_step h o bs es m Amp = unmarked m (Some (body h o bs es and_mark fresh))
fresh_step h o bs es m Slash = unmarked m (Some (body h o (snoc bs (sequence es)) none no_mark fresh))
fresh_step h o bs es m RParen = unmarked m (close_step o h (finish bs es))
fresh_step h o bs es m End = unmarked m (end_step o (ended h (finish bs es)))
fresh_step h o bs es m _ = None

-- a word after a primary
abbrev pub read_step : Head → List Level → Patterns → Patterns → Mark → Pattern → Word → Option Config
read_step h o bs es m x Quest = Some (body h o bs (snoc es (apply m (Opt x))) no_mark fresh)
read_step h o bs es m x Star = Some (body h o bs (snoc es (apply m (e.Star x))) no_mark fresh)
read_step h o bs es m x Plus = Some (body h o bs (snoc es (apply m (e.Plus x))) no_mark fresh)
read_step h o bs es m x w = fresh_step h o bs (snoc es (apply m x)) no_mark w

-- a word after a name
abbrev pub name_step : Head → List Level → Patterns → Patterns → Mark → List ℕ → Span → Word → Option Config
name_step h o bs es m n p Arrow = arrow_step o m (ended h (finish bs es)) n p
name_step h o bs es m n p w = read_step h o bs es m (Name n) w

-- the first word is the first definition's name
abbrev pub start_step : Word → Option Config
start_step (Ident n p) = Some (named n p)
start_step _ = None

-- the second is the arrow
abbrev pub named_step : List ℕ → Span → Word → Option Config
named_step n p Arrow = Some (body (head [] n p) [] none none no_mark fresh)
named_step n p _ = None

-- nothing where the word does not go on from there
abbrev pub step : Config → Word → Option Config
step start w = start_step w
step (named n p) w = named_step n p w
step (body h o bs es m fresh) w = fresh_step h o bs es m w
step (body h o bs es m (read x)) w = read_step h o bs es m x w
step (body h o bs es m (read_name n p)) w = name_step h o bs es m n p w
step (done rules) w = None

-- all steps of a list
abbrev pub run : Config → List Word → Option Config
run = viability.run step

-- the brackets that are open
abbrev pub levels : List Level → ℕ
levels [] = 0
levels (l ∷ o) = suc (levels o)

abbrev pub levels_in : Config → ℕ
levels_in start = 0
levels_in (named n p) = 0
levels_in (body h o bs es m l) = levels o
levels_in (done rules) = 0
