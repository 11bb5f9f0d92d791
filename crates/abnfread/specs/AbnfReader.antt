-- The reader's state as a configuration of the machine, and what the reader's calls do to it.
use Rattle.std.specs.Prelude.{◌≡◌, ℕ, Bool, true, false, List, [], map, Option, Some, None, Result, Ok, Err}
use Rattle.ruletable.specs.declared.span.Span.{Span}
use Rattle.lexer.specs.ReadBodies.{Part, part, alternatives_of, brackets_of, items_of}
use Rattle.abnfread.specs.declared.elem.Elem.{Elem}
use Rattle.abnfread.specs.declared.kind.AbnfKind.{AbnfKind}
use Rattle.abnfread.specs.declared.kind.AbnfKind.TheVariants as kinds
use Rattle.abnfread.specs.declared.words.Said.{Said as CodeSaid}
use Rattle.abnfread.specs.declared.words.Said.TheVariants as code
use Rattle.abnfread.specs.declared.number.NumberFault.{NumberFault}
use Rattle.abnfread.specs.declared.number.NumberFault.TheVariants as numbers
use Rattle.abnfread.specs.declared.reader.ReaderStop.{ReaderStop}
use Rattle.abnfread.specs.declared.reader.ReaderStop.TheVariants as stops
use Rattle.abnfread.specs.declared.reader.Times.{Times as CodeTimes}
use Rattle.abnfread.specs.declared.reader.Times.TheVariants as code_times
use Rattle.abnfread.specs.declared.reader.Bracket.{Bracket as CodeBracket}
use Rattle.abnfread.specs.declared.reader.Bracket.TheVariants as code_brackets
use Rattle.abnfread.specs.declared.reader.Opened.{Opened}
use Rattle.abnfread.specs.declared.reader.At.{At}
use Rattle.abnfread.specs.declared.reader.At.TheVariants as ats
use Rattle.abnfread.specs.declared.reader.Reader.{Reader}
use Rattle.abnfread.specs.AbnfMachine.{Times, just, times, Bracket, paren, brack, Level, level, Head, head, Last, fresh}
use Rattle.abnfread.specs.AbnfMachine.{awaits, read, Config, start, named, body, done, step}
use Rattle.abnfread.specs.AbnfSays.{SaysKind, Says, IsSmall}
use Rattle.abnfread.specs.AbnfWords as words
use Rattle.abnfread.specs.AbnfWords.{Said, Word, word}
use Rattle.abnfread.specs.Element.{Elements}
use Rattle.abnfread.specs.MarkedTokens.{Marked}
use Rattle.abnfread.specs.AbnfViews.{elements_of, definitions_from}

-- what the code's word stands for
abbrev pub said_of : CodeSaid → Said
said_of (code.Name name span) = words.Name name.now span
said_of code.Is = words.Is
said_of code.Adds = words.Adds
said_of code.Slash = words.Slash
said_of code.LParen = words.LParen
said_of code.RParen = words.RParen
said_of code.LBrack = words.LBrack
said_of code.RBrack = words.RBrack
said_of (code.Repeat least most) = words.Repeat least most
said_of (code.Text folds text) = words.Text folds text.now
said_of (code.Values values) = words.Values values.items
said_of (code.Range low high) = words.Range low high
said_of (code.Prose text) = words.Prose text.now
said_of code.End = words.End

abbrev pub times_of : CodeTimes → Times
times_of code_times.Once = just
times_of (code_times.Repeated least most) = times least most

abbrev pub bracket_of : CodeBracket → Bracket
bracket_of code_brackets.Paren = paren
bracket_of code_brackets.Brack = brack

abbrev pub level_of : Part Elem Opened → Level
level_of (part bs es m) = level (elements_of bs) (elements_of es) (times_of m.times) (bracket_of m.bracket)

-- what the reader has of the definition that goes on
abbrev pub head_of : Reader → Head
head_of r = head (definitions_from r.definitions.items) r.adds r.name.now r.span

abbrev pub ended_of : Reader → Elements
ended_of r = elements_of (alternatives_of r.body)

abbrev pub parts_of : Reader → Elements
parts_of r = elements_of (items_of r.body)

abbrev pub outer_of : Reader → List Level
outer_of r = map level_of (brackets_of r.body)

abbrev pub body_config : Reader → Last → Config
body_config r l = body (head_of r) (outer_of r) (ended_of r) (parts_of r) l

abbrev pub config_at : Reader → At → Config
config_at r ats.Start = start
config_at r ats.Named = named (definitions_from r.definitions.items) r.name.now r.span
config_at r ats.Fresh = body_config r fresh
config_at r (ats.Awaits least most) = body_config r (awaits least most)
config_at r ats.Read = body_config r read
config_at r ats.Done = done (definitions_from r.definitions.items)

-- what the reader has come to
abbrev pub config_of : Reader → Config
config_of r = config_at r r.at

-- the reader stopped where the machine has no step, or because an allocation failed
abbrev pub StopsAt : Option Config → ReaderStop → Type 0
StopsAt x stops.Hopeless = x ≡ None
StopsAt x stops.TooLarge = ⊥
StopsAt x stops.Memory = Unit {0}

-- the reader took the machine's step, or it stopped where there is none, unless memory ran out
abbrev pub Steps : {A : Type 0} → Option Config → Result A ReaderStop → Reader → Type 0
Steps x (Ok u) r = x ≡ Some (config_of r)
Steps x (Err s) r = StopsAt x s

-- the result is what the token says, or that its numbers are too large, unless memory ran out
abbrev pub Gives : Said → Result (Option CodeSaid) NumberFault → Type 0
Gives s (Ok None) = ⊥
Gives s (Ok (Some w)) = (said_of w ≡ s) × IsSmall s
Gives s (Err numbers.TooLarge) = IsSmall s → ⊥
Gives s (Err numbers.Memory) = Unit {0}

-- a token says something, but for what begins none
abbrev pub IsSaid : AbnfKind → List ℕ → Span → Type 0
IsSaid kinds.Bad z p = Unit {0}
IsSaid k z p = (s : Said) × SaysKind k z p s

-- a number of either kind
abbrev pub sample : Bool → Said
sample true = words.Repeat 0 None
sample false = words.Values []

abbrev pub is_there : Option Config → Bool
is_there None = false
is_there (Some c) = true

-- where the token was not taken, nothing that it says goes on, or numbers that go on are too large, unless memory ran
-- out
abbrev pub Refuses : Config → Marked → ReaderStop → Type 0
Refuses c m stops.Hopeless = (w : Word) → Says m w → step c w ≡ None
Refuses c m stops.TooLarge = (g : Bool) × (f : Bool) × (s : Said) × (d : Config) × Says m (word g f s) × (IsSmall s → ⊥)
    × (step c (word g f s) ≡ Some d)
Refuses c m stops.Memory = Unit {0}

-- the reader took what the token says, or it stopped
abbrev pub Takes : {A : Type 0} → Config → Marked → Result A ReaderStop → Reader → Type 0
Takes c m (Ok u) r = (g : Bool) × (f : Bool) × (s : Said) × Says m (word g f s) × IsSmall s
    × (step c (word g f s) ≡ Some (config_of r))
Takes c m (Err s) r = Refuses c m s
