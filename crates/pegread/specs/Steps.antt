-- The reader's state as a configuration of the machine, and what the reader's calls do to it.
use Rattle.std.specs.Prelude.{◌≡◌, List, map, get_or, false, Option, Some, None, Result, Ok, Err}
use Rattle.lexer.specs.ReadBodies.{Part, part, alternatives_of, brackets_of, items_of}
use Rattle.pegread.specs.declared.expr.Expr.{Expr}
use Rattle.pegread.specs.declared.words.Word.{Word as CodeWord}
use Rattle.pegread.specs.declared.words.Word.TheVariants as code
use Rattle.pegread.specs.declared.reader.ReaderStop.{ReaderStop}
use Rattle.pegread.specs.declared.reader.ReaderStop.TheVariants as stops
use Rattle.pegread.specs.declared.reader.Prefix.{Prefix}
use Rattle.pegread.specs.declared.reader.Prefix.TheVariants as prefixes
use Rattle.pegread.specs.declared.reader.Definition.{Definition}
use Rattle.pegread.specs.declared.reader.At.{At}
use Rattle.pegread.specs.declared.reader.At.TheVariants as ats
use Rattle.pegread.specs.declared.reader.Reader.{Reader}
use Rattle.pegread.specs.Pattern.{Patterns, none, Rule}
use Rattle.pegread.specs.Spelling.{sequence, rule_at}
use Rattle.pegread.specs.Words as words
use Rattle.pegread.specs.Words.{Word, Says}
use Rattle.pegread.specs.Tokens.{Tok}
use Rattle.pegread.specs.Machine.{Config, start, named, body, done, Head, head, Level, level, Last, fresh, read}
use Rattle.pegread.specs.Machine.{read_name, Mark, no_mark, not_mark, and_mark, close_step, end_step, ended, finish}
use Rattle.pegread.specs.Machine.{snoc, step}
use Rattle.pegread.specs.PegViews.{pattern_of, patterns_of}

-- what the code's word stands for
abbrev pub word_of : CodeWord → Word
word_of (code.Ident name span) = words.Ident name.now span
word_of code.Arrow = words.Arrow
word_of code.Begin = words.Begin
word_of code.EndCap = words.EndCap
word_of code.Slash = words.Slash
word_of code.Amp = words.Amp
word_of code.Bang = words.Bang
word_of code.Quest = words.Quest
word_of code.Star = words.Star
word_of code.Plus = words.Plus
word_of code.Dot = words.Dot
word_of code.LParen = words.LParen
word_of code.RParen = words.RParen
word_of (code.Literal bytes) = words.Literal bytes.items
word_of (code.Class members) = words.Class (λ b. get_or members b false)
word_of (code.Action template) = words.Action template.items
word_of code.End = words.End

-- a definition that was read
abbrev pub rule_from : Definition → Rule
rule_from d = rule_at d.name.now d.span (pattern_of d.body)

abbrev pub rules_from : List Definition → List Rule
rules_from ds = map rule_from ds

abbrev pub mark_of : Prefix → Mark
mark_of prefixes.Nothing = no_mark
mark_of prefixes.Not = not_mark
mark_of prefixes.And = and_mark

abbrev pub level_of : Part Expr Prefix → Level
level_of (part bs es p) = level (patterns_of bs) (patterns_of es) (mark_of p)

-- what the reader has of the definition that goes on
abbrev pub head_of : Reader → Head
head_of r = head (rules_from r.definitions.items) r.name.now r.span

abbrev pub outer_of : Reader → List Level
outer_of r = map level_of (brackets_of r.body)

abbrev pub ended_of : Reader → Patterns
ended_of r = patterns_of (alternatives_of r.body)

abbrev pub last_items : Reader → Patterns
last_items r = patterns_of (items_of r.body)

abbrev pub waiting_of : Reader → Mark
waiting_of r = mark_of r.prefix

abbrev pub body_config : Reader → Last → Config
body_config r l = body (head_of r) (outer_of r) (ended_of r) (last_items r) (waiting_of r) l

abbrev pub config_at : Reader → At → Config
config_at r ats.Start = start
config_at r (ats.Named name span) = named name.now span
config_at r ats.Fresh = body_config r fresh
config_at r (ats.Read x) = body_config r (read (pattern_of x))
config_at r (ats.Name name span) = body_config r (read_name name.now span)
config_at r ats.Done = done (rules_from r.definitions.items)

-- the machine's configuration that the reader's state stands for
abbrev pub config_of : Reader → Config
config_of r = config_at r r.at

-- the reader stopped where the machine has no step, or an allocation failed
abbrev pub Stops : Option Config → ReaderStop → Type 0
Stops x stops.Hopeless = x ≡ None
Stops x stops.Memory = Unit {0}

-- the reader took the machine's step; or it stopped where there is none, or an allocation failed
abbrev pub Steps : {A : Type 0} → Option Config → Result A ReaderStop → Reader → Type 0
Steps x (Ok u) r = x ≡ Some (config_of r)
Steps x (Err s) r = Stops x s

-- the machine's step where neither a suffix may follow nor a prefix waits: a prefix, a slash, a closing bracket or the
-- end
abbrev pub unmarked_step : Head → List Level → Patterns → Patterns → Word → Option Config
unmarked_step h o bs es words.Bang = Some (body h o bs es not_mark fresh)
unmarked_step h o bs es words.Amp = Some (body h o bs es and_mark fresh)
unmarked_step h o bs es words.Slash = Some (body h o (snoc bs (sequence es)) none no_mark fresh)
unmarked_step h o bs es words.RParen = close_step o h (finish bs es)
unmarked_step h o bs es words.End = end_step o (ended h (finish bs es))
unmarked_step h o bs es _ = None

-- where the reader stopped, nothing that the token says goes on, or an allocation failed
abbrev pub StopsAt : Config → Tok → ReaderStop → Type 0
StopsAt c t stops.Hopeless = (w : Word) → Says t w → step c w ≡ None
StopsAt c t stops.Memory = Unit {0}

-- the reader took what the token says, or it stopped
abbrev pub Takes : {A : Type 0} → Config → Tok → Result A ReaderStop → Reader → Type 0
Takes c t (Ok u) r = (w : Word) × Says t w × (step c w ≡ Some (config_of r))
Takes c t (Err s) r = StopsAt c t s
