-- A machine that takes words from the left, with what it has made so far.
use Rattle.std.specs.Prelude.{ℕ, suc, Bool, true, false, Option, Some, None, List, [], ◌∷◌, ◌++◌}
use Rattle.lexer.specs.Viability as taking
use Rattle.ruletable.specs.declared.span.Span.{Span}
use Rattle.abnfread.specs.Element as e
use Rattle.abnfread.specs.Element.{Element, Elements, none, more, append, Rep, Opt, Definition}
use Rattle.abnfread.specs.AbnfSpelling.{concatenation, alternation, definition}
use Rattle.abnfread.specs.AbnfWords.{Word, word, Said, Name, Is, Adds, Slash, LParen, RParen, LBrack, RBrack, Repeat}
use Rattle.abnfread.specs.AbnfWords.{Text, Values, Range, Prose, End}

abbrev pub snoc : Elements → Element → Elements
snoc xs x = append xs (more x none)

-- the alternation of these alternatives and one more, of these parts
abbrev pub finish : Elements → Elements → Element
finish bs es = alternation (snoc bs (concatenation es))

-- how often the next element stands
pub data Times : Type 0 where
  just : Times
  times : ℕ → Option ℕ → Times

abbrev pub apply : Times → Element → Element
apply just x = x
apply (times a b) x = Rep a b x

pub data Bracket : Type 0 where
  paren : Bracket
  brack : Bracket

abbrev pub enclosed : Bracket → Element → Element
enclosed paren x = x
enclosed brack x = Opt x

-- what stands open round a bracket: the alternatives that ended, the parts of the last one, and how often the bracket
-- stands
pub data Level : Type 0 where
  level : Elements → Elements → Times → Bracket → Level

-- the definitions that ended, and what the one that goes on began with
pub data Head : Type 0 where
  head : List Definition → Bool → List ℕ → Span → Head

abbrev pub ended : Head → Element → List Definition
ended (head ds a n p) x = ds ++ definition a n p x ∷ []

-- a repetition must begin here; a repeat was taken, and its element must follow; a repetition was taken
pub data Last : Type 0 where
  fresh : Last
  awaits : ℕ → Option ℕ → Last
  read : Last

pub data Config : Type 0 where
  start : Config
  named : List Definition → List ℕ → Span → Config
  body : Head → List Level → Elements → Elements → Last → Config
  done : List Definition → Config

-- only where white space stands before, or does not
abbrev pub gapped : Bool → Option Config → Option Config
gapped true x = x
gapped false x = None

abbrev pub ungapped : Bool → Option Config → Option Config
ungapped false x = x
ungapped true x = None

-- the first word of a line that begins a rule: a name, where a rule may begin
abbrev pub rule_step : List Level → List Definition → Said → Option Config
rule_step [] ds (Name n p) = Some (named ds n p)
rule_step _ ds _ = None

abbrev pub named_step : List Definition → List ℕ → Span → Said → Option Config
named_step ds n p Is = Some (body (head ds false n p) [] none none fresh)
named_step ds n p Adds = Some (body (head ds true n p) [] none none fresh)
named_step ds n p _ = None

abbrev pub element_step : Head → List Level → Elements → Elements → Times → Said → Option Config
element_step h o bs es t (Name n p) = Some (body h o bs (snoc es (apply t (e.Name n))) read)
element_step h o bs es t (Text c z) = Some (body h o bs (snoc es (apply t (e.Text c z))) read)
element_step h o bs es t (Values vs) = Some (body h o bs (snoc es (apply t (e.Values vs))) read)
element_step h o bs es t (Range a b) = Some (body h o bs (snoc es (apply t (e.Range a b))) read)
element_step h o bs es t (Prose z) = Some (body h o bs (snoc es (apply t (e.Prose z))) read)
element_step h o bs es t LParen = Some (body h (level bs es t paren ∷ o) none none fresh)
element_step h o bs es t LBrack = Some (body h (level bs es t brack ∷ o) none none fresh)
element_step h o bs es t _ = None

abbrev pub fresh_step : Head → List Level → Elements → Elements → Said → Option Config
fresh_step h o bs es (Repeat a b) = Some (body h o bs es (awaits a b))
fresh_step h o bs es s = element_step h o bs es just s

abbrev pub close_step : Bracket → List Level → Head → Element → Option Config
close_step paren (level bs es t paren ∷ o) h x = Some (body h o bs (snoc es (apply t x)) read)
close_step brack (level bs es t brack ∷ o) h x = Some (body h o bs (snoc es (apply t (Opt x))) read)
close_step _ _ h x = None

abbrev pub end_step : List Level → List Definition → Option Config
end_step [] ds = Some (done ds)
end_step (l ∷ o) ds = None

abbrev pub read_step : Head → List Level → Elements → Elements → Bool → Said → Option Config
read_step h o bs es g Slash = Some (body h o (snoc bs (concatenation es)) none fresh)
read_step h o bs es g RParen = close_step paren o h (finish bs es)
read_step h o bs es g RBrack = close_step brack o h (finish bs es)
read_step h o bs es g End = end_step o (ended h (finish bs es))
read_step h o bs es g s = gapped g (fresh_step h o bs es s)

-- no word but a rule's name is the first of such a line
abbrev pub first_step : Config → Said → Option Config
first_step start s = rule_step [] [] s
first_step (named ds n p) s = None
first_step (body h o bs es fresh) s = None
first_step (body h o bs es (awaits a b)) s = None
first_step (body h o bs es read) s = rule_step o (ended h (finish bs es)) s
first_step (done ds) s = None

abbrev pub later_step : Config → Bool → Said → Option Config
later_step start g s = None
later_step (named ds n p) g s = named_step ds n p s
later_step (body h o bs es fresh) g s = fresh_step h o bs es s
later_step (body h o bs es (awaits a b)) g s = ungapped g (element_step h o bs es (times a b) s)
later_step (body h o bs es read) g s = read_step h o bs es g s
later_step (done ds) g s = None

-- nothing where the word does not go on from there
abbrev pub step : Config → Word → Option Config
step c (word g true s) = first_step c s
step c (word g false s) = later_step c g s

-- all steps of a list
abbrev pub run : Config → List Word → Option Config
run = taking.run step

-- the brackets that are open
abbrev pub levels : List Level → ℕ
levels [] = 0
levels (l ∷ o) = suc (levels o)

abbrev pub levels_in : Config → ℕ
levels_in start = 0
levels_in (named ds n p) = 0
levels_in (body h o bs es l) = levels o
levels_in (done ds) = 0
