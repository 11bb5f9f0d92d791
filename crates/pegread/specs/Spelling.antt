-- Which words spell which grammars (peg(1) manual). A relation on two lists holds of a list and of what follows the
-- part that is spelled.
use Rattle.std.specs.Prelude.{ℕ, Bool, List, [], ◌∷◌}
use Rattle.lexer.specs.Viability as viability
use Rattle.ruletable.specs.declared.span.Span.{Span}
use Rattle.pegread.specs.Pattern as e
use Rattle.pegread.specs.Pattern.{Pattern, Any, Bytes, Set, Name, Seq, Choice, Opt, And, Not, Act, Open, Close}
use Rattle.pegread.specs.Pattern.{Patterns, none, more, Rule}
use Rattle.pegread.specs.Tokens.{Tok}
use Rattle.pegread.specs.Words.{Word, Ident, Arrow, Begin, EndCap, Slash, Amp, Bang, Quest, Star, Plus, Dot, LParen}
use Rattle.pegread.specs.Words.{RParen, Literal, Class, Action, End, Says}

-- a sequence of one member is that member
abbrev pub sequence : Patterns → Pattern
sequence none = Seq none
sequence (more e none) = e
sequence (more e (more f es)) = Seq (more e (more f es))

-- an expression of one sequence is that sequence
abbrev pub choice : Patterns → Pattern
choice none = Choice none
choice (more e none) = e
choice (more e (more f es)) = Choice (more e (more f es))

-- no action begins the list
abbrev pub NoAction : List Word → Type 0
NoAction (Action t ∷ ws) = ⊥
NoAction _ = Unit {0}

mutual
  pub data Primary : List Word → List Word → Pattern → Type 0 where
    name : {n : List ℕ} {p : Span} {r : List Word} → Primary (Ident n p ∷ r) r (Name n)
    literal : {bs : List ℕ} {r : List Word} → Primary (Literal bs ∷ r) r (Bytes bs)
    class : {f : ℕ → Bool} {r : List Word} → Primary (Class f ∷ r) r (Set f)
    dot : {r : List Word} → Primary (Dot ∷ r) r Any
    action : {t : List ℕ} {r : List Word} → Primary (Action t ∷ r) r (Act t)
    begin : {r : List Word} → Primary (Begin ∷ r) r Open
    end_cap : {r : List Word} → Primary (EndCap ∷ r) r Close
    -- an expression in parentheses, which are no expression of their own
    parens : {s r : List Word} {x : Pattern} → Expression s (RParen ∷ r) x → Primary (LParen ∷ s) r x

  -- at most one suffix
  pub data Suffixed : List Word → List Word → Pattern → Type 0 where
    bare : {s r : List Word} {x : Pattern} → Primary s r x → Suffixed s r x
    quest : {s r : List Word} {x : Pattern} → Primary s (Quest ∷ r) x → Suffixed s r (Opt x)
    star : {s r : List Word} {x : Pattern} → Primary s (Star ∷ r) x → Suffixed s r (e.Star x)
    plus : {s r : List Word} {x : Pattern} → Primary s (Plus ∷ r) x → Suffixed s r (e.Plus x)

  -- at most one prefix; `&` and an action would be C's code as a predicate, which is no expression here
  pub data Prefixed : List Word → List Word → Pattern → Type 0 where
    plain : {s r : List Word} {x : Pattern} → Suffixed s r x → Prefixed s r x
    bang : {s r : List Word} {x : Pattern} → Suffixed s r x → Prefixed (Bang ∷ s) r (Not x)
    amp : {s r : List Word} {x : Pattern} → NoAction s → Suffixed s r x → Prefixed (Amp ∷ s) r (And x)

  -- any number of items, also none
  pub data Items : List Word → List Word → Patterns → Type 0 where
    no_item : {r : List Word} → Items r r none
    item : {s m r : List Word} {x : Pattern} {xs : Patterns} → Prefixed s m x → Items m r xs → Items s r (more x xs)

  -- one or more sequences with slashes between
  pub data Alternatives : List Word → List Word → Patterns → Type 0 where
    only : {s r : List Word} {xs : Patterns} → Items s r xs → Alternatives s r (more (sequence xs) none)
    further : {s m r : List Word} {xs ys : Patterns} → Items s (Slash ∷ m) xs → Alternatives m r ys
        → Alternatives s r (more (sequence xs) ys)

  pub data Expression : List Word → List Word → Pattern → Type 0 where
    expression : {s r : List Word} {ys : Patterns} → Alternatives s r ys → Expression s r (choice ys)

-- the rule of that name, which stands there, with that body
abbrev pub rule_at : List ℕ → Span → Pattern → Rule
rule_at n p x = record { name = n; body = x; span = p }

-- The whole list spells the definitions: one or more, and the end. Each is a name, an arrow and an expression, and its
-- span is that of its name.
pub data Grammar : List Word → List Rule → Type 0 where
  last_definition : {n : List ℕ} {p : Span} {s : List Word} {x : Pattern} → Expression s (End ∷ []) x
      → Grammar (Ident n p ∷ Arrow ∷ s) (rule_at n p x ∷ [])
  more_definitions : {n : List ℕ} {p : Span} {s m : List Word} {x : Pattern} {rules : List Rule} → Expression s m x
      → Grammar m rules →
      Grammar (Ident n p ∷ Arrow ∷ s) (rule_at n p x ∷ rules)

-- some words that go on with these spell a grammar
abbrev pub Begins : List Word → Type 0
Begins = viability.Begins Grammar

-- what the tokens say begins a grammar
abbrev pub Viable : List Tok → Type 0
Viable = viability.Viable Says Grammar
