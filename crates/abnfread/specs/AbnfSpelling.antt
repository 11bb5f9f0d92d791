-- Which words spell which rules (RFC 5234, section 4). A relation on two lists holds of a list and of what follows the
-- part that is spelled.
use Rattle.std.specs.Prelude.{◌≡◌, ℕ, Bool, true, false, List, [], ◌∷◌, Option}
use Rattle.lexer.specs.Viability as taking
use Rattle.ruletable.specs.declared.span.Span.{Span}
use Rattle.abnfread.specs.Element as e
use Rattle.abnfread.specs.Element.{Element, Elements, none, more, Concat, Alt, Rep, Opt, Definition}
use Rattle.abnfread.specs.AbnfWords.{Word, word, Name, Is, Adds, Slash, LParen, RParen, LBrack, RBrack, Repeat, Text}
use Rattle.abnfread.specs.AbnfWords.{Values, Range, Prose, End}

-- a concatenation of one part is that part
abbrev pub concatenation : Elements → Element
concatenation none = Concat none
concatenation (more x none) = x
concatenation (more x (more y xs)) = Concat (more x (more y xs))

-- an alternation of one alternative is that alternative
abbrev pub alternation : Elements → Element
alternation none = Alt none
alternation (more x none) = x
alternation (more x (more y xs)) = Alt (more x (more y xs))

-- white space stands directly before the first word, or does not
abbrev pub HasGap : List Word → Type 0
HasGap [] = ⊥
HasGap (word g f s ∷ ws) = g ≡ true

abbrev pub HasNoGap : List Word → Type 0
HasNoGap [] = ⊥
HasNoGap (word g f s ∷ ws) = g ≡ false

mutual
  pub data OneElement : List Word → List Word → Element → Type 0 where
    name : {g : Bool} {n : List ℕ} {p : Span} {r : List Word} → OneElement (word g false (Name n p) ∷ r) r (e.Name n)
    text : {g c : Bool} {t : List ℕ} {r : List Word} → OneElement (word g false (Text c t) ∷ r) r (e.Text c t)
    values : {g : Bool} {vs : List ℕ} {r : List Word} → OneElement (word g false (Values vs) ∷ r) r (e.Values vs)
    range : {g : Bool} {a b : ℕ} {r : List Word} → OneElement (word g false (Range a b) ∷ r) r (e.Range a b)
    prose : {g : Bool} {t : List ℕ} {r : List Word} → OneElement (word g false (Prose t) ∷ r) r (e.Prose t)
    -- a group is no element of its own
    parens : {g h : Bool} {s r : List Word} {x : Element} → Alternation s (word h false RParen ∷ r) x
        → OneElement (word g false LParen ∷ s) r x
    brackets : {g h : Bool} {s r : List Word} {x : Element} → Alternation s (word h false RBrack ∷ r) x
        → OneElement (word g false LBrack ∷ s) r (Opt x)

  pub data Repetition : List Word → List Word → Element → Type 0 where
    once : {s r : List Word} {x : Element} → OneElement s r x → Repetition s r x
    repeated : {g : Bool} {a : ℕ} {b : Option ℕ} {s r : List Word} {x : Element} → HasNoGap s → OneElement s r x
        → Repetition (word g false (Repeat a b) ∷ s) r (Rep a b x)

  -- one repetition, and any number of others with white space before each
  pub data Parts : List Word → List Word → Elements → Type 0 where
    one : {s r : List Word} {x : Element} → Repetition s r x → Parts s r (more x none)
    further : {s m r : List Word} {x : Element} {xs : Elements} → Repetition s m x → HasGap m → Parts m r xs
        → Parts s r (more x xs)

  -- one or more concatenations with slashes between
  pub data Alternatives : List Word → List Word → Elements → Type 0 where
    only : {s r : List Word} {xs : Elements} → Parts s r xs → Alternatives s r (more (concatenation xs) none)
    others : {g : Bool} {s m r : List Word} {xs ys : Elements} → Parts s (word g false Slash ∷ m) xs
        → Alternatives m r ys → Alternatives s r (more (concatenation xs) ys)

  pub data Alternation : List Word → List Word → Element → Type 0 where
    alternatives : {s r : List Word} {ys : Elements} → Alternatives s r ys → Alternation s r (alternation ys)

-- `=` or `=/`, and whether it is the latter
pub data Assigns : Word → Bool → Type 0 where
  defines : {g : Bool} → Assigns (word g false Is) false
  extends : {g : Bool} → Assigns (word g false Adds) true

abbrev pub definition : Bool → List ℕ → Span → Element → Definition
definition a n p x = record { adds = a; name = n; span = p; body = x }

-- The whole list spells the definitions: one or more, and the end. A name alone is the first word of a line that begins
-- a rule.
pub data Grammar : List Word → List Definition → Type 0 where
  last_rule : {g h a : Bool} {n : List ℕ} {p : Span} {w : Word} {s : List Word} {x : Element} → Assigns w a
      → Alternation s (word h false End ∷ []) x →
      Grammar (word g true (Name n p) ∷ w ∷ s) (definition a n p x ∷ [])
  more_rules : {g a : Bool} {n : List ℕ} {p : Span} {w : Word} {s m : List Word} {x : Element} {ds : List Definition}
      → Assigns w a → Alternation s m x → Grammar m ds →
      Grammar (word g true (Name n p) ∷ w ∷ s) (definition a n p x ∷ ds)

-- some words that go on with these spell rules
abbrev pub Begins : List Word → Type 0
Begins = taking.Begins Grammar
