-- Words that differ in spans alone spell the same, but for the spans.
-- Serves: is_read_back
use Rattle.std.proofs.Common.{◌≡◌, ℕ, List, [], ◌∷◌, ◌++◌, refl, ap, map, subst}
use Rattle.ruletable.specs.declared.span.Span.{Span}
use Rattle.pegprint.specs.Canon.{definition_text, grammar_text}
use Rattle.pegread.specs.Pattern.{Pattern, Patterns, Rule}
use Rattle.pegprint.specs.ReadBack.{SameButSpans}
use Rattle.pegread.specs.Spelling.{NoAction, Primary, name, literal, class, dot, action, begin, end_cap, parens}
use Rattle.pegread.specs.Spelling.{Suffixed, bare, quest, star, plus, Prefixed, plain, bang, amp, Items, no_item, item}
use Rattle.pegread.specs.Spelling.{Alternatives, only, further, Expression, expression, Grammar, last_definition}
use Rattle.pegread.specs.Spelling.{more_definitions, rule_at}
use Rattle.pegread.specs.Words as words
use Rattle.pegread.specs.Words.{Word}

pub data SameWord : Word → Word → Type 0 where
  same_word : {w : Word} → SameWord w w
  same_name : {n : List ℕ} {p q : Span} → SameWord (words.Ident n p) (words.Ident n q)

pub data SameWords : List Word → List Word → Type 0 where
  same_none : SameWords [] []
  same_more : {v w : Word} {vs ws : List Word} → SameWord v w → SameWords vs ws → SameWords (v ∷ vs) (w ∷ ws)

-- a relation between a list and what it leaves holds of another list too, and leaves the like
pub record Also (Spells : List Word → List Word → Type 0) (s r : List Word) : Type 0 where
  pub rest : List Word
  pub same : SameWords r rest
  pub spells : Spells s rest

-- only the first word counts
first-no_action : (w : Word) (vs ws : List Word) → NoAction (w ∷ vs) → NoAction (w ∷ ws)
first-no_action (words.Action t) vs ws n = n
first-no_action _ vs ws n = tt

no_action : {s t : List Word} → SameWords s t → NoAction s → NoAction t
no_action same_none n = n
no_action (same_more {v = v} same_word h) n = first-no_action v _ _ n
no_action (same_more same_name h) n = n

-- any word but a name
abbrev IsMark : Word → Type 0
IsMark (words.Ident n p) = ⊥
IsMark _ = Unit {0}

record Tail (w : Word) (r t : List Word) : Type 0 where
  rest : List Word
  whole : t ≡ w ∷ rest
  same : SameWords r rest

same-tail : (w : Word) {r t : List Word} → IsMark w → SameWords (w ∷ r) t → Tail w r t
same-tail w m (same_more same_word h) = record { rest = _; whole = refl; same = h }
same-tail (words.Ident n p) m (same_more same_name h) = absurd m

-- what follows begins with that word
record Passes (Spells : List Word → List Word → Type 0) (w : Word) (s r : List Word) : Type 0 where
  rest : List Word
  same : SameWords r rest
  spells : Spells s (w ∷ rest)

also-passes : {Spells : List Word → List Word → Type 0} {w : Word} {s r : List Word} → IsMark w → Also Spells s (w ∷ r)
    → Passes Spells w s r
also-passes {Spells} {w} {s} m a = let b = same-tail w m a.same in
    record { rest = b.rest; same = b.same; spells = subst (λ (u : List Word). Spells s u) b.whole a.spells }

mutual
  primary-also : {s r t : List Word} {x : Pattern} → Primary s r x → SameWords s t → Also (λ a b. Primary a b x) t r
  primary-also name (same_more same_word h) = record { rest = _; same = h; spells = name }
  primary-also name (same_more same_name h) = record { rest = _; same = h; spells = name }
  primary-also literal (same_more same_word h) = record { rest = _; same = h; spells = literal }
  primary-also class (same_more same_word h) = record { rest = _; same = h; spells = class }
  primary-also dot (same_more same_word h) = record { rest = _; same = h; spells = dot }
  primary-also action (same_more same_word h) = record { rest = _; same = h; spells = action }
  primary-also begin (same_more same_word h) = record { rest = _; same = h; spells = begin }
  primary-also end_cap (same_more same_word h) = record { rest = _; same = h; spells = end_cap }
  primary-also (parens k) (same_more same_word h) = let a = also-passes tt (expression-also k h) in
      record { rest = a.rest; same = a.same; spells = parens a.spells }

  suffixed-also : {s r t : List Word} {x : Pattern} → Suffixed s r x → SameWords s t → Also (λ a b. Suffixed a b x) t r
  suffixed-also (bare k) h = let a = primary-also k h in record { rest = a.rest; same = a.same; spells = bare a.spells }
  suffixed-also (quest k) h = let a = also-passes tt (primary-also k h) in
      record { rest = a.rest; same = a.same; spells = quest a.spells }
  suffixed-also (star k) h = let a = also-passes tt (primary-also k h) in
      record { rest = a.rest; same = a.same; spells = star a.spells }
  suffixed-also (plus k) h = let a = also-passes tt (primary-also k h) in
      record { rest = a.rest; same = a.same; spells = plus a.spells }

  prefixed-also : {s r t : List Word} {x : Pattern} → Prefixed s r x → SameWords s t → Also (λ a b. Prefixed a b x) t r
  prefixed-also (plain k) h = let a = suffixed-also k h in
      record { rest = a.rest; same = a.same; spells = plain a.spells }
  prefixed-also (bang k) (same_more same_word h) = let a = suffixed-also k h in
      record { rest = a.rest; same = a.same; spells = bang a.spells }
  prefixed-also (amp n k) (same_more same_word h) = let a = suffixed-also k h in
      record { rest = a.rest; same = a.same; spells = amp (no_action h n) a.spells }

  items-also : {s r t : List Word} {xs : Patterns} → Items s r xs → SameWords s t → Also (λ a b. Items a b xs) t r
  items-also no_item h = record { rest = _; same = h; spells = no_item }
  items-also (item k i) h = let a = prefixed-also k h in let b = items-also i a.same in
      record { rest = b.rest; same = b.same; spells = item a.spells b.spells }

  alternatives-also : {s r t : List Word} {xs : Patterns} → Alternatives s r xs → SameWords s t
      → Also (λ a b. Alternatives a b xs) t r
  alternatives-also (only k) h = let a = items-also k h in
      record { rest = a.rest; same = a.same; spells = only a.spells }
  alternatives-also (further k i) h = let a = also-passes tt (items-also k h) in let b = alternatives-also i a.same in
      record { rest = b.rest; same = b.same; spells = further a.spells b.spells }

  expression-also : {s r t : List Word} {x : Pattern} → Expression s r x → SameWords s t
      → Also (λ a b. Expression a b x) t r
  expression-also (expression k) h = let a = alternatives-also k h in
      record { rest = a.rest; same = a.same; spells = expression a.spells }

-- the words spell these rules, but for their spans
pub record SpellsAgain (ws : List Word) (rules : List Rule) : Type 0 where
  pub again : List Rule
  pub same : SameButSpans rules again
  pub grammar : Grammar ws again

nothing-same : {r : List Word} → SameWords [] r → r ≡ []
nothing-same same_none = refl

last-again : {n : List ℕ} {s t : List Word} {x : Pattern} (p q : Span) → Expression s (words.End ∷ []) x → SameWords s t
    → SpellsAgain (words.Ident n q ∷ words.Arrow ∷ t) (rule_at n p x ∷ [])
last-again {n} {t = t} {x} p q k h =
    let a = also-passes tt (expression-also k h) in
    record {
      again = rule_at n q x ∷ [];
      same = record { names = refl; bodies = refl };
      grammar = last_definition (subst (λ (r : List Word). Expression t (words.End ∷ r) x) (nothing-same a.same)
          a.spells);
    }

first-again : {n : List ℕ} {t m : List Word} {x : Pattern} {rules : List Rule} (p q : Span) → Expression t m x
    → SpellsAgain m rules → SpellsAgain (words.Ident n q ∷ words.Arrow ∷ t) (rule_at n p x ∷ rules)
first-again {n} {x = x} p q k g = record {
  again = rule_at n q x ∷ g.again;
  same = record { names = ap (λ ns. n ∷ ns) g.same.names; bodies = ap (λ xs. x ∷ xs) g.same.bodies };
  grammar = more_definitions k g.grammar;
}

pub grammar-again : {ws vs : List Word} {rules : List Rule} → Grammar ws rules → SameWords ws vs → SpellsAgain vs rules
grammar-again (last_definition {p = p} k) (same_more same_word (same_more same_word h)) = last-again p p k h
grammar-again (last_definition {p = p} k) (same_more (same_name {q = q}) (same_more same_word h)) = last-again p q k h
grammar-again (more_definitions {p = p} k g) (same_more same_word (same_more same_word h)) = let a =
    expression-also k h in first-again p p a.spells (grammar-again g a.same)
grammar-again (more_definitions {p = p} k g) (same_more (same_name {q = q}) (same_more same_word h)) = let a =
    expression-also k h in first-again p q a.spells (grammar-again g a.same)

-- the canonical text sees no span
text-same : (rules again : List Rule) → map (λ rule. rule.name) rules ≡ map (λ rule. rule.name) again
    → map (λ rule. rule.body) rules ≡ map (λ rule. rule.body) again → grammar_text rules ≡ grammar_text again
text-same [] [] n b = refl
text-same [] (next ∷ again) n b = cc
text-same (rule ∷ rules) [] n b = cc
text-same (rule ∷ rules) (next ∷ again) n b =
    let name : rule.name ≡ next.name = cc in
    let names : map (λ r. r.name) rules ≡ map (λ r. r.name) again = cc in
    let body : rule.body ≡ next.body = cc in
    let bodies : map (λ r. r.body) rules ≡ map (λ r. r.body) again = cc in
    rw (name, body) (ap (λ (s : List ℕ). definition_text next.name next.body ++ s) (text-same rules again names bodies))

pub spans-unseen : (rules again : List Rule) → SameButSpans rules again → grammar_text rules ≡ grammar_text again
spans-unseen rules again h = text-same rules again h.names h.bodies
