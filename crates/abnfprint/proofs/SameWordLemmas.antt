-- Words that differ in spans alone spell the same, but for the spans.
-- Serves: print_abnf, is_abnf_read_back
use Rattle.std.proofs.Common.{◌≡◌, ℕ, Bool, true, false, List, [], ◌∷◌, refl, subst}
use Rattle.ruletable.specs.declared.span.Span.{Span}
use Rattle.abnfread.specs.AbnfSpelling.{HasGap, HasNoGap, OneElement, name, text, values, range, prose, parens}
use Rattle.abnfread.specs.AbnfSpelling.{brackets, Repetition, once, repeated, Parts, one, further, Alternatives, only}
use Rattle.abnfread.specs.AbnfSpelling.{others, Alternation, alternatives, definition, defines, Grammar, last_rule}
use Rattle.abnfread.specs.AbnfSpelling.{more_rules}
use Rattle.abnfread.specs.AbnfWords as words
use Rattle.abnfread.specs.AbnfWords.{Said, Word, word}
use Rattle.abnfread.specs.Element.{Element, Elements, Rule, Definition}
use Rattle.abnfprint.specs.FormedAbnf.{AreFormedRules, IsSome}
use Rattle.abnfprint.proofs.AbnfListedLemmas.{listed, listed_rules}
use Rattle.abnfprint.proofs.AbnfSpelledLemmas.{formed-spelled}

pub data SameSaid : Said → Said → Type 0 where
  same_said : {s : Said} → SameSaid s s
  same_name : {n : List ℕ} {p q : Span} → SameSaid (words.Name n p) (words.Name n q)

pub data SameWords : List Word → List Word → Type 0 where
  same_none : SameWords [] []
  same_more : {g f : Bool} {s t : Said} {vs ws : List Word} → SameSaid s t → SameWords vs ws
      → SameWords (word g f s ∷ vs) (word g f t ∷ ws)

-- a relation between a list and what it leaves holds of another list too, and leaves the like
record Also (Spells : List Word → List Word → Type 0) (s r : List Word) : Type 0 where
  rest : List Word
  same : SameWords r rest
  spells : Spells s rest

gap-also : {s t : List Word} → SameWords s t → HasGap s → HasGap t
gap-also same_none h = h
gap-also (same_more x k) h = h

no_gap-also : {s t : List Word} → SameWords s t → HasNoGap s → HasNoGap t
no_gap-also same_none h = h
no_gap-also (same_more x k) h = h

-- any word but a name
abbrev IsMark : Said → Type 0
IsMark (words.Name n p) = ⊥
IsMark s = Unit {0}

record Tail (w : Word) (r t : List Word) : Type 0 where
  rest : List Word
  whole : t ≡ w ∷ rest
  same : SameWords r rest

same_words-tail : (g f : Bool) (s : Said) {r t : List Word} → IsMark s → SameWords (word g f s ∷ r) t
    → Tail (word g f s) r t
same_words-tail g f s m (same_more same_said h) = record { rest = _; whole = refl; same = h }
same_words-tail g f (words.Name n p) m (same_more same_name h) = absurd m

-- what stands after begins with that word
record Passes (Spells : List Word → List Word → Type 0) (w : Word) (s r : List Word) : Type 0 where
  rest : List Word
  same : SameWords r rest
  spells : Spells s (w ∷ rest)

also-passes : {Spells : List Word → List Word → Type 0} {g f : Bool} {w : Said} {s r : List Word} → IsMark w
    → Also Spells s (word g f w ∷ r) → Passes Spells (word g f w) s r
also-passes {Spells} {g} {f} {w} {s} m a = let b = same_words-tail g f w m a.same in
    record { rest = b.rest; same = b.same; spells = subst (λ (u : List Word). Spells s u) b.whole a.spells }

mutual
  element-also : {s r t : List Word} {x : Element} → OneElement s r x → SameWords s t
      → Also (λ a b. OneElement a b x) t r
  element-also name (same_more same_said h) = record { rest = _; same = h; spells = name }
  element-also name (same_more same_name h) = record { rest = _; same = h; spells = name }
  element-also text (same_more same_said h) = record { rest = _; same = h; spells = text }
  element-also values (same_more same_said h) = record { rest = _; same = h; spells = values }
  element-also range (same_more same_said h) = record { rest = _; same = h; spells = range }
  element-also prose (same_more same_said h) = record { rest = _; same = h; spells = prose }
  element-also (parens k) (same_more same_said h) = let a = also-passes tt (alternation-also k h) in
      record { rest = a.rest; same = a.same; spells = parens a.spells }
  element-also (brackets k) (same_more same_said h) = let a = also-passes tt (alternation-also k h) in
      record { rest = a.rest; same = a.same; spells = brackets a.spells }

  repetition-also : {s r t : List Word} {x : Element} → Repetition s r x → SameWords s t
      → Also (λ a b. Repetition a b x) t r
  repetition-also (once k) h = let a = element-also k h in
      record { rest = a.rest; same = a.same; spells = once a.spells }
  repetition-also (repeated n k) (same_more same_said h) = let a = element-also k h in
      record { rest = a.rest; same = a.same; spells = repeated (no_gap-also h n) a.spells }

  parts-also : {s r t : List Word} {xs : Elements} → Parts s r xs → SameWords s t → Also (λ a b. Parts a b xs) t r
  parts-also (one k) h = let a = repetition-also k h in record { rest = a.rest; same = a.same; spells = one a.spells }
  parts-also (further k g i) h = let a = repetition-also k h in let b = parts-also i a.same in
      record { rest = b.rest; same = b.same; spells = further a.spells (gap-also a.same g) b.spells }

  alternatives-also : {s r t : List Word} {xs : Elements} → Alternatives s r xs → SameWords s t
      → Also (λ a b. Alternatives a b xs) t r
  alternatives-also (only k) h = let a = parts-also k h in
      record { rest = a.rest; same = a.same; spells = only a.spells }
  alternatives-also (others k i) h = let a = also-passes tt (parts-also k h) in let b = alternatives-also i a.same in
      record { rest = b.rest; same = b.same; spells = others a.spells b.spells }

  alternation-also : {s r t : List Word} {x : Element} → Alternation s r x → SameWords s t
      → Also (λ a b. Alternation a b x) t r
  alternation-also (alternatives k) h = let a = alternatives-also k h in
      record { rest = a.rest; same = a.same; spells = alternatives a.spells }

-- the definitions of these rules by `=`, wherever their names stand
pub data AreAgain : List Rule → List Definition → Type 0 where
  again_none : AreAgain [] []
  again_more : {rule : Rule} {rules : List Rule} {q : Span} {ds : List Definition} → AreAgain rules ds
      → AreAgain (rule ∷ rules) (definition false rule.name q rule.body ∷ ds)

-- the words spell the definitions of these rules
pub record SpellsAgain (ws : List Word) (rules : List Rule) : Type 0 where
  pub again : List Definition
  pub are_again : AreAgain rules again
  pub grammar : Grammar ws again

nothing-same : {r : List Word} → SameWords [] r → r ≡ []
nothing-same same_none = refl

last-again : (g : Bool) (rule : Rule) (q : Span) {t : List Word}
    → Alternation (listed rule.body true (word true false words.End ∷ [])) (word true false words.End ∷ []) rule.body →
    SameWords (listed rule.body true (word true false words.End ∷ [])) t
    → SpellsAgain (word g true (words.Name rule.name q) ∷ word true false words.Is ∷ t) (rule ∷ [])
last-again g rule q {t} k h =
    let a = also-passes tt (alternation-also k h) in
    record {
      again = definition false rule.name q rule.body ∷ [];
      are_again = again_more again_none;
      grammar = last_rule defines (subst (λ (r : List Word). Alternation t (word true false words.End ∷ r) rule.body)
          (nothing-same a.same) a.spells);
    }

first-again : (g : Bool) (rule : Rule) (rules : List Rule) (q : Span) {t m : List Word} → Alternation t m rule.body
    → SpellsAgain m rules → SpellsAgain (word g true (words.Name rule.name q) ∷ word true false words.Is ∷ t)
    (rule ∷ rules)
first-again g rule rules q k s = record {
  again = definition false rule.name q rule.body ∷ s.again;
  are_again = again_more s.are_again;
  grammar = more_rules defines k s.grammar;
}

-- words like those of the rules spell their definitions
pub rules-again : (g : Bool) (rules : List Rule) {vs : List Word} → IsSome rules → AreFormedRules rules
    → SameWords (listed_rules g rules) vs → SpellsAgain vs rules
rules-again g [] n w h = absurd n
rules-again g (rule ∷ []) n w (same_more same_said (same_more same_said h)) =
    last-again g rule rule.span ((formed-spelled rule.body w.1).whole _ _) h
rules-again g (rule ∷ []) n w (same_more (same_name {q = q}) (same_more same_said h)) =
    last-again g rule q ((formed-spelled rule.body w.1).whole _ _) h
rules-again g (rule ∷ next ∷ rules) n w (same_more same_said (same_more same_said h)) =
    let a = alternation-also ((formed-spelled rule.body w.1).whole true (listed_rules true (next ∷ rules))) h in
    first-again g rule (next ∷ rules) rule.span a.spells (rules-again true (next ∷ rules) tt w.2 a.same)
rules-again g (rule ∷ next ∷ rules) n w (same_more (same_name {q = q}) (same_more same_said h)) =
    let a = alternation-also ((formed-spelled rule.body w.1).whole true (listed_rules true (next ∷ rules))) h in
    first-again g rule (next ∷ rules) q a.spells (rules-again true (next ∷ rules) tt w.2 a.same)
