-- The words of a canonical text spell its elements.
-- Serves: print_abnf, is_abnf_read_back
use Rattle.std.proofs.Common.{◌≡◌, Bool, true, false, List, ◌∷◌, refl, subst}
use Rattle.abnfread.specs.AbnfSpelling.{concatenation, alternation, OneElement, name, text, values, range, prose}
use Rattle.abnfread.specs.AbnfSpelling.{parens, brackets, Repetition, once, repeated, Parts, one, further, Alternatives}
use Rattle.abnfread.specs.AbnfSpelling.{only, others, Alternation, alternatives}
use Rattle.abnfread.specs.AbnfWords.{Word, word, Slash}
use Rattle.abnfread.specs.Element.{Element, Elements, Text, Values, Range, Concat, Alt, Rep, Opt, Name, Prose, none}
use Rattle.abnfread.specs.Element.{more}
use Rattle.abnfprint.specs.CanonicalAbnf.{wraps}
use Rattle.abnfprint.specs.declared.position.Context.TheVariants.{Alternative, Member, Repeated}
use Rattle.abnfprint.specs.FormedAbnf.{IsFormed, AreFormed, AreMany}
use Rattle.abnfprint.proofs.AbnfListedLemmas.{wrapped, within, listed, listed_members, listed_alternatives, leads-at}
use Rattle.abnfprint.proofs.AbnfListedLemmas.{leads-gap, leads-no_gap}

-- the parts of one concatenation, and the element of it
pub record SpellsOne (s r : List Word) (x : Element) : Type 0 where
  pub parts : Elements
  pub same : concatenation parts ≡ x
  pub spelled : Parts s r parts

-- what an element's words spell at each position: a repeated operand, a member, an alternative, a body
pub record Fits (operand member alternative body : Bool → List Word → List Word) (x : Element) : Type 0 where
  pub element : (g : Bool) (ws : List Word) → OneElement (operand g ws) ws x
  pub repetition : (g : Bool) (ws : List Word) → Repetition (member g ws) ws x
  pub one_of : (g : Bool) (ws : List Word) → SpellsOne (alternative g ws) ws x
  pub whole : (g : Bool) (ws : List Word) → Alternation (body g ws) ws x

abbrev pub Spelled : Element → Type 0
Spelled x = Fits (within (wraps Repeated x) (listed x)) (within (wraps Member x) (listed x))
    (within (wraps Alternative x) (listed x)) (listed x) x

repetition-spells_one : {s r : List Word} {x : Element} → Repetition s r x → SpellsOne s r x
repetition-spells_one {s} {r} {x} p = record { parts = more x none; same = refl; spelled = one p }

spells-alternation : {s r : List Word} {x : Element} → SpellsOne s r x → Alternation s r x
spells-alternation {s} {r} {x} o = subst (λ (y : Element). Alternation s r y) o.same (alternatives (only o.spelled))

-- one maker a rank
fits-element : {f : Bool → List Word → List Word} {x : Element}
    → ((g : Bool) (ws : List Word) → OneElement (f g ws) ws x) → Fits f f f f x
fits-element p = record {
  element = p;
  repetition = λ g ws. once (p g ws);
  one_of = λ g ws. repetition-spells_one (once (p g ws));
  whole = λ g ws. spells-alternation (repetition-spells_one (once (p g ws)));
}

fits-repetition : {f : Bool → List Word → List Word} {x : Element}
    → ((g : Bool) (ws : List Word) → Repetition (f g ws) ws x) → Fits (wrapped f) f f f x
fits-repetition p = record {
  element = λ g ws. parens (spells-alternation (repetition-spells_one (p _ _)));
  repetition = p;
  one_of = λ g ws. repetition-spells_one (p g ws);
  whole = λ g ws. spells-alternation (repetition-spells_one (p g ws));
}

fits-one : {f : Bool → List Word → List Word} {x : Element} → ((g : Bool) (ws : List Word) → SpellsOne (f g ws) ws x)
    → Fits (wrapped f) (wrapped f) f f x
fits-one p = record {
  element = λ g ws. parens (spells-alternation (p _ _));
  repetition = λ g ws. once (parens (spells-alternation (p _ _)));
  one_of = p;
  whole = λ g ws. spells-alternation (p g ws);
}

fits-whole : {f : Bool → List Word → List Word} {x : Element}
    → ((g : Bool) (ws : List Word) → Alternation (f g ws) ws x) → Fits (wrapped f) (wrapped f) (wrapped f) f x
fits-whole p = record {
  element = λ g ws. parens (p _ _);
  repetition = λ g ws. once (parens (p _ _));
  one_of = λ g ws. repetition-spells_one (once (parens (p _ _)));
  whole = p;
}

concatenation-same : (xs : Elements) → AreMany xs → concatenation xs ≡ Concat xs
concatenation-same none h = absurd h
concatenation-same (more x none) h = absurd h
concatenation-same (more x (more y xs)) h = refl

alternation-same : (xs : Elements) → AreMany xs → alternation xs ≡ Alt xs
alternation-same none h = absurd h
alternation-same (more x none) h = absurd h
alternation-same (more x (more y xs)) h = refl

alternatives-last : {s r : List Word} {x : Element} → SpellsOne s r x → Alternatives s r (more x none)
alternatives-last {s} {r} {x} o = subst (λ (y : Element). Alternatives s r (more y none)) o.same (only o.spelled)

and-more : {s m r : List Word} {x : Element} {xs : Elements} → SpellsOne s (word true false Slash ∷ m) x
    → Alternatives m r xs → Alternatives s r (more x xs)
and-more {s} {m} {r} {x} {xs} o h = subst (λ (y : Element). Alternatives s r (more y xs)) o.same (others o.spelled h)

-- there is at least one
abbrev pub IsFull : Elements → Type 0
IsFull none = ⊥
IsFull (more x xs) = Unit {0}

many-is_full : (xs : Elements) → AreMany xs → IsFull xs
many-is_full none h = h
many-is_full (more x xs) h = tt

mutual
  pub formed-spelled : (x : Element) → IsFormed x → Spelled x
  formed-spelled (Text c t) w = fits-element (λ g ws. text)
  formed-spelled (Values vs) w = fits-element (λ g ws. values)
  formed-spelled (Range a b) w = fits-element (λ g ws. range)
  formed-spelled (Concat xs) w = fits-one (λ g ws. record {
    parts = xs;
    same = concatenation-same xs w.0;
    spelled = spelled-members xs w.1 (many-is_full xs w.0) g ws;
  })
  formed-spelled (Alt xs) w = fits-whole (λ g ws.
      subst (λ (x : Element). Alternation (listed_alternatives xs g ws) ws x)
      (alternation-same xs w.0) (alternatives (spelled-alternatives xs w.1 (many-is_full xs w.0) g ws)))
  formed-spelled (Rep a b x) w = let h = formed-spelled x w.1 in
      fits-repetition (λ g ws. repeated (leads-no_gap _ (leads-at (wraps Repeated x) x w.1 false ws))
      (h.element false ws))
  formed-spelled (Opt x) w = let h = formed-spelled x w in fits-element (λ g ws. brackets (h.whole false _))
  formed-spelled (Name n) w = fits-element (λ g ws. name)
  formed-spelled (Prose t) w = fits-element (λ g ws. prose)

  pub spelled-members : (xs : Elements) → AreFormed xs → IsFull xs → (g : Bool) (ws : List Word)
      → Parts (listed_members xs g ws) ws xs
  spelled-members none w h g ws = absurd h
  spelled-members (more x none) w h g ws = one ((formed-spelled x w.0).repetition g _)
  spelled-members (more x (more y xs)) w h g ws =
      further ((formed-spelled x w.0).repetition g _) (leads-gap _ (leads-at (wraps Member y) y w.1.0 true _))
      (spelled-members (more y xs) w.1 tt true ws)

  pub spelled-alternatives : (xs : Elements) → AreFormed xs → IsFull xs → (g : Bool) (ws : List Word)
      → Alternatives (listed_alternatives xs g ws) ws xs
  spelled-alternatives none w h g ws = absurd h
  spelled-alternatives (more x none) w h g ws = alternatives-last ((formed-spelled x w.0).one_of g _)
  spelled-alternatives (more x (more y xs)) w h g ws =
      and-more ((formed-spelled x w.0).one_of g _) (spelled-alternatives (more y xs) w.1 tt true ws)
