-- The words of an element's canonical text, put before what stands after. The first has white space before it or not.
-- Serves: print_abnf, is_abnf_read_back
use Rattle.std.proofs.Common.{◌≡◌, Bool, true, false, List, [], ◌∷◌, refl}
use Rattle.ruletable.specs.declared.span.Span.{Span}
use Rattle.abnfread.specs.AbnfSpelling.{HasGap, HasNoGap}
use Rattle.abnfread.specs.AbnfWords as words
use Rattle.abnfread.specs.AbnfWords.{Word, word}
use Rattle.abnfread.specs.Element.{Element, Elements, Text, Values, Range, Concat, Alt, Rep, Opt, Name, Prose, none}
use Rattle.abnfread.specs.Element.{more, Rule}
use Rattle.abnfprint.specs.CanonicalAbnf.{wraps}
use Rattle.abnfprint.specs.declared.position.Context.TheVariants.{Alternative, Member, Repeated}
use Rattle.abnfprint.specs.FormedAbnf.{IsFormed, AreFormed, AreMany}

-- a span that says nothing
abbrev pub nowhere : Span
nowhere = record { start = 0; end = 0 }

abbrev pub wrapped : (Bool → List Word → List Word) → Bool → List Word → List Word
wrapped f g ws = word g false words.LParen ∷ f false (word false false words.RParen ∷ ws)

abbrev pub within : Bool → (Bool → List Word → List Word) → Bool → List Word → List Word
within true f g ws = wrapped f g ws
within false f g ws = f g ws

abbrev mutual
  pub listed : Element → Bool → List Word → List Word
  listed (Text c t) g ws = word g false (words.Text c t) ∷ ws
  listed (Values vs) g ws = word g false (words.Values vs) ∷ ws
  listed (Range a b) g ws = word g false (words.Range a b) ∷ ws
  listed (Concat xs) g ws = listed_members xs g ws
  listed (Alt xs) g ws = listed_alternatives xs g ws
  listed (Rep a b x) g ws = word g false (words.Repeat a b) ∷ within (wraps Repeated x) (listed x) false ws
  listed (Opt x) g ws = word g false words.LBrack ∷ listed x false (word false false words.RBrack ∷ ws)
  listed (Name n) g ws = word g false (words.Name n nowhere) ∷ ws
  listed (Prose t) g ws = word g false (words.Prose t) ∷ ws

  pub listed_members : Elements → Bool → List Word → List Word
  listed_members none g ws = ws
  listed_members (more x xs) g ws = within (wraps Member x) (listed x) g (listed_members xs true ws)

  pub listed_alternatives : Elements → Bool → List Word → List Word
  listed_alternatives none g ws = ws
  listed_alternatives (more x xs) g ws = within (wraps Alternative x) (listed x) g (listed_more xs ws)

  pub listed_more : Elements → List Word → List Word
  listed_more none ws = ws
  listed_more (more x xs) ws = word true false words.Slash ∷ within (wraps Alternative x) (listed x) true
      (listed_more xs ws)

abbrev pub listed_rules : Bool → List Rule → List Word
listed_rules g [] = word g false words.End ∷ []
listed_rules g (rule ∷ rules) = word g true (words.Name rule.name rule.span) ∷ word true false words.Is
    ∷ listed rule.body true (listed_rules true rules)

-- whether white space stands before the first word
abbrev pub Leads : Bool → List Word → Type 0
Leads g [] = ⊥
Leads g (word h f s ∷ ws) = h ≡ g

leads-within : (f : Bool → List Word → List Word) (b g : Bool) (ws : List Word) → ((vs : List Word) → Leads g (f g vs))
    → Leads g (within b f g ws)
leads-within f true g ws h = refl
leads-within f false g ws h = h ws

mutual
  pub listed-leads : (x : Element) → IsFormed x → (g : Bool) (ws : List Word) → Leads g (listed x g ws)
  listed-leads (Concat xs) h g ws = leads-members xs h.0 h.1 g ws
  listed-leads (Alt xs) h g ws = leads-alternatives xs h.0 h.1 g ws
  listed-leads x h g ws = refl

  leads-members : (xs : Elements) → AreMany xs → AreFormed xs → (g : Bool) (ws : List Word)
      → Leads g (listed_members xs g ws)
  leads-members none m h g ws = absurd m
  leads-members (more x xs) m h g ws = leads-within (listed x) (wraps Member x) g _ (λ vs. listed-leads x h.0 g vs)

  leads-alternatives : (xs : Elements) → AreMany xs → AreFormed xs → (g : Bool) (ws : List Word)
      → Leads g (listed_alternatives xs g ws)
  leads-alternatives none m h g ws = absurd m
  leads-alternatives (more x xs) m h g ws =
      leads-within (listed x) (wraps Alternative x) g _ (λ vs. listed-leads x h.0 g vs)

pub leads-at : (b : Bool) (x : Element) → IsFormed x → (g : Bool) (ws : List Word) → Leads g (within b (listed x) g ws)
leads-at b x h g ws = leads-within (listed x) b g ws (λ vs. listed-leads x h g vs)

pub leads-gap : (ws : List Word) → Leads true ws → HasGap ws
leads-gap [] h = h
leads-gap (word g f s ∷ ws) h = h

pub leads-no_gap : (ws : List Word) → Leads false ws → HasNoGap ws
leads-no_gap [] h = h
leads-no_gap (word g f s ∷ ws) h = h
