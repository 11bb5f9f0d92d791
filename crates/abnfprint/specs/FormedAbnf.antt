-- What the elements of a grammar in ABNF that was read are like.
use Rattle.std.specs.Prelude.{◌≡◌, ℕ, ◌≤◌, true, List, [], ◌∷◌, All}
use Rattle.std.specs.Char.{is_ascii_alphabetic}
use Rattle.abnfread.specs.AbnfSlices.{Run, continues_name, is_quotable, is_prose}
use Rattle.abnfread.specs.Element.{Element, Elements, Text, Values, Range, Concat, Alt, Rep, Opt, Name, Prose, none}
use Rattle.abnfread.specs.Element.{more, Rule}
use Rattle.abnfread.specs.Numerals.{IsWithin, max_number}

-- a letter, and then letters, digits and `-`
pub data IsName : List ℕ → Type 0 where
  named : {b : ℕ} {bs : List ℕ} → is_ascii_alphabetic b ≡ true → Run continues_name bs [] → IsName (b ∷ bs)

-- there is at least one
abbrev pub IsSome : {A : Type 0} → List A → Type 0
IsSome [] = ⊥
IsSome (x ∷ xs) = Unit {0}

-- two and more: one part is no concatenation, and one alternative no alternation
abbrev pub AreMany : Elements → Type 0
AreMany none = ⊥
AreMany (more x none) = ⊥
AreMany (more x (more y xs)) = Unit {0}

abbrev mutual
  -- texts and prose hold what they may, values are there, and numbers keep to their limits
  pub IsFormed : Element → Type 0
  IsFormed (Text c t) = Run is_quotable t []
  IsFormed (Values vs) = IsSome vs × All (λ v. v ≤ max_number) vs
  IsFormed (Range a b) = (a ≤ max_number) × (b ≤ max_number)
  IsFormed (Concat xs) = AreMany xs × AreFormed xs
  IsFormed (Alt xs) = AreMany xs × AreFormed xs
  IsFormed (Rep a b x) = IsWithin max_number a b × IsFormed x
  IsFormed (Opt x) = IsFormed x
  IsFormed (Name n) = IsName n
  IsFormed (Prose t) = Run is_prose t []

  pub AreFormed : Elements → Type 0
  AreFormed none = Unit {0}
  AreFormed (more x xs) = IsFormed x × AreFormed xs

-- each rule has a name, and a body that is formed
abbrev pub AreFormedRules : List Rule → Type 0
AreFormedRules [] = Unit {0}
AreFormedRules (rule ∷ rules) = IsName rule.name × IsFormed rule.body × AreFormedRules rules
