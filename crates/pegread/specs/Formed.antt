-- What the patterns of a grammar that was read are like.
use Prim.Native.Char.{code}
use Rattle.std.specs.Prelude.{◌≡◌, ℕ, ◌<◌, ◌≤◌, Bool, false, List, [], ◌∷◌, ◌++◌}
use Rattle.pegread.specs.Names.{IsName}
use Rattle.pegread.specs.Pattern.{Pattern, Any, Bytes, Set, Name, Seq, Choice, Star, Plus, Opt, And, Not, Act, Open}
use Rattle.pegread.specs.Pattern.{Close, Patterns, none, more, Rule}
use Rattle.pegread.specs.Slices.{Body}

-- numbers from 0 to 255
abbrev pub AreBytes : List ℕ → Type 0
AreBytes [] = Unit {0}
AreBytes (b ∷ bs) = (b < 256) × AreBytes bs

-- no other number is a member
abbrev pub IsByteSet : (ℕ → Bool) → Type 0
IsByteSet f = (b : ℕ) → 256 ≤ b → f b ≡ false

-- the braces of a template match
abbrev pub IsTemplate : List ℕ → Type 0
IsTemplate t = Body (t ++ code "}" ∷ []) []

-- none, or two and more: one member is no sequence
abbrev pub IsNotOne : Patterns → Type 0
IsNotOne none = Unit {0}
IsNotOne (more e none) = ⊥
IsNotOne (more e (more f es)) = Unit {0}

-- two and more: one alternative is no choice
abbrev pub AreMany : Patterns → Type 0
AreMany none = ⊥
AreMany (more e none) = ⊥
AreMany (more e (more f es)) = Unit {0}

abbrev mutual
  pub IsFormed : Pattern → Type 0
  IsFormed Any = Unit {0}
  IsFormed (Bytes bs) = AreBytes bs
  IsFormed (Set f) = IsByteSet f
  IsFormed (Name n) = IsName n
  IsFormed (Seq es) = IsNotOne es × AreFormed es
  IsFormed (Choice es) = AreMany es × AreFormed es
  IsFormed (Star e) = IsFormed e
  IsFormed (Plus e) = IsFormed e
  IsFormed (Opt e) = IsFormed e
  IsFormed (And e) = IsFormed e
  IsFormed (Not e) = IsFormed e
  IsFormed (Act t) = IsTemplate t
  IsFormed Open = Unit {0}
  IsFormed Close = Unit {0}

  pub AreFormed : Patterns → Type 0
  AreFormed none = Unit {0}
  AreFormed (more e es) = IsFormed e × AreFormed es

-- each rule has a name, and a body that is formed
abbrev pub AreFormedRules : List Rule → Type 0
AreFormedRules [] = Unit {0}
AreFormedRules (rule ∷ rules) = IsName rule.name × IsFormed rule.body × AreFormedRules rules

-- there is at least one
abbrev pub IsSome : List Rule → Type 0
IsSome [] = ⊥
IsSome (rule ∷ rules) = Unit {0}
