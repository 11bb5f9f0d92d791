-- How many dotted rules there are, and lists without repeats.
use Rattle.std.specs.Prelude.{◌≡◌, ℕ, ◌+◌, ◌*◌, List, [], ◌∷◌, length}
use Rattle.flatgrammar.specs.Flat.{Node, Letters, Concat, Alt, Rep, Iterations, Opt, Name, Nothing, top}

-- the dotted rules of one node
abbrev pub width : Node → ℕ
width (Letters sets) = length sets + 1
width (Concat ms) = length ms + 1
width (Alt ms) = 2 * length ms
width (Rep a b m) = top a b + 1
width (Iterations b m) = top 0 b + 1
width (Opt m) = 3
width (Name r) = 0
width Nothing = 0

abbrev pub positions : List Node → ℕ
positions [] = 0
positions (node ∷ nodes) = width node + positions nodes

pub data In {A : Type 0} : A → List A → Type 0 where
  now : {a b : A} {xs : List A} → a ≡ b → In a (b ∷ xs)
  on : {a b : A} {xs : List A} → In a xs → In a (b ∷ xs)

-- no two members are equal
abbrev pub AreDifferent : {A : Type 0} → List A → Type 0
AreDifferent [] = Unit {0}
AreDifferent (x ∷ xs) = (In x xs → ⊥) × AreDifferent xs
