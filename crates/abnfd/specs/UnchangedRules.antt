-- Rules of two grammars that are alike: the same text, but for the case of names, also in the rules of these names.
use Rattle.std.specs.Prelude.{◌≡◌, ◌<◌, ℕ, Bool, List, Option, Some, slice_get}
use Rattle.abnfread.specs.Element.{Element, Elements, Text, Values, Range, Concat, Alt, Rep, Opt, Name, none, more}
use Rattle.abnfread.specs.Element.{Rule, bodies, id_of}

-- two elements are the same but for their names, which are paired by P
module _ (P : List ℕ → List ℕ → Type 0) where
  mutual
    pub data IsAlike : Element → Element → Type 0 where
      text_alike : {folds : Bool} {text : List ℕ} → IsAlike (Text folds text) (Text folds text)
      values_alike : {values : List ℕ} → IsAlike (Values values) (Values values)
      range_alike : {low high : ℕ} → IsAlike (Range low high) (Range low high)
      concat_alike : {es ds : Elements} → AreAlike es ds → IsAlike (Concat es) (Concat ds)
      alt_alike : {es ds : Elements} → AreAlike es ds → IsAlike (Alt es) (Alt ds)
      rep_alike : {least : ℕ} {most : Option ℕ} {e d : Element} → IsAlike e d
          → IsAlike (Rep least most e) (Rep least most d)
      opt_alike : {e d : Element} → IsAlike e d → IsAlike (Opt e) (Opt d)
      name_alike : {n m : List ℕ} → P n m → IsAlike (Name n) (Name m)

    -- as many members, each like the other at its place
    pub data AreAlike : Elements → Elements → Type 0 where
      none_alike : AreAlike none none
      more_alike : {e d : Element} {es ds : Elements} → IsAlike e d → AreAlike es ds
          → AreAlike (more e es) (more d ds)

-- of each old rule the new one that it is paired with, if there is one
abbrev pub Partners : Type 0
Partners = List (Option ℕ)

-- the rule of an old name is paired with that of a new one
abbrev pub ArePaired : List Rule → List Rule → Partners → List ℕ → List ℕ → Type 0
ArePaired old new partners n m = slice_get partners (id_of old n) ≡ Some (Some (id_of new m))

-- the bodies of two rules are alike, and the rules of their names are paired
pub record AreBodiesAlike (old new : List Rule) (partners : Partners) (id other : ℕ) : Type 0 where
  pub body : Element
  pub other_body : Element
  pub is : slice_get (bodies old) id ≡ Some body
  pub other_is : slice_get (bodies new) other ≡ Some other_body
  pub alike : IsAlike (ArePaired old new partners) body other_body

-- the bodies of the pairs among the first rules are alike
abbrev pub ArePairsTo : List Rule → List Rule → Partners → ℕ → Type 0
ArePairsTo old new partners count = (id other : ℕ) → id < count → slice_get partners id ≡ Some (Some other)
    → AreBodiesAlike old new partners id other

-- the bodies of all pairs are
abbrev pub ArePairs : List Rule → List Rule → Partners → Type 0
ArePairs old new partners = (id other : ℕ) → slice_get partners id ≡ Some (Some other)
    → AreBodiesAlike old new partners id other
