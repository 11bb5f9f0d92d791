-- Elements and rules without what holds a symbol. Private helpers alone use it.
use Rattle.std.specs.Prelude.{◌≡◌, ℕ, ◌+◌, ◌-◌, ◌<◌, ◌≤◌, Bool, List, [], ◌∷◌, Option, Contains}
use Rattle.abnfread.specs.Element.{Element, Elements, Text, Values, Range, Concat, Alt, Rep, Opt, Name, Prose, none}
use Rattle.abnfread.specs.Element.{more, Rule}

module _ (letter : ℕ) where
  mutual
    -- `IsWithout e d`: d derives those lists of e in which the symbol does not stand
    pub data IsWithout : Element → Element → Type 0 where
      keeps_text : {folds : Bool} {t : List ℕ} → (Contains t letter → ⊥) → IsWithout (Text folds t) (Text folds t)
      drops_text : {folds : Bool} {t : List ℕ} → Contains t letter → IsWithout (Text folds t) (Alt none)
      keeps_values : {vs : List ℕ} → (Contains vs letter → ⊥) → IsWithout (Values vs) (Values vs)
      drops_values : {vs : List ℕ} → Contains vs letter → IsWithout (Values vs) (Alt none)
      keeps_range : {low high : ℕ} → (low ≤ letter → letter ≤ high → ⊥) → IsWithout (Range low high) (Range low high)
      cuts_range : {low high : ℕ} → low ≡ letter → IsWithout (Range low high) (Range (letter + 1) high)
      splits_range : {low high : ℕ} → low < letter → letter ≤ high → IsWithout (Range low high)
          (Alt (more (Range low (letter - 1)) (more (Range (letter + 1) high) none)))
      in_concat : {es ds : Elements} → AreWithout es ds → IsWithout (Concat es) (Concat ds)
      in_alt : {es ds : Elements} → AreWithout es ds → IsWithout (Alt es) (Alt ds)
      in_rep : {a : ℕ} {b : Option ℕ} {e d : Element} → IsWithout e d → IsWithout (Rep a b e) (Rep a b d)
      in_opt : {e d : Element} → IsWithout e d → IsWithout (Opt e) (Opt d)
      keeps_name : {n : List ℕ} → IsWithout (Name n) (Name n)
      keeps_prose : {t u : List ℕ} → IsWithout (Prose t) (Prose u)

    -- one for each, in order
    pub data AreWithout : Elements → Elements → Type 0 where
      none_without : AreWithout none none
      more_without : {e d : Element} {es ds : Elements} → IsWithout e d → AreWithout es ds
          → AreWithout (more e es) (more d ds)

  -- rules of the same names, in order
  pub data AreRulesWithout : List Rule → List Rule → Type 0 where
    no_rules : AreRulesWithout [] []
    one_rule : {rule left : Rule} {rules lefts : List Rule} → left.name ≡ rule.name → IsWithout rule.body left.body
        → AreRulesWithout rules lefts → AreRulesWithout (rule ∷ rules) (left ∷ lefts)
