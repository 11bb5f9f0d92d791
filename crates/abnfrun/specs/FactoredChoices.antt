-- Choices of texts, and the same choices factored by what texts begin with. But for `DeriveAlike`, which follows from
-- them, private helpers alone use these.
use Rattle.std.specs.Prelude.{◌≡◌, ◌↔◌, ℕ, ◌<◌, ◌≤◌, Bool, List, [], ◌∷◌, length, drop, slice_index, Contains, Option}
use Rattle.std.specs.Prelude.{Some, None}
use Rattle.std.proofs.Common.{Vec, Global}
use Rattle.abnfread.specs.Element.{Element, Elements, Text, Values, Range, Concat, Alt, Rep, Opt, Name, Prose, none}
use Rattle.abnfread.specs.Element.{more, Rule}
use Rattle.abnfcheck.specs.AbnfGrammar.{Within}
use Rattle.abnfcheck.specs.Derivable.{Derives, Spelled}

-- a text has the same symbols as the first one from a position on, up to another
pub record IsShared (first : List ℕ) (from end : ℕ) (text : List ℕ) : Type 0 where
  pub within : end ≤ length text
  pub same : (i : ℕ) → from ≤ i → i < end → slice_index text i ≡ slice_index first i

-- a spelling of one of the texts, of which all up to a position is left out
pub record IsSpelling (folds : Bool) (from : ℕ) (texts : List (Vec ℕ Global)) (w : List ℕ) : Type 0 where
  pub text : Vec ℕ Global
  pub among : Contains texts text
  pub spelled : Spelled folds (drop from text.items) w

-- a spelling of one of the alternatives that are texts of that kind
pub data SpellsSome (folds : Bool) : Elements → List ℕ → Type 0 where
  first_text : {t w : List ℕ} {es : Elements} → Spelled folds t w → SpellsSome folds (more (Text folds t) es) w
  later_text : {e : Element} {w : List ℕ} {es : Elements} → SpellsSome folds es w → SpellsSome folds (more e es) w

-- a text of that kind, if there is a kind
pub data IsTextOf : Option Bool → Element → List ℕ → Type 0 where
  is_text : {folds : Bool} {t : List ℕ} → IsTextOf (Some folds) (Text folds t) t

-- a name or prose
pub data IsNameOrProse : Element → Type 0 where
  a_name : {n : List ℕ} → IsNameOrProse (Name n)
  some_prose : {t : List ℕ} → IsNameOrProse (Prose t)

-- By any rules the element derives these lists and no others. No name and no prose stands in it.
pub record DerivesThese (These : List ℕ → Type 0) (made : Element) : Type 0 where
  pub derives : (has : ℕ → Bool) (rules : List Rule) (w : List ℕ) → Derives has rules made w ↔ These w
  pub plain : (d : Element) → IsNameOrProse d → Within made d → ⊥

mutual
  -- an element, and the same with some of its choices factored
  pub data IsFactored : Element → Element → Type 0 where
    text : {folds : Bool} {t : List ℕ} → IsFactored (Text folds t) (Text folds t)
    values : {vs : List ℕ} → IsFactored (Values vs) (Values vs)
    range : {low high : ℕ} → IsFactored (Range low high) (Range low high)
    concat : {es ds : Elements} → AreFactored None es ds → IsFactored (Concat es) (Concat ds)
    alt : {es ds : Elements} → AreFactored None es ds → IsFactored (Alt es) (Alt ds)
    choice : {folds : Bool} {es ds : Elements} {made : Element} → AreFactored (Some folds) es ds
        → DerivesThese (SpellsSome folds es) made → IsFactored (Alt es) (Alt (more made (more (Alt ds) none)))
    rep : {a : ℕ} {b : Option ℕ} {e d : Element} → IsFactored e d → IsFactored (Rep a b e) (Rep a b d)
    opt : {e d : Element} → IsFactored e d → IsFactored (Opt e) (Opt d)
    name : {n : List ℕ} → IsFactored (Name n) (Name n)
    prose : {t : List ℕ} → IsFactored (Prose t) (Prose t)

  -- each in its place, but for the texts of that kind
  pub data AreFactored : Option Bool → Elements → Elements → Type 0 where
    nothing : {kind : Option Bool} → AreFactored kind none none
    kept : {kind : Option Bool} {e d : Element} {es ds : Elements} → IsFactored e d → AreFactored kind es ds
        → AreFactored kind (more e es) (more d ds)
    left : {kind : Option Bool} {e : Element} {t : List ℕ} {es ds : Elements} → IsTextOf kind e t
        → AreFactored kind es ds → AreFactored kind (more e es) ds

-- rules of the same names, with such bodies
pub data AreFactoredRules : List Rule → List Rule → Type 0 where
  no_rules : AreFactoredRules [] []
  rule_more : {a b : Rule} {xs ys : List Rule} → a.name ≡ b.name → IsFactored a.body b.body → AreFactoredRules xs ys
      → AreFactoredRules (a ∷ xs) (b ∷ ys)
