-- What an element derives: a list of symbols, each a number.
use Rattle.std.specs.Prelude.{◌≡◌, ℕ, suc, ◌≤◌, Bool, true, false, List, [], ◌∷◌, ◌++◌, slice_get, Option}
use Rattle.std.specs.Prelude.{Some, None}
use Rattle.abnfread.specs.Element.{Element, Elements, Text, Values, Range, Concat, Alt, Rep, Opt, Name, none, more}
use Rattle.abnfread.specs.Element.{Rule, bodies, body_of}
use Rattle.ruletable.specs.Letters.{small}

-- a symbol of a text and one that may stand for it
abbrev pub StandsFor : Bool → ℕ → ℕ → Type 0
StandsFor true t c = small c ≡ small t
StandsFor false t c = c ≡ t

-- the spellings of a text: as long, symbol by symbol
pub data Spelled : Bool → List ℕ → List ℕ → Type 0 where
  end : {folds : Bool} → Spelled folds [] []
  next : {folds : Bool} {t c : ℕ} {ts cs : List ℕ} → StandsFor folds t c → Spelled folds ts cs
      → Spelled folds (t ∷ ts) (c ∷ cs)

-- each of the values is a symbol
abbrev pub AreLetters : (ℕ → Bool) → List ℕ → Type 0
AreLetters has [] = Unit {0}
AreLetters has (v ∷ vs) = (has v ≡ true) × AreLetters has vs

-- at most that many, if there is a bound
abbrev pub AtMost : ℕ → Option ℕ → Type 0
AtMost k None = Unit {0}
AtMost k (Some most) = k ≤ most

-- `has` marks the symbols of the alphabet
module _ (has : ℕ → Bool) (rules : List Rule) where
  mutual
    pub data Derives : Element → List ℕ → Type 0 where
      text : {folds : Bool} {t w : List ℕ} → Spelled folds t w → Derives (Text folds t) w
      values : {vs : List ℕ} → AreLetters has vs → Derives (Values vs) vs
      range : {low high c : ℕ} → low ≤ c → c ≤ high → has c ≡ true → Derives (Range low high) (c ∷ [])
      concat : {es : Elements} {w : List ℕ} → DerivesAll es w → Derives (Concat es) w
      alt : {es : Elements} {w : List ℕ} → DerivesSome es w → Derives (Alt es) w
      rep : {a k : ℕ} {b : Option ℕ} {e : Element} {w : List ℕ} → a ≤ k → AtMost k b → DerivesTimes e k w
          → Derives (Rep a b e) w
      opt_empty : {e : Element} → Derives (Opt e) []
      opt : {e : Element} {w : List ℕ} → Derives e w → Derives (Opt e) w
      name : {n : List ℕ} {e : Element} {w : List ℕ} → body_of rules n ≡ Some e → Derives e w → Derives (Name n) w

    -- the members one after another
    pub data DerivesAll : Elements → List ℕ → Type 0 where
      all_done : DerivesAll none []
      then : {e : Element} {es : Elements} {w v : List ℕ} → Derives e w → DerivesAll es v
          → DerivesAll (more e es) (w ++ v)

    -- one of the alternatives
    pub data DerivesSome : Elements → List ℕ → Type 0 where
      this : {e : Element} {es : Elements} {w : List ℕ} → Derives e w → DerivesSome (more e es) w
      later : {e : Element} {es : Elements} {w : List ℕ} → DerivesSome es w → DerivesSome (more e es) w

    -- that many members of one set, one after another
    pub data DerivesTimes : Element → ℕ → List ℕ → Type 0 where
      no_more : {e : Element} → DerivesTimes e 0 []
      one_more : {e : Element} {k : ℕ} {w v : List ℕ} → Derives e w → DerivesTimes e k v
          → DerivesTimes e (suc k) (w ++ v)

-- the rule of that id derives it
pub record RuleDerives (has : ℕ → Bool) (rules : List Rule) (id : ℕ) (w : List ℕ) : Type 0 where
  pub body : Element
  pub is : slice_get (bodies rules) id ≡ Some body
  pub derives : Derives has rules body w
