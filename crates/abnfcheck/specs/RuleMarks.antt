-- Rules that derive the empty list, or some list, and numbered needs by which they are found. But for `AreNullMarks`
-- and `AreProductive`, private helpers alone use it, those of flatgrammar too.
use Rattle.std.specs.Prelude.{◌≡◌, ◌↔◌, ℕ, ◌<◌, ◌≤◌, Bool, List, [], ◌∷◌, ◌++◌, length, leb, ltb, slice_get, Option}
use Rattle.std.specs.Prelude.{Some, None, if◌then◌else◌}
use Rattle.fixpoint.specs.Demands.{Demand, All, One, AreNeedsWithin}
use Rattle.fixpoint.specs.NumberMarks.{IsMarked}
use Rattle.ruletable.specs.Letters.{has as in_alphabet}
use Rattle.ruletable.specs.declared.alphabet.Alphabet.{Alphabet}
use Rattle.abnfread.specs.Element.{Element, Elements, Concat, Alt, Rep, Name, none, more, Rule, bodies, id_of}
use Rattle.abnfcheck.specs.Derivable.{AreLetters, Derives, RuleDerives, AtMost}
use Rattle.abnfcheck.specs.declared.aim.Aim.{Aim}
use Rattle.abnfcheck.specs.declared.aim.Aim.TheVariants.{Empty, Letters}

-- exactly those rules are marked that derive the empty list, whatever the symbols are
abbrev pub AreNullMarks : List Rule → List Bool → Type 0
AreNullMarks rules marks = (has : ℕ → Bool) (id : ℕ) → id < length rules
    → (IsMarked marks id ↔ RuleDerives has rules id [])

-- there is a mark for each rule, and exactly those are marked that derive some list of symbols
pub record AreProductive (alphabet : Alphabet) (rules : List Rule) (marks : List Bool) : Type 0 where
  pub count : length marks ≡ length rules
  pub exact : (id : ℕ) → id < length rules →
      (IsMarked marks id ↔ ((w : List ℕ) × AreLetters (in_alphabet alphabet) w
      × RuleDerives (in_alphabet alphabet) rules id w))

-- the lists that an aim asks for
abbrev pub IsAim : Aim → List ℕ → Type 0
IsAim Empty w = w ≡ []
IsAim (Letters alphabet) w = AreLetters (in_alphabet alphabet) w

-- the tests of symbols by which it asks; for the empty list each serves
abbrev pub IsTestOf : Aim → (ℕ → Bool) → Type 0
IsTestOf Empty has = Unit {0}
IsTestOf (Letters alphabet) has = has ≡ in_alphabet alphabet

-- an element derives a list that is asked for
pub record Yields (has : ℕ → Bool) (rules : List Rule) (aim : Aim) (e : Element) : Type 0 where
  pub word : List ℕ
  pub asked : IsAim aim word
  pub derives : Derives has rules e word

-- exactly those rules are marked that derive a list that is asked for
abbrev pub AreMarksFor : Aim → List Rule → List Bool → Type 0
AreMarksFor aim rules marks = (has : ℕ → Bool) → IsTestOf aim has → (id : ℕ) → id < length rules →
    (IsMarked marks id ↔ ((w : List ℕ) × IsAim aim w × RuleDerives has rules id w))

-- at once, or never
abbrev pub need_if : Bool → Demand
need_if met = if met then All [] else One []

-- an iteration is asked for, and reversed bounds allow none
abbrev pub need_of_iterations : ℕ → Option ℕ → ℕ → Demand
need_of_iterations least None m = All (m ∷ [])
need_of_iterations least (Some most) m = if leb least most then All (m ∷ []) else One []

abbrev pub need_of_repeat : ℕ → Option ℕ → ℕ → Demand
need_of_repeat least most m = if leb least 0 then All [] else need_of_iterations least most m

-- a rule, or none
abbrev pub need_of_id : ℕ → ℕ → Demand
need_of_id count id = if ltb id count then All (id ∷ []) else One []

-- The first numbers are those of the rules, the others those of elements.
module _ (has : ℕ → Bool) (rules : List Rule) (aim : Aim) (needs : List Demand) where
  mutual
    -- number n is that of the element
    pub data Asks : ℕ → Element → Type 0 where
      asks : {n : ℕ} {need : Demand} {e : Element} → length rules ≤ n → slice_get needs n ≡ Some need → IsNeedOf need e
          → Asks n e

    -- the need is met exactly if the element derives a list that is asked for
    pub data IsNeedOf : Demand → Element → Type 0 where
      of_met : {e : Element} → Yields has rules aim e → IsNeedOf (All []) e
      of_unmet : {e : Element} → (Yields has rules aim e → ⊥) → IsNeedOf (One []) e
      of_concat : {ms : List ℕ} {es : Elements} → AskAll ms es → IsNeedOf (All ms) (Concat es)
      of_alt : {ms : List ℕ} {es : Elements} → AskAll ms es → IsNeedOf (One ms) (Alt es)
      of_rep : {a m : ℕ} {b : Option ℕ} {e : Element} → 0 < a → AtMost a b → Asks m e
          → IsNeedOf (All (m ∷ [])) (Rep a b e)
      of_name : {name : List ℕ} → id_of rules name < length rules → IsNeedOf (All (id_of rules name ∷ [])) (Name name)

    pub data AskAll : List ℕ → Elements → Type 0 where
      ask_none : AskAll [] none
      ask_more : {m : ℕ} {ms : List ℕ} {e : Element} {es : Elements} → Asks m e → AskAll ms es
          → AskAll (m ∷ ms) (more e es)

  -- a rule needs the number of its body
  pub record HasBodyNeed (id : ℕ) (body : Element) : Type 0 where
    pub number : ℕ
    pub need_is : slice_get needs id ≡ Some (All (number ∷ []))
    pub asked : Asks number body

  -- the first so many rules do
  abbrev pub HaveBodyNeeds : ℕ → Type 0
  HaveBodyNeeds count = (id : ℕ) (body : Element) → id < count → slice_get (bodies rules) id ≡ Some body
      → HasBodyNeed id body

-- needs were added, and number n is that of the element
pub record IsNumbered (has : ℕ → Bool) (rules : List Rule) (aim : Aim) (old new : List Demand) (n : ℕ)
    (e : Element) : Type 0 where
  pub added : List Demand
  pub grown : new ≡ old ++ added
  pub asked : length rules ≤ length old → Asks has rules aim new n e
  pub within : length rules ≤ length old → AreNeedsWithin old → AreNeedsWithin new

-- needs were added, and each number is that of the member in its place
pub record AreNumbered (has : ℕ → Bool) (rules : List Rule) (aim : Aim) (old new : List Demand) (ns : List ℕ)
    (es : Elements) : Type 0 where
  pub added : List Demand
  pub grown : new ≡ old ++ added
  pub asked : length rules ≤ length old → AskAll has rules aim new ns es
  pub within : length rules ≤ length old → AreNeedsWithin old → AreNeedsWithin new
