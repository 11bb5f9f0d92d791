-- Nodes numbered from elements, operands first.
use Rattle.std.specs.Prelude.{◌≡◌, ℕ, ◌+◌, ◌<◌, ◌≤◌, Bool, false, List, [], ◌∷◌, ◌++◌, length, take, slice_get, get_or}
use Rattle.std.specs.Prelude.{Some}
use Rattle.abnfread.specs.Element as e
use Rattle.abnfread.specs.Element.{Element, Elements, Rule, bodies, id_of}
use Rattle.flatgrammar.specs.Flat.{Node}
use Rattle.lowering.specs.Lowered.{AreTrees, IsRoot, Spells, SpellAll}
use Rattle.lowering.specs.NullElements.{Settles, SettlesAll, SettlesSome}
use Rattle.flatgrammar.specs.Positions.{positions}
use Rattle.flatgrammar.specs.Operands.{AreOrdered}
use Rattle.lowering.specs.Sizes.{size, size_all, sizes}

-- the marks are true of the names that derive the empty list
abbrev pub NamesSettle : List Rule → List Bool → Type 0
NamesSettle rules marks = (n : List ℕ) → Settles rules (get_or marks (id_of rules n) false) (e.Name n)

-- nodes were added, none of them an operand twice, and none a new operand of an old one; these new ones are no operands
pub record ArePlanted (old new : List Node) (tops : List ℕ) : Type 0 where
  pub forest : AreTrees old → AreTrees new
  pub roots : (m : ℕ) → m < length old → IsRoot old m → IsRoot new m
  pub fresh : (k m : ℕ) → slice_get tops k ≡ Some m → (length old ≤ m) × IsRoot new m
  pub apart : (k l m : ℕ) → slice_get tops k ≡ Some m → slice_get tops l ≡ Some m → k ≡ l

module _ (rules : List Rule) (limit : ℕ) where
  -- a mark is true exactly if what a node spells derives the empty list
  pub record IsNodeReported (nodes : List Node) (s : ℕ) (mark : Bool) : Type 0 where
    pub el : Element
    pub spelled : Spells rules limit nodes s el
    pub settles : Settles rules mark el

  pub record AreNodesReported (nodes : List Node) (marks : List Bool) : Type 0 where
    pub long : length marks ≡ length nodes
    pub each : (s : ℕ) (mark : Bool) → slice_get marks s ≡ Some mark → IsNodeReported nodes s mark

  -- nodes were added, of no more dotted rules than the element has, and node n spells it
  pub record Numbers (old new : List Node) (were are : List Bool) (n : ℕ) (empty : Bool) (el : Element) : Type 0 where
    pub added : List Node
    pub grown : new ≡ old ++ added
    pub spelled : Spells rules limit new n el
    pub sized : positions new ≤ positions old + size limit el
    pub settles : Settles rules empty el
    pub ordered : AreOrdered old → AreOrdered new
    pub planted : AreOrdered old → ArePlanted old new (n ∷ [])
    pub reported : AreNodesReported old were → AreNodesReported new are

  -- nodes were added, and each of the numbers is that of a node that spells the member in its place
  pub record NumbersAll (old new : List Node) (were are : List Bool) (ns : List ℕ) (all any : Bool) (els : Elements) :
      Type 0 where
    pub added : List Node
    pub grown : new ≡ old ++ added
    pub spelled : SpellAll rules limit new ns els
    pub sized : positions new ≤ positions old + size_all limit els
    pub settle_all : SettlesAll rules all els
    pub settle_some : SettlesSome rules any els
    pub ordered : AreOrdered old → AreOrdered new
    pub planted : AreOrdered old → ArePlanted old new ns
    pub reported : AreNodesReported old were → AreNodesReported new are

  -- the bodies of the first rules are cut into nodes
  pub record AreCut (count : ℕ) (nodes : List Node) (marks : List Bool) (numbers : List ℕ) : Type 0 where
    pub long : length numbers ≡ count
    pub spelled : (id m : ℕ) → slice_get numbers id ≡ Some m → (el : Element) × (slice_get (bodies rules) id ≡ Some el)
        × Spells rules limit nodes m el
    pub sized : positions nodes ≤ sizes limit (take count (bodies rules))
    pub ordered : AreOrdered nodes
    pub planted : ArePlanted [] nodes numbers
    pub reported : AreNodesReported nodes marks
