-- The nodes of a lowered grammar spell its rules.
use Rattle.std.specs.Prelude.{◌≡◌, ℕ, ◌<◌, Bool, true, false, List, [], ◌∷◌, length, map, slice_get, Option, Some, None}
use Rattle.std.specs.Prelude.{leb, if◌then◌else◌}
use Rattle.abnfcheck.specs.Derivable.{AtMost}
use Rattle.abnfread.specs.Element as e
use Rattle.abnfread.specs.Element.{Element, Elements, Rule, id_of}
use Rattle.flatgrammar.specs.Flat.{Node, Flat, Set, Exactly, EitherCase, Between, Letters, Concat, Alt, Rep, Iterations}
use Rattle.flatgrammar.specs.Flat.{Opt}
use Rattle.flatgrammar.specs.Flat.{Name, Nothing, capped}
use Rattle.lowering.specs.NullElements.{IsEmpty, IsNeverEmpty}

-- the symbols that may stand for one of a text
abbrev pub letter_set : Bool → ℕ → Set
letter_set true c = EitherCase c
letter_set false c = Exactly c

-- a greatest number, if it is within the limit
abbrev pub capped_most : ℕ → Option ℕ → Option ℕ
capped_most limit None = None
capped_most limit (Some most) = if leb most limit then Some most else None

-- On lines within the limit, numbers above it make no difference. If the operand of a repetition derives the empty
-- list, only iterations that take a symbol are counted: of the others there are as many as are needed.
module _ (rules : List Rule) (limit : ℕ) (nodes : List Node) where
  mutual
    -- node s spells an element
    pub data Spells : ℕ → Element → Type 0 where
      spells : {s : ℕ} {node : Node} {el : Element} → slice_get nodes s ≡ Some node → Shows node el → Spells s el

    -- a name that no rule has is the number of rules
    pub data Shows : Node → Element → Type 0 where
      shows_text : {folds : Bool} {t : List ℕ} {sets : List Set} → sets ≡ map (letter_set folds) t
          → Shows (Letters sets) (e.Text folds t)
      shows_values : {vs : List ℕ} {sets : List Set} → sets ≡ map Exactly vs → Shows (Letters sets) (e.Values vs)
      shows_range : {low high : ℕ} → Shows (Letters (Between low high ∷ [])) (e.Range low high)
      shows_concat : {ms : List ℕ} {es : Elements} → SpellAll ms es → Shows (Concat ms) (e.Concat es)
      shows_alt : {ms : List ℕ} {es : Elements} → SpellAll ms es → Shows (Alt ms) (e.Alt es)
      -- the least number is not above the greatest (RFC 5234, section 3.6)
      shows_rep : {a c m : ℕ} {b d : Option ℕ} {el : Element} → c ≡ capped limit a → d ≡ capped_most limit b
          → AtMost a b → IsNeverEmpty rules el → Spells m el →
          Shows (Rep c d m) (e.Rep a b el)
      shows_iterations : {a m : ℕ} {b d : Option ℕ} {el : Element} → d ≡ capped_most limit b → AtMost a b
          → IsEmpty rules el
          → Spells m el →
          Shows (Iterations d m) (e.Rep a b el)
      shows_reversed : {a b : ℕ} {el : Element} → b < a → Shows Nothing (e.Rep a (Some b) el)
      shows_opt : {m : ℕ} {el : Element} → Spells m el → Shows (Opt m) (e.Opt el)
      shows_name : {n : List ℕ} {r : ℕ} → r ≡ id_of rules n → Shows (Name r) (e.Name n)
      shows_prose : {t : List ℕ} → Shows Nothing (e.Prose t)

    pub data SpellAll : List ℕ → Elements → Type 0 where
      spell_none : SpellAll [] e.none
      spell_more : {m : ℕ} {ms : List ℕ} {el : Element} {es : Elements} → Spells m el → SpellAll ms es
          → SpellAll (m ∷ ms) (e.more el es)

-- of each rule the node that spells its body
pub record AreBodies (rules : List Rule) (limit : ℕ) (nodes : List Node) (bodies : List ℕ) : Type 0 where
  pub count : length bodies ≡ length rules
  pub spelled : (id m : ℕ) → slice_get bodies id ≡ Some m → (el : Element) × (slice_get (e.bodies rules) id ≡ Some el)
      × Spells rules limit nodes m el

-- the operand of that number in a node
abbrev pub OperandAt : Node → ℕ → ℕ → Type 0
OperandAt (Letters sets) i m = ⊥
OperandAt (Concat ms) i m = slice_get ms i ≡ Some m
OperandAt (Alt ms) i m = slice_get ms i ≡ Some m
OperandAt (Rep a b d) i m = (i ≡ 0) × (m ≡ d)
OperandAt (Iterations b d) i m = (i ≡ 0) × (m ≡ d)
OperandAt (Opt d) i m = (i ≡ 0) × (m ≡ d)
OperandAt (Name r) i m = ⊥
OperandAt Nothing i m = ⊥

-- a node is no operand
abbrev pub IsRoot : List Node → ℕ → Type 0
IsRoot nodes m = (s i : ℕ) (node : Node) → slice_get nodes s ≡ Some node → OperandAt node i m → ⊥

-- no node is an operand twice
abbrev pub AreTrees : List Node → Type 0
AreTrees nodes = (s t i j m : ℕ) (node other : Node) → slice_get nodes s ≡ Some node → slice_get nodes t ≡ Some other
    → OperandAt node i m → OperandAt other j m → (s ≡ t) × (i ≡ j)

-- each node stands in one body at most, at one place
pub record ArePlaced (flat : Flat) : Type 0 where
  pub forest : AreTrees flat.nodes
  pub apart : (r q m : ℕ) → slice_get flat.bodies r ≡ Some m → slice_get flat.bodies q ≡ Some m → r ≡ q
  pub above : (r m s i : ℕ) (node : Node) → slice_get flat.bodies r ≡ Some m → slice_get flat.nodes s ≡ Some node
      → OperandAt node i m → s ≡ flat.start
  pub start : IsRoot flat.nodes flat.start
  pub no_body : (r : ℕ) → slice_get flat.bodies r ≡ Some flat.start → ⊥

-- the nodes spell the rules' bodies, and the augmented start is the judged rule's body alone
pub record IsLowered (rules : List Rule) (judged : ℕ) (flat : Flat) : Type 0 where
  pub spelled : AreBodies rules flat.limit flat.nodes flat.bodies
  pub body : ℕ
  pub body_is : slice_get flat.bodies judged ≡ Some body
  pub whole : slice_get flat.nodes flat.start ≡ Some (Concat (body ∷ []))
  pub placed : ArePlaced flat
