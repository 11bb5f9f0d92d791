-- The parts that can come next after a prefix of a line: names and terminals of the rules under way, of rules without
-- what derives nothing; and where nodes of a flat grammar stand.
use Rattle.std.specs.Prelude.{◌≡◌, ◌⊎◌, ℕ, zero, suc, ◌+◌, ◌<◌, Bool, List, [], ◌∷◌, ◌++◌, length, take, slice_get}
use Rattle.std.specs.Prelude.{Option, Some, None}
use Rattle.abnfread.specs.Element.{Element, Elements, Text, Values, Range, Concat, Alt, Rep, Opt, Name, Prose, none}
use Rattle.abnfread.specs.Element.{more, Rule, bodies, id_of}
use Rattle.abnfcheck.specs.Derivable.{AtMost, Derives, DerivesTimes, Spelled}
use Rattle.flatgrammar.specs.Flat.{Flat, Node}
use Rattle.lowering.specs.Lowered.{OperandAt}

-- the element at a site of another: the numbers of the operands that lead to it
abbrev mutual
  pub element_at : Element → List ℕ → Option Element
  element_at e [] = Some e
  element_at (Text folds t) (i ∷ z) = None
  element_at (Values vs) (i ∷ z) = None
  element_at (Range low high) (i ∷ z) = None
  element_at (Concat es) (i ∷ z) = member_at es i z
  element_at (Alt es) (i ∷ z) = member_at es i z
  element_at (Rep a b e) (i ∷ z) = element_at e z
  element_at (Opt e) (i ∷ z) = element_at e z
  element_at (Name n) (i ∷ z) = None
  element_at (Prose t) (i ∷ z) = None

  pub member_at : Elements → ℕ → List ℕ → Option Element
  member_at none i z = None
  member_at (more e es) zero z = element_at e z
  member_at (more e es) (suc i) z = member_at es i z

-- the symbols of a line from position i to position j are w
pub data Spans (x : List ℕ) : ℕ → List ℕ → ℕ → Type 0 where
  no_symbol : {i : ℕ} → Spans x i [] i
  symbol : {i j c : ℕ} {w : List ℕ} → slice_get x i ≡ Some c → Spans x (i + 1) w j → Spans x i (c ∷ w) j

module _ (has : ℕ → Bool) (rules : List Rule) where
  mutual
    -- `Awaits e w site p k`: after w, which begins what e derives, comes p, of which the first k symbols are in w. The
    -- site is the numbers of the operands that lead to p.
    pub data Awaits : Element → List ℕ → List ℕ → Element → ℕ → Type 0 where
      text : {folds : Bool} {t w : List ℕ} {k : ℕ} → k < length t → Spelled folds (take k t) w
          → Awaits (Text folds t) w [] (Text folds t) k
      values : {vs w : List ℕ} {k : ℕ} → k < length vs → w ≡ take k vs → Awaits (Values vs) w [] (Values vs) k
      range : {low high : ℕ} → Awaits (Range low high) [] [] (Range low high) 0
      name : {n : List ℕ} → Awaits (Name n) [] [] (Name n) 0
      concat : {es : Elements} {w z : List ℕ} {p : Element} {k : ℕ} → AwaitsNext es 0 w z p k
          → Awaits (Concat es) w z p k
      alt : {es : Elements} {w z : List ℕ} {p : Element} {k : ℕ} → AwaitsSome es 0 w z p k → Awaits (Alt es) w z p k
      rep : {a j k : ℕ} {b : Option ℕ} {e p : Element} {v w z : List ℕ} → AtMost a b → AtMost (suc j) b
          → DerivesTimes has rules e j v → Awaits e w z p k → Awaits (Rep a b e) (v ++ w) (0 ∷ z) p k
      opt : {e p : Element} {w z : List ℕ} {k : ℕ} → Awaits e w z p k → Awaits (Opt e) w (0 ∷ z) p k

    -- .. in one of the members, numbered from i on, those before it being derived
    pub data AwaitsNext : Elements → ℕ → List ℕ → List ℕ → Element → ℕ → Type 0 where
      here : {e p : Element} {es : Elements} {w z : List ℕ} {i k : ℕ} → Awaits e w z p k
          → AwaitsNext (more e es) i w (i ∷ z) p k
      after : {e p : Element} {es : Elements} {v w z : List ℕ} {i k : ℕ} → Derives has rules e v
          → AwaitsNext es (suc i) w z p k → AwaitsNext (more e es) i (v ++ w) z p k

    -- .. in one of the alternatives, numbered from i on
    pub data AwaitsSome : Elements → ℕ → List ℕ → List ℕ → Element → ℕ → Type 0 where
      this : {e p : Element} {es : Elements} {w z : List ℕ} {i k : ℕ} → Awaits e w z p k
          → AwaitsSome (more e es) i w (i ∷ z) p k
      later : {e p : Element} {es : Elements} {w z : List ℕ} {i k : ℕ} → AwaitsSome es (suc i) w z p k
          → AwaitsSome (more e es) i w z p k

  module _ (judged : ℕ) (x : List ℕ) where
    -- the rule of that id can begin at that position
    pub data Begun : ℕ → ℕ → Type 0 where
      judged_rule : Begun judged 0
      named : {r i j : ℕ} {body : Element} {w z n : List ℕ} → Begun r i → slice_get (bodies rules) r ≡ Some body
          → Spans x i w j → Awaits body w z (Name n) 0 → Begun (id_of rules n) j

    -- A part at a site of a rule's body can come next after n symbols, of which k are its own. The rule began before,
    -- or it is the judged one at the first position.
    pub record IsAwaited (n rule : ℕ) (site : List ℕ) (p : Element) (k : ℕ) : Type 0 where
      pub start : ℕ
      pub begun : Begun rule start
      pub underway : (start < n) ⊎ ((n ≡ 0) × (rule ≡ judged) × (start ≡ 0))
      pub body : Element
      pub body_is : slice_get (bodies rules) rule ≡ Some body
      pub word : List ℕ
      pub spans : Spans x start word n
      pub awaits : Awaits body word site p k

-- a node stands at a site of another: the numbers of the operands that lead to it
pub data StandsIn (flat : Flat) : ℕ → List ℕ → ℕ → Type 0 where
  itself : {s : ℕ} → StandsIn flat s [] s
  inside : {s t m i : ℕ} {z : List ℕ} {node : Node} → slice_get flat.nodes s ≡ Some node → OperandAt node i m
      → StandsIn flat m z t → StandsIn flat s (i ∷ z) t
