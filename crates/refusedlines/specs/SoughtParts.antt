-- The parts whose dotted rules are sought, by bodies and their nodes. It serves private helpers alone.
use Rattle.std.specs.Prelude.{◌≡◌, ℕ, ◌+◌, eqb, Bool, true, false, ◌&&◌, if◌then◌else◌, List, [], ◌∷◌, ◌++◌, length}
use Rattle.std.specs.Prelude.{map, slice_get, get_or, Option, Some, None}
use Rattle.std.specs.HashSet.{HashSet, contains}
use Rattle.std.specs.List.{filter, list_any}
use Rattle.abnfread.specs.Element.{Element, Elements, Text, Values, Range, Concat, Alt, Rep, Opt, Name, Prose, none}
use Rattle.abnfread.specs.Element.{more, Rule}
use Rattle.flatgrammar.specs.Flat as flat
use Rattle.flatgrammar.specs.Flat.{Flat, Node}
use Rattle.flatgrammar.specs.declared.closure.DottedRule.{DottedRule}
use Rattle.refusedlines.specs.RefusedParts.{ShownPart, counts}
use Rattle.refusedlines.specs.declared.parts.SoughtParts.{SoughtParts}

-- the operand of that number of a node
abbrev pub operand_in : Node → ℕ → Option ℕ
operand_in (flat.Letters sets) i = None
operand_in (flat.Concat ms) i = slice_get ms i
operand_in (flat.Alt ms) i = slice_get ms i
operand_in (flat.Rep a b m) i = if eqb i 0 then Some m else None
operand_in (flat.Iterations b m) i = if eqb i 0 then Some m else None
operand_in (flat.Opt m) i = if eqb i 0 then Some m else None
operand_in (flat.Name r) i = None
operand_in flat.Nothing i = None

abbrev pub operand_at : Option Node → ℕ → Option ℕ
operand_at None i = None
operand_at (Some node) i = operand_in node i

abbrev pub operand_of : Flat → ℕ → ℕ → Option ℕ
operand_of grammar n i = operand_at (slice_get grammar.nodes n) i

-- a name is one of a marked rule
abbrev pub names_marked : List Bool → Node → Bool
names_marked marks (flat.Letters sets) = true
names_marked marks (flat.Concat ms) = true
names_marked marks (flat.Alt ms) = true
names_marked marks (flat.Rep a b m) = true
names_marked marks (flat.Iterations b m) = true
names_marked marks (flat.Opt m) = true
names_marked marks (flat.Name r) = get_or marks r false
names_marked marks flat.Nothing = true

abbrev pub is_marked_at : List Bool → Option Node → Bool
is_marked_at marks None = true
is_marked_at marks (Some node) = names_marked marks node

-- two pairs are the same
abbrev pub is_pair : ℕ × ℕ → ℕ × ℕ → Bool
is_pair a b = eqb a.0 b.0 && eqb a.1 b.1

-- one of the dotted rules has that node and that step
abbrev pub has_dot : List DottedRule → ℕ → ℕ → Bool
has_dot dots n k = list_any (λ (d : DottedRule). eqb d.node n && eqb d.step k) dots

-- the set has of each dotted rule the node and the step, and nothing else
abbrev pub AreDotsIn : {S : Type 0} → List DottedRule → HashSet (ℕ × ℕ) S → Type 0
AreDotsIn dots set = (n k : ℕ) → contains is_pair set (n, k) ≡ has_dot dots n k

-- a part with that node and that step is sought
abbrev pub is_sought : SoughtParts → ℕ → ℕ → Bool
is_sought sought n k = contains is_pair sought.dots.now (n, k)
    && is_marked_at sought.more.now (slice_get sought.flat.now.nodes n)

-- nothing where there is no node
abbrev pub at_node : Option ℕ → (ℕ → List ShownPart) → List ShownPart
at_node None found = []
at_node (Some n) found = found n

module _ (operand : ℕ → ℕ → Option ℕ) (sought : ℕ → ℕ → Bool) where
  -- a name or a terminal of a rule after each number of symbols below n with which it is sought at its node
  abbrev pub sought_reads : ℕ → ℕ → Element → ℕ → List ShownPart
  sought_reads rule node element n =
      map (λ k. record { rule = rule; element = element; read = k }) (filter (sought node) (counts 0 n))

  -- the sought parts of an element whose node is that one
  abbrev mutual
    pub sought_in : ℕ → ℕ → Element → List ShownPart
    sought_in rule node (Text folds t) = sought_reads rule node (Text folds t) (length t)
    sought_in rule node (Values vs) = sought_reads rule node (Values vs) (length vs)
    sought_in rule node (Range low high) = sought_reads rule node (Range low high) 1
    sought_in rule node (Concat es) = sought_operands rule node 0 es
    sought_in rule node (Alt es) = sought_operands rule node 0 es
    sought_in rule node (Rep a b e) = at_node (operand node 0) (λ m. sought_in rule m e)
    sought_in rule node (Opt e) = at_node (operand node 0) (λ m. sought_in rule m e)
    sought_in rule node (Name n) = sought_reads rule node (Name n) 1
    sought_in rule node (Prose t) = []

    -- .. of operands of that node, numbered from i on
    pub sought_operands : ℕ → ℕ → ℕ → Elements → List ShownPart
    sought_operands rule node i none = []
    sought_operands rule node i (more e es) =
        at_node (operand node i) (λ m. sought_in rule m e) ++ sought_operands rule node (i + 1) es

  -- .. of rules with these nodes, numbered from id on
  abbrev pub sought_from : List ℕ → ℕ → List Rule → List ShownPart
  sought_from bodies id [] = []
  sought_from bodies id (r ∷ rules) =
      at_node (slice_get bodies id) (λ m. sought_in id m r.body) ++ sought_from bodies (id + 1) rules
