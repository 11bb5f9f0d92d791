-- The sets and nodes that the code's stand for.
use Rattle.std.specs.Prelude.{List, map}
use Rattle.flatgrammar.specs.declared.flat_node.Set as declared_set
use Rattle.flatgrammar.specs.declared.flat_node.Set.TheVariants as s
use Rattle.flatgrammar.specs.declared.flat_node.Node as declared
use Rattle.flatgrammar.specs.declared.flat_node.Node.TheVariants as code
use Rattle.flatgrammar.specs.Flat as flat
use Rattle.flatgrammar.specs.Flat.{Set, Node}

abbrev pub set_of : declared_set.Set → Set
set_of (s.Exactly c) = flat.Exactly c
set_of (s.EitherCase c) = flat.EitherCase c
set_of (s.Between low high) = flat.Between low high

abbrev pub node_of : declared.Node → Node
node_of (code.Letters sets) = flat.Letters (map set_of sets.items)
node_of (code.Concat members) = flat.Concat members.items
node_of (code.Alt alternatives) = flat.Alt alternatives.items
node_of (code.Rep least most operand) = flat.Rep least most operand
node_of (code.Iterations most operand) = flat.Iterations most operand
node_of (code.Opt operand) = flat.Opt operand
node_of (code.Name id) = flat.Name id
node_of code.Nothing = flat.Nothing

abbrev pub nodes_of : List declared.Node → List Node
nodes_of nodes = map node_of nodes
