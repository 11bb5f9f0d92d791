-- A node is looked into from its members, and those one level below.
use Rattle.std.proofs.Common.{◌≡◌, ℕ, ◌+◌, ◌*◌, true, Some}
use Rattle.std.specs.Prelude.{slice_get}
use Rattle.pegnodes.specs.ByByte.{ByMembers, ByAlternatives}
use Rattle.pegnodes.specs.Decides.{mark_in, tail_in}
use Rattle.pegnodes.specs.Nodes.{Seq, Choice, shapes_of}
use Rattle.pegnodes.specs.declared.by_byte.ByteVerdict.{ByteVerdict}
use Rattle.pegnodes.specs.declared.by_byte.ByteVerdict.TheVariants.{Fails}
use Rattle.pegnodes.proofs.by_byte.+deciding.Given as goal

abbrev pub decreases-below : goal.decreases-below
decreases-below l = 3 * l.levels

abbrev pub decreases-by_members : goal.decreases-by_members
decreases-by_members l = 3 * l.levels + 1

abbrev pub decreases-by_alternatives : goal.decreases-by_alternatives
decreases-by_alternatives l = 3 * l.levels + 1

abbrev pub decreases-by_body : goal.decreases-by_body
decreases-by_body l = 3 * l.levels + 1

abbrev pub decreases-by_node : goal.decreases-by_node
decreases-by_node l = 3 * l.levels + 2

-- what the members from here on decide, with those so far, all decide; a failure if one so far leaves an event
abbrev pub invariant-by_members-loop-i : goal.invariant-by_members-loop-i
invariant-by_members-loop-i l = (n : ℕ) → slice_get (shapes_of l.grammar.nodes.now) n ≡ Some (Seq l.members) →
    (v : ByteVerdict) (d : ℕ) → (l.leaves ≡ true → v ≡ Fails) →
    ByMembers (shapes_of l.grammar.nodes.now) l.grammar.bodies.now (mark_in l.grammar) (tail_in l.grammar) l.b n
    l.members l.i v d →
    ByMembers (shapes_of l.grammar.nodes.now) l.grammar.bodies.now (mark_in l.grammar) (tail_in l.grammar) l.b n
    l.members 0 v (l.count + d)

abbrev pub invariant-by_alternatives-loop-i : goal.invariant-by_alternatives-loop-i
invariant-by_alternatives-loop-i l = (n : ℕ) → slice_get (shapes_of l.grammar.nodes.now) n
    ≡ Some (Choice l.alternatives) → (v : ByteVerdict) (d : ℕ) →
    ByAlternatives (shapes_of l.grammar.nodes.now) l.grammar.bodies.now (mark_in l.grammar) (tail_in l.grammar) l.b n
    l.alternatives l.i v d →
    ByAlternatives (shapes_of l.grammar.nodes.now) l.grammar.bodies.now (mark_in l.grammar) (tail_in l.grammar) l.b n
    l.alternatives 0 v (l.count + d)
