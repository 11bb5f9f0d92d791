-- The uses in one more member, and that of a name.
use Rattle.std.proofs.Common.{◌++◌, take, append_assoc}
use Rattle.gramcheck.specs.Uses.{names_in_all, names_in}
use Rattle.pegread.specs.PegViews.{patterns_of, pattern_of}
use Rattle.pegnodes.proofs.PatternOfLemmas.{pattern-Name}
use Rattle.gramcheck.proofs.UsesLemmas.{all-next}
use Rattle.gramcheck.proofs.uses.+using_names.Goals as goal

pub add_all_uses-loop-member-preserved : goal.add_all_uses-loop-member-preserved
add_all_uses-loop-member-preserved t c = λ seen uses.
    rw (
      all-next c.args.members.now c.loop-member.member-index c.member-item.result c.loop-member-test.true
          c.member-item.is,
      ← append_assoc seen (names_in_all (patterns_of (take c.loop-member.member-index c.args.members.now)))
          (names_in (pattern_of c.member-item.result)),
    )
    (c.in_ok-add_uses.ensures (seen ++ names_in_all
    (patterns_of (take c.loop-member.member-index c.args.members.now))) (c.loop-member.invariant seen uses))

pub add_uses-returns-in-Name : goal.add_uses-returns-in-Name
add_uses-returns-in-Name t c = rw (c.in-Name.is, pattern-Name) (rw c.deref.ensures.value at c.add_use.ensures)
