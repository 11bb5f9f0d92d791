-- The start rule's use, and then those in one more body.
use Rattle.std.proofs.Common.{[], take, append-nil, append_assoc}
use Rattle.std.specs.Prelude.{option_copied, option_to_list}
use Rattle.pegread.specs.PegViews.{rules_of, pattern_of}
use Rattle.gramcheck.specs.GrammarNotes.{start_of}
use Rattle.gramcheck.specs.Uses.{names_used, names_in}
use Rattle.gramcheck.proofs.UsesLemmas.{used-next, uses-none}
use Rattle.gramcheck.proofs.uses.uses_of.Goals as goal

pub loop-id-init : goal.loop-id-init
loop-id-init c =
    rw append-nil (c.in_ok-add_start.ensures [] (rw c.new.ensures.items
    (uses-none (rules_of c.args.rules.now) c.new-2.result c.new-2.ensures.names c.new-2.ensures.rules)))

pub loop-id-preserved : goal.loop-id-preserved
loop-id-preserved c =
    rw (
      used-next c.args.rules.now.rules c.loop-id.id c.body.result.now c.body.ensures,
      ← append_assoc (option_to_list (start_of (option_copied c.args.start) (rules_of c.args.rules.now)))
          (names_used (take c.loop-id.id (rules_of c.args.rules.now)))
          (names_in (pattern_of c.body.result.now)),
    )
    (c.in_ok-add_uses.ensures _ c.loop-id.invariant)
