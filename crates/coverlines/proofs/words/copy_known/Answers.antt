-- The list stands at the rule's site.
use Rattle.std.proofs.Common.{◌∙◌}
use Rattle.coverlines.proofs.WordsLemmas.{known_index}
use Rattle.coverlines.proofs.words.copy_known.Goals as goal

pub returns-in_ok-from_slice-in-Some : goal.returns-in_ok-from_slice-in-Some
returns-in_ok-from_slice-in-Some c = rw (known_index c.args.known.now c.args.id c.index-known-id.result c.requires
    c.index-known-id.is ∙ c.in-Some.is) (c.in_ok-from_slice-in-Some.ensures.items ∙ c.deref.ensures.value)

pub returns-in-None : goal.returns-in-None
returns-in-None c = rw (known_index c.args.known.now c.args.id c.index-known-id.result c.requires
    c.index-known-id.is ∙ c.in-None.is) tt
