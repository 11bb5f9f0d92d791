use Rattle.pegnodes.proofs.FilledBlanksLemmas.{trimmed_is}
use Rattle.pegmatch.proofs.escapes.trimmed_text.Goals as goal

pub returns : goal.returns
returns c = trimmed_is c.args.text.now _ _ c.without_front.ensures c.without_end.ensures
