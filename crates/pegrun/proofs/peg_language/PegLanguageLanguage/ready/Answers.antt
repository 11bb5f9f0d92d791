-- The grammar that is ready has the rules and the start rule of the one that was checked.
use Rattle.std.proofs.Common.{Ok}
use Rattle.pegrun.proofs.OpenPegLemmas.{is_ready}
use Rattle.pegrun.proofs.peg_language.PegLanguageLanguage.ready.Goals as goal

pub returns : goal.returns
returns c = is_ready c.args.rules c.args.judged (Ok c.in_ok-grammar.grammar) c.in_ok-grammar.ensures.rules
    c.in_ok-grammar.ensures.start c.in_ok-grammar.ensures.sound
