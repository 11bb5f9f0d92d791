-- Derivation and UTF-8 are decided, and a longest viable prefix is found.
use Rattle.abnfrun.proofs.IsAnswerToLemmas.{line_answered}
use Rattle.abnfrun.proofs.line_judge.lines_have_answers.Goals as goal

pub returns : goal.returns
returns c = line_answered c.derivation_is_decided.ensures c.furthest_is_found.ensures.found
    c.utf8_is_decided.ensures.decided c.utf8_is_decided.ensures.one
