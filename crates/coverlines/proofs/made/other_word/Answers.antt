-- A text that folds.
use Rattle.std.proofs.Common.{◌≡◌, map}
use Rattle.coverlines.specs.Goals.{swapped_case}
use Rattle.coverlines.proofs.MadeLemmas.{other_text_shortest}
use Rattle.coverlines.proofs.made.other_word.Goals as goal

pub returns : goal.returns
returns c = λ rules.
    let same : c.in_ok-word.word.items ≡ map swapped_case c.args.text.now = c.in_ok-word.ensures in
    rw c.if-not-folds.false (other_text_shortest c.args.bounds rules c.args.text.now c.admitted.result
    (rw same at c.admitted.ensures))
