-- The one way.
use Rattle.std.proofs.Common.{◌≡◌, ◌∙◌, ◌++◌, ap}
use Rattle.coverlines.specs.MadeWords.{made_of}
use Rattle.coverlines.specs.declared.way.GoalWay.TheVariants.{Same}
use Rattle.coverlines.proofs.MadeLemmas as m
use Rattle.coverlines.proofs.WordsLemmas.{letters_has}
use Rattle.coverlines.proofs.made.values_made.Goals as goal

pub returns : goal.returns
returns c = λ rules.
    let same : c.in_ok-word.word.items ≡ c.args.values.now = c.in_ok-word.ensures.items in
    m.values_made c.args.bounds rules c.args.values.now c.admitted.result c.push_made.new.found.items
    (letters_has c.args.bounds) (rw same at c.admitted.ensures)
    (c.in_ok-push_made.ensures ∙ ap (λ xs. xs ++ made_of Same c.admitted.result) c.new-found.ensures.items)
