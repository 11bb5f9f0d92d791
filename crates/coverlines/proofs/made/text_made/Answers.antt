-- Both ways.
use Rattle.std.proofs.Common.{◌≡◌, ◌∙◌, ◌++◌, ap}
use Rattle.coverlines.specs.MadeWords.{made_of}
use Rattle.coverlines.specs.declared.way.GoalWay.TheVariants.{Same}
use Rattle.coverlines.proofs.MadeLemmas as m
use Rattle.coverlines.proofs.made.text_made.Goals as goal

pub returns : goal.returns
returns c = λ rules.
    let same : c.in_ok-same.same.items ≡ c.args.text.now = c.in_ok-same.ensures in
    m.text_made c.args.bounds rules c.args.folds c.args.text.now c.admitted.result c.in_ok-other.other
    c.push_made.new.found.items c.push_made-2.new.found.items (rw same at c.admitted.ensures)
    (c.in_ok-push_made.ensures ∙ ap (λ xs. xs ++ made_of Same c.admitted.result) c.new-found.ensures.items)
    (c.in_ok-other.ensures rules) c.in_ok-push_made-2.ensures
