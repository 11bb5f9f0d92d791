use Rattle.std.proofs.Common.{◌++◌, ◌∙◌, ap}
use Rattle.rulelines.proofs.list.search.line_of.Goals as goal

pub returns : goal.returns
returns c = λ s is.
    let f = c.in_ok-fill_word.ensures c.if-not-branch.false s is in
    (f.0, f.1, f.2 ∙ ap (λ v. v ++ f.0) c.new-word.ensures.items)
