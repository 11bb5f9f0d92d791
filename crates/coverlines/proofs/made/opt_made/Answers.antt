-- Both ways.
use Rattle.std.proofs.Common.{◌∙◌, ◌++◌, Some, ap}
use Rattle.abnfread.specs.AbnfViews.{element_of}
use Rattle.abnfread.specs.Element.{Opt}
use Rattle.coverlines.specs.MadeWords.{made_of}
use Rattle.coverlines.specs.declared.way.GoalWay.TheVariants.{LeftOut, Taken}
use Rattle.coverlines.proofs.MadeLemmas as m
use Rattle.coverlines.proofs.made.opt_made.Goals as goal

pub returns : goal.returns
returns c = λ rules known. m.two_made c.args.words.now.bounds rules (Opt (element_of c.args.operand.now)) Taken LeftOut
    c.in_ok-word.word (Some c.new.result) c.push_made.new.found.items c.push_made-2.new.found.items
    (m.opt_ways c.args.words.now.bounds rules (element_of c.args.operand.now))
    (m.taken_shortest c.args.words.now.bounds rules (element_of c.args.operand.now) c.in_ok-word.word
    (c.in_ok-word.ensures rules known))
    (c.in_ok-push_made.ensures ∙ ap (λ xs. xs ++ made_of Taken c.in_ok-word.word) c.new-found.ensures.items)
    (m.left_shortest c.args.words.now.bounds rules (element_of c.args.operand.now) c.new.result c.new.ensures.items)
    c.in_ok-push_made-2.ensures
