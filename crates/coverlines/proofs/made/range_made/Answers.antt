-- Both ways.
use Rattle.std.proofs.Common.{◌∙◌, ◌++◌, ap}
use Rattle.abnfread.specs.Element.{Range}
use Rattle.coverlines.specs.MadeWords.{made_of}
use Rattle.coverlines.specs.declared.way.GoalWay.TheVariants.{First, Last}
use Rattle.coverlines.proofs.MadeLemmas as m
use Rattle.coverlines.proofs.made.range_made.Goals as goal

pub returns : goal.returns
returns c = λ rules. m.two_made c.args.bounds rules (Range c.args.low c.args.high) First Last c.in_ok-first.first
    c.in_ok-last.last c.push_made.new.found.items c.push_made-2.new.found.items
    (m.range_ways c.args.bounds rules c.args.low c.args.high)
    (m.first_shortest c.args.bounds rules c.args.low c.args.high c.first_between.result c.in_ok-first.first
    c.first_between.ensures c.in_ok-first.ensures)
    (c.in_ok-push_made.ensures ∙ ap (λ xs. xs ++ made_of First c.in_ok-first.first) c.new-found.ensures.items)
    (m.last_shortest c.args.bounds rules c.args.low c.args.high c.last_between.result c.in_ok-last.last
    c.last_between.ensures c.in_ok-last.ensures) c.in_ok-push_made-2.ensures
