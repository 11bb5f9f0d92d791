-- The three numbers of rounds.
use Rattle.std.proofs.Common.{◌∙◌, ◌++◌, ap, subst, sym}
use Rattle.abnfread.specs.AbnfViews.{element_of}
use Rattle.abnfread.specs.Element.{Rep}
use Rattle.coverlines.specs.Goals.{IsRoundGoal}
use Rattle.coverlines.specs.MadeWords.{MakesSo, made_of}
use Rattle.coverlines.specs.Shortest.{IsShortest}
use Rattle.coverlines.specs.declared.way.GoalWay.TheVariants.{Rounds}
use Rattle.coverlines.proofs.MadeLemmas as m
use Rattle.coverlines.proofs.made.rep_made.Goals as goal

pub returns : goal.returns
returns c = λ rules known. m.all_rounds c.args.words.now.bounds rules c.args.least c.args.most
    (element_of c.args.operand.now) c.last_round-last.result c.single_round-single.result c.last_round-last.ensures
    c.single_round-single.ensures c.in_ok-fewest.fewest c.in_ok-many.many c.in_ok-one.one c.push_made.new.found.items
    c.push_made-2.new.found.items c.push_made-3.new.found.items
    (subst (λ k. IsShortest (MakesSo c.args.words.now.bounds rules (Rep c.args.least c.args.most
    (element_of c.args.operand.now)) (Rounds k)) c.args.words.now.bounds.limit c.in_ok-fewest.fewest) c.from.ensures
    (c.in_ok-fewest.ensures rules known (subst (IsRoundGoal c.args.least c.args.most) (sym c.from.ensures)
    (m.first_goal c.args.words.now.bounds rules c.args.least c.args.most))))
    (c.in_ok-push_made.ensures ∙ ap (λ xs. xs ++ made_of (Rounds c.from-2.result) c.in_ok-fewest.fewest)
    c.new-found.ensures.items ∙ ap (λ k. made_of (Rounds k) c.in_ok-fewest.fewest) c.from-2.ensures)
    (c.in_ok-many.ensures rules known (m.last_goal c.args.words.now.bounds rules c.args.least c.args.most
    c.last_round-last.result c.last_round-last.ensures))
    c.in_ok-push_made-2.ensures
    (c.in_ok-one.ensures rules known (m.single_goal c.args.words.now.bounds rules c.args.least c.args.most
    c.single_round-single.result c.single_round-single.ensures))
    c.in_ok-push_made-3.ensures
