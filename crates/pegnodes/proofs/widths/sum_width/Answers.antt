use Rattle.std.proofs.Common.{◌≡◌, ◌+◌, take, sym, subst}
use Rattle.std.proofs.lemmas.List.{take_all}
use Rattle.pegnodes.specs.Width.{WidthSum, sum_none}
use Rattle.pegnodes.proofs.WidthsLemmas as o
use Rattle.pegnodes.proofs.widths.sum_width.Goals as goal

pub loop-member-init : goal.loop-member-init
loop-member-init c = λ nodes bodies are. sum_none

pub loop-member-preserved : goal.loop-member-preserved
loop-member-preserved c = λ nodes bodies are.
    let sum : c.in_ok-sum.sum ≡ c.loop-member.sum + c.in_ok-width.width = c.in_ok-sum.ensures.1 in
    subst (WidthSum nodes bodies (take (c.loop-member.member-index + 1) c.args.members.now)) (sym sum)
    (o.sum_next nodes bodies c.args.members.now c.loop-member.member-index _ _ c.loop-member-test.true
    (c.loop-member.invariant nodes bodies are) (are _ _ (sym c.in_ok-width.ensures)))

pub returns : goal.returns
returns c = λ nodes bodies are.
    let all : take c.loop-member.member-index c.args.members.now ≡ c.args.members.now =
    take_all c.loop-member.member-index c.args.members.now c.loop-member-test.false in
    subst (λ v. WidthSum nodes bodies v c.loop-member.sum) all (c.loop-member.invariant nodes bodies are)
