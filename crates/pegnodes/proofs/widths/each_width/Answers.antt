use Rattle.std.proofs.Common.{◌≡◌, ◌∙◌, take, Some, sym, subst, ap}
use Rattle.std.proofs.lemmas.List.{take_all}
use Rattle.pegnodes.specs.Width.{WidthEach, each_none}
use Rattle.pegnodes.proofs.WidthsLemmas as o
use Rattle.pegnodes.proofs.widths.each_width.Goals as goal

pub loop-alternative-init : goal.loop-alternative-init
loop-alternative-init c = λ nodes bodies are. each_none

pub loop-alternative-preserved : goal.loop-alternative-preserved
loop-alternative-preserved c = λ nodes bodies are.
    o.each_next nodes bodies c.args.alternatives.now c.loop-alternative.alternative-index _ c.loop-alternative-test.true
    (c.loop-alternative.invariant nodes bodies are)
    (are _ _ (sym c.in_ok-width_of.ensures ∙ ap Some c.if-branch-width.false))

pub returns : goal.returns
returns c = λ nodes bodies are.
    let all : take c.loop-alternative.alternative-index c.args.alternatives.now ≡ c.args.alternatives.now =
    take_all c.loop-alternative.alternative-index c.args.alternatives.now c.loop-alternative-test.false in
    subst (λ v. WidthEach nodes bodies v c.in_ok-width.width) all (c.loop-alternative.invariant nodes bodies are)
