-- The ways of each kind of element.
use Rattle.std.proofs.Common.{◌≡◌, ◌∙◌, List, [], ◌∷◌, ap, arith, length, refl}
use Rattle.std.proofs.lemmas.Result.{IfOk-weaker}
use Rattle.abnfread.specs.AbnfViews.{elements_of}
use Rattle.abnfread.specs.declared.elem.Elem.{Elem}
use Rattle.abnfread.proofs.ElementLemmas.{element-Alt}
use Rattle.coverlines.specs.MissedGoals.{chosen_below, alternative_count}
use Rattle.coverlines.proofs.ways.goal_ways.Goals as goal

counted : (es : List Elem) → length es ≡ alternative_count (elements_of es)
counted [] = refl
counted (e ∷ es) = let h = counted es in omega (arith, h)

pub returns-in-Alt : goal.returns-in-Alt
returns-in-Alt c =
    let n = counted c.in-Alt.alternatives.items in
    let same : c.len.result ≡ alternative_count (elements_of c.in-Alt.alternatives.items) =
    omega (arith, n, c.len.ensures, c.in-Alt.alternatives.ok.0) in
    IfOk-weaker c.chosen_ways.result _ _ (λ ways is. rw (c.in-Alt.is, element-Alt) (is ∙ ap chosen_below same))
    c.chosen_ways.ensures
