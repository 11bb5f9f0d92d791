use Rattle.std.proofs.Common.{◌≡◌, subst, sym, ap, ◌∙◌, arith}
use Rattle.std.proofs.lemmas.Option.{slice_get-get_or}
use Rattle.std.specs.Prelude.{slice_get, Some}
use Rattle.lazydfa.proofs.IsPrunedLemmas.{ahead_fewer}
use Rattle.lazydfa.proofs.prune.is_ahead.Goals as goal

pub returns-in-Some : goal.returns-in-Some
returns-in-Some c = λ yes.
    let look = c.in-Some.ensures.lookup in
    let inside = look.0 in
    let node = c.in-Some.node.now in
    let rep = c.ends_at_both.ensures yes in
    ahead_fewer c.args.tables.now c.args.cont.node c.args.other.node c.args.cont.step c.args.other.step node
    c.if-cont-other.false
    (subst (λ v. slice_get v c.args.cont.node ≡ Some node) c.deref.ensures.value
    (slice_get-get_or c.deref.result.now c.args.cont.node node (grind (arith, inside))
    ∙ ap (λ v. Some v) (sym look.1))) rep.0 rep.1 rep.2 rep.3 rep.4 rep.5 rep.6
