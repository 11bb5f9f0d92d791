-- The need of one more rule, and that of the terminals.
use Rattle.std.proofs.Common.{◌++◌, ◌∷◌, [], ap, arith, map, sym}
use Rattle.std.proofs.lemmas.List.{length-map, map-append, take_all}
use Rattle.fixpoint.specs.Demands.{All, One}
use Rattle.abnfread.specs.AbnfViews.{element_of, rule_of, rules_of}
use Rattle.lowering.specs.MoreMarks.{sources}
use Rattle.lowering.proofs.FlatCutLemmas.{body_at}
use Rattle.lowering.proofs.MoreMarksLemmas.{needs_next}
use Rattle.lowering.proofs.sources.source_needs.Goals as goal

pub loop-id-preserved : goal.loop-id-preserved
loop-id-preserved c =
    rw (c.in_ok-push.ensures.items, map-append, c.loop-id.invariant, c.in_ok-row.ensures)
    (sym (needs_next (sources (rules_of c.args.rules.now)) (rules_of c.args.rules.now) c.loop-id.id
    (element_of c.body.result.now) (body_at c.args.rules.now.rules c.loop-id.id c.body.result.now c.body.ensures)))

pub returns : goal.returns
returns c =
    rw (c.in_ok-push-2.ensures.items, map-append, c.loop-id.invariant, c.new.ensures.items)
    (ap (λ l. map (λ rule. One (sources (rules_of c.args.rules.now) rule.body)) l ++ All [] ∷ [])
    (take_all c.loop-id.id (rules_of c.args.rules.now)
    (let past = c.loop-id-test.false in let n = c.len-id-end.ensures.len in
    let l = length-map c.args.rules.now.rules rule_of in omega (arith, past, n, l))))
