use Rattle.std.proofs.Common.{◌∙◌, ap, sym, arith}
use Rattle.std.specs.Prelude.{Some}
use Rattle.std.proofs.lemmas.Option.{slice_get-get_or}
use Rattle.rulelines.proofs.OldAloneLemmas.{leads_all, leads_more}
use Rattle.rulelines.proofs.alone.word_of.Goals as goal

pub returns-then-at-eq0 : goal.returns-then-at-eq0
returns-then-at-eq0 c =
    leads_all c.args.pairs.now c.args.index c.loop.at c.loop.word.items c.reverse.new.self.items c.if-at-eq0.true
    c.reverse.ensures.items c.loop.invariant

pub loop-preserved : goal.loop-preserved
loop-preserved c =
    leads_more c.args.pairs.now c.args.index c.loop.at c.in-Some.pair.now c.loop.word.items c.push.new.self.items
    (slice_get-get_or c.args.pairs.now c.loop.at c.in-Some.pair.now
    (let t = c.in-Some.ensures.lookup.0 in grind (arith, t)) ∙ ap (λ v. Some v) (sym c.in-Some.ensures.lookup.1))
    (let below = c.if-pair-at.false in omega (arith, below)) c.in_ok-push.ensures.items c.loop.invariant
