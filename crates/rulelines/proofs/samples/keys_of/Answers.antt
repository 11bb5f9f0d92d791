use Rattle.std.proofs.lemmas.Option.{slice_get-get_or}
use Rattle.ruletable.specs.Letters.{has}
use Rattle.rulelines.proofs.SamplesLemmas.{keys_all, keys_next}
use Rattle.rulelines.proofs.samples.keys_of.Goals as goal

pub loop-bound-preserved : goal.loop-bound-preserved
loop-bound-preserved c =
    keys_next (has c.args.alphabet) c.args.bounds.now c.loop-bound.bound-index _ c.loop-bound.keys.items
    c.add_key.new.keys.items
    (slice_get-get_or c.args.bounds.now c.loop-bound.bound-index 0 c.loop-bound-test.true)
    c.in_ok-add_key.ensures c.loop-bound.invariant

pub returns : goal.returns
returns c =
    keys_all (has c.args.alphabet) c.args.bounds.now c.loop-bound.bound-index c.loop-bound.keys.items
    c.loop-bound-test.false c.loop-bound.invariant
