use Rattle.std.proofs.Common.{◌≡◌, List, ℕ, map, subst, sym}
use Rattle.std.proofs.lemmas.Result.{IfOk-weaker}
use Rattle.ruletable.specs.Letters.{has}
use Rattle.rulelines.specs.Samples.{AreCommonBounds, AreInLineOrder, symbol_of}
use Rattle.rulelines.specs.StatePairs.{AreSamples}
use Rattle.rulelines.proofs.SamplesLemmas.{samples_are}
use Rattle.rulelines.proofs.samples.common_samples.Goals as goal

both : (c : goal.After-drop-bounds-2) (samples : List ℕ) → samples ≡ map symbol_of c.deref-2.result.now
    → AreSamples c.args.old.now c.args.new.now (has c.args.alphabet) samples
    × AreInLineOrder (has c.args.alphabet) samples
both c samples is =
    samples_are c.args.alphabet c.args.old.now c.args.new.now c.deref.result.now c.in_ok-keys.keys.items
    c.sort_unstable.new.self.items c.dedup.new.self.items samples
    (subst (λ v. AreCommonBounds c.args.old.now c.args.new.now v) (sym c.deref.ensures.value) c.in_ok-bounds.ensures)
    c.in_ok-keys.ensures c.sort_unstable.ensures.permutation c.sort_unstable.ensures.sorted c.dedup.ensures.filtered
    (subst (λ v. samples ≡ map symbol_of v) c.deref-2.ensures.value is)

pub returns-clause-each : goal.returns-clause-each
returns-clause-each c = IfOk-weaker c.symbols_of.result _ _ (λ samples is. (both c samples.items is).0)
    c.symbols_of.ensures

pub returns-clause-order : goal.returns-clause-order
returns-clause-order c = IfOk-weaker c.symbols_of.result _ _ (λ samples is. (both c samples.items is).1)
    c.symbols_of.ensures
