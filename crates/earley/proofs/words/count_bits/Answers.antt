-- Each word adds its bits.
use Rattle.std.proofs.Common.{◌+◌, ap, sym, ◌∙◌, arith, slice_index_or}
use Rattle.std.specs.Prelude.{count_ones}
use Rattle.std.specs.List.{sum_by}
use Rattle.std.proofs.lemmas.List.{take_all}
use Rattle.std.proofs.lemmas.List.Sums.{sum_by_more}
use Rattle.std.proofs.lemmas.Nat.{ones-le}
use Rattle.earley.proofs.words.count_bits.Goals as goal

pub overflow_add-count : goal.overflow_add-count
overflow_add-count c =
    let few = ones-le 64 (slice_index_or c.args.words.now c.loop-word.word-index 0)
    (c.type_inv.words c.loop-word.word-index).fits in
    let bound = c.loop-word.invariant.bound in
    let lt = c.loop-word-test.true in
    let short = c.requires in
    record { fits = omega (arith, few, bound, lt, short) }

pub loop-word-preserved : goal.loop-word-preserved
loop-word-preserved c =
    let few = ones-le 64 (slice_index_or c.args.words.now c.loop-word.word-index 0)
    (c.type_inv.words c.loop-word.word-index).fits in
    let bound = c.loop-word.invariant.bound in
    record {
      count = ap (λ v. v + count_ones (slice_index_or c.args.words.now c.loop-word.word-index 0))
          c.loop-word.invariant.count
          ∙ sym (sum_by_more count_ones c.args.words.now c.loop-word.word-index 0 c.loop-word-test.true);
      bound = omega (arith, few, bound);
    }

pub returns-clause-count : goal.returns-clause-count
returns-clause-count c = c.loop-word.invariant.count
    ∙ ap (λ v. sum_by count_ones v) (take_all c.loop-word.word-index c.args.words.now c.loop-word-test.false)

pub returns-clause-words : goal.returns-clause-words
returns-clause-words c n = (c.type_inv.words n).fits
