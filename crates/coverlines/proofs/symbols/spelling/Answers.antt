-- A symbol more.
use Rattle.abnfcheck.specs.Derivable.{end}
use Rattle.coverlines.proofs.WordsLemmas.{next_best, next_spelled}
use Rattle.coverlines.proofs.symbols.spelling.Goals as goal

pub loop-byte-init : goal.loop-byte-init
loop-byte-init c = rw c.new-word.ensures.items (record { spelled = end; best = λ w s a. tt })

pub loop-byte-preserved : goal.loop-byte-preserved
loop-byte-preserved c = record {
  spelled = next_spelled c.args.folds c.args.text.now c.loop-byte.byte-index c.loop-byte.word.items
      c.push.new.self.items c.spelled_symbol.result c.loop-byte-test.true c.loop-byte.invariant.spelled
      c.spelled_symbol.ensures.stands c.in_ok-push.ensures.items;
  best = next_best c.args.bounds c.args.folds c.args.text.now c.loop-byte.byte-index c.loop-byte.word.items
      c.push.new.self.items c.spelled_symbol.result c.loop-byte-test.true c.loop-byte.invariant.best
      c.spelled_symbol.ensures.best c.in_ok-push.ensures.items;
}
