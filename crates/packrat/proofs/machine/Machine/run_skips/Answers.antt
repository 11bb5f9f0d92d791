use Rattle.std.proofs.Common.{refl, sym}
use Rattle.packrat.specs.LoopIterations.{iteration_of}
use Rattle.packrat.proofs.StandsLemmas as L
use Rattle.packrat.proofs.SkippedLemmas as K
use Rattle.packrat.proofs.machine.Machine.run_skips.Goals as goal

pub returns-in_ok-enter-in-Some-clause-stands : goal.returns-in_ok-enter-in-Some-clause-stands
returns-in_ok-enter-in-Some-clause-stands c = λ peg window more sound keyed some h root key fresh s.
    let same = c.in_ok-enter-in-Some.ensures.same in
    L.stands_as peg window more peg.keys refl refl (cc (sym same)) refl
    (sym c.counted_skips-self.ensures)
    (K.stands_skipped peg window more peg.keys some sound
    keyed.1.0 keyed.1.1 keyed.0 root c.args.task c.args.skips h c.args.self.now.frames
    c.args.self.now.log.stored c.args.self.now.events c.args.self.now.begun s c.args.key key fresh c.in-Some.entering
    c.in-Some.is c.wait_last.new.frames c.enter.new.frames (iteration_of c.in_ok-enter-in-Some.field-0)
    c.in_ok-wait_last-in-Some.ensures c.in_ok-enter-in-Some.ensures.entered)

pub returns-in_ok-enter-in-Some-clause-less : goal.returns-in_ok-enter-in-Some-clause-less
returns-in_ok-enter-in-Some-clause-less c = λ peg window more well h le.
    K.less_skipped peg window more peg.keys c.args.task c.args.skips h
    well c.args.self.now.frames c.args.self.now.begun c.counted_skips-self.result
    c.counted_skips-self.ensures le c.in-Some.entering c.in-Some.is c.args.key c.args.self.now.log.stored
    c.wait_last.new.frames c.enter.new.frames
    (iteration_of c.in_ok-enter-in-Some.field-0) c.in_ok-wait_last-in-Some.ensures
    c.in_ok-enter-in-Some.ensures.entered

pub returns-in_ok-close-in-None-clause-stands : goal.returns-in_ok-close-in-None-clause-stands
returns-in_ok-close-in-None-clause-stands c = λ peg window more sound keyed some h root key fresh s.
    L.stands_as peg window more peg.keys refl refl refl refl
    (sym c.counted_skips-self.ensures)
    (K.stands_none_left peg window more peg.keys some sound
    keyed.1.0 keyed.1.1 keyed.0 root c.args.task c.args.skips h c.args.self.now.frames
    c.args.self.now.log.stored c.args.self.now.events c.args.self.now.begun s c.args.key key fresh
    c.in-None.is c.close.new.log.stored
    (c.in_ok-close-in-None.ensures.closed peg window more peg.keys c.args.self.now.events key))

pub returns-in_ok-close-in-None-clause-less : goal.returns-in_ok-close-in-None-clause-less
returns-in_ok-close-in-None-clause-less c = λ peg window more well h le.
    K.less_failed peg window more peg.keys c.args.task c.args.skips h
    well c.args.self.now.frames c.args.self.now.begun c.counted_skips-self.result
    c.counted_skips-self.ensures le
