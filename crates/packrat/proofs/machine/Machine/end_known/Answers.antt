use Rattle.std.proofs.Common.{refl, sym}
use Rattle.packrat.proofs.StandsLemmas as L
use Rattle.packrat.proofs.SkippedLemmas as K
use Rattle.packrat.proofs.machine.Machine.end_known.Goals as goal

pub returns-clause-stands : goal.returns-clause-stands
returns-clause-stands c = λ peg window more sound keyed some h root key fresh s.
    L.stands_as peg window more peg.keys refl refl refl refl
    (sym c.counted_known-self.ensures)
    (K.stands_known peg window more peg.keys some sound
    keyed.1.0 keyed.1.1 keyed.0 root c.args.task c.args.known h c.args.self.now.frames
    c.args.self.now.log.stored c.close.new.log.stored c.args.self.now.events c.args.self.now.begun s c.args.key key
    fresh (c.in_ok-close.ensures.closed peg window more peg.keys c.args.self.now.events key))

pub returns-clause-less : goal.returns-clause-less
returns-clause-less c = λ peg window more sound well h le.
    K.less_known peg window more peg.keys sound c.args.task c.args.known h
    well (record { found = c.args.known.found; events = 0 }) c.args.self.now.frames c.args.self.now.begun
    c.counted_known-self.result c.counted_known-self.ensures le
