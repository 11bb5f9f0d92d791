use Rattle.std.proofs.Common.{ℕ, ◌<◌, List, ◌∷◌, IfOk, sym, subst}
use Rattle.memo.specs.KeyLog.{row_of}
use Rattle.packrat.specs.LoopIterations.{Answer, iteration_of}
use Rattle.packrat.specs.Stands.{Stands}
use Rattle.packrat.specs.IterationsLeft.{left}
use Rattle.packrat.proofs.StandsLemmas as L
use Rattle.packrat.proofs.LeftLemmas as M
use Rattle.packrat.proofs.OnwardLemmas.{row_within}
use Rattle.packrat.proofs.TurnedLemmas.{stands_back}
use Rattle.packrat.proofs.machine.Machine.resume.Goals as goal

pub put_turned-requires : goal.put_turned-requires
put_turned-requires c =
    let w = c.requires.well in
    subst (λ v. row_of c.args.frame.task < v) (sym c.requires.rows)
    (row_within c.args.peg.now w.0 c.args.frame.task w.1)

pub close-requires : goal.close-requires
close-requires c =
    let w = c.requires.well in
    subst (λ v. row_of c.args.frame.task < v) (sym c.requires.rows)
    (row_within c.args.peg.now w.0 c.args.frame.task w.1)

pub returns-in-First-clause-stands : goal.returns-in-First-clause-stands
returns-in-First-clause-stands c = λ window more some root.
    subst (λ v. Stands c.args.peg.now window more c.args.peg.now.keys root (Answer c.args.given)
    (record { task = c.args.frame.task; key = c.args.frame.key; wait = v } ∷ c.args.self.now.frames)
    c.args.self.now.log.stored c.args.self.now.events c.args.self.now.begun → IfOk c.after_first.result (λ iteration.
    Stands c.args.peg.now window more c.args.peg.now.keys root (iteration_of iteration)
    c.after_first.new.self.frames c.after_first.new.self.log.stored c.after_first.new.self.events
    c.after_first.new.self.begun)) (sym c.in-First.is) (c.after_first.ensures.stands window more some root)

pub returns-in-First-clause-less : goal.returns-in-First-clause-less
returns-in-First-clause-less c = λ window more some root.
    subst (λ v. Stands c.args.peg.now window more c.args.peg.now.keys root (Answer c.args.given)
    (record { task = c.args.frame.task; key = c.args.frame.key; wait = v } ∷ c.args.self.now.frames)
    c.args.self.now.log.stored c.args.self.now.events c.args.self.now.begun → (bytes : List ℕ) →
    IfOk c.after_first.result (λ iteration. left c.args.peg.now bytes
    (iteration_of iteration) c.after_first.new.self.frames c.after_first.new.self.begun
    < left c.args.peg.now bytes (Answer c.args.given)
    (record { task = c.args.frame.task; key = c.args.frame.key; wait = v } ∷ c.args.self.now.frames)
    c.args.self.now.begun)) (sym c.in-First.is) (c.after_first.ensures.less window more some root)

pub returns-in_ok-close-in-Last-clause-stands : goal.returns-in_ok-close-in-Last-clause-stands
returns-in_ok-close-in-Last-clause-stands c = λ window more some root s.
    L.stands_last c.args.peg.now window more c.args.peg.now.keys root c.args.frame.task c.args.given
    c.args.self.now.frames c.args.self.now.log.stored c.args.self.now.events c.args.self.now.begun c.args.frame.key
    c.in-Last.first
    (subst (λ v. Stands c.args.peg.now window more c.args.peg.now.keys root (Answer c.args.given)
    (record { task = c.args.frame.task; key = c.args.frame.key; wait = v } ∷ c.args.self.now.frames)
    c.args.self.now.log.stored c.args.self.now.events c.args.self.now.begun) c.in-Last.is s)
    c.joined.new.events c.in_ok-all-in-Last.all c.close.new.log.stored c.in_ok-all-in-Last.ensures.grown
    c.in_ok-all-in-Last.ensures.joined
    (c.in_ok-close-in-Last.ensures.closed c.args.peg.now window more c.args.peg.now.keys c.joined.new.events)

pub returns-in_ok-close-in-Last-clause-less : goal.returns-in_ok-close-in-Last-clause-less
returns-in_ok-close-in-Last-clause-less c = λ window more some root s bytes.
    M.less_up c.args.peg.now bytes c.args.frame c.in_ok-all-in-Last.all c.args.given
    c.args.self.now.frames c.args.self.now.begun

pub returns-in_ok-put_turned-in-Turned-clause-stands : goal.returns-in_ok-put_turned-in-Turned-clause-stands
returns-in_ok-put_turned-in-Turned-clause-stands c = λ window more some root s.
    stands_back c.args.peg.now window more c.args.peg.now.keys c.requires.sound c.requires.keyed.1.0
    c.requires.keyed.1.1 c.requires.keyed.0 root c.args.frame.task c.args.given c.args.self.now.frames
    c.args.self.now.log.stored c.put_turned.new.log.stored c.args.self.now.events c.args.self.now.begun c.in-Turned.last
    c.args.frame.key
    (subst (λ v. Stands c.args.peg.now window more c.args.peg.now.keys root (Answer c.args.given)
    (record { task = c.args.frame.task; key = c.args.frame.key; wait = v } ∷ c.args.self.now.frames)
    c.args.self.now.log.stored c.args.self.now.events c.args.self.now.begun) c.in-Turned.is s)
    c.in_ok-put_turned-in-Turned.ensures.stored

pub returns-in_ok-put_turned-in-Turned-clause-less : goal.returns-in_ok-put_turned-in-Turned-clause-less
returns-in_ok-put_turned-in-Turned-clause-less c = λ window more some root s bytes.
    M.less_up c.args.peg.now bytes c.args.frame c.args.given c.args.given
    c.args.self.now.frames c.args.self.now.begun
