use Rattle.std.proofs.Common.{◌<◌, ◌∷◌, refl, subst, sym}
use Rattle.memo.specs.KeyLog.{row_of}
use Rattle.memo.specs.declared.task.MatchTask.TheVariants.{Eval}
use Rattle.packrat.specs.LoopIterations.{Ask, Answer, iteration_of}
use Rattle.packrat.specs.declared.frames.Wait.TheVariants.{First}
use Rattle.packrat.proofs.StandsLemmas as L
use Rattle.packrat.proofs.LeftLemmas as M
use Rattle.packrat.proofs.OnwardLemmas.{row_within}
use Rattle.packrat.proofs.machine.Machine.after_first.Goals as goal

pub close-requires : goal.close-requires
close-requires c =
    let w = c.requires.well in
    subst (λ v. row_of c.args.task < v) (sym c.requires.rows) (row_within c.args.peg.now w.0 c.args.task w.1)

pub close-requires-in-Same : goal.close-requires-in-Same
close-requires-in-Same c =
    let w = c.requires.well in
    subst (λ v. row_of c.args.task < v) (sym c.requires.rows) (row_within c.args.peg.now w.0 c.args.task w.1)

pub returns-in_ok-close-in-Gives-clause-stands : goal.returns-in_ok-close-in-Gives-clause-stands
returns-in_ok-close-in-Gives-clause-stands c = λ window more some root s.
    let well = L.level_well c.args.peg.now window more c.args.peg.now.keys root
    (record { task = c.args.task; key = c.args.key; wait = First }) c.args.given c.args.self.now.frames
    c.args.self.now.log.stored c.args.self.now.events c.args.self.now.begun s in
    L.stands_up c.args.peg.now window more c.args.peg.now.keys root c.args.task c.args.given
    c.args.self.now.frames c.args.self.now.log.stored c.args.self.now.events c.args.self.now.begun c.args.key s
    c.in-Gives.found c.close.new.log.stored (c.in-Gives.ensures window more well some)
    (c.in_ok-close-in-Gives.ensures.closed c.args.peg.now window more c.args.peg.now.keys c.args.self.now.events)

pub returns-in_ok-close-in-Gives-clause-less : goal.returns-in_ok-close-in-Gives-clause-less
returns-in_ok-close-in-Gives-clause-less c = λ window more some root s bytes.
    M.less_up c.args.peg.now bytes (record { task = c.args.task; key = c.args.key; wait = First })
    (record { found = c.in-Gives.found; events = 0 }) c.args.given c.args.self.now.frames c.args.self.now.begun

pub returns-in_ok-close-in-Same-clause-stands : goal.returns-in_ok-close-in-Same-clause-stands
returns-in_ok-close-in-Same-clause-stands c = λ window more some root s.
    let well = L.level_well c.args.peg.now window more c.args.peg.now.keys root
    (record { task = c.args.task; key = c.args.key; wait = First }) c.args.given c.args.self.now.frames
    c.args.self.now.log.stored c.args.self.now.events c.args.self.now.begun s in
    L.stands_same c.args.peg.now window more c.args.peg.now.keys root c.args.task c.args.given
    c.args.self.now.frames c.args.self.now.log.stored c.args.self.now.events c.args.self.now.begun c.args.key s
    c.close-in-Same.new.log.stored (c.in-Same.ensures window more well some)
    (c.in_ok-close-in-Same.ensures.closed c.args.peg.now window more c.args.peg.now.keys c.args.self.now.events)

pub returns-in_ok-close-in-Same-clause-less : goal.returns-in_ok-close-in-Same-clause-less
returns-in_ok-close-in-Same-clause-less c = λ window more some root s bytes.
    M.less_up c.args.peg.now bytes (record { task = c.args.task; key = c.args.key; wait = First })
    c.args.given c.args.given c.args.self.now.frames c.args.self.now.begun

pub returns-in_ok-wait_last-in-Passes-clause-stands : goal.returns-in_ok-wait_last-in-Passes-clause-stands
returns-in_ok-wait_last-in-Passes-clause-stands c = λ window more some root s.
    let well = L.level_well c.args.peg.now window more c.args.peg.now.keys root
    (record { task = c.args.task; key = c.args.key; wait = First }) c.args.given c.args.self.now.frames
    c.args.self.now.log.stored c.args.self.now.events c.args.self.now.begun s in
    L.stands_on c.args.peg.now window more c.args.peg.now.keys root c.args.task c.args.given
    c.args.self.now.frames c.args.self.now.log.stored c.args.self.now.events c.args.self.now.begun c.args.key s
    (Eval c.in-Passes.node c.in-Passes.position) c.wait_last.new.frames (c.in-Passes.ensures window more well some)
    c.in_ok-wait_last-in-Passes.ensures

pub returns-in_ok-wait_last-in-Passes-clause-less : goal.returns-in_ok-wait_last-in-Passes-clause-less
returns-in_ok-wait_last-in-Passes-clause-less c = λ window more some root s bytes.
    let well = L.level_well c.args.peg.now window more c.args.peg.now.keys root
    (record { task = c.args.task; key = c.args.key; wait = First }) c.args.given c.args.self.now.frames
    c.args.self.now.log.stored c.args.self.now.events c.args.self.now.begun s in
    M.less_anywhere c.args.peg.now window bytes (Ask (Eval c.in-Passes.node c.in-Passes.position)) (Answer c.args.given)
    c.wait_last.new.frames (record { task = c.args.task; key = c.args.key; wait = First } ∷ c.args.self.now.frames)
    c.args.self.now.begun
    (M.less_on c.args.peg.now window c.args.task
    (L.first_kid c.args.peg.now window more c.args.peg.now.keys root c.args.task c.args.given
    c.args.self.now.frames c.args.self.now.log.stored c.args.self.now.events c.args.self.now.begun c.args.key s)
    (Eval c.in-Passes.node c.in-Passes.position) c.args.given c.args.key c.args.given.events c.args.self.now.frames
    c.wait_last.new.frames
    c.args.self.now.begun
    (L.second_kid c.args.peg.now window more c.args.peg.now.keys root c.args.task c.args.given
    c.args.self.now.frames c.args.self.now.log.stored c.args.self.now.events c.args.self.now.begun c.args.key s
    (Eval c.in-Passes.node c.in-Passes.position) (c.in-Passes.ensures window more well some))
    c.in_ok-wait_last-in-Passes.ensures)

pub returns-in_ok-enter-in-Enters-clause-stands : goal.returns-in_ok-enter-in-Enters-clause-stands
returns-in_ok-enter-in-Enters-clause-stands c = λ window more some root s.
    let well = L.level_well c.args.peg.now window more c.args.peg.now.keys root
    (record { task = c.args.task; key = c.args.key; wait = First }) c.args.given c.args.self.now.frames
    c.args.self.now.log.stored c.args.self.now.events c.args.self.now.begun s in
    let same = c.in_ok-enter-in-Enters.ensures.same in
    L.stands_as c.args.peg.now window more c.args.peg.now.keys refl refl (cc (sym same)) refl refl
    (L.stands_into c.args.peg.now window more c.args.peg.now.keys root c.args.task c.args.given
    c.args.self.now.frames c.args.self.now.log.stored c.args.self.now.events c.args.self.now.begun c.args.key s
    c.in-Enters.entering c.wait_last-in-Enters.new.frames c.enter.new.frames
    (iteration_of c.in_ok-enter-in-Enters.field-0)
    (L.tail_marked c.args.peg.now window more c.args.peg.now.keys root c.args.task c.args.given
    c.args.self.now.frames c.args.self.now.log.stored c.args.self.now.events c.args.self.now.begun c.args.key s
    c.in-Enters.entering (c.in-Enters.ensures window more well some)) (c.in-Enters.ensures window more well some)
    c.in_ok-wait_last-in-Enters.ensures c.in_ok-enter-in-Enters.ensures.entered)

pub returns-in_ok-enter-in-Enters-clause-less : goal.returns-in_ok-enter-in-Enters-clause-less
returns-in_ok-enter-in-Enters-clause-less c = λ window more some root s bytes.
    let well = L.level_well c.args.peg.now window more c.args.peg.now.keys root
    (record { task = c.args.task; key = c.args.key; wait = First }) c.args.given c.args.self.now.frames
    c.args.self.now.log.stored c.args.self.now.events c.args.self.now.begun s in
    M.less_anywhere c.args.peg.now window bytes (iteration_of c.in_ok-enter-in-Enters.field-0) (Answer c.args.given)
    c.enter.new.frames (record { task = c.args.task; key = c.args.key; wait = First } ∷ c.args.self.now.frames)
    c.args.self.now.begun
    (M.less_on_in c.args.peg.now window c.args.self.now.log.stored c.args.task
    (L.first_kid c.args.peg.now window more c.args.peg.now.keys root c.args.task c.args.given
    c.args.self.now.frames c.args.self.now.log.stored c.args.self.now.events c.args.self.now.begun c.args.key s)
    (iteration_of c.in_ok-enter-in-Enters.field-0) c.in-Enters.entering c.args.given c.args.key c.args.given.events
    c.args.self.now.frames c.wait_last-in-Enters.new.frames c.enter.new.frames c.args.self.now.begun
    (L.second_tail c.args.peg.now window more c.args.peg.now.keys root c.args.task c.args.given
    c.args.self.now.frames c.args.self.now.log.stored c.args.self.now.events c.args.self.now.begun c.args.key s
    c.in-Enters.entering (c.in-Enters.ensures window more well some))
    (L.tail_well c.args.peg.now window more c.args.peg.now.keys root c.args.task c.args.given
    c.args.self.now.frames c.args.self.now.log.stored c.args.self.now.events c.args.self.now.begun c.args.key s
    c.in-Enters.entering (c.in-Enters.ensures window more well some))
    c.in_ok-wait_last-in-Enters.ensures c.in_ok-enter-in-Enters.ensures.entered)
