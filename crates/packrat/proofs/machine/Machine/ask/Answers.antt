use Rattle.std.proofs.Common.{◌≡◌, ℕ, ◌+◌, ◌<◌, true, List, length, refl, sym, subst, ap, arith, ◌∙◌}
use Rattle.gramcheck.specs.Grammar.{Grammar}
use Rattle.memo.specs.KeyLog.{tasks_of}
use Rattle.memo.specs.Parts.{IsIn}
use Rattle.packrat.specs.IterationsLeft.{left}
use Rattle.packrat.specs.LoopIterations.{Ask, iteration_of}
use Rattle.packrat.specs.Stands.{NeedsMore, key_of}
use Rattle.packrat.specs.View.{weight}
use Rattle.std.proofs.lemmas.Option.{slice_get_within}
use Rattle.packrat.specs.Onward.{IsWell}
use Rattle.packrat.proofs.StandsLemmas as L
use Rattle.packrat.proofs.LeftLemmas as M
use Rattle.packrat.proofs.OnwardLemmas.{row_within}
use Rattle.memo.specs.declared.task.MatchTask.TheVariants.{Eval}
use Rattle.packrat.proofs.machine.Machine.ask.Goals as goal

-- the log has a row of the node that is asked for
asked_row : (g : Grammar) (x : List ℕ) (n p rows : ℕ) → rows ≡ length g.nodes → IsWell g x (Eval n p) → n < rows
asked_row g x n p rows is well = subst (λ v. n < v) (sym is) (row_within g x (Eval n p) well)

pub start_task-requires-clause-row : goal.start_task-requires-clause-row
start_task-requires-clause-row c =
    asked_row c.args.peg.now c.args.window.now c.args.node c.args.position c.stored_node.new.log.rows
    (ap (λ v. v.rows) c.in_ok-given.ensures.same ∙ c.requires.rows) c.requires.well

pub start_task-requires-in-Marks-clause-row : goal.start_task-requires-in-Marks-clause-row
start_task-requires-in-Marks-clause-row c =
    asked_row c.args.peg.now c.args.window.now c.args.node c.args.position c.stored_node.new.log.rows
    (ap (λ v. v.rows) c.in_ok-given.ensures.same ∙ c.requires.rows) c.requires.well

pub start_task-requires-in-Leads-clause-row : goal.start_task-requires-in-Leads-clause-row
start_task-requires-in-Leads-clause-row c =
    asked_row c.args.peg.now c.args.window.now c.args.node c.args.position c.stored_node.new.log.rows
    (ap (λ v. v.rows) c.in_ok-given.ensures.same ∙ c.requires.rows) c.requires.well

pub start_task-requires-in-Passes-clause-row : goal.start_task-requires-in-Passes-clause-row
start_task-requires-in-Passes-clause-row c =
    asked_row c.args.peg.now c.args.window.now c.args.node c.args.position c.stored_node.new.log.rows
    (ap (λ v. v.rows) c.in_ok-given.ensures.same ∙ c.requires.rows) c.requires.well

pub start_task-requires-in-Enters-clause-row : goal.start_task-requires-in-Enters-clause-row
start_task-requires-in-Enters-clause-row c =
    asked_row c.args.peg.now c.args.window.now c.args.node c.args.position c.stored_node.new.log.rows
    (ap (λ v. v.rows) c.in_ok-given.ensures.same ∙ c.requires.rows) c.requires.well

pub end_known-requires-clause-row : goal.end_known-requires-clause-row
end_known-requires-clause-row c =
    asked_row c.args.peg.now c.args.window.now c.args.node c.args.position c.stored_node.new.log.rows
    (ap (λ v. v.rows) c.in_ok-given.ensures.same ∙ c.requires.rows) c.requires.well

pub run_skips-requires-clause-row : goal.run_skips-requires-clause-row
run_skips-requires-clause-row c =
    asked_row c.args.peg.now c.args.window.now c.args.node c.args.position c.stored_node.new.log.rows
    (ap (λ v. v.rows) c.in_ok-given.ensures.same ∙ c.requires.rows) c.requires.well

pub returns-in-Some-clause-stands : goal.returns-in-Some-clause-stands
returns-in-Some-clause-stands c = λ root s.
    let same = c.in_ok-given.ensures.same in
    let some = rw c.in-Some.is at c.in_ok-given.ensures.some in
    L.stands_as c.args.peg.now c.args.window.now c.args.more c.args.peg.now.keys refl refl (cc same) refl refl
    (L.stands_stored c.args.peg.now c.args.window.now c.args.more c.args.peg.now.keys root
    (Eval c.args.node c.args.position) c.args.self.now.frames c.args.self.now.log.stored c.args.self.now.events
    c.args.self.now.begun s c.in-Some.given (cc (c.is_key_node-key.ensures, some.0)) some.1)

pub returns-in-Some-clause-less : goal.returns-in-Some-clause-less
returns-in-Some-clause-less c = λ le.
    M.less_stored c.args.peg.now c.args.window.now (Eval c.args.node c.args.position) c.in-Some.given
    c.args.self.now.frames c.args.self.now.begun c.requires.well

pub returns-in_ok-start_task-in-Gives-clause-less : goal.returns-in_ok-start_task-in-Gives-clause-less
returns-in_ok-start_task-in-Gives-clause-less c = λ le.
    c.in_ok-start_task-in-Gives.ensures.less c.args.peg.now c.args.window.now c.args.more c.requires.well
    c.in-Starts.ensures le

pub returns-in_ok-start_task-in-Marks-clause-less : goal.returns-in_ok-start_task-in-Marks-clause-less
returns-in_ok-start_task-in-Marks-clause-less c = λ le.
    c.in_ok-start_task-in-Marks.ensures.less c.args.peg.now c.args.window.now c.args.more c.requires.well
    c.in-Starts.ensures le

pub returns-in_ok-start_task-in-Leads-clause-less : goal.returns-in_ok-start_task-in-Leads-clause-less
returns-in_ok-start_task-in-Leads-clause-less c = λ le.
    c.in_ok-start_task-in-Leads.ensures.less c.args.peg.now c.args.window.now c.args.more c.requires.well
    c.in-Starts.ensures le

pub returns-in_ok-start_task-in-Passes-clause-less : goal.returns-in_ok-start_task-in-Passes-clause-less
returns-in_ok-start_task-in-Passes-clause-less c = λ le.
    c.in_ok-start_task-in-Passes.ensures.less c.args.peg.now c.args.window.now c.args.more c.requires.well
    c.in-Starts.ensures le

pub returns-in_ok-start_task-in-Enters-clause-less : goal.returns-in_ok-start_task-in-Enters-clause-less
returns-in_ok-start_task-in-Enters-clause-less c = λ le.
    c.in_ok-start_task-in-Enters.ensures.less c.args.peg.now c.args.window.now c.args.more c.requires.well
    c.in-Starts.ensures le

pub returns-in_ok-start_task-in-Gives-clause-stands : goal.returns-in_ok-start_task-in-Gives-clause-stands
returns-in_ok-start_task-in-Gives-clause-stands c = λ root s.
    let same = c.in_ok-given.ensures.same in
    let none = rw c.in-None.is at c.in_ok-given.ensures.none in
    c.in_ok-start_task-in-Gives.ensures.stands c.args.peg.now c.args.window.now c.args.more c.in-Starts.ensures root
    c.is_key_node-key.ensures
    (λ t i. none t (subst (λ v. IsIn (Eval c.args.node c.args.position) (tasks_of v.stored)) same i))
    (L.stands_as c.args.peg.now c.args.window.now c.args.more c.args.peg.now.keys refl refl (cc (sym same)) refl refl s)

pub returns-in_ok-start_task-in-Marks-clause-stands : goal.returns-in_ok-start_task-in-Marks-clause-stands
returns-in_ok-start_task-in-Marks-clause-stands c = λ root s.
    let same = c.in_ok-given.ensures.same in
    let none = rw c.in-None.is at c.in_ok-given.ensures.none in
    c.in_ok-start_task-in-Marks.ensures.stands c.args.peg.now c.args.window.now c.args.more c.in-Starts.ensures root
    c.is_key_node-key.ensures
    (λ t i. none t (subst (λ v. IsIn (Eval c.args.node c.args.position) (tasks_of v.stored)) same i))
    (L.stands_as c.args.peg.now c.args.window.now c.args.more c.args.peg.now.keys refl refl (cc (sym same)) refl refl s)

pub returns-in_ok-start_task-in-Leads-clause-stands : goal.returns-in_ok-start_task-in-Leads-clause-stands
returns-in_ok-start_task-in-Leads-clause-stands c = λ root s.
    let same = c.in_ok-given.ensures.same in
    let none = rw c.in-None.is at c.in_ok-given.ensures.none in
    c.in_ok-start_task-in-Leads.ensures.stands c.args.peg.now c.args.window.now c.args.more c.in-Starts.ensures root
    c.is_key_node-key.ensures
    (λ t i. none t (subst (λ v. IsIn (Eval c.args.node c.args.position) (tasks_of v.stored)) same i))
    (L.stands_as c.args.peg.now c.args.window.now c.args.more c.args.peg.now.keys refl refl (cc (sym same)) refl refl s)

pub returns-in_ok-start_task-in-Passes-clause-stands : goal.returns-in_ok-start_task-in-Passes-clause-stands
returns-in_ok-start_task-in-Passes-clause-stands c = λ root s.
    let same = c.in_ok-given.ensures.same in
    let none = rw c.in-None.is at c.in_ok-given.ensures.none in
    c.in_ok-start_task-in-Passes.ensures.stands c.args.peg.now c.args.window.now c.args.more c.in-Starts.ensures root
    c.is_key_node-key.ensures
    (λ t i. none t (subst (λ v. IsIn (Eval c.args.node c.args.position) (tasks_of v.stored)) same i))
    (L.stands_as c.args.peg.now c.args.window.now c.args.more c.args.peg.now.keys refl refl (cc (sym same)) refl refl s)

pub returns-in_ok-start_task-in-Enters-clause-stands : goal.returns-in_ok-start_task-in-Enters-clause-stands
returns-in_ok-start_task-in-Enters-clause-stands c = λ root s.
    let same = c.in_ok-given.ensures.same in
    let none = rw c.in-None.is at c.in_ok-given.ensures.none in
    c.in_ok-start_task-in-Enters.ensures.stands c.args.peg.now c.args.window.now c.args.more c.in-Starts.ensures root
    c.is_key_node-key.ensures
    (λ t i. none t (subst (λ v. IsIn (Eval c.args.node c.args.position) (tasks_of v.stored)) same i))
    (L.stands_as c.args.peg.now c.args.window.now c.args.more c.args.peg.now.keys refl refl (cc (sym same)) refl refl s)

pub returns-in_ok-end_known-in-Knows-clause-stands : goal.returns-in_ok-end_known-in-Knows-clause-stands
returns-in_ok-end_known-in-Knows-clause-stands c = λ root s.
    let same = c.in_ok-given.ensures.same in
    let none = rw c.in-None.is at c.in_ok-given.ensures.none in
    c.in_ok-end_known-in-Knows.ensures.stands c.args.peg.now c.args.window.now c.args.more c.requires.sound
    c.requires.keyed c.requires.some c.in-Knows.ensures root c.is_key_node-key.ensures
    (λ t i. none t (subst (λ v. IsIn (Eval c.args.node c.args.position) (tasks_of v.stored)) same i))
    (L.stands_as c.args.peg.now c.args.window.now c.args.more c.args.peg.now.keys refl refl (cc (sym same)) refl refl s)

pub returns-in_ok-end_known-in-Knows-clause-less : goal.returns-in_ok-end_known-in-Knows-clause-less
returns-in_ok-end_known-in-Knows-clause-less c = λ le.
    c.in_ok-end_known-in-Knows.ensures.less c.args.peg.now c.args.window.now c.args.more c.requires.sound
    c.requires.well c.in-Knows.ensures le

pub returns-in_ok-run_skips-in-Skips-clause-stands : goal.returns-in_ok-run_skips-in-Skips-clause-stands
returns-in_ok-run_skips-in-Skips-clause-stands c = λ root s.
    let same = c.in_ok-given.ensures.same in
    let none = rw c.in-None.is at c.in_ok-given.ensures.none in
    c.in_ok-run_skips-in-Skips.ensures.stands c.args.peg.now c.args.window.now c.args.more c.requires.sound
    c.requires.keyed c.requires.some c.in-Skips.ensures root c.is_key_node-key.ensures
    (λ t i. none t (subst (λ v. IsIn (Eval c.args.node c.args.position) (tasks_of v.stored)) same i))
    (L.stands_as c.args.peg.now c.args.window.now c.args.more c.args.peg.now.keys refl refl (cc (sym same)) refl refl s)

pub returns-in_ok-run_skips-in-Skips-clause-less : goal.returns-in_ok-run_skips-in-Skips-clause-less
returns-in_ok-run_skips-in-Skips-clause-less c = λ le.
    c.in_ok-run_skips-in-Skips.ensures.less c.args.peg.now c.args.window.now c.args.more c.requires.well
    c.in-Skips.ensures le

pub returns-in_ok-begin_plus-in-Takes-clause-stands : goal.returns-in_ok-begin_plus-in-Takes-clause-stands
returns-in_ok-begin_plus-in-Takes-clause-stands c = λ root s.
    let same = c.in_ok-given.ensures.same in
    let none = rw c.in-None.is at c.in_ok-given.ensures.none in
    let is = c.in-Takes.ensures.0 in
    c.in_ok-begin_plus-in-Takes.ensures.stands c.args.window.now c.args.more c.requires.some c.in-Takes.ensures.1 root
    (subst (λ v. c.is_key_node-key.result ≡ key_of c.args.peg.now.keys v) is c.is_key_node-key.ensures)
    (subst (λ v. c.is_key_node-key.result ≡ true → IsIn v (tasks_of c.stored_node.new.log.stored) → ⊥) is
    (λ t i. none t (subst (λ v. IsIn (Eval c.args.node c.args.position) (tasks_of v.stored)) same i)))
    (L.stands_as c.args.peg.now c.args.window.now c.args.more c.args.peg.now.keys (ap Ask is) refl (cc (sym same)) refl
    refl s)

pub returns-in_ok-begin_plus-in-Takes-clause-less : goal.returns-in_ok-begin_plus-in-Takes-clause-less
returns-in_ok-begin_plus-in-Takes-clause-less c = λ le.
    let is = c.in-Takes.ensures.0 in
    subst (λ v. left c.args.peg.now c.args.window.now (iteration_of c.in_ok-begin_plus-in-Takes.field-0)
    c.begin_plus.new.self.frames c.begin_plus.new.self.begun
    < left c.args.peg.now c.args.window.now (Ask v) c.args.self.now.frames c.args.self.now.begun) (sym is)
    (c.in_ok-begin_plus-in-Takes.ensures.less c.args.window.now c.args.more
    (subst (IsWell c.args.peg.now c.args.window.now) is c.requires.well) c.in-Takes.ensures.1 le)

pub returns-in-Need-clause-stands : goal.returns-in-Need-clause-stands
returns-in-Need-clause-stands c = λ root s.
    let same = c.in_ok-given.ensures.same in
    let none = rw c.in-None.is at c.in_ok-given.ensures.none in
    subst (λ v. NeedsMore c.args.peg.now c.args.window.now c.args.more c.args.peg.now.keys root
    c.stored_node.new.log.stored v) (sym c.counted-begun.ensures)
    (subst (λ v. NeedsMore c.args.peg.now c.args.window.now c.args.more c.args.peg.now.keys root v.stored
    (c.args.self.now.begun + weight (Eval c.args.node c.args.position))) (sym same)
    (L.stands_need c.args.peg.now c.args.window.now c.args.more c.args.peg.now.keys root
    (Eval c.args.node c.args.position) c.args.self.now.frames c.args.self.now.log.stored c.args.self.now.events
    c.args.self.now.begun s (λ t. none (c.is_key_node-key.ensures ∙ t)) c.in-Need.ensures))

pub begin_plus-requires-clause-operand : goal.begin_plus-requires-clause-operand
begin_plus-requires-clause-operand c =
    let t = c.in-Takes.taken in
    asked_row c.args.peg.now c.args.window.now t.operand t.position c.stored_node.new.log.rows
    (ap (λ v. v.rows) c.in_ok-given.ensures.same ∙ c.requires.rows) c.in-Takes.ensures.1.led.1

pub begin_plus-requires-clause-before : goal.begin_plus-requires-clause-before
begin_plus-requires-clause-before c =
    let b = c.in-Takes.ensures.1.by_byte in
    let within = slice_get_within c.args.window.now c.in-Takes.taken.position b.byte b.here in
    omega arith
