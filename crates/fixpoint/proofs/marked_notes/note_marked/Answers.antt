-- The rule at the id is marked, and noted, or not.
use Rattle.std.proofs.Common.{ap, map, arith}
use Rattle.std.proofs.lemmas.List.{length-map}
use Rattle.ruletable.specs.Rules.{names_of}
use Rattle.ruletable.specs.Notes.{said, said_of}
use Rattle.fixpoint.proofs.ChosenLemmas.{none-left, note-marked, note-unmarked}
use Rattle.fixpoint.proofs.marked_notes.note_marked.Goals.{then-marks-id+in_ok-name+in_ok-push, else-marks-id}
use Rattle.fixpoint.proofs.marked_notes.note_marked.Goals as goal

pub loop-id-preserved : goal.loop-id-preserved
loop-id-preserved g c = elim c.if-marks-id.branch [
  | then-marks-id+in_ok-name+in_ok-push w ↦ rw w.notes-is
      (note-marked (said c.args.kind) c.args.marks.now (names_of c.args.rules.now) c.loop-id.id w.name.result.now
      c.loop-id.notes.items w.push.new.self.items _ _
      c.loop-id-test.true w.name.ensures w.if-marks-id.true (w.in_ok-push.ensures).items
      (ap (said c.args.kind) (w.in_ok-name.ensures).items) c.loop-id.invariant)
  | else-marks-id w ↦ rw w.notes-is
      (note-unmarked (said c.args.kind) c.args.marks.now (names_of c.args.rules.now) c.loop-id.id
      (map said_of c.loop-id.notes.items) _
      c.loop-id-test.true (let lt = c.loop-id-test.true in let few = c.requires in let l =
      length-map c.args.rules.now.rules (λ rule. rule.name) in omega (arith, lt, few, l)) w.if-marks-id.false
      c.loop-id.invariant)
]

pub returns : goal.returns
returns g c = none-left (said c.args.kind) c.args.marks.now (names_of c.args.rules.now) c.loop-id.id
    (map said_of c.loop-id.notes.items) _ (let past = c.loop-id-test.false in omega (arith, past)) c.loop-id.invariant
