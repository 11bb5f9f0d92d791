use Rattle.std.proofs.Common.{ℕ, refl, sym, subst}
use Rattle.pegnodes.specs.KeyLists.{node_marks}
use Rattle.memo.specs.KeyLog.{tasks_of}
use Rattle.packrat.specs.ByteGives.{AreFresh}
use Rattle.packrat.proofs.machine.Machine.iterations_at.Goals as goal

pub find_iterations-requires-clause-at : goal.find_iterations-requires-clause-at
find_iterations-requires-clause-at c = c.requires.is.0

pub returns-clause-free : goal.returns-clause-free
returns-clause-free c =
    let r = c.args.repeated in
    let t = c.in_ok-iterations.iterations in
    let e = c.in_ok-iterations.ensures in
    let stored = tasks_of c.args.self.now.log.stored in
    let marks = node_marks c.args.peg.now.keys in
    record {
      decided = e.0;
      task = cc (e.1, e.3);
      star = subst (λ v. (n : ℕ) → AreFresh (marks v) v t.from n stored) (sym e.1)
          (subst (λ v. (n : ℕ) → AreFresh (marks r.star) r.star v n stored) (sym e.3) (c.if-not-is_fresh.ensures refl));
      operand = subst (λ v. (n : ℕ) → AreFresh (marks v) v t.from n stored) (sym e.2)
          (subst (λ v. (n : ℕ) → AreFresh (marks r.operand) r.operand v n stored) (sym e.3)
          (c.if-not-is_fresh-2.ensures refl));
    }
