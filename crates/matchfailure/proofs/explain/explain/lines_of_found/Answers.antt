use Rattle.std.proofs.Common.{◌+◌, ◌∙◌, ap, List, ℕ}
use Rattle.std.proofs.lemmas.Result.{IfOk-weaker}
use Rattle.pegnodes.specs.Nodes.{shapes_of}
use Rattle.pegread.specs.PegViews.{rules_of}
use Rattle.matchfailure.specs.NoMatchLines.{failure_lines}
use Rattle.matchfailure.specs.declared.explain.position.TextPosition.{TextPosition}
use Rattle.matchfailure.proofs.FoundLinesLemmas.{slice-from, reported-of-input}
use Rattle.matchfailure.proofs.explain.explain.lines_of_found.Goals as goal

pub returns-in-Some : goal.returns-in-Some
returns-in-Some c =
    IfOk-weaker c.lines_of_farthest.result _ _ (λ why found.
    let lines = λ (w : List ℕ) (p : TextPosition). failure_lines (rules_of c.args.peg.now.rules)
    (shapes_of c.args.peg.now.nodes) c.args.peg.now.bodies w p (c.args.at.byte + c.args.offset)
    c.in-Some.farthest.position found.0 in (
      found.0,
      rw c.in-Some.is found.1,
      λ front is. rw c.in-Some.is (found.2
          ∙ ap (λ (w : List ℕ). lines w c.after-position.result) (slice-from c.args.seen.now c.args.offset)
          ∙ reported-of-input lines front c.args.seen.now c.args.at c.after-position.result c.args.offset
          c.in-Some.farthest.position is
          (c.after-position.ensures front is)),
    )) c.lines_of_farthest.ensures
