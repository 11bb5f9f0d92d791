use Rattle.std.proofs.Common.{◌≡◌, ◌++◌, map, drop}
use Rattle.findings.specs.Findings.{further_at}
use Rattle.findings.specs.NoteFindings.{all_further, grammar_at}
use Rattle.findings.proofs.notes.all_further.Given as goal

abbrev pub invariant-loop-line : goal.invariant-loop-line
invariant-loop-line l = map further_at l.found.items ++ all_further (grammar_at l.grammar) l.name l.first
    (map (λ x. x.now) (drop l.line-index l.more))
    ≡ all_further (grammar_at l.grammar) l.name l.first (map (λ x. x.now) l.more)
