use Rattle.std.proofs.Common.{◌≡◌, ◌++◌, map, drop}
use Rattle.findings.specs.MessageFindings.{messages_text}
use Rattle.findings.specs.NoteFindings.{grammar_at}
use Rattle.findings.proofs.messages.push_messages.Given as goal

abbrev pub invariant-loop-line : goal.invariant-loop-line
invariant-loop-line l = record {
  index : l.index ≡ l.line-index;
  same : l.out.items ++ messages_text (grammar_at l.grammar) (map (λ x. x.now) (drop l.line-index l.lines))
      ≡ l.fn.out.items ++ messages_text (grammar_at l.grammar) (map (λ x. x.now) l.lines);
}
