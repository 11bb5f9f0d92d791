-- The line begins a message, and the lines that explain it are the first ones after it.
use Rattle.std.proofs.Common.{◌≡◌, ◌++◌, ◌∙◌, ap, sym, subst, map, take, true, List, ℕ}
use Rattle.std.proofs.lemmas.List.{take-map}
use Rattle.std.specs.Borrow.{Bor}
use Rattle.std.specs.Prelude.{OnOk}
use Rattle.findings.specs.ExplainingLines.{count_explaining}
use Rattle.findings.specs.MessageFindings.{begins_message, text_from_line, message_text}
use Rattle.findings.specs.NoteFindings.{GrammarAt, grammar_at}
use Rattle.findings.proofs.messages.push_if_message.Goals as goal

message_is_given : (g : GrammarAt) (line : List ℕ) (after : List (Bor (List ℕ))) (n : ℕ)
    → begins_message line ≡ true → n ≡ count_explaining (map (λ l. l.now) after)
    → message_text g line (map (λ l. l.now) (take n after)) ≡ text_from_line g line (map (λ l. l.now) after)
message_is_given g line after n begins counts = rw begins (
    ap (message_text g line) (sym (take-map (λ (l : Bor (List ℕ)). l.now) n after)
    ∙ ap (λ (k : ℕ). take k (map (λ (l : Bor (List ℕ)). l.now) after)) counts))

pub returns-then-begins_message : goal.returns-then-begins_message
returns-then-begins_message c =
    subst (λ (t : List ℕ). OnOk c.push_message.result (c.push_message.new.out.items ≡ c.args.out.now.items ++ t))
    (message_is_given (grammar_at c.args.grammar.now) c.args.line.now c.args.after.now c.explaining_count.result
    (sym c.begins_message.ensures ∙ c.if-begins_message.true) c.explaining_count.ensures.count) c.push_message.ensures
