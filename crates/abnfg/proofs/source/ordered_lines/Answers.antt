-- All lines, or those of first symbols, as settings ask.
use Rattle.std.proofs.Common.{◌↔◌, ℕ, List, IfOk, IfSome, Bool, true, false, sym, subst}
use Rattle.abnfg.specs.ListedLines.{end_of}
use Rattle.abnfg.specs.ListModes.{IsOrderedLine}
use Rattle.abnfg.specs.declared.lines.ListSettings.{ListSettings}
use Rattle.abnfread.specs.AbnfViews.{rules_of}
use Rattle.abnfread.specs.Element.{Rule}
use Rattle.rulelines.specs.LineSets.{IsLineIn, LineSet}
use Rattle.abnfg.proofs.source.ordered_lines.Goals as goal

-- the lines are those, if a line of the input ends with that number
abbrev AreOrdered : Bool → ListSettings → ℕ → List Rule → ℕ → LineSet → Type 0
AreOrdered alike s end rules id lines =
    (w : List ℕ) → IsLineIn lines w ↔ IsOrderedLine alike s.letters end s.limit rules id w

pub returns-then-settings : goal.returns-then-settings
returns-then-settings c =
    let s = c.args.settings.now in
    let rules = rules_of c.args.grammar.now.rules in
    let id = c.args.grammar.now.judged in
    subst (λ (b : Bool). IfOk c.of_samples.result (λ reported. IfSome reported
    (AreOrdered b s (end_of s.nul) rules id))) (sym c.if-settings.true)
    (subst (λ (e : ℕ). IfOk c.of_samples.result (λ reported. IfSome reported (AreOrdered true s e rules id)))
    c.end_byte-end.ensures c.of_samples.ensures)

pub returns : goal.returns
returns c =
    let s = c.args.settings.now in
    let rules = rules_of c.args.grammar.now.rules in
    let id = c.args.grammar.now.judged in
    subst (λ (b : Bool). IfOk c.derived_lines.result (λ reported. IfSome reported
    (AreOrdered b s (end_of s.nul) rules id))) (sym c.if-settings.false) c.derived_lines.ensures
