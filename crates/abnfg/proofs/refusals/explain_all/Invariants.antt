use Rattle.std.proofs.Common.{◌≡◌, take}
use Rattle.std.specs.Prelude.{IfSome}
use Rattle.abnfg.specs.ListRefusals.{AreRefusalsFrom}
use Rattle.abnfread.specs.AbnfViews.{rules_of}
use Rattle.rulelines.specs.MissLists.{item_lines}
use Rattle.abnfg.proofs.refusals.explain_all.Given as goal

abbrev pub invariant-loop-index : goal.invariant-loop-index
invariant-loop-index l = record {
  reported : AreRefusalsFrom l.unit l.explainer.letters (rules_of l.explainer.grammar.now.rules)
      l.explainer.grammar.now.judged 1 (item_lines (take l.index l.lines)) l.text.items;
  flat : IfSome l.automaton (λ a. a ≡ l.explainer.pruned.now.flat);
}
