-- The grammar of such rules is sound, and derives the same lines.
use Rattle.std.proofs.Common.{ℕ, subst, sym}
use Rattle.abnfread.specs.AbnfViews.{rules_of}
use Rattle.abnfcheck.specs.AbnfGrammar.{IsSound}
use Rattle.abnfrun.specs.FactoredChoices.{AreFactoredRules}
use Rattle.abnfrun.proofs.FactoredRulesLemmas.{factored_sound, lines_factored}
use Rattle.abnfrun.proofs.factored.factored_grammar.Goals as goal

pub new-requires : goal.new-requires
new-requires c =
    let rules = rules_of c.args.grammar.now.rules in
    let made = rules_of c.in_ok-rules.rules in
    let are : AreFactoredRules rules made = rw c.rules-2.ensures.rules at c.in_ok-rules.ensures.rules in
    record {
      folds = c.in_ok-rules.ensures.names;
      sound = subst (λ (j : ℕ). IsSound made j) (sym c.judged.ensures.id)
          (factored_sound rules made c.args.grammar.now.judged are c.judged.ensures.sound.sound);
    }

pub returns : goal.returns
returns c = λ has w.
    let rules = rules_of c.args.grammar.now.rules in
    let made = rules_of c.in_ok-rules.rules in
    let are : AreFactoredRules rules made = rw c.rules-2.ensures.rules at c.in_ok-rules.ensures.rules in
    rw (c.new.ensures.rules, c.new.ensures.judged, c.judged.ensures.id)
    (lines_factored has rules made are c.args.grammar.now.judged w)
