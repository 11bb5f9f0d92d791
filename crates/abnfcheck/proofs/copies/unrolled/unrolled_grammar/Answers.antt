-- The grammar of such rules is sound.
use Rattle.std.proofs.Common.{◌≡◌, ◌∙◌, ap, List, ℕ, subst, sym}
use Rattle.abnfread.specs.AbnfViews.{rules_of}
use Rattle.abnfread.specs.Element.{Rule}
use Rattle.abnfcheck.specs.AbnfGrammar.{IsSound}
use Rattle.abnfcheck.specs.UnrolledRules.{unrolled_from}
use Rattle.abnfcheck.proofs.UnrolledRulesLemmas.{are_unrolled, length_unrolled, unrolled_sound}
use Rattle.abnfcheck.proofs.copies.unrolled.unrolled_grammar.Goals as goal

pub new-requires : goal.new-requires
new-requires c =
    let rules = rules_of c.args.grammar.now.rules in
    let is : rules_of c.in_ok-rules.rules ≡ unrolled_from rules 0 rules =
    rw c.rules.ensures.rules at c.in_ok-rules.ensures.rules in
    record {
      folds = c.in_ok-rules.ensures.names;
      sound = subst (λ (v : List Rule). IsSound v c.judged.result) (sym is)
          (subst (λ (j : ℕ). IsSound (unrolled_from rules 0 rules) j) (sym c.judged.ensures.id)
          (unrolled_sound rules (unrolled_from rules 0 rules) c.args.grammar.now.judged (are_unrolled rules)
          (length_unrolled rules 0 rules) c.judged.ensures.sound.sound));
    }
